-- Numbers and texts that are known, computed from the definitions. Assumes nothing.
use mathlib.Core.Path.{◌≡◌, refl}
use mathlib.Core.List.{[], ◌∷◌}
use lib.IntN.{pos, negsuc}
use Rattle.words.specs.Tests.{◌and◌, ◌or◌}
use Rattle.words.specs.Words.{part}
use Rattle.words.specs.Outcome.{result, faulty, refused}
use Rattle.table.specs.Check.{◌then◌, need, spare_clear, form_fits, field_word}
use Rattle.text.specs.Digits.{digit_of, digits_of, decimal_text}
use Rattle.numbers.specs.Word.{word_check}
use Rattle.numbers.specs.Whole.{is_below, number_of, size_bits, in_range, value_of}
use Rattle.numbers.specs.Decimals.{divided, sign_text, point_text, fraction_text, number_text}
use Rattle.numbers.specs.Calls.{answer_of, signed_of, stored_of, text_of, length_of, buffer_after}

-- "Eight bits with four fraction bits: 0xF8 is -0.5000"; the lowest bit, here 255, is not judged
eight_bits : text_of 0x3204ff08 0xf8 ≡ result (45 ∷ 48 ∷ 46 ∷ 53 ∷ 48 ∷ 48 ∷ 48 ∷ [])
unfolding part ◌and◌ ◌or◌ ◌then◌ need spare_clear form_fits field_word word_check is_below number_of digit_of digits_of decimal_text divided sign_text point_text fraction_text number_text answer_of text_of
eight_bits = refl

-- it is minus eight steps, and minus eight steps are it
eight_steps : signed_of 0x32040008 0xf8 ≡ result (negsuc 7)
unfolding part ◌and◌ ◌or◌ ◌then◌ need spare_clear form_fits field_word word_check is_below number_of answer_of signed_of
eight_steps = refl

steps_eight : stored_of 0x32040008 (negsuc 7) ≡ result 0xf8
unfolding part ◌and◌ ◌or◌ ◌then◌ need spare_clear form_fits field_word word_check size_bits in_range value_of answer_of stored_of
steps_eight = refl

-- a bit with a sign is 0 or -1
one_bit : signed_of 0x31000001 1 ≡ result (negsuc 0)
unfolding part ◌and◌ ◌or◌ ◌then◌ need spare_clear form_fits field_word word_check is_below number_of answer_of signed_of
one_bit = refl

one_out : stored_of 0x31000001 (pos 1) ≡ refused 12 0 0
unfolding part ◌and◌ ◌or◌ ◌then◌ need spare_clear form_fits field_word word_check size_bits in_range value_of answer_of stored_of
one_out = refl

-- 32 bits without a sign
largest : signed_of 0x30000020 0xffffffff ≡ result (pos 4294967295)
unfolding part ◌and◌ ◌or◌ ◌then◌ need spare_clear form_fits field_word word_check is_below number_of answer_of signed_of
largest = refl

-- faults: kind 4; a spare bit of form 3, which is 2 and not 4; no width; form 3; 17 fraction bits
faults : (signed_of 0x40000008 0 ≡ faulty 2 0) × (signed_of 0x33010008 0 ≡ faulty 2 0) × (signed_of 0x30000000 0 ≡ faulty 4 0) × (signed_of 0x33000008 0 ≡ faulty 4 0) × (signed_of 0x32110020 0 ≡ faulty 4 0)
unfolding part ◌and◌ ◌or◌ ◌then◌ need spare_clear form_fits field_word word_check is_below number_of answer_of signed_of
faults = (refl, refl, refl, refl, refl)

-- in a buffer of six bytes the text has no room
short : length_of (text_of 0x32040008 0xf8) 6 ≡ refused 18 0 0
unfolding part ◌and◌ ◌or◌ ◌then◌ need spare_clear form_fits field_word word_check is_below number_of digit_of digits_of decimal_text divided sign_text point_text fraction_text number_text answer_of text_of length_of
short = refl

-- and in one of eight the last byte stays
last_stays : buffer_after (text_of 0x32040008 0xf8) (1 ∷ 2 ∷ 3 ∷ 4 ∷ 5 ∷ 6 ∷ 7 ∷ 8 ∷ []) ≡ 45 ∷ 48 ∷ 46 ∷ 53 ∷ 48 ∷ 48 ∷ 48 ∷ 8 ∷ []
unfolding part ◌and◌ ◌or◌ ◌then◌ need spare_clear form_fits field_word word_check is_below number_of digit_of digits_of decimal_text divided sign_text point_text fraction_text number_text answer_of text_of buffer_after
last_stays = refl
