-- The number that decoding answers beside an entry is the number of the entry's fields, at most 8. Assumes nothing.
use mathlib.Core.Path.{◌≡◌, refl, sym, ap, ◌∙◌}
use mathlib.Core.List.{List, [], ◌∷◌}
use Prim.Native.Nat.{ℕ, zero, suc, ◌≤◌}
use native.Mathlib.Omega.{arith}
use lib.ListN.{length}
use Rattle.std.specs.Prelude.{Option, Some, Result, Ok}
use Rattle.words.specs.declared.Refusal.{Refusal}
use Rattle.words.specs.Words.{word}
use Rattle.table.specs.Table.{Entry, entry_number, entry_place, table_of, fields_of, count_of}
use Rattle.table.proofs.Laws.{length_entries, length_fields}
use Rattle.operands.specs.Answers.{first_words, Decodes}
use Rattle.operands.specs.declared.Decoded as Answered
use Rattle.operands.proofs.Inverse.{decode_reads, decoded, selected_lt, length_values}
use Rattle.operands.proofs.Answering.{stands}

pub length_firsts : (n : ℕ) (out : List ℕ) → length (first_words n out) ≡ n
unfolding first_words
length_firsts zero out = refl
length_firsts (suc n) [] = ap suc (length_firsts n [])
length_firsts (suc n) (x ∷ out) = ap suc (length_firsts n out)

module _ (ws : List ℕ) (w : ℕ) (before after : List ℕ) (e n : ℕ) (d : Decodes ws w before after (Ok (Some (record { entry = e; count = n })))) where
  pub decode_count : n ≡ length (entry_number (table_of ws).entries e).fields
  decode_count =
      let r = decode_reads ws w (length before) _ (sym d.answer) in
      let x = decoded (table_of ws) w (length before) e (first_words n after) (rw r at (sym d.answer)) in
      sym (length_firsts n after) ∙ ap length (sym x.3) ∙ length_values (entry_number (table_of ws).entries e).fields w

  pub decode_few : n ≤ 8
  decode_few =
      let r = decode_reads ws w (length before) _ (sym d.answer) in
      let x = decoded (table_of ws) w (length before) e (first_words n after) (rw r at (sym d.answer)) in
      let s = stands ws e (entry_place ws e) r (omega (arith, selected_lt (table_of ws).entries w e x.2, length_entries ws (count_of (word ws 0)) 1)) refl in
      let k : n ≡ fields_of (word ws (entry_place ws e))
      = decode_count ∙ ap (λ (z : Entry). length z.fields) s.is ∙ length_fields ws (fields_of (word ws (entry_place ws e))) _ in
      omega (arith, s.few)

-- the same of an answer that is an entry
pub answered_few : (ws : List ℕ) (w : ℕ) (before after : List ℕ) (r : Result (Option Answered.Decoded) Refusal) (d : Answered.Decoded) → r ≡ Ok (Some d)
    → Decodes ws w before after r → d.count ≤ 8
answered_few ws w before after r d k h = decode_few ws w before after d.entry d.count (rw k at h)
