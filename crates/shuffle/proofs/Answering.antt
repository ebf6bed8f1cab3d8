-- Looking up, decoding and encoding in two tables, the entries of the one in the other's order. Assumes nothing.
use Prim.Native.Nat.{ℕ, ◌^◌, ◌<◌}
use mathlib.Core.Path.{◌≡◌, refl, ap}
use mathlib.Core.Bool.{Bool, true, false, cond}
use mathlib.Core.List.{List}
use mathlib.Core.Option.{Option, none, some}
use lib.Dec.{leb, ltb}
use lib.ListN.{length}
use borrow.Author.Tests.{lt-ltb}
use Rattle.words.specs.Outcome.{Outcome, result, faulty, refused}
use Rattle.table.specs.Table.{Table, entry_number}
use Rattle.choice.specs.Rule.{Choice, names, nothing, ambiguous, moved_choice}
use Rattle.selection.specs.Selection.{select}
use Rattle.selection.specs.Lookup.{looked_up, look_of}
use Rattle.selection.proofs.Formula.{names_exactly}
use Rattle.operands.specs.Fields.{misfit}
use Rattle.operands.specs.Calls.{Decoded, entry_values, none_selected, decoded_as, decode_of, buffer_after, encoded_as, encoded_from, encode_of}
use Rattle.shuffle.specs.Shuffled.{Shuffled}
use Rattle.shuffle.specs.Moved.{moved_answer, moved_decoded}
use Rattle.shuffle.proofs.Shuffling.{select_shuffled, selects_shuffled}

module _ (t u : Table) (wide : u.width ≡ t.width) (s : Shuffled t.entries u.entries) (w : ℕ) where
  pub look_shuffled : look_of (result u) w ≡ moved_answer s.to (look_of (result t) w)
  unfolding look_of
  look_shuffled = rw (wide, select_shuffled t.entries u.entries s w) (looked (ltb w (2 ^ t.width)) (select t.entries w))
    where
      looked : (b : Bool) (a : Choice)
          → cond b (looked_up w (moved_choice s.to a)) (refused 7 0 0) ≡ moved_answer s.to (cond b (looked_up w a) (refused 7 0 0))
      looked true (names e) = refl
      looked true nothing = refl
      looked true ambiguous = refl
      looked false a = refl

  pub decode_shuffled : (room : ℕ) → decode_of (result u) w room ≡ moved_decoded s.to (decode_of (result t) w room)
  unfolding decode_of decoded_as
  decode_shuffled room =
      rw (wide, select_shuffled t.entries u.entries s w)
      (decoded (leb 8 room) (ltb w (2 ^ t.width)) (select t.entries w) (λ e q. ((names_exactly t.entries w e).0 q).entry))
    where
      decoded : (b c : Bool) (a : Choice) → ((e : ℕ) → a ≡ names e → e < length t.entries)
          → cond b (cond c (decoded_as u.entries w (moved_choice s.to a)) (refused 7 0 0)) (refused 10 0 0)
          ≡ moved_decoded s.to (cond b (cond c (decoded_as t.entries w a) (refused 7 0 0)) (refused 10 0 0))
      decoded true true (names e) h = rw (s.each e (h e refl))
      decoded true true nothing h = refl
      decoded true true ambiguous h = refl
      decoded true false a h = refl
      decoded false c a h = refl

-- the field buffer does not depend on the entry's number
pub buffer_moved : (to : ℕ → ℕ) (r : Outcome Decoded) (out : List ℕ) → buffer_after (moved_decoded to r) out ≡ buffer_after r out
unfolding buffer_after
buffer_moved to (result (entry_values e vs)) out = refl
buffer_moved to (result none_selected) out = refl
buffer_moved to (faulty n p) out = refl
buffer_moved to (refused n p w) out = refl

module _ (t u : Table) (s : Shuffled t.entries u.entries) (e : ℕ) (h : e < length t.entries) where
  made : (w : ℕ) → encoded_as u.entries (s.to e) w ≡ encoded_as t.entries e w
  unfolding encoded_as
  made w = ap (λ (b : Bool). cond b (result w) (refused 13 0 w)) (selects_shuffled t.entries u.entries s w e h)

  encoded : (vs : List ℕ) (o : Option ℕ) → encoded_from u.entries (s.to e) vs o ≡ encoded_from t.entries e vs o
  unfolding encoded_from
  encoded vs (some i) = refl
  encoded vs none = rw (s.each e h) (made _)

  pub encode_shuffled : (vs : List ℕ) → encode_of (result u) (s.to e) vs ≡ encode_of (result t) e vs
  unfolding encode_of
  encode_shuffled vs = rw (lt-ltb _ _ h, lt-ltb _ _ (s.to_inside e h), s.each e h, encoded vs (misfit 0 (entry_number t.entries e).fields vs))
