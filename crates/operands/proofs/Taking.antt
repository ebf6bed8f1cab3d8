-- Document 02, No. 8: "lookup, decoding and encoding still take the table". A table that reads is refused by them for their own causes
-- alone, whether its entries are selected by some word or not; so never with 19. When each is given says `Demand.antt`. Assumes nothing.
use Prim.Native.Nat.{ℕ, ◌^◌}
use mathlib.Core.Path.{◌≡◌, refl, sym, ◌∙◌}
use mathlib.Core.Bool.{true}
use mathlib.Core.List.{List, [], ◌∷◌}
use lib.Dec.{ltb}
use Rattle.words.specs.Tests.{◌or◌, is_in}
use Rattle.words.specs.Outcome.{Outcome, refused}
use Rattle.words.proofs.Logic.{cases}
use Rattle.words.proofs.Outcomes.{not_refused}
use Rattle.table.specs.Table.{table_of}
use Rattle.table.specs.Check.{fine, table_check, read_table}
use Rattle.choice.specs.Rule.{Choice, names, nothing, ambiguous}
use Rattle.selection.specs.Selection.{select}
use Rattle.selection.specs.Lookup.{look_of, looked_up}
use Rattle.operands.specs.Calls.{decode_of, encode_of}
use Rattle.operands.proofs.Inverse.{table_good}
use Rattle.operands.proofs.Exactly.{told_refused, three, four}

-- a refusal has one of these numbers
abbrev Own : {A : Type 0} → List ℕ → Outcome A → Type 0
Own ns o = (n p x : ℕ) → o ≡ refused n p x → is_in n ns ≡ true

own : {A : Type 0} (ns : List ℕ) (m : ℕ) {o : Outcome A} {q y : ℕ} → is_in m ns ≡ true → o ≡ refused m q y → Own ns o
own ns m h e n p x r = let z : m ≡ n = cc in rw z at h

own_looked : (w : ℕ) (c : Choice) → Own (7 ∷ 6 ∷ []) (looked_up w c)
unfolding is_in ◌or◌
own_looked w (names e) = λ n p x q. absurd (not_refused q)
own_looked w nothing = λ n p x q. absurd (not_refused q)
own_looked w ambiguous = own (7 ∷ 6 ∷ []) 6 refl refl

module _ (ws : List ℕ) (reads : table_check ws ≡ fine) where
  -- lookup with 7 and 6,
  pub lookup_takes : (w : ℕ) → Own (7 ∷ 6 ∷ []) (look_of (read_table ws) w)
  unfolding look_of is_in ◌or◌
  lookup_takes w =
      cases (ltb w (2 ^ (table_of ws).width))
      (λ h. rw (reads, h) (own_looked w (select (table_of ws).entries w)))
      (λ h. rw (reads, h) (own (7 ∷ 6 ∷ []) 7 refl refl))

  -- decoding with 10, 7 and 6,
  pub decode_takes : (w room : ℕ) → Own (10 ∷ 7 ∷ 6 ∷ []) (decode_of (read_table ws) w room)
  unfolding is_in ◌or◌
  decode_takes w room =
      rw reads (three (table_of ws) w room
      (λ h q. own (10 ∷ 7 ∷ 6 ∷ []) 10 refl q)
      (λ h k q. own (10 ∷ 7 ∷ 6 ∷ []) 7 refl q)
      (λ h k q n p x e. rw (told_refused (table_of ws).entries w _ n p x (sym q ∙ e)).1))

  -- and encoding with 11, 12 and 13
  pub encode_takes : (e : ℕ) (vs : List ℕ) → Own (11 ∷ 12 ∷ 13 ∷ []) (encode_of (read_table ws) e vs)
  unfolding is_in ◌or◌
  encode_takes e vs =
      rw reads (four (table_of ws) (table_good ws reads) e vs
      (λ n q. own (11 ∷ 12 ∷ 13 ∷ []) 11 refl q)
      (λ a k m q. own (11 ∷ 12 ∷ 13 ∷ []) 12 refl q)
      (λ a f n q. own (11 ∷ 12 ∷ 13 ∷ []) 13 refl q)
      (λ a f s q n p x r. absurd (not_refused (sym q ∙ r))))
