-- The rule: what more specific is, bit by bit; two entries do not beat each other; fewer that pass are judged the same; who is named, and what it depends on. Assumes nothing.
use Prim.Native.Nat.{ℕ, ◌<◌}
use native.Mathlib.Omega.{arith}
use mathlib.Core.Path.{◌≡◌, refl, sym, ap, ap₂, ◌∙◌}
use mathlib.Core.Bool.{Bool, true, false, not}
use mathlib.Core.List.{List}
use mathlib.Core.Logic.{◌↔◌}
use mathlib.Core.Option.{Option, none, some}
use lib.Bits.{and_comm}
use lib.Dec.{eqb}
use lib.ListN.{length}
use borrow.Author.Tests.{eqb-true, eqb-false, eq-eqb, ne_eqb}
use Rattle.words.specs.Tests.{◌and◌, ◌or◌, exists, first}
use Rattle.words.specs.Words.{bit, includes}
use Rattle.words.proofs.Bits.{includes_true, missing}
use Rattle.words.proofs.Masks.{lt_two_pow, includes_exactly, under_exactly}
use Rattle.table.specs.Table.{Entry, entry_number}
use Rattle.choice.specs.Rule.{Choice, names, nothing, ambiguous, selects, is_nothing, is_ambiguous, same_choice, choice_of, matches, more_specific, gives_way, beats_at, judge_at, beats, judge}
use Rattle.words.proofs.Logic.{cases, clash, is_false, and_l, and_r, and_i, or_il, or_ir, or_i, or_e, not_t, not_it, not_if, every_at, every_make, every_same, exists_none, exists_no, exists_same, first_some, first_no, first_only, first_same}

-- "e's opcode mask holds every bit of f's and at least one more, and the values agree on f's mask", bit by bit
pub record More (e f : Entry) : Type 0 where
  pub every : (i : ℕ) → bit f.opcode.mask i ≡ true → bit e.opcode.mask i ≡ true
  pub one_more : (i : ℕ) × (bit e.opcode.mask i ≡ true) × (bit f.opcode.mask i ≡ false)
  pub agree : (i : ℕ) → bit f.opcode.mask i ≡ true → bit e.opcode.value i ≡ bit f.opcode.value i

-- masks that include each other are the same
same_mask : (a b : ℕ) → includes a b ≡ true → includes b a ≡ true → a ≡ b
same_mask a b h k = sym (includes_true b a k) ∙ and_comm b a ∙ includes_true a b h

-- the test says so, of entries whose "value has no bit outside its mask"
pub more_exactly : (e f : Entry) → includes f.opcode.mask f.opcode.value ≡ true → (more_specific e f ≡ true) ↔ More e f
unfolding more_specific matches
more_exactly e f own = (
  λ h.
      let holds : includes e.opcode.mask f.opcode.mask ≡ true = and_l _ (and_l _ h) in
      let differ : eqb e.opcode.mask f.opcode.mask ≡ false = not_t (and_r _ (and_l _ h)) in
      let lacks : includes f.opcode.mask e.opcode.mask ≡ false = is_false (λ k. eqb-false _ _ differ (same_mask _ _ holds k)) in
      let (i, l, there, here) = missing e.opcode.mask f.opcode.mask e.opcode.mask (lt_two_pow e.opcode.mask) lacks in
      record {
        every = (includes_exactly e.opcode.mask f.opcode.mask).0 holds;
        one_more = (i, there, here);
        agree = (under_exactly e.opcode.value f.opcode.mask f.opcode.value own).0 (eqb-true _ _ (and_r _ h));
      },
  λ m.
      let (i, there, here) = m.one_more in
      and_i (and_i ((includes_exactly e.opcode.mask f.opcode.mask).1 m.every) (not_it (ne_eqb _ _ (λ q. clash there (ap (λ (x : ℕ). bit x i) q ∙ here)))))
      (eq-eqb _ _ ((under_exactly e.opcode.value f.opcode.mask f.opcode.value own).1 m.agree)),
)

-- two entries are not each more specific than the other
pub not_mutual : (e f : Entry) → more_specific e f ≡ true → more_specific f e ≡ true → ⊥
unfolding more_specific
not_mutual e f h k =
    let differ : eqb e.opcode.mask f.opcode.mask ≡ false = not_t (and_r _ (and_l _ h)) in
    eqb-false _ _ differ (same_mask _ _ (and_l _ (and_l _ h)) (and_l _ (and_l _ k)))

-- by cases on a choice
pub answers {ℓ} : {G : Type ℓ} (a : Choice) → ((i : ℕ) → a ≡ names i → G) → (a ≡ nothing → G) → (a ≡ ambiguous → G) → G
answers (names i) f g h = f i refl
answers nothing f g h = g refl
answers ambiguous f g h = h refl

-- a choice that is entry e
pub selects_names : (a : Choice) (e : ℕ) → selects a e ≡ true → a ≡ names e
unfolding selects
selects_names (names i) e h = ap names (eqb-true i e h)
selects_names nothing e h = cc
selects_names ambiguous e h = cc

pub names_selects : (a : Choice) (e : ℕ) → a ≡ names e → selects a e ≡ true
unfolding selects
names_selects a e q = rw q (eq-eqb e e refl)

-- two choices are the same exactly when the test says so
pub same_exactly : (a b : Choice) → (same_choice a b ≡ true) ↔ (a ≡ b)
unfolding same_choice selects is_nothing is_ambiguous
same_exactly (names i) b = (λ h. sym (selects_names b i h), λ e. names_selects b i (sym e))
same_exactly nothing (names j) = (λ h. cc, λ e. cc)
same_exactly nothing nothing = (λ h. refl, λ e. refl)
same_exactly nothing ambiguous = (λ h. cc, λ e. cc)
same_exactly ambiguous (names j) = (λ h. cc, λ e. cc)
same_exactly ambiguous nothing = (λ h. cc, λ e. cc)
same_exactly ambiguous ambiguous = (λ h. refl, λ e. refl)

-- what a choice tells of its two parts
pub choice_names : (o : Option ℕ) (b : Bool) (i : ℕ) → choice_of o b ≡ names i → o ≡ some i
choice_names (some j) b i e = cc
choice_names none true i e = cc
choice_names none false i e = cc

pub choice_nothing : (o : Option ℕ) (b : Bool) → choice_of o b ≡ nothing → b ≡ false
choice_nothing (some j) b e = cc
choice_nothing none true e = cc
choice_nothing none false e = refl

pub choice_ambiguous : (o : Option ℕ) (b : Bool) → choice_of o b ≡ ambiguous → (o ≡ none) × (b ≡ true)
choice_ambiguous (some j) b e = absurd (let z : ◌≡◌ {A = ℕ} 0 1 = cc in omega arith)
choice_ambiguous none true e = (refl, refl)
choice_ambiguous none false e = absurd (let z : ◌≡◌ {A = ℕ} 0 1 = cc in omega arith)

-- an entry that beats all others is more specific than another live one
pub over : (entry : ℕ → Entry) (live : ℕ → Bool) (n i j : ℕ) → beats_at entry live n i ≡ true → j < n → (j ≡ i → ⊥) → live j ≡ true
    → more_specific (entry i) (entry j) ≡ true
unfolding beats_at gives_way
over entry live n i j b h d l = or_e (every_at _ n b j h) (or_i (ne_eqb j i d) (not_if l))

-- and the other way: where it is so of every other live one, the entry beats them all
pub overs_beat : (entry : ℕ → Entry) (live : ℕ → Bool) (n i : ℕ)
    → ((j : ℕ) → j < n → (j ≡ i → ⊥) → live j ≡ true → more_specific (entry i) (entry j) ≡ true) → beats_at entry live n i ≡ true
unfolding beats_at gives_way
overs_beat entry live n i o =
    every_make _ n (λ j h. cases (eqb j i)
    (λ t. or_il _ (or_il _ t))
    (λ t. cases (live j) (λ l. or_ir _ (o j h (eqb-false j i t) l)) (λ l. or_il _ (or_ir _ (not_it l)))))

-- entries and tests that agree below n are judged the same
module _ (e f : ℕ → Entry) (s t l m : ℕ → Bool) (n : ℕ) (he : (j : ℕ) → j < n → e j ≡ f j) (hs : (j : ℕ) → j < n → s j ≡ t j) (hl : (j : ℕ) → j < n → l j ≡ m j) where
  beats_alike : (i : ℕ) → i < n → beats_at e l n i ≡ beats_at f m n i
  unfolding beats_at gives_way
  beats_alike i h = every_same _ _ n (λ j k. ap₂ (λ (b d : Bool). eqb j i or not b or d) (hl j k) (ap₂ more_specific (he i h) (he j k)))

  pub judge_alike : judge_at e s l n ≡ judge_at f t m n
  unfolding judge_at
  judge_alike = ap₂ choice_of (first_same _ _ n (λ i h. ap₂ ◌and◌ (hs i h) (beats_alike i h))) (exists_same _ _ n hl)

-- a named entry is one of n
pub judged_lt : (entry : ℕ → Entry) (sure live : ℕ → Bool) (n i : ℕ) → judge_at entry sure live n ≡ names i → i < n
unfolding judge_at
judged_lt entry sure live n i e = (first_some (λ i. sure i and beats_at entry live n i) n i (choice_names _ _ i e)).0

module _ (es : List Entry) where
  -- at most one of those that pass p is more specific than every other one that passes q, where all that pass p pass q
  pub wins_one : (p q : Entry → Bool) → ((e : Entry) → p e ≡ true → q e ≡ true) → (i j : ℕ) → i < length es → j < length es
      → p (entry_number es i) and beats es q i ≡ true → p (entry_number es j) and beats es q j ≡ true → j ≡ i
  wins_one p q pq i j hi hj s t =
      cases (eqb j i) (eqb-true j i)
      (λ n. let d = eqb-false j i n in
      absurd (not_mutual _ _
      (over (entry_number es) _ (length es) i j (and_r _ s) hj d (pq _ (and_l _ t)))
      (over (entry_number es) _ (length es) j i (and_r _ t) hi (λ e. d (sym e)) (pq _ (and_l _ s)))))

  module _ (p q r : Entry → Bool) (pr : (e : Entry) → p e ≡ true → r e ≡ true) (rq : (e : Entry) → r e ≡ true → q e ≡ true) where
    beats_fewer : (i : ℕ) → beats es q i ≡ true → beats es r i ≡ true
    beats_fewer i b = overs_beat (entry_number es) _ (length es) i (λ j h d k. over (entry_number es) _ (length es) i j b h d (rq (entry_number es j) k))

    pub judge_names : (i : ℕ) → judge es p q ≡ names i → judge es r r ≡ names i
    unfolding judge judge_at
    judge_names i e =
        let s = first_some (λ i. p (entry_number es i) and beats es q i) (length es) i (choice_names _ _ i e) in
        let t : r (entry_number es i) and beats es r i ≡ true = and_i (pr (entry_number es i) (and_l _ s.1)) (beats_fewer i (and_r _ s.1)) in
        rw (first_only (λ i. r (entry_number es i) and beats es r i) (length es) i s.0 t (λ j h k. wins_one r r (λ e l. l) i j s.0 h t k))

    pub judge_nothing : judge es p q ≡ nothing → judge es r r ≡ nothing
    unfolding judge judge_at
    judge_nothing e =
        let x : exists (λ i. q (entry_number es i)) (length es) ≡ false = choice_nothing (first (λ i. p (entry_number es i) and beats es q i) (length es)) _ e in
        let n : (i : ℕ) → i < length es → r (entry_number es i) ≡ false
        = λ i h. is_false (λ t. clash (rq (entry_number es i) t) (exists_none (λ i. q (entry_number es i)) (length es) x i h)) in
        let y : exists (λ i. r (entry_number es i)) (length es) ≡ false = exists_no (λ i. r (entry_number es i)) (length es) n in
        let z : first (λ i. r (entry_number es i) and beats es r i) (length es) ≡ none
        = first_no (λ i. r (entry_number es i) and beats es r i) (length es) (λ i h. is_false (λ t. clash (and_l _ t) (n i h))) in
        rw (z, y)

  -- a named entry is one of the table
  pub judge_lt : (p q : Entry → Bool) (i : ℕ) → judge es p q ≡ names i → i < length es
  unfolding judge
  judge_lt p q i e = judged_lt (entry_number es) _ _ (length es) i e

  pub judge_same : (p q r : Entry → Bool) → ((i : ℕ) → i < length es → p (entry_number es i) ≡ r (entry_number es i)) → ((i : ℕ) → i < length es → q (entry_number es i) ≡ r (entry_number es i))
      → judge es p q ≡ judge es r r
  unfolding judge
  judge_same p q r f g = judge_alike (entry_number es) (entry_number es) _ _ _ _ (length es) (λ j h. refl) f g
