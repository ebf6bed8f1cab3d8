-- What the code decides by places and statuses is, for a table without fault, the step of its entries in the cell. Assumes nothing.
use mathlib.Core.Path.{◌≡◌, refl, sym, ap, ap₂, ◌∙◌}
use mathlib.Core.List.{List}
use mathlib.Core.Bool.{Bool, true, false, cond}
use Prim.Native.Nat.{ℕ, zero, suc, ◌≤◌, ◌<◌, min}
use native.Mathlib.Omega.{arith}
use borrow.Author.Tests.{eq-eqb, ne_eqb}
use Rattle.words.specs.Tests.{all_of, ◌and◌, exists, best}
use Rattle.words.specs.Words.{bit}
use Rattle.words.proofs.Logic.{cases, exists_make, exists_no, exists_same, how_many_same}
use Rattle.table.specs.Lawful.{good_table}
use Rattle.table.specs.Ready.{Ready}
use Rattle.table.specs.Table.{Entry, entry_number, entries_at}
use Rattle.table.proofs.Laws.{length_entries}
use Rattle.table.proofs.Good.{good_entries}
use Rattle.table.proofs.Views.{ready_entries, ready_few, ready_wide}
use Rattle.choice.specs.Rule.{names, nothing, ambiguous, judge_at, judge}
use Rattle.choice.specs.Status.{is_sure, is_open, is_live, sure_in, open_in, live_in, Stated}
use Rattle.choice.specs.declared.Status.{Status}
use Rattle.choice.specs.declared.Status.TheVariants.{Dead, Open}
use Rattle.choice.specs.contracts.Status.{the_type}
use Rattle.choice.proofs.Statuses.{open_is}
use denote.Enum.Bare.{sameb}
use lib.ListN.{length, get_or, take}
use Rattle.std.specs.List.{IsAnyAnswer}
use Rattle.std.specs.Prelude.{Option, Some, None}
use Rattle.std.proofs.lemmas.List.{get_or-take, length-take-le}
use Rattle.choice.specs.Judged.{entry_placed, said_verdict}
use Rattle.choice.specs.declared.Verdict.{Verdict}
use Rattle.choice.proofs.Judging.{judge_alike, judged_lt}
use Rattle.choice.proofs.Placed.{judge_stated, entry_here, judge_placed}
use Rattle.cell.specs.Cell.{Cell, dead, live, sure, open_entry, implies, fails}
use Rattle.cell.specs.Decide.{status_of, Heaviest, in_some, unfixed_in}
use Rattle.cell.specs.Step.{end, split, in_open, votes_at, wanted_at, tested_at, settled_at, step_at, step}
use Rattle.cell.proofs.Cells.{split_right}

-- ---- the status of an entry
module _ (c : Cell) (e : Entry) where
  status_live : is_live (status_of c e) ≡ live c e
  unfolding status_of live
  status_live = cases (dead c e) (λ d. rw d) (λ d. rw d (cases (sure c e) (λ t. rw t) (λ t. rw t)))

  status_sure : is_sure (status_of c e) ≡ sure c e
  unfolding status_of sure live ◌and◌
  status_sure = cases (dead c e) (λ d. rw d) (λ d. rw d (cases (implies c e.opcode and all_of (fails c) e.conditions) (λ t. rw t) (λ t. rw t)))

  status_open : is_open (status_of c e) ≡ open_entry c e
  unfolding status_of open_entry sure live ◌and◌
  status_open = cases (dead c e) (λ d. rw d) (λ d. rw d (cases (implies c e.opcode and all_of (fails c) e.conditions) (λ t. rw t) (λ t. rw t)))

-- ---- weights that agree
best_agree : (v u : ℕ → ℕ) (n : ℕ) → ((i : ℕ) → v i ≡ u i) → best v n ≡ best u n
unfolding best
best_agree v u zero f = refl
best_agree v u (suc n) f = rw (best_agree v u n f, f (best u n), f n)

pub heaviest_agree : (v u : ℕ → ℕ) (width : ℕ) (r : Option ℕ) → ((i : ℕ) → v i ≡ u i) → Heaviest v width r → Heaviest u width r
heaviest_agree v u width (Some b) f h = (h.0 ∙ best_agree v u width f, rw (← f b) h.1)
heaviest_agree v u width None f h = sym (f (best u width)) ∙ ap v (sym (best_agree v u width f)) ∙ h

-- ---- the code's two choices: by votes, and by what is wanted
module _ (entry : ℕ → Entry) (isOpen : ℕ → Bool) (n width : ℕ) (c : Cell) where
  pub by_votes : (b : ℕ) → Heaviest (votes_at entry isOpen n c.fixed) width (Some b) → b ≡ tested_at entry isOpen n width c
  unfolding tested_at
  by_votes b h =
      let p : 0 < votes_at entry isOpen n c.fixed (best (votes_at entry isOpen n c.fixed) width) = rw (← h.0) h.1 in
      rw (ne_eqb (votes_at entry isOpen n c.fixed (best (votes_at entry isOpen n c.fixed) width)) 0 (λ z. omega arith)) h.0

  wanted_by : (m i : ℕ) → bit m i ≡ in_some entry isOpen n c i → unfixed_in m c.fixed i ≡ wanted_at entry isOpen n c i
  unfolding unfixed_in in_some wanted_at ◌and◌
  wanted_by m i e =
      rw e
      (cases (bit c.fixed i)
      (λ t. rw t (cases (exists (λ j. isOpen j and in_open c i (entry j)) n) (λ x. rw x) (λ x. rw x)))
      (λ t. rw t (cases (exists (λ j. isOpen j and in_open c i (entry j)) n) (λ x. rw x) (λ x. rw x))))

  pub by_wanted : (m d : ℕ) → Heaviest (votes_at entry isOpen n c.fixed) width None → ((i : ℕ) → bit m i ≡ in_some entry isOpen n c i)
      → d ≡ best (unfixed_in m c.fixed) width → d ≡ tested_at entry isOpen n width c
  unfolding tested_at
  by_wanted m d h f g =
      rw (eq-eqb (votes_at entry isOpen n c.fixed (best (votes_at entry isOpen n c.fixed) width)) 0 h)
      (g ∙ best_agree _ _ width (λ i. wanted_by m i (f i)))

-- ---- entries and tests that agree below n
module _ (e f : ℕ → Entry) (o p : ℕ → Bool) (n : ℕ) (c : Cell) (he : (j : ℕ) → j < n → e j ≡ f j) (ho : (j : ℕ) → j < n → o j ≡ p j) where
  votes_alike : (i : ℕ) → votes_at e o n c.fixed i ≡ votes_at f p n c.fixed i
  unfolding votes_at
  votes_alike i =
      ap (cond (bit c.fixed i) 0) (how_many_same _ _ n (λ j h. ap₂ (λ (b : Bool) (x : Entry). b and bit x.opcode.mask i) (ho j h) (he j h)))

  wanted_alike : (i : ℕ) → wanted_at e o n c i ≡ wanted_at f p n c i
  unfolding wanted_at
  wanted_alike i =
      ap (λ (b : Bool). cond (bit c.fixed i) 0 (cond b 1 0)) (exists_same _ _ n (λ j h. ap₂ (λ (b : Bool) (x : Entry). b and in_open c i x) (ho j h) (he j h)))

  tested_alike : (width : ℕ) → tested_at e o n width c ≡ tested_at f p n width c
  unfolding tested_at
  tested_alike width =
      let b : best (votes_at e o n c.fixed) width ≡ best (votes_at f p n c.fixed) width = best_agree _ _ width votes_alike in
      let d : best (wanted_at e o n c) width ≡ best (wanted_at f p n c) width = best_agree _ _ width wanted_alike in
      rw (b, d, votes_alike (best (votes_at f p n c.fixed) width))

module _ (e f : ℕ → Entry) (n : ℕ) (c : Cell) (he : (j : ℕ) → j < n → e j ≡ f j) where
  open_alike : (j : ℕ) → j < n → open_entry c (e j) ≡ open_entry c (f j)
  open_alike j h = ap (open_entry c) (he j h)

  step_alike : (width : ℕ) → step_at e n width c ≡ step_at f n width c
  unfolding step_at settled_at
  step_alike width =
      let a : settled_at e n c ≡ settled_at f n c = judge_alike e f _ _ _ _ n he (λ j h. ap (sure c) (he j h)) (λ j h. ap (live c) (he j h)) in
      rw (a, exists_same _ _ n open_alike, tested_alike e f _ _ n c he open_alike width)

-- ---- what the statuses settle, and whether one is open
module _ (entry : ℕ → Entry) (n : ℕ) (c : Cell) (s : List Status) (st : (j : ℕ) → j < n → get_or s j Dead ≡ status_of c (entry j)) where
  pub open_by : (j : ℕ) → j < n → open_in s j ≡ open_entry c (entry j)
  open_by j h = ap is_open (st j h) ∙ status_open c (entry j)

  -- as the code's `==` has it
  pub open_at : (j : ℕ) → j < n → sameb the_type (get_or s j Dead) Open ≡ open_entry c (entry j)
  open_at j h = open_is (get_or s j Dead) ∙ open_by j h

  pub settled : (m : ℕ) → n ≡ min m 256 → judge_at entry (sure_in s) (live_in s) (min m 256) ≡ settled_at entry n c
  unfolding settled_at Stated
  settled m h =
      let few : n ≤ 256 = omega arith in
      let e : min m 256 ≡ min n 256 = omega arith in
      rw e (judge_stated entry (status_of c) n s few st (sure c) (live c) (status_sure c) (status_live c))

  module _ (long : n ≤ length s) where
    at : (k : ℕ) → k < n → get_or (take n s) k Dead ≡ get_or s k Dead
    at k h = get_or-take n s k Dead h

    -- the library's search in the first n statuses
    pub some_open : (r : Bool) → IsAnyAnswer (λ x b. sameb the_type x Open ≡ b) (take n s) r → r ≡ exists (λ j. open_entry c (entry j)) n
    some_open true (k, l, f) =
        let h : k < n = omega (arith, length-take-le n s long) in
        sym (exists_make (λ j. open_entry c (entry j)) n k h (sym (ap is_open (at k h) ∙ open_by k h) ∙ sym (open_is _) ∙ f Dead))
    some_open false f =
        sym (exists_no (λ j. open_entry c (entry j)) n
        (λ j h. sym (ap is_open (at j h) ∙ open_by j h) ∙ sym (open_is _) ∙ f j Dead (omega arith) (omega (arith, length-take-le n s long))))

-- ---- the decision, by what is settled
module _ (entry : ℕ → Entry) (n : ℕ) (c : Cell) (width : ℕ) (v : Verdict) (is : said_verdict v ≡ settled_at entry n c) where
  pub decide_names : (i : ℕ) → v ≡ Verdict.Names i → (end (names i) ≡ step_at entry n width c) × (i < n)
  unfolding step_at settled_at
  decide_names i h =
      let t : settled_at entry n c ≡ names i = sym is ∙ ap said_verdict h in
      (rw t, judged_lt entry _ _ n i t)

  pub decide_nothing : v ≡ Verdict.Nothing → end nothing ≡ step_at entry n width c
  unfolding step_at
  decide_nothing h = let t : settled_at entry n c ≡ nothing = sym is ∙ ap said_verdict h in rw t

  pub decide_conflict : v ≡ Verdict.Stuck → exists (λ j. open_entry c (entry j)) n ≡ false → end ambiguous ≡ step_at entry n width c
  unfolding step_at
  decide_conflict h o = let t : settled_at entry n c ≡ ambiguous = sym is ∙ ap said_verdict h in rw (t, o)

  pub decide_test : (i : ℕ) → v ≡ Verdict.Stuck → exists (λ j. open_entry c (entry j)) n ≡ true
      → i ≡ tested_at entry (λ j. open_entry c (entry j)) n width c → split i ≡ step_at entry n width c
  unfolding step_at
  decide_test i h o q = let t : settled_at entry n c ≡ ambiguous = sym is ∙ ap said_verdict h in rw (t, o, q)

-- ---- what the two public calls say of a table without fault
module _ (ws places : List ℕ) (width n : ℕ) (ready : Ready ws places width n) where
  abbrev es : List Entry
  es = entries_at ws n 1

  pub ready_good : good_table width es ≡ true
  ready_good = good_entries ws width n 1 (ready_entries ws places width n ready)

  few : min n 256 ≡ n
  few = omega (arith, ready_few ws places width n ready)

  wide : min width 32 ≡ width
  wide = omega (arith, ready_wide ws places width n ready)

  module _ (c : Cell) where
    pub settled_ready : settled_at (entry_placed ws places) (min n 256) c ≡ judge es (sure c) (live c)
    unfolding settled_at
    settled_ready = rw few (judge_placed ws places width n ready (sure c) (live c))

    step_is : step_at (entry_placed ws places) n width c ≡ step es width c
    unfolding step
    step_is = rw (length_entries ws n 1) (step_alike (entry_placed ws places) (entry_number es) n c (entry_here ws places width n ready) width)

    pub step_ready : step_at (entry_placed ws places) (min n 256) (min width 32) c ≡ step es width c
    step_ready = rw (few, wide) step_is

    -- a tested bit is below the width and unfixed
    pub test_ready : (i : ℕ) → step_at (entry_placed ws places) (min n 256) (min width 32) c ≡ split i → (i < width) × (bit c.fixed i ≡ false)
    test_ready i e = split_right _ width ready_good c i (sym step_ready ∙ e)
