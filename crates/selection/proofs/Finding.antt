-- The choice by place is the selection of the table, and lookup's answer. Assumes nothing.
use mathlib.Core.Path.{◌≡◌, refl, sym, ap, ◌∙◌}
use mathlib.Core.List.{List}
use mathlib.Core.Bool.{true, false}
use Prim.Native.Nat.{ℕ, ◌<◌, min}
use native.Mathlib.Omega.{arith}
use lib.ListN.{get_or}
use Rattle.std.specs.Prelude.{Option, Some, None, Result, Ok, Err}
use Rattle.words.proofs.Logic.{cases}
use Rattle.words.specs.declared.Refusal.{Refusal}
use Rattle.table.specs.Table.{Entry, entries_at, entry_place}
use Rattle.table.specs.declared.Entries.{Entries}
use Rattle.table.specs.Answer.{Reads}
use Rattle.table.specs.Ready.{Ready}
use Rattle.table.proofs.Views.{ready_read, ready_few, read_refused}
use Rattle.choice.specs.Rule.{Choice, names, nothing, ambiguous, judge_at}
use Rattle.choice.specs.Status.{is_sure, is_live, sure_in, live_in, Stated}
use Rattle.choice.specs.declared.Status.{Status}
use Rattle.choice.specs.declared.Status.TheVariants.{Dead, Sure}
use Rattle.choice.specs.Judged.{entry_of}
use Rattle.choice.proofs.Judging.{judged_lt}
use Rattle.choice.proofs.Placed.{judge_stated, judge_placed}
use Rattle.selection.specs.Selection.{claims, select}
use Rattle.selection.specs.Lookup.{looked_up, looked_in, look_of, said_found, IfFound, Finds}
use Rattle.selection.specs.Places.{status_for, chosen_at, Chosen, FindsAmong}
use Rattle.selection.specs.declared.Found.{Found}

-- ---- the status of an entry for a word
module _ (w : ℕ) (e : Entry) where
  pub claim_sure : claims w e ≡ true → Sure ≡ status_for w e
  unfolding status_for
  claim_sure t = rw t

  pub claim_dead : claims w e ≡ false → Dead ≡ status_for w e
  unfolding status_for
  claim_dead t = rw t

  status_sure : is_sure (status_for w e) ≡ claims w e
  unfolding status_for
  status_sure = cases (claims w e) (λ t. rw t) (λ t. rw t)

  status_live : is_live (status_for w e) ≡ claims w e
  unfolding status_for
  status_live = cases (claims w e) (λ t. rw t) (λ t. rw t)

-- ---- what the judge says of the statuses of at most 256 entries
module _ (es : Entries) (w : ℕ) (s : List Status) (st : Stated (λ j. status_for w (entry_of es j)) (min es.count 256) s) where
  judged : (c : Choice) → c ≡ judge_at (entry_of es) (sure_in s) (live_in s) (min es.count 256) → c ≡ chosen_at es.words.now es.places (min es.count 256) w
  unfolding chosen_at
  judged c is =
      let n = min es.count 256 in
      let e : min n 256 ≡ n = omega arith in
      is ∙ rw e at (judge_stated (entry_of es) (status_for w) n s (omega arith) st (claims w) (claims w) (status_sure w) (status_live w))

  -- a chosen entry is one of them
  pub named_lt : (i : ℕ) → names i ≡ judge_at (entry_of es) (sure_in s) (live_in s) (min es.count 256) → i < min es.count 256
  unfolding chosen_at
  named_lt i is = judged_lt _ _ _ (min es.count 256) i (sym (judged (names i) is))

  pub chose_entry : (i : ℕ) → names i ≡ judge_at (entry_of es) (sure_in s) (live_in s) (min es.count 256) → Chosen es.words.now es.places (min es.count 256) w (Ok (Some (record { entry = i; place = get_or es.places i 0 })))
  chose_entry i is = record { answer = ap (looked_up w) (judged (names i) is); place = refl; bound = named_lt i is }

  pub chose_nothing : nothing ≡ judge_at (entry_of es) (sure_in s) (live_in s) (min es.count 256) → Chosen es.words.now es.places (min es.count 256) w (Ok None)
  chose_nothing is = record { answer = ap (looked_up w) (judged nothing is); place = tt; bound = tt }

  pub chose_ambiguous : ambiguous ≡ judge_at (entry_of es) (sure_in s) (live_in s) (min es.count 256) → Chosen es.words.now es.places (min es.count 256) w (Err (Refusal.Ambiguous w))
  chose_ambiguous is = record { answer = ap (looked_up w) (judged ambiguous is); place = tt; bound = tt }

-- the choice by place is the selection
pub chosen_is : (ws places : List ℕ) (width n : ℕ) → Ready ws places width n → (w : ℕ) → chosen_at ws places n w ≡ select (entries_at ws n 1) w
unfolding chosen_at select
chosen_is ws places width n ready w = judge_placed ws places width n ready (claims w) (claims w)

-- the place of the entry that is answered, if one is
pub place_found_lem :
    (ws places : List ℕ) (width n : ℕ) (ready : Ready ws places width n) (r : Result (Option Found) Refusal)
    → IfFound r (λ f. f.place ≡ get_or places f.entry 0) → IfFound r (λ f. f.entry < n) → IfFound r (λ f. f.place ≡ entry_place ws f.entry)
place_found_lem ws places width n ready (Ok (Some f)) p h = p ∙ ready.each f.entry h
place_found_lem ws places width n ready (Ok None) p h = tt
place_found_lem ws places width n ready (Err e) p h = tt

-- ---- the answer on a table that is read
module _ (ws places : List ℕ) (width n w : ℕ) (ready : Ready ws places width n) (r : Result (Option Found) Refusal)
    (f : FindsAmong ws places width (min n 256) w r) where
  abbrev all : FindsAmong ws places width n w r
  all = let few : min n 256 ≡ n = omega (arith, ready_few ws places width n ready) in rw few at f

  pub among_all : said_found r ≡ looked_in width w (select (entries_at ws n 1) w)
  among_all = all.answer ∙ ap (looked_in width w) (chosen_is ws places width n ready w)

  pub among_finds : Finds ws w r
  unfolding look_of
  among_finds =
      record {
        answer = rw (ready_read ws places width n ready) among_all;
        place = place_found_lem ws places width n ready r all.place all.bound;
      }

-- a table that is refused
pub refused_look : (ws : List ℕ) (w : ℕ) (r : Refusal) → Reads ws (Err r) → Finds ws w (Err r)
unfolding look_of
refused_look ws w r reads = record { answer = read_refused ws r reads (λ o. look_of o w) (λ n p. refl); place = tt }
