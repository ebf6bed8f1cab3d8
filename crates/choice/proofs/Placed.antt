-- What an array of statuses is judged as, and what the judgement by places is for a table without fault. Assumes nothing.
use mathlib.Core.Path.{◌≡◌, refl, sym, ap, ◌∙◌}
use mathlib.Core.List.{List}
use mathlib.Core.Bool.{Bool}
use Prim.Native.Nat.{ℕ, ◌≤◌, ◌<◌, min}
use native.Mathlib.Omega.{arith}
use Rattle.table.specs.Table.{Entry, entry_number, entries_at}
use Rattle.table.specs.Ready.{Ready}
use Rattle.table.proofs.Laws.{length_entries}
use Rattle.table.proofs.Views.{ready_at}
use Rattle.choice.specs.Rule.{judge_at, judge}
use Rattle.choice.specs.Status.{Stated, is_sure, is_live, sure_in, live_in}
use Rattle.choice.specs.declared.Status.{Status}
use Rattle.choice.specs.Judged.{entry_placed}
use Rattle.choice.proofs.Judging.{judge_alike}

-- an array of statuses, which the judge takes to have at most 256; p and q say what it is to be sure and live
pub judge_stated : (entry : ℕ → Entry) (status : Entry → Status) (n : ℕ) (s : List Status) → n ≤ 256 → Stated (λ j. status (entry j)) n s → (p q : Entry → Bool)
    → ((e : Entry) → is_sure (status e) ≡ p e) → ((e : Entry) → is_live (status e) ≡ q e)
    → judge_at entry (sure_in s) (live_in s) (min n 256) ≡ judge_at entry (λ j. p (entry j)) (λ j. q (entry j)) n
unfolding Stated
judge_stated entry status n s few st p q f g =
    let e : min n 256 ≡ n = omega arith in
    rw e
    (judge_alike entry entry _ _ _ _ n (λ j h. refl)
    (λ j h. ap is_sure (st j h) ∙ f (entry j)) (λ j h. ap is_live (st j h) ∙ g (entry j)))

module _ (ws places : List ℕ) (width n : ℕ) (ready : Ready ws places width n) where
  pub entry_here : (j : ℕ) → j < n → entry_placed ws places j ≡ entry_number (entries_at ws n 1) j
  entry_here j h = sym (ready_at ws places width n ready j h _)

  pub judge_placed : (p q : Entry → Bool)
      → judge_at (entry_placed ws places) (λ j. p (entry_placed ws places j)) (λ j. q (entry_placed ws places j)) n ≡ judge (entries_at ws n 1) p q
  unfolding judge
  judge_placed p q =
      rw (length_entries ws n 1)
      (judge_alike (entry_placed ws places) (entry_number (entries_at ws n 1)) _ _ _ _ n entry_here (λ j h. ap p (entry_here j h)) (λ j h. ap q (entry_here j h)))
