-- The code's search: who leads, and what that settles. Assumes nothing.
use mathlib.Core.Path.{◌≡◌, refl, ap}
use mathlib.Core.List.{List}
use mathlib.Core.Bool.{Bool, true, false}
use Prim.Native.Nat.{ℕ, ◌+◌, ◌≤◌, ◌<◌, min}
use native.Mathlib.Omega.{arith}
use lib.ListN.{length, get_or, take}
use Rattle.std.proofs.lemmas.List.{get_or-take, length-take-le}
use borrow.Author.Count.{below_more}
use Rattle.words.specs.Tests.{◌and◌}
use Rattle.words.proofs.Logic.{clash, is_false, and_l, and_r, and_i, exists_make, exists_no, every_at, every_make, first_only, first_no}
use Rattle.table.specs.Table.{Entry}
use Rattle.choice.specs.Rule.{names, nothing, ambiguous, more_specific, gives_way, beats_at, judge_at}
use Rattle.choice.specs.Status.{is_sure, is_live, sure_in, live_in}
use Rattle.choice.specs.declared.Status.{Status}
use Rattle.choice.specs.declared.Status.TheVariants.{Dead, Sure, Open}
use Rattle.std.specs.Prelude.{Some, None, IsTrue}
use Rattle.choice.specs.Judged.{FirstLive, Leads}
use Rattle.choice.proofs.Judging.{not_mutual, over, judge_alike}

-- ---- the leader
module _ (entry : ℕ → Entry) (live : ℕ → Bool) (n : ℕ) where
  -- what holds of the leader among the first k: it is one of them, is live, and no other live one of them beats all others
  pub record Ahead (k r : ℕ) : Type 0 where
    pub below : r < k
    pub here : live r ≡ true
    pub only : (j : ℕ) → j < k → live j ≡ true → beats_at entry live n j ≡ true → j ≡ r

  pub ahead_start : (s : ℕ) → FirstLive live n (Some s) → Ahead (s + 1) s
  ahead_start s f =
      record {
        below = omega arith;
        here = f.1;
        only = below_more (λ (j : ℕ). live j ≡ true → beats_at entry live n j ≡ true → j ≡ s) s (λ j l t b. clash t (f.2 j l)) (λ t b. refl);
      }

  module _ (k r : ℕ) (h : k < n) (a : Ahead k r) where
    -- entry k is not live
    pub ahead_out : live k ≡ false → Ahead (k + 1) r
    ahead_out f =
        record {
          below = let b = a.below in omega arith;
          here = a.here;
          only = below_more (λ (j : ℕ). live j ≡ true → beats_at entry live n j ≡ true → j ≡ r) k a.only (λ t b. clash t f);
        }

    -- entry k is not more specific than the leader
    pub ahead_stays : more_specific (entry k) (entry r) ≡ false → Ahead (k + 1) r
    ahead_stays f =
        record {
          below = let b = a.below in omega arith;
          here = a.here;
          only =
              below_more (λ (j : ℕ). live j ≡ true → beats_at entry live n j ≡ true → j ≡ r) k a.only
              (λ t b. let c = a.below in clash (over entry live n k r b (omega arith) (λ e. omega arith) a.here) f);
        }

    -- entry k is: it leads, for one before it that beats all others would be the old leader, and more specific than k
    pub ahead_taken : live k ≡ true → more_specific (entry k) (entry r) ≡ true → Ahead (k + 1) k
    ahead_taken l m =
        record {
          below = omega arith;
          here = l;
          only =
              below_more (λ (j : ℕ). live j ≡ true → beats_at entry live n j ≡ true → j ≡ k) k
              (λ j c t b. let q : j ≡ r = a.only j c t b in absurd (not_mutual _ _ m (rw q at (over entry live n j k b h (λ e. omega arith) l))))
              (λ t b. refl);
        }

  pub ahead_leads : (k r : ℕ) → n ≤ k → k ≤ n → Ahead k r → Leads entry live n r
  ahead_leads k r h g a =
      let b = a.below in
      record { bound = omega arith; here = a.here; only = λ j l t w. a.only j (omega arith) t w }

-- the statuses of those that are judged, alone
pub judge_front : (entry : ℕ → Entry) (s : List Status) (n m : ℕ) → length s ≡ 256 → n ≡ min m 256
    → judge_at entry (sure_in (take n s)) (live_in (take n s)) (length (take n s)) ≡ judge_at entry (sure_in s) (live_in s) (min m 256)
judge_front entry s n m l h =
    rw (length-take-le n s (omega arith), ← h)
    (judge_alike entry entry _ _ _ _ n (λ j k. refl)
    (λ j k. ap is_sure (get_or-take n s j Dead k)) (λ j k. ap is_live (get_or-take n s j Dead k)))

-- ---- what an array of statuses settles
live_sure : (x : Status) → is_sure x ≡ true → is_live x ≡ true
live_sure Dead h = h
live_sure Sure h = h
live_sure Open h = refl

module _ (entry : ℕ → Entry) (s : List Status) (n : ℕ) where
  abbrev sure : ℕ → Bool
  sure = sure_in s

  abbrev live : ℕ → Bool
  live = live_in s

  within : (j : ℕ) → sure j ≡ true → live j ≡ true
  within j h = live_sure (get_or s j Dead) h

  pub none_live : FirstLive live n None → nothing ≡ judge_at entry sure live n
  unfolding judge_at
  none_live out = rw (first_no _ n (λ j l. is_false (λ w. clash (within j (and_l _ w)) (out j l))), exists_no _ n out)

  module _ (r : ℕ) (l : Leads entry live n r) where
    pub leader_wins : sure r ≡ true → ((j : ℕ) → j < n → IsTrue (gives_way entry live r j)) → names r ≡ judge_at entry sure live n
    unfolding judge_at beats_at
    leader_wins t b = rw (first_only _ n r l.bound (and_i t (every_make _ n b)) (λ j h w. l.only j h (within j (and_l _ w)) (and_r _ w)))

    leader_fails : (sure r and beats_at entry live n r ≡ true → ⊥) → ambiguous ≡ judge_at entry sure live n
    unfolding judge_at
    leader_fails f =
        let out : (j : ℕ) → j < n → sure j and beats_at entry live n j ≡ true → ⊥
        = λ j h w. let e : j ≡ r = l.only j h (within j (and_l _ w)) (and_r _ w) in f (rw e at w) in
        rw (first_no _ n (λ j h. is_false (out j h)), exists_make live n r l.bound l.here)

    pub leader_open : sure r ≡ false → ambiguous ≡ judge_at entry sure live n
    leader_open t = leader_fails (λ w. clash (and_l _ w) t)

    pub leader_beaten : (((j : ℕ) → j < n → IsTrue (gives_way entry live r j)) → ⊥) → ambiguous ≡ judge_at entry sure live n
    unfolding beats_at
    leader_beaten b = leader_fails (λ w. b (every_at _ n (and_r _ w)))
