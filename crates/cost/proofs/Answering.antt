-- What is answered, by what the reader tells the code. Assumes nothing.
use mathlib.Core.Path.{◌≡◌, refl}
use mathlib.Core.List.{List}
use Prim.Native.Nat.{ℕ, ◌≤◌, ◌<◌}
use lib.ListN.{get_or}
use borrow.Author.Tests.{lt-ltb, le-ltb}
use Rattle.std.specs.Prelude.{Ok, Err}
use Rattle.words.specs.Outcome.{Outcome, result, refused, refused_as}
use Rattle.words.specs.declared.Refusal.{Refusal}
use Rattle.table.specs.Table.{Table, cycles_at}
use Rattle.table.specs.Check.{read_table}
use Rattle.table.specs.Answer.{Reads}
use Rattle.table.specs.Ready.{Ready}
use Rattle.table.specs.declared.Table as Held
use Rattle.table.proofs.Laws.{length_entries}
use Rattle.table.proofs.Views.{ready_read, ready_at, read_refused}
use Rattle.cost.specs.Cost.{cycles_of}

pub cycles_refused : (ws : List ℕ) (e : ℕ) (r : Refusal) → Reads ws (Err r) → refused_as r ≡ cycles_of (read_table ws) e
unfolding cycles_of
cycles_refused ws e r reads = read_refused ws r reads (λ (o : Outcome Table). cycles_of o e) (λ n p. refl)

module _ (ws : List ℕ) (t : Held.Table) (reads : Reads ws (Ok t)) (e : ℕ) where
  ready : Ready ws t.entries.places t.width t.entries.count
  ready = rw reads.words at t.ready

  pub cycles_none : t.entries.count ≤ e → refused 11 0 0 ≡ cycles_of (read_table ws) e
  unfolding cycles_of
  cycles_none h = rw (ready_read ws t.entries.places t.width t.entries.count ready, length_entries ws t.entries.count 1, le-ltb e t.entries.count h)

  pub cycles_here : (n : ℕ) → n ≡ cycles_at ws (get_or t.entries.places e 0) → e < t.entries.count → result n ≡ cycles_of (read_table ws) e
  unfolding cycles_of
  cycles_here n c h = rw (ready_read ws t.entries.places t.width t.entries.count ready, length_entries ws t.entries.count 1, lt-ltb e t.entries.count h, ready_at ws t.entries.places t.width t.entries.count ready e h _, c)
