-- Each case of an answer says another thing, so that the promises of lookup and of the two finds fix the answers themselves. Assumes nothing.
use mathlib.Core.Path.{◌≡◌, refl, sym, ap, ◌∙◌}
use mathlib.Core.List.{List}
use Prim.Native.Nat.{ℕ}
use lib.ListN.{get_or}
use Rattle.std.specs.Prelude.{Option, Some, None, Result, Ok, Err}
use Rattle.words.specs.Outcome.{maybe_of}
use Rattle.words.specs.declared.Refusal.{Refusal}
use Rattle.words.proofs.Outcomes.{said_as_one, option_of, option_back, refused_no_result}
use Rattle.words.proofs.Outcomes as outcome
use Rattle.table.specs.Table.{entry_place}
use Rattle.selection.specs.Lookup.{said, said_found, IfFound, Finds}
use Rattle.selection.specs.Places.{FindsAmong}
use Rattle.selection.specs.declared.Found.{Found}

pub said_one : (r s : Result (Option ℕ) Refusal) → said r ≡ said s → r ≡ s
said_one = said_as_one maybe_of option_of option_back

-- of an entry with its place, which a promise says by a number of the entry's own
found_one : (place : ℕ → ℕ) (r s : Result (Option Found) Refusal) → said_found r ≡ said_found s
    → IfFound r (λ f. f.place ≡ place f.entry) → IfFound s (λ f. f.place ≡ place f.entry) → r ≡ s
found_one place (Ok (Some f)) (Ok (Some g)) e p q =
    let x : f.entry ≡ g.entry = cc in
    let y : f.place ≡ g.place = p ∙ ap place x ∙ sym q in
    let z : ◌≡◌ {A = Found} (record { entry = f.entry; place = f.place }) (record { entry = g.entry; place = g.place }) = rw (x, y) refl in
    ap (λ (k : Found). Ok (Some k)) z
found_one place (Ok (Some f)) (Ok None) e p q = absurd (cc)
found_one place (Ok None) (Ok (Some g)) e p q = absurd (cc)
found_one place (Ok None) (Ok None) e p q = refl
found_one place (Ok a) (Err t) e p q = absurd (refused_no_result t _ (sym e))
found_one place (Err t) (Ok a) e p q = absurd (refused_no_result t _ e)
found_one place (Err t) (Err u) e p q = let x : t ≡ u = let y = outcome.said_one (Err t) (Err u) e in cc in ap Err x

pub finds_one : (ws : List ℕ) (w : ℕ) (r s : Result (Option Found) Refusal) → Finds ws w r → Finds ws w s → r ≡ s
finds_one ws w r s f g = found_one (entry_place ws) r s (f.answer ∙ sym g.answer) f.place g.place

pub among_one : (ws places : List ℕ) (width n w : ℕ) (r s : Result (Option Found) Refusal) → FindsAmong ws places width n w r
    → FindsAmong ws places width n w s → r ≡ s
among_one ws places width n w r s f g = found_one (λ e. get_or places e 0) r s (f.answer ∙ sym g.answer) f.place g.place
