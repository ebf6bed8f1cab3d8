-- A call inside a walk by hand, of a function with no `requires`, no `&mut` and one fact for its `ensures`: what the caller gives (`asks`), what it gets (`gets`), and
-- the operands (`its`).
-- Assumes `Logic`.
use mathlib.Core.Path.{◌≡◌}
use Prim.Native.Nat.{ℕ, ◌+◌, ◌*◌, ◌-◌}
use mathlib.Core.List.{List, [], ◌∷◌}
use lib.ListN.{length}
use seplogic.Ra.Ura.{Ura}
use base.Fraction.{full_share}
use mir.Syntax.{place, copy}
use mir.Val.{Val}
use base.Logic.{sep, ex, emp, id⊢}
use base.Fml.{Fml, fsep, fat}
use prog.Wp.{Env, spot_of}
use types.Logic.{Logic, sem}
use contract.Monad.{fact}
use types.Kit.{Item, Goal, Soaks, Seq, Step, mean, nth, ‵, raw, ◌⊛◌, some, later, ◌$◌, ◌∵◌, !, qed, move, drop, use1, use3, split, join, pick, fjoin, frame, await, done}
use types.Run.{Opd, look, stop, from, load}
use denote.RattleType.{RattleType}
use denote.Laws.{Is, shows}
use denote.Steps.{peeks, heard}

-- what is asked, of the lifetimes' tokens, what the first parameter owns and what the others own
pub asks : {M : Type 1} {𝓤 : Ura M} {𝓛 : Logic 𝓤} {K : Type 0} {Γ : List (Item 𝓤)} {G : Goal 𝓤 𝓛.H} {toks : Item 𝓤} {X Y : Fml}
    → K → Step K 𝓛 (raw (sep 𝓤 (sep 𝓤 (mean 𝓛 toks) (sem 𝓛 (fsep X Y))) (emp 𝓤)) ∷ Γ) G (toks ∷ ‵ X ∷ ‵ Y ∷ Γ) G
asks {M} {𝓤} {𝓛} {K} {Γ} {G} {toks} {X} {Y} t =
    use3 𝓛 (raw (sep 𝓤 (sep 𝓤 (mean 𝓛 toks) (sem 𝓛 (fsep X Y))) (emp 𝓤))) (qed 𝓛 (toks ∷ ‵ X ∷ ‵ Y ∷ []) ∵ move ! (1 ∷ 2 ∷ []) $ fjoin ! $ move ! (1 ∷ 0 ∷ []) $ join ! $ frame ! $ done !)

-- the result r with the machine value u, what it owns, the tokens, and the fact P r; ws and L are the last values of no `&mut`, and what is said of them
pub gets : {M : Type 1} {𝓤 : Ura M} {𝓛 : Logic 𝓤} {K : Type 0} {Γ : List (Item 𝓤)} {G : Goal 𝓤 𝓛.H}
    → K → Soaks G → (R : RattleType) (toks : Item 𝓤) {X : Type 0} (L : X → Fml) (P : R.Denot → Type 0) (u : Val)
    → ((r : R.Denot) → P r → Is R r (u ∷ []) → Seq K 𝓛 (‵ (R.own_val r (u ∷ [])) ∷ toks ∷ Γ) G)
    → Seq K 𝓛 (raw (𝓛.H.⇛ (ex 𝓤 (λ (r : R.Denot). sep 𝓤 (sep 𝓤 (mean 𝓛 toks) (sem 𝓛 (R.own_val r (u ∷ [])))) (ex 𝓤 (λ ws. sep 𝓤 (sem 𝓛 (L ws)) (fact 𝓤 (P r))))))) ∷ Γ) G
gets {M} {𝓤} {𝓛} {K} t z R toks L P u k =
    use1 𝓛 (later (some (λ (r : R.Denot). (toks ⊛ ‵ (R.own_val r (u ∷ []))) ⊛ some (λ ws. ‵ (L ws) ⊛ raw (fact 𝓤 (P r)))))) (id⊢ 𝓤 _) $ await t z $ pick t (λ r.
    split t $ move t (1 ∷ []) $ pick t (λ ws. split t $ drop t $ heard t (P r) (λ e. split t $ move t (1 ∷ []) $ peeks t R (Is R) (shows 𝓛 R) r (u ∷ []) (λ is. k r e is))))

-- an operand is a local's whole value v: k entries stand before those of the locals, which are two for each, the last local's first. Which local is read
-- is the code's to say, so that code which passes another is refused where that one's value is not v
pub its : {M : Type 1} {𝓤 : Ura M} {𝓛 : Logic 𝓤} {K : Type 0} {Γ : List (Item 𝓤)} {E : Env 𝓤 𝓛.H} {i : ℕ} {v : Val}
    → K → (k : ℕ) → nth 𝓛 (k + 2 * (length E - 1 - i)) Γ ≡ ‵ (fat full_share (spot_of 𝓤 𝓛.H E i).0 (spot_of 𝓤 𝓛.H E i).1 (spot_of 𝓤 𝓛.H E i).2 v) → Opd K 𝓛 Γ E (copy (place i [])) v
its {M} {𝓤} {𝓛} {K} {Γ} {E} {i} t k e = load t (from t (stop t)) (look t (k + 2 * (length E - 1 - i)) e)
