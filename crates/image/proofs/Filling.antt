-- The loop that fills the buffer. Assumes nothing.
use mathlib.Core.Path.{◌≡◌, refl, sym, ap, ◌∙◌}
use mathlib.Core.List.{List, [], ◌∷◌, ◌++◌, append-nil}
use Prim.Native.Nat.{ℕ, zero, suc, ◌^◌, ◌≤◌, ◌<◌, suc-le-suc, zero-le}
use native.Mathlib.Omega.{arith}
use borrow.Author.Tests.{le-leb, lt-leb}
use lib.ListN.{length, get_or, set, take, drop, length-drop, length-set, drop_of_length-le}
use lib.Seq.{take_all, take-suc, drop-cons, set_at, append_snoc, length-take-le}
use Rattle.std.specs.Prelude.{Ok, Err}
use Rattle.words.specs.Words.{bits}
use Rattle.words.specs.declared.Refusal.TheVariants.{Full}
use Rattle.table.specs.Table.{Entry}
use Rattle.image.specs.declared.HalfwordAddress.{HalfwordAddress}
use Rattle.image.specs.declared.Item.{Item}
use Rattle.image.specs.Address.{halfwords}
use Rattle.image.specs.Items.{item_at, items}
use Rattle.image.specs.Listing.{counted, filled_with}
use Rattle.image.specs.Parts.{Fills}
use Rattle.image.proofs.Leading.{leads, on, on_end, on_item, items_on}

-- ---- a list, part by part

next_of : (xs : List ℕ) (n x : ℕ) (rest : List ℕ) → drop n xs ≡ x ∷ rest → (n < length xs) × (get_or xs n 0 ≡ x) × (drop (suc n) xs ≡ rest)
next_of [] zero x rest e = absurd (let z : ◌≡◌ {A = ℕ} 0 1 = cc in omega arith)
next_of [] (suc n) x rest e = absurd (let z : ◌≡◌ {A = ℕ} 0 1 = cc in omega arith)
next_of (y ∷ ys) zero x rest e = (suc-le-suc zero-le, cc, cc)
next_of (y ∷ ys) (suc n) x rest e = let r = next_of ys n x rest e in (suc-le-suc r.0, r.1, r.2)

no_more : (xs : List ℕ) (n : ℕ) → drop n xs ≡ [] → length xs ≤ n
no_more xs n e = let k : length (drop n xs) ≡ 0 = ap length e in omega (arith, length-drop n xs)

-- one item more in the buffer
put : (is buffer : List ℕ) (n x : ℕ) → n < length is → n < length buffer → get_or is n 0 ≡ x
    → set (take n is ++ drop n buffer) n x ≡ take (suc n) is ++ drop (suc n) buffer
put is buffer n x hi hb e =
    ap (λ (r : List ℕ). set (take n is ++ r) n x) (drop-cons buffer n 0 hb)
    ∙ set_at (take n is) (get_or buffer n 0) (drop (suc n) buffer) x n (length-take-le n is (omega arith))
    ∙ sym (append_snoc (take n is) x (drop (suc n) buffer))
    ∙ ap (λ (r : List ℕ). r ++ drop (suc n) buffer) (ap (λ (y : ℕ). take n is ++ (y ∷ [])) (sym e) ∙ sym (take-suc is n 0 hi))

-- ---- a listing that ends

module _ (is buffer : List ℕ) (n : ℕ) (room : n ≤ length buffer) where
  pub all_filled : n ≤ length is → drop n is ≡ [] → Fills is buffer (take n is ++ drop n buffer) (Ok n)
  unfolding counted filled_with
  all_filled part e =
      let k : length is ≤ n = no_more is n e in
      let all : length is ≡ n = omega arith in
      record {
        answer = rw (all, le-leb n (length buffer) room) refl;
        buffer = rw (all, le-leb n (length buffer) room) (ap (λ (r : List ℕ). r ++ drop n buffer) (take_all n is k));
      }

  pub full_filled : length buffer ≤ n → (x : ℕ) (rest : List ℕ) → drop n is ≡ x ∷ rest → (a : HalfwordAddress) → bits 19 0 x ≡ a.0
      → Fills is buffer (take n is ++ drop n buffer) (Err (Full a.0))
  unfolding counted filled_with
  full_filled full x rest e a p =
      let r = next_of is n x rest e in
      let q : length buffer ≡ n = omega arith in
      record {
        answer = rw (q, lt-leb (length is) n r.0, r.1, p) refl;
        buffer = rw (q, lt-leb (length is) n r.0) (ap (λ (k : List ℕ). take n is ++ k) (drop_of_length-le buffer {i = n} full) ∙ append-nil (take n is));
      }

-- ---- the loop: the buffer holds the items passed, and what is left of the items stands from the address on

module _ (es : List Entry) (image buffer : List ℕ) where
  abbrev is : List ℕ
  is = items es image

  pub record Filling (out : List ℕ) (a : HalfwordAddress) (n : ℕ) : Type 0 where
    pub room : n ≤ length buffer
    pub same : length out ≡ length buffer
    pub filled : out ≡ take n is ++ drop n buffer
    pub part : n ≤ length is
    pub rest : drop n is ≡ on es image a
    pub few : n ≤ a.0
    pub within : a.0 ≤ halfwords image

  pub filling_start : Filling buffer (record { 0 = 0 }) 0
  filling_start = record { room = zero-le; same = refl; filled = refl; part = zero-le; rest = items_on es image; few = zero-le; within = zero-le }

  module _ (out : List ℕ) (a : HalfwordAddress) (n : ℕ) (f : Filling out a n) where
    pub filling_more : a.0 < halfwords image → n < length out → (i : Item) → i ≡ item_at es image a → Filling (set out n i.word) i.next (suc n)
    filling_more h l i e =
        let r = next_of is n (item_at es image a).word (on es image (item_at es image a).next) (f.rest ∙ on_item es image a h) in
        let b : n < length buffer = let s = f.same in omega arith in
        let m = (leads es image a h).more in
        let w = f.few in
        let l = (leads es image a h).within in
        rw e (record {
          room = b;
          same = length-set out n (item_at es image a).word ∙ f.same;
          filled = ap (λ (o : List ℕ). set o n (item_at es image a).word) f.filled ∙ put is buffer n (item_at es image a).word r.0 b r.1;
          part = r.0;
          rest = r.2;
          few = omega arith;
          within = l;
        })

    pub filling_all : halfwords image ≤ a.0 → Fills is buffer out (Ok n)
    filling_all h =
        let e : drop n is ≡ [] = f.rest ∙ on_end es image a h in
        rw f.filled (all_filled is buffer n f.room f.part e)

    pub filling_full : a.0 < halfwords image → halfwords image ≤ 2 ^ 20 → length out ≤ n → Fills is buffer out (Err (Full a.0))
    filling_full h k l =
        let e = f.rest ∙ on_item es image a h in
        let full : length buffer ≤ n = let s = f.same in omega arith in
        rw f.filled (full_filled is buffer n f.room full _ _ e a ((leads es image a h).place (omega arith)))
