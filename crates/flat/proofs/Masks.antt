-- The mask of a walk's tested bits, in any words. Assumes nothing.
--     mask_bit, mask_ones     its bits are those of the list; they are as many exactly if none is in it twice
--     path_alike     a word that agrees on the tested bits goes the same path
--     path_ones     a path has as many tests as its mask has ones exactly if it tests no bit twice
--     Tested, walk_tested     what a walk that finishes has tested
--     walk_alike     a word of the width that agrees on the mask is answered the same
use Prim.Native.Nat.{ℕ, zero, suc, ◌+◌, ◌^◌, ◌≤◌, ◌<◌}
use native.Mathlib.Nat.{le_of_eq}
use native.Mathlib.Omega.{arith}
use mathlib.Core.Path.{◌≡◌, refl, sym, ap, ap₂, ◌∙◌}
use mathlib.Core.Bool.{true, false, not, cond, false≢true, true≢false}
use mathlib.Core.Logic.{◌↔◌}
use mathlib.Core.List.{List, [], ◌∷◌}
use mathlib.Core.Option.{Option}
use lib.Bits.{bit_and, or_lt}
use lib.Dec.{eqb, ltb}
use lib.ListN.{length}
use lib.Pow.{pow_pos, pow-lt}
use borrow.Author.Tests.{eq-eqb, ne_eqb, eqb-true, eqb-false, lt-ltb}
use Rattle.std.specs.Prelude.{Some}
use Rattle.words.specs.Outcome.{result}
use Rattle.words.specs.Tests.{◌or◌, is_in, distinct, how_many}
use Rattle.words.specs.Words.{word, bit}
use Rattle.words.proofs.Bits.{mask_agree, bit_or_lem, bit_none, bit_pow, bit_pow_other}
use Rattle.words.proofs.Outcomes.{not_refused}
use Rattle.words.proofs.Logic.{cases, and_i, and_l, and_r, not_t, or_e, or_il, or_ir, how_many_same, how_many_less}
use Rattle.flat.specs.Nodes.{good, header_width, header_of, node_of}
use Rattle.flat.specs.Walk.{Ending, arrives, breaks, after, path, mask_of, ones, Walk, ended, enters, walk_of}
use Rattle.flat.specs.declared.Node.TheVariants.{Asks}
use Rattle.flat.proofs.Reading.{header-cases, header_width_lem, node-cases, Says, node_says}

-- ---- the bits of a mask

pow_bit : (b i : ℕ) → bit (2 ^ b) i ≡ eqb i b
pow_bit b i =
    cases (eqb i b) (λ t. ap (bit (2 ^ b)) (eqb-true i b t) ∙ bit_pow b ∙ sym t) (λ t. bit_pow_other b i (eqb-false i b t) ∙ sym t)

pub mask_bit : (bs : List ℕ) (i : ℕ) → bit (mask_of bs) i ≡ is_in i bs
unfolding mask_of is_in
mask_bit [] i = bit_none i
mask_bit (b ∷ bs) i = bit_or_lem (2 ^ b) (mask_of bs) i ∙ ap₂ ◌or◌ (pow_bit b i) (mask_bit bs i)

nothing_in : (k : ℕ) → how_many (λ i. is_in i []) k ≡ 0
unfolding how_many is_in
nothing_in zero = refl
nothing_in (suc k) = nothing_in k

-- numbers below k: as many as the list has exactly if none is in it twice
module _ (k : ℕ) where
  abbrev Below : List ℕ → Type 0
  Below bs = (i : ℕ) → is_in i bs ≡ true → i < k

  unfoldable among : List ℕ → ℕ
  among bs = how_many (λ i. is_in i bs) k

  rest_below : (b : ℕ) (bs : List ℕ) → Below (b ∷ bs) → Below bs
  unfolding is_in
  rest_below b bs h i t = h i (or_ir (eqb i b) t)

  -- one that is not among the others is one more; one that is, is none
  among_new : (b : ℕ) (bs : List ℕ) → Below (b ∷ bs) → is_in b bs ≡ false → among (b ∷ bs) ≡ suc (among bs)
  unfolding among is_in ◌or◌
  among_new b bs h f =
      let here : eqb b b or is_in b bs ≡ true = or_il _ (eq-eqb b b refl) in
      sym (how_many_less (λ i. is_in i (b ∷ bs)) (λ i. is_in i bs) k b (h b here) here f (λ j n. rw (ne_eqb j b n)))

  among_old : (b : ℕ) (bs : List ℕ) → is_in b bs ≡ true → among (b ∷ bs) ≡ among bs
  unfolding among is_in ◌or◌
  among_old b bs t =
      how_many_same (λ i. is_in i (b ∷ bs)) (λ i. is_in i bs) k
      (λ i l. cases (eqb i b) (λ q. rw q (sym (ap (λ (j : ℕ). is_in j bs) (eqb-true i b q) ∙ t))) (λ q. rw q))

  among_le : (bs : List ℕ) → Below bs → among bs ≤ length bs
  unfolding among
  among_le [] h = le_of_eq (nothing_in k)
  among_le (b ∷ bs) h =
      let r = among_le bs (rest_below b bs h) in
      cases (is_in b bs) (λ t. omega (arith, among_old b bs t)) (λ f. omega (arith, among_new b bs h f))

  among_once : (bs : List ℕ) → Below bs → (among bs ≡ length bs) ↔ (distinct bs ≡ true)
  unfolding distinct among
  among_once [] h = (λ e. refl, λ e. nothing_in k)
  among_once (b ∷ bs) h =
      let below = rest_below b bs h in
      let rest = among_once bs below in
      let few = among_le bs below in
      cases (is_in b bs)
      (λ t. (λ e. absurd (omega (arith, among_old b bs t)), λ d. absurd (true≢false (sym t ∙ not_t (and_l _ d)))))
      (λ f. (
        λ e. and_i (ap not f) (rest.0 (omega (arith, among_new b bs h f))),
        λ d. among_new b bs h f ∙ ap suc (rest.1 (and_r _ d)),
      ))

pub mask_ones : (bs : List ℕ) → ((i : ℕ) → is_in i bs ≡ true → i < 32) → (length bs ≡ ones (mask_of bs)) ↔ (distinct bs ≡ true)
unfolding ones among
mask_ones bs h =
    let same-ones = how_many_same (λ i. bit (mask_of bs) i) (λ i. is_in i bs) 32 (λ i l. mask_bit bs i) in
    let once = among_once 32 bs h in
    (λ e. once.0 (sym (e ∙ same-ones)), λ d. sym (same-ones ∙ once.1 d))

-- of bits below the width a word of the width is made
mask_lt : (width : ℕ) (bs : List ℕ) → ((i : ℕ) → is_in i bs ≡ true → i < width) → mask_of bs < 2 ^ width
unfolding mask_of is_in
mask_lt width [] h = pow_pos width
mask_lt width (b ∷ bs) h =
    or_lt width (2 ^ b) (mask_of bs) (pow-lt (h b (or_il _ (eq-eqb b b refl)))) (mask_lt width bs (λ i t. h i (or_ir _ t)))

-- ---- paths

-- a path that arrives after a test arrives without it
after_arrives : (b : ℕ) (p : Ending) (e : Option ℕ) (bs : List ℕ) → after b p ≡ arrives e bs → (cs : List ℕ) × (p ≡ arrives e cs) × (bs ≡ b ∷ cs)
after_arrives b (arrives x cs) e bs h = (cs, cc, cc)
after_arrives b (breaks n i) e bs h = absurd (let z : ◌≡◌ {A = ℕ} 0 1 = cc in omega arith)

broken : (n i : ℕ) (e : Option ℕ) (bs : List ℕ) → breaks n i ≡ arrives e bs → ⊥
broken n i e bs h = let z : ◌≡◌ {A = ℕ} 0 1 = cc in omega arith

-- at a leaf nothing is tested
none_in : (j : ℕ) (bs : List ℕ) (x e : Option ℕ) → arrives x [] ≡ arrives e bs → is_in j bs ≡ true → ⊥
unfolding is_in
none_in j bs x e h t = let q : [] ≡ bs = cc in false≢true (rw (← q) at t)

module _ (ws : List ℕ) (width n w : ℕ) where
  pub path_alike : (v fuel i : ℕ) (e : Option ℕ) (bs : List ℕ) → path fuel ws width n w i ≡ arrives e bs
      → ((b : ℕ) → is_in b bs ≡ true → bit v b ≡ bit w b) → path fuel ws width n v i ≡ arrives e bs
  unfolding path is_in
  path_alike v zero i e bs h a = absurd (broken 9 i e bs h)
  path_alike v (suc fuel) i e bs h a =
      node-cases (node_of width n i (word ws i))
      (λ d. absurd (broken 9 i e bs (rw d at h)))
      (λ b k d.
      let s = after_arrives b _ e bs (rw d at h) in
      let here : (j : ℕ) → is_in j (b ∷ s.0) ≡ true → bit v j ≡ bit w j = rw s.2 at a in
      rw (d, here b (or_il _ (eq-eqb b b refl)), path_alike v fuel (cond (bit w b) k (i + 1)) e s.0 s.1 (λ j t. here j (or_ir _ t))) (ap (arrives e) (sym s.2)))
      (λ x d. rw d (rw d at h))
      (λ d. rw d (rw d at h))

  -- the tested bits are below the width, and below 32
  path_low : (fuel i : ℕ) (e : Option ℕ) (bs : List ℕ) → path fuel ws width n w i ≡ arrives e bs → (j : ℕ) → is_in j bs ≡ true → (j < width) × (j < 32)
  unfolding path is_in Says
  path_low zero i e bs h j t = absurd (broken 9 i e bs h)
  path_low (suc fuel) i e bs h j t =
      node-cases (node_of width n i (word ws i))
      (λ d. absurd (broken 9 i e bs (rw d at h)))
      (λ b k d.
      let s = after_arrives b _ e bs (rw d at h) in
      let low : Says width n i (Some (Asks b k)) = rw d at (node_says width n i (word ws i)) in
      let here : eqb j b or is_in j s.0 ≡ true = rw s.2 at t in
      cases (eqb j b) (λ q. rw (eqb-true j b q) (low.0, low.1)) (λ q. path_low fuel (cond (bit w b) k (i + 1)) e s.0 s.1 j (or_e here q)))
      (λ x d. absurd (none_in j bs _ e (rw d at h) t))
      (λ d. absurd (none_in j bs _ e (rw d at h) t))

  pub path_ones : (fuel i : ℕ) (e : Option ℕ) (bs : List ℕ) → path fuel ws width n w i ≡ arrives e bs → (length bs ≡ ones (mask_of bs)) ↔ (distinct bs ≡ true)
  path_ones fuel i e bs h = mask_ones bs (λ j t. (path_low fuel i e bs h j t).1)

-- ---- walks

-- what a walk that finishes has tested
pub record Tested (ws : List ℕ) (w : ℕ) (a : Walk) : Type 0 where
  pub nodes : ℕ
  pub header : header_of (word ws 0) (length ws) ≡ good (header_width (word ws 0)) nodes
  -- the bits that its path tests, in order
  pub tests : List ℕ
  pub walks : path nodes ws (header_width (word ws 0)) nodes w 1 ≡ arrives a.entry tests
  -- the count is their number; a bit of the mask is one exactly if it is one of them, and so is below the width
  pub counts : a.count ≡ length tests
  pub marks : (i : ℕ) → bit a.mask i ≡ is_in i tests
  pub narrow : a.mask < 2 ^ (header_width (word ws 0))
  -- the count is the number of ones in the mask exactly if no bit is tested twice
  pub once : (a.count ≡ ones a.mask) ↔ (distinct tests ≡ true)

ended_path : (p : Ending) (a : Walk) → ended p ≡ result a → (bs : List ℕ) × (p ≡ arrives a.entry bs) × (a.count ≡ length bs) × (a.mask ≡ mask_of bs)
ended_path (arrives e bs) a h = (bs, cc, cc, cc)
ended_path (breaks n i) a h = absurd (not_refused (sym h))

module _ (ws : List ℕ) (w : ℕ) (a : Walk) (finishes : walk_of ws w ≡ result a) where
  -- its header is good and w is a word of the width
  entered : (n : ℕ) × (header_of (word ws 0) (length ws) ≡ good (header_width (word ws 0)) n) × (ended (path n ws (header_width (word ws 0)) n w 1) ≡ result a)
  unfolding walk_of enters
  entered =
      header-cases (header_of (word ws 0) (length ws))
      (λ d. absurd (not_refused (sym (rw d at finishes))))
      (λ width n d.
      let same_width_lem = header_width_lem (word ws 0) (length ws) width n d in
      rw (← same_width_lem)
      (cases (ltb w (2 ^ width))
      (λ t. (n, d, rw (d, t) at finishes))
      (λ t. absurd (not_refused (sym (rw (d, t) at finishes))))))

  pub walk_tested : Tested ws w a
  walk_tested =
      let (n, d, k) = entered in
      let (bs, arrived, counted, masked) = ended_path (path n ws (header_width (word ws 0)) n w 1) a k in
      let as_many = path_ones ws (header_width (word ws 0)) n w n 1 a.entry bs arrived in
      record {
        nodes = n;
        header = d;
        tests = bs;
        walks = arrived;
        counts = counted;
        marks = λ i. ap (λ (m : ℕ). bit m i) masked ∙ mask_bit bs i;
        narrow = rw masked (mask_lt (header_width (word ws 0)) bs (λ j t. (path_low ws (header_width (word ws 0)) n w n 1 a.entry bs arrived j t).0));
        once = (λ e. as_many.0 (sym counted ∙ e ∙ ap ones masked), λ d. counted ∙ as_many.1 d ∙ ap ones (sym masked));
      }

  pub walk_alike : (v : ℕ) → v < 2 ^ (header_width (word ws 0)) → bit_and v a.mask ≡ bit_and w a.mask → walk_of ws v ≡ result a
  unfolding walk_of enters
  walk_alike v fit e =
      let (n, d, k) = entered in
      let (bs, arrived, counted, masked) = ended_path (path n ws (header_width (word ws 0)) n w 1) a k in
      rw (d, lt-ltb v (2 ^ (header_width (word ws 0))) fit)
      (ap ended (path_alike ws (header_width (word ws 0)) n w v n 1 a.entry bs arrived
      (λ b q. mask_agree v w a.mask b e (ap (λ (m : ℕ). bit m b) masked ∙ mask_bit bs b ∙ q)) ∙ sym arrived) ∙ k)
