-- Document 02, No. 1, sentence by sentence, over the definitions that the calls' contracts cite. Assumes nothing.
--   `walker::walk` answers `walk_of words w` of words, and of bytes `walk_bytes bytes w`, which `kilnumber_walk` packs; `kilnumber_mask` answers
--   `mask_or_zero (walk_bytes bytes w)`, `checker::check` `check_of (read_table ws) words`, `image::step` `step_of (read_table ws) words image at`.
--     tested_bits, refused_zero     the mask
--     accepted_ones, generated_ones     the count is the number of its ones
--     alike, accepted_alike, generated_alike, alike_bytes     words that agree on it
--     handed_on_lem     what a step hands on
use Prim.Native.Nat.{ℕ, ◌+◌, ◌*◌, ◌%◌, ◌^◌, ◌<◌}
use native.Mathlib.Omega.{arith}
use mathlib.Core.Path.{◌≡◌, refl, sym, ap, ◌∙◌}
use mathlib.Core.Bool.{true}
use mathlib.Core.List.{List}
use mathlib.Core.Option.{none, some}
use lib.Bits.{bit_and}
use lib.Dec.{eqb, leb}
use lib.ListN.{length, get_or, take}
use borrow.Author.Tests.{eqb-true}
use Rattle.words.specs.Bytes.{words_of}
use Rattle.words.specs.Outcome.{Outcome, result, faulty, refused}
use Rattle.words.specs.Words.{word}
use Rattle.words.proofs.Outcomes.{not_refused, not_faulty}
use Rattle.words.proofs.Logic.{cases, and_l}
use Rattle.table.specs.Table.{Entry, Table}
use Rattle.table.specs.Check.{read_table}
use Rattle.selection.specs.Selection.{select}
use Rattle.flat.specs.Nodes.{header_width}
use Rattle.flat.specs.Walk.{ones, mask_of, Walk, walk_of, mask_or_zero}
use Rattle.flat.proofs.Masks.{Tested, walk_tested, walk_alike, path_ones}
use Rattle.flat.proofs.Reading.{header_width_lem}
use Rattle.tree.specs.Tree.{named}
use Rattle.checker.specs.Checker.{accepts, check_of}
use Rattle.tree.specs.Generate.{generate_of, buffer_of}
use Rattle.checker.proofs.Accepting.{check_accepts, accepted, accepted_right, generated_accepted}
use Rattle.walker.specs.Walked.{walk_bytes}
use Rattle.image.specs.Address.{halfword_at, word_at, halfwords}
use Rattle.image.specs.Items.{item_at}
use Rattle.image.specs.Listing.{image_table, admitted, Step, handed_on, step_from, step_of}
use Rattle.image.specs.declared.HalfwordAddress.{HalfwordAddress}
use Rattle.image.proofs.Admitting.{chain_passed}

-- ---- the mask

-- "The walk returns, beside its count, a 32-bit mask of the bits tested": in any words, of a walk that finishes. A bit of the mask is one
-- exactly if the path tests it, and the count is the number of ones exactly if no bit is tested twice
pub tested_bits : (words : List ℕ) (w : ℕ) (a : Walk) → walk_of words w ≡ result a → Tested words w a
tested_bits = walk_tested

-- "a further C call returns it, 0 when refused"
pub refused_zero : (bytes : List ℕ) (w n p x : ℕ) → walk_bytes bytes w ≡ refused n p x → mask_or_zero (walk_bytes bytes w) ≡ 0
refused_zero bytes w n p x e = ap mask_or_zero e

-- ---- the count, and words that agree on the mask

-- in any words, where the walk of w finishes: a word of the width that agrees with w on its mask gets the same entry or nothing, the same
-- count and the same mask
pub alike : (words : List ℕ) (w v : ℕ) (a : Walk) → walk_of words w ≡ result a → v < 2 ^ (header_width (word words 0))
    → bit_and v a.mask ≡ bit_and w a.mask → walk_of words v ≡ result a
alike words w v a e = walk_alike words w a e v

-- a tree that the checker accepts for a table
module _ (ws words : List ℕ) (t : Table) (reads : read_table ws ≡ result t) (checked : check_of (read_table ws) words ≡ result tt) where
  yes : accepts t.entries t.width words ≡ true
  yes = check_accepts t words (ap (λ (r : Outcome Table). check_of r words) (sym reads) ∙ checked)

  wide : t.width ≡ header_width (word words 0)
  wide = header_width_lem (word words 0) (length words) _ _ (accepted t.entries t.width words yes).header

  -- "The count is the number of ones in the mask on every tree that the checker accepts": each word of the width finishes so
  pub accepted_ones : (w : ℕ) → w < 2 ^ t.width → (a : Walk) × (walk_of words w ≡ result a) × (a.entry ≡ named (select t.entries w)) × (a.count ≡ ones a.mask)
  accepted_ones w h =
      let r = accepted_right t.entries t.width words yes w h in
      (_, r.answers, refl, (path_ones words t.width _ w _ 1 _ r.tests r.walks).1 r.once)

  -- "On such a tree two words of the width that agree on the mask get the same answer"
  pub accepted_alike : (w v : ℕ) → w < 2 ^ t.width → v < 2 ^ t.width → bit_and v (mask_or_zero (walk_of words w)) ≡ bit_and w (mask_or_zero (walk_of words w))
      → walk_of words v ≡ walk_of words w
  accepted_alike w v h k e =
      let (a, finishes, names-it, counts) = accepted_ones w h in
      alike words w v a finishes (rw (← wide) k) (rw finishes at e) ∙ sym finishes

-- so it is with each tree that generating writes, which is accepted
module _ (ws out : List ℕ) (t : Table) (reads : read_table ws ≡ result t) (n : ℕ) (generated : generate_of (read_table ws) (length out) ≡ result n) where
  abbrev tree_words : List ℕ
  tree_words = take n (buffer_of (read_table ws) out)

  pub generated_ones : (w : ℕ) → w < 2 ^ t.width → (a : Walk) × (walk_of tree_words w ≡ result a) × (a.entry ≡ named (select t.entries w)) × (a.count ≡ ones a.mask)
  generated_ones = accepted_ones ws tree_words t reads (generated_accepted ws out t reads n generated).1

  pub generated_alike : (w v : ℕ) → w < 2 ^ t.width → v < 2 ^ t.width → bit_and v (mask_or_zero (walk_of tree_words w)) ≡ bit_and w (mask_or_zero (walk_of tree_words w))
      → walk_of tree_words v ≡ walk_of tree_words w
  generated_alike = accepted_alike ws tree_words t reads (generated_accepted ws out t reads n generated).1

-- and for C, on any bytes: what a cache may answer from a walk that was not refused
pub alike_bytes : (bytes : List ℕ) (w v : ℕ) (a : Walk) → walk_bytes bytes w ≡ result a → v < 2 ^ (header_width (word (words_of bytes) 0))
    → bit_and v (mask_or_zero (walk_bytes bytes w)) ≡ bit_and w (mask_or_zero (walk_bytes bytes w)) → walk_bytes bytes v ≡ walk_bytes bytes w
unfolding walk_bytes
alike_bytes bytes w v a e h q =
    cases (eqb (length bytes % 4) 0)
    (λ t. let finishes : walk_of (words_of bytes) w ≡ result a = rw t at e in
    let agree : bit_and v (mask_or_zero (walk_of (words_of bytes) w)) ≡ bit_and w (mask_or_zero (walk_of (words_of bytes) w)) = rw t at q in
    rw t (alike (words_of bytes) w v a finishes h (rw finishes at agree) ∙ sym finishes))
    (λ t. absurd (not_refused (sym (rw t at e))))

-- ---- "each step of the lister hands on its item's mask"

-- what a step that gives an item has found: the item at the address, and the walk of the word there, which is not refused
pub record Handed (ws tree image : List ℕ) (at : HalfwordAddress) (s : Step) : Type 0 where
  pub table : Table
  pub reads : read_table ws ≡ result table
  pub item : s.item ≡ item_at table.entries image at
  pub walk : Walk
  pub walks : walk_of tree (word_at image at) ≡ result walk
  pub selects : walk.entry ≡ named (select table.entries (word_at image at))
  pub mask : s.mask ≡ walk.mask

-- the word at an address of an image of bytes
word_small : (image : List ℕ) (at : HalfwordAddress) → ((i : ℕ) → get_or image i 0 < 2 ^ 8) → word_at image at < 2 ^ 32
unfolding word_at halfword_at
word_small image at bytes =
    let o : ℕ = 2 * at.0 in
    let p : ℕ = 2 * (at.0 + 1) in
    omega (arith, bytes o, bytes (o + 1), bytes p, bytes (p + 1))

stepped : (o : Outcome (List Entry)) (tree image : List ℕ) (at : HalfwordAddress) (s : Step) → step_from o tree image at ≡ result (some s)
    → (es : List Entry) × (o ≡ result es) × (s ≡ handed_on es tree image at)
unfolding step_from
stepped (result es) tree image at s e =
    cases (leb (halfwords image) at.0)
    (λ t. let q : result none ≡ result (some s) = rw t at e in absurd (let z : ◌≡◌ {A = ℕ} 0 1 = cc in omega arith))
    (λ t. let q : result (some (handed_on es tree image at)) ≡ result (some s) = rw t at e in (es, refl, cc))
stepped (faulty n p) tree image at s e = absurd (not_faulty (sym e))
stepped (refused n p x) tree image at s e = absurd (not_refused (sym e))

pub handed_on_lem : (ws tree image : List ℕ) (at : HalfwordAddress) (s : Step) → ((i : ℕ) → get_or image i 0 < 2 ^ 8)
    → step_of (read_table ws) tree image at ≡ result (some s) → Handed ws tree image at s
unfolding step_of handed_on image_table
handed_on_lem ws tree image at s bytes e =
    let (es, lets, is) = stepped (admitted (read_table ws) tree image) tree image at s e in
    let (t, reads, same_entries, wide, good, right) = chain_passed (read_table ws) tree image es lets in
    let w = word_at image at in
    let width : t.width ≡ 32 = eqb-true t.width 32 (and_l _ wide) in
    let r = accepted_right t.entries t.width tree right w (rw width (word_small image at bytes)) in
    record {
      table = t;
      reads = reads;
      item = rw same_entries (ap (λ (x : Step). x.item) is);
      walk = record { entry = named (select t.entries w); count = length r.tests; mask = mask_of r.tests };
      walks = r.answers;
      selects = refl;
      mask = ap (λ (x : Step). x.mask) is ∙ ap mask_or_zero r.answers;
    }
