-- Demand 3 at the call that the simulator makes: `kilnumber_walk` answers `packed (walk_bytes bytes w)`, for all bytes and every word.
-- Assumes nothing.
use mathlib.Core.Path.{◌≡◌, refl, sym, ap, ◌∙◌}
use mathlib.Core.List.{List, [], ◌∷◌}
use Prim.Native.Nat.{ℕ, ◌+◌, ◌*◌, ◌/◌, ◌%◌, ◌^◌, ◌<◌}
use native.Mathlib.Omega.{arith}
use lib.ListN.{length, take}
use Rattle.words.specs.Bytes.{word_of, words_of}
use Rattle.words.specs.Outcome.{Outcome, result}
use Rattle.table.specs.Table.{Entry, Table}
use Rattle.table.specs.Check.{read_table}
use Rattle.selection.specs.Selection.{select}
use Rattle.tree.specs.Tree.{tree, size, named}
use Rattle.tree.specs.Generate.{generate_of, buffer_of}
use Rattle.flat.specs.Walk.{mask_of, ones, walk_of, mask_or_zero}
use Rattle.tree.proofs.Demand.{Right, walk_right}
use Rattle.flat.proofs.Masks.{path_ones}
use Rattle.walker.specs.Walked.{walk_bytes}
use Rattle.walker.proofs.Headers.{whole_bytes}
use Rattle.checker.specs.Checker.{check_of}
use Rattle.checker.proofs.Accepting.{check_accepts, accepted_right}
use Rattle.kilnumber.specs.Packed.{packed, named as namedBits}
use Rattle.kilnumber.proofs.Parting.{PartsOf, bytes_parts}

-- the bytes of 32-bit words, "each word low byte first"
unfoldable pub bytes_of : List ℕ → List ℕ
bytes_of [] = []
bytes_of (w ∷ ws) = w % 2 ^ 8 ∷ w / 2 ^ 8 % 2 ^ 8 ∷ w / 2 ^ 16 % 2 ^ 8 ∷ w / 2 ^ 24 ∷ bytes_of ws

four : (w : ℕ) → word_of (w % 2 ^ 8) (w / 2 ^ 8 % 2 ^ 8) (w / 2 ^ 16 % 2 ^ 8) (w / 2 ^ 24) ≡ w
unfolding word_of
four w = omega arith

words_back : (ws : List ℕ) → words_of (bytes_of ws) ≡ ws
unfolding bytes_of words_of
words_back [] = refl
words_back (w ∷ ws) = rw (four w, words_back ws)

whole_words : (ws : List ℕ) → length (bytes_of ws) % 4 ≡ 0
unfolding bytes_of
whole_words [] = refl
whole_words (w ∷ ws) = omega (arith, whole_words ws)

-- the walk of the bytes is that of their words
walk_bytes_lem : (ws : List ℕ) (w : ℕ) → walk_bytes (bytes_of ws) w ≡ walk_of ws w
walk_bytes_lem ws w = sym (whole_bytes (bytes_of ws) w (whole_words ws)) ∙ ap (λ (x : List ℕ). walk_of x w) (words_back ws)

-- the 64 bits of a right walk: the selected entry, or bit 8 for nothing, and the number of the path's tests
pub right_bits : (es : List Entry) (width n : ℕ) (words : List ℕ) (w : ℕ) (r : Right es width n words w)
    → packed (walk_bytes (bytes_of words) w) ≡ namedBits (named (select es w)) + length r.tests * 2 ^ 16
right_bits es width n words w r = ap packed (walk_bytes_lem words w ∙ r.answers)

-- and its mask: that of the path's tests, with as many ones
pub right_mask : (es : List Entry) (width n : ℕ) (words : List ℕ) (w : ℕ) (r : Right es width n words w)
    → (mask_or_zero (walk_bytes (bytes_of words) w) ≡ mask_of r.tests) × (length r.tests ≡ ones (mask_of r.tests))
right_mask es width n words w r = (
  ap mask_or_zero (walk_bytes_lem words w ∙ r.answers),
  (path_ones words width n w n 1 _ r.tests r.walks).1 r.once,
)

-- a table that reads, a buffer into which its tree is generated, and any word of the width: the walk of the words written is right, and the
-- simulator, lent their bytes, is answered so
module _ (ws out : List ℕ) (t : Table) (reads : read_table ws ≡ result t) (n : ℕ) (generated : generate_of (read_table ws) (length out) ≡ result n) where
  abbrev tree_words : List ℕ
  tree_words = take n (buffer_of (read_table ws) out)

  pub simulated : (w : ℕ) → w < 2 ^ t.width →
      (r : Right t.entries t.width (size (tree t.entries t.width)) tree_words w)
      × (packed (walk_bytes (bytes_of tree_words) w) ≡ namedBits (named (select t.entries w)) + length r.tests * 2 ^ 16)
  simulated w h = let r = (walk_right ws out t reads n generated w h).1 in (r, right_bits _ _ _ _ _ r)

-- a tree that the checker accepts, lent as bytes: each word of the width walks right, and the simulator is answered so
module _ (ws bytes : List ℕ) (t : Table) (reads : read_table ws ≡ result t) (whole : length bytes % 4 ≡ 0)
    (checked : check_of (read_table ws) (words_of bytes) ≡ result tt) where
  pub accepted_bytes : (w : ℕ) → w < 2 ^ t.width →
      (n : ℕ) × (r : Right t.entries t.width n (words_of bytes) w)
      × (packed (walk_bytes bytes w) ≡ namedBits (named (select t.entries w)) + length r.tests * 2 ^ 16)
  accepted_bytes w h =
      let y = check_accepts t (words_of bytes) (ap (λ (o : Outcome Table). check_of o (words_of bytes)) (sym reads) ∙ checked) in
      let r = accepted_right t.entries t.width (words_of bytes) y w h in
      (_, r, ap packed (sym (whole_bytes bytes w whole) ∙ r.answers))

-- "It returns 64 bits: entry in 7–0, bit 8 for nothing, count in 31–16, number in 39–32 (0 if none), place in 63–48, the rest zero": for all
-- bytes and every word, finished walks and refused ones
pub walk_parts : (bytes : List ℕ) (w : ℕ) → PartsOf (walk_bytes bytes w) (packed (walk_bytes bytes w))
walk_parts = bytes_parts
