-- Small trees, by computing the definition on their words. Assumes nothing.
use Prim.Native.Nat.{ℕ}
use mathlib.Core.Path.{◌≡◌, refl}
use mathlib.Core.List.{List, [], ◌∷◌}
use Rattle.words.specs.Tests.{◌and◌}
use Rattle.words.specs.Words.{bit, part}
use Rattle.flat.specs.Nodes.{header_of, header_rest, node_of, test_node, names_node, nothing_node}
use Rattle.halves.specs.Common.{side_of, both_of, from_sides, common_from, common_by, common_of}
use Rattle.halves.specs.declared.Shared.{Shared}
use Rattle.halves.specs.declared.Shared.TheVariants.{Entry, Nothing, Several}

-- what these words say of an upper half, with every definition open
unfoldable pub says : List ℕ → ℕ → Shared
unfolding ◌and◌ bit part header_of header_rest node_of test_node names_node nothing_node side_of both_of from_sides common_from common_by common_of
says ws u = common_of ws u

-- a tree of one test, of the node's word, and its two leaves
abbrev one_test : ℕ → ℕ → ℕ → List ℕ
one_test asks off on = 0x70200003 ∷ asks ∷ off ∷ on ∷ []

pub record Halves : Type 0 where
  -- bit 16 is bit 0 of the upper half; bit 15 is open
  pub upper_zero : common_of (one_test 0x88000003 0x90000007 0xa0000000) 0xfffe ≡ Entry 7
  pub upper_one : common_of (one_test 0x88000003 0x90000007 0xa0000000) 0x0001 ≡ Nothing
  pub lower : common_of (one_test 0x87800003 0x90000007 0xa0000000) 0x0001 ≡ Several
  -- a test of a lower bit that decides nothing
  pub alike : common_of (one_test 0x87800003 0x90000007 0x90000007) 0x0001 ≡ Entry 7
  pub neither : common_of (one_test 0x87800003 0xa0000000 0xa0000000) 0x0001 ≡ Nothing
  pub two_entries : common_of (one_test 0x87800003 0x90000007 0x90000008) 0x0001 ≡ Several
  -- a damaged leaf is met, or not
  pub damaged : common_of (one_test 0x87800003 0xa0000000 0xb0000000) 0x0001 ≡ Several
  pub beside : common_of (one_test 0x88000003 0xa0000000 0xb0000000) 0x0000 ≡ Nothing
  -- a zero side that reaches into the one side; no header; a width of 17 bits, and a word of 18
  pub crossing : common_of (0x70200005 ∷ 0x81800004 ∷ 0x81000005 ∷ 0xa0000000 ∷ 0xa0000000 ∷ 0xa0000000 ∷ []) 0 ≡ Several
  pub empty : common_of [] 0 ≡ Several
  pub narrow : common_of (0x70110001 ∷ 0x90000007 ∷ []) 1 ≡ Entry 7
  pub too_wide : common_of (0x70110001 ∷ 0x90000007 ∷ []) 2 ≡ Several

pub halves : Halves
unfolding says
halves =
    record {
      upper_zero = refl;
      upper_one = refl;
      lower = refl;
      alike = refl;
      neither = refl;
      two_entries = refl;
      damaged = refl;
      beside = refl;
      crossing = refl;
      empty = refl;
      narrow = refl;
      too_wide = refl;
    }
