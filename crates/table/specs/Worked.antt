-- The example tables of document 01, in words.
use Rattle.std.specs.Prelude.{ℕ, List, [], ◌∷◌, ◌++◌}

-- the table that mktree's example is printed for: width 2, one entry with pattern 1- and a field in bit 0
abbrev pub printed : List ℕ
printed = 0x10010002 ∷ 0x20050210 ∷ 0x00000002 ∷ 0x00000002 ∷ 0x30000001 ∷ []

-- the same with 77 cycles, as a table of kind 6 (document 02, No. 3)
abbrev pub costed : List ℕ
costed = 0x60010002 ∷ 0x20050210 ∷ 0x00000002 ∷ 0x00000002 ∷ 77 ∷ 0x30000001 ∷ []

-- the fields a, b, c, f of the worked table
abbrev a : ℕ
a = 0x30000402

abbrev b : ℕ
b = 0x30000202

abbrev c : ℕ
c = 0x30000002

abbrev f : ℕ
f = 0x30000601

-- the worked table: document 001's table II, width 8; the labels are the letters' ASCII codes
abbrev pub worked : List ℕ
worked =
    (0x10070008 ∷ [])
    -- A 00aabbcc, unless a = 00 and c is neither 00 nor 11, or a = 11
    ++ (0x20410832 ∷ 0xc0 ∷ 0x00 ∷ a ∷ b ∷ c ∷ [])
    ++ (0x40000002 ∷ 0x30 ∷ 0x00 ∷ 0x50000000 ∷ 0x03 ∷ 0x00 ∷ 0x50000000 ∷ 0x03 ∷ 0x03 ∷ [])
    ++ (0x40000000 ∷ 0x30 ∷ 0x30 ∷ [])
    -- B 01aabbcc, unless a = 11
    ++ (0x20420831 ∷ 0xc0 ∷ 0x40 ∷ a ∷ b ∷ c ∷ 0x40000000 ∷ 0x30 ∷ 0x30 ∷ [])
    -- C 10aabb00, D 10aabb01
    ++ (0x20430820 ∷ 0xc3 ∷ 0x80 ∷ a ∷ b ∷ [])
    ++ (0x20440820 ∷ 0xc3 ∷ 0x81 ∷ a ∷ b ∷ [])
    -- E 0000bb01, F 0000bb10
    ++ (0x20450810 ∷ 0xf3 ∷ 0x01 ∷ b ∷ [])
    ++ (0x20460810 ∷ 0xf3 ∷ 0x02 ∷ b ∷ [])
    -- G 0f11bbcc
    ++ (0x20470830 ∷ 0xb0 ∷ 0x30 ∷ f ∷ b ∷ c ∷ [])
