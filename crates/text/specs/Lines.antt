-- The lines that `mktree` prints.
use Rattle.std.specs.Prelude.{ℕ, List, [], ◌∷◌, ◌++◌}
use Rattle.text.specs.Digits.{decimal_text, hex_text}

-- a space, and the end of a line
abbrev pub space : List ℕ
space = 32 ∷ []

abbrev pub newline : List ℕ
newline = 10 ∷ []

-- `refused` and a space
abbrev pub refused_text : List ℕ
refused_text = 114 ∷ 101 ∷ 102 ∷ 117 ∷ 115 ∷ 101 ∷ 100 ∷ 32 ∷ []

-- a word of a tree: its index in decimal, a space, and the word in hexadecimal
unfoldable pub tree_line : ℕ → ℕ → List ℕ
tree_line index word = decimal_text index ++ space ++ hex_text word ++ newline

-- a refusal: its number and place in decimal, and the word in hexadecimal
unfoldable pub refusal_line : ℕ → ℕ → ℕ → List ℕ
refusal_line number place word =
    refused_text ++ decimal_text number ++ space ++ decimal_text place ++ space ++ hex_text word ++ newline
