-- What the walker's calls answer, and the walk of a tree that is given as bytes ('Written form').
use Rattle.std.specs.Prelude.{ℕ, ◌+◌, ◌%◌, ◌^◌, ◌≤◌, ◌<◌, cond, List, eqb, ltb, length, Option, Some, None, Result, Ok, Err}
use Rattle.std.proofs.Math.Option as named
use Rattle.words.specs.Words.{word, bit}
use Rattle.words.specs.Bytes.{words_of}
use Rattle.words.specs.Outcome.{Outcome, result, faulty, refused, said_as, maybe_of}
use Rattle.words.specs.declared.Refusal.{Refusal}
use Rattle.words.specs.declared.Refusal.TheVariants as refusal
use Rattle.flat.specs.Walk.{Walk, walk_of}
use Rattle.flat.specs.Nodes.{header_of}
use Rattle.flat.specs.declared.Header.{Header}
use Rattle.flat.specs.declared.Node.{Node}
use Rattle.flat.specs.declared.Node.TheVariants as node
use Rattle.walker.specs.declared.Walked as found
use Rattle.walker.specs.declared.Went.{Went}
use Rattle.walker.specs.declared.Went.TheVariants as went

-- what a walk that finishes answers
abbrev pub meant : found.Walked → Walk
meant a = record { entry = maybe_of a.entry; count = a.count; mask = a.mask }

-- the paper's number and place for each case of the answer
abbrev pub said : Result found.Walked Refusal → Outcome Walk
said = said_as meant

-- "with the tree as bytes, each word low byte first; a length not a multiple of four gives 8"
unfoldable pub walk_bytes : List ℕ → ℕ → Outcome Walk
walk_bytes bytes w = cond (eqb (length bytes % 4) 0) (walk_of (words_of bytes) w) (refused 8 0 0)

-- the same of words in either form, of which some bytes are left over: no rest is of words as they are
abbrev pub walk_in : ℕ → List ℕ → ℕ → Outcome Walk
walk_in rest ws w = cond (eqb rest 0) (walk_of ws w) (refused 8 0 0)

abbrev pub SmallEntry : named.Option ℕ → Type 0
SmallEntry (named.some e) = e < 256
SmallEntry named.none = Unit {0}

-- every part of the answer but the mask has its place in 64 bits: an entry and a number below 256, a count and a place below 65,536
abbrev pub Small : Outcome Walk → Type 0
Small (result a) = SmallEntry a.entry × (a.count < 65536)
Small (faulty number place) = (number < 256) × (place < 65536)
Small (refused number place w) = (number < 256) × (place < 65536)

-- ---- before the path

-- "Walking: 8, 7, 9": the first two, by the header
unfoldable pub entered_of : Option Header → ℕ → Result Header Refusal
entered_of None w = Err refusal.BadHeader
entered_of (Some h) w = cond (ltb w (2 ^ h.width)) (Ok h) (Err refusal.TooWide)

unfoldable pub entered_in : ℕ → List ℕ → ℕ → Result Header Refusal
entered_in rest ws w = cond (eqb rest 0) (entered_of (header_of (word ws 0) (length ws)) w) (Err refusal.BadHeader)

-- there are nodes, and fewer than 65,536
abbrev pub EnteredBounds : Result Header Refusal → Type 0
EnteredBounds (Ok h) = (1 ≤ h.nodes) × (h.nodes < 65536)
EnteredBounds (Err r) = Unit {0}

-- ---- one node

-- where the path goes from a node at index i: on to an index, by a bit that it tests, or it ends there; a damaged node is refused by its index
unfoldable pub went_of : Option Node → ℕ → ℕ → Result Went Refusal
went_of None w i = Err (refusal.Damaged i)
went_of (Some (node.Asks b k)) w i = Ok (went.On (cond (bit w b) k (i + 1)) b)
went_of (Some (node.Names e)) w i = Ok (went.Ends (Some e))
went_of (Some node.Nothing) w i = Ok (went.Ends None)

-- a path goes to a higher index, and no further than the last, by a bit of 32; an entry is below 256
abbrev pub WentBounds : Result Went Refusal → ℕ → ℕ → Type 0
WentBounds (Err r) n i = Unit {0}
WentBounds (Ok (went.On k b)) n i = (i < k) × (k ≤ n) × (b < 32)
WentBounds (Ok (went.Ends (Some e))) n i = e < 256
WentBounds (Ok (went.Ends None)) n i = Unit {0}
