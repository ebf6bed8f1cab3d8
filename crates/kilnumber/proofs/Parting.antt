-- The parts of a walk's 64 bits do not run into each other: each answer of a walk, in any words, has room in its part. Assumes nothing.
use Prim.Native.Nat.{ℕ, zero, suc, ◌+◌, ◌*◌, ◌%◌, ◌^◌, ◌≤◌, ◌<◌}
use native.Mathlib.Omega.{arith}
use mathlib.Core.Path.{◌≡◌, refl}
use mathlib.Core.List.{List}
use mathlib.Core.Option.{Option, none, some}
use Rattle.std.specs.Prelude.{Some}
use lib.Dec.{eqb, ltb}
use lib.ListN.{length}
use Rattle.words.specs.Words.{word, bit, part, bits}
use Rattle.words.specs.Bytes.{words_of}
use Rattle.words.specs.Outcome.{Outcome, result, faulty, refused}
use Rattle.words.proofs.Logic.{cases}
use Rattle.words.proofs.Parts.{part_lt}
use Rattle.flat.specs.Nodes.{good, header_of, node_of}
use Rattle.flat.specs.declared.Node.TheVariants.{Asks, Names}
use Rattle.flat.specs.Walk.{Ending, arrives, breaks, after, path, Walk, ended, enters, walk_of}
use Rattle.flat.proofs.Reading.{header-cases, header_nodes, header_number, node-cases, Says, node_says}
use Rattle.walker.specs.Walked.{walk_bytes}
use Rattle.kilnumber.specs.Packed.{packed}

-- "entry in 7–0, bit 8 for nothing, count in 31–16, number in 39–32 (0 if none), place in 63–48, the rest zero"
pub record Parts (entry nothing count number place r : ℕ) : Type 0 where
  pub entry_in : bits 7 0 r ≡ entry
  pub nothing_in : bits 8 8 r ≡ nothing
  pub rest_low : bits 15 9 r ≡ 0
  pub count_in : bits 31 16 r ≡ count
  pub number_in : bits 39 32 r ≡ number
  pub rest_high : bits 47 40 r ≡ 0
  pub place_in : bits 63 48 r ≡ place
  pub all : r < 2 ^ 64

-- of a walk that names an entry, or nothing, with its count; and of a refusal
abbrev pub PartsNamed : Option ℕ → ℕ → ℕ → Type 0
PartsNamed (some e) count r = Parts e 0 count 0 0 r
PartsNamed none count r = Parts 0 1 count 0 0 r

abbrev pub PartsOf : Outcome Walk → ℕ → Type 0
PartsOf (result a) r = PartsNamed a.entry a.count r
PartsOf (faulty number place) r = Parts 0 0 0 number place r
PartsOf (refused number place w) r = Parts 0 0 0 number place r

-- ---- how large they are

abbrev Byte : Option ℕ → Type 0
Byte (some e) = e < 256
Byte none = Unit {0}

-- how a path of at most `fuel` nodes, of a tree of n, ends
unfoldable Bounded : ℕ → ℕ → Ending → Type 0
Bounded fuel n (arrives e bs) = Byte e × (length bs ≤ fuel)
Bounded fuel n (breaks number place) = (number ≡ 9) × (place ≤ n)

more : (fuel n b : ℕ) (e : Ending) → Bounded fuel n e → Bounded (suc fuel) n (after b e)
unfolding Bounded
more fuel n b (arrives e bs) h = (h.0, omega (arith, h.1))
more fuel n b (breaks number place) h = h

path_bounded : (ws : List ℕ) (width n w fuel i : ℕ) → i ≤ n → Bounded fuel n (path fuel ws width n w i)
unfolding path Bounded Says
path_bounded ws width n w zero i h = (refl, h)
path_bounded ws width n w (suc fuel) i h =
    node-cases (node_of width n i (word ws i))
    (λ d. rw d (refl, h))
    (λ b k d.
    let s : Says width n i (Some (Asks b k)) = rw d at (node_says width n i (word ws i)) in
    rw d (cases (bit w b)
    (λ t. rw t (more fuel n b (path fuel ws width n w k) (path_bounded ws width n w fuel k s.3)))
    (λ t. rw t (more fuel n b (path fuel ws width n w (i + 1)) (path_bounded ws width n w fuel (i + 1) (omega (arith, s.2, s.3)))))))
    (λ e d. let s : Says width n i (Some (Names e)) = rw d at (node_says width n i (word ws i)) in rw d (s, omega arith))
    (λ d. rw d (tt, omega arith))

-- a header's number of nodes has 16 bits
header_few : (x words v n : ℕ) → header_of x words ≡ good v n → n < 65536
header_few x words v n h = omega (arith, header_number x words v n h, part_lt x 0 16)

-- ---- the parts

entry_parts : (e count : ℕ) → e < 256 → count < 65536 → Parts e 0 count 0 0 (e + count * 2 ^ 16)
unfolding part
entry_parts e count h k = omega arith

nothing_parts : (count : ℕ) → count < 65536 → Parts 0 1 count 0 0 (2 ^ 8 + count * 2 ^ 16)
unfolding part
nothing_parts count k = omega arith

refusal_parts : (number place : ℕ) → number < 256 → place < 65536 → Parts 0 0 0 number place (number * 2 ^ 32 + place * 2 ^ 48)
unfolding part
refusal_parts number place h k = omega arith

ended_parts : (n : ℕ) (e : Ending) → n < 65536 → Bounded n n e → PartsOf (ended e) (packed (ended e))
unfolding Bounded
ended_parts n (arrives (some e) bs) h b = entry_parts e (length bs) b.0 (omega (arith, b.1))
ended_parts n (arrives none bs) h b = nothing_parts (length bs) (omega (arith, b.1))
ended_parts n (breaks number place) h b = refusal_parts number place (omega (arith, b.0)) (omega (arith, b.1))

words_parts : (ws : List ℕ) (w : ℕ) → PartsOf (walk_of ws w) (packed (walk_of ws w))
unfolding walk_of enters
words_parts ws w =
    header-cases (header_of (word ws 0) (length ws))
    (λ d. rw d (refusal_parts 8 0 (omega arith) (omega arith)))
    (λ v n d. rw d (cases (ltb w (2 ^ v))
    (λ t. rw t (ended_parts n (path n ws v n w 1) (header_few (word ws 0) (length ws) v n d) (path_bounded ws v n w n 1 (header_nodes (word ws 0) (length ws) v n d))))
    (λ t. rw t (refusal_parts 7 0 (omega arith) (omega arith)))))

pub bytes_parts : (bytes : List ℕ) (w : ℕ) → PartsOf (walk_bytes bytes w) (packed (walk_bytes bytes w))
unfolding walk_bytes
bytes_parts bytes w =
    cases (eqb (length bytes % 4) 0)
    (λ t. rw t (words_parts (words_of bytes) w))
    (λ t. rw t (refusal_parts 8 0 (omega arith) (omega arith)))
