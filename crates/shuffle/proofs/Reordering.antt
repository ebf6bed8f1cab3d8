-- Document 02, No. 12, sentence by sentence, over the definitions that the calls' contracts cite. Assumes nothing.
--   `maker::generate` answers `generate_of (read_table ws) (length out)` and leaves `buffer_of (read_table ws) out`; `maker::measure` answers
--   `measure_of (read_table ws)`, `selection::lookup` `look_of (read_table ws) w`, `operands::decode` `decode_of (read_table ws) w (length out)`, whose
--   `buffer_after` it leaves, `operands::encode` `encode_of (read_table ws) e values`, `walker::walk` `walk_of words w`, `cost::cycles`
--   `cycles_of (read_table ws) e`, `withdrawal::count_changed` `changed_of (read_table ws) e list`, `checker::check` `check_of (read_table ws) words`,
--   `image::list` `list_of (read_table ws) words image (length out)`, whose `buffer_of` it leaves, and `image::step` `step_of (read_table ws) words image a`.
--     permuted (Permutations.antt)     every permutation of a list of entries is an order of it
--     reordered_words     every table that reads has words for every order of its entries
--     generated_alike     refused alike for 5, for 6 with the word, and for 19; else the same length
--     refused_same, after_trees     what a refusal leaves, and what stands after the trees
--     word_moved, others_same, leaf_names, walk_moved     the words of the two trees, and their walks
--     reached_alike     who is reached
--     entries_same, sized_alike, lookup_moved, decode_moved, fields_same, encode_moved     the other calls: the moved entry, and nothing else
--     cycles_moved, count_moved     an entry's cycles, and how many words its withdrawal changes
--     names_only     a tree that is generated names only entries of its table
--     check_moved, list_moved, items_moved, step_moved     the check, a listing with its buffer, and a step, with the tree's leaves renumbered
use Prim.Native.Nat.{ℕ, ◌+◌, ◌*◌, ◌^◌, ◌<◌}
use native.Mathlib.Omega.{arith}
use mathlib.Core.Path.{◌≡◌, sym, ap, ap₂, ◌∙◌}
use mathlib.Core.Logic.{◌↔◌}
use mathlib.Core.List.{List}
use lib.ListN.{length, drop, replicate, get_or-map}
use Rattle.words.specs.Tests.{◌and◌}
use Rattle.words.specs.Words.{word, part}
use Rattle.words.specs.Outcome.{Outcome, result}
use Rattle.table.specs.Table.{Entry, Table, entry_number, kind_of}
use Rattle.table.specs.Check.{read_table}
use Rattle.choice.specs.Rule.{names}
use Rattle.layout.specs.Layout.{table_words}
use Rattle.layout.specs.Readable.{Small, Means}
use Rattle.layout.proofs.Drawing.{drawn_words}
use Rattle.selection.specs.Lookup.{look_of}
use Rattle.operands.specs.Calls.{Decoded, decode_of, buffer_after, encode_of}
use Rattle.flat.specs.Walk.{Walk, walk_of}
use Rattle.tree.specs.Tree.{tree, size}
use Rattle.tree.specs.Written.{header_word, leaf_word, written}
use Rattle.tree.specs.Generate.{measured, generate_of, buffer_of, survey_of, measure_of}
use Rattle.tree.proofs.Demand.{read_sane, judgement, flat_small, buffer_is, word_is, after_is, refused_zero}
use Rattle.tree.proofs.Reach.{Reached}
use Rattle.shuffle.specs.Shuffled.{Shuffled}
use Rattle.cost.specs.Cost.{cycles_of}
use Rattle.withdrawal.specs.Counted.{changed_of}
use Rattle.checker.specs.Checker.{check_of}
use Rattle.image.specs.declared.HalfwordAddress.{HalfwordAddress}
use Rattle.image.specs.Listing.{list_of, buffer_of as items_of, step_of}
use Rattle.shuffle.specs.Moved.{moved_words, NamesOnly, moved_items, items_left, moved_stepped, moved_word, moved_walk, moved_answer, moved_decoded, Alike}
use Rattle.shuffle.proofs.Permutations.{turned}
use Rattle.shuffle.proofs.Answering.{look_shuffled, decode_shuffled, buffer_moved, encode_shuffled}
use Rattle.shuffle.proofs.Listings.{check_shuffled, list_shuffled, buffer_shuffled, step_shuffled, cycles_shuffled, count_shuffled}
use Rattle.shuffle.proofs.Moving.{size_moved, depth_moved, stays, leaf_moved}
use Rattle.shuffle.proofs.Shuffling.{within, reached_moved, as_many}
use Rattle.shuffle.proofs.Generating.{written_shuffled, names_entry_lem, walks_shuffled, judged_shuffled}

-- a table that reads has, for every order of its entries, words of 32 bits, of its kind, that read as the table in that order
pub reordered_words : (ws : List ℕ) (t : Table) → read_table ws ≡ result t → Small ws → (fs : List Entry) → Shuffled t.entries fs
    → Means (kind_of (word ws 0)) t.width fs (table_words (kind_of (word ws 0)) t.width fs)
reordered_words ws t reads s fs order = drawn_words ws t reads s fs order.from (within fs t.entries (turned order))

-- a tree that is generated names only entries of its table
pub names_only : (ws out : List ℕ) (t : Table) → read_table ws ≡ result t → (n : ℕ) → generate_of (read_table ws) (length out) ≡ result n
    → NamesOnly t.entries (buffer_of (read_table ws) out)
unfolding written header_word leaf_word part
names_only ws out t reads n generated i h k z =
    let sane = read_sane ws t reads in
    let small = flat_small ws out t reads n generated in
    let long = (judgement ws out t reads n generated).1 in
    let first : word (buffer_of (read_table ws) out) 0 ≡ 7 * 2 ^ 28 + t.width * 2 ^ 16 + size (tree t.entries t.width) = word_is ws out t reads n generated 0 (omega arith) in
    let at_i = word_is ws out t reads n generated i (omega arith) in
    let (e, l, q) = names_entry_lem t sane small i (omega arith) (ap kind_of (sym at_i) ∙ k) in
    let x : word (buffer_of (read_table ws) out) i ≡ 9 * 2 ^ 28 + e = at_i ∙ q in
    omega (arith, sane.short)

-- ---- two tables that read, of one width, the entries of the second in another order

module _ (ws vs : List ℕ) (t u : Table) (reads : read_table ws ≡ result t) (also : read_table vs ≡ result u) (wide : u.width ≡ t.width)
    (s : Shuffled t.entries u.entries) where
  -- ---- "generating into equally long buffers"

  module _ (out into : List ℕ) (long : length into ≡ length out) where
    -- "is refused alike for 5, 6 and the word"; "For 19 the two tables are refused alike"; else it returns the same length
    pub generated_alike : Alike (generate_of (read_table ws) (length out)) (generate_of (read_table vs) (length into))
    unfolding generate_of
    generated_alike = rw (reads, also, long) (judged_shuffled t u wide s (length out) (λ g. size g + 1) (λ g. ap (λ (n : ℕ). n + 1) (size_moved s.to g)))

    -- a refusal leaves both buffers the same: all zero
    pub refused_same : ((n : ℕ) → generate_of (read_table ws) (length out) ≡ result n → ⊥) → buffer_of (read_table vs) into ≡ buffer_of (read_table ws) out
    refused_same h =
        refused_zero vs into u also (λ n q. h n ((generated_alike.answer n).1 q)) ∙ ap (λ (n : ℕ). replicate n 0) long ∙ sym (refused_zero ws out t reads h)

    module _ (n : ℕ) (generated : generate_of (read_table ws) (length out) ≡ result n) where
      -- then the second is generated too, of the same length; what stands after the trees is unchanged
      again : generate_of (read_table vs) (length into) ≡ result n
      again = (generated_alike.answer n).0 generated

      pub after_trees : (drop n (buffer_of (read_table ws) out) ≡ drop n out) × (drop n (buffer_of (read_table vs) into) ≡ drop n into)
      after_trees = (after_is ws out t reads n generated, after_is vs into u also n again)

      -- each word of the width walks by the same tests to the moved entry
      pub walk_moved : (w : ℕ) → w < 2 ^ t.width
          → (a : Walk) × (walk_of (buffer_of (read_table ws) out) w ≡ result a) × (walk_of (buffer_of (read_table vs) into) w ≡ result (moved_walk s.to a))
      walk_moved w h =
          rw (buffer_is ws out t reads n generated, buffer_is vs into u also n again)
          (walks_shuffled t u wide s (read_sane ws t reads) (flat_small ws out t reads n generated) (read_sane vs u also) _ _ w h)

      -- "at the same indices"
      module _ (i : ℕ) (h : i < n) where
        abbrev here : ℕ
        here = word (buffer_of (read_table ws) out) i

        abbrev there : ℕ
        there = word (buffer_of (read_table vs) into) i

        -- each word of the second tree is the first's, with the entry moved where it names one
        pub word_moved : there ≡ moved_word s.to here
        unfolding moved_word part ◌and◌
        word_moved =
            word_is vs into u also n again i h
            ∙ ap (λ (x : List ℕ). word x i) (written_shuffled t u wide s (read_sane ws t reads) (flat_small ws out t reads n generated))
            ∙ get_or-map (moved_word s.to) (written t.width (tree t.entries t.width)) i 0
            ∙ ap (moved_word s.to) (sym (word_is ws out t reads n generated i h))

        -- "the trees have the same tests and nothings"
        pub others_same : (kind_of here ≡ 9 → ⊥) → there ≡ here
        others_same d = word_moved ∙ stays s.to here d

        -- "and each leaf names the moved entry"
        pub leaf_names : kind_of here ≡ 9
            → (e : ℕ) × (e < length t.entries) × (here ≡ leaf_word (names e)) × (there ≡ leaf_word (names (s.to e)))
            × (entry_number u.entries (s.to e) ≡ entry_number t.entries e)
        leaf_names k =
            let sane = read_sane ws t reads in
            let at_i = word_is ws out t reads n generated i h in
            let (e, l, q) = names_entry_lem t sane (flat_small ws out t reads n generated) i (omega (arith, (judgement ws out t reads n generated).1)) (ap kind_of (sym at_i) ∙ k) in
            let few : e < 256 = omega (arith, sane.short) in
            (e, l, at_i ∙ q, word_moved ∙ ap (moved_word s.to) (at_i ∙ q) ∙ sym (leaf_moved s.to (names e) (λ d p. let z : e ≡ d = cc in rw z at few)), s.each e l)

  -- ---- "For 19 the two tables are refused alike, though the lowest entry may differ"

  -- an entry is selected by some word of the width exactly when the moved one is (that the place may differ: Examples.antt, lowest_differs)
  pub reached_alike : (e : ℕ) → e < length t.entries → (Reached t.entries t.width e) ↔ (Reached u.entries u.width (s.to e))
  reached_alike e h = (
    λ r. rw wide (reached_moved t.entries u.entries s t.width e r),
    λ r. rw (s.from_to e h) at (reached_moved u.entries t.entries (turned s) t.width (s.to e) (rw wide at r)),
  )

  -- ---- "must change no more than entry numbers"

  -- the tables have as many entries
  pub entries_same : length u.entries ≡ length t.entries
  entries_same = as_many t.entries u.entries s

  -- sizing is refused alike, and else has the same numbers
  pub sized_alike : Alike (measure_of (read_table ws)) (measure_of (read_table vs))
  unfolding measure_of survey_of
  sized_alike =
      rw (reads, also)
      (judged_shuffled t u wide s 16384 measured (λ g. ap₂ (λ (n d : ℕ). record { nodes = n; tests = d }) (size_moved s.to g) (depth_moved s.to g)))

  -- lookup answers the moved entry
  pub lookup_moved : (w : ℕ) → look_of (read_table vs) w ≡ moved_answer s.to (look_of (read_table ws) w)
  lookup_moved w = rw (reads, also) (look_shuffled t u wide s w)

  -- decoding answers it and leaves the same field values, and encoding it gives the same
  pub decode_moved : (w room : ℕ) → decode_of (read_table vs) w room ≡ moved_decoded s.to (decode_of (read_table ws) w room)
  decode_moved w room = rw (reads, also) (decode_shuffled t u wide s w room)

  pub fields_same : (w : ℕ) (out : List ℕ) → buffer_after (decode_of (read_table vs) w (length out)) out ≡ buffer_after (decode_of (read_table ws) w (length out)) out
  fields_same w out = ap (λ (r : Outcome Decoded). buffer_after r out) (decode_moved w (length out)) ∙ buffer_moved s.to (decode_of (read_table ws) w (length out)) out

  pub encode_moved : (e : ℕ) → e < length t.entries → (values : List ℕ) → encode_of (read_table vs) (s.to e) values ≡ encode_of (read_table ws) e values
  encode_moved e h values = rw (reads, also) (encode_shuffled t u s e h values)

  -- an entry's cycles, and how many words of a list its withdrawal changes, are those of the moved entry
  pub cycles_moved : (e : ℕ) → e < length t.entries → cycles_of (read_table vs) (s.to e) ≡ cycles_of (read_table ws) e
  cycles_moved e h = rw (reads, also) (cycles_shuffled t u wide s (read_sane ws t reads).short e h)

  pub count_moved : (e : ℕ) → e < length t.entries → (list : List ℕ) → changed_of (read_table vs) (s.to e) list ≡ changed_of (read_table ws) e list
  count_moved e h list = rw (reads, also) (count_shuffled t u wide s (read_sane ws t reads).short e h list)

  -- of a tree, whoever made it, that names only entries of the table, and the same with its leaves renumbered:
  module _ (words : List ℕ) (only : NamesOnly t.entries words) where
    -- the check says the same,
    pub check_moved : check_of (read_table vs) (moved_words s.to words) ≡ check_of (read_table ws) words
    check_moved = rw (reads, also) (check_shuffled t u wide s (read_sane ws t reads).short words only)

    -- a listing answers the same, and leaves the moved items,
    pub list_moved : (image : List ℕ) (room : ℕ) → list_of (read_table vs) (moved_words s.to words) image room ≡ list_of (read_table ws) words image room
    list_moved image room = rw (reads, also) (list_shuffled t u wide s (read_sane ws t reads).short words only image room)

    pub items_moved : (image out : List ℕ) → items_of (read_table vs) (moved_words s.to words) image out
        ≡ moved_items s.to (items_left (list_of (read_table ws) words image (length out)) (length out)) (items_of (read_table ws) words image out)
    items_moved image out = rw (reads, also) (buffer_shuffled t u wide s (read_sane ws t reads).short words only image out)

    -- and a step gives the moved item, with the same address after it and the same mask
    pub step_moved : (image : List ℕ) (a : HalfwordAddress) → step_of (read_table vs) (moved_words s.to words) image a ≡ moved_stepped s.to (step_of (read_table ws) words image a)
    step_moved image a = rw (reads, also) (step_shuffled t u wide s (read_sane ws t reads).short words only image a)
