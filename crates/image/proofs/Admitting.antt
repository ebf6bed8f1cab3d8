-- What refuses a listing and a step. Assumes nothing.
use mathlib.Core.Path.{◌≡◌, refl, sym, ap, ◌∙◌}
use mathlib.Core.Bool.{Bool, true, false, cond}
use mathlib.Core.Logic.{◌↔◌}
use mathlib.Core.List.{List, []}
use mathlib.Core.Option.{Option}
use Prim.Native.Nat.{ℕ, ◌%◌, ◌≤◌, ◌<◌}
use native.Mathlib.Omega.{arith}
use borrow.Author.Tests.{le-leb, lt-leb, leb-true, eqb-true, ne_eqb}
use lib.Dec.{eqb}
use lib.ListN.{length, get_or}
use Rattle.std.specs.Prelude.{Result, Ok, Err, Some, None}
use Rattle.std.specs.Result.{is_err}
use Rattle.words.specs.Tests.{◌and◌, all_of}
use Rattle.words.specs.Words.{word}
use Rattle.words.proofs.Logic.{cases, same, and_l, and_r, all_of_at, all_of_make}
use Rattle.words.proofs.Outcomes.{not_refused, not_faulty, refused_no_result}
use Rattle.words.specs.Outcome.{Outcome, result, faulty, refused, number_of, refused_as, said}
use Rattle.words.specs.declared.Refusal.{Refusal}
use Rattle.words.specs.declared.Refusal.TheVariants as refusal
use Rattle.table.specs.Table.{Entry, Table, count_of, entry_at, entry_number, table_of}
use Rattle.table.specs.Check.{fine, table_check, read_table}
use Rattle.table.specs.Ready.{Ready}
use Rattle.table.proofs.Laws.{length_entries}
use Rattle.table.proofs.Views.{ready_at}
use Rattle.flat.specs.Walk.{walk_of, mask_or_zero}
use Rattle.checker.specs.Checker.{accepts, check_of}
use Rattle.image.specs.declared.HalfwordAddress.{HalfwordAddress}
use Rattle.image.specs.declared.Item.{Item}
use Rattle.image.specs.Address.{word_at, halfwords}
use Rattle.image.specs.Items.{item_at, items}
use Rattle.image.specs.Listing.{image_size, image_table, image_good, refuse_unless, admitted, list_from, list_of, buffer_from, buffer_of, Lists, Step, handed_on, step_from, step_of, said_step}
use Rattle.image.specs.Parts.{Fills}

-- ---- what refuses is a fault of the table or one of the later numbers, whatever else the call would answer

pub refusal_cases {ℓ} : {G : Type ℓ} (r : Refusal) → ((n p : ℕ) → ((A : Type 0) → refused_as {A = A} r ≡ faulty n p) → G)
    → ((n p x : ℕ) → ((A : Type 0) → refused_as {A = A} r ≡ refused n p x) → G) → G
refusal_cases (refusal.Faulty f p) a b = a (number_of f) p (λ A. refl)
refusal_cases refusal.NoFit a b = b 5 0 0 (λ A. refl)
refusal_cases (refusal.Ambiguous w) a b = b 6 0 w (λ A. refl)
refusal_cases refusal.TooWide a b = b 7 0 0 (λ A. refl)
refusal_cases refusal.BadHeader a b = b 8 0 0 (λ A. refl)
refusal_cases (refusal.Damaged i) a b = b 9 i 0 (λ A. refl)
refusal_cases refusal.ShortBuffer a b = b 10 0 0 (λ A. refl)
refusal_cases refusal.NoEntry a b = b 11 0 0 (λ A. refl)
refusal_cases (refusal.Misfit i) a b = b 12 i 0 (λ A. refl)
refusal_cases (refusal.NotSelected w) a b = b 13 0 w (λ A. refl)
refusal_cases refusal.BadTree a b = b 14 0 0 (λ A. refl)
refusal_cases refusal.BadTable a b = b 15 0 0 (λ A. refl)
refusal_cases refusal.BadImage a b = b 16 0 0 (λ A. refl)
refusal_cases (refusal.Full p) a b = b 17 p 0 (λ A. refl)
refusal_cases refusal.NoRoom a b = b 18 0 0 (λ A. refl)
refusal_cases (refusal.Unreached e) a b = b 19 e 0 (λ A. refl)

-- ---- 15: the entries' lengths, one by one

module _ (ws places : List ℕ) (width count : ℕ) (r : Ready ws places width count) where
  abbrev es : List Entry
  es = (table_of ws).entries

  -- the entry at a place is the table's
  placed : (k : ℕ) → k < count → entry_number es k ≡ entry_at ws (get_or places k 0)
  placed k h = rw r.number at (ready_at ws places width count r k h (entry_number [] 0))

  few : length es ≡ count
  few = length_entries ws (count_of (word ws 0)) 1 ∙ sym r.number

  sizes_of : (b : Bool) → (b ≡ true) ↔ ((k : ℕ) → k < count → image_size (entry_at ws (get_or places k 0)) ≡ true) → b ≡ all_of image_size es
  sizes_of b f =
      same
      (λ t. all_of_make (entry_number [] 0) image_size es (λ k h. ap image_size (placed k (omega (arith, few))) ∙ f.0 t k (omega (arith, few))))
      (λ t. f.1 (λ k h. ap image_size (sym (placed k h)) ∙ all_of_at (entry_number [] 0) image_size es t k (omega (arith, few))))

  table_is : image_table (table_of ws) ≡ eqb width 32 and all_of image_size es
  unfolding image_table
  table_is = rw r.wide refl

  pub table_sizes : width ≡ 32 → (b : Bool) → (b ≡ true) ↔ ((k : ℕ) → k < count → image_size (entry_at ws (get_or places k 0)) ≡ true) → b ≡ image_table (table_of ws)
  unfolding ◌and◌
  table_sizes v b f = sizes_of b f ∙ sym (table_is ∙ rw v refl)

  pub table_not : (width ≡ 32 → ⊥) → eqb width 32 ≡ image_table (table_of ws)
  unfolding ◌and◌
  table_not h = ne_eqb width 32 h ∙ sym (table_is ∙ rw (ne_eqb width 32 h) refl)

-- a table for images has width 32, and an image that is good whole halfwords, at most 2 ^ 20 of them
pub table_wide : (t : Table) → image_table t ≡ true → t.width ≡ 32
unfolding image_table
table_wide t e = eqb-true _ _ (and_l _ e)

pub good_even : (image : List ℕ) → image_good image ≡ true → length image % 2 ≡ 0
unfolding image_good
good_even image e = eqb-true _ _ (and_l _ e)

pub good_short : (image : List ℕ) → image_good image ≡ true → length image ≤ 2097152
unfolding image_good
good_short image e = leb-true _ _ (and_r _ e)

-- ---- 14: what the checker answers, of a table that reads

module _ (ws tree : List ℕ) (good : table_check ws ≡ fine) where
  abbrev yes : Bool
  yes = accepts (table_of ws).entries (table_of ws).width tree

  checked_as : check_of (read_table ws) tree ≡ cond yes (result tt) (refused 14 0 0)
  unfolding check_of
  checked_as = rw good refl

  pub checked_yes : (r : Result Unit Refusal) → said r ≡ check_of (read_table ws) tree → is_err r ≡ false → yes ≡ true
  checked_yes (Ok u) e f = cases yes (λ t. t) (λ t. absurd (not_refused (rw t at (e ∙ checked_as))))
  checked_yes (Err r) e f = absurd (let q : true ≡ false = f in cc)

  pub checked_no : (r : Result Unit Refusal) → said r ≡ check_of (read_table ws) tree → is_err r ≡ true → yes ≡ false
  checked_no (Ok u) e f = absurd (let q : false ≡ true = f in cc)
  checked_no (Err r) e f = cases yes (λ t. absurd (refused_no_result r tt (rw t at (e ∙ checked_as)))) (λ t. t)

-- ---- the chain 15, 16, 14, for a table that reads

module _ (ws tree image : List ℕ) (good : table_check ws ≡ fine) where
  pub chain_table : image_table (table_of ws) ≡ false → refused 15 0 0 ≡ admitted (read_table ws) tree image
  unfolding admitted refuse_unless
  chain_table t = rw (good, t) refl

  pub chain_image : image_table (table_of ws) ≡ true → image_good image ≡ false → refused 16 0 0 ≡ admitted (read_table ws) tree image
  unfolding admitted refuse_unless
  chain_image t g = rw (good, t, g) refl

  module _ (t : image_table (table_of ws) ≡ true) (g : image_good image ≡ true) where
    pub chain_tree : accepts (table_of ws).entries (table_of ws).width tree ≡ false → refused 14 0 0 ≡ admitted (read_table ws) tree image
    unfolding admitted refuse_unless
    chain_tree a = rw (good, t, g, a) refl

    pub chain_ready : accepts (table_of ws).entries (table_of ws).width tree ≡ true → result (table_of ws).entries ≡ admitted (read_table ws) tree image
    unfolding admitted refuse_unless
    chain_ready a = rw (good, t, g, a) refl

-- the same backwards

unless_passed : {A : Type 0} (b : Bool) (n : ℕ) (r : Outcome A) (v : A) → refuse_unless b n r ≡ result v → (b ≡ true) × (r ≡ result v)
unfolding refuse_unless
unless_passed true n r v e = (refl, e)
unless_passed false n r v e = absurd (not_refused (sym e))

pub chain_passed : (r : Outcome Table) (tree image : List ℕ) (es : List Entry) → admitted r tree image ≡ result es
    → (t : Table) × (r ≡ result t) × (t.entries ≡ es) × (image_table t ≡ true) × (image_good image ≡ true) × (accepts t.entries t.width tree ≡ true)
unfolding admitted
chain_passed (result t) tree image es e =
    let a = unless_passed (image_table t) 15 _ es e in
    let b = unless_passed (image_good image) 16 _ es a.1 in
    let c = unless_passed (accepts t.entries t.width tree) 14 _ es b.1 in
    (t, refl, cc, a.0, b.0, c.0)
chain_passed (faulty n p) tree image es e = absurd (not_faulty (sym e))
chain_passed (refused n p x) tree image es e = absurd (not_refused (sym e))

-- ---- a listing and a step, by what admit answers

module _ (ws tree image : List ℕ) where
  module _ (r : Refusal) (e : refused_as r ≡ admitted (read_table ws) tree image) where
    pub list_refused : (out : List ℕ) → Lists ws tree image out out (Err r)
    unfolding list_of list_from buffer_of buffer_from
    list_refused out =
        refusal_cases r
        (λ n p q. record { answer = q ℕ ∙ rw (sym e ∙ q (List Entry)) refl; buffer = rw (sym e ∙ q (List Entry)) refl })
        (λ n p x q. record { answer = q ℕ ∙ rw (sym e ∙ q (List Entry)) refl; buffer = rw (sym e ∙ q (List Entry)) refl })

    pub step_refused : (at : HalfwordAddress) → refused_as r ≡ step_of (read_table ws) tree image at
    unfolding step_of step_from
    step_refused at = refusal_cases r (λ n p q. q (Option Step) ∙ rw (sym e ∙ q (List Entry)) refl) (λ n p x q. q (Option Step) ∙ rw (sym e ∙ q (List Entry)) refl)

  module _ (es : List Entry) (e : result es ≡ admitted (read_table ws) tree image) where
    pub list_filled : (before out : List ℕ) (r : _) → Fills (items es image) before out r → Lists ws tree image before out r
    unfolding list_of list_from buffer_of buffer_from
    list_filled before out r s = record { answer = s.answer ∙ rw (sym e) refl; buffer = s.buffer ∙ rw (sym e) refl }

    pub step_made : (at : HalfwordAddress) → step_from (result es) tree image at ≡ step_of (read_table ws) tree image at
    unfolding step_of
    step_made at = ap (λ (o : Outcome (List Entry)). step_from o tree image at) e

-- ---- the step where nothing is refused

module _ (es : List Entry) (tree image : List ℕ) (at : HalfwordAddress) where
  pub step_end : halfwords image ≤ at.0 → said_step (Ok None) ≡ step_from (result es) tree image at
  unfolding step_from
  step_end h = rw (le-leb (halfwords image) at.0 h) refl

  pub step_item : at.0 < halfwords image → (i : Item) → i ≡ item_at es image at → (m : ℕ) → m ≡ mask_or_zero (walk_of tree (word_at image at))
      → said_step (Ok (Some (record { word = i.word; next = i.next; mask = m }))) ≡ step_from (result es) tree image at
  unfolding step_from handed_on
  step_item h i q m k = rw (lt-leb (halfwords image) at.0 h, q, k) refl
