-- What the words of a node of a tree are, and what its entries keep.
use Rattle.std.proofs.Common.{◌≡◌, ◌≢◌, ◌⊎◌, inl, inr, ℕ, zero, suc, ◌+◌, ◌-◌, ◌*◌, ◌/◌, ◌%◌, ◌<◌, ◌≤◌, ◌^◌, List, [], ◌∷◌, ◌++◌, length, replicate, get_or, Option, None, Some, slice_get, refl, sym, ap, subst, ◌∙◌, add-one, arith, length-append}
use Rattle.std.specs.Prelude.{slice_set}
use Rattle.std.specs.Option.{option_map}
use Rattle.std.proofs.lemmas.Bool.{and_from, and_left, and_right, cases_eq, cond-false, cond-true, eq-eqb, ne_eqb}
use Rattle.std.proofs.lemmas.List.{get_or-set_other, get_or-set_same, length-map, length-replicate, length-set, same_lists}
use Rattle.std.proofs.lemmas.List.FromFn.{get_or-map-range_with_len, length-map-range_with_len}
use Rattle.std.proofs.lemmas.Option.{none-some, same_Some, slice_get-get_or, slice_get-map, slice_get_within}
use Rattle.nesc_base.specs.Memory.{node_size}
use Rattle.nesc_base.specs.Runs.{AreRuns, IsRun}
use Rattle.nesc_base.specs.declared.runs.Run.{Run}
use Rattle.extent_node.specs.Entries.{most_entries}
use Rattle.extent_node.specs.Rules.{IsRange}
use Rattle.extent_node.specs.Words.{AreReadable, count_word, entry_at, entry_words, first_word, kind_word, node_words, place_word, word}
use Rattle.extent_node.specs.declared.entries.Entry.{Entry}
use Rattle.extent_node.specs.declared.node.Kind.{Kind}
use Rattle.extent_node.specs.declared.node.Kind.TheVariants.{Inner, Leaf}
use Rattle.extent_node.proofs.Listed.{are_node_words, entry_of_node, zero_of_node}
use Rattle.tree_shape.specs.Shape.{HasNode, border, children, fanout, leaf_runs, width}
use Rattle.tree_shape.proofs.Borders.{border_strictly, border_within, has_children}
use Rattle.tree_shape.proofs.Leaves.{leaf_at, leaf_length}
use Rattle.tree_words.specs.Changed.{with_node}
use Rattle.tree_words.specs.Laws.{AgreeBelow, AreLocal, HasLowAddresses, HasReadableWords, KeepEntryRules, LinksChild, SaysChildren, SaysRuns}
use Rattle.tree_words.specs.Shown.{Layout, child_entry, inner_entries, leaf_entries, leaf_entry, words_at}

-- Entries of a leaf

map_some : {X Y : Type 0} (f : X → Y) (o : Option X) (y : Y) → option_map f o ≡ Some y → (x : X) × (o ≡ Some x) × (f x ≡ y)
map_some f None y is = absurd (none-some y is)
map_some f (Some x) y is = (x, refl, same_Some (f x) y is)

leaf_length_most : (runs : List Run) (k : ℕ) → length (leaf_entries runs k) ≤ most_entries
leaf_length_most runs k = omega (arith, length-map (leaf_runs runs k) leaf_entry, leaf_length runs k)

-- entry j of a leaf is for the run there
leaf_entry_of : (runs : List Run) (k j : ℕ) (entry : Entry) → slice_get (leaf_entries runs k) j ≡ Some entry
    → (run : Run) × (slice_get runs (k * fanout + j) ≡ Some run) × (leaf_entry run ≡ entry)
leaf_entry_of runs k j entry is =
    let found = map_some leaf_entry (slice_get (leaf_runs runs k) j) entry (sym (slice_get-map leaf_entry (leaf_runs runs k) j) ∙ is) in
    let within : j < fanout = omega (arith, slice_get_within (leaf_runs runs k) j found.0 found.1, leaf_length runs k) in
    (found.0, sym (leaf_at runs k j within) ∙ found.1, found.2)

leaf_ranges : (runs : List Run) → AreRuns runs → (k j : ℕ) (entry : Entry) → slice_get (leaf_entries runs k) j ≡ Some entry
    → IsRange entry.first entry.count
leaf_ranges runs are k j entry is =
    let of = leaf_entry_of runs k j entry is in
    let run : IsRun of.0 = are.each (k * fanout + j) of.0 of.1 in
    subst (λ (e : Entry). IsRange e.first e.count) of.2 (record { some = run.some; filed = run.filed })

leaf_rising : (runs : List Run) → AreRuns runs → (k j : ℕ) (entry next : Entry) → slice_get (leaf_entries runs k) j ≡ Some entry
    → slice_get (leaf_entries runs k) (j + 1) ≡ Some next → entry.first + entry.count ≤ next.first
leaf_rising runs are k j entry next is follows =
    let of = leaf_entry_of runs k j entry is in
    let then = leaf_entry_of runs k (j + 1) next follows in
    let place : k * fanout + (j + 1) ≡ k * fanout + j + 1 = omega arith in
    let behind = are.rising (k * fanout + j) of.0 then.0 of.1 (ap (λ (i : ℕ). slice_get runs i) (sym place) ∙ then.1) in
    let first : entry.first ≡ of.0.first = ap (λ (e : Entry). e.first) (sym of.2) in
    let count : entry.count ≡ of.0.count = ap (λ (e : Entry). e.count) (sym of.2) in
    let after : next.first ≡ then.0.first = ap (λ (e : Entry). e.first) (sym then.2) in
    let later = behind.later in
    omega arith

-- Entries of an inner node

inner_length : (runs : List Run) (layout : Layout) (level k : ℕ) → length (inner_entries runs layout level k) ≡ children (length runs) level k
inner_length runs layout level k = length-map-range_with_len (child_entry runs layout level) (k * fanout) (children (length runs) level k)

inner_at : (runs : List Run) (layout : Layout) (level k i : ℕ) (none : Entry) → i < children (length runs) level k
    → get_or (inner_entries runs layout level k) i none ≡ child_entry runs layout level (k * fanout + i)
inner_at runs layout level k i none within =
    let same : k * fanout + i ≡ k * fanout + i = refl in
    get_or-map-range_with_len (child_entry runs layout level) (k * fanout) (children (length runs) level k) i (k * fanout + i) none within same

inner_some : (runs : List Run) (layout : Layout) (level k i : ℕ) → i < children (length runs) level k
    → slice_get (inner_entries runs layout level k) i ≡ Some (child_entry runs layout level (k * fanout + i))
inner_some runs layout level k i within =
    let none : Entry = record { first = 0; count = 0; place = 0 } in
    let less : i < length (inner_entries runs layout level k) = omega (arith, inner_length runs layout level k) in
    slice_get-get_or (inner_entries runs layout level k) i none less
    ∙ ap (λ (e : Entry). let some : Option Entry = Some e in some) (inner_at runs layout level k i none within)

inner_of : (runs : List Run) (layout : Layout) (level k i : ℕ) (entry : Entry) → slice_get (inner_entries runs layout level k) i ≡ Some entry
    → (i < children (length runs) level k) × (child_entry runs layout level (k * fanout + i) ≡ entry)
inner_of runs layout level k i entry is =
    let within : i < children (length runs) level k =
    omega (arith, slice_get_within (inner_entries runs layout level k) i entry is, inner_length runs layout level k) in
    (within, same_Some (child_entry runs layout level (k * fanout + i)) entry (sym (inner_some runs layout level k i within) ∙ is))

child_among : (runs : List Run) (level k i : ℕ) → i < children (length runs) level k → k * fanout + i < width (length runs) level
child_among runs level k i within = omega arith

inner_ranges : (runs : List Run) → AreRuns runs → (layout : Layout) (level k i : ℕ) (entry : Entry)
    → slice_get (inner_entries runs layout level k) i ≡ Some entry → IsRange entry.first entry.count
inner_ranges runs are layout level k i entry is =
    let of = inner_of runs layout level k i entry is in
    let c : ℕ = k * fanout + i in
    let less : c < c + 1 = omega arith in
    let rises = border_strictly runs are level c (c + 1) (child_among runs level k i of.0) less in
    let ends = border_within runs are level (c + 1) in
    subst (λ (e : Entry). IsRange e.first e.count) of.1 (record { some = omega arith; filed = omega arith })

inner_joined : (runs : List Run) → AreRuns runs → (layout : Layout) (level k i : ℕ) (entry next : Entry)
    → slice_get (inner_entries runs layout level k) i ≡ Some entry → slice_get (inner_entries runs layout level k) (i + 1) ≡ Some next
    → entry.first + entry.count ≡ next.first
inner_joined runs are layout level k i entry next is follows =
    let of = inner_of runs layout level k i entry is in
    let then = inner_of runs layout level k (i + 1) next follows in
    let c : ℕ = k * fanout + i in
    let less : c < c + 1 = omega arith in
    let rises = border_strictly runs are level c (c + 1) (child_among runs level k i of.0) less in
    let place : k * fanout + (i + 1) ≡ c + 1 = omega arith in
    let first : entry.first ≡ border runs level c = ap (λ (e : Entry). e.first) (sym of.1) in
    let count : entry.count ≡ border runs level (c + 1) - border runs level c = ap (λ (e : Entry). e.count) (sym of.1) in
    let after : next.first ≡ border runs level (c + 1) = ap (λ (e : Entry). e.first) (sym then.1) ∙ ap (λ (n : ℕ). border runs level n) place in
    omega arith

pub keep_entry_rules : (runs : List Run) (layout : Layout) → AreRuns runs → KeepEntryRules runs layout
keep_entry_rules runs layout are = record {
  leaf = λ k. record {
    few = leaf_length_most runs k;
    each = leaf_ranges runs are k;
    rising = leaf_rising runs are k;
  };
  inner = λ level k there.
      let has = has_children runs level k there in
      let some = has.some in
      let most = has.most in
      record {
        some = omega (arith, inner_length runs layout level k);
        few = omega (arith, inner_length runs layout level k);
        each = inner_ranges runs are layout level k;
        joined = inner_joined runs are layout level k;
      };
}

-- Words

words_inner : (runs : List Run) (layout : Layout) (level k : ℕ)
    → words_at runs layout (level + 1) k ≡ node_words Inner (inner_entries runs layout level k)
words_inner runs layout level k = ap (λ (l : ℕ). words_at runs layout l k) (add-one level)

length_entry_words : (entries : List Entry) → length (entry_words entries) ≡ 3 * length entries
length_entry_words [] = refl
length_entry_words (e ∷ entries) = omega (arith, length_entry_words entries)

length_node_words : (kind : Kind) (entries : List Entry) → length entries ≤ most_entries → length (node_words kind entries) ≡ node_size
length_node_words kind entries few =
    let zeros : List ℕ = replicate (30 - 3 * length entries) 0 in
    let rest : length zeros ≡ 30 - 3 * length entries = length-replicate {A = ℕ} (30 - 3 * length entries) 0 in
    omega (arith, length-append (entry_words entries) zeros, length_entry_words entries)

inner_few : (runs : List Run) (layout : Layout) (level k : ℕ) → length (inner_entries runs layout level k) ≤ most_entries
inner_few runs layout level k = omega (arith, inner_length runs layout level k)

-- a node of any level has as many words as a node has
pub words_size : (runs : List Run) (layout : Layout) (level k : ℕ) → length (words_at runs layout level k) ≡ node_size
words_size runs layout zero k = length_node_words Leaf (leaf_entries runs k) (leaf_length_most runs k)
words_size runs layout (suc level) k = length_node_words Inner (inner_entries runs layout level k) (inner_few runs layout level k)

word_some : (words : List ℕ) (i x : ℕ) → length words ≡ node_size → i < node_size → word words i ≡ x → slice_get words i ≡ Some x
word_some words i x size within is =
    let less : i < length words = omega arith in
    slice_get-get_or words i 0 less ∙ ap (λ (w : ℕ). Some w) is

entry_says : (runs : List Run) (layout : Layout) (level k i : ℕ) → i < children (length runs) level k
    → entry_at (words_at runs layout (level + 1) k) i ≡ child_entry runs layout level (k * fanout + i)
entry_says runs layout level k i within =
    ap (λ (words : List ℕ). entry_at words i) (words_inner runs layout level k)
    ∙ entry_of_node Inner (inner_entries runs layout level k) i (child_entry runs layout level (k * fanout + i)) (inner_some runs layout level k i within)

pub says_children : (runs : List Run) (layout : Layout) (level k : ℕ) → SaysChildren runs layout level k
says_children runs layout level k =
    let words : List ℕ = words_at runs layout (level + 1) k in
    let size = words_size runs layout (level + 1) k in
    record {
      size = size;
      kind = ap (λ (all : List ℕ). slice_get all 0) (words_inner runs layout level k);
      number = ap (λ (all : List ℕ). slice_get all 1) (words_inner runs layout level k) ∙ ap (λ (n : ℕ). Some n) (inner_length runs layout level k);
      first = λ i within. word_some words (first_word i) (border runs level (k * fanout + i)) size (omega arith)
          (ap (λ (e : Entry). e.first) (entry_says runs layout level k i within));
      count = λ i within. word_some words (count_word i) (border runs level (k * fanout + i + 1) - border runs level (k * fanout + i)) size (omega arith)
          (ap (λ (e : Entry). e.count) (entry_says runs layout level k i within));
      place = λ i within. word_some words (place_word i) (layout level (k * fanout + i)) size (omega arith)
          (ap (λ (e : Entry). e.place) (entry_says runs layout level k i within));
    }

pub says_runs : (runs : List Run) (layout : Layout) (k : ℕ) → SaysRuns runs layout k
says_runs runs layout k = record {
  size = words_size runs layout 0 k;
  kind = refl;
  number = ap (λ (n : ℕ). Some n) (length-map (leaf_runs runs k) leaf_entry);
}

-- Each word is a number of 32 bits

small_first : (w : ℕ) (words : List ℕ) → w < 2 ^ 32 → ((i : ℕ) → word words i < 2 ^ 32) → (i : ℕ) → word (w ∷ words) i < 2 ^ 32
small_first w words low rest zero = low
small_first w words low rest (suc i) = rest i

small_zeros : (n i : ℕ) → word (replicate n 0) i < 2 ^ 32
small_zeros zero i = omega arith
small_zeros (suc n) zero = omega arith
small_zeros (suc n) (suc i) = small_zeros n i

record IsSmall (entry : Entry) : Type 0 where
  first : entry.first < 2 ^ 32
  count : entry.count < 2 ^ 32
  place : entry.place < 2 ^ 32

small_entries : (entries : List Entry) (n : ℕ) → ((k : ℕ) (entry : Entry) → slice_get entries k ≡ Some entry → IsSmall entry)
    → (i : ℕ) → word (entry_words entries ++ replicate n 0) i < 2 ^ 32
small_entries [] n each = small_zeros n
small_entries (e ∷ entries) n each =
    let head : IsSmall e = each 0 e refl in
    let rest = small_entries entries n (λ k entry is. each (suc k) entry is) in
    small_first e.first (e.count ∷ e.place ∷ (entry_words entries ++ replicate n 0)) head.first
    (small_first e.count (e.place ∷ (entry_words entries ++ replicate n 0)) head.count
    (small_first e.place (entry_words entries ++ replicate n 0) head.place rest))

small_kind : (kind : Kind) → kind_word kind < 2 ^ 32
small_kind Leaf = omega arith
small_kind Inner = omega arith

readable_node : (kind : Kind) (entries : List Entry) → length entries ≤ most_entries
    → ((k : ℕ) (entry : Entry) → slice_get entries k ≡ Some entry → IsSmall entry) → AreReadable (node_words kind entries)
readable_node kind entries few each =
    let rest : List ℕ = entry_words entries ++ replicate (30 - 3 * length entries) 0 in
    let low : length entries < 2 ^ 32 = omega arith in
    record {
      few = few;
      small = small_first (kind_word kind) (length entries ∷ rest) (small_kind kind)
          (small_first (length entries) rest low (small_entries entries (30 - 3 * length entries) each));
    }

leaf_small : (runs : List Run) → AreRuns runs → (k j : ℕ) (entry : Entry) → slice_get (leaf_entries runs k) j ≡ Some entry → IsSmall entry
leaf_small runs are k j entry is =
    let of = leaf_entry_of runs k j entry is in
    let run : IsRun of.0 = are.each (k * fanout + j) of.0 of.1 in
    let filed = run.filed in
    let placed = run.placed in
    subst IsSmall of.2 (record { first = omega arith; count = omega arith; place = omega arith })

inner_small : (runs : List Run) → AreRuns runs → (layout : Layout) → HasLowAddresses layout → (level k i : ℕ) (entry : Entry)
    → slice_get (inner_entries runs layout level k) i ≡ Some entry → IsSmall entry
inner_small runs are layout low level k i entry is =
    let of = inner_of runs layout level k i entry is in
    let from = border_within runs are level (k * fanout + i) in
    let to = border_within runs are level (k * fanout + i + 1) in
    subst IsSmall of.1 (record { first = omega arith; count = omega arith; place = low level (k * fanout + i) })

pub readable_words : (runs : List Run) (layout : Layout) → AreRuns runs → HasReadableWords runs layout
readable_words runs layout are low zero k = readable_node Leaf (leaf_entries runs k) (leaf_length_most runs k) (leaf_small runs are k)
readable_words runs layout are low (suc level) k =
    readable_node Inner (inner_entries runs layout level k) (inner_few runs layout level k) (inner_small runs are layout low level k)

-- Where children stand

pub with_node_here : (layout : Layout) (level k address : ℕ) → with_node layout level k address level k ≡ address
with_node_here layout level k address = cond-true _ address (layout level k) (and_from _ _ (eq-eqb level level refl) (eq-eqb k k refl))

pub with_node_other : (layout : Layout) (level k address other j : ℕ) → (other ≢ level) ⊎ (j ≢ k)
    → with_node layout level k address other j ≡ layout other j
with_node_other layout level k address other j (inl apart) = cond-false _ address (layout other j) (and_left _ _ (ne_eqb other level apart))
with_node_other layout level k address other j (inr apart) = cond-false _ address (layout other j) (and_right _ _ (ne_eqb j k apart))

same_child : (runs : List Run) (one other : Layout) (level c : ℕ) → one level c ≡ other level c
    → child_entry runs one level c ≡ child_entry runs other level c
same_child runs one other level c same =
    ap (λ (place : ℕ). let entry : Entry = record { first = border runs level c; count = border runs level (c + 1) - border runs level c; place = place } in entry) same

inner_agree : (runs : List Run) (one other : Layout) (level k : ℕ) → AgreeBelow runs one other level k
    → inner_entries runs one level k ≡ inner_entries runs other level k
inner_agree runs one other level k agree =
    let long = inner_length runs one level k ∙ sym (inner_length runs other level k) in
    same_lists (inner_entries runs one level k) (inner_entries runs other level k) long (λ i none less.
    let within : i < children (length runs) level k = omega (arith, inner_length runs one level k) in
    inner_at runs one level k i none within
    ∙ same_child runs one other level (k * fanout + i) (agree i within)
    ∙ sym (inner_at runs other level k i none within))

pub are_local : (runs : List Run) (one other : Layout) → AreLocal runs one other
are_local runs one other = record {
  leaf = λ k. refl;
  inner = λ level k agree.
      words_inner runs one level k
      ∙ ap (λ (entries : List Entry). node_words Inner entries) (inner_agree runs one other level k agree)
      ∙ sym (words_inner runs other level k);
}

same_entry : (a b c x y z : ℕ) → a ≡ x → b ≡ y → c ≡ z
    → (let one : Entry = record { first = a; count = b; place = c } in let other : Entry = record { first = x; count = y; place = z } in one ≡ other)
same_entry a b c x y z p q r = rw (p, q, r) refl

-- entry j of a node, in whose entry i another place was put
entry_put : (words : List ℕ) (i j address : ℕ) → length words ≡ node_size → i < most_entries
    → (let there : Entry = record { first = word words (first_word j); count = word words (count_word j); place = word words (place_word j) } in
    let put : Entry = record { first = word words (first_word j); count = word words (count_word j); place = address } in
    ((j ≡ i) × (entry_at (slice_set words (place_word i) address) j ≡ put))
    ⊎ ((j ≢ i) × (entry_at (slice_set words (place_word i) address) j ≡ there)))
entry_put words i j address size few =
    let new : List ℕ = slice_set words (place_word i) address in
    let first : word new (first_word j) ≡ word words (first_word j) =
    get_or-set_other words (place_word i) (first_word j) address 0 (λ same. omega arith) in
    let count : word new (count_word j) ≡ word words (count_word j) =
    get_or-set_other words (place_word i) (count_word j) address 0 (λ same. omega arith) in
    elim (cases_eq j i) [
      | inl same ↦
          let within : place_word i < length words = omega arith in
          let place : word new (place_word j) ≡ address =
          ap (λ (n : ℕ). word new (place_word n)) same ∙ get_or-set_same words (place_word i) address 0 within in
          inl (same, same_entry _ _ _ _ _ _ first count place)
      | inr apart ↦
          let place : word new (place_word j) ≡ word words (place_word j) =
          get_or-set_other words (place_word i) (place_word j) address 0 (λ same. apart (omega arith)) in
          inr (apart, same_entry _ _ _ _ _ _ first count place)
    ]

entry_linked : (runs : List Run) (layout : Layout) (level k i address j : ℕ) → i < children (length runs) level k
    → j < children (length runs) level k
    → entry_at (slice_set (words_at runs layout (level + 1) k) (place_word i) address) j
    ≡ child_entry runs (with_node layout level (k * fanout + i) address) level (k * fanout + j)
entry_linked runs layout level k i address j slot within =
    let new : Layout = with_node layout level (k * fanout + i) address in
    let words : List ℕ = words_at runs layout (level + 1) k in
    let few : i < most_entries = omega arith in
    let says = entry_says runs layout level k j within in
    elim (entry_put words i j address (words_size runs layout (level + 1) k) few) [
      | inl here ↦
          let place : address ≡ new level (k * fanout + j) =
          sym (with_node_here layout level (k * fanout + i) address) ∙ ap (λ (n : ℕ). new level (k * fanout + n)) (sym here.0) in
          here.1 ∙ same_entry _ _ _ _ _ _ (ap (λ (e : Entry). e.first) says) (ap (λ (e : Entry). e.count) says) place
      | inr other ↦
          let apart : k * fanout + j ≢ k * fanout + i = λ same. other.0 (omega arith) in
          other.1 ∙ says
          ∙ same_child runs layout new level (k * fanout + j) (sym (with_node_other layout level (k * fanout + i) address level (k * fanout + j) (inr apart)))
    ]

pub links_child : (runs : List Run) (layout : Layout) (level k : ℕ) → LinksChild runs layout level k
links_child runs layout level k i address within =
    let new : Layout = with_node layout level (k * fanout + i) address in
    let words : List ℕ = words_at runs layout (level + 1) k in
    let entries : List Entry = inner_entries runs new level k in
    let size : length words ≡ 32 = words_size runs layout (level + 1) k in
    let many : length entries ≡ children (length runs) level k = inner_length runs new level k in
    let few : length entries ≤ most_entries = inner_few runs new level k in
    let slot : i < most_entries = omega arith in
    let number : word words 1 ≡ length entries =
    ap (λ (all : List ℕ). word all 1) (words_inner runs layout level k) ∙ inner_length runs layout level k ∙ sym many in
    are_node_words (slice_set words (place_word i) address) Inner entries (length-set words (place_word i) address ∙ size) few
    (get_or-set_other words (place_word i) 0 address 0 (λ same. omega arith)
    ∙ ap (λ (all : List ℕ). word all 0) (words_inner runs layout level k))
    (get_or-set_other words (place_word i) 1 address 0 (λ same. omega arith) ∙ number)
    (λ j entry is.
    let of = inner_of runs new level k j entry is in
    entry_linked runs layout level k i address j within of.0 ∙ of.1)
    (λ z behind.
    let past : first_word (length (inner_entries runs layout level k)) ≤ z = omega (arith, inner_length runs layout level k) in
    get_or-set_other words (place_word i) z address 0 (λ same. omega arith)
    ∙ ap (λ (all : List ℕ). word all z) (words_inner runs layout level k)
    ∙ zero_of_node Inner (inner_entries runs layout level k) z past)
    ∙ sym (words_inner runs new level k)

-- which child a node of the shape is of the node above it
pub is_child : (runs : List Run) (top level k : ℕ) → HasNode (length runs) top level k
    → (k % fanout < children (length runs) level (k / fanout)) × (k / fanout * fanout + k % fanout ≡ k)
is_child runs top level k has = let among = has.among in ((omega arith), (omega arith))
