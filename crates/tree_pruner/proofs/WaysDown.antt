-- The way down a tree to a leaf.
use Rattle.std.proofs.Common.{◌≡◌, ◌≢◌, inl, inr, ℕ, ◌+◌, ◌-◌, ◌*◌, ◌%◌, ◌<◌, ◌≤◌, List, Some, length, slice_get, refl, sym, ap, subst, ◌∙◌, arith}
use Rattle.std.proofs.lemmas.Bool.{cases_eq}
use Rattle.std.proofs.lemmas.Option.{get_or_from_slice_get}
use Rattle.nesc_base.specs.Files.{longest_file}
use Rattle.nesc_base.specs.Memory.{IsNodeOf, node_at}
use Rattle.nesc_base.specs.Runs.{AreRuns}
use Rattle.nesc_base.specs.declared.runs.Run.{Run}
use Rattle.extent_node.specs.Rules.{Holds}
use Rattle.extent_node.specs.Words.{count_word, entry_at, first_word, place_word, word}
use Rattle.host_memory.specs.Pool.{Pool}
use Rattle.tree_shape.specs.Shape.{Covers, IsLeafOver, border, children, fanout, highest, node_over, width}
use Rattle.tree_shape.proofs.Beginnings.{few_runs}
use Rattle.tree_shape.proofs.Borders.{border_end, border_rising, border_within, cover_one}
use Rattle.tree_shape.proofs.Paths.{leaf_some, node_covers, node_there, over_above, over_leaf, over_root}
use Rattle.tree_shape.proofs.Spans.{low_top, width_root}
use Rattle.tree_words.specs.Shown.{Layout, ShowsAt, Stands, words_at}
use Rattle.tree_pruner.specs.Dropping.{HasTree}
use Rattle.tree_pruner.specs.Finding.{FindsLeaf, HasPlaceOver, HasWayDown, IsInner, IsLeafPlace, IsPlaceBelow, IsPlaceOver, LiesOver}
use Rattle.tree_pruner.specs.declared.finding.Place.{Place}
use Rattle.tree_words.proofs.NodeWords.{says_children, says_runs}
use Rattle.tree_pruner.proofs.Parts.{address_inside, some_stands}
use Rattle.tree_words.proofs.Paths.{stands_above}

-- What an inner node's words are

record Says (runs : List Run) (layout : Layout) (level k : ℕ) (words : List ℕ) : Type 0 where
  pub kind : word words 0 ≡ 2
  pub number : word words 1 ≡ children (length runs) level k
  pub first : (i : ℕ) → i < children (length runs) level k → (entry_at words i).first ≡ border runs level (k * fanout + i)
  pub count : (i : ℕ) → i < children (length runs) level k
      → (entry_at words i).count ≡ border runs level (k * fanout + i + 1) - border runs level (k * fanout + i)
  pub place : (i : ℕ) → i < children (length runs) level k → (entry_at words i).place ≡ layout level (k * fanout + i)

said : (words : List ℕ) (i w : ℕ) → slice_get words i ≡ Some w → word words i ≡ w
said words i w is = get_or_from_slice_get words i w 0 is

says_inner : (words : List ℕ) (runs : List Run) (top : ℕ) (layout : Layout) → ShowsAt words runs top layout
    → (level k : ℕ) → Stands layout (level + 1) k → Says runs layout level k (node_at words (layout (level + 1) k))
says_inner words runs top layout shows level k stands =
    let says = says_children runs layout level k in
    subst (λ (w : List ℕ). Says runs layout level k w) (sym (shows.says (level + 1) k stands)) (record {
      kind = said (words_at runs layout (level + 1) k) 0 2 says.kind;
      number = said (words_at runs layout (level + 1) k) 1 _ says.number;
      first = λ i within. said (words_at runs layout (level + 1) k) (first_word i) _ (says.first i within);
      count = λ i within. said (words_at runs layout (level + 1) k) (count_word i) _ (says.count i within);
      place = λ i within. said (words_at runs layout (level + 1) k) (place_word i) _ (says.place i within);
    })

says_leaf : (words : List ℕ) (runs : List Run) (top : ℕ) (layout : Layout) → ShowsAt words runs top layout
    → (k : ℕ) → Stands layout 0 k → word (node_at words (layout 0 k)) 0 ≡ 1
says_leaf words runs top layout shows k stands =
    ap (λ (w : List ℕ). word w 0) (shows.says 0 k stands) ∙ said (words_at runs layout 0 k) 0 1 (says_runs runs layout k).kind

-- One step down

-- the node of the path that lies under another one of it is one of its children, and covers the block
record IsNext (runs : List Run) (v leaf level : ℕ) : Type 0 where
  pub i : ℕ
  pub is : node_over level leaf ≡ node_over (level + 1) leaf * fanout + i
  pub among : i < children (length runs) level (node_over (level + 1) leaf)
  pub few : i < fanout
  pub covers : Covers runs level (node_over level leaf) v

is_next : (runs : List Run) (v leaf level top : ℕ) → AreRuns runs → IsLeafOver runs v leaf → level ≤ top → IsNext runs v leaf level
is_next runs v leaf level top are over low =
    let there = (node_there runs top v leaf level are over low).among in
    let above = over_above level leaf in
    record {
      i = node_over level leaf % 10;
      is = omega arith;
      among = omega arith;
      few = omega arith;
      covers = node_covers runs v leaf level are over;
    }

filed_entry : (runs : List Run) → AreRuns runs → (layout : Layout) (level k : ℕ) (words : List ℕ) → Says runs layout level k words
    → (i : ℕ) → i < children (length runs) level k → (entry_at words i).first + (entry_at words i).count ≤ longest_file
filed_entry runs are layout level k words says i among =
    let first = says.first i among in
    let count = says.count i among in
    let here = border_within runs are level (k * fanout + i) in
    let next = border_within runs are level (k * fanout + i + 1) in
    omega arith

inside_entry : (runs : List Run) (layout : Layout) (level k size : ℕ) (words : List ℕ) → Says runs layout level k words
    → ((j : ℕ) → layout level j ≤ size) → (i : ℕ) → i < children (length runs) level k → (entry_at words i).place ≤ size
inside_entry runs layout level k size words says inside i among =
    let place = says.place i among in
    let within = inside (k * fanout + i) in
    omega arith

holding_entry : (runs : List Run) (layout : Layout) (v leaf level : ℕ) (words : List ℕ) → Says runs layout level (node_over (level + 1) leaf) words
    → (next : IsNext runs v leaf level) → Holds (entry_at words next.i) v
holding_entry runs layout v leaf level words says next =
    let first = says.first next.i next.among in
    let count = says.count next.i next.among in
    let covers : Covers runs level (node_over (level + 1) leaf * fanout + next.i) v = subst (λ (k : ℕ). Covers runs level k v) next.is next.covers in
    let from = covers.from in
    let below = covers.below in
    record { from = omega arith; below = omega arith }

way_down_at : (words : List ℕ) (v : ℕ) (runs : List Run) (top : ℕ) (layout : Layout) (leaf level : ℕ) → LiesOver words v runs top layout leaf
    → level < top → Stands layout (level + 1) (node_over (level + 1) leaf)
    → HasWayDown (node_at words (layout (level + 1) (node_over (level + 1) leaf))) v (length words)
way_down_at words v runs top layout leaf level lies under stands =
    let low : level ≤ top = omega arith in
    let says : Says runs layout level (node_over (level + 1) leaf) (node_at words (layout (level + 1) (node_over (level + 1) leaf))) =
    says_inner words runs top layout lies.shows level (node_over (level + 1) leaf) stands in
    let next : IsNext runs v leaf level = is_next runs v leaf level top lies.are_runs lies.over low in
    let number = says.number in
    record {
      few = omega arith;
      some = (next.i, subst (λ (n : ℕ). next.i < n) (sym says.number) next.among, holding_entry runs layout v leaf level _ says next);
      filed = λ i among. filed_entry runs lies.are_runs layout level (node_over (level + 1) leaf) _ says i (subst (λ (n : ℕ). i < n) says.number among);
      inside = λ i among. inside_entry runs layout level (node_over (level + 1) leaf) (length words) _ says
          (address_inside words runs top layout lies.shows level) i (subst (λ (n : ℕ). i < n) says.number among);
    }

-- the entry that holds the block is that of the next node
right_entry : (runs : List Run) (layout : Layout) (v leaf level i : ℕ) (words : List ℕ) → AreRuns runs → IsLeafOver runs v leaf
    → Says runs layout level (node_over (level + 1) leaf) words → i < children (length runs) level (node_over (level + 1) leaf)
    → Holds (entry_at words i) v → node_over level leaf ≡ node_over (level + 1) leaf * fanout + i
right_entry runs layout v leaf level i words are over says among holds =
    let first = says.first i among in
    let count = says.count i among in
    let from = holds.from in
    let below = holds.below in
    let k : ℕ = node_over (level + 1) leaf * fanout + i in
    let low : border runs level k ≤ v = omega arith in
    let high : v < border runs level (k + 1) = omega arith in
    cover_one runs are level (node_over level leaf) k v (node_covers runs v leaf level are over) (record { from = low; below = high })

place_down_at : (words : List ℕ) (v : ℕ) (runs : List Run) (top : ℕ) (layout : Layout) (leaf level : ℕ) (next : Place) → LiesOver words v runs top layout leaf
    → level < top → Stands layout (level + 1) (node_over (level + 1) leaf)
    → IsPlaceBelow words (layout (level + 1) (node_over (level + 1) leaf)) v next → IsPlaceOver runs top layout leaf level next
place_down_at words v runs top layout leaf level next lies under stands below =
    let k : ℕ = node_over (level + 1) leaf in
    let node : List ℕ = node_at words (layout (level + 1) k) in
    let says : Says runs layout level k node = says_inner words runs top layout lies.shows level k stands in
    let among : next.entry < children (length runs) level k = subst (λ (n : ℕ). next.entry < n) says.number below.entry.among in
    let is : node_over level leaf ≡ k * fanout + next.entry =
    right_entry runs layout v leaf level next.entry node lies.are_runs lies.over says among below.entry.holds in
    let first = says.first next.entry among in
    let count = says.count next.entry among in
    let step : k * fanout + next.entry ≤ k * fanout + next.entry + 1 = omega arith in
    let rises = border_rising runs lies.are_runs level (k * fanout + next.entry) (k * fanout + next.entry + 1) step in
    let to = below.to in
    let end : next.hi ≡ border runs level (k * fanout + next.entry + 1) = omega arith in
    record {
      low = omega arith;
      node_is = below.node_is ∙ says.place next.entry among ∙ ap (λ (j : ℕ). layout level j) (sym is);
      from = below.from ∙ first ∙ ap (λ (j : ℕ). border runs level j) (sym is);
      to = end ∙ ap (λ (j : ℕ). border runs level (j + 1)) (sym is);
      hangs = inr (under, record { stands = stands; parent_is = below.parent_is; among = omega arith; entry_is = is });
    }

-- Whatever level the place is of

pub node_of_place : (words : List ℕ) (v : ℕ) (runs : List Run) (top : ℕ) (layout : Layout) (leaf level : ℕ) (place : Place) → LiesOver words v runs top layout leaf
    → IsPlaceOver runs top layout leaf level place → place.node ≢ 0 → Stands layout level (node_over level leaf)
node_of_place words v runs top layout leaf level place lies is some = some_stands layout level (node_over level leaf) place.node is.node_is some

not_leaf : (words : List ℕ) (v : ℕ) (runs : List Run) (top : ℕ) (layout : Layout) (leaf level : ℕ) (place : Place) → LiesOver words v runs top layout leaf
    → IsPlaceOver runs top layout leaf level place → place.node ≢ 0 → IsInner (node_at words place.node) → level ≢ 0
not_leaf words v runs top layout leaf level place lies is some inner none =
    let at : place.node ≡ layout 0 (node_over 0 leaf) = is.node_is ∙ ap (λ (l : ℕ). layout l (node_over l leaf)) none in
    let stands : Stands layout 0 (node_over 0 leaf) = some_stands layout 0 (node_over 0 leaf) place.node at some in
    let kind = says_leaf words runs top layout lies.shows (node_over 0 leaf) stands in
    let other : word (node_at words (layout 0 (node_over 0 leaf))) 0 ≡ 2 = subst (λ (a : ℕ). word (node_at words a) 0 ≡ 2) at inner in
    omega arith

-- an inner node is of a level above another
below_inner : (words : List ℕ) (v : ℕ) (runs : List Run) (top : ℕ) (layout : Layout) (leaf level : ℕ) (place : Place) → LiesOver words v runs top layout leaf
    → IsPlaceOver runs top layout leaf level place → place.node ≢ 0 → IsInner (node_at words place.node) → (low : ℕ) × (level ≡ low + 1)
below_inner words v runs top layout leaf level place lies is some inner =
    let not = not_leaf words v runs top layout leaf level place lies is some inner in
    (level - 1, (omega arith))

pub way_down : (words : List ℕ) (place : Place) (v height : ℕ) → HasPlaceOver words place v height → place.node ≢ 0
    → IsInner (node_at words place.node) → HasWayDown (node_at words place.node) v (length words)
way_down words place v height has some inner =
    let at = below_inner words v has.runs has.top has.layout has.leaf has.level place has.lies has.is some inner in
    let low = has.is.low in
    let is = at.1 in
    let under : at.0 < has.top = omega arith in
    let stands : Stands has.layout (at.0 + 1) (node_over (at.0 + 1) has.leaf) =
    subst (λ (l : ℕ). Stands has.layout l (node_over l has.leaf)) at.1 (node_of_place words v has.runs has.top has.layout has.leaf has.level place has.lies has.is some) in
    let node : place.node ≡ has.layout (at.0 + 1) (node_over (at.0 + 1) has.leaf) = has.is.node_is ∙ ap (λ (l : ℕ). has.layout l (node_over l has.leaf)) at.1 in
    subst (λ (a : ℕ). HasWayDown (node_at words a) v (length words)) (sym node) (way_down_at words v has.runs has.top has.layout has.leaf at.0 has.lies under stands)

place_down : (words : List ℕ) (v : ℕ) (runs : List Run) (top : ℕ) (layout : Layout) (leaf level : ℕ) (place next : Place) → LiesOver words v runs top layout leaf
    → IsPlaceOver runs top layout leaf level place → place.node ≢ 0 → IsInner (node_at words place.node) → IsPlaceBelow words place.node v next
    → (low : ℕ) × (level ≡ low + 1) × IsPlaceOver runs top layout leaf low next
place_down words v runs top layout leaf level place next lies place_is some inner below =
    let at = below_inner words v runs top layout leaf level place lies place_is some inner in
    let low = place_is.low in
    let is = at.1 in
    let under : at.0 < top = omega arith in
    let stands : Stands layout (at.0 + 1) (node_over (at.0 + 1) leaf) =
    subst (λ (l : ℕ). Stands layout l (node_over l leaf)) at.1 (node_of_place words v runs top layout leaf level place lies place_is some) in
    let node : place.node ≡ layout (at.0 + 1) (node_over (at.0 + 1) leaf) = place_is.node_is ∙ ap (λ (l : ℕ). layout l (node_over l leaf)) at.1 in
    (at.0, at.1, place_down_at words v runs top layout leaf at.0 next lies under stands (subst (λ (a : ℕ). IsPlaceBelow words a v next) node below))

pub has_next : (words : List ℕ) (place next : Place) (v height : ℕ) → HasPlaceOver words place v height → place.node ≢ 0
    → IsInner (node_at words place.node) → IsPlaceBelow words place.node v next → (0 < height) × HasPlaceOver words next v (height - 1)
has_next words place next v height has some inner below =
    let at = place_down words v has.runs has.top has.layout has.leaf has.level place next has.lies has.is some inner below in
    let low = has.low in
    let is = at.1 in (
      (omega arith),
      record { runs = has.runs; top = has.top; layout = has.layout; leaf = has.leaf; lies = has.lies; level = at.0; low = omega arith; is = at.2 },
    )

pub finds_next : (words : List ℕ) (place next found : Place) (v : ℕ) → place.node ≢ 0 → IsInner (node_at words place.node)
    → IsPlaceBelow words place.node v next → FindsLeaf words v next found → FindsLeaf words v place found
finds_next words place next found v some inner below finds runs top layout leaf level lies is =
    let at = place_down words v runs top layout leaf level place next lies is some inner below in
    finds runs top layout leaf at.0 lies at.2

leaf_here : (words : List ℕ) (v : ℕ) (runs : List Run) (top : ℕ) (layout : Layout) (leaf level : ℕ) (place : Place) → LiesOver words v runs top layout leaf
    → IsPlaceOver runs top layout leaf level place → place.node ≢ 0 → level ≡ 0 → IsLeafPlace runs top layout leaf place
leaf_here words v runs top layout leaf level place lies is some none =
    let here : IsPlaceOver runs top layout leaf 0 place = subst (λ (l : ℕ). IsPlaceOver runs top layout leaf l place) none is in
    let node : place.node ≡ layout 0 leaf = here.node_is ∙ ap (λ (k : ℕ). layout 0 k) (over_leaf leaf) in
    inl (some_stands layout 0 leaf place.node node some, node, here)

leaf_missing : (words : List ℕ) (v : ℕ) (runs : List Run) (top : ℕ) (layout : Layout) (leaf level : ℕ) (place : Place) → LiesOver words v runs top layout leaf
    → IsPlaceOver runs top layout leaf level place → place.node ≡ 0 → ¬ Stands layout 0 leaf
leaf_missing words v runs top layout leaf level place lies is none stands =
    let low : 0 ≤ level = omega arith in
    let there : Stands layout 0 (node_over 0 leaf) = subst (λ (k : ℕ). Stands layout 0 k) (sym (over_leaf leaf)) stands in
    stands_above words runs top leaf layout lies.shows 0 level low is.low there (sym is.node_is ∙ none)

inner_above : (words : List ℕ) (v : ℕ) (runs : List Run) (top : ℕ) (layout : Layout) (leaf level : ℕ) (place : Place) → LiesOver words v runs top layout leaf
    → IsPlaceOver runs top layout leaf level place → place.node ≢ 0 → level ≢ 0 → IsInner (node_at words place.node)
inner_above words v runs top layout leaf level place lies is some not =
    let low : ℕ = level - 1 in
    let at : level ≡ low + 1 = omega arith in
    let node : place.node ≡ layout (low + 1) (node_over (low + 1) leaf) = is.node_is ∙ ap (λ (l : ℕ). layout l (node_over l leaf)) at in
    let stands : Stands layout (low + 1) (node_over (low + 1) leaf) = some_stands layout (low + 1) (node_over (low + 1) leaf) place.node node some in
    subst (λ (a : ℕ). IsInner (node_at words a)) (sym node) (says_inner words runs top layout lies.shows low (node_over (low + 1) leaf) stands).kind

pub finds_here : (words : List ℕ) (place : Place) (v : ℕ) → ¬ ((place.node ≢ 0) × IsInner (node_at words place.node)) → FindsLeaf words v place place
finds_here words place v end runs top layout leaf level lies is = elim (cases_eq place.node 0) [
  | inl none ↦ inr (leaf_missing words v runs top layout leaf level place lies is none, none)
  | inr some ↦ elim (cases_eq level 0) [
    | inl low ↦ leaf_here words v runs top layout leaf level place lies is some low
    | inr high ↦ absurd (end (some, inner_above words v runs top layout leaf level place lies is some high))
  ]
]

pub place_placed : (words : List ℕ) (place : Place) (v height : ℕ) → HasPlaceOver words place v height → place.node ≢ 0 → IsNodeOf words place.node
place_placed words place v height has some =
    subst (λ (a : ℕ). IsNodeOf words a) (sym has.is.node_is)
    (has.lies.shows.placed has.level (node_over has.level has.leaf) (node_of_place words v has.runs has.top has.layout has.leaf has.level place has.lies has.is some))

-- From the root

abbrev pub whole : ℕ → Place
whole root = record { node = root; parent = 0; entry = 0; lo = 0; hi = longest_file }

pub whole_is : (words : List ℕ) (v root : ℕ) (runs : List Run) (top : ℕ) (layout : Layout) (leaf : ℕ) → LiesOver words v runs top layout leaf
    → root ≡ layout top 0 → IsPlaceOver runs top layout leaf top (whole root)
whole_is words v root runs top layout leaf lies is =
    let first : node_over top leaf ≡ 0 = over_root runs top v leaf lies.are_runs lies.shows.root_level lies.over in
    let past : width (length runs) top ≤ 0 + 1 = omega (arith, width_root (length runs) top lies.shows.root_level) in
    record {
      low = omega arith;
      node_is = is ∙ ap (λ (k : ℕ). layout top k) (sym first);
      from = ap (λ (k : ℕ). border runs top k) (sym first);
      to = sym (border_end runs top (0 + 1) past) ∙ ap (λ (k : ℕ). border runs top (k + 1)) (sym first);
      hangs = inl (refl, refl);
    }

pub has_whole : (pool : Pool) (words : List ℕ) (root v : ℕ) → HasTree pool words root → v < longest_file → HasPlaceOver words (whole root) v highest
has_whole pool words root v tree filed =
    let leaf = leaf_some tree.runs v filed in
    let lies : LiesOver words v tree.runs tree.shows.top tree.layout leaf.0 = record { are_runs = tree.are_runs; shows = tree.shows.shows; over = leaf.1 } in
    record {
      runs = tree.runs;
      top = tree.shows.top;
      layout = tree.layout;
      leaf = leaf.0;
      lies = lies;
      level = tree.shows.top;
      low = low_top _ tree.shows.top (few_runs tree.runs tree.are_runs) tree.shows.shows.root_level;
      is = whole_is words v root tree.runs tree.shows.top tree.layout leaf.0 lies tree.shows.root_is;
    }
