-- A part of a tree: which nodes it has, and that it goes as the parts under it go.
use Rattle.std.proofs.Common.{◌≡◌, ◌≢◌, ◌⊎◌, inl, inr, ℕ, zero, suc, ◌+◌, ◌-◌, ◌*◌, ◌/◌, ◌%◌, ◌<◌, ◌≤◌, List, Some, length, slice_get, refl, sym, ap, subst, ◌∙◌, add-one, arith}
use Rattle.std.proofs.lemmas.Bool.{cases_lt}
use Rattle.std.proofs.lemmas.Option.{get_or_from_slice_get}
use Rattle.nesc_base.specs.Memory.{IsNodeOf, node_at}
use Rattle.nesc_base.specs.declared.runs.Run.{Run}
use Rattle.extent_node.specs.Words.{word}
use Rattle.host_memory.specs.Pool.{GivesBack, HasGivenBack, IsTaken, Pool}
use Rattle.host_memory.proofs.PoolLaws.{gives_back, not_both}
use Rattle.tree_shape.specs.Shape.{children, fanout}
use Rattle.tree_shape.proofs.Spans.{root_alone}
use Rattle.tree_words.specs.Shown.{IsOfTree, Layout, ShowsAt, Stands, words_at}
use Rattle.tree_pruner.specs.Parts.{DropsPart, Frees, HasPart, IsBelow, IsInPart, hanging}
use Rattle.tree_words.proofs.NodeWords.{says_children}
use Rattle.tree_words.proofs.Showing.{child_word, stands_or_not}

-- Which nodes a part has

-- the number of the node that is so many levels above node k
abbrev pub up : ℕ → ℕ → ℕ
up zero k = k
up (suc d) k = up d k / fanout

-- the address is that of a node that is so many levels below node k
pub record Under (layout : Layout) (level k address : ℕ) : Type 0 where
  pub at : ℕ
  pub j : ℕ
  pub d : ℕ
  pub stands : Stands layout at j
  pub is : address ≡ layout at j
  pub levels : at + d ≡ level
  pub number : up d j ≡ k

pub part_under : (layout : Layout) (level k address : ℕ) → IsInPart layout level k address → Under layout level k address
part_under layout zero k address part = record { at = 0; j = k; d = 0; stands = part.0; is = part.1; levels = omega arith; number = refl }
part_under layout (suc level) k address part = elim part.1 [
  | inl own ↦ record { at = suc level; j = k; d = 0; stands = part.0; is = own; levels = omega arith; number = refl }
  | inr below ↦ (
      let u : Under layout level (k * fanout + below.0) address = part_under layout level (k * fanout + below.0) address below.2 in
      let less = below.1 in
      let levels = u.levels in
      let number = u.number in
      record { at = u.at; j = u.j; d = suc u.d; stands = u.stands; is = u.is; levels = omega arith; number = omega arith })
]

pub part_stands : (layout : Layout) (level k address : ℕ) → IsInPart layout level k address → Stands layout level k
part_stands layout zero k address part = part.0
part_stands layout (suc level) k address part = part.0

pub own_in_part : (layout : Layout) (level k : ℕ) → Stands layout level k → IsInPart layout level k (layout level k)
own_in_part layout zero k stands = (stands, refl)
own_in_part layout (suc level) k stands = (stands, inl refl)

below_in_part : (layout : Layout) (level k count address : ℕ) → count ≤ fanout → Stands layout level k → IsBelow layout level k count address → IsInPart layout level k address
below_in_part layout zero k count address few stands below = absurd below
below_in_part layout (suc level) k count address few stands below = let less = below.1 in (stands, inr (below.0, (omega arith), below.2))

own_or_below : (layout : Layout) (level k address : ℕ) → IsInPart layout level k address → (address ≡ layout level k) ⊎ IsBelow layout level k fanout address
own_or_below layout zero k address part = inl part.1
own_or_below layout (suc level) k address part = part.1

none_below : (layout : Layout) (level k address : ℕ) → ¬ IsBelow layout level k 0 address
none_below layout zero k address below = below
none_below layout (suc level) k address below = let less = below.1 in omega arith

-- parts of one level have no node together
same_part : (words : List ℕ) (runs : List Run) (top : ℕ) (layout : Layout) → ShowsAt words runs top layout
    → (level j k address : ℕ) → IsInPart layout level j address → IsInPart layout level k address → j ≡ k
same_part words runs top layout shows level j k address one other =
    let u : Under layout level j address = part_under layout level j address one in
    let v : Under layout level k address = part_under layout level k address other in
    let same = shows.apart u.at u.j v.at v.j u.stands (sym u.is ∙ v.is) in
    let levels : u.at ≡ v.at = same.0 in
    let above : u.d ≡ v.d = let one = u.levels in let other = v.levels in omega arith in
    sym u.number ∙ ap (λ (d : ℕ). up d u.j) above ∙ ap (λ (n : ℕ). up v.d n) same.1 ∙ v.number

-- no node is under itself
not_below : (words : List ℕ) (runs : List Run) (top : ℕ) (layout : Layout) → ShowsAt words runs top layout
    → (level k count : ℕ) → ¬ IsBelow layout level k count (layout level k)
not_below words runs top layout shows zero k count below = below
not_below words runs top layout shows (suc level) k count below =
    let u : Under layout level (k * fanout + below.0) (layout (suc level) k) = part_under layout level (k * fanout + below.0) (layout (suc level) k) below.2 in
    let same = shows.apart u.at u.j (suc level) k u.stands (sym u.is) in
    let at : u.at ≡ suc level = same.0 in
    let levels = u.levels in
    omega arith

-- The part of the root is the whole tree.

pub part_of_tree : (layout : Layout) (level k address : ℕ) → IsInPart layout level k address → IsOfTree layout address
part_of_tree layout level k address part =
    let u : Under layout level k address = part_under layout level k address part in
    (u.at, u.j, u.stands, u.is)

climb : (words : List ℕ) (runs : List Run) (top : ℕ) (layout : Layout) → ShowsAt words runs top layout
    → (address d level k : ℕ) → level + d ≡ top → IsInPart layout level k address → IsInPart layout top 0 address
climb words runs top layout shows address zero level k levels part =
    let at : level ≡ top = omega arith in
    let there : IsInPart layout top k address = subst (λ (l : ℕ). IsInPart layout l k address) at part in
    let first : k ≡ 0 = root_alone (length runs) top k shows.root_level (shows.nodes top k (part_stands layout top k address there)) in
    subst (λ (j : ℕ). IsInPart layout top j address) first there
climb words runs top layout shows address (suc d) level k levels part =
    let under : level < top = omega arith in
    let parent = shows.parents level k under (part_stands layout level k address part) in
    let stands : Stands layout (suc level) (k / 10) = subst (λ (l : ℕ). Stands layout l (k / 10)) (add-one level) parent in
    let number : k ≡ k / 10 * 10 + k % 10 = omega arith in
    let low : k % 10 < 10 = omega arith in
    climb words runs top layout shows address d (suc level) (k / 10) (omega arith)
    (stands, inr (k % 10, low, subst (λ (j : ℕ). IsInPart layout level j address) number part))

pub tree_in_part : (words : List ℕ) (runs : List Run) (top : ℕ) (layout : Layout) → ShowsAt words runs top layout
    → (address : ℕ) → IsOfTree layout address → IsInPart layout top 0 address
tree_in_part words runs top layout shows address node =
    let low : node.0 ≤ top = (shows.nodes node.0 node.1 node.2).at_level in
    let here : IsInPart layout node.0 node.1 address = subst (λ (a : ℕ). IsInPart layout node.0 node.1 a) (sym node.3) (own_in_part layout node.0 node.1 node.2) in
    climb words runs top layout shows address (top - node.0) node.0 node.1 (omega arith) here

-- Nodes that go

pub frees_none : (Given : ℕ → Type 0) (pool : Pool) → ((address : ℕ) → ¬ Given address) → Frees Given pool pool
frees_none Given pool none = record {
  each = λ address. (λ taken. (taken, none address), λ both. both.0);
  more = omega arith;
  as_many = refl;
}

pub frees_one : (old new : Pool) (node : ℕ) → GivesBack old node new → Frees (λ (address : ℕ). address ≡ node) old new
frees_one old new node gives =
    let given : HasGivenBack old node new = gives_back old new node gives in
    let gone : (address : ℕ) → IsTaken new address → address ≢ node =
    λ address taken same. not_both new node (subst (λ (a : ℕ). IsTaken new a) same taken) given.after in
    let count = given.one_more in
    record {
      each = λ address. (
        λ taken. ((given.others.taken address (gone address taken)).1 taken, gone address taken),
        λ both. (given.others.taken address both.1).0 both.0,
      );
      more = omega arith;
      as_many = given.as_many;
    }

-- one after the other
pub frees_both : (One Other Both : ℕ → Type 0) (old middle new : Pool) → Frees One old middle → Frees Other middle new
    → ((address : ℕ) → Both address → One address ⊎ Other address) → ((address : ℕ) → One address → Both address)
    → ((address : ℕ) → Other address → Both address) → Frees Both old new
frees_both One Other Both old middle new one other split first second =
    let more = one.more in
    let yet = other.more in
    record {
      each = λ address. (
        λ taken.
            let late = (other.each address).0 taken in
            let early = (one.each address).0 late.0 in
            (early.0, λ both. elim (split address both) [ inl here ↦ early.1 here | inr there ↦ late.1 there ]),
        λ kept. (other.each address).1 ((one.each address).1 (kept.0, λ here. kept.1 (first address here)), λ there. kept.1 (second address there)),
      );
      more = omega arith;
      as_many = other.as_many ∙ one.as_many;
    }

-- What a node says of the nodes under it

said_first : (words : List ℕ) (i w : ℕ) → slice_get words i ≡ Some w → word words i ≡ w
said_first words i w is = get_or_from_slice_get words i w 0 is

leaf_hangs : (words : List ℕ) (runs : List Run) (top : ℕ) (layout : Layout) → ShowsAt words runs top layout
    → (k : ℕ) → Stands layout 0 k → hanging (node_at words (layout 0 k)) ≡ 0
leaf_hangs words runs top layout shows k stands = ap (λ (w : List ℕ). hanging w) (shows.says 0 k stands)

inner_hangs : (words : List ℕ) (runs : List Run) (top : ℕ) (layout : Layout) → ShowsAt words runs top layout
    → (level k : ℕ) → Stands layout (suc level) k → hanging (node_at words (layout (suc level) k)) ≡ children (length runs) level k
inner_hangs words runs top layout shows level k stands =
    let said = (says_children runs layout level k).number in
    let number : word (words_at runs layout (suc level) k) 1 ≡ children (length runs) level k =
    subst (λ (l : ℕ). word (words_at runs layout l k) 1 ≡ children (length runs) level k) (add-one level) (said_first (words_at runs layout (level + 1) k) 1 _ said) in
    ap (λ (w : List ℕ). hanging w) (shows.says (suc level) k stands) ∙ number

-- what stands under a node is listed there
listed : (words : List ℕ) (runs : List Run) (top : ℕ) (layout : Layout) → ShowsAt words runs top layout
    → (level k count address : ℕ) → Stands layout level k → hanging (node_at words (layout level k)) ≤ count
    → IsBelow layout level k fanout address → IsBelow layout level k count address
listed words runs top layout shows zero k count address stands enough below = absurd below
listed words runs top layout shows (suc level) k count address stands enough below =
    let less = below.1 in
    let among = (shows.nodes level (k * fanout + below.0) (part_stands layout level (k * fanout + below.0) address below.2)).among in
    let hangs = inner_hangs words runs top layout shows level k stands in
    (below.0, (omega arith), below.2)

pub address_inside : (words : List ℕ) (runs : List Run) (top : ℕ) (layout : Layout) → ShowsAt words runs top layout
    → (level k : ℕ) → layout level k ≤ length words
address_inside words runs top layout shows level k = elim (stands_or_not layout level k) [
  | inl none ↦ omega arith
  | inr stands ↦ (let within = (shows.placed level k stands).within in omega arith)
]

-- Steps of dropping a part

pub some_stands : (layout : Layout) (level k node : ℕ) → node ≡ layout level k → node ≢ 0 → Stands layout level k
some_stands layout level k node is some none = some (is ∙ none)

pub node_placed : (pool : Pool) (words : List ℕ) (node height : ℕ) → HasPart pool words node height → node ≢ 0 → IsNodeOf words node
node_placed pool words node height part some =
    subst (λ (a : ℕ). IsNodeOf words a) (sym part.is) (part.shows.placed part.level part.k (some_stands part.layout part.level part.k node part.is some))

few_hang : (words : List ℕ) (runs : List Run) (top : ℕ) (layout : Layout) → ShowsAt words runs top layout
    → (level k : ℕ) → Stands layout level k → hanging (node_at words (layout level k)) ≤ fanout
few_hang words runs top layout shows zero k stands = omega (arith, leaf_hangs words runs top layout shows k stands)
few_hang words runs top layout shows (suc level) k stands = omega (arith, inner_hangs words runs top layout shows level k stands)

pub part_few : (pool : Pool) (words : List ℕ) (node height : ℕ) → HasPart pool words node height → node ≢ 0 → hanging (node_at words node) ≤ fanout
part_few pool words node height part some =
    subst (λ (a : ℕ). hanging (node_at words a) ≤ fanout) (sym part.is)
    (few_hang words part.runs part.top part.layout part.shows part.level part.k (some_stands part.layout part.level part.k node part.is some))

-- which node a child is
child_said : (words : List ℕ) (runs : List Run) (top : ℕ) (layout : Layout) → ShowsAt words runs top layout
    → (level k i : ℕ) → Stands layout (suc level) k → i < children (length runs) level k
    → word (node_at words (layout (suc level) k)) (4 + 3 * i) ≡ layout level (k * fanout + i)
child_said words runs top layout shows level k i stands less =
    let there : Stands layout (level + 1) k = subst (λ (l : ℕ). Stands layout l k) (sym (add-one level)) stands in
    let said = child_word words runs top layout shows level k i there less in
    subst (λ (l : ℕ). word (node_at words (layout l k)) (4 + 3 * i) ≡ layout level (k * fanout + i)) (add-one level)
    (said_first (node_at words (layout (level + 1) k)) (4 + 3 * i) (layout level (k * fanout + i)) said)

hung : (words : List ℕ) (runs : List Run) (top : ℕ) (layout : Layout) → ShowsAt words runs top layout
    → (level k i : ℕ) → Stands layout level k → i < hanging (node_at words (layout level k))
    → (low : ℕ) × (level ≡ suc low) × (word (node_at words (layout level k)) (4 + 3 * i) ≡ layout low (k * fanout + i))
hung words runs top layout shows zero k i stands less = absurd (omega (arith, leaf_hangs words runs top layout shows k stands))
hung words runs top layout shows (suc low) k i stands less =
    let within : i < children (length runs) low k = omega (arith, inner_hangs words runs top layout shows low k stands) in
    (low, refl, child_said words runs top layout shows low k i stands within)

hung_from : (words : List ℕ) (runs : List Run) (top : ℕ) (layout : Layout) → ShowsAt words runs top layout
    → (level k i node child : ℕ) → node ≡ layout level k → node ≢ 0 → i < hanging (node_at words node)
    → child ≡ word (node_at words node) (4 + 3 * i)
    → (low : ℕ) × (level ≡ suc low) × (child ≡ layout low (k * fanout + i))
hung_from words runs top layout shows level k i node child is some less says =
    let at = hung words runs top layout shows level k i (some_stands layout level k node is some)
    (subst (λ (a : ℕ). i < hanging (node_at words a)) is less) in
    (at.0, at.1, says ∙ ap (λ (a : ℕ). word (node_at words a) (4 + 3 * i)) is ∙ at.2)

pub child_inside : (pool : Pool) (words : List ℕ) (node height : ℕ) → HasPart pool words node height → node ≢ 0
    → (i child : ℕ) → i < hanging (node_at words node) → child ≡ word (node_at words node) (4 + 3 * i) → child ≤ length words
child_inside pool words node height part some i child less says =
    let at = hung_from words part.runs part.top part.layout part.shows part.level part.k i node child part.is some less says in
    let inside = address_inside words part.runs part.top part.layout part.shows at.0 (part.k * fanout + i) in
    let is = at.2 in
    omega arith

pub part_low : (pool : Pool) (words : List ℕ) (node height : ℕ) → HasPart pool words node height → node ≢ 0
    → (i : ℕ) → i < hanging (node_at words node) → 0 < height
part_low pool words node height part some i less =
    let at = hung_from words part.runs part.top part.layout part.shows part.level part.k i node (word (node_at words node) (4 + 3 * i)) part.is some less refl in
    let low = part.low in
    let is = at.1 in
    omega arith

-- before a child's part goes
child_part_at : (words : List ℕ) (runs : List Run) (top : ℕ) (layout : Layout) → ShowsAt words runs top layout
    → (old now : Pool) (low k i : ℕ) → i < fanout → Stands layout (suc low) k
    → ((address : ℕ) → IsInPart layout (suc low) k address → IsTaken old address) → Frees (IsBelow layout (suc low) k i) old now
    → (address : ℕ) → IsInPart layout low (k * fanout + i) address → IsTaken now address
child_part_at words runs top layout shows old now low k i few stands taken frees address part =
    (frees.each address).1 (
      taken address (stands, inr (i, few, part)),
      λ below.
          let same = same_part words runs top layout shows low (k * fanout + below.0) (k * fanout + i) address below.2 part in
          let less = below.1 in
          omega arith,
    )

pub child_part : (old now : Pool) (words : List ℕ) (node height : ℕ) → (part : HasPart old words node height) → node ≢ 0
    → (i child : ℕ) → i < hanging (node_at words node) → child ≡ word (node_at words node) (4 + 3 * i)
    → Frees (IsBelow part.layout part.level part.k i) old now → HasPart now words child (height - 1)
child_part old now words node height part some i child less says frees =
    let at = hung_from words part.runs part.top part.layout part.shows part.level part.k i node child part.is some less says in
    let is : part.level ≡ suc at.0 = at.1 in
    let few : i < fanout = omega (arith, part_few old words node height part some) in
    let low = part.low in
    let stands : Stands part.layout (suc at.0) part.k =
    subst (λ (l : ℕ). Stands part.layout l part.k) is (some_stands part.layout part.level part.k node part.is some) in
    record {
      runs = part.runs;
      top = part.top;
      layout = part.layout;
      shows = part.shows;
      level = at.0;
      k = part.k * fanout + i;
      low = omega arith;
      is = at.2;
      taken = child_part_at words part.runs part.top part.layout part.shows old now at.0 part.k i few stands
          (subst (λ (l : ℕ). (address : ℕ) → IsInPart part.layout l part.k address → IsTaken old address) is part.taken)
          (subst (λ (l : ℕ). Frees (IsBelow part.layout l part.k i) old now) is frees);
    }

-- after it went
child_gone_at : (layout : Layout) (old now new : Pool) (low k i : ℕ) → Frees (IsBelow layout (suc low) k i) old now
    → Frees (IsInPart layout low (k * fanout + i)) now new → Frees (IsBelow layout (suc low) k (i + 1)) old new
child_gone_at layout old now new low k i before after =
    frees_both (IsBelow layout (suc low) k i) (IsInPart layout low (k * fanout + i)) (IsBelow layout (suc low) k (i + 1)) old now new before after
    (λ address below. elim (cases_lt below.0 i) [
      | inl less ↦ inl (below.0, less, below.2)
      | inr last ↦ (let most = below.1 in let same : below.0 ≡ i = omega arith in
          inr (subst (λ (c : ℕ). IsInPart layout low (k * fanout + c) address) same below.2))
    ])
    (λ address below. let less = below.1 in (below.0, (omega arith), below.2))
    (λ address part. (i, (omega arith), part))

pub child_gone : (words : List ℕ) (runs : List Run) (top : ℕ) (layout : Layout) → ShowsAt words runs top layout
    → (old now new : Pool) (level k i node child : ℕ) → node ≡ layout level k → node ≢ 0 → i < hanging (node_at words node)
    → child ≡ word (node_at words node) (4 + 3 * i) → Frees (IsBelow layout level k i) old now → DropsPart words child now new
    → Frees (IsBelow layout level k (i + 1)) old new
child_gone words runs top layout shows old now new level k i node child is some less says before drops =
    let at = hung_from words runs top layout shows level k i node child is some less says in
    subst (λ (l : ℕ). Frees (IsBelow layout l k (i + 1)) old new) (sym at.1)
    (child_gone_at layout old now new at.0 k i (subst (λ (l : ℕ). Frees (IsBelow layout l k i) old now) at.1 before)
    (drops runs top layout at.0 (k * fanout + i) shows at.2))

pub none_gone : (layout : Layout) (level k : ℕ) (pool : Pool) → Frees (IsBelow layout level k 0) pool pool
none_gone layout level k pool = frees_none (IsBelow layout level k 0) pool (none_below layout level k)

-- the node itself goes last
pub own_taken : (old now : Pool) (words : List ℕ) (node height : ℕ) → (part : HasPart old words node height) → node ≢ 0
    → (count : ℕ) → Frees (IsBelow part.layout part.level part.k count) old now → IsTaken now node
own_taken old now words node height part some count frees =
    let own = own_in_part part.layout part.level part.k (some_stands part.layout part.level part.k node part.is some) in
    subst (λ (a : ℕ). IsTaken now a) (sym part.is)
    ((frees.each (part.layout part.level part.k)).1 (
      part.taken (part.layout part.level part.k) own,
      not_below words part.runs part.top part.layout part.shows part.level part.k count,
    ))

pub part_gone : (words : List ℕ) (runs : List Run) (top : ℕ) (layout : Layout) → ShowsAt words runs top layout
    → (old now new : Pool) (level k count node : ℕ) → node ≡ layout level k → node ≢ 0
    → hanging (node_at words node) ≤ count → count ≤ fanout
    → Frees (IsBelow layout level k count) old now → GivesBack now node new → Frees (IsInPart layout level k) old new
part_gone words runs top layout shows old now new level k count node is some all few before gives =
    let stands : Stands layout level k = some_stands layout level k node is some in
    let enough : hanging (node_at words (layout level k)) ≤ count = subst (λ (a : ℕ). hanging (node_at words a) ≤ count) is all in
    frees_both (IsBelow layout level k count) (λ (address : ℕ). address ≡ node) (IsInPart layout level k) old now new before (frees_one now new node gives)
    (λ address part. elim (own_or_below layout level k address part) [
      | inl own ↦ inr (own ∙ sym is)
      | inr below ↦ inl (listed words runs top layout shows level k count address stands enough below)
    ])
    (λ address below. below_in_part layout level k count address few stands below)
    (λ address own. subst (λ (a : ℕ). IsInPart layout level k a) (sym (own ∙ is)) (own_in_part layout level k stands))

pub no_part : (layout : Layout) (level k node : ℕ) (pool : Pool) → node ≡ layout level k → node ≡ 0 → Frees (IsInPart layout level k) pool pool
no_part layout level k node pool is none =
    frees_none (IsInPart layout level k) pool (λ address part. part_stands layout level k address part (sym is ∙ none))
