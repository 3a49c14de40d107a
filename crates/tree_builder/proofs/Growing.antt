-- A tree after the path to a leaf was built in it.
use Rattle.std.proofs.Common.{◌≡◌, ◌≢◌, ◌⊎◌, inl, inr, ℕ, zero, suc, ◌+◌, ◌-◌, ◌*◌, ◌/◌, ◌<◌, ◌≤◌, List, length, refl, sym, ap, ◌∙◌, subst, add-one, arith}
use Rattle.std.specs.Prelude.{slice_set}
use Rattle.std.proofs.Math.Nat.{eq-or-lt_of_le}
use Rattle.std.proofs.lemmas.Bool.{cases_lt}
use Rattle.std.proofs.lemmas.Bool.Decides.{eqb_tells}
use Rattle.nesc_base.specs.Files.{longest_file}
use Rattle.nesc_base.specs.Memory.{IsNodeOf, KnownMemory, node_at}
use Rattle.nesc_base.specs.declared.runs.Run.{Run}
use Rattle.nesc_base.specs.Runs.{AreRuns}
use Rattle.host_memory.specs.Pool.{HasRoom, IsFree, IsTaken, Pool}
use Rattle.host_memory.proofs.PoolLaws.{free_is_address, is_node_of, not_both}
use Rattle.extent_node.specs.Words.{place_word}
use Rattle.tree_shape.specs.Shape.{IsLeafOver, border, fanout, node_over, width}
use Rattle.tree_shape.proofs.Beginnings.{few_runs}
use Rattle.tree_shape.proofs.Spans.{among_to}
use Rattle.tree_shape.proofs.Paths.{over_leaf, over_root}
use Rattle.tree_words.specs.Changed.{Adds, KeepsOthers, Lacks, WritesWords, with_node}
use Rattle.tree_words.specs.Laws.{Agree, AgreeBelow, PathBuilt, PutsWord}
use Rattle.tree_words.specs.Pools.{AreTaken}
use Rattle.tree_words.specs.Shown.{IsCovered, Layout, ShowsAt, Stands, words_at}
use Rattle.tree_builder.specs.Building.{Builds, TakesNodes}
use Rattle.tree_builder.specs.declared.way.Way.{Way}
use Rattle.tree_builder.specs.Ways.{IsMade, IsWay, LinksPath, MakesNodes, only, path_words, slot, slot_word}
use Rattle.tree_words.proofs.NodeWords.{are_local, with_node_other}
use Rattle.tree_words.proofs.Places.{is_node_by_length, puts_word}
use Rattle.tree_words.proofs.Steps.{gives_path}
use Rattle.tree_builder.proofs.Filling.{few_children, with_here}
use Rattle.tree_builder.proofs.Going.{zero_by}
use Rattle.tree_builder.proofs.Making.{writes_on}

-- Where the nodes stand then

-- it is one of the nodes that lead to the leaf and that did not stand
abbrev IsNew : ℕ → ℕ → ℕ → ℕ → Type 0
IsNew leaf lacking level k = (level < lacking) × (k ≡ node_over level leaf)

abbrev grown : Layout → (ℕ → ℕ) → ℕ → ℕ → Layout
grown old made leaf zero = old
grown old made leaf (suc n) = with_node (grown old made leaf n) n (node_over n leaf) (made n)

grown_cases : (old : Layout) (made : ℕ → ℕ) (leaf n level k : ℕ)
    → (IsNew leaf n level k × (grown old made leaf n level k ≡ made level)) ⊎ ((¬ IsNew leaf n level k) × (grown old made leaf n level k ≡ old level k))
grown_cases old made leaf zero level k = inr ((λ is. let less = is.0 in absurd (omega arith)), refl)
grown_cases old made leaf (suc n) level k = elim (eqb_tells level n) [
  | inl same ↦ elim (eqb_tells k (node_over n leaf)) [
    | inl alike ↦
        let at = same.1 in
        inl (
          (omega arith, alike.1 ∙ ap (λ (l : ℕ). node_over l leaf) (sym at)),
          with_here (grown old made leaf n) n (node_over n leaf) (made n) level k at alike.1 ∙ ap made (sym at),
        )
    | inr unlike ↦ inr (
      (λ is. unlike.1 (is.1 ∙ ap (λ (l : ℕ). node_over l leaf) same.1)),
      with_node_other (grown old made leaf n) n (node_over n leaf) (made n) level k (inr unlike.1)
          ∙ elim (grown_cases old made leaf n level k) [
            | inl is ↦ let less = is.0.0 in let at = same.1 in absurd (omega arith)
            | inr isnt ↦ isnt.1
          ],
    )
  ]
  | inr differ ↦
      let apart = differ.1 in
      let else = with_node_other (grown old made leaf n) n (node_over n leaf) (made n) level k (inl apart) in
      elim (grown_cases old made leaf n level k) [
        | inl is ↦ let less = is.0.0 in inl ((omega arith, is.0.1), else ∙ is.1)
        | inr isnt ↦ inr ((λ is. let less = is.0 in isnt.0 (omega arith, is.1)), else ∙ isnt.1)
      ]
]

-- what was done
pub record Growth : Type 0 where
  pub runs : List Run
  pub v : ℕ
  pub root : ℕ
  pub way : Way
  pub old : Layout
  pub old_pool : Pool
  pub new_pool : Pool
  pub before : KnownMemory
  pub between : KnownMemory
  pub after : KnownMemory
  pub last : ℕ
  pub new_root : ℕ
  pub are : AreRuns runs
  pub shows : ShowsAt before.words runs way.top old
  pub root_is : root ≡ old way.top 0
  pub taken : AreTaken old_pool old
  pub room : HasRoom (length before.words) old_pool
  pub way_is : IsWay runs old v way
  pub some : 0 < way.lacking
  pub makes : MakesNodes runs way.leaf way.lacking old_pool new_pool before between last
  pub links : LinksPath way root last between after new_root

abbrev new : Growth → Layout
new g = grown g.old g.makes.made g.way.leaf g.way.lacking

abbrev over : Growth → ℕ → ℕ
over g level = node_over level g.way.leaf

cases : (g : Growth) (level k : ℕ) → (IsNew g.way.leaf g.way.lacking level k × (new g level k ≡ g.makes.made level))
    ⊎ ((¬ IsNew g.way.leaf g.way.lacking level k) × (new g level k ≡ g.old level k))
cases g level k = grown_cases g.old g.makes.made g.way.leaf g.way.lacking level k

made_some : (g : Growth) (level : ℕ) → level < g.way.lacking → g.makes.made level ≢ 0
made_some g level less = let from = (free_is_address g.old_pool (g.makes.made level) (g.makes.fresh level less)).from in λ none. omega arith

made_not_old : (g : Growth) (level other k : ℕ) → level < g.way.lacking → Stands g.old other k → g.makes.made level ≢ g.old other k
made_not_old g level other k less stands = λ same.
    not_both g.old_pool (g.old other k) (g.taken other k stands) (subst (λ (a : ℕ). IsFree g.old_pool a) same (g.makes.fresh level less))

pooled : (g : Growth) (level : ℕ) → level < g.way.lacking → IsTaken g.new_pool (g.makes.made level)
pooled g level less = (g.makes.each (g.makes.made level)).1 (inr (level, less, refl))

stays : (g : Growth) (level k : ℕ) → Stands g.old level k → new g level k ≡ g.old level k
stays g level k stands = elim (cases g level k) [
  | inl is ↦ absurd (stands (ap (λ (j : ℕ). g.old level j) is.0.1 ∙ g.way_is.lacks.lack level is.0.0))
  | inr isnt ↦ isnt.1
]

new_at : (g : Growth) (level : ℕ) → level < g.way.lacking → new g level (over g level) ≡ g.makes.made level
new_at g level less = elim (cases g level (over g level)) [
  | inl is ↦ is.1
  | inr isnt ↦ absurd (isnt.0 (less, refl))
]

new_stands : (g : Growth) (level : ℕ) → level < g.way.lacking → Stands (new g) level (over g level)
new_stands g level less = λ none. made_some g level less (sym (new_at g level less) ∙ none)

old_stands : (g : Growth) (level k : ℕ) → Stands g.old level k → Stands (new g) level k
old_stands g level k stands = λ none. stands (sym (stays g level k stands) ∙ none)

origin : (g : Growth) (level k : ℕ) → Stands (new g) level k
    → (IsNew g.way.leaf g.way.lacking level k × (new g level k ≡ g.makes.made level)) ⊎ (Stands g.old level k × (new g level k ≡ g.old level k))
origin g level k stands = elim (cases g level k) [
  | inl is ↦ inl is
  | inr isnt ↦ inr ((λ none. stands (isnt.1 ∙ none)), isnt.1)
]

adds : (g : Growth) → Adds g.way.top g.way.leaf g.old (new g)
adds g = record {
  path = λ level under. elim (cases_lt level g.way.lacking) [
    | inl less ↦ new_stands g level less
    | inr le ↦ old_stands g level (over g level) (g.way_is.lacks.have level le under)
  ];
  stay = λ level k stands. stays g level k stands;
  no_other = λ level k stands. elim (origin g level k stands) [
    | inl is ↦ let less = is.0.0 in let most = g.way_is.lacks.most in inr (omega arith, is.0.1)
    | inr was ↦ inl was.0
  ];
}

-- What was written

lowest_at : (g : Growth) → g.way.lowest ≢ 0 → (g.way.lacking ≤ g.way.top) × (g.way.lowest ≡ g.old g.way.lacking (over g g.way.lacking))
lowest_at g some = elim (eq-or-lt_of_le g.way_is.goes.most) [
  | inl all ↦ absurd (some (g.way_is.goes.none all))
  | inr less ↦ let low : g.way.lacking ≤ g.way.top = omega arith in (low, g.way_is.goes.lowest low)
]

lowest_stands : (g : Growth) → g.way.lacking ≤ g.way.top → Stands g.old g.way.lacking (over g g.way.lacking)
lowest_stands g low = g.way_is.lacks.have g.way.lacking (omega arith) low

lowest_some : (g : Growth) → g.way.lacking ≤ g.way.top → g.way.lowest ≢ 0
lowest_some g low = λ none. lowest_stands g low (sym (g.way_is.goes.lowest low) ∙ none)

between_longer : (g : Growth) → length g.before.words ≤ length g.between.words
between_longer g = omega (arith, g.makes.size)

lowest_node : (g : Growth) → g.way.lowest ≢ 0 → IsNodeOf g.between.words g.way.lowest
lowest_node g some =
    let at = lowest_at g some in
    is_node_by_length g.before.words g.between.words g.way.lowest (between_longer g)
    (subst (λ (a : ℕ). IsNodeOf g.before.words a) (sym at.1) (g.shows.placed g.way.lacking (over g g.way.lacking) (lowest_stands g at.0)))

puts : (g : Growth) → g.way.lowest ≢ 0 → PutsWord g.between.words g.way.lowest (slot_word (slot (g.way.lacking - 1) g.way.leaf)) g.last
puts g some =
    let low : slot_word (slot (g.way.lacking - 1) g.way.leaf) < 32 = omega arith in
    puts_word g.between.words g.way.lowest (slot_word (slot (g.way.lacking - 1) g.way.leaf)) g.last (lowest_node g some) low

put_words : (g : Growth) → g.way.lowest ≢ 0
    → g.after.words ≡ slice_set g.between.words (g.way.lowest + slot_word (slot (g.way.lacking - 1) g.way.leaf)) g.last
put_words g some = ap (λ (m : KnownMemory). m.words) (g.links.into some).1

size : (g : Growth) → length g.after.words ≡ length g.before.words
size g = elim (eqb_tells g.way.lowest 0) [
  | inl none ↦ ap (λ (m : KnownMemory). length m.words) (g.links.alone none.1).1 ∙ g.makes.size
  | inr some ↦ ap length (put_words g some.1) ∙ (puts g some.1).size ∙ g.makes.size
]

link_others : (g : Growth) (address : ℕ) → IsNodeOf g.between.words address → (g.way.lowest ≢ 0 → address ≢ g.way.lowest)
    → node_at g.after.words address ≡ node_at g.between.words address
link_others g address at apart = elim (eqb_tells g.way.lowest 0) [
  | inl none ↦ ap (λ (m : KnownMemory). node_at m.words address) (g.links.alone none.1).1
  | inr some ↦ ap (λ (ws : List ℕ). node_at ws address) (put_words g some.1) ∙ (puts g some.1).others address at (apart some.1)
]

kept_at : (g : Growth) (address : ℕ) → IsNodeOf g.before.words address → (g.way.lowest ≢ 0 → address ≢ g.way.lowest)
    → ¬ IsMade g.makes.made g.way.lacking address → node_at g.after.words address ≡ node_at g.before.words address
kept_at g address at apart not_made =
    link_others g address (is_node_by_length g.before.words g.between.words address (between_longer g) at) apart ∙ g.makes.others address at not_made

old_not_made : (g : Growth) (level k : ℕ) → Stands g.old level k → ¬ IsMade g.makes.made g.way.lacking (g.old level k)
old_not_made g level k stands = λ of. made_not_old g of.0 level k of.1 stands (sym of.2)

made_not_lowest : (g : Growth) (level : ℕ) → level < g.way.lacking → g.way.lowest ≢ 0 → g.makes.made level ≢ g.way.lowest
made_not_lowest g level less some = λ same.
    let at = lowest_at g some in
    made_not_old g level g.way.lacking (over g g.way.lacking) less (lowest_stands g at.0) (same ∙ at.1)

room_then : (g : Growth) → HasRoom (length g.after.words) g.new_pool
room_then g = omega (arith, g.room, size g, g.makes.as_many)

placed : (g : Growth) (level k : ℕ) → Stands (new g) level k → IsNodeOf g.after.words (new g level k)
placed g level k stands = elim (origin g level k stands) [
  | inl is ↦ subst (λ (a : ℕ). IsNodeOf g.after.words a) (sym is.1)
      (is_node_of g.after.words g.new_pool (g.makes.made level) (room_then g) (pooled g level is.0.0))
  | inr was ↦
      let longer : length g.before.words ≤ length g.after.words = omega (arith, size g) in
      subst (λ (a : ℕ). IsNodeOf g.after.words a) (sym was.1)
      (is_node_by_length g.before.words g.after.words (g.old level k) longer (g.shows.placed level k was.0))
]

apart : (g : Growth) (level k other j : ℕ) → Stands (new g) level k → new g level k ≡ new g other j → (level ≡ other) × (k ≡ j)
apart g level k other j stands same =
    let stood : Stands (new g) other j = λ none. stands (same ∙ none) in
    elim (origin g level k stands) [
      | inl is ↦ elim (origin g other j stood) [
        | inl are ↦
            let at = g.makes.apart level other is.0.0 are.0.0 (sym is.1 ∙ same ∙ are.1) in
            (at, is.0.1 ∙ ap (λ (l : ℕ). over g l) at ∙ sym are.0.1)
        | inr was ↦ absurd (made_not_old g level other j is.0.0 was.0 (sym is.1 ∙ same ∙ was.1))
      ]
      | inr was ↦ elim (origin g other j stood) [
        | inl are ↦ absurd (made_not_old g other level k are.0.0 was.0 (sym are.1 ∙ sym same ∙ was.1))
        | inr were ↦ g.shows.apart level k other j was.0 (sym was.1 ∙ same ∙ were.1)
      ]
    ]

-- a child that is not of the path does not stand
no_child : (g : Growth) (below i : ℕ) → below + 1 < g.way.lacking → i < fanout → node_over (below + 1) g.way.leaf * fanout + i ≢ over g below
    → new g below (node_over (below + 1) g.way.leaf * fanout + i) ≡ 0
no_child g below i less few unlike =
    let j : ℕ = node_over (below + 1) g.way.leaf * fanout + i in
    elim (cases g below j) [
      | inl is ↦ absurd (unlike is.0.1)
      | inr isnt ↦ isnt.1 ∙ zero_by (g.old below j) (λ stands.
          let most = g.way_is.lacks.most in
          let under : below < g.way.top = omega arith in
          let above : j / 10 ≡ node_over (below + 1) g.way.leaf = omega arith in
          g.shows.parents below j under stands (ap (λ (k : ℕ). g.old (below + 1) k) above ∙ g.way_is.lacks.lack (below + 1) less))
    ]

agree : (g : Growth) (below : ℕ) → below + 1 < g.way.lacking
    → AgreeBelow g.runs (only below (over g below) (g.makes.made below)) (new g) below (node_over (below + 1) g.way.leaf)
agree g below less = λ i among.
    let j : ℕ = node_over (below + 1) g.way.leaf * fanout + i in
    let few : i < 10 = omega (arith, among, few_children (width (length g.runs) below - node_over (below + 1) g.way.leaf * fanout)) in
    elim (eqb_tells j (over g below)) [
      | inl same ↦ with_here (λ _ _. 0) below (over g below) (g.makes.made below) below j refl same.1
          ∙ sym (ap (λ (k : ℕ). new g below k) same.1 ∙ new_at g below (omega arith))
      | inr unlike ↦ with_node_other (λ _ _. 0) below (over g below) (g.makes.made below) below j (inr unlike.1) ∙ sym (no_child g below i less few unlike.1)
    ]

path_says : (g : Growth) (level : ℕ) → level < g.way.lacking
    → path_words g.runs g.way.leaf level (g.makes.made (level - 1)) ≡ words_at g.runs (new g) level (over g level)
path_says g zero less = refl
path_says g (suc below) less =
    let same : suc below - 1 ≡ below = omega arith in
    let more : below + 1 < g.way.lacking = omega arith in
    let one = only below (over g below) (g.makes.made below) in
    let local = (are_local g.runs one (new g)).inner below (node_over (below + 1) g.way.leaf) (agree g below more) in
    ap (λ (b : ℕ). words_at g.runs (only b (over g b) (g.makes.made b)) (suc below) (over g (suc below))) same
    ∙ subst (λ (l : ℕ). words_at g.runs one l (over g l) ≡ words_at g.runs (new g) l (over g l)) (add-one below) local

path : (g : Growth) (level : ℕ) → level < g.way.lacking
    → node_at g.after.words (new g level (over g level)) ≡ words_at g.runs (new g) level (over g level)
path g level less =
    let room_now : HasRoom (length g.between.words) g.new_pool = omega (arith, g.room, g.makes.size, g.makes.as_many) in
    ap (λ (a : ℕ). node_at g.after.words a) (new_at g level less)
    ∙ link_others g (g.makes.made level) (is_node_of g.between.words g.new_pool (g.makes.made level) room_now (pooled g level less))
    (made_not_lowest g level less)
    ∙ g.makes.says level less ∙ path_says g level less

link : (g : Growth) → g.way.lacking ≤ g.way.top
    → node_at g.after.words g.way.lowest
    ≡ slice_set (node_at g.before.words g.way.lowest) (place_word (slot (g.way.lacking - 1) g.way.leaf))
    (new g (g.way.lacking - 1) (over g (g.way.lacking - 1)))
link g low =
    let some = lowest_some g low in
    let none_made : ¬ IsMade g.makes.made g.way.lacking g.way.lowest = λ of. made_not_lowest g of.0 of.1 some (sym of.2) in
    let stood : IsNodeOf g.before.words g.way.lowest = subst (λ (a : ℕ). IsNodeOf g.before.words a) (sym (lowest_at g some).1)
    (g.shows.placed g.way.lacking (over g g.way.lacking) (lowest_stands g low)) in
    let any = g.some in
    let down : g.way.lacking ≡ g.way.lacking - 1 + 1 = omega arith in
    let less : g.way.lacking - 1 < g.way.lacking = omega arith in
    ap (λ (ws : List ℕ). node_at ws g.way.lowest) (put_words g some) ∙ (puts g some).here
    ∙ ap (λ (ws : List ℕ). slice_set ws (slot_word (slot (g.way.lacking - 1) g.way.leaf)) g.last) (g.makes.others g.way.lowest stood none_made)
    ∙ ap (λ (a : ℕ). slice_set (node_at g.before.words g.way.lowest) (slot_word (slot (g.way.lacking - 1) g.way.leaf)) a)
    (g.makes.last_is (g.way.lacking - 1) down ∙ sym (new_at g (g.way.lacking - 1) less))

not_lowest : (g : Growth) (level k : ℕ) → Stands g.old level k → (level ≢ g.way.lacking) ⊎ (k ≢ over g g.way.lacking)
    → g.way.lowest ≢ 0 → g.old level k ≢ g.way.lowest
not_lowest g level k stands other some = λ same.
    let both = g.shows.apart level k g.way.lacking (over g g.way.lacking) stands (same ∙ (lowest_at g some).1) in
    elim other [ inl differ ↦ differ both.0 | inr differ ↦ differ both.1 ]

built : (g : Growth) → PathBuilt g.before.words g.after.words g.runs g.way.top g.way.leaf (g.way.lacking - 1) g.old (new g)
built g =
    let any = g.some in
    let up : g.way.lacking ≡ g.way.lacking - 1 + 1 = omega arith in
    record {
      adds = adds g;
      lacks = subst (λ (n : ℕ). Lacks g.way.top g.way.leaf g.old n) up g.way_is.lacks;
      placed = λ level k stands. placed g level k stands;
      apart = λ level k other j stands same. apart g level k other j stands same;
      path = λ level under. path g level (omega arith);
      link = λ below.
          let low : g.way.lacking ≤ g.way.top = omega arith in
          let at : g.way.lowest ≡ g.old (g.way.lacking - 1 + 1) (over g (g.way.lacking - 1 + 1))
          = g.way_is.goes.lowest low ∙ ap (λ (n : ℕ). g.old n (over g n)) up in
          subst (λ (a : ℕ). node_at g.after.words a ≡ slice_set (node_at g.before.words a) (place_word (slot (g.way.lacking - 1) g.way.leaf))
          (new g (g.way.lacking - 1) (over g (g.way.lacking - 1)))) at (link g low);
      kept = λ level k stands other.
          kept_at g (g.old level k) (g.shows.placed level k stands)
          (not_lowest g level k stands (subst (λ (n : ℕ). (level ≢ n) ⊎ (k ≢ over g n)) (sym up) other)) (old_not_made g level k stands);
    }

shown : (g : Growth) → ShowsAt g.after.words g.runs g.way.top (new g)
shown g =
    gives_path g.before.words g.after.words g.runs g.way.top g.way.leaf (g.way.lacking - 1) g.old (new g) g.way_is.goes.over.has g.shows (built g)

new_root_is : (g : Growth) → g.new_root ≡ new g g.way.top 0
new_root_is g =
    let first = over_root g.runs g.way.top g.v g.way.leaf g.are g.way_is.goes.root_level g.way_is.goes.over in
    elim (eqb_tells g.way.lowest 0) [
      | inl none ↦ elim (eq-or-lt_of_le g.way_is.goes.most) [
        | inl all ↦
            let less : g.way.top < g.way.lacking = omega arith in
            (g.links.alone none.1).0 ∙ g.makes.last_is g.way.top all ∙ sym (new_at g g.way.top less) ∙ ap (λ (k : ℕ). new g g.way.top k) first
        | inr less ↦ absurd (lowest_some g (omega arith) none.1)
      ]
      | inr some ↦
          let low = (lowest_at g some.1).0 in
          let stands = g.way_is.lacks.have g.way.top low (omega arith) in
          (g.links.into some.1).0 ∙ g.root_is ∙ ap (λ (k : ℕ). g.old g.way.top k) (sym first) ∙ sym (stays g g.way.top (over g g.way.top) stands)
          ∙ ap (λ (k : ℕ). new g g.way.top k) first
    ]

pool : (g : Growth) → TakesNodes g.old (new g) g.way.lacking g.old_pool g.new_pool
pool g = record {
  fresh = λ level k stands. elim (origin g level k stands) [
    | inl is ↦ inr (subst (λ (a : ℕ). IsFree g.old_pool a) (sym is.1) (g.makes.fresh level is.0.0))
    | inr was ↦ inl was.0
  ];
  each = λ address. (
    λ in_new. elim ((g.makes.each address).0 in_new) [
      | inl before ↦ inl before
      | inr of ↦ inr (of.0, over g of.0, new_stands g of.0 of.1, of.2 ∙ sym (new_at g of.0 of.1))
    ],
    λ either. elim either [
      | inl before ↦ (g.makes.each address).1 (inl before)
      | inr of ↦ elim (origin g of.0 of.1 of.2) [
        | inl is ↦ (g.makes.each address).1 (inr (of.0, is.0.0, of.3 ∙ is.1))
        | inr was ↦ (g.makes.each address).1 (inl (subst (λ (a : ℕ). IsTaken g.old_pool a) (sym (of.3 ∙ was.1)) (g.taken of.0 of.1 was.0)))
      ]
    ],
  );
  count_is = g.makes.count_is;
  as_many = g.makes.as_many;
}

others : (g : Growth) → KeepsOthers (new g) g.before.words g.after.words
others g = record {
  size = size g;
  others = λ address at not_of. kept_at g address at
      (λ some same.
      let lowest = lowest_at g some in
      let stands = lowest_stands g lowest.0 in
      not_of (
        g.way.lacking,
        over g g.way.lacking,
        old_stands g g.way.lacking (over g g.way.lacking) stands,
        same ∙ lowest.1 ∙ sym (stays g g.way.lacking (over g g.way.lacking) stands),
      ))
      (λ of. not_of (of.0, over g of.0, new_stands g of.0 of.1, of.2 ∙ sym (new_at g of.0 of.1)));
}

writes : (g : Growth) → WritesWords g.before g.after
writes g = writes_on g.before g.between g.after g.makes.writes (elim (eqb_tells g.way.lowest 0) [
  | inl none ↦
      let same = (g.links.alone none.1).1 in
      same ∙ ap (λ (m : KnownMemory). let k : KnownMemory = record g.between { words = m.words } in k) (sym same)
  | inr some ↦ (g.links.into some.1).1 ∙ ap (λ (ws : List ℕ). let k : KnownMemory = record g.between { words = ws } in k) (sym (put_words g some.1))
])

pub builds : (g : Growth) (lo hi : ℕ) → lo ≡ border g.runs 0 g.way.leaf → hi ≡ border g.runs 0 (g.way.leaf + 1)
    → Builds g.runs g.v g.old g.old_pool g.new_pool g.before g.after (record { root = g.new_root; lo = lo; hi = hi; nodes = g.way.lacking })
builds g lo hi from to = record {
  new = new g;
  shows = record { top = g.way.top; root_is = new_root_is g; shows = shown g };
  needs = record { top = g.way.top; root_level = g.way_is.goes.root_level; leaf = g.way.leaf; over = g.way_is.goes.over; lacks = g.way_is.lacks };
  adds = adds g;
  from = from;
  to = to;
  pool = pool g;
  writes = writes g;
  others = others g;
}

-- What the call's conditions give

pub lacks_some : (runs : List Run) (layout : Layout) (v : ℕ) (way : Way) → IsWay runs layout v way → ¬ IsCovered runs layout v → 0 < way.lacking
lacks_some runs layout v way is uncovered = elim (eqb_tells way.lacking 0) [
  | inl none ↦
      let all : way.lacking ≤ 0 = omega (arith, none.1) in
      absurd (uncovered (
        way.leaf,
        is.goes.over,
        subst (λ (k : ℕ). Stands layout 0 k) (over_leaf way.leaf) (is.lacks.have 0 all (omega arith)),
      ))
  | inr some ↦ let is_some = some.1 in omega arith
]

pub lowest_is_node : (words : List ℕ) (runs : List Run) (layout : Layout) (v : ℕ) (way : Way) → ShowsAt words runs way.top layout → IsWay runs layout v way
    → way.lowest ≢ 0 → IsNodeOf words way.lowest
lowest_is_node words runs layout v way shows is some = elim (eq-or-lt_of_le is.goes.most) [
  | inl all ↦ absurd (some (is.goes.none all))
  | inr less ↦
      let low : way.lacking ≤ way.top = omega arith in
      subst (λ (a : ℕ). IsNodeOf words a) (sym (is.goes.lowest low))
      (shows.placed way.lacking (node_over way.lacking way.leaf) (is.lacks.have way.lacking (omega arith) low))
]

pub leaf_low : (runs : List Run) (v leaf : ℕ) → AreRuns runs → IsLeafOver runs v leaf → leaf ≤ longest_file
leaf_low runs v leaf are over = elim (among_to (length runs) 0 leaf over.has) [
  | inl none ↦ omega arith
  | inr less ↦ omega (arith, few_runs runs are)
]

pub agree_taken : (taken_pool : Pool) (one other : Layout) → Agree one other → AreTaken taken_pool one → AreTaken taken_pool other
agree_taken taken_pool one other agree taken level k stands =
    subst (λ (a : ℕ). IsTaken taken_pool a) (agree level k) (taken level k (λ none. stands (sym (agree level k) ∙ none)))
