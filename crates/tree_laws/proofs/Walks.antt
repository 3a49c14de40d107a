-- A walk over words that show a tree goes the path to the block as far as it stands.
use Rattle.std.proofs.Common.{◌≡◌, ℕ, zero, suc, ◌+◌, ◌-◌, ◌/◌, ◌<◌, ◌≤◌, List, map, length, take, Some, refl, sym, ap, subst, ◌∙◌, add-one, arith}
use Rattle.nesc_base.specs.declared.runs.Area.{Area}
use Rattle.nesc_base.specs.declared.runs.Run.{Run}
use Rattle.extent_node.specs.Rules.{HasHolding}
use Rattle.tree_shape.specs.Shape.{fanout, node_over}
use Rattle.tree_shape.proofs.Paths.{node_covers, node_there, over_above, over_leaf, over_root}
use Rattle.tree_shape.proofs.Spans.{no_higher, same_top}
use Rattle.tree_words.specs.Shown.{Layout, ShowsAt, Stands, child_entry, inner_entries, leaf_entries}
use Rattle.tree_walker.specs.Walking.{Says, WalkOf, WalksOn, inner, leaf, most_fetches, pruned, standing}
use Rattle.tree_walker.specs.declared.found.Found.{Found}
use Rattle.tree_walker.specs.declared.found.Verdict.{Verdict}
use Rattle.tree_walker.specs.declared.found.Verdict.TheVariants.{Ends, GoesOn}
use Rattle.tree_walker.proofs.OneWay.{one_way}
use Rattle.tree_laws.specs.Laws.{FindsWhatStands, FollowsPath}
use Rattle.tree_laws.specs.Paths.{Finds, ShowsPath, addresses_down, path_addresses}
use Rattle.tree_laws.proofs.Found.{finds_pruned, finds_something}
use Rattle.tree_laws.proofs.Nodes.{inner_holds, inner_node, leaf_node, leaf_tells}

module _ (words : List ℕ) (root v : ℕ) (area : Area) (runs : List Run) (layout : Layout) (top bottom lacking : ℕ)
    (path : ShowsPath words root v area runs layout top bottom lacking) where
  tops : path.shows.top ≡ top
  tops = same_top (length runs) path.shows.top top path.shows.shows.root_level path.root_level

  shows_at : ShowsAt words runs top layout
  shows_at = subst (λ (t : ℕ). ShowsAt words runs t layout) tops path.shows.shows

  -- where the path to the leaf goes on from a level
  at : ℕ → ℕ
  at level = layout level (node_over level bottom)

  -- the words of the leaf
  leaf_says_so : (found : Found) → Stands layout 0 bottom → Finds runs v 0 found
      → Says (length words) area v (standing words (layout 0 bottom)) (let end : Verdict = Ends found in end)
  leaf_says_so found stands finds =
      let tells = leaf_tells runs v bottom found path.are_runs path.over finds in
      leaf (leaf_entries runs bottom) tells.0
      (leaf_node words runs top layout area path.are_runs path.inside shows_at bottom stands) tells.1
      (ap (λ (f : Found). let end : Verdict = Ends f in end) tells.2)

  -- the words of the path's node of a level
  inner_says_so : (level : ℕ) → suc level ≤ top → Stands layout (suc level) (node_over (suc level) bottom)
      → Says (length words) area v (standing words (layout (suc level) (node_over (suc level) bottom)))
      (let next : Verdict = GoesOn (layout level (node_over level bottom)) in next)
  inner_says_so level under stands =
      let k : ℕ = node_over (suc level) bottom in
      let c : ℕ = node_over level bottom in
      let within : level ≤ top = omega arith in
      let above : c / fanout ≡ k = sym (over_above level bottom) ∙ ap (λ (l : ℕ). node_over l bottom) (add-one level) in
      let holds : HasHolding (inner_entries runs layout level k) v (child_entry runs layout level c) =
      subst (λ (j : ℕ). HasHolding (inner_entries runs layout level j) v (child_entry runs layout level c)) above
      (inner_holds runs layout top v level c
      (node_there runs top v bottom level path.are_runs path.over within)
      (node_covers runs v bottom level path.are_runs path.over)) in
      inner (inner_entries runs layout level k) (Some (child_entry runs layout level c))
      (inner_node words runs top layout area path.are_runs shows_at level k stands) holds refl

  -- the walk from the path's node of a level on
  down : (level left n : ℕ) (found : Found) → level ≤ top → level < left → n ≡ level + 1 - lacking → Finds runs v lacking found
      → WalksOn (length words) area v left (layout level (node_over level bottom))
      (map (standing words) (take n (addresses_down layout level bottom))) found
  down level left zero found under few many finds =
      let low : level < lacking = omega arith in
      let some : 0 < lacking = omega arith in
      pruned (path.lacks.lack level low) (finds_pruned runs v lacking found some finds)
  down zero left (suc zero) found under few many finds =
      let none : lacking ≡ 0 = omega arith in
      let least : lacking ≤ 0 = omega arith in
      let stands : Stands layout 0 (node_over 0 bottom) = path.lacks.have 0 least under in
      let here : layout 0 bottom ≡ layout 0 (node_over 0 bottom) = ap (λ (k : ℕ). layout 0 k) (sym (over_leaf bottom)) in (
        Ends found,
        record { stands = stands; one_left = omega arith; there = here },
        leaf_says_so found (λ gone. stands (sym here ∙ gone)) (subst (λ (l : ℕ). Finds runs v l found) none finds),
        (refl, refl),
      )
  down zero left (suc (suc n)) found under few many finds = absurd (omega arith)
  down (suc level) left (suc n) found under few many finds =
      let low : lacking ≤ suc level = omega arith in
      let within : level ≤ top = omega arith in
      let less : level < left - 1 = omega arith in
      let fewer : n ≡ level + 1 - lacking = omega arith in
      let stands : Stands layout (suc level) (node_over (suc level) bottom) = path.lacks.have (suc level) low under in (
        GoesOn (layout level (node_over level bottom)),
        record { stands = stands; one_left = omega arith; there = refl },
        inner_says_so level under stands,
        down level (left - 1) n found within less fewer finds,
      )

  root_is : layout top (node_over top bottom) ≡ root
  root_is =
      ap (λ (k : ℕ). layout top k) (over_root runs top v bottom path.are_runs path.root_level path.over)
      ∙ ap (λ (t : ℕ). layout t 0) (sym tops) ∙ sym path.shows.root_is

  pub walk_is : (found : Found) → Finds runs v lacking found → WalkOf words root v area found (path_addresses layout top bottom lacking)
  walk_is found finds =
      let low : top ≤ 4 = no_higher (length runs) top 4 path.root_level path.few in
      let all : top ≤ top = omega arith in
      let few : top < most_fetches = omega arith in
      subst (λ (address : ℕ). WalksOn (length words) area v most_fetches address
      (map (standing words) (path_addresses layout top bottom lacking)) found) root_is
      (down top most_fetches (top + 1 - lacking) found all few refl finds)

pub follows_path : (words : List ℕ) (root v : ℕ) (area : Area) → FollowsPath words root v area
follows_path words root v area runs layout top bottom lacking found path finds =
    walk_is words root v area runs layout top bottom lacking path found finds

pub finds_what_stands : (words : List ℕ) (root v : ℕ) (area : Area) → FindsWhatStands words root v area
finds_what_stands words root v area runs layout top bottom lacking found addresses path walk =
    let something = finds_something runs v lacking in
    let same = one_way words area v addresses (path_addresses layout top bottom lacking) most_fetches root found something.0 walk
    (walk_is words root v area runs layout top bottom lacking path something.0 something.1) in
    (subst (λ (f : Found). Finds runs v lacking f) (sym same.0) something.1, same.1)
