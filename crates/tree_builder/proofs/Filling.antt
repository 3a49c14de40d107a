-- The entries and words of the nodes of a path.
use Rattle.std.proofs.Common.{◌≡◌, ℕ, zero, suc, ◌+◌, ◌-◌, ◌*◌, ◌<◌, ◌≤◌, min, List, [], ◌∷◌, ◌++◌, length, map, take, Some, slice_get, sym, ap, ◌∙◌, add-one, arith}
use Rattle.std.proofs.lemmas.List.{length-map}
use Rattle.std.specs.Option.{option_map}
use Rattle.std.proofs.Math.Seq.{take-length}
use Rattle.std.proofs.lemmas.Option.{none-some, same_Some, slice_get-map}
use Rattle.nesc_base.specs.declared.runs.Run.{Run}
use Rattle.extent_node.specs.declared.entries.Entry.{Entry}
use Rattle.extent_node.specs.declared.node.Kind.TheVariants as kind
use Rattle.extent_node.specs.Words.{node_words}
use Rattle.tree_shape.specs.Shape.{border, fanout, leaf_runs, node_over}
use Rattle.tree_shape.proofs.Leaves.{leaf_at, leaf_length}
use Rattle.tree_shape.proofs.Paths.{over_above}
use Rattle.tree_words.specs.Changed.{with_node}
use Rattle.tree_words.proofs.NodeWords.{with_node_here}
use Rattle.tree_words.specs.Shown.{Layout, child_entry, inner_entries, leaf_entries, leaf_entry}
use Rattle.tree_builder.specs.Ways.{only, path_words, slot}

-- Lists

pub take_more : {X : Type 0} (xs : List X) (i : ℕ) (x : X) → slice_get xs i ≡ Some x → take (i + 1) xs ≡ take i xs ++ x ∷ []
take_more [] i x is = absurd (none-some x is)
take_more (y ∷ ys) zero x is = ap (λ z. z ∷ []) (same_Some y x is)
take_more (y ∷ ys) (suc i) x is =
    let e : suc i + 1 ≡ suc (i + 1) = omega arith in
    ap (λ (n : ℕ). take n (y ∷ ys)) e ∙ ap (λ zs. y ∷ zs) (take_more ys i x is)

pub leaf_entry_at : (runs : List Run) (leaf i : ℕ) (entry : Entry) → i < fanout → slice_get (map leaf_entry runs) (leaf * fanout + i) ≡ Some entry
    → slice_get (leaf_entries runs leaf) i ≡ Some entry
leaf_entry_at runs leaf i entry less is =
    slice_get-map leaf_entry (leaf_runs runs leaf) i ∙ ap (option_map leaf_entry) (leaf_at runs leaf i less)
    ∙ sym (slice_get-map leaf_entry runs (leaf * fanout + i)) ∙ is

pub leaf_all : (runs : List Run) (leaf n : ℕ) → n ≡ min fanout (length runs - leaf * fanout) → take n (leaf_entries runs leaf) ≡ leaf_entries runs leaf
leaf_all runs leaf n is =
    let long : n ≡ length (leaf_entries runs leaf) = is ∙ sym (leaf_length runs leaf) ∙ sym (length-map (leaf_runs runs leaf) leaf_entry) in
    ap (λ (m : ℕ). take m (leaf_entries runs leaf)) long ∙ take-length (leaf_entries runs leaf)

-- Where one node stands

pub with_here : (layout : Layout) (level k address other j : ℕ) → other ≡ level → j ≡ k → with_node layout level k address other j ≡ address
with_here layout level k address other j same alike =
    ap (λ (l : ℕ). with_node layout level k address l j) same ∙ ap (λ (i : ℕ). with_node layout level k address level i) alike
    ∙ with_node_here layout level k address

pub entry_is : (runs : List Run) (layout : Layout) (level j begin end place : ℕ) → begin ≡ border runs level j → end ≡ border runs level (j + 1)
    → place ≡ layout level j → (let entry : Entry = record { first = begin; count = end - begin; place = place } in entry) ≡ child_entry runs layout level j
entry_is runs layout level j begin end place begins ends stands =
    let made : ℕ → ℕ → ℕ → Entry = λ b e p. record { first = b; count = e - b; place = p } in
    ap (λ (b : ℕ). made b end place) begins ∙ ap (λ (e : ℕ). made (border runs level j) e place) ends
    ∙ ap (λ (p : ℕ). made (border runs level j) (border runs level (j + 1)) p) stands

-- Nodes of a path

pub few_children : (a : ℕ) → min 10 a ≤ 10
few_children a = omega arith

pub slot_of_over : (level leaf : ℕ) → node_over (level + 1) leaf * fanout + slot level leaf ≡ node_over level leaf
slot_of_over level leaf = omega (arith, over_above level leaf)

pub path_inner : (runs : List Run) (leaf below child : ℕ)
    → path_words runs leaf (suc below) child
    ≡ node_words kind.Inner (inner_entries runs (only below (node_over below leaf) child) below (node_over (suc below) leaf))
path_inner runs leaf below child =
    let same : suc below - 1 ≡ below = omega arith in
    ap (λ (b : ℕ). node_words kind.Inner (inner_entries runs (only b (node_over b leaf) child) below (node_over (suc below) leaf))) same

pub path_node : (runs : List Run) (leaf level child k s : ℕ) (words : List ℕ) → 0 < level → k ≡ node_over level leaf → s ≡ slot (level - 1) leaf
    → words ≡ node_words kind.Inner (inner_entries runs (only (level - 1) (k * fanout + s) child) (level - 1) k)
    → words ≡ path_words runs leaf level child
path_node runs leaf zero child k s words some node at is = absurd (omega arith)
path_node runs leaf (suc below) child k s words some node at is =
    let same : suc below - 1 ≡ below = omega arith in
    let here : s ≡ slot below leaf = at ∙ ap (λ (b : ℕ). slot b leaf) same in
    let above : node_over (below + 1) leaf ≡ node_over (suc below) leaf = ap (λ (l : ℕ). node_over l leaf) (add-one below) in
    let under : k * 10 + s ≡ node_over below leaf = omega (arith, node, here, above, slot_of_over below leaf) in
    is
    ∙ ap (λ (b : ℕ). node_words kind.Inner (inner_entries runs (only b (k * fanout + s) child) b k)) same
    ∙ ap (λ (j : ℕ). node_words kind.Inner (inner_entries runs (only below j child) below k)) under
    ∙ ap (λ (n : ℕ). node_words kind.Inner (inner_entries runs (only below (node_over below leaf) child) below n)) node
    ∙ sym (path_inner runs leaf below child)
