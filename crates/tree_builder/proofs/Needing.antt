-- How many nodes of a path do not stand is one number, and 0 where its leaf stands.
use Rattle.std.proofs.Common.{◌≡◌, inl, inr, ℕ, ◌<◌, List, length, sym, ap, subst, ◌∙◌, arith}
use Rattle.std.proofs.lemmas.Bool.{cases_lt}
use Rattle.nesc_base.specs.Files.{longest_file}
use Rattle.nesc_base.specs.Runs.{AreRuns}
use Rattle.nesc_base.specs.declared.runs.Run.{Run}
use Rattle.tree_shape.specs.Shape.{IsLeafOver}
use Rattle.tree_shape.proofs.Borders.{one_node_over}
use Rattle.tree_shape.proofs.Paths.{over_leaf}
use Rattle.tree_shape.proofs.Spans.{one_top}
use Rattle.tree_words.specs.Changed.{Lacks}
use Rattle.tree_words.specs.Shown.{IsCovered, Layout, Shows}
use Rattle.tree_words.proofs.Paths.{has_one_lack}
use Rattle.tree_builder.specs.Building.{Needs}

same_leaf : (runs : List Run) (v one other : ℕ) → AreRuns runs → v < longest_file → IsLeafOver runs v one → IsLeafOver runs v other
    → one ≡ other
same_leaf runs v one other are filed over also = (one_node_over runs 0 v are filed).one one other over.covers also.covers

-- where the leaf stands no node is needed
pub covered_needs_none : (runs : List Run) (layout : Layout) (v needed : ℕ) → AreRuns runs → v < longest_file
    → IsCovered runs layout v → Needs runs layout v needed → needed ≡ 0
covered_needs_none runs layout v needed are filed covered needs = elim (cases_lt 0 needed) [
  | inl some ↦
      let same : covered.0 ≡ needs.leaf = same_leaf runs v covered.0 needs.leaf are filed covered.1 needs.over in
      absurd (covered.2 (ap (layout 0) (same ∙ sym (over_leaf needs.leaf)) ∙ needs.lacks.lack 0 some))
  | inr none ↦ omega arith
]

-- there is one number of nodes that are needed
pub needs_one : (words : List ℕ) (root : ℕ) (runs : List Run) (layout : Layout) (v one other : ℕ) → AreRuns runs → v < longest_file
    → Shows words root runs layout → Needs runs layout v one → Needs runs layout v other → one ≡ other
needs_one words root runs layout v one other are filed shows needs also =
    let tops = (one_top (length runs)).one in
    let leaf : also.leaf ≡ needs.leaf = same_leaf runs v also.leaf needs.leaf are filed also.over needs.over in
    let there : Lacks shows.top needs.leaf layout one =
    subst (λ (t : ℕ). Lacks t needs.leaf layout one) (tops needs.top shows.top needs.root_level shows.shows.root_level) needs.lacks in
    let here : Lacks shows.top also.leaf layout other =
    subst (λ (t : ℕ). Lacks t also.leaf layout other) (tops also.top shows.top also.root_level shows.shows.root_level) also.lacks in
    (has_one_lack words runs shows.top needs.leaf layout shows.shows).one one other there
    (subst (λ (l : ℕ). Lacks shows.top l layout other) leaf here)
