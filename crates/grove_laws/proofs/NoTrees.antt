-- The trees of all functions where none stands.
use Rattle.std.proofs.Common.{◌≡◌, ℕ, ◌-◌, List, refl, arith}
use Rattle.std.proofs.lemmas.List.{get_or-replicate, length-replicate}
use Rattle.nesc_base.specs.Runs.{AreRuns}
use Rattle.nesc_base.specs.declared.runs.Run.{Run}
use Rattle.nesc_requests.specs.Machine.{most_functions}
use Rattle.host_memory.specs.Pool.{all_free}
use Rattle.host_memory.proofs.PoolLaws.{none_taken}
use Rattle.tree_words.specs.Shown.{no_nodes}
use Rattle.tree_words.proofs.NoNodes.{shows_none}
use Rattle.tree_pruner.specs.Reclaiming.{AreTrees}
use Rattle.tree_pruner.specs.Roots.{IsFunction, no_roots, root_of}
use Rattle.grove_laws.specs.Laws.{HasNoTrees}

no_root : (f : ℕ) → IsFunction f → root_of no_roots f ≡ 0
no_root f function =
    let first = function.first in
    let last = function.last in
    get_or-replicate most_functions (f - 1) 0 0 (omega arith)

pub no_trees : (nodes : ℕ) (words : List ℕ) (runs : ℕ → List Run) → ((g : ℕ) → IsFunction g → AreRuns (runs g))
    → AreTrees (all_free nodes) words no_roots runs (λ _. no_nodes)
no_trees nodes words runs are = record {
  are_runs = are;
  shows = λ f function. shows_none words (root_of no_roots f) (runs f) no_nodes (no_root f function) (λ level k. refl);
  apart = λ f g address function other of also. absurd (of.2 refl);
  taken = λ address. ((λ taken. absurd (none_taken nodes address taken)), (λ of. absurd (of.2.2 refl)));
}

pub has_no_trees : (f : ℕ) → HasNoTrees f
has_no_trees f nodes words runs function are = record {
  function = function;
  rooted = length-replicate {A = ℕ} most_functions 0;
  trees = no_trees nodes words runs are;
}
