-- A list is read in one way.
use Rattle.std.proofs.Common.{◌≡◌, ℕ, suc, List, length, sym, ◌∙◌, arith}
use Rattle.std.proofs.lemmas.Grind.{same_number_lists}
use Rattle.nesc_base.specs.declared.block.Block.{Block}
use Rattle.nesc_base.specs.declared.geometry.Geometry.{Geometry}
use Rattle.nesc_base.specs.Geometry.{IsGeometry}
use Rattle.slot_layout.specs.Targets.{IsListOf}
use Rattle.slot_layout.proofs.ListsOf.{number_of_list}

-- blocks are no two lists
pub one_list : (geometry : Geometry) (blocks : List Block) (one other : List ℕ) → IsGeometry geometry
    → IsListOf geometry blocks one → IsListOf geometry blocks other → one ≡ other
one_list geometry blocks one other sizes first second =
    let size : length one ≡ length other = sym (number_of_list geometry blocks one sizes first 0 (omega arith)) ∙ number_of_list geometry blocks other sizes second 0 (omega arith) in
    same_number_lists one other size (λ k below.
    sym (number_of_list geometry blocks one sizes first (suc k) (omega arith)) ∙ number_of_list geometry blocks other sizes second (suc k) (omega arith))
