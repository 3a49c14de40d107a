-- What trees and their cache show, which the machine takes as given.
use Rattle.std.specs.Prelude.{◌≡◌, List, None}
use Rattle.std.specs.List.{AllByRecursion}
use Rattle.nesc_base.specs.Places.{Places}
use Rattle.plain_machine.specs.Given.{leaf_of, walked, way_of}
use Rattle.plain_machine.specs.Machine.{StepTaken}
use Rattle.plain_machine.specs.declared.outcome.Outcome.{Outcome}
use Rattle.plain_machine.specs.declared.setting.Setting.{Setting}

-- There are no trees yet: each walk comes to its end without a node, and no tree is given up or built.
pub record HasNoTrees (outcome : Outcome) : Type 0 where
  pub walks : way_of outcome.answer ≡ walked 0
  pub no_leaf : leaf_of outcome.answer ≡ None
  pub no_drops : outcome.drops ≡ 0
  pub no_path : outcome.built ≡ None

-- so it is for the steps of a run, one after another, from where the blocks of files stand at its beginning
abbrev pub MeetsMissLaw : Setting → Places → List StepTaken → Type 0
MeetsMissLaw setting places = AllByRecursion (λ step. HasNoTrees step.outcome)
