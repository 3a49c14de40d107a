-- A journal as its callers see it, and what staging and forgetting make of it.
use Rattle.std.specs.Prelude.{◌≡◌, ℕ, ◌+◌, ◌≤◌, nat_le, Bool, true, false, if◌then◌else◌, IsSome, refl}
use Rattle.std.specs.Coded.{Coded, code_by, coded_bool, coded×, coded_ℕ}
use Rattle.std.specs.FinMap as finmap
use Rattle.std.specs.FinMap.{empty, get, insert, remove}
use Rattle.nesc_base.specs.declared.block.Block.{Block}
use Rattle.nesc_base.specs.declared.geometry.Geometry.{Geometry}
use Rattle.nesc_base.specs.Codes.{coded_block, coded_geometry}
use Rattle.nesc_base.specs.Geometry.{IsGeometry, area_from}
use Rattle.host_journal.specs.Staged.{MayStage, Staged}

-- how the image is divided, what is staged, how many data blocks were staged since the last commit, and whether it is
-- started
pub record Journal : Type 0 where
  pub geometry : Geometry
  pub staged : Staged
  pub count : ℕ
  pub started : Bool

-- it is stored as its fields
abbrev pub journal_code : Coded Journal
journal_code =
    code_by (Geometry × (Staged × (ℕ × Bool)))
    (coded× coded_geometry (coded× (finmap.code coded_ℕ coded_block) (coded× coded_ℕ coded_bool)))
    (λ j. (j.geometry, (j.staged, (j.count, j.started))))
    (λ p. record { geometry = p.0; staged = p.1.0; count = p.1.1.0; started = p.1.1.1 })
    (λ _. refl)

-- what every journal is: blocks are staged only where they may be, and no more data blocks than the slack allows
pub record IsJournal (journal : Journal) : Type 0 where
  pub sizes : IsGeometry journal.geometry
  pub within : (at : ℕ) → IsSome (get journal.staged at) → MayStage journal.geometry at
  pub few : journal.count ≤ journal.geometry.slack

abbrev pub is_data : Geometry → ℕ → Bool
is_data geometry at = nat_le (area_from geometry) at

-- with one more block staged; a data block counts, also where one was staged for it before
abbrev pub staging : Journal → ℕ → Block → Journal
staging journal at block = record journal {
  staged = insert journal.staged at block;
  count = journal.count + (if is_data journal.geometry at then 1 else 0);
}

-- with nothing staged for this place; what was counted stays counted
abbrev pub forgetting : Journal → ℕ → Journal
forgetting journal at = record journal { staged = remove journal.staged at }

-- started, with nothing staged and nothing counted
abbrev pub started_anew : Journal → Journal
started_anew journal = record journal { staged = empty; count = 0; started = true }

-- it has to be started again before it reads or commits
pub record NeedsStart (old new : Journal) : Type 0 where
  pub same_geometry : new.geometry ≡ old.geometry
  pub not_started : new.started ≡ false
  pub sound : IsJournal new
