-- The runs in which a file's held blocks lie on a disk.
use Rattle.std.specs.Prelude.{◌≡◌, ◌≢◌, ◌↔◌, ℕ, ◌+◌, ◌-◌, ◌^◌, ◌<◌, ◌≤◌, List, slice_get, Some}
use Rattle.std.specs.FinMap.{get}
use Rattle.nesc_base.specs.declared.runs.Run.{Run}
use Rattle.nesc_base.specs.Files.{longest_file}
use Rattle.nesc_base.specs.Places.{HeldAt}

-- a run has a block, its blocks are a file's, and their places are numbers of blocks
pub record IsRun (run : Run) : Type 0 where
  pub some : 1 ≤ run.count
  pub filed : run.first + run.count ≤ longest_file
  pub placed : run.place + run.count < 2 ^ 32

-- a run comes behind another in the file, and does not go on where that one ends, or they would be one
pub record IsBehind (one next : Run) : Type 0 where
  pub later : one.first + one.count ≤ next.first
  pub apart : one.first + one.count ≡ next.first → one.place + one.count ≢ next.place

-- the maximal runs of a file, in rising order
pub record AreRuns (runs : List Run) : Type 0 where
  pub each : (k : ℕ) (run : Run) → slice_get runs k ≡ Some run → IsRun run
  pub rising : (k : ℕ) (one next : Run) → slice_get runs k ≡ Some one
      → slice_get runs (k + 1) ≡ Some next → IsBehind one next

-- block v of the file stands at this place as one of the run
pub record IsIn (run : Run) (v at : ℕ) : Type 0 where
  pub from : run.first ≤ v
  pub below : v < run.first + run.count
  pub place : at ≡ run.place + (v - run.first)

-- these are the runs of a file whose held blocks stand so
pub record AreRunsOf (held : HeldAt) (runs : List Run) : Type 0 where
  pub are : AreRuns runs
  pub each : (v at : ℕ) → (get held v ≡ Some at)
      ↔ ((k : ℕ) × (run : Run) × (slice_get runs k ≡ Some run) × IsIn run v at)
