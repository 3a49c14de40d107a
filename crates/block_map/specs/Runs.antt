-- The held blocks of all files as runs, in rising order of files and blocks.
use Rattle.std.specs.Prelude.{◌≡◌, ◌⊎◌, ◌↔◌, ℕ, ◌+◌, ◌-◌, ◌<◌, ◌≤◌, Bool, ◌==◌, ◌||◌, ◌&&◌, nat_lt}
use Rattle.std.specs.Prelude.{nat_le, if◌then◌else◌, List, [], ◌∷◌, ◌++◌, Some, slice_get}
use Rattle.std.specs.List.{sum_by}
use Rattle.block_map.specs.declared.held_runs.HeldRun.{HeldRun}
use Rattle.nesc_base.specs.declared.runs.Run.{Run}
use Rattle.nesc_base.specs.Runs.{AreRuns, IsBehind, IsIn, IsRun}

-- block v of file n stands at this place, as one of the runs
pub record IsAmong (runs : List HeldRun) (n v at : ℕ) : Type 0 where
  pub k : ℕ
  pub held : HeldRun
  pub stands : slice_get runs k ≡ Some held
  pub file : held.file.0 ≡ n
  pub within : IsIn held.run v at

-- a run stands before another: it is of an earlier file, or of the same one and the other comes behind it
abbrev pub IsBefore : HeldRun → HeldRun → Type 0
IsBefore one next = (one.file.0 < next.file.0) ⊎ ((one.file.0 ≡ next.file.0) × IsBehind one.run next.run)

-- each is a run, and each stands before all that come later
pub record AreHeldRuns (runs : List HeldRun) : Type 0 where
  pub each : (k : ℕ) (held : HeldRun) → slice_get runs k ≡ Some held → IsRun held.run
  pub rising : (j k : ℕ) (one next : HeldRun) → j < k → slice_get runs j ≡ Some one
      → slice_get runs k ≡ Some next → IsBefore one next

-- how many blocks they have
abbrev pub blocks_in : List HeldRun → ℕ
blocks_in runs = sum_by (λ held. held.run.count) runs

-- block v of file n is in none of these runs
abbrev pub IsNotAmong : List HeldRun → ℕ → ℕ → Type 0
IsNotAmong runs n v = (at : ℕ) → ¬ IsAmong runs n v at

-- one block more stands among them, and every other as before
pub record AddsOne (old : List HeldRun) (n v at : ℕ) (new : List HeldRun) : Type 0 where
  pub added : IsAmong new n v at
  pub stay : (m w place : ℕ) → IsAmong old m w place → IsAmong new m w place
  pub no_other : (m w place : ℕ) → IsAmong new m w place → IsAmong old m w place ⊎ ((m ≡ n) × (w ≡ v) × (place ≡ at))
  pub count : blocks_in new ≡ blocks_in old + 1

-- the block is not among them any more, and every other is as before
pub record TakesOne (old : List HeldRun) (n v : ℕ) (new : List HeldRun) : Type 0 where
  pub taken : IsNotAmong new n v
  pub no_other : (m w place : ℕ) → IsAmong new m w place → IsAmong old m w place
  pub stay : (m w place : ℕ) → IsAmong old m w place → IsAmong new m w place ⊎ ((m ≡ n) × (w ≡ v))
  pub count : blocks_in new + 1 ≡ blocks_in old

-- Looking up

-- the run begins at this block of this file or before, or past it
abbrev pub BeginsBy : ℕ → ℕ → HeldRun → Type 0
BeginsBy n v held = (held.file.0 < n) ⊎ ((held.file.0 ≡ n) × (held.run.first ≤ v))

abbrev pub BeginsPast : ℕ → ℕ → HeldRun → Type 0
BeginsPast n v held = (n < held.file.0) ⊎ ((held.file.0 ≡ n) × (v < held.run.first))

-- the same as a test
abbrev pub begins_by : ℕ → ℕ → HeldRun → Bool
begins_by n v held = nat_lt held.file.0 n || (held.file.0 == n && nat_le held.run.first v)

-- none of the file's blocks from block `from` on, and below block `to`, is among them
abbrev pub LacksWithin : List HeldRun → ℕ → ℕ → ℕ → Type 0
LacksWithin runs n from to = (v : ℕ) → from ≤ v → v < to → IsNotAmong runs n v

abbrev pub LacksFrom : List HeldRun → ℕ → ℕ → Type 0
LacksFrom runs n from = (v : ℕ) → from ≤ v → IsNotAmong runs n v

-- one of the runs, of this file
abbrev pub IsOneOf : List HeldRun → ℕ → Run → Type 0
IsOneOf runs n run = (k : ℕ) × (held : HeldRun) × (slice_get runs k ≡ Some held) × (held.file.0 ≡ n) × (held.run ≡ run)

-- this is the first run that has a block of the file from block `from` on
pub record IsNextAmong (runs : List HeldRun) (n from : ℕ) (run : Run) : Type 0 where
  pub one : IsOneOf runs n run
  pub behind : from < run.first + run.count
  pub first : LacksWithin runs n from run.first

-- this is the last run of the file
pub record IsLastAmong (runs : List HeldRun) (n : ℕ) (run : Run) : Type 0 where
  pub one : IsOneOf runs n run
  pub last : LacksFrom runs n (run.first + run.count)

-- these are all runs of the file
pub record AreRunsAmong (held : List HeldRun) (n : ℕ) (runs : List Run) : Type 0 where
  pub are : AreRuns runs
  pub each : (v at : ℕ) → IsAmong held n v at ↔ ((k : ℕ) × (run : Run) × (slice_get runs k ≡ Some run) × IsIn run v at)

-- Putting in

-- a block at this place goes on the run, or the run goes on it
abbrev pub EndsAt : ℕ → ℕ → ℕ → HeldRun → Type 0
EndsAt n v at held = (held.file.0 ≡ n) × (held.run.first + held.run.count ≡ v) × (held.run.place + held.run.count ≡ at)

abbrev pub BeginsBehind : ℕ → ℕ → ℕ → HeldRun → Type 0
BeginsBehind n v at held = (held.file.0 ≡ n) × (held.run.first ≡ v + 1) × (held.run.place ≡ at + 1)

-- the last of the first k runs is one that the block goes on
pub record GoesOn (runs : List HeldRun) (k n v at from first place : ℕ) : Type 0 where
  pub held : HeldRun
  pub last : from + 1 ≡ k
  pub stands : slice_get runs from ≡ Some held
  pub ends : EndsAt n v at held
  pub first_is : held.run.first ≡ first
  pub place_is : held.run.place ≡ place

-- it is not
pub record BeginsItself (runs : List HeldRun) (k n v at from first place : ℕ) : Type 0 where
  pub behind : from ≡ k
  pub first_is : v ≡ first
  pub place_is : at ≡ place
  pub apart : (j : ℕ) (held : HeldRun) → j + 1 ≡ k → slice_get runs j ≡ Some held → ¬ EndsAt n v at held

-- where k runs begin before the block, its own run is to stand from this place in order on and begins so
abbrev pub IsBegin : List HeldRun → ℕ → ℕ → ℕ → ℕ → ℕ → ℕ → ℕ → Type 0
IsBegin runs k n v at from first place =
    GoesOn runs k n v at from first place ⊎ BeginsItself runs k n v at from first place

-- the run behind the first k goes on the block
pub record IsGoneOn (runs : List HeldRun) (k n v at to end : ℕ) : Type 0 where
  pub held : HeldRun
  pub next : to ≡ k + 1
  pub stands : slice_get runs k ≡ Some held
  pub begins : BeginsBehind n v at held
  pub end_is : end ≡ held.run.first + held.run.count

-- it does not
pub record EndsItself (runs : List HeldRun) (k n v at to end : ℕ) : Type 0 where
  pub before : to ≡ k
  pub end_is : end ≡ v + 1
  pub apart : (held : HeldRun) → slice_get runs k ≡ Some held → ¬ BeginsBehind n v at held

-- where k runs begin before the block, its own run is to stand before this place in order and ends so
abbrev pub IsEnd : List HeldRun → ℕ → ℕ → ℕ → ℕ → ℕ → ℕ → Type 0
IsEnd runs k n v at to end = IsGoneOn runs k n v at to end ⊎ EndsItself runs k n v at to end

-- Taking out

-- what is left of a run without block v, before it and behind it
abbrev pub part_before : HeldRun → ℕ → List HeldRun
part_before held v = if held.run.first == v then []
    else record { file = held.file; run = record held.run { count = v - held.run.first } } ∷ []

abbrev pub part_behind : HeldRun → ℕ → List HeldRun
part_behind held v =
    if held.run.first + held.run.count == v + 1 then [] else record {
      file = held.file;
      run = record {
        first = v + 1;
        count = held.run.first + held.run.count - (v + 1);
        place = held.run.place + (v - held.run.first) + 1;
      };
    } ∷ []

abbrev pub parts_around : HeldRun → ℕ → List HeldRun
parts_around held v = part_before held v ++ part_behind held v
