-- A cache of translations: what it has, what is found in it, and what each use of it leaves.
use Rattle.std.specs.Prelude.{ℕ, ◌+◌, ◌-◌, ◌≤◌, nat_lt, nat_le, not, ◌&&◌, ◌==◌, if◌then◌else◌, Bool}
use Rattle.std.specs.Prelude.{List, [], ◌∷◌, length, take, filter, Option, option_map}
use Rattle.std.specs.List.{AllByRecursion, IsDistinct, find, list_any}
use Rattle.std.specs.Option.{option_map_or}
use Rattle.nesc_base.specs.declared.runs.Area.{Area}
use Rattle.nesc_base.specs.declared.runs.Run.{Run}
use Rattle.nesc_base.specs.Runs.{IsRun}

-- an entry: where the blocks of a run of a function's file stand
pub record Entry : Type 0 where
  pub function : ℕ
  pub run : Run

abbrev pub translation : ℕ → Run → Entry
translation f run = record { function = f; run = run }

-- the entries, the one used last first, and how many there may be
pub record Cache : Type 0 where
  pub entries : List Entry
  pub capacity : ℕ

-- Entries

-- the first block behind those of a run
abbrev pub end_of : Run → ℕ
end_of run = run.first + run.count

-- the entry is of the function, and block v is in its run
abbrev pub translates : ℕ → ℕ → Entry → Bool
translates f v entry = (entry.function == f) && (nat_le entry.run.first v && nat_lt v (end_of entry.run))

-- where block v of a run stands
abbrev pub place_of : ℕ → Run → ℕ
place_of v run = run.place + (v - run.first)

-- a block is in both runs
abbrev pub meet : Run → Run → Bool
meet one other = nat_lt one.first (end_of other) && nat_lt other.first (end_of one)

-- both are of one function, and a block is in both runs
abbrev pub overlap : Entry → Entry → Bool
overlap one other = (one.function == other.function) && meet one.run other.run

abbrev pub is_of : ℕ → Entry → Bool
is_of f entry = entry.function == f

-- all blocks of the run stand in the area
pub record LiesIn (area : Area) (run : Run) : Type 0 where
  pub from : area.from ≤ run.place
  pub to : run.place + run.count ≤ area.to

-- a cache has no more entries than it may, each is of a run, and no two of one function have a block in common
pub record IsCache (cache : Cache) : Type 0 where
  pub few : length cache.entries ≤ cache.capacity
  pub runs : AllByRecursion (λ entry. IsRun entry.run) cache.entries
  pub apart : IsDistinct overlap cache.entries

-- Looking

-- the entry that has block v of the function
abbrev pub found : ℕ → ℕ → List Entry → Option Entry
found f v entries = find (translates f v) entries

-- where block v of the function stands, by the entry that has it
abbrev pub found_place : ℕ → ℕ → List Entry → Option ℕ
found_place f v entries = option_map (λ entry. place_of v entry.run) (found f v entries)

-- the entry comes to the front, and the others stay in their order
abbrev pub in_front : ℕ → ℕ → List Entry → Entry → List Entry
in_front f v entries entry = entry ∷ filter (λ other. not (translates f v other)) entries

-- The uses, and what they leave

abbrev pub empty_cache : ℕ → Cache
empty_cache capacity = record { entries = []; capacity = capacity }

-- the entries where block v of the function is looked for: the one that has it comes to the front
abbrev pub looked_in : ℕ → ℕ → List Entry → List Entry
looked_in f v entries = option_map_or (in_front f v entries) (found f v entries) entries

abbrev pub after_look : ℕ → ℕ → Cache → Cache
after_look f v cache = record cache { entries = looked_in f v cache.entries }

-- The entries where one is to be kept. Where one of the same function has a block of its run, nothing changes. Else it
-- comes to the front, and the last of a full list goes.
abbrev pub kept_in : ℕ → Entry → List Entry → List Entry
kept_in capacity entry entries =
    if list_any (overlap entry) entries then entries else entry ∷ take (capacity - 1) entries

abbrev pub after_keep : Entry → Cache → Cache
after_keep entry cache = record cache { entries = kept_in cache.capacity entry cache.entries }

-- all entries of the function go
abbrev pub after_forget : ℕ → Cache → Cache
after_forget f cache = record cache { entries = filter (λ entry. not (is_of f entry)) cache.entries }

-- all entries go
abbrev pub after_clear : Cache → Cache
after_clear cache = record cache { entries = [] }
