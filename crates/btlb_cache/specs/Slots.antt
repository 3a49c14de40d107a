-- How a cache of translations is kept: what stands at each place, and the order in which the places were used.
use Rattle.std.specs.Prelude.{◌≡◌, ◌⊎◌, ℕ, ◌-◌, ◌<◌, ◌≤◌, ◌==◌, nat_eq, if◌then◌else◌}
use Rattle.std.specs.Prelude.{Bool, false, List, length, slice_get, slice_index_or, Option, Some, None, option_map}
use Rattle.std.specs.Prelude.{is_none}
use Rattle.std.specs.List.{AllByRecursion, IsDistinct, filter_map}
use Rattle.std.specs.Map.{lookup_entry}
use Rattle.std.specs.Option.{option_map_or}
use Rattle.btlb_cache.specs.declared.slots.Held.{Held}
use Rattle.translation_model.specs.Translations.{Cache, Entry, IsCache, translation}

abbrev pub entry_of : Held → Entry
entry_of held = translation held.function.0 held.run

-- What stands at a place

-- there is an entry, and it passes a test
abbrev pub passes : (Entry → Bool) → Option Held → Bool
passes test slot = option_map_or (λ held. test (entry_of held)) slot false

-- an entry of the function is taken away
abbrev pub without : ℕ → Option Held → Option Held
without f None = None
without f (Some held) = if held.function.0 == f then None else Some held

abbrev pub slot_at : List (Option Held) → ℕ → Option Held
slot_at slots place = slice_index_or slots place None

-- Places in order, the one used last first

abbrev pub Order : Type 0
Order = List (ℕ × Unit {0})

-- the place stands in the order
abbrev pub Has : ℕ → Order → Type 0
Has place order = lookup_entry (nat_eq place) order ≡ Some (place, tt)

abbrev pub is_same : ℕ × Unit {0} → ℕ × Unit {0} → Bool
is_same one other = one.0 == other.0

-- each place below a number stands in the order once, and no other does
pub record IsOrder (count : ℕ) (order : Order) : Type 0 where
  pub each : (place : ℕ) → place < count → Has place order
  pub within : AllByRecursion (λ one. one.0 < count) order
  pub apart : IsDistinct is_same order
  pub as_many : length order ≡ count

-- the place stands last
abbrev pub IsOldest : Order → ℕ → Type 0
IsOldest order place = slice_get order (length order - 1) ≡ Some (place, tt)

-- The cache

-- the place has no entry
abbrev pub IsUnused : List (Option Held) → ℕ → Type 0
IsUnused slots place = slot_at slots place ≡ None

-- no place is without an entry
abbrev pub AllUsed : List (Option Held) → Type 0
AllUsed slots = AllByRecursion (λ slot. is_none slot ≡ false) slots

-- the place is where the next entry is to stand
pub record IsNext (slots : List (Option Held)) (order : Order) (place : ℕ) : Type 0 where
  pub within : place < length slots
  pub next : IsUnused slots place ⊎ (AllUsed slots × IsOldest order place)

-- the entries of the places, in their order
abbrev pub entries_at : List (Option Held) → Order → List Entry
entries_at slots order = filter_map (λ one. option_map entry_of (slot_at slots one.0)) order

abbrev pub cache_of : List (Option Held) → Order → Cache
cache_of slots order = record { entries = entries_at slots order; capacity = length slots }

-- the places are those of the order, and what stands there is a cache
pub record IsKept (slots : List (Option Held)) (order : Order) : Type 0 where
  pub is : IsCache (cache_of slots order)
  pub some : 1 ≤ length slots
  pub few : length slots < 256
  pub ordered : IsOrder (length slots) order
