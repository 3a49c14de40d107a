-- Laws of the definitions.
use Rattle.std.specs.Prelude.{◌≡◌, ◌≢◌, ◌⊎◌, ◌↔◌, ℕ, ◌<◌, ◌≤◌, true, false, slice_get, Some, None, Contains}
use Rattle.std.specs.List.{AllByRecursion}
use Rattle.nesc_base.specs.declared.runs.Area.{Area}
use Rattle.nesc_base.specs.Runs.{IsRun}
use Rattle.translation_model.specs.Translations.{Cache, Entry, IsCache, LiesIn, after_clear, after_forget, after_keep}
use Rattle.translation_model.specs.Translations.{after_look, empty_cache, found, found_place, translates}

-- a fact of an entry holds of each entry of the cache
abbrev pub Each : (Entry → Type 0) → Cache → Type 0
Each Fact cache = AllByRecursion Fact cache.entries

-- what is found is an entry that has the block, and nothing is found exactly where no entry has it
pub record IsFound (f v : ℕ) (cache : Cache) : Type 0 where
  pub one : (entry : Entry) → found f v cache.entries ≡ Some entry
      → Contains cache.entries entry × (translates f v entry ≡ true)
  pub none : (found f v cache.entries ≡ None) ↔ Each (λ entry. translates f v entry ≡ false) cache

-- each use leaves a cache, where what is kept is a run
pub record LeaveCaches : Type 0 where
  pub new : (capacity : ℕ) → IsCache (empty_cache capacity)
  pub look : (f v : ℕ) (cache : Cache) → IsCache cache → IsCache (after_look f v cache)
  pub keep : (entry : Entry) (cache : Cache) → 1 ≤ cache.capacity → IsRun entry.run → IsCache cache
      → IsCache (after_keep entry cache)
  pub forget : (f : ℕ) (cache : Cache) → IsCache cache → IsCache (after_forget f cache)
  pub clear : (cache : Cache) → IsCache (after_clear cache)

-- each entry of the second cache is one of the first
abbrev pub AreOf : Cache → Cache → Type 0
AreOf old new = (entry : Entry) → Contains new.entries entry → Contains old.entries entry

-- no use brings an entry but keeping it
pub record BringNone (cache : Cache) : Type 0 where
  pub look : (f v : ℕ) → AreOf cache (after_look f v cache)
  pub keep : (kept entry : Entry) → Contains (after_keep kept cache).entries entry
      → (kept ≡ entry) ⊎ Contains cache.entries entry
  pub forget : (f : ℕ) → AreOf cache (after_forget f cache)

-- a function that was forgotten has no entry, so nothing of it is found, and what is found of another stays
pub record IsForgotten (f : ℕ) (cache : Cache) : Type 0 where
  pub no_entry : Each (λ entry. entry.function ≢ f) (after_forget f cache)
  pub nothing : (v : ℕ) → found f v (after_forget f cache).entries ≡ None
  pub others : (g v : ℕ) → g ≢ f → found g v (after_forget f cache).entries ≡ found g v cache.entries

-- all runs lie in the area
abbrev pub LieIn : Area → Cache → Type 0
LieIn area cache = Each (λ entry. LiesIn area entry.run) cache

-- all runs lie there after each use, where that of an entry which is kept does
pub record StayIn (area : Area) (cache : Cache) : Type 0 where
  pub look : (f v : ℕ) → LieIn area (after_look f v cache)
  pub keep : (entry : Entry) → LiesIn area entry.run → LieIn area (after_keep entry cache)
  pub forget : (f : ℕ) → LieIn area (after_forget f cache)
  pub clear : LieIn area (after_clear cache)

-- what is found lies where all runs lie
abbrev pub FoundInArea : Area → Cache → Type 0
FoundInArea area cache =
    LieIn area cache → (f v at : ℕ) → found_place f v cache.entries ≡ Some at → (area.from ≤ at) × (at < area.to)

-- two entries that have one block of one function are one
abbrev pub HasOneEach : Cache → Type 0
HasOneEach cache =
    IsCache cache → (j k f v : ℕ) (one other : Entry)
    → slice_get cache.entries j ≡ Some one → slice_get cache.entries k ≡ Some other
    → translates f v one ≡ true → translates f v other ≡ true → j ≡ k
