-- Where the blocks stand that files hold, and how that changes with the files.
use Rattle.std.specs.Prelude.{◌≡◌, ℕ, ◌<◌, ◌≤◌, nat_lt, List, [], ◌∷◌, unwrap_or}
use Rattle.std.specs.FinMap.{empty, get, insert, remove, retain_keys}
use Rattle.nesc_base.specs.declared.runs.Area.{Area}
use Rattle.nesc_base.specs.Places.{HeldAt, IsFree, Places}
use Rattle.file_model.specs.Files.{Change, create, delete, hold, put, resize}

-- where the blocks of a file stand; a file that is not there has none
abbrev pub held_at : Places → ℕ → HeldAt
held_at places n = unwrap_or (get places n) empty

-- a file that is made has no blocks yet
abbrev pub with_file : Places → ℕ → Places
with_file places n = insert places n empty

-- one that goes gives all of them back, and one that is made shorter those at or past its length
abbrev pub without_file : Places → ℕ → Places
without_file places n = remove places n

abbrev pub cut_at : Places → ℕ → ℕ → Places
cut_at places n length = insert places n (retain_keys (held_at places n) (λ v. nat_lt v length))

-- block v of the file stands at this place too
abbrev pub with_place : Places → ℕ → ℕ → ℕ → Places
with_place places n v at = insert places n (insert (held_at places n) v at)

-- of the data blocks, which stand in this area, the lowest that is free
pub record IsLowestFree (area : Area) (places : Places) (at : ℕ) : Type 0 where
  pub from : area.from ≤ at
  pub below : at < area.to
  pub free : IsFree places at
  pub lowest : (other : ℕ) → area.from ≤ other → other < at → ¬ IsFree places other

-- each of these blocks of the file in turn gets the lowest that is free
abbrev pub Gives : Area → Places → ℕ → List ℕ → Places → Type 0
Gives area old n [] new = new ≡ old
Gives area old n (v ∷ blocks) new =
    (at : ℕ) × IsLowestFree area old at × Gives area (with_place old n v at) n blocks new

-- a change of the files leads from the old places to the new ones: a block that comes to be held gets the lowest that
-- is free, and one that is put stays where it is
abbrev pub Moves : Area → Places → Change → Places → Type 0
Moves area old (create n name length) new = new ≡ with_file old n
Moves area old (delete n) new = new ≡ without_file old n
Moves area old (resize n length) new = new ≡ cut_at old n length
Moves area old (hold n blocks) new = Gives area old n blocks new
Moves area old (put n v block) new = new ≡ old

-- and so do several, one after another
abbrev pub AreMoved : Area → Places → List Change → Places → Type 0
AreMoved area old [] new = new ≡ old
AreMoved area old (change ∷ changes) new = (next : Places) × Moves area old change next × AreMoved area next changes new
