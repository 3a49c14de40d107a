-- Files: what is read from them, and how they change.
use Rattle.std.specs.Prelude.{◌≡◌, ◌≢◌, ℕ, ◌+◌, ◌-◌, ◌<◌, ◌≤◌, ◌==◌, ◌&&◌, ◌||◌, nat_eq, nat_lt, not, Bool}
use Rattle.std.specs.Prelude.{false, List, [], ◌∷◌, length, Some, None, IsSome, IsTrue, unwrap_or, filter, map}
use Rattle.std.specs.List.{range_with_len, sum_by, AllByRecursion, IsDistinct}
use Rattle.std.specs.FinMap.{empty, get, insert, remove, retain_keys, contains_key, len, values}
use Rattle.nesc_base.specs.declared.block.Block.{Block}
use Rattle.nesc_base.specs.Block.{zero_block}
use Rattle.nesc_base.specs.Files.{Body, File, Files, longest_file, most_files}
use Rattle.nesc_base.specs.Name.{is_name}

-- Reading

-- the block is held
abbrev pub holds : File → ℕ → Bool
holds file v = contains_key file.body v

-- what is read at a block: what is held there, else zeros
abbrev pub read : File → ℕ → Block
read file v = unwrap_or (get file.body v) zero_block

-- what is read at n blocks from v on
abbrev pub read_from : File → ℕ → ℕ → List Block
read_from file v n = map (read file) (range_with_len v n)

-- those of n blocks from v on that are not held, in rising order
abbrev pub unheld : File → ℕ → ℕ → List ℕ
unheld file v n = filter (λ at. not (holds file at)) (range_with_len v n)

-- and of these, those that lie below the length
abbrev pub unheld_below : File → ℕ → ℕ → List ℕ
unheld_below file v n = filter (λ at. nat_lt at file.length) (unheld file v n)

-- Names and numbers

-- the file of this number has this name
pub record HasName (files : Files) (name : List ℕ) (n : ℕ) (file : File) : Type 0 where
  pub stands : get files n ≡ Some file
  pub named : file.name ≡ name

-- a file has this name
abbrev pub IsNamed : Files → List ℕ → Type 0
IsNamed files name = (n : ℕ) × (file : File) × HasName files name n file

-- no file has this name
abbrev pub IsUnnamed : Files → List ℕ → Type 0
IsUnnamed files name = (n : ℕ) (file : File) → get files n ≡ Some file → file.name ≢ name

-- each number is used
abbrev pub IsFull : Files → Type 0
IsFull files = (n : ℕ) → 1 ≤ n → n ≤ most_files → IsSome (get files n)

-- the number is used by no file, and each lower one is
pub record IsLowestUnused (files : Files) (n : ℕ) : Type 0 where
  pub first : 1 ≤ n
  pub among : n ≤ most_files
  pub unused : get files n ≡ None
  pub lower : (m : ℕ) → 1 ≤ m → m < n → IsSome (get files m)

-- how many blocks all files hold, and how many of so many data blocks are free
abbrev pub held_in : Files → ℕ
held_in files = sum_by (λ file. len file.body) (values files)

abbrev pub free : ℕ → Files → ℕ
free blocks files = blocks - held_in files

-- Changes

-- a change of files: a file is made under a number, goes, or gets another length; or it comes to hold blocks, or a held
-- block is written
pub data Change : Type 0 where
  create : (n : ℕ) (name : List ℕ) (length : ℕ) → Change
  delete : (n : ℕ) → Change
  resize : (n length : ℕ) → Change
  hold : (n : ℕ) (blocks : List ℕ) → Change
  put : (n v : ℕ) (block : Block) → Change

-- a file that is made has a name and is not too long, nor is one that gets another length
abbrev pub MayChange : Change → Type 0
MayChange (create n name length) = IsTrue (is_name name) × (length ≤ longest_file)
MayChange (resize n length) = length ≤ longest_file
MayChange change = Unit {0}

-- the lowest unused number gets the file, which holds nothing
pub record Creates (old : Files) (n : ℕ) (name : List ℕ) (length : ℕ) (new : Files) : Type 0 where
  pub unnamed : IsUnnamed old name
  pub lowest : IsLowestUnused old n
  pub result : new ≡ insert old n (record { name = name; length = length; body = empty })

-- the file is gone, and its blocks with it
pub record Deletes (old : Files) (n : ℕ) (new : Files) : Type 0 where
  pub stands : IsSome (get old n)
  pub result : new ≡ remove old n

-- what the body holds below this block
abbrev pub below : ℕ → Body → Body
below length body = retain_keys body (λ v. nat_lt v length)

-- the file has another length, and holds nothing at or past it
pub record Resizes (old : Files) (n length : ℕ) (new : Files) : Type 0 where
  pub file : File
  pub stands : get old n ≡ Some file
  pub result : new ≡ insert old n (record file { length = length; body = below length file.body })

-- the body with a block of zeros at each of these places
abbrev pub with_zeros : Body → List ℕ → Body
with_zeros body [] = body
with_zeros body (v ∷ blocks) = with_zeros (insert body v zero_block) blocks

-- Each of these blocks, none twice, lies below the length and was not held, and is a block of zeros now. That so many
-- data blocks were free is said by whoever holds them.
pub record Holds (old : Files) (n : ℕ) (blocks : List ℕ) (new : Files) : Type 0 where
  pub file : File
  pub stands : get old n ≡ Some file
  pub below : AllByRecursion (λ v. v < file.length) blocks
  pub fresh : AllByRecursion (λ v. get file.body v ≡ None) blocks
  pub apart : IsDistinct nat_eq blocks
  pub result : new ≡ insert old n (record file { body = with_zeros file.body blocks })

-- the file that holds this block at v
abbrev pub with_block : File → ℕ → Block → File
with_block file v block = record file { body = insert file.body v block }

-- a block that is held is this one now
pub record Puts (old : Files) (n v : ℕ) (block : Block) (new : Files) : Type 0 where
  pub file : File
  pub stands : get old n ≡ Some file
  pub held : IsSome (get file.body v)
  pub result : new ≡ insert old n (with_block file v block)

-- the change leads from the old files to the new ones, and nothing else moves
abbrev pub Changes : Files → Change → Files → Type 0
Changes old (create n name length) new = Creates old n name length new
Changes old (delete n) new = Deletes old n new
Changes old (resize n length) new = Resizes old n length new
Changes old (hold n blocks) new = Holds old n blocks new
Changes old (put n v block) new = Puts old n v block new

-- Lists of changes

-- the changes lead from the old files to the new ones, one after another
abbrev pub LeadsTo : Files → List Change → Files → Type 0
LeadsTo old [] new = new ≡ old
LeadsTo old (change ∷ changes) new = (next : Files) × Changes old change next × LeadsTo next changes new

-- file n comes to hold these blocks, if there are any
abbrev pub holding : ℕ → List ℕ → List Change
holding n [] = []
holding n (v ∷ blocks) = hold n (v ∷ blocks) ∷ []

-- the blocks are put one after another, from v on
abbrev pub puts_from : ℕ → ℕ → List Block → List Change
puts_from n v [] = []
puts_from n v (block ∷ blocks) = put n v block ∷ puts_from n (v + 1) blocks

-- one of the changes puts this block
abbrev pub is_put : ℕ → ℕ → List Change → Bool
is_put n v [] = false
is_put n v (put m at block ∷ changes) = (m == n && at == v) || is_put n v changes
is_put n v (change ∷ changes) = is_put n v changes

-- how many data blocks the changes stage: each that comes to be held and each that is put, one that is both once
abbrev pub staged : List Change → ℕ
staged [] = 0
staged (create n name length ∷ changes) = staged changes
staged (delete n ∷ changes) = staged changes
staged (resize n length ∷ changes) = staged changes
staged (hold n blocks ∷ changes) = length (filter (λ v. not (is_put n v changes)) blocks) + staged changes
staged (put n v block ∷ changes) = 1 + staged changes
