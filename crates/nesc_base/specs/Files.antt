-- Files: what they are.
use Rattle.std.specs.Prelude.{◌≡◌, ℕ, ◌<◌, ◌≤◌, List, [], Some, IsSome, IsTrue, unwrap_or}
use Rattle.std.specs.Ordering.{nat_cmp}
use Rattle.std.specs.FinMap.{FinMap, empty, get}
use Rattle.nesc_base.specs.declared.block.Block.{Block}
use Rattle.nesc_base.specs.Name.{is_name}

-- the blocks that a file holds, by where they stand in it
abbrev pub Body : Type 0
Body = FinMap nat_cmp Block

-- a file: its name, its length in blocks, and the blocks that it holds
pub record File : Type 0 where
  pub name : List ℕ
  pub length : ℕ
  pub body : Body

-- the files by their numbers
abbrev pub Files : Type 0
Files = FinMap nat_cmp File

-- the file of a number, or where there is none one of no blocks
abbrev pub file_at : Files → ℕ → File
file_at files n = unwrap_or (get files n) (record { name = []; length = 0; body = empty })

-- how many files there may be, and how many blocks a file has at most
abbrev pub most_files : ℕ
most_files = 32

abbrev pub longest_file : ℕ
longest_file = 1048576

-- what every file is: its name is a name, it is not too long, and it holds no block at or past its length
pub record IsFile (file : File) : Type 0 where
  pub named : IsTrue (is_name file.name)
  pub short : file.length ≤ longest_file
  pub within : (v : ℕ) → IsSome (get file.body v) → v < file.length

-- files as they may be: their numbers are 1 to 32, and no two have one name
pub record IsFileSet (files : Files) : Type 0 where
  pub numbers : (n : ℕ) → IsSome (get files n) → (1 ≤ n) × (n ≤ most_files)
  pub each : (n : ℕ) (file : File) → get files n ≡ Some file → IsFile file
  pub apart : (m n : ℕ) (one other : File) → get files m ≡ Some one → get files n ≡ Some other
      → one.name ≡ other.name → m ≡ n
