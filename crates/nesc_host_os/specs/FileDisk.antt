-- What a file as a disk is at a moment.
use Rattle.std.specs.Prelude.{ℕ, ◌/◌, ◌==◌, if◌then◌else◌, Bool, false, List, [], Option, codes, length, min, unwrap_or}
use Rattle.std.specs.Path.{path_parent}
use Rattle.nesc_base.specs.Block.{block_size}
use Rattle.nesc_base.specs.Disk.{Known}

pub record FileDiskState (File : Type 0) : Type 0 where
  -- where the file is
  pub path : List ℕ
  -- how many blocks it has
  pub size : ℕ
  -- there was no file, or an empty one
  pub is_blank : Bool
  -- the file, once it is open
  pub file : Option File
  -- the file is open for writing too
  pub is_writable : Bool
  -- a write made the file, and its folder was not synced since
  pub folder_waits : Bool
  -- how many writes have begun and syncs have ended
  pub clock : ℕ
  -- how many calls failed
  pub faults : ℕ

-- It does not tell what it holds or what a stop leaves.
abbrev pub known_of : {File : Type 0} → FileDiskState File → Known
known_of disk = record {
  size = disk.size;
  tells = false;
  contents = [];
  clock = disk.clock;
  left = λ _ _. Unit {0};
  unsynced = λ _. Unit {0};
  faults = disk.faults;
}

-- how many blocks a disk has where there is no file yet, or an empty one
abbrev pub blank_blocks : ℕ
blank_blocks = 4194304

-- how many blocks there are in so many bytes
abbrev pub whole_blocks_in : ℕ → ℕ
whole_blocks_in len = min (len / block_size) 4294967295

-- the folder in which the file of a path stands: its parent, or `.` where that is empty
abbrev pub folder_of : List ℕ → List ℕ
folder_of path = let parent = unwrap_or (path_parent path) [] in if length parent == 0 then codes "." else parent
