-- What a disk in memory knows of itself: what it reads as, and the calls that it was given.
use Rattle.std.specs.Prelude.{◌≡◌, ◌↔◌, ◌⊎◌, ℕ, ◌≤◌, ◌==◌, nat_lt, nat_le, ◌&&◌, ◌||◌, not, Bool, true}
use Rattle.std.specs.Prelude.{if◌then◌else◌, List, [], ◌∷◌, ◌++◌, Contains, All, length, take, slice_set}
use Rattle.nesc_base.specs.declared.block.Block.{Block}
use Rattle.nesc_base.specs.Count.{risen}
use Rattle.nesc_base.specs.Disk.{DiffersAt, Known}
use Rattle.nesc_fakes.specs.declared.mem_disk.Call.{Call}
use Rattle.nesc_fakes.specs.declared.mem_disk.Call.TheVariants.{Write, Sync}

-- the disk: its calls stand in their order, and room says for how many more its list has memory
pub record MemDiskState : Type 0 where
  pub blocks : List Block
  pub calls : List Call
  pub clock : ℕ
  pub reads : ℕ
  pub faults : ℕ
  pub read_fails : List ℕ
  pub write_fails : List ℕ
  pub room : ℕ

-- a new disk of the first of these blocks
abbrev pub fresh : List Block → List ℕ → List ℕ → MemDiskState
fresh blocks read_fails write_fails = record {
  blocks = take 4294967295 blocks;
  calls = [];
  clock = 0;
  reads = 0;
  faults = 0;
  read_fails = read_fails;
  write_fails = write_fails;
  room = 0;
}

-- each of these put at its place, one after the other
abbrev pub put_all : List (ℕ × Block) → List Block → List Block
put_all [] image = image
put_all (put ∷ more) image = put_all more (slice_set image put.0 put.1)

-- where the clock stood after a call
abbrev pub clock_of : Call → ℕ
clock_of (Write clock at before) = clock
clock_of (Sync clock done) = clock

-- what holds of every one: its places have numbers, and no call is still to come
pub record IsSound (blocks : List Block) (calls : List Call) (clock : ℕ) : Type 0 where
  pub fits : length blocks ≤ 4294967295
  pub by_now : All (λ call. clock_of call ≤ clock) calls

-- a call is taken back if it is later than k
abbrev pub without : ℕ → Call → List Block → List Block
without k (Write clock at before) blocks = if nat_lt k clock then slice_set blocks at before else blocks
without k (Sync clock done) blocks = blocks

-- what it read as when the clock stood at k, if it reads as these blocks now: the later calls are taken back
abbrev pub taken_back : ℕ → List Call → List Block → List Block
taken_back k [] blocks = blocks
taken_back k (call ∷ calls) blocks = without k call (taken_back k calls blocks)

abbrev pub contents_at : MemDiskState → ℕ → List Block
contents_at disk k = if k == disk.clock then disk.blocks else taken_back k disk.calls disk.blocks

-- of these places, and of the one that a call writes, those that it leaves unsynced if it came up to clock k
abbrev pub unsynced_by : ℕ → Call → List ℕ → List ℕ
unsynced_by k (Write clock at before) places = if nat_le clock k then at ∷ places else places
unsynced_by k (Sync clock done) places = if nat_le clock k && done then [] else places

-- whether a place is among them, if it is among the places before
abbrev pub is_unsynced_by : ℕ → ℕ → Call → Bool → Bool
is_unsynced_by k at (Write clock place before) was = was || (nat_le clock k && place == at)
is_unsynced_by k at (Sync clock done) was = was && not (nat_le clock k && done)

-- the places that were written up to clock k and that no sync has made sure of since
abbrev pub unsynced : ℕ → List Call → List ℕ → List ℕ
unsynced k [] places = places
unsynced k (call ∷ calls) places = unsynced k calls (unsynced_by k call places)

-- a stop while the clock stood at k: the places that were not unsynced are as they were
pub record IsLeft (disk : MemDiskState) (k : ℕ) (image : List Block) : Type 0 where
  pub by_now : k ≤ disk.clock
  pub left : DiffersAt (Contains (unsynced k disk.calls [])) (contents_at disk k) image

abbrev pub known_of : MemDiskState → Known
known_of disk = record {
  size = length disk.blocks;
  tells = true;
  contents = disk.blocks;
  clock = disk.clock;
  left = IsLeft disk;
  unsynced = Contains (unsynced disk.clock disk.calls []);
  faults = disk.faults;
}

-- these places are unsynced, and no others
abbrev pub AreUnsynced : MemDiskState → (ℕ → Type 0) → Type 0
AreUnsynced disk places = (at : ℕ) → (known_of disk).unsynced at ↔ places at

-- a write or a sync has failed: it is kept too, unless there is no memory for it
abbrev pub Failed : Call → MemDiskState → MemDiskState → Type 0
Failed call old new =
    (new ≡
    record old { calls = old.calls ++ call ∷ []; clock = risen old.clock; faults = risen old.faults; room = new.room })
    ⊎ ((old.room ≡ 0) × (new ≡ record old { clock = risen old.clock; faults = risen old.faults; room = new.room }))
