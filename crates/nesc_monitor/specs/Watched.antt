-- A source, a sink or a disk over a call.
use Rattle.std.specs.Prelude.{◌≡◌, ℕ, ◌≤◌, Option, List}
use Rattle.nesc_base.specs.Disk.{Known, Unchanged}
use Rattle.nesc_base.specs.Fault.{Rose}
use Rattle.nesc_base.specs.Sink.{Appends}
use Rattle.text_kit.specs.Known.{AppendsPrefix}

-- The bytes that a source had left, or a sink had taken, and has now, where it tells them; how often it had failed and
-- has failed now; and that it is the very value that it was, as it is where nothing was read of it, or written to it.
pub record Watched : Type 1 where
  pub before : Option (List ℕ)
  pub after : Option (List ℕ)
  pub faults_before : ℕ
  pub faults_after : ℕ
  pub same : Type 0

-- such a thing over a call, by what it tells of its bytes and its failures
abbrev pub watch : {T : Type 0} → (T → Option (List ℕ)) → (T → ℕ) → T → T → Watched
watch bytes faults old new = record {
  before = bytes old;
  after = bytes new;
  faults_before = faults old;
  faults_after = faults new;
  same = new ≡ old;
}

-- it failed in the call
abbrev pub HasFailed : Watched → Type 0
HasFailed watched = Rose watched.faults_before watched.faults_after

-- it did not
abbrev pub HasWorked : Watched → Type 0
HasWorked watched = ¬ HasFailed watched

-- its count of failures did not fall
abbrev pub NeverFell : Watched → Type 0
NeverFell watched = watched.faults_before ≤ watched.faults_after

-- nothing was asked of it
pub record IsUntouched (watched : Watched) : Type 0 where
  pub same : watched.same
  pub bytes : watched.after ≡ watched.before
  pub faults : watched.faults_after ≡ watched.faults_before

-- where the sink tells what it takes: it took this text, the first bytes of this text, nothing

abbrev pub HasTaken : List ℕ → Watched → Type 0
HasTaken text sink = Appends sink.before sink.after text

abbrev pub HasBegun : List ℕ → Watched → Type 0
HasBegun text sink = AppendsPrefix sink.before sink.after text

abbrev pub HasTakenNothing : Watched → Type 0
HasTakenNothing sink = sink.after ≡ sink.before

-- What is known of a disk before and after; that what else stays of it has stayed; and that it is the very value that
-- it was, as it is where it was neither read nor written nor synced.
pub record WatchedDisk : Type 1 where
  pub before : Known
  pub after : Known
  pub stays : Type 0
  pub same : Type 0

abbrev pub watch_disk : {D : Type 0} → (D → Known) → (D → D → Type 0) → D → D → WatchedDisk
watch_disk known keeps old new =
    record { before = known old; after = known new; stays = keeps old new; same = new ≡ old }

abbrev pub HasDiskFailed : WatchedDisk → Type 0
HasDiskFailed disk = Rose disk.before.faults disk.after.faults

abbrev pub HasDiskWorked : WatchedDisk → Type 0
HasDiskWorked disk = ¬ HasDiskFailed disk

abbrev pub DiskNeverFell : WatchedDisk → Type 0
DiskNeverFell disk = disk.before.faults ≤ disk.after.faults

-- nothing was asked of it
pub record IsDiskUntouched (disk : WatchedDisk) : Type 0 where
  pub same : disk.same
  pub faults : disk.after.faults ≡ disk.before.faults

-- it reads as before, and a stop leaves what it left before
abbrev pub IsOnlyRead : WatchedDisk → Type 0
IsOnlyRead disk = Unchanged disk.before disk.after
