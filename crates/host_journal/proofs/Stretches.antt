-- Calls of a disk behind one another, and what they leave.
use Rattle.std.proofs.Common.{◌≡◌, inl, inr, ℕ, ◌<◌, ◌≤◌, true, List, Result, Ok, Err, ◌∙◌}
use Rattle.std.specs.Prelude.{Contains, IsErr, OnOk}
use Rattle.nesc_base.specs.declared.block.Block.{Block}
use Rattle.nesc_base.specs.declared.disk.DiskFault.{DiskFault}
use Rattle.nesc_base.specs.Count.{count_end}
use Rattle.nesc_base.specs.Disk.{CouldLeave, DiffersAt, Goes, IsSettled, Known, OrUnsynced, WritesAt, nowhere}
use Rattle.nesc_base.specs.Fault.{HasCause}
use Rattle.nesc_base.proofs.Causes.{cause_on}
use Rattle.nesc_base.proofs.Differing.{differs_on, differs_wider}
use Rattle.nesc_base.proofs.DiskCalls.{goes_on, since_on, since_wider, since_written, writes_on, writes_wider}
use Rattle.host_journal.specs.Committing.{WritesOut}
use Rattle.host_journal.specs.Kept.{Leaves}

-- what every disk says of the images that it leaves now
abbrev pub LeftNow : Known → Type 0
LeftNow disk = (image : List Block) → disk.tells ≡ true → disk.clock < count_end → disk.left disk.clock image → CouldLeave disk image

-- what every disk says of the clock values to come
abbrev pub LeftByNow : Known → Type 0
LeftByNow disk = disk.tells ≡ true → (k : ℕ) (image : List Block) → k < count_end → disk.left k image → k ≤ disk.clock

-- what a sync does
pub record Syncs (old new : Known) (result : Result (Unit {0}) DiskFault) : Type 0 where
  pub contents : old.tells ≡ true → new.contents ≡ old.contents
  pub settled : old.tells ≡ true → OnOk result (IsSettled new)
  pub writes : WritesAt nowhere old new
  pub goes : Goes old new
  pub cause : HasCause old.faults new.faults (IsErr result)

-- calls that write at these places alone, of which the last gave this result
pub record Stretch (P : ℕ → Type 0) (old new : Known) (result : Result (Unit {0}) DiskFault) : Type 0 where
  pub goes : Goes old new
  pub writes : WritesAt P old new
  pub cause : HasCause old.faults new.faults (IsErr result)

pub stretch_out : (P : ℕ → Type 0) (old new : Known) (places : List ℕ) (blocks : List Block) (result : Result (Unit {0}) DiskFault) → ((at : ℕ) → Contains places at → P at)
    → WritesOut places blocks old new result → Stretch P old new result
stretch_out P old new places blocks result wider writes =
    record { goes = writes.goes; writes = writes_wider (Contains places) P old new wider writes.writes; cause = writes.cause }

pub stretch_on : (P : ℕ → Type 0) (a b c : Known) (result : Result (Unit {0}) DiskFault) → Stretch P a b (Ok tt) → Stretch P b c result → Stretch P a c result
stretch_on P a b c result first second = record {
  goes = goes_on a b c first.goes second.goes;
  writes = writes_on P a b c first.goes first.writes second.goes second.writes;
  cause = cause_on a.faults b.faults c.faults (IsErr result) first.cause.never_falls second.cause;
}

pub stretch_synced : (P : ℕ → Type 0) (a b c : Known) (result : Result (Unit {0}) DiskFault) → Stretch P a b (Ok tt) → Syncs b c result → Stretch P a c result
stretch_synced P a b c result first syncs =
    stretch_on P a b c result first (record { goes = syncs.goes; writes = writes_wider nowhere P b c (λ at none. absurd none) syncs.writes; cause = syncs.cause })

-- a disk on which nothing was unsynced is written at these places alone
only : (P : ℕ → Type 0) (disk : Known) → IsSettled disk → (at : ℕ) → OrUnsynced P disk at → P at
only P disk settled at (inl place) = place
only P disk settled at (inr unsynced) = absurd (settled at unsynced)

-- so every image since, and every one that it could leave now, differs there alone
pub leaves_stretch : (P : ℕ → Type 0) (Q : List Block → Type 0) (a b : Known) → LeftNow a → a.tells ≡ true → IsSettled a → Goes a b → WritesAt P a b
    → ((image : List Block) → DiffersAt P a.contents image → Q image) → Leaves Q a b
leaves_stretch P Q a b left_now tells settled goes writes each = record {
  since = since_wider (λ _. DiffersAt (OrUnsynced P a) a.contents) (λ _. Q) a b
      (λ _ k image differs. each image (differs_wider (OrUnsynced P a) P a.contents image (only P a settled) differs)) (since_written P a b left_now goes writes);
  now = λ _ image could.
      each image (differs_on P a.contents b.contents image (writes.contents tells)
      (differs_wider b.unsynced P b.contents image (λ at unsynced. only P a settled at (writes.unsynced tells at unsynced)) could));
}

pub leaves_on : (Q : List Block → Type 0) (a b c : Known) → Goes a b → Leaves Q a b → Goes b c → Leaves Q b c → Leaves Q a c
leaves_on Q a b c first early second late = record {
  since = since_on (λ _. Q) a b c first early.since second late.since;
  now = λ tells image could. late.now (first.still_tells ∙ tells) image could;
}

-- what two clauses say of a call that is done
pub on_both : {P Q R : Type 0} (result : Result (Unit {0}) DiskFault) → (P → Q → R) → OnOk result P → OnOk result Q → OnOk result R
on_both (Ok _) f p q = f p q
on_both (Err _) f p q = tt
