-- A commit where nothing is staged, and what a commit's answer adds.
use Rattle.std.proofs.Common.{◌≡◌, inl, List, Ok, Err, sym, ap, ◌∙◌, subst, arith}
use Rattle.std.specs.Prelude.{true}
use Rattle.std.specs.FinMap.{empty}
use Rattle.nesc_base.specs.declared.block.Block.{Block}
use Rattle.nesc_base.specs.declared.disk.DiskFault.{DiskFault}
use Rattle.nesc_base.specs.declared.geometry.Geometry.{Geometry}
use Rattle.nesc_base.specs.Disk.{Known, nowhere}
use Rattle.nesc_base.specs.Geometry.{total}
use Rattle.nesc_base.proofs.DiskCalls.{goes_itself, unchanged_itself, writes_none}
use Rattle.host_journal.specs.Committing.{Commits, IsWrittenByCommit}
use Rattle.slot_layout.specs.Slots.{AreClosed}
use Rattle.host_journal.specs.Journal.{IsJournal, Journal}
use Rattle.host_journal.specs.Kept.{IsKept, Rests}
use Rattle.host_journal.specs.Staged.{Staged, now_of}
use Rattle.host_journal.proofs.Belonging.{kept_left}
use Rattle.host_journal.proofs.Stretches.{LeftByNow, LeftNow}
use Rattle.host_journal.proofs.Overlaid.{now-empty}

pub commits_nothing : {T : Type 0} (geometry : Geometry) (staged : Staged) (disk : Known) (answer : T) → staged ≡ empty → LeftNow disk → LeftByNow disk → Commits geometry staged disk disk (Ok answer)
commits_nothing geometry staged disk answer none left_now left_by_now = record {
  goes = goes_itself disk;
  kept = λ tells closed kept is. subst (IsKept geometry disk) (sym (ap (λ (s : Staged). now_of s kept) none ∙ now-empty kept)) is;
  closed = λ tells closed. closed;
  leaves = λ tells closed kept is.
      let left = kept_left disk disk left_now (goes_itself disk) (writes_none nowhere disk disk left_by_now (unchanged_itself disk)) geometry kept is in
      record { since = λ t k image from before at. inl (left.since t k image from before at); now = λ t image could. inl (left.now t image could) };
  slot = λ tells some. absurd (some none);
  writes = writes_none (IsWrittenByCommit geometry staged) disk disk left_by_now (unchanged_itself disk);
  cause = record { never_falls = omega arith; rose = λ failed. absurd (let other = failed in cc) };
}

-- the same is said of it where it answers something
pub commits_answered : {T : Type 0} (geometry : Geometry) (staged : Staged) (old new : Known) (answer : T) → Commits {T = Unit {0}} geometry staged old new (Ok tt) → Commits geometry staged old new (Ok answer)
commits_answered geometry staged old new answer commits = record {
  goes = commits.goes;
  kept = commits.kept;
  closed = commits.closed;
  leaves = commits.leaves;
  slot = commits.slot;
  writes = commits.writes;
  cause = record { never_falls = commits.cause.never_falls; rose = λ failed. absurd (let other = failed in cc) };
}

pub commits_failed : {T : Type 0} (geometry : Geometry) (staged : Staged) (old new : Known) (found : DiskFault) → Commits {T = Unit {0}} geometry staged old new (Err found) → Commits {T = T} geometry staged old new (Err found)
commits_failed geometry staged old new found commits = record {
  goes = commits.goes;
  kept = λ tells closed kept is. tt;
  closed = λ tells closed. tt;
  leaves = commits.leaves;
  slot = λ tells some. tt;
  writes = commits.writes;
  cause = record { never_falls = commits.cause.never_falls; rose = λ failed. commits.cause.rose failed };
}

-- A journal that was emptied by a commit belongs to its disk as before.
pub rests_committed : {T : Type 0} (journal later : Journal) (old new : Known) (answer : T) → Rests journal old → Commits journal.geometry journal.staged old new (Ok answer)
    → later.geometry ≡ journal.geometry → later.started ≡ true → IsJournal later → Rests later new
rests_committed journal later old new answer rests commits same started sound = record {
  started = started;
  sound = sound;
  enough = omega (arith, rests.enough, commits.goes.same_size, ap (λ geometry. total geometry) same);
  kept = λ tells.
      let told = sym commits.goes.still_tells ∙ tells in
      let kept = rests.kept told in
      subst (λ geometry. (blocks : List Block) × IsKept geometry new blocks) (sym same) (now_of journal.staged kept.0, commits.kept told (rests.closed told) kept.0 kept.1);
  closed = λ tells.
      let told = sym commits.goes.still_tells ∙ tells in
      subst (λ geometry. AreClosed geometry new.contents) (sym same) (commits.closed told (rests.closed told));
}
