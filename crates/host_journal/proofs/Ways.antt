-- A replay on its way, one stretch behind the other. In each stretch some places alone are written.
use Rattle.std.proofs.Common.{◌≡◌, ℕ, true, List, sym, ◌∙◌, subst, length}
use Rattle.nesc_base.specs.declared.block.Block.{Block}
use Rattle.nesc_base.specs.declared.geometry.Geometry.{Geometry}
use Rattle.nesc_base.specs.Disk.{Goes, IsSettled, Known, WritesAt, nowhere}
use Rattle.nesc_base.proofs.Differing.{differs_nowhere}
use Rattle.nesc_base.proofs.DiskCalls.{goes_on, writes_none, writes_on, writes_wider}
use Rattle.slot_layout.specs.Slots.{LacksList, StandsFor}
use Rattle.host_journal.specs.Kept.{Leaves}
use Rattle.host_journal.specs.Replays.{IsWrittenByReplay}
use Rattle.host_journal.specs.Replaying.{IsOnWay, Reads}
use Rattle.host_journal.proofs.Stretches.{LeftByNow, LeftNow, leaves_on, leaves_stretch}

-- what every disk says
pub record IsLawful (disk : Known) : Type 0 where
  pub left_now : LeftNow disk
  pub by_now : LeftByNow disk
  pub whole : disk.tells ≡ true → length disk.contents ≡ disk.size

-- it wrote nowhere else, where the disk tells
pub writes_told : (P Q : ℕ → Type 0) (a b : Known) → (a.tells ≡ true → (at : ℕ) → P at → Q at) → WritesAt P a b → WritesAt Q a b
writes_told P Q a b wider writes = record {
  contents = λ tells. (writes_wider P Q a b (wider tells) writes).contents tells;
  unsynced = λ tells. (writes_wider P Q a b (wider tells) writes).unsynced tells;
  left = λ tells. (writes_wider P Q a b (wider tells) writes).left tells;
}

-- The way

abbrev pub Stand : Geometry → List Block → List Block → Type 0
Stand geometry kept image = StandsFor geometry image kept

-- reads leave the disk as it is
pub way_read : (geometry : Geometry) (old new : Known) (failed : Type 0) → IsLawful old → Reads old new failed → IsOnWay geometry old new
way_read geometry old new failed laws reads =
    let none : WritesAt nowhere old new = writes_none nowhere old new laws.by_now reads.unchanged in
    record {
      goes = reads.goes;
      leaves = λ tells settled kept stands. leaves_stretch nowhere (Stand geometry kept) old new laws.left_now tells settled reads.goes none
          (λ image differs. subst (Stand geometry kept) (sym (differs_nowhere old.contents image differs)) stands);
      unwritten_where_bad = λ tells block lacks. none;
      writes = writes_none (IsWrittenByReplay geometry old.contents) old new laws.by_now reads.unchanged;
    }

-- one more stretch, where no list is bad
pub way_on : (geometry : Geometry) (P : ℕ → Type 0) (old mid new : Known) → IsOnWay geometry old mid → Goes mid new → WritesAt P mid new
    → (old.tells ≡ true → (at : ℕ) → P at → IsWrittenByReplay geometry old.contents at)
    → (old.tells ≡ true → (block : ℕ) → ¬ LacksList geometry old.contents block)
    → (old.tells ≡ true → IsSettled old → (kept : List Block) → StandsFor geometry old.contents kept → Leaves (λ image. StandsFor geometry image kept) mid new)
    → IsOnWay geometry old new
way_on geometry P old mid new way goes writes within good leaves = record {
  goes = goes_on old mid new way.goes goes;
  leaves = λ tells settled kept stands. leaves_on (Stand geometry kept) old mid new way.goes (way.leaves tells settled kept stands) goes (leaves tells settled kept stands);
  unwritten_where_bad = λ tells block lacks. absurd (good tells block lacks);
  writes = writes_on (IsWrittenByReplay geometry old.contents) old mid new way.goes way.writes goes
      (writes_told P (IsWrittenByReplay geometry old.contents) mid new (λ told at is. within (sym way.goes.still_tells ∙ told) at is) writes);
}

-- what was settled is so after reads
pub settled_read : (old new : Known) (failed : Type 0) → Reads old new failed → old.tells ≡ true → IsSettled old → IsSettled new
settled_read old new failed reads tells settled at is = settled at ((reads.unchanged.unsynced tells at).0 is)

-- a way that begins behind reads
pub way_behind : (geometry : Geometry) (old read new : Known) (failed : Type 0) → IsLawful old → Reads old read failed → IsOnWay geometry read new → IsOnWay geometry old new
way_behind geometry old read new failed laws reads way =
    let first : IsOnWay geometry old read = way_read geometry old read failed laws reads in
    let same : (old.tells ≡ true → read.contents ≡ old.contents) = reads.unchanged.contents in
    let told : (old.tells ≡ true → read.tells ≡ true) = λ tells. reads.goes.still_tells ∙ tells in
    record {
      goes = goes_on old read new reads.goes way.goes;
      leaves = λ tells settled kept stands. leaves_on (Stand geometry kept) old read new reads.goes (first.leaves tells settled kept stands) way.goes
          (way.leaves (told tells) (settled_read old read failed reads tells settled) kept (subst (λ (blocks : List Block). StandsFor geometry blocks kept) (sym (same tells)) stands));
      unwritten_where_bad = λ tells block lacks. writes_on nowhere old read new reads.goes (first.unwritten_where_bad tells block lacks) way.goes
          (way.unwritten_where_bad (told tells) block (subst (λ (blocks : List Block). LacksList geometry blocks block) (sym (same tells)) lacks));
      writes = writes_on (IsWrittenByReplay geometry old.contents) old read new reads.goes first.writes way.goes
          (writes_told (IsWrittenByReplay geometry read.contents) (IsWrittenByReplay geometry old.contents) read new
          (λ tells at is. subst (λ (blocks : List Block). IsWrittenByReplay geometry blocks at) (same (sym reads.goes.still_tells ∙ tells)) is) way.writes);
    }
