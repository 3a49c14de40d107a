-- What a disk keeps for a journal, as the journal goes on.
use Rattle.std.proofs.Common.{◌≤◌, List, length, sym, ◌∙◌, subst, arith}
use Rattle.nesc_base.specs.declared.block.Block.{Block}
use Rattle.nesc_base.specs.declared.geometry.Geometry.{Geometry}
use Rattle.nesc_base.specs.Disk.{Known}
use Rattle.nesc_base.specs.Geometry.{total}
use Rattle.slot_layout.specs.Slots.{AreClosed}
use Rattle.slot_layout.proofs.Alike.{alike_back, alike_enough, length-Lays}
use Rattle.host_journal.specs.Journal.{Journal}
use Rattle.host_journal.specs.Kept.{IsKept, Rests}
use Rattle.file_layer.specs.Changing.{GoesOn}
use Rattle.file_layer.specs.Showing.{KeepsWhole}

-- a disk that has all blocks of an image has kept all of them
pub keeps_whole : (geometry : Geometry) (disk : Known) (kept : List Block) → KeepsWhole geometry disk kept
keeps_whole geometry disk kept enough long is =
    let laid : List Block = is.stands.laid in
    let all : total geometry ≤ length laid = omega (arith, enough, long, length-Lays geometry disk.contents laid is.stands.lays) in
    alike_enough geometry laid kept (alike_back geometry kept laid is.stands.alike) all

-- a journal that goes on rests on its disk as before
pub rests_on : (old new : Journal) (disk : Known) → GoesOn old new → Rests old disk → Rests new disk
rests_on old new disk goes rests = record {
  started = goes.same_start ∙ rests.started;
  sound = goes.sound;
  enough = subst (λ (geometry : Geometry). total geometry ≤ disk.size) (sym goes.same_geometry) rests.enough;
  kept = λ tells. subst (λ (geometry : Geometry). (kept : List Block) × IsKept geometry disk kept) (sym goes.same_geometry) (rests.kept tells);
  closed = λ tells. subst (λ (geometry : Geometry). AreClosed geometry disk.contents) (sym goes.same_geometry) (rests.closed tells);
}
