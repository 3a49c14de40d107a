-- Files, journal and disk stay together over reads, over syncs that succeed, and over a commit.
use Rattle.std.proofs.Common.{◌≡◌, inr, ℕ, ◌<◌, ◌≤◌, List, slice_get, true, sym, ap, ◌∙◌, subst, arith}
use Rattle.std.specs.Prelude.{Ok}
use Rattle.std.specs.FinMap.{empty}
use Rattle.nesc_base.specs.declared.block.Block.{Block}
use Rattle.nesc_base.specs.declared.geometry.Geometry.{Geometry}
use Rattle.nesc_base.specs.Disk.{Known}
use Rattle.nesc_base.specs.Geometry.{area_from, table_at, total}
use Rattle.slot_layout.specs.Slots.{AreClosed, StandsFor}
use Rattle.slot_layout.proofs.Alike.{first_closed, laid_alone}
use Rattle.host_journal.specs.Committing.{Commits}
use Rattle.host_journal.specs.Journal.{Journal, started_anew}
use Rattle.host_journal.specs.Kept.{IsKept, Rests}
use Rattle.host_journal.specs.Staged.{now_of}
use Rattle.host_journal.proofs.Overlaid.{now-empty}
use Rattle.file_layer.specs.Layer.{Layer, owners_of}
use Rattle.file_layer.specs.Showing.{RestsOn}
use Rattle.file_layer.proofs.LaidParts.{parts_alike}

-- where every gate is closed, blocks that an image stands for are its own
its_own : (geometry : Geometry) (image blocks : List Block) → AreClosed geometry image → StandsFor geometry image blocks
    → (at : ℕ) → table_at geometry ≤ at → at < total geometry → slice_get image at ≡ slice_get blocks at
its_own geometry image blocks closed stands at from below =
    let alone = laid_alone geometry image stands.laid (first_closed geometry image closed) stands.lays in
    ap (λ (b : List Block). slice_get b at) (sym alone) ∙ stands.alike.each at (inr (from, below))

pub commits_on : (files : Layer) (journal : Journal) (old new : Known) (clock : ℕ) → RestsOn files journal old
    → Commits journal.geometry journal.staged old new (Ok clock) → Rests (started_anew journal) new → RestsOn files (started_anew journal) new
commits_on files journal old new clock rests commits anew = record {
  fits = record { layer = rests.fits.layer; sound = anew.sound; same = rests.fits.same };
  rests = anew;
  parts = λ tells kept is.
      let told : old.tells ≡ true = sym commits.goes.still_tells ∙ tells in
      let before = rests.rests.kept told in
      let closed = rests.rests.closed told in
      let stood : IsKept journal.geometry new (now_of journal.staged before.0) = commits.kept told closed before.0 before.1 in
      let shut : AreClosed journal.geometry new.contents = commits.closed told closed in
      let there : (at : ℕ) → table_at files.geometry ≤ at → at < area_from files.geometry → slice_get (now_of empty kept) at ≡ slice_get (now_of journal.staged before.0) at =
      λ at from below.
      ap (λ (b : List Block). slice_get b at) (now-empty kept)
      ∙ sym (its_own journal.geometry new.contents kept shut is.stands at (subst (λ g. table_at g ≤ at) (sym rests.fits.same) from) (subst (λ g. at < total g) (sym rests.fits.same) (omega (arith, below))))
      ∙ its_own journal.geometry new.contents (now_of journal.staged before.0) shut stood.stands at (subst (λ g. table_at g ≤ at) (sym rests.fits.same) from) (subst (λ g. at < total g) (sym rests.fits.same) (omega (arith, below))) in
      parts_alike files.geometry (now_of journal.staged before.0) (now_of empty kept) files.table (owners_of files) there (rests.parts told before.0 before.1);
}
