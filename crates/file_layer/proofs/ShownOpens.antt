-- Blocks that show the files in memory open as these, and files that stay shown belong to their disk as before.
use Rattle.std.proofs.Common.{◌≡◌, ◌≤◌, List, Option, None, Some, IsSome, length, slice_get, refl, sym, ap, ◌∙◌, subst, arith}
use Rattle.std.specs.Prelude.{true, unwrap_or}
use Rattle.std.specs.FinMap.{empty, get, get-empty}
use Rattle.std.specs.Ordering.{nat_cmp}
use Rattle.nesc_base.specs.declared.block.Block.{Block}
use Rattle.nesc_base.specs.declared.geometry.Geometry.{Geometry}
use Rattle.nesc_base.specs.Block.{zero_block}
use Rattle.nesc_base.specs.Disk.{Known}
use Rattle.nesc_base.specs.Files.{Files}
use Rattle.nesc_base.specs.Geometry.{total}
use Rattle.nesc_base.specs.Places.{Places}
use Rattle.slot_layout.specs.Slots.{AreClosed, block_at}
use Rattle.slot_layout.proofs.Alike.{length-laid_over}
use Rattle.image_layout.specs.Opens.{IsDivided}
use Rattle.image_layout.specs.Super.{IsSuperblock}
use Rattle.image_layout.proofs.Beside.{opens_alone}
use Rattle.host_journal.specs.Journal.{IsJournal, Journal}
use Rattle.host_journal.specs.Kept.{IsKept}
use Rattle.host_journal.specs.Staged.{fresh_of, now_of, targets_of}
use Rattle.host_journal.proofs.Overlaid.{keeps_gates, now-empty}
use Rattle.file_layer.specs.Changing.{GoesOn}
use Rattle.file_layer.specs.Layer.{Fits, Layer}
use Rattle.file_layer.specs.Showing.{RestsOn, ShowsOpens, StayShown}
use Rattle.file_layer.proofs.KeptWhole.{keeps_whole, rests_on}
use Rattle.file_layer.proofs.Shown.{same_now}
use Rattle.file_layer.proofs.ShownFiles.{shows_files, shows_some}

none_where : {X : Type 0} (found : Option X) → ¬ IsSome found → found ≡ None
none_where None never = refl
none_where (Some x) never = absurd (never refl)

-- nothing is staged for block 0
none_at_first : (journal : Journal) → IsJournal journal → get journal.staged 0 ≡ None
none_at_first journal sound = none_where (get journal.staged 0) (λ some. let may = sound.within 0 some in absurd (omega (arith, may.0)))

now_divided : (journal : Journal) (geometry : Geometry) (kept : List Block) → IsJournal journal → IsDivided kept geometry → IsDivided (now_of journal.staged kept) geometry
now_divided journal geometry kept sound divided =
    let first : slice_get (now_of journal.staged kept) 0 ≡ slice_get kept 0 =
    same_now empty journal.staged kept 0 (none_at_first journal sound ∙ sym (get-empty nat_cmp 0)) ∙ ap (λ blocks. slice_get blocks 0) (now-empty kept) in
    let block : block_at (now_of journal.staged kept) 0 ≡ block_at kept 0 = ap (λ o. unwrap_or o zero_block) first in
    let long : length (now_of journal.staged kept) ≡ length kept = length-laid_over (targets_of journal.staged) (fresh_of journal.staged) kept in
    record {
      some = omega (arith, long, divided.some);
      super = subst (λ b. IsSuperblock b geometry) (sym block) divided.super;
      enough = omega (arith, long, divided.enough);
    }

pub shows_opens : (files : Layer) (journal : Journal) (kept : List Block) (set : Files) (places : Places) → ShowsOpens files journal kept set places
shows_opens files journal kept set places fits divided closed shows =
    opens_alone (now_of journal.staged kept) files.geometry set places
    (subst (λ g. AreClosed g (now_of journal.staged kept)) fits.same (keeps_gates journal fits.sound kept (subst (λ g. AreClosed g kept) (sym fits.same) closed)))
    (now_divided journal files.geometry kept fits.sound divided)
    (shows_files files journal.staged kept set places fits.layer shows)

pub stays_on : (old new : Layer) (before after : Journal) (disk : Known) → (disk.tells ≡ true → length disk.contents ≡ disk.size) → GoesOn before after → Fits new after
    → StayShown old before new after → RestsOn old before disk → RestsOn new after disk
stays_on old new before after disk whole goes fits shown rests = record {
  fits = fits;
  rests = rests_on before after disk goes rests.rests;
  parts = λ tells kept is.
      let was : IsKept before.geometry disk kept = subst (λ g. IsKept g disk kept) goes.same_geometry is in
      let enough : total old.geometry ≤ length kept =
      subst (λ g. total g ≤ length kept) rests.fits.same (keeps_whole before.geometry disk kept rests.rests.enough (whole tells) was) in
      let some = shows_some old before.staged kept rests.fits.layer enough (rests.parts tells kept was) in
      let after_that = shown kept some.0 some.1 some.2 in
      after_that.2.parts;
}
