-- What opens as some files opens as these where it is read in another way: as what a disk has kept, or as what the journal has.
use Rattle.std.proofs.Common.{◌≡◌, List, slice_get, sym, ap, subst, ◌∙◌, arith}
use Rattle.std.specs.FinMap.{empty}
use Rattle.nesc_base.specs.declared.block.Block.{Block}
use Rattle.nesc_base.specs.declared.geometry.Geometry.{Geometry}
use Rattle.nesc_base.specs.Files.{Files}
use Rattle.nesc_base.specs.Places.{Places}
use Rattle.slot_layout.specs.Slots.{AreClosed, StandsFor}
use Rattle.slot_layout.proofs.Alike.{alike_back, alike_where_closed, first_closed, length-laid_over}
use Rattle.image_layout.specs.Opens.{HasParts, IsDivided, Opens}
use Rattle.image_layout.proofs.Beside.{images_beside}
use Rattle.host_journal.specs.Journal.{Journal}
use Rattle.host_journal.specs.Staged.{Staged, fresh_of, now_of, targets_of}
use Rattle.host_journal.proofs.Overlaid.{now-empty}
use Rattle.file_layer.specs.Layer.{Fits, Layer, owners_of}
use Rattle.file_layer.specs.Showing.{Shows}
use Rattle.file_layer.proofs.ShownOpens.{shows_opens}

-- what an image stands for in which every gate is closed opens as the image does
pub opens_kept : (geometry : Geometry) (image kept : List Block) (files : Files) (places : Places) → AreClosed geometry image → AreClosed geometry kept → StandsFor geometry image kept
    → Opens image geometry files places → Opens kept geometry files places
opens_kept geometry image kept files places shut closed stands =
    images_beside image kept geometry files places shut closed
    (alike_back geometry kept image (alike_where_closed geometry image kept (first_closed geometry image shut) stands))

-- what is kept opens, with what is staged, as the files that it shows
pub opens_now : (files : Layer) (journal : Journal) (kept : List Block) (set : Files) (places : Places) → Fits files journal → AreClosed journal.geometry kept
    → IsDivided kept journal.geometry → Shows files journal.staged kept set places → Opens (now_of journal.staged kept) journal.geometry set places
opens_now files journal kept set places fits closed divided shows =
    subst (λ g. Opens (now_of journal.staged kept) g set places) (sym fits.same)
    (shows_opens files journal kept set places fits (subst (IsDivided kept) fits.same divided) (subst (λ g. AreClosed g kept) fits.same closed) shows)

-- and shows them by itself, once it is kept
pub shows_anew : (files : Layer) (staged : Staged) (kept : List Block) (set : Files) (places : Places) → Shows files staged kept set places → Shows files empty (now_of staged kept) set places
shows_anew files staged kept set places shows =
    let now : List Block = now_of staged kept in
    let same : now_of empty now ≡ now = now-empty now in
    record {
      whole = omega (arith, shows.whole, length-laid_over (targets_of staged) (fresh_of staged) kept);
      parts = subst (λ (blocks : List Block). HasParts files.geometry blocks files.table (owners_of files)) (sym same) shows.parts;
      knows = shows.knows;
      stands = λ n v at file there owns. shows.stands n v at file there owns ∙ ap (λ (blocks : List Block). slice_get blocks at) (sym same);
    }
