-- Where nothing is staged, files that rest on a disk are those as which the blocks open that it has kept.
use Rattle.std.proofs.Common.{◌≡◌, ◌≤◌, List, length, true, sym, ap, ◌∙◌, subst}
use Rattle.std.specs.FinMap.{empty}
use Rattle.nesc_base.specs.declared.block.Block.{Block}
use Rattle.nesc_base.specs.declared.geometry.Geometry.{Geometry}
use Rattle.nesc_base.specs.Disk.{Known}
use Rattle.nesc_base.specs.Files.{Files}
use Rattle.nesc_base.specs.Geometry.{total}
use Rattle.nesc_base.specs.Places.{Places}
use Rattle.slot_layout.specs.Slots.{AreClosed}
use Rattle.slot_layout.proofs.Alike.{first_closed, laid_alone}
use Rattle.image_layout.specs.Opens.{HasFiles, IsDivided, Opens}
use Rattle.host_journal.specs.Journal.{Journal}
use Rattle.host_journal.specs.Kept.{IsKept}
use Rattle.host_journal.specs.Staged.{Staged, now_of}
use Rattle.host_journal.proofs.Overlaid.{now-empty}
use Rattle.file_layer.specs.Layer.{Layer}
use Rattle.file_layer.specs.Showing.{RestsOn, Shows}
use Rattle.file_layer.proofs.ShownFiles.{found_is_shown, shows_some}
use Rattle.plain_machine.specs.Functions.{Function}
use Rattle.plain_machine.specs.Placing.{placed_at}
use Rattle.nesc_session.specs.Resting.{IsIn, functions_in}
use Rattle.nesc_session.specs.declared.session.Session.{Session}
use Rattle.nesc_session.proofs.StillOpens.{opens_now}

-- blocks in which every gate is closed have the files as which they open
pub has_files : (geometry : Geometry) (kept : List Block) (files : Files) (places : Places) → AreClosed geometry kept → Opens kept geometry files places → HasFiles geometry kept files places
has_files geometry kept files places closed opens =
    subst (λ (blocks : List Block). HasFiles geometry blocks files places) (laid_alone geometry kept opens.laid (first_closed geometry kept closed) opens.lays) opens.has

module _ (files : Layer) (journal : Journal) (disk : Known) (kept : List Block) (rests : RestsOn files journal disk) (none : journal.staged ≡ empty) (tells : disk.tells ≡ true)
    (is : IsKept journal.geometry disk kept) where
  alone : now_of journal.staged kept ≡ kept
  alone = ap (λ (staged : Staged). now_of staged kept) none ∙ now-empty kept

  -- the blocks show the files as which they open
  pub loaded_shown : (set : Files) (places : Places) → Opens kept journal.geometry set places → Shows files journal.staged kept set places
  loaded_shown set places opens =
      found_is_shown files journal.staged kept set places rests.fits.layer (subst (λ g. total g ≤ length kept) rests.fits.same opens.divided.enough) (rests.parts tells kept is)
      (subst (λ (g : Geometry). HasFiles g (now_of journal.staged kept) set places) rests.fits.same
      (subst (λ (blocks : List Block). HasFiles journal.geometry blocks set places) (sym alone) (has_files journal.geometry kept set places is.gates opens)))

  -- and open as some, where they are divided
  pub loaded_opens : IsDivided kept journal.geometry → (set : Files) × (places : Places) × Opens kept journal.geometry set places
  loaded_opens divided =
      let some = shows_some files journal.staged kept rests.fits.layer (subst (λ g. total g ≤ length kept) rests.fits.same divided.enough) (rests.parts tells kept is) in
      (some.0, some.1, subst (λ (blocks : List Block). Opens blocks journal.geometry some.0 some.1) alone (opens_now files journal kept some.0 some.1 rests.fits is.gates divided some.2))

-- a session whose files were just loaded is in the state in which a machine starts with them
pub loaded_is_in : (session : Session) (disk : Known) (kept : List Block) (functions : List Function) (set : Files) (places : Places) → RestsOn session.files session.journal disk
    → session.journal.staged ≡ empty → session.journal.count ≡ 0 → session.last ≡ 0 → functions ≡ functions_in session → disk.tells ≡ true
    → IsKept session.journal.geometry disk kept → Opens kept session.journal.geometry set places
    → IsIn session disk kept (record { now = set; kept = set; functions = functions; last = 0; count = 0 }) (placed_at places)
loaded_is_in session disk kept functions set places rests none uncounted untaken same tells is opens = record {
  has_kept = is;
  stands = record {
    now = loaded_shown session.files session.journal disk kept rests none tells is set places opens;
    kept_files = opens;
    functions = same;
    last = sym untaken;
    count = sym uncounted;
  };
}
