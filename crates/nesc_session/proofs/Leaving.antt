-- What stops leave: what the disk read as where it is only read, and so the files that were kept, or those that a commit keeps.
use Rattle.std.proofs.Common.{◌≡◌, inl, List, true, sym, subst, ◌∙◌, arith}
use Rattle.nesc_base.specs.declared.block.Block.{Block}
use Rattle.nesc_base.specs.declared.geometry.Geometry.{Geometry}
use Rattle.nesc_base.specs.Disk.{Goes, IsSettled, Known, Unchanged, WritesAt, nowhere}
use Rattle.nesc_base.specs.Files.{Files}
use Rattle.nesc_base.specs.Places.{Places}
use Rattle.nesc_base.proofs.DiskCalls.{could_leave_before, settled_left, since_unchanged, since_wider, writes_none}
use Rattle.slot_layout.specs.Slots.{AreClosed, StandsFor}
use Rattle.image_layout.specs.Opens.{Opens}
use Rattle.image_layout.proofs.Beside.{opens_standing}
use Rattle.host_journal.specs.Kept.{Leaves}
use Rattle.host_journal.proofs.FirstSync.{since_settled}
use Rattle.host_journal.proofs.Stretches.{LeftByNow, LeftNow, leaves_on}
use Rattle.nesc_session.specs.Resting.{Rests}
use Rattle.nesc_session.specs.Stepping.{LeavesBy, OpensAs}
use Rattle.nesc_session.specs.declared.session.Session.{Session}

-- what holds of each image holds still where it is less that is said
pub leaves_wider : (P Q : List Block → Type 0) (old new : Known) → (old.tells ≡ true → (image : List Block) → P image → Q image) → Leaves P old new → Leaves Q old new
leaves_wider P Q old new wider leaves = record {
  since = since_wider (λ _. P) (λ _. Q) old new (λ tells k. wider tells) leaves.since;
  now = λ tells image could. wider tells image (leaves.now tells image could);
}

-- Where nothing was unsynced at first, and nothing is written, each image is what the disk read as.
pub leaves_settled : (P : List Block → Type 0) (old new : Known) → LeftNow old → Goes old new → WritesAt nowhere old new → IsSettled old → P old.contents → Leaves P old new
leaves_settled P old new left_now goes writes settled is = record {
  since = since_settled P old new left_now goes writes (λ _. settled) is;
  now = λ tells image could. subst P (sym (settled_left old image (could_leave_before old new image tells writes could) settled)) is;
}

-- What each image has that the disk could leave before it was read, each has that it leaves since.
pub leaves_read : (P : List Block → Type 0) (a b c : Known) → LeftNow b → LeftByNow b → Goes a b → Leaves P a b → Goes b c → Unchanged b c → Leaves P a c
leaves_read P a b c left_now by_now first leaves second unchanged =
    leaves_on P a b c first leaves second (record {
      since = λ tells k image since before left.
          let was : b.left b.clock image = since_unchanged b c by_now unchanged tells k image since before left in
          leaves.now (sym first.still_tells ∙ tells) image (left_now image tells (omega (arith, since, before)) was);
      now = λ tells image could. leaves.now (sym first.still_tells ∙ tells) image (could_leave_before b c image tells (writes_none nowhere b c by_now unchanged) could);
    })

-- the journal's image is divided as the machine is set
pub one_division : (session : Session) (disk : Known) → Rests session disk → session.journal.geometry ≡ session.setting.geometry
one_division session disk rests = rests.rests.fits.same ∙ rests.sound.division

-- an image opens as the files as which the blocks open that it stands for
pub opens_as : (geometry : Geometry) (setting : Geometry) (image kept : List Block) (files : Files) (places : Places) → geometry ≡ setting → AreClosed geometry kept
    → Opens kept geometry files places → StandsFor geometry image kept → OpensAs setting files image
opens_as geometry setting image kept files places same closed opens stands =
    (places, subst (λ g. Opens image g files places) same (opens_standing image kept geometry files places closed stands opens))

-- while nothing is written every image opens as the files that were kept
pub unchanged_leaves : (keeps : Type 0) (old : Session) (before after : Known) → LeftNow before → LeftByNow before → Rests old before → Goes before after → Unchanged before after
    → LeavesBy keeps old before after
unchanged_leaves keeps old before after left_now by_now rests goes unchanged tells kept state placed is =
    leaves_settled _ before after left_now goes (writes_none nowhere before after by_now unchanged) is.has_kept.settled
    (inl (opens_as old.journal.geometry old.setting.geometry before.contents kept state.kept placed.kept (one_division old before rests) is.has_kept.gates is.stands.kept_files is.has_kept.stands))
