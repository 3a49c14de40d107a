-- What a journal reads: the block that is staged, or the one that the disk has kept.
use Rattle.std.proofs.Common.{◌≡◌, inr, ℕ, true, List, length, slice_get, get_or, None, Some, sym, ap, ◌∙◌, arith}
use Rattle.std.specs.FinMap.{get}
use Rattle.std.proofs.lemmas.Option.{slice_get-get_or}
use Rattle.nesc_base.specs.declared.block.Block.{Block}
use Rattle.nesc_base.specs.declared.geometry.Geometry.{Geometry}
use Rattle.nesc_base.specs.Block.{zero_block}
use Rattle.nesc_base.specs.Disk.{Known}
use Rattle.slot_layout.specs.Slots.{AreClosed, StandsFor}
use Rattle.slot_layout.proofs.Alike.{alike_where_closed, first_closed}
use Rattle.host_journal.specs.Journal.{Journal}
use Rattle.host_journal.specs.Kept.{IsKept, Rests}
use Rattle.host_journal.specs.Staged.{MayStage, now_of}
use Rattle.host_journal.proofs.Overlaid.{get-now, get-now_kept, over}

-- where every gate is closed, the disk reads as what it has kept
pub kept_stands : (geometry : Geometry) (contents kept : List Block) → AreClosed geometry contents → StandsFor geometry contents kept → (at : ℕ) → MayStage geometry at
    → slice_get contents at ≡ slice_get kept at
kept_stands geometry contents kept closed stands at may = (alike_where_closed geometry contents kept (first_closed geometry contents closed) stands).each at (inr may)

module _ (journal : Journal) (disk : Known) (at : ℕ) (rests : Rests journal disk) (may : MayStage journal.geometry at) (tells : disk.tells ≡ true) (whole : length disk.contents ≡ disk.size)
    (kept : List Block) (is : IsKept journal.geometry disk kept) where
  stands : slice_get disk.contents at ≡ slice_get kept at
  stands = kept_stands journal.geometry disk.contents kept (rests.closed tells) is.stands at may

  pub reads_staged : (block : Block) → get journal.staged at ≡ Some block → slice_get (now_of journal.staged kept) at ≡ Some block
  reads_staged block staged =
      let some : slice_get disk.contents at ≡ Some (get_or disk.contents at zero_block) = slice_get-get_or disk.contents at zero_block (omega (arith, may.1, rests.enough, whole)) in
      get-now journal.staged kept at ∙ ap (λ o. over o (slice_get kept at)) staged ∙ ap (over (Some block)) (sym stands ∙ some)

  pub reads_kept : (block : Block) → get journal.staged at ≡ None → slice_get disk.contents at ≡ Some block → slice_get (now_of journal.staged kept) at ≡ Some block
  reads_kept block none reads = get-now_kept journal.staged kept at none ∙ sym stands ∙ reads
