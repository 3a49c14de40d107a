-- The next block of a request is reached where it stands, or found not to be held, whatever files the blocks show.
use Rattle.std.proofs.Common.{◌≡◌, ℕ, List, [], ◌∷◌, Option, None, Some, slice_get, slice_set, refl, sym, ap, ◌∙◌, subst}
use Rattle.std.specs.Prelude.{MatchOption, is_some}
use Rattle.std.proofs.lemmas.Option.{get_or_from_slice_get}
use Rattle.nesc_base.specs.declared.block.Block.{Block}
use Rattle.nesc_base.specs.Block.{zero_block}
use Rattle.nesc_base.specs.Files.{Files, file_at}
use Rattle.nesc_base.specs.Places.{Places}
use Rattle.nesc_requests.specs.declared.request.Request.{Request}
use Rattle.nesc_requests.specs.declared.request.Request.TheVariants.{Read, Write}
use Rattle.block_map.specs.Map.{IsUnheld, StandsAt}
use Rattle.file_model.specs.Files.{Change, holds, put}
use Rattle.host_journal.specs.Journal.{Journal, staging}
use Rattle.host_journal.specs.Staged.{now_of}
use Rattle.file_layer.specs.Layer.{Fits, Layer}
use Rattle.file_layer.specs.Showing.{Shows}
use Rattle.file_layer.proofs.Known.{held_alike, held_by_place}
use Rattle.file_layer.proofs.ReadBlocks.{reads_held}
use Rattle.hypervisor.specs.Carrying.{Carries}
use Rattle.plain_machine.specs.declared.outcome.How.TheVariants.{Hole, Walk}
use Rattle.nesc_session.specs.Serving.{ReachesBlock}
use Rattle.nesc_session.specs.declared.serving.Reached.{Reached}
use Rattle.nesc_session.specs.declared.serving.Reached.TheVariants.{Failed, Missed, Served}
use Rattle.nesc_session.proofs.Carried.{carries_none}
use Rattle.nesc_session.proofs.StagedBlocks.{puts_staged}

-- Where a block stands that was found, and that it is not held where it was not

module _ (files : Layer) (n v : ℕ) (found : Option ℕ) (place : MatchOption found (IsUnheld files.map n v) (StandsAt files.map n v)) where
  pub found_there : (at : ℕ) → found ≡ Some at → StandsAt files.map n v at
  found_there at is = subst (λ (o : Option ℕ). MatchOption o (IsUnheld files.map n v) (StandsAt files.map n v)) is place

  pub found_nowhere : found ≡ None → IsUnheld files.map n v
  found_nowhere is = subst (λ (o : Option ℕ). MatchOption o (IsUnheld files.map n v) (StandsAt files.map n v)) is place

-- What is reached

module _ (files : Layer) (journal : Journal) (kept : List Block) (set : Files) (places : Places) (shows : Shows files journal.staged kept set places)
    (fits : Fits files journal) (n v done : ℕ) where
  -- block v is reached so, and the files change
  abbrev pub ReachesOver : Request → Reached → Request → Journal → Type 0
  ReachesOver request reached later after = (changes : List Change) × ReachesBlock set n v done request reached later changes × Carries files journal kept set places changes files after

  held_at : (found : Option ℕ) → MatchOption found (IsUnheld files.map n v) (StandsAt files.map n v) → holds (file_at set n) v ≡ is_some found
  held_at found is = held_alike files set places fits.layer shows.knows n v ∙ held_by_place files n v found is

  pub reaches_hole : (first : ℕ) (into : List Block) → IsUnheld files.map n v → ReachesOver (Read first into) (Served (Hole 0)) (Read first (slice_set into done zero_block)) journal
  reaches_hole first into unheld = ([], ((held_at None unheld, refl), refl), carries_none files journal kept set places shows)

  pub reaches_read : (first : ℕ) (into : List Block) (at : ℕ) (block : Block) → StandsAt files.map n v at → slice_get (now_of journal.staged kept) at ≡ Some block
      → ReachesOver (Read first into) (Served (Walk 0)) (Read first (slice_set into done block)) journal
  reaches_read first into at block stands is =
      let reads = reads_held files journal.staged kept set places fits.layer shows n v at block stands is in
      ([], ((held_at (Some at) stands, ap (λ b. Read first (slice_set into done b)) reads), refl), carries_none files journal kept set places shows)

  pub fails_to_read : (first : ℕ) (into : List Block) (at : ℕ) → StandsAt files.map n v at → ReachesOver (Read first into) Failed (Read first into) journal
  fails_to_read first into at stands = ([], (refl, held_at (Some at) stands, refl, refl), carries_none files journal kept set places shows)

  pub reaches_write : (first : ℕ) (from : List Block) (at : ℕ) (block : Block) → StandsAt files.map n v at → slice_get from done ≡ Some block
      → ReachesOver (Write first from) (Served (Walk 0)) (Write first from) (staging journal at block)
  reaches_write first from at block stands is = (
    put n v block ∷ [],
    ((held_at (Some at) stands, refl), ap (λ b. put n v b ∷ []) (sym (get_or_from_slice_get from done block zero_block is))),
    puts_staged files journal n v at block fits stands kept set places shows,
  )

  pub misses : (first : ℕ) (from : List Block) → IsUnheld files.map n v → ReachesOver (Write first from) Missed (Write first from) journal
  misses first from unheld = ([], (refl, held_at None unheld, refl, refl), carries_none files journal kept set places shows)
