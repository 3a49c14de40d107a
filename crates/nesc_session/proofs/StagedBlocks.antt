-- A block is staged for the place of a block that a file holds.
use Rattle.std.proofs.Common.{ℕ, ◌+◌, ◌<◌, ◌≤◌, List, [], ◌∷◌, length, Some, refl, sym, ap, subst, arith}
use Rattle.std.proofs.lemmas.Option.{slice_get_within}
use Rattle.nesc_base.specs.declared.block.Block.{Block}
use Rattle.nesc_base.specs.declared.geometry.Geometry.{Geometry}
use Rattle.nesc_base.specs.Files.{Files}
use Rattle.nesc_base.specs.Geometry.{area_from}
use Rattle.nesc_base.specs.Places.{Places}
use Rattle.block_map.specs.Map.{StandsAt}
use Rattle.file_model.specs.Files.{put}
use Rattle.host_journal.specs.Journal.{Journal, staging}
use Rattle.host_journal.specs.Staged.{MayStage}
use Rattle.host_journal.proofs.Belonging.{stay_sound}
use Rattle.host_journal.proofs.Sounding.{weight-behind}
use Rattle.file_layer.specs.Changing.{GoesOn}
use Rattle.file_layer.specs.Layer.{Fits, Layer}
use Rattle.file_layer.specs.Showing.{Shows, StayShown}
use Rattle.file_layer.proofs.Known.{owns_where_stands}
use Rattle.file_layer.proofs.PutBlocks.{puts_at}
use Rattle.hypervisor.specs.Carrying.{Carries}

module _ (files : Layer) (journal : Journal) (n v at : ℕ) (block : Block) (fits : Fits files journal) (stands : StandsAt files.map n v at) where
  -- the place is one of a data block
  at_data : (area_from journal.geometry ≤ at) × MayStage journal.geometry at
  at_data =
      let layer = fits.layer in
      let inside : stands.0 < length files.map.owners = slice_get_within files.map.owners stands.0 (Some stands.1) stands.2 in
      subst (λ (g : Geometry). (area_from g ≤ at) × MayStage g at) (sym fits.same)
      (omega (arith, stands.5, layer.from), (omega (arith, stands.5, layer.from), omega (arith, stands.5, inside, layer.from, layer.count)))

  -- whatever files are shown, the block is put
  pub puts_staged : (kept : List Block) (set : Files) (places : Places) → Shows files journal.staged kept set places
      → Carries files journal kept set places (put n v block ∷ []) files (staging journal at block)
  puts_staged kept set places shows =
      let owns = (owns_where_stands files set places fits.layer shows.knows n v at).1 stands in
      let (others, puts, shown) = puts_at files journal fits n v at block kept set places shows owns in
      record {
        others = others;
        elsewhere = places;
        leads = (others, puts, refl);
        moves = (places, refl, refl);
        shows = shown;
        counted = ap (λ k. journal.count + k) (weight-behind journal.geometry at at_data.0);
      }

  pub stays_staged : StayShown files journal files (staging journal at block)
  stays_staged kept set places shows = let carries = puts_staged kept set places shows in (carries.others, carries.elsewhere, carries.shows)

  module _ (room : journal.count < journal.geometry.slack) where
    pub goes_staged : GoesOn journal (staging journal at block)
    goes_staged = record {
      sound = ((stay_sound {D = ⊥} (λ none. absurd none) journal at).stage block at_data.1 (λ _. room)).sound fits.sound;
      same_geometry = refl;
      same_start = refl;
    }

    pub fits_staged : Fits files (staging journal at block)
    fits_staged = record { layer = fits.layer; sound = goes_staged.sound; same = fits.same }
