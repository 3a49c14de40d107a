-- Files that stay as they are, or come to hold blocks, change by a list of changes.
use Rattle.std.proofs.Common.{◌≡◌, ℕ, ◌≤◌, true, List, [], ◌∷◌, length, take, refl, sym, add-zero, arith}
use Rattle.std.specs.List.{filter}
use Rattle.std.proofs.lemmas.List.{length-take-le}
use Rattle.nesc_base.specs.declared.block.Block.{Block}
use Rattle.nesc_base.specs.declared.runs.Area.{Area}
use Rattle.nesc_base.specs.Files.{Files, file_at}
use Rattle.nesc_base.specs.Places.{Places}
use Rattle.file_layer.specs.Changing.{AreHeld, Leads, Stages}
use Rattle.file_layer.specs.Layer.{Layer, area_of}
use Rattle.file_layer.specs.Showing.{Shows}
use Rattle.file_model.specs.Files.{holding, staged, unheld_below}
use Rattle.file_model.specs.Places.{AreMoved, Gives}
use Rattle.host_journal.specs.Journal.{Journal}
use Rattle.hypervisor.specs.Carrying.{Carries}

all_pass : (xs : List ℕ) → length (filter (λ v. true) xs) ≡ length xs
all_pass [] = refl
all_pass (x ∷ xs) = omega (arith, all_pass xs)

-- each block that comes to be held is staged
pub staged_holding : (n : ℕ) (blocks : List ℕ) → staged (holding n blocks) ≡ length blocks
staged_holding n [] = refl
staged_holding n (v ∷ blocks) = omega (arith, all_pass (v ∷ blocks))

moved_held : (area : Area) (places elsewhere : Places) (n : ℕ) (blocks : List ℕ) → Gives area places n blocks elsewhere → AreMoved area places (holding n blocks) elsewhere
moved_held area places elsewhere n [] gives = gives
moved_held area places elsewhere n (v ∷ blocks) gives = (elsewhere, gives, refl)

module _ (old : Layer) (before : Journal) (kept : List Block) (set : Files) (places : Places) (shows : Shows old before.staged kept set places) where
  -- nothing changes
  pub carries_none : Carries old before kept set places [] old before
  carries_none = record { others = set; elsewhere = places; leads = refl; moves = refl; shows = shows; counted = sym (add-zero before.count) }

  -- blocks come to be held
  pub carries_held : (n v count held : ℕ) (new : Layer) (after : Journal) (names : ℕ → Type 0) → held ≤ length (unheld_below (file_at set n) v count)
      → Leads (AreHeld (area_of old.geometry) n v count held) old before new after → Stages names held before after
      → Carries old before kept set places (holding n (take held (unheld_below (file_at set n) v count))) new after
  carries_held n v count held new after names enough leads stages =
      let (others, elsewhere, filled, shown) = leads kept set places shows in
      let blocks : List ℕ = take held (unheld_below (file_at set n) v count) in
      record {
        others = others;
        elsewhere = elsewhere;
        leads = filled.leads;
        moves = moved_held (area_of old.geometry) places elsewhere n blocks filled.gives;
        shows = shown;
        counted = omega (arith, stages.counted, staged_holding n blocks, length-take-le held (unheld_below (file_at set n) v count) enough);
      }
