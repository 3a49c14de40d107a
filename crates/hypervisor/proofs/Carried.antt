-- What a call on files leads to is a list of changes, with what it stages.
use Rattle.std.proofs.Common.{◌≡◌, ℕ, ◌+◌, List, [], ◌∷◌, ◌++◌, length, Some, refl, sym, ap, subst, arith}
use Rattle.std.specs.Prelude.{unwrap_or}
use Rattle.std.specs.FinMap.{get}
use Rattle.nesc_base.specs.declared.block.Block.{Block}
use Rattle.nesc_base.specs.declared.runs.Area.{Area}
use Rattle.nesc_base.specs.Files.{File, Files, file_at}
use Rattle.nesc_base.specs.Places.{Places}
use Rattle.file_layer.specs.Changing.{AreMapped, ArePut, IsCreated, IsDeleted, IsResized, Leads, Stages}
use Rattle.file_layer.specs.Layer.{Layer, area_of}
use Rattle.file_layer.specs.Showing.{Shows}
use Rattle.file_layer.proofs.Known.{no_file}
use Rattle.file_model.specs.Files.{LeadsTo, create, delete, holding, puts_from, resize, unheld}
use Rattle.file_model.specs.Places.{AreMoved, Gives}
use Rattle.host_journal.specs.Journal.{Journal}
use Rattle.hypervisor.specs.Carrying.{Carries}
use Rattle.hypervisor.proofs.StagedCounts.{staged_holding, staged_put}

-- Places

-- blocks that are put stay where they are
moved_puts : (area : Area) (places : Places) (n v : ℕ) (blocks : List Block) → AreMoved area places (puts_from n v blocks) places
moved_puts area places n v [] = refl
moved_puts area places n v (block ∷ blocks) = (places, refl, moved_puts area places n (v + 1) blocks)

moved_held : (area : Area) (places elsewhere : Places) (n : ℕ) (blocks : List ℕ) → Gives area places n blocks elsewhere → AreMoved area places (holding n blocks) elsewhere
moved_held area places elsewhere n [] gives = gives
moved_held area places elsewhere n (v ∷ blocks) gives = (elsewhere, gives, refl)

moved_put : (area : Area) (places elsewhere : Places) (n v : ℕ) (held : List ℕ) (blocks : List Block) → Gives area places n held elsewhere
    → AreMoved area places (holding n held ++ puts_from n v blocks) elsewhere
moved_put area places elsewhere n v [] blocks gives = subst (λ (there : Places). AreMoved area places (puts_from n v blocks) there) (sym gives) (moved_puts area places n v blocks)
moved_put area places elsewhere n v (w ∷ held) blocks gives = (elsewhere, gives, moved_puts area elsewhere n v blocks)

-- Changes

module _ (old : Layer) (before : Journal) (kept : List Block) (set : Files) (places : Places) (new : Layer) (after : Journal) (shows : Shows old before.staged kept set places) where
  -- nothing has changed
  pub carries_none : new ≡ old → after ≡ before → Carries old before kept set places [] new after
  carries_none same_files same_journal = record {
    others = set;
    elsewhere = places;
    leads = refl;
    moves = refl;
    shows = subst (λ (files : Layer). Shows files after.staged kept set places) (sym same_files) (subst (λ (journal : Journal). Shows old journal.staged kept set places) (sym same_journal) shows);
    counted = let same = ap (λ (journal : Journal). journal.count) same_journal in omega (arith, same);
  }

  pub carries_create : (n : ℕ) (name : List ℕ) (length : ℕ) (places_named : ℕ → Type 0) → Leads (IsCreated n name length) old before new after → Stages places_named 0 before after
      → Carries old before kept set places (create n name length ∷ []) new after
  carries_create n name length places_named leads stages =
      let led = leads kept set places shows in
      record { others = led.0; elsewhere = led.1; leads = (led.0, led.2.creates, refl); moves = (led.1, led.2.files, refl); shows = led.3; counted = stages.counted }

  pub carries_delete : (n : ℕ) (places_named : ℕ → Type 0) → Leads (IsDeleted n) old before new after → Stages places_named 0 before after → Carries old before kept set places (delete n ∷ []) new after
  carries_delete n places_named leads stages =
      let led = leads kept set places shows in
      record { others = led.0; elsewhere = led.1; leads = (led.0, led.2.deletes, refl); moves = (led.1, led.2.gone, refl); shows = led.3; counted = stages.counted }

  pub carries_resize : (n length : ℕ) (places_named : ℕ → Type 0) → Leads (IsResized n length) old before new after → Stages places_named 0 before after → Carries old before kept set places (resize n length ∷ []) new after
  carries_resize n length places_named leads stages =
      let led = leads kept set places shows in
      record { others = led.0; elsewhere = led.1; leads = (led.0, led.2.resizes, refl); moves = (led.1, led.2.cut, refl); shows = led.3; counted = stages.counted }

  -- of a file that is there
  module _ (n : ℕ) (file : File) (stands : get set n ≡ Some file) where
    at_file : file_at set n ≡ file
    at_file = ap (λ o. unwrap_or o no_file) stands

    pub carries_map : (v count newly : ℕ) (places_named : ℕ → Type 0) → newly ≡ length (unheld file v count) → Leads (AreMapped (area_of old.geometry) n v count) old before new after → Stages places_named newly before after
        → Carries old before kept set places (holding n (unheld file v count)) new after
    carries_map v count newly places_named many leads stages =
        let led = leads kept set places shows in
        let blocks = ap (λ (f : File). unheld f v count) at_file in
        record {
          others = led.0;
          elsewhere = led.1;
          leads = subst (λ (held : List ℕ). LeadsTo set (holding n held) led.0) blocks led.2.leads;
          moves = moved_held (area_of old.geometry) places led.1 n (unheld file v count) (subst (λ (held : List ℕ). Gives (area_of old.geometry) places n held led.1) blocks led.2.gives);
          shows = led.3;
          counted = omega (arith, stages.counted, many, staged_holding n (unheld file v count));
        }

    pub carries_put : (v : ℕ) (blocks : List Block) (places_named : ℕ → Type 0) → Leads (ArePut (area_of old.geometry) n v blocks) old before new after → Stages places_named (length blocks) before after
        → Carries old before kept set places (holding n (unheld file v (length blocks)) ++ puts_from n v blocks) new after
    carries_put v blocks places_named leads stages =
        let led = leads kept set places shows in
        let held = ap (λ (f : File). unheld f v (length blocks)) at_file in
        record {
          others = led.0;
          elsewhere = led.1;
          leads = subst (λ (these : List ℕ). LeadsTo set (holding n these ++ puts_from n v blocks) led.0) held led.2.leads;
          moves = moved_put (area_of old.geometry) places led.1 n v (unheld file v (length blocks)) blocks (subst (λ (these : List ℕ). Gives (area_of old.geometry) places n these led.1) held led.2.gives);
          shows = led.3;
          counted = omega (arith, stages.counted, staged_put file n v blocks);
        }
