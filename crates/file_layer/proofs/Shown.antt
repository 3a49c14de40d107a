-- Into the middle of a change, and out of it.
use Rattle.std.proofs.Common.{◌≡◌, ◌⊎◌, inl, inr, ℕ, ◌+◌, ◌<◌, ◌≤◌, Bool, true, false, List, Option, Some, None, length, slice_get, refl, sym, ap, ◌∙◌, subst, arith}
use Rattle.std.specs.Prelude.{IsSome, unwrap_or}
use Rattle.std.specs.FinMap.{get}
use Rattle.std.proofs.lemmas.Bool.{false≢true}
use Rattle.std.proofs.lemmas.Option.{none-some, same_Some, slice_get-get_or}
use Rattle.nesc_base.specs.declared.block.Block.{Block}
use Rattle.nesc_base.specs.Block.{zero_block}
use Rattle.nesc_base.specs.Files.{File}
use Rattle.nesc_base.specs.Geometry.{area_from, map_at, map_blocks, table_at}
use Rattle.nesc_base.specs.Places.{Owns, Places}
use Rattle.image_layout.specs.Table.{IsTable}
use Rattle.slot_layout.specs.Slots.{block_at}
use Rattle.host_journal.specs.Journal.{Journal}
use Rattle.host_journal.specs.Staged.{Staged, now_of}
use Rattle.host_journal.proofs.Overlaid.{get-now, over}
use Rattle.file_layer.specs.Knowing.{FileSet, Knows}
use Rattle.file_layer.specs.Layer.{Fits, Layer}
use Rattle.file_layer.specs.Showing.{Shows}
use Rattle.file_layer.specs.Staging.{IsLeft, IsMarked, Left, ShowsBut, StagesMap, map_block}
use Rattle.file_layer.proofs.LaidParts.{parts_said}

-- what shows the files shows them but for whatever is left out
pub shows_begins : (marks : List Bool) (left : Left) (files : Layer) (staged : Staged) (kept : List Block) (set : FileSet) (places : Places)
    → Shows files staged kept set places → ShowsBut marks left files staged kept set places
shows_begins marks left files staged kept set places shows = record {
  whole = shows.whole;
  table = shows.parts.table;
  owned = λ b below unmarked. (shows.parts.owned.each b below).spelling;
  knows = shows.knows;
  stands = λ n v at file kept_out. shows.stands n v at file;
}

-- What is read

-- where as much is staged as before the same stands
pub same_now : (old new : Staged) (kept : List Block) (at : ℕ) → get new at ≡ get old at → slice_get (now_of new kept) at ≡ slice_get (now_of old kept) at
same_now old new kept at same = get-now new kept at ∙ ap (λ o. over o (slice_get kept at)) same ∙ sym (get-now old kept at)

-- what is staged for a place stands there
pub staged_now : (staged : Staged) (kept : List Block) (at : ℕ) (block : Block) → at < length kept → get staged at ≡ Some block → slice_get (now_of staged kept) at ≡ Some block
staged_now staged kept at block within there =
    get-now staged kept at ∙ ap (λ o. over o (slice_get kept at)) there ∙ ap (over (Some block)) (slice_get-get_or kept at zero_block within)

marked_or_not : (mark : Option Bool) → (mark ≡ Some true) ⊎ (¬ (mark ≡ Some true))
marked_or_not None = inr (λ is. none-some true is)
marked_or_not (Some true) = inl refl
marked_or_not (Some false) = inr (λ is. false≢true (same_Some false true is))

-- the place of a block that a file has is one of a data block
pub place_behind : (files : Layer) (set : FileSet) (places : Places) → Knows files set places
    → (n v at : ℕ) (file : File) → get set n ≡ Some file → Owns places n v at → area_from files.geometry ≤ at
place_behind files set places knows n v at file stands owns =
    let there : IsSome (get set n) = subst (λ (o : Option File). IsSome o) (sym stands) refl in
    let owned = (knows.placed.each n v at there).0 owns in
    omega (arith, owned.5)

module _ (marks : List Bool) (left : Left) (files : Layer) (old new : Journal) (kept : List Block) (set : FileSet) (places : Places)
    (shows : ShowsBut marks left files old.staged kept set places) (stages : StagesMap files marks old new) where
  -- outside the map stands what stood there
  stood : (at : ℕ) → ((b : ℕ) → b < map_blocks files.geometry → ¬ (at ≡ map_at files.geometry + b)) → slice_get (now_of new.staged kept) at ≡ slice_get (now_of old.staged kept) at
  stood at apart = same_now old.staged new.staged kept at (stages.others at (λ b below marked. apart b below))

  table_stood : block_at (now_of new.staged kept) (table_at files.geometry) ≡ block_at (now_of old.staged kept) (table_at files.geometry)
  table_stood = ap (λ o. unwrap_or o zero_block) (stood (table_at files.geometry) (λ b below same. omega (arith, same)))

  -- a map block that is not marked stands as it stood
  unmarked_stood : (b : ℕ) → b < map_blocks files.geometry → ¬ IsMarked marks b → slice_get (now_of new.staged kept) (map_at files.geometry + b) ≡ slice_get (now_of old.staged kept) (map_at files.geometry + b)
  unmarked_stood b below unmarked = same_now old.staged new.staged kept (map_at files.geometry + b) (stages.others (map_at files.geometry + b) (λ c last marked same.
      let here : c ≡ b = omega (arith, same) in
      unmarked (subst (IsMarked marks) here marked)))

  -- so each says its owners
  spelled_now : (b : ℕ) → b < map_blocks files.geometry → block_at (now_of new.staged kept) (map_at files.geometry + b) ≡ map_block files b
  spelled_now b below = elim (marked_or_not (slice_get marks b)) [
    | inl marked ↦
        let whole = shows.whole in
        ap (λ o. unwrap_or o zero_block) (staged_now new.staged kept (map_at files.geometry + b) (map_block files b) (omega (arith, whole, below)) (stages.marked b below marked))
    | inr unmarked ↦ ap (λ o. unwrap_or o zero_block) (unmarked_stood b below unmarked) ∙ shows.owned b below unmarked
  ]

-- once the map blocks that are marked are staged, and nothing is left out, the files are shown
pub shows_ends : (marks : List Bool) (left : Left) (files : Layer) (old new : Journal) (kept : List Block) (set : FileSet) (places : Places)
    → Fits files old → ((n v : ℕ) → ¬ IsLeft left n v) → ShowsBut marks left files old.staged kept set places → StagesMap files marks old new
    → Shows files new.staged kept set places
shows_ends marks left files old new kept set places fits none shows stages = record {
  whole = shows.whole;
  parts =
      let table : IsTable (block_at (now_of new.staged kept) (table_at files.geometry)) files.table =
      subst (λ (block : Block). IsTable block files.table) (sym (table_stood marks left files old new kept set places shows stages)) shows.table in
      parts_said files fits.layer (now_of new.staged kept) table (spelled_now marks left files old new kept set places shows stages);
  knows = shows.knows;
  stands = λ n v at file there owns.
      let behind : area_from files.geometry ≤ at = place_behind files set places shows.knows n v at file there owns in
      shows.stands n v at file (none n v) there owns
      ∙ sym (stood marks left files old new kept set places shows stages at (λ b below same. omega (arith, behind, below, same)));
}
