-- The table changes: the entry of one file is put, replaced or taken away, and the table is staged.
use Rattle.std.proofs.Common.{◌≡◌, ◌≢◌, ◌↔◌, ◌⊎◌, inl, inr, ℕ, ◌+◌, ◌-◌, ◌<◌, ◌≤◌, true, List, [], Option, None, Some, IsSome, option_map, slice_get, refl, sym, ap, ◌∙◌, subst, arith}
use Rattle.std.specs.Prelude.{if◌then◌else◌, is_some, slice_set, unwrap_or}
use Rattle.std.specs.FinMap.{get}
use Rattle.std.specs.Option.{option_and_then}
use Rattle.std.proofs.lemmas.Bool.{cases_eq}
use Rattle.std.proofs.lemmas.Option.{none-some, slice_get-get_or, slice_get-map}
use Rattle.nesc_base.specs.declared.block.Block.{Block}
use Rattle.nesc_base.specs.Block.{zero_block}
use Rattle.nesc_base.specs.Files.{File}
use Rattle.nesc_base.specs.Geometry.{area_from, map_at, table_at}
use Rattle.nesc_base.specs.Places.{HeldAt, Owner, Owns, Places, place_of}
use Rattle.nesc_base.proofs.Maps.{get-insert_other, get-insert_same}
use Rattle.block_map.specs.Map.{StandsAt}
use Rattle.image_layout.specs.declared.table.TableEntry.{TableEntry}
use Rattle.image_layout.specs.Opens.{lengths_of}
use Rattle.image_layout.specs.Owners.{MayOwn}
use Rattle.image_layout.specs.Table as table
use Rattle.image_layout.specs.Table.{AreEntries, table_block}
use Rattle.host_journal.specs.Journal.{IsJournal, Journal, is_data, staging}
use Rattle.host_journal.specs.Staged.{MayStage, now_of}
use Rattle.host_journal.proofs.Belonging.{stay_sound}
use Rattle.host_journal.proofs.Overlaid.{get-now, over}
use Rattle.host_journal.proofs.Sounding.{weight-before}
use Rattle.file_layer.specs.Changing.{GoesOn, IsTable, Stages}
use Rattle.file_layer.specs.Knowing.{FileSet, Knows, entry_for}
use Rattle.file_layer.specs.Layer.{Fits, IsLayer, Layer, entry_of}
use Rattle.file_layer.specs.Showing.{Shows}
use Rattle.file_layer.specs.Staging.{StagesMap}
use Rattle.file_layer.proofs.Entries.{at_least_one, entry_here, entry_other, item_here, item_other, tabled}
use Rattle.file_layer.proofs.Known.{owns_where_stands}
use Rattle.file_layer.proofs.OwnersStanding.{placed_as_stands}
use Rattle.file_layer.proofs.NothingLeft.{none_left, nothing}
use Rattle.file_layer.proofs.Shown.{shows_ends}

-- the file of this entry may hold the block
abbrev pub HasRoom : Option TableEntry → ℕ → Type 0
HasRoom None v = ⊥
HasRoom (Some entry) v = v < entry.length

-- At number n stand the file of the entry and its places now, or nothing; all else is as it was.
pub record Replaced (files : Layer) (n : ℕ) (entry : Option TableEntry) (laid : List Block) (set : FileSet) (places : Places) (others : FileSet) (elsewhere : Places) : Type 0 where
  pub same_files : (m : ℕ) → m ≢ n → get others m ≡ get set m
  pub same_places : (m : ℕ) → m ≢ n → get elsewhere m ≡ get places m
  pub named : option_map entry_for (get others n) ≡ entry
  pub filed : is_some (get elsewhere n) ≡ is_some (get others n)
  pub owns : (v at : ℕ) → Owns elsewhere n v at ↔ StandsAt files.map n v at
  pub held : (v : ℕ) (file : File) → get others n ≡ Some file → IsSome (get file.body v) ↔ IsSome (place_of elsewhere n v)
  pub stands : (v at : ℕ) (file : File) → get others n ≡ Some file → Owns elsewhere n v at → get file.body v ≡ slice_get laid at

-- what is staged for the table is no data block
not_data : (journal : Journal) → journal.count + (if is_data journal.geometry (table_at journal.geometry) then 1 else 0) ≡ journal.count
not_data journal = omega (arith, weight-before journal.geometry (table_at journal.geometry) (omega arith))

none_marked : (files : Layer) (journal : Journal) → StagesMap files [] journal journal
none_marked files journal = record {
  counted = refl;
  marked = λ b below is. absurd (none-some true is);
  others = λ at apart. refl;
}

module _ (files : Layer) (entries : List (Option TableEntry)) (n : ℕ) (entry : Option TableEntry) (journal : Journal) (fits : Fits files journal) (numbered : 1 ≤ n) (among : n ≤ 32)
    (is : entries ≡ slice_set files.table (n - 1) entry) (good : AreEntries entries) (room : (v at : ℕ) → StandsAt files.map n v at → HasRoom entry v) where
  abbrev new : Layer
  new = tabled files fits.layer.entries.count entries n entry numbered among is

  -- the length of the entry of a file that has the block
  length_here : (o : Option TableEntry) (v : ℕ) → slice_get entries (n - 1) ≡ Some o → HasRoom o v → (length : ℕ) × (slice_get (lengths_of entries) (n - 1) ≡ Some (Some length)) × (v < length)
  length_here None v there has = absurd has
  length_here (Some e) v there has =
      let length_of : TableEntry → ℕ = λ x. x.length in
      (e.length, slice_get-map (option_map length_of) entries (n - 1) ∙ ap (option_map (option_map length_of)) there, has)

  may_now : (k : ℕ) (owner : Owner) → slice_get files.map.owners k ≡ Some (Some owner) → MayOwn (lengths_of entries) files.geometry.blocks k owner
  may_now k owner at =
      let may = fits.layer.may k owner at in
      let length_of : TableEntry → ℕ = λ x. x.length in
      elim (cases_eq owner.0.0 n) [
        | inl same ↦
            let here = length_here entry owner.1 (item_here files fits.layer.entries.count entries n entry numbered among is) (room owner.1 (files.map.from + k) (k, owner, at, same, refl, refl)) in
            record {
              among = may.among;
              numbered = may.numbered;
              in_two_bytes = may.in_two_bytes;
              in_four_bytes = may.in_four_bytes;
              length = here.0;
              used = ap (λ m. slice_get (lengths_of entries) (m - 1)) same ∙ here.1;
              below = here.2;
            }
        | inr apart ↦
            let not_none = may.numbered in
            let some : 1 ≤ owner.0.0 = at_least_one owner.0.0 not_none in
            record {
              among = may.among;
              numbered = may.numbered;
              in_two_bytes = may.in_two_bytes;
              in_four_bytes = may.in_four_bytes;
              length = may.length;
              used = slice_get-map (option_map length_of) entries (owner.0.0 - 1)
                  ∙ ap (option_map (option_map length_of)) (item_other files fits.layer.entries.count entries n entry numbered among is owner.0.0 some apart)
                  ∙ sym (slice_get-map (option_map length_of) files.table (owner.0.0 - 1)) ∙ may.used;
              below = may.below;
            }
      ]

  pub layer_tabled : IsLayer new
  layer_tabled = record {
    sizes = fits.layer.sizes;
    entries = good;
    from = fits.layer.from;
    count = fits.layer.count;
    may = may_now;
    once = fits.layer.once;
  }

  pub fits_tabled : Fits new journal
  fits_tabled = record { layer = layer_tabled; sound = fits.sound; same = fits.same }

  module _ (after : Journal) (staged : after ≡ staging journal (table_at files.geometry) (table_block entries)) where
    geometry_after : after.geometry ≡ journal.geometry
    geometry_after = ap (λ (j : Journal). j.geometry) staged

    pub goes_tabled : GoesOn journal after
    goes_tabled =
        let same = fits.same in
        record {
          sound = subst (λ (j : Journal). IsJournal j) (sym staged)
              (((stay_sound {D = ⊥} (λ (none : ⊥). absurd none) journal (table_at files.geometry)).stage (table_block entries)
              (subst (λ g. MayStage g (table_at files.geometry)) (sym same) (omega arith, omega arith))
              (subst (λ g. area_from g ≤ table_at files.geometry → journal.count < g.slack) (sym same) (λ behind. absurd (omega (arith, behind))))).sound fits.sound);
          same_geometry = geometry_after;
          same_start = ap (λ (j : Journal). j.started) staged;
        }

    pub fits_staged : Fits new after
    fits_staged = record { layer = layer_tabled; sound = goes_tabled.sound; same = geometry_after ∙ fits.same }

    got_table : get after.staged (table_at files.geometry) ≡ Some (table_block entries)
    got_table = ap (λ (j : Journal). get j.staged (table_at files.geometry)) staged ∙ get-insert_same journal.staged (table_at files.geometry) (table_block entries)

    got_other : (at : ℕ) → at ≢ table_at files.geometry → get after.staged at ≡ get journal.staged at
    got_other at apart = ap (λ (j : Journal). get j.staged at) staged ∙ get-insert_other journal.staged (table_at files.geometry) (table_block entries) at apart

    count_after : after.count ≡ journal.count
    count_after =
        ap (λ (j : Journal). j.count) staged ∙ ap (λ g. journal.count + (if is_data journal.geometry (table_at g) then 1 else 0)) (sym fits.same) ∙ not_data journal

    pub stages_tabled : (P : ℕ → Type 0) (before : Journal) → Stages P 0 before journal → Stages (λ at. IsTable files.geometry at ⊎ P at) 0 before after
    stages_tabled P before stages = record {
      counted = count_after ∙ stages.counted;
      others = λ at none. got_other at (λ same. none (inl same)) ∙ stages.others at (λ named. none (inr named));
    }

    pub stages_table : Stages (IsTable files.geometry) 0 journal after
    stages_table = record { counted = omega (arith, count_after); others = got_other }

    module _ (kept : List Block) (set : FileSet) (places : Places) (shows : Shows files journal.staged kept set places) (others : FileSet) (elsewhere : Places)
        (replaced : Replaced files n entry (now_of journal.staged kept) set places others elsewhere) where
      place_other : (m v : ℕ) → m ≢ n → place_of elsewhere m v ≡ place_of places m v
      place_other m v apart = ap (option_and_then (λ (held : HeldAt). get held v)) (replaced.same_places m apart)

      owns_as_stands : (m v at : ℕ) → Owns elsewhere m v at ↔ StandsAt files.map m v at
      owns_as_stands m v at = elim (cases_eq m n) [
        | inl same ↦ subst (λ q. Owns elsewhere q v at ↔ StandsAt files.map q v at) (sym same) (replaced.owns v at)
        | inr apart ↦
            let was = owns_where_stands files set places fits.layer shows.knows m v at in
            ((λ owns. was.0 (sym (place_other m v apart) ∙ owns)), (λ stands. place_other m v apart ∙ was.1 stands))
      ]

      named_now : (m : ℕ) → option_map entry_for (get others m) ≡ entry_of new m
      named_now m = elim (cases_eq m n) [
        | inl same ↦
            ap (λ q. option_map entry_for (get others q)) same ∙ replaced.named ∙ sym (entry_here files fits.layer.entries.count entries n entry numbered among is m same)
        | inr apart ↦
            ap (option_map entry_for) (replaced.same_files m apart) ∙ shows.knows.named m ∙ sym (entry_other files fits.layer.entries.count entries n entry numbered among is m apart)
      ]

      filed_now : (m : ℕ) → is_some (get elsewhere m) ≡ is_some (get others m)
      filed_now m = elim (cases_eq m n) [
        | inl same ↦ subst (λ q. is_some (get elsewhere q) ≡ is_some (get others q)) (sym same) replaced.filed
        | inr apart ↦ ap is_some (replaced.same_places m apart) ∙ shows.knows.placed.filed m ∙ sym (ap is_some (replaced.same_files m apart))
      ]

      held_now : (m v : ℕ) (file : File) → get others m ≡ Some file → IsSome (get file.body v) ↔ IsSome (place_of elsewhere m v)
      held_now m v file there = elim (cases_eq m n) [
        | inl same ↦ subst (λ q. IsSome (get file.body v) ↔ IsSome (place_of elsewhere q v)) (sym same) (replaced.held v file (sym (ap (get others) same) ∙ there))
        | inr apart ↦
            let was = shows.knows.held m v file (sym (replaced.same_files m apart) ∙ there) in
            let place = place_other m v apart in
            ((λ some. subst IsSome (sym place) (was.0 some)), (λ some. was.1 (subst IsSome place some)))
      ]

      now_other : (at : ℕ) → at ≢ table_at files.geometry → slice_get (now_of after.staged kept) at ≡ slice_get (now_of journal.staged kept) at
      now_other at apart = get-now after.staged kept at ∙ ap (λ o. over o (slice_get kept at)) (got_other at apart) ∙ sym (get-now journal.staged kept at)

      table_there : slice_get (now_of after.staged kept) (table_at files.geometry) ≡ Some (table_block entries)
      table_there =
          let whole = shows.whole in
          get-now after.staged kept (table_at files.geometry) ∙ ap (λ o. over o (slice_get kept (table_at files.geometry))) got_table
          ∙ ap (over (Some (table_block entries))) (slice_get-get_or kept (table_at files.geometry) zero_block (omega (arith, whole)))

      stands_now : (m v at : ℕ) (file : File) → get others m ≡ Some file → Owns elsewhere m v at → get file.body v ≡ slice_get (now_of after.staged kept) at
      stands_now m v at file there owns =
          let place = ((owns_as_stands m v at).0 owns).5 in
          let from = fits.layer.from in
          let other : slice_get (now_of after.staged kept) at ≡ slice_get (now_of journal.staged kept) at = now_other at (λ same. omega (arith, same, place, from)) in
          elim (cases_eq m n) [
            | inl same ↦ replaced.stands v at file (sym (ap (get others) same) ∙ there) (subst (λ q. Owns elsewhere q v at) same owns) ∙ sym other
            | inr apart ↦ shows.stands m v at file (sym (replaced.same_files m apart) ∙ there) (sym (place_other m v apart) ∙ owns) ∙ sym other
          ]

      knows_tabled : Knows new others elsewhere
      knows_tabled = record {
        named = named_now;
        placed = placed_as_stands new others elsewhere fits.layer.from filed_now (λ m v at some. owns_as_stands m v at);
        held = held_now;
      }

      pub shows_tabled : Shows new after.staged kept others elsewhere
      shows_tabled = shows_ends [] nothing new after after kept others elsewhere fits_staged none_left
          (record {
            whole = shows.whole;
            table = subst (λ (block : Block). table.IsTable block entries) (sym (ap (λ o. unwrap_or o zero_block) table_there)) (record { good = good; spelling = refl });
            owned = λ b below unmarked.
                ap (λ o. unwrap_or o zero_block) (now_other (map_at files.geometry + b) (λ same. omega (arith, same))) ∙ (shows.parts.owned.each b below).spelling;
            knows = knows_tabled;
            stands = λ m v at file left there owns. stands_now m v at file there owns;
          })
          (none_marked new after)
