-- A block of a file comes to be held, and a held block is put: what the blocks show in the middle of that.
use Rattle.std.proofs.Common.{◌≡◌, ◌≢◌, ◌⊎◌, inl, inr, ◌↔◌, ℕ, ◌+◌, ◌-◌, ◌*◌, ◌/◌, ◌<◌, ◌≤◌, Bool, true, List, drop, get_or, length, replicate, take, Option, Some, None, IsSome, option_map, refl, sym, ap, ◌∙◌, subst, arith}
use Rattle.std.specs.Prelude.{is_some, slice_get, slice_set, unwrap_or}
use Rattle.std.specs.FinMap.{get, insert}
use Rattle.std.proofs.lemmas.Bool.{cases_lt}
use Rattle.std.proofs.lemmas.List.{drop-set-add, drop-set-lt, set-append_left, take-set-le}
use Rattle.std.proofs.lemmas.Option.{none-some, same_Some, slice_get-get_or, slice_get_within}
use Rattle.nesc_base.specs.declared.block.Block.{Block}
use Rattle.nesc_base.specs.declared.numbers.FileNo.{FileNo}
use Rattle.nesc_base.specs.Block.{zero_block}
use Rattle.nesc_base.specs.Files.{File}
use Rattle.nesc_base.specs.Geometry.{area_from, block_owners, map_at, map_blocks, table_at, total}
use Rattle.nesc_base.specs.Places.{IsFree, IsOwned, Owner, Owns, Places, place_of}
use Rattle.nesc_base.proofs.Differing.{slice_get-set_other, slice_get-set_same}
use Rattle.block_map.specs.Map as map
use Rattle.block_map.specs.Map.{IsFreeAt, IsUnheld, StandsAt}
use Rattle.slot_layout.proofs.Alike.{length-laid_over}
use Rattle.image_layout.specs.declared.table.TableEntry.{TableEntry}
use Rattle.image_layout.specs.Owners.{owner_block}
use Rattle.image_layout.specs.Table.{IsTable}
use Rattle.host_journal.specs.Staged.{Staged, fresh_of, now_of, targets_of}
use Rattle.host_journal.proofs.Overlaid.{stages_one}
use Rattle.file_model.specs.Places.{IsLowestFree, with_place}
use Rattle.file_model.specs.Files.{with_block}
use Rattle.file_layer.specs.Knowing.{FileSet, Knows, entry_for}
use Rattle.file_layer.specs.Layer.{IsLayer, Layer, area_of, entry_of, owners_of}
use Rattle.file_layer.specs.Staging.{IsLeft, Left, ShowsBut, map_block, marking}
use Rattle.file_layer.proofs.Growing.{given, given_here, given_stays, given_was}
use Rattle.file_layer.proofs.Known.{owns_where_stands}
use Rattle.file_layer.proofs.Placing.{block_here, block_other, cases_both, changed-alike, changed-filed, none_behind, place_of-with_other, place_of-with_same, still_behind, with_place-filed}

-- The map blocks

-- one owner is put in the chunk of its number alone
chunk_set : {X : Type 0} (size b k : ℕ) (xs : List X) (x : X) → (k < size * b) ⊎ (size * b + size ≤ k) → take size (drop (size * b) (slice_set xs k x)) ≡ take size (drop (size * b) xs)
chunk_set size b k xs x (inl before) = ap (take size) (drop-set-lt (size * b) xs k x before)
chunk_set size b k xs x (inr behind) =
    let there : k ≡ size * b + (k - size * b) = omega arith in
    ap (λ j. take size (drop (size * b) (slice_set xs j x))) there
    ∙ ap (take size) (drop-set-add (size * b) xs (k - size * b) x)
    ∙ take-set-le size (drop (size * b) xs) (k - size * b) x (omega arith)

beside_chunk : (b k : ℕ) → b ≢ k / 128 → (k < 128 * b) ⊎ (128 * b + 128 ≤ k)
beside_chunk b k apart = elim (cases_lt k (128 * b)) [
  | inl before ↦ inl before
  | inr from ↦ inr (omega arith)
]

module _ (files : Layer) (file : FileNo) (v at : ℕ) (free : IsFreeAt files.map at) where
  abbrev key : ℕ
  key = at - files.map.from

  -- the owners with the new one
  owners_given : owners_of (given files file v at) ≡ slice_set (owners_of files) key (Some (file, v))
  owners_given = sym (set-append_left files.map.owners (replicate (block_owners * map_blocks files.geometry - files.geometry.blocks) None) key (Some (file, v)) (slice_get_within files.map.owners key None free.free))

  -- no map block changes but the one that has the owner
  map_block_other : (b : ℕ) → b ≢ key / 128 → map_block (given files file v at) b ≡ map_block files b
  map_block_other b apart =
      ap (λ owners. owner_block (take 128 (drop (128 * b) owners))) owners_given
      ∙ ap owner_block (chunk_set 128 b key (owners_of files) (Some (file, v)) (beside_chunk b key apart))

-- What is known of the files

module _ (files : Layer) (set : FileSet) (places : Places) (layer : IsLayer files) (knows : Knows files set places) where
  -- the file of an entry
  pub file_there : (n : ℕ) (entry : TableEntry) → entry_of files n ≡ Some entry → (f : File) × (get set n ≡ Some f) × (f.length ≡ entry.length)
  file_there n entry used = found (get set n) refl (knows.named n ∙ used)
    where
      found : (o : Option File) → get set n ≡ o → option_map entry_for o ≡ Some entry → (f : File) × (get set n ≡ Some f) × (f.length ≡ entry.length)
      found None is named = absurd (none-some entry named)
      found (Some f) is named = (f, is, ap (λ (e : TableEntry). e.length) (same_Some (entry_for f) entry named))

  -- what nobody owns in memory nobody owns
  free_there : (at : ℕ) → IsFreeAt files.map at → IsFree places at
  free_there at free n v owns =
      let stands = (owns_where_stands files set places layer knows n v at).0 owns in
      let same : stands.0 ≡ at - files.map.from = omega (arith, stands.5) in
      absurd (none-some stands.1 (same_Some None (Some stands.1) (sym free.free ∙ ap (slice_get files.map.owners) (sym same) ∙ stands.2)))

  -- and whose owner is there somebody owns
  owned_there : (at k : ℕ) (o : Option Owner) → at ≡ files.map.from + k → slice_get files.map.owners k ≡ Some o → ¬ IsFreeAt files.map at → ¬ IsFree places at
  owned_there at k None there is owned free =
      let same : at - files.map.from ≡ k = omega arith in
      let within : k < length files.map.owners = slice_get_within files.map.owners k None is in
      owned (record { place = (omega arith, omega arith); free = ap (slice_get files.map.owners) same ∙ is })
  owned_there at k (Some owner) there is owned free =
      free owner.0.0 owner.1 ((owns_where_stands files set places layer knows owner.0.0 owner.1 at).1 (k, owner, is, refl, refl, there))

  -- the lowest free data block is the lowest free place
  pub lowest_there : (at : ℕ) → map.IsLowestFree files.map at → IsLowestFree (area_of files.geometry) places at
  lowest_there at lowest = record {
    from = omega (arith, lowest.free.place.0, layer.from);
    below = omega (arith, lowest.free.place.1, layer.from, layer.count);
    free = free_there at lowest.free;
    lowest = λ other from below.
        let k : ℕ = other - files.map.from in
        let within : k < length files.map.owners = omega (arith, lowest.free.place.0, lowest.free.place.1, layer.from, from, below) in
        owned_there other k (get_or files.map.owners k None) (omega (arith, layer.from, from)) (slice_get-get_or files.map.owners k None within) (lowest.lowest other below);
  }

  -- a place has one owner
  owns_once : (m w n v at : ℕ) → Owns places m w at → Owns places n v at → (m ≡ n) × (w ≡ v)
  owns_once m w n v at one other =
      let first = (owns_where_stands files set places layer knows m w at).0 one in
      let second = (owns_where_stands files set places layer knows n v at).0 other in
      let same : first.0 ≡ second.0 = omega (arith, first.5, second.5) in
      let owner : first.1 ≡ second.1 = same_Some first.1 second.1 (same_Some (Some first.1) (Some second.1) (sym first.2 ∙ ap (slice_get files.map.owners) same ∙ second.2)) in (
        sym first.3 ∙ ap (λ (o : Owner). o.0.0) owner ∙ second.3,
        sym first.4 ∙ ap (λ (o : Owner). o.1) owner ∙ second.4,
      )

  -- it is that of a data block
  pub owns_data : (n v at : ℕ) → Owns places n v at → (area_from files.geometry ≤ at) × (at < total files.geometry)
  owns_data n v at owns =
      let stands = (owns_where_stands files set places layer knows n v at).0 owns in
      let within : stands.0 < length files.map.owners = slice_get_within files.map.owners stands.0 (Some stands.1) stands.2 in
      (omega (arith, stands.5, layer.from), omega (arith, stands.5, layer.from, within, layer.count))

  -- what holds of each block but one, and of that one, as it is said of files and of places
  module _ (n v : ℕ) (block : Block) (f : File) (stands : get set n ≡ Some f) where
    abbrev others : FileSet
    others = insert set n (with_block f v block)

    held_alike : (elsewhere : Places) → IsSome (place_of elsewhere n v) → ((m w : ℕ) → ¬ ((m ≡ n) × (w ≡ v)) → place_of elsewhere m w ≡ place_of places m w)
        → (m w : ℕ) (g : File) → get others m ≡ Some g → IsSome (get g.body w) ↔ IsSome (place_of elsewhere m w)
    held_alike elsewhere here same m w g is = elim (cases_both m n w v) [
      | inl both ↦
          let held : IsSome (get g.body w) =
          subst (λ (u : ℕ). IsSome (get g.body u)) (sym both.1) (ap is_some (block_here set n v block f stands g (ap (get others) (sym both.0) ∙ is))) in
          let placed : IsSome (place_of elsewhere m w) =
          subst (λ (u : ℕ). IsSome (place_of elsewhere m u)) (sym both.1) (subst (λ (k : ℕ). IsSome (place_of elsewhere k v)) (sym both.0) here) in
          (λ _. placed, λ _. held)
      | inr other ↦
          let was = block_other set n v block f stands m w g other is in
          let alike = knows.held m w was.0 was.1 in (
            λ some. subst IsSome (sym (same m w other)) (alike.0 (subst IsSome was.2 some)),
            λ some. subst IsSome (sym was.2) (alike.1 (subst IsSome (same m w other) some)),
          )
    ]

    -- a held block becomes another
    pub knows_put : IsSome (place_of places n v) → Knows files others places
    knows_put held = record {
      named = λ m. changed-alike set n v block f stands entry_for refl m ∙ knows.named m;
      placed = record {
        filed = λ m. knows.placed.filed m ∙ sym (changed-filed set n v block f stands m);
        each = λ m w p some. knows.placed.each m w p (sym (changed-filed set n v block f stands m) ∙ some);
      };
      held = held_alike places held (λ m w other. refl);
    }

-- A block that comes to be held

module _ (files : Layer) (set : FileSet) (places : Places) (layer : IsLayer files) (knows : Knows files set places) (file : FileNo) (v at : ℕ) (free : IsFreeAt files.map at) (unheld : IsUnheld files.map file.0 v) where
  abbrev now : Layer
  now = given files file v at

  abbrev elsewhere : Places
  elsewhere = with_place places file.0 v at

  at_key : at ≡ area_from files.geometry + (at - files.map.from)
  at_key = omega (arith, free.place.0, layer.from)

  -- who owns a place then
  owned_now : (m w p : ℕ) → Owns elsewhere m w p → IsOwned (area_from files.geometry) (owners_of now) m w p
  owned_now m w p owns = elim (cases_both m file.0 w v) [
    | inl both ↦
        let there : Owns elsewhere file.0 v p = subst (λ (u : ℕ). Owns elsewhere file.0 u p) both.1 (subst (λ (k : ℕ). Owns elsewhere k w p) both.0 owns) in
        let same : p ≡ at = same_Some p at (sym there ∙ place_of-with_same places file.0 v at) in (
          at - files.map.from,
          (file, v),
          still_behind now.map.owners (replicate (block_owners * map_blocks files.geometry - files.geometry.blocks) None) (at - files.map.from) (Some (file, v)) (given_here files file v at free),
          sym both.0,
          sym both.1,
          same ∙ at_key,
        )
    | inr other ↦
        let was : Owns places m w p = sym (place_of-with_other places file.0 v at m w other) ∙ owns in
        let stands = (owns_where_stands files set places layer knows m w p).0 was in (
          stands.0,
          stands.1,
          still_behind now.map.owners (replicate (block_owners * map_blocks files.geometry - files.geometry.blocks) None) stands.0 (Some stands.1) (given_stays files file v at free stands.0 stands.1 stands.2),
          stands.3,
          stands.4,
          omega (arith, stands.5, layer.from),
        )
  ]

  owns_now : (m w p : ℕ) → IsOwned (area_from files.geometry) (owners_of now) m w p → Owns elsewhere m w p
  owns_now m w p owned =
      let inside = none_behind now.map.owners (block_owners * map_blocks files.geometry - files.geometry.blocks) owned.0 owned.1 owned.2 in
      elim (given_was files file v at free owned.0 owned.1 inside) [
        | inl here ↦
            let same : p ≡ at = omega (arith, owned.5, here.0, at_key) in
            let m_is : m ≡ file.0 = sym owned.3 ∙ ap (λ (o : Owner). o.0.0) here.1 in
            let w_is : w ≡ v = sym owned.4 ∙ ap (λ (o : Owner). o.1) here.1 in
            ap (λ k. place_of elsewhere k w) m_is ∙ ap (place_of elsewhere file.0) w_is ∙ place_of-with_same places file.0 v at ∙ ap Some (sym same)
        | inr was ↦
            let stands : StandsAt files.map m w p = (owned.0, owned.1, was, owned.3, owned.4, omega (arith, owned.5, layer.from)) in
            let other : ¬ ((m ≡ file.0) × (w ≡ v)) =
            λ both. unheld p (owned.0, owned.1, was, owned.3 ∙ both.0, owned.4 ∙ both.1, stands.5) in
            place_of-with_other places file.0 v at m w other ∙ (owns_where_stands files set places layer knows m w p).1 stands
      ]

  pub knows_given : (f : File) → get set file.0 ≡ Some f → Knows now (insert set file.0 (with_block f v zero_block)) elsewhere
  knows_given f stands =
      let filed : IsSome (get places file.0) = knows.placed.filed file.0 ∙ ap is_some stands in
      record {
        named = λ m. changed-alike set file.0 v zero_block f stands entry_for refl m ∙ knows.named m;
        placed = record {
          filed = λ m. with_place-filed places file.0 v at filed m ∙ knows.placed.filed m ∙ sym (changed-filed set file.0 v zero_block f stands m);
          each = λ m w p some. (owned_now m w p, owns_now m w p);
        };
        held = held_alike files set places layer knows file.0 v zero_block f stands elsewhere (ap is_some (place_of-with_same places file.0 v at))
            (λ m w other. place_of-with_other places file.0 v at m w other);
      }

-- What the blocks show

-- more may be left out
pub shows_wider : (marks : List Bool) (left more : Left) (files : Layer) (staged : Staged) (kept : List Block) (set : FileSet) (places : Places)
    → ((m w : ℕ) → IsLeft left m w → IsLeft more m w) → ShowsBut marks left files staged kept set places → ShowsBut marks more files staged kept set places
shows_wider marks left more files staged kept set places wider shows = record {
  whole = shows.whole;
  table = shows.table;
  owned = shows.owned;
  knows = shows.knows;
  stands = λ m w p f shown. shows.stands m w p f (λ is. shown (wider m w is));
}

module _ (marks : List Bool) (left : Left) (files : Layer) (staged : Staged) (kept : List Block) (set : FileSet) (places : Places) (layer : IsLayer files) (shows : ShowsBut marks left files staged kept set places) where
  -- a data block is given to a block that is left out
  pub shows_given : (file : FileNo) (v at : ℕ) (f : File) → length marks ≡ 512 → IsFreeAt files.map at → IsUnheld files.map file.0 v → get set file.0 ≡ Some f → IsLeft left file.0 v
      → ShowsBut (marking files.geometry marks at) left (given files file v at) staged kept (insert set file.0 (with_block f v zero_block)) (with_place places file.0 v at)
  shows_given file v at f many free unheld stands is_left =
      let i : ℕ = (at - area_from files.geometry) / 128 in
      record {
        whole = shows.whole;
        table = shows.table;
        owned = λ b below unmarked.
            let apart : b ≢ i =
            λ same. unmarked (ap (slice_get (marking files.geometry marks at)) same
            ∙ slice_get-set_same marks i true (omega (arith, many, free.place.0, free.place.1, layer.from, layer.count, layer.sizes.few_blocks))) in
            shows.owned b below (λ was. unmarked (slice_get-set_other marks i b true apart ∙ was))
            ∙ sym (map_block_other files file v at free b (λ same. apart (same ∙ ap (λ from. (at - from) / 128) layer.from)));
        knows = knows_given files set places layer shows.knows file v at free unheld f stands;
        stands = λ m w p g shown is owns. elim (cases_both m file.0 w v) [
          | inl both ↦ absurd (shown (both.0 ∙ is_left.0, subst (λ (u : ℕ). left.from ≤ u) (sym both.1) is_left.1, subst (λ (u : ℕ). u < left.to) (sym both.1) is_left.2))
          | inr other ↦
              let was = block_other set file.0 v zero_block f stands m w g other is in
              was.2 ∙ shows.stands m w p was.0 shown was.1 (sym (place_of-with_other places file.0 v at m w other) ∙ owns)
        ];
      }

  -- a block is staged for the place of a block, which is not left out any more
  pub shows_staged : (less : Left) (n v at : ℕ) (block : Block) (f : File) → get set n ≡ Some f → Owns places n v at
      → ((m w : ℕ) → ¬ IsLeft less m w → ¬ ((m ≡ n) × (w ≡ v)) → ¬ IsLeft left m w)
      → ShowsBut marks less files (insert staged at block) kept (insert set n (with_block f v block)) places
  shows_staged less n v at block f stands owns still =
      let now : List Block = now_of staged kept in
      let later : List Block = now_of (insert staged at block) kept in
      let set_there : later ≡ slice_set now at block = stages_one staged kept at block in
      let among = owns_data files set places layer shows.knows n v at owns in
      let within : at < length now = omega (arith, length-laid_over (targets_of staged) (fresh_of staged) kept, shows.whole, among.1) in
      let here : slice_get later at ≡ Some block = ap (λ (l : List Block). slice_get l at) set_there ∙ slice_get-set_same now at block within in
      let elsewhere = λ (q : ℕ) (apart : q ≢ at). ap (λ (l : List Block). slice_get l q) set_there ∙ slice_get-set_other now at q block apart in
      let same_block = λ (q : ℕ) (apart : q ≢ at). ap (λ (o : Option Block). unwrap_or o zero_block) (elsewhere q apart) in
      record {
        whole = shows.whole;
        table = subst (λ (b : Block). IsTable b files.table) (sym (same_block (table_at files.geometry) (λ same. omega (arith, same, among.0)))) shows.table;
        owned = λ b below unmarked. same_block (map_at files.geometry + b) (λ same. omega (arith, same, among.0, below)) ∙ shows.owned b below unmarked;
        knows = knows_put files set places layer shows.knows n v block f stands (ap is_some owns);
        stands = λ m w p g shown is there. elim (cases_both m n w v) [
          | inl both ↦
              let same : p ≡ at = same_Some p at (sym there ∙ ap (λ k. place_of places k w) both.0 ∙ ap (place_of places n) both.1 ∙ owns) in
              ap (get g.body) both.1 ∙ block_here set n v block f stands g (ap (get (insert set n (with_block f v block))) (sym both.0) ∙ is)
              ∙ sym here ∙ ap (slice_get later) (sym same)
          | inr other ↦
              let was = block_other set n v block f stands m w g other is in
              let apart : p ≢ at = λ same. other (owns_once files set places layer shows.knows m w n v at (there ∙ ap Some same) owns) in
              was.2 ∙ shows.stands m w p was.0 (still m w shown other) was.1 there ∙ sym (elsewhere p apart)
        ];
      }
