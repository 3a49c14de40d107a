-- A file is shorter once its blocks from one on are given back.
use Rattle.std.proofs.Common.{◌≡◌, ◌↔◌, ◌⊎◌, inl, inr, ℕ, ◌+◌, ◌-◌, ◌*◌, ◌/◌, ◌<◌, ◌≤◌, ◌==◌, Bool, List, ◌++◌, Option, None, Some, IsSome, drop, length, option_map, replicate, slice_get, take, refl, sym, ap, ◌∙◌, subst, arith, length-take}
use Rattle.std.specs.Prelude.{if◌then◌else◌, is_some, nat_lt, unwrap_or}
use Rattle.std.specs.FinMap.{empty, get, get-empty, insert, retain_keys}
use Rattle.std.specs.Option.{option_and_then}
use Rattle.std.specs.Ordering.{nat_cmp}
use Rattle.std.proofs.lemmas.Bool.{cases_eq, cases_lt, false≢true}
use Rattle.std.proofs.lemmas.Option.{none-some, same_Some, slice_get_past}
use Rattle.nesc_base.specs.declared.block.Block.{Block}
use Rattle.nesc_base.specs.Block.{zero_block}
use Rattle.nesc_base.specs.Files.{File}
use Rattle.nesc_base.specs.Geometry.{area_from, block_owners, map_at, map_blocks, table_at, total}
use Rattle.nesc_base.specs.Places.{HeldAt, Owner, Owns, Places, place_of}
use Rattle.nesc_base.proofs.Differing.{same_by_places}
use Rattle.nesc_base.proofs.Maps.{get-insert_other, get-insert_same}
use Rattle.block_map.specs.Map.{HoldsNoneFrom, StandsAt}
use Rattle.file_model.specs.Files.{below}
use Rattle.file_model.specs.Places.{cut_at, held_at}
use Rattle.file_model.proofs.BelowEnd.{get-below_gone, get-below_kept}
use Rattle.slot_layout.specs.Slots.{block_at}
use Rattle.image_layout.specs.Owners.{owner_block}
use Rattle.image_layout.specs.Table.{IsTable}
use Rattle.image_layout.proofs.OneMap.{slice_get-drop}
use Rattle.image_layout.proofs.TableLemmas.{slice_get-take}
use Rattle.host_journal.specs.Journal.{Journal}
use Rattle.host_journal.specs.Staged.{now_of}
use Rattle.host_journal.proofs.Overlaid.{get-now, over}
use Rattle.file_layer.specs.Changing.{ChangesOwner, Forgets, IsOfOwners, IsShortened, Leads, Stages, map_block_of}
use Rattle.file_layer.specs.Knowing.{FileSet, Knows, entry_for}
use Rattle.file_layer.specs.Layer.{Fits, IsUsed, Layer, entry_of, owners_of}
use Rattle.file_layer.specs.Showing.{Shows}
use Rattle.file_layer.specs.Staging.{IsMarked, ShowsBut, StagesMap, map_block}
use Rattle.file_layer.specs.TakingBack.{GivesBack, IsGiven}
use Rattle.file_layer.proofs.Known.{owns_where_stands}
use Rattle.file_layer.proofs.OwnersStanding.{alike_with_more, placed_as_stands}
use Rattle.file_layer.proofs.NothingLeft.{none_left, nothing}
use Rattle.file_layer.proofs.Shown.{shows_ends}

-- where the blocks of a file stand, or of one that is not there
get-held_at : (o : Option HeldAt) (v : ℕ) → get (unwrap_or o empty) v ≡ option_and_then (λ (held : HeldAt). get held v) o
get-held_at None v = get-empty {X = ℕ} nat_cmp v
get-held_at (Some held) v = refl

-- a file is there that has an entry
there_if_named : (o : Option File) → IsSome (option_map entry_for o) → (file : File) × (o ≡ Some file)
there_if_named None some = absurd (false≢true some)
there_if_named (Some file) some = (file, refl)

pub file_if_used : (files : Layer) (set : FileSet) (places : Places) (n : ℕ) → Knows files set places → IsUsed files n → (file : File) × (get set n ≡ Some file)
file_if_used files set places n knows used = there_if_named (get set n) (subst IsSome (sym (knows.named n)) used)

-- The file without its blocks from an end on

-- the block is not cut off
abbrev IsKept : ℕ → ℕ → ℕ → ℕ → Type 0
IsKept n end m w = m ≡ n → w < end

kept_or_cut : (n end m w : ℕ) → IsKept n end m w ⊎ ((m ≡ n) × (end ≤ w))
kept_or_cut n end m w = elim (cases_lt w end) [
  | inl less ↦ inl (λ same. less)
  | inr past ↦ elim (cases_eq m n) [ inl same ↦ inr (same, past) | inr apart ↦ inl (λ same. absurd (apart same)) ]
]

module _ (n end : ℕ) (set : FileSet) (places : Places) (file : File) (there : get set n ≡ Some file) where
  abbrev cut : File
  cut = record file { body = below end file.body }

  abbrev others : FileSet
  others = insert set n cut

  abbrev elsewhere : Places
  elsewhere = cut_at places n end

  place_there : (w : ℕ) → place_of elsewhere n w ≡ get (retain_keys (held_at places n) (λ v. nat_lt v end)) w
  place_there w = ap (option_and_then (λ (held : HeldAt). get held w)) (get-insert_same places n (retain_keys (held_at places n) (λ v. nat_lt v end)))

  place_kept : (m w : ℕ) → IsKept n end m w → place_of elsewhere m w ≡ place_of places m w
  place_kept m w kept = elim (cases_eq m n) [
    | inl same ↦
        let here : place_of elsewhere n w ≡ place_of places n w = place_there w ∙ get-below_kept (held_at places n) end w (kept same) ∙ get-held_at (get places n) w in
        subst (λ q. place_of elsewhere q w ≡ place_of places q w) (sym same) here
    | inr apart ↦ ap (option_and_then (λ (held : HeldAt). get held w)) (get-insert_other places n (retain_keys (held_at places n) (λ v. nat_lt v end)) m apart)
  ]

  place_gone : (m w : ℕ) → m ≡ n → end ≤ w → place_of elsewhere m w ≡ None
  place_gone m w same past = ap (λ q. place_of elsewhere q w) same ∙ place_there w ∙ get-below_gone (held_at places n) end w past

  body_kept : (m w : ℕ) (f : File) → get others m ≡ Some f → IsKept n end m w → (g : File) × (get set m ≡ Some g) × (get f.body w ≡ get g.body w)
  body_kept m w f is kept = elim (cases_eq m n) [
    | inl same ↦
        let here : cut ≡ f = same_Some cut f (sym (ap (get others) same ∙ get-insert_same set n cut) ∙ is) in
        (file, ap (get set) same ∙ there, sym (ap (λ (x : File). get x.body w) here) ∙ get-below_kept file.body end w (kept same))
    | inr apart ↦ (f, sym (get-insert_other set n cut m apart) ∙ is, refl)
  ]

  body_gone : (m w : ℕ) (f : File) → get others m ≡ Some f → m ≡ n → end ≤ w → get f.body w ≡ None
  body_gone m w f is same past =
      let here : cut ≡ f = same_Some cut f (sym (ap (get others) same ∙ get-insert_same set n cut) ∙ is) in
      sym (ap (λ (x : File). get x.body w) here) ∙ get-below_gone file.body end w past

  named_alike : (m : ℕ) → option_map entry_for (get others m) ≡ option_map entry_for (get set m)
  named_alike m = elim (cases_eq m n) [
    | inl same ↦
        ap (λ q. option_map entry_for (get others q)) same ∙ ap (option_map entry_for) (get-insert_same set n cut)
        ∙ sym (ap (λ q. option_map entry_for (get set q)) same ∙ ap (option_map entry_for) there)
    | inr apart ↦ ap (option_map entry_for) (get-insert_other set n cut m apart)
  ]

  filed_alike : ((m : ℕ) → is_some (get places m) ≡ is_some (get set m)) → (m : ℕ) → is_some (get elsewhere m) ≡ is_some (get others m)
  filed_alike filed m = elim (cases_eq m n) [
    | inl same ↦
        ap (λ q. is_some (get elsewhere q)) same ∙ ap is_some (get-insert_same places n (retain_keys (held_at places n) (λ v. nat_lt v end)))
        ∙ sym (ap (λ q. is_some (get others q)) same ∙ ap is_some (get-insert_same set n cut))
    | inr apart ↦
        ap is_some (get-insert_other places n (retain_keys (held_at places n) (λ v. nat_lt v end)) m apart) ∙ filed m
        ∙ sym (ap is_some (get-insert_other set n cut m apart))
  ]

  shortened : IsShortened n end set places others elsewhere
  shortened = record { file = file; stands = there; result = refl; cut = refl }

-- the same entries
entry_alike : (old new : Layer) → new.table ≡ old.table → (m : ℕ) → entry_of old m ≡ entry_of new m
entry_alike old new same m = ap (λ table. if m == 0 then None else unwrap_or (slice_get table (m - 1)) None) (sym same)

module _ (n end : ℕ) (old new : Layer) (before after last : Journal) (marks : List Bool) (fits : Fits old before) (fits_new : Fits new after) (used : IsUsed old n)
    (gives : GivesBack n end old before new after marks) (gone : HoldsNoneFrom new.map n end) where
  -- what stands now stood before, and was not cut off
  stood : (m w at : ℕ) → StandsAt new.map m w at → StandsAt old.map m w at × IsKept n end m w
  stood m w at stands =
      let was : slice_get old.map.owners stands.0 ≡ Some (Some stands.1) = elim (gives.each stands.0) [
        | inl same ↦ sym same ∙ stands.2
        | inr given ↦ absurd (none-some stands.1 (same_Some None (Some stands.1) (sym given.free ∙ stands.2)))
      ] in
      let from = gives.same_from in
      let place = stands.5 in
      let kept : IsKept n end m w = λ same. elim (cases_lt w end) [
        | inl less ↦ less
        | inr past ↦ absurd (gone w past at (subst (λ q. StandsAt new.map q w at) same stands))
      ] in
      ((stands.0, stands.1, was, stands.3, stands.4, omega (arith, place, from)), kept)

  -- a data block that was given back was one that is cut off
  cut_if_given : (k m w : ℕ) (owner : Owner) → IsGiven n end old.map.owners new.map.owners marks k → slice_get old.map.owners k ≡ Some (Some owner) → owner.0.0 ≡ m → owner.1 ≡ w
      → ¬ IsKept n end m w
  cut_if_given k m w owner given had file block kept =
      let one : given.owner ≡ owner = same_Some given.owner owner (same_Some (Some given.owner) (Some owner) (sym given.had ∙ had)) in
      let of : m ≡ n = sym file ∙ sym (ap (λ (o : Owner). o.0.0) one) ∙ given.file in
      let past = given.past in
      let same : given.owner.1 ≡ owner.1 = ap (λ (o : Owner). o.1) one in
      omega (arith, past, same, block, kept of)

  -- and what was not cut off stands still
  still : (m w at : ℕ) → StandsAt old.map m w at → IsKept n end m w → StandsAt new.map m w at
  still m w at stands kept =
      let is : slice_get new.map.owners stands.0 ≡ Some (Some stands.1) = elim (gives.each stands.0) [
        | inl same ↦ same ∙ stands.2
        | inr given ↦ absurd (cut_if_given stands.0 m w stands.1 given stands.2 stands.3 stands.4 kept)
      ] in
      let from = gives.same_from in
      let place = stands.5 in
      (stands.0, stands.1, is, stands.3, stands.4, omega (arith, place, from))

  module _ (set : FileSet) (places : Places) (knows : Knows old set places) (file : File) (there : get set n ≡ Some file) where
    owns_now : (m w at : ℕ) → Owns (elsewhere n end set places file there) m w at → Owns places m w at × IsKept n end m w
    owns_now m w at owns = elim (kept_or_cut n end m w) [
      | inl kept ↦ (sym (place_kept n end set places file there m w kept) ∙ owns, kept)
      | inr cut ↦ absurd (none-some at (sym (place_gone n end set places file there m w cut.0 cut.1) ∙ owns))
    ]

    owns_as_stands : (m w at : ℕ) → Owns (elsewhere n end set places file there) m w at ↔ StandsAt new.map m w at
    owns_as_stands m w at = (
      λ owns. let was = owns_now m w at owns in still m w at ((owns_where_stands old set places fits.layer knows m w at).0 was.0) was.1,
      λ stands.
          let was = stood m w at stands in
          place_kept n end set places file there m w was.1 ∙ (owns_where_stands old set places fits.layer knows m w at).1 was.0,
    )

    held_now : (m w : ℕ) (f : File) → get (others n end set places file there) m ≡ Some f → IsSome (get f.body w) ↔ IsSome (place_of (elsewhere n end set places file there) m w)
    held_now m w f is = elim (kept_or_cut n end m w) [
      | inl kept ↦
          let was = body_kept n end set places file there m w f is kept in
          let as_before = knows.held m w was.0 was.1 in
          let place = place_kept n end set places file there m w kept in (
            λ some. subst IsSome (sym place) (as_before.0 (subst IsSome was.2 some)),
            λ some. subst IsSome (sym was.2) (as_before.1 (subst IsSome place some)),
          )
      | inr cut ↦ (
        λ some. absurd (false≢true (subst IsSome (body_gone n end set places file there m w f is cut.0 cut.1) some)),
        λ some. absurd (false≢true (subst IsSome (place_gone n end set places file there m w cut.0 cut.1) some)),
      )
    ]

    knows_now : Knows new (others n end set places file there) (elsewhere n end set places file there)
    knows_now = record {
      named = λ m. named_alike n end set places file there m ∙ knows.named m ∙ entry_alike old new gives.same_table m;
      placed = placed_as_stands new (others n end set places file there) (elsewhere n end set places file there) fits_new.layer.from
          (filed_alike n end set places file there knows.placed.filed)
          (λ m w at some. owns_as_stands m w at);
      held = held_now;
    }

  pub knows_shortened : (set : FileSet) (places : Places) → Knows old set places → (others : FileSet) × (elsewhere : Places) × IsShortened n end set places others elsewhere × Knows new others elsewhere
  knows_shortened set places knows =
      let file = file_if_used old set places n knows used in
      (others n end set places file.0 file.1, elsewhere n end set places file.0 file.1, shortened n end set places file.0 file.1, knows_now set places knows file.0 file.1)

  -- What the blocks say

  -- outside the data blocks nothing changes
  unstaged : (at : ℕ) → at < area_from old.geometry → get after.staged at ≡ get before.staged at
  unstaged at low = elim (gives.staged at) [
    | inl same ↦ same
    | inr given ↦ let place = given.1 in let from = fits.layer.from in absurd (omega (arith, low, place, from))
  ]

  module _ (kept : List Block) where
    now_as_before : (at : ℕ) → get after.staged at ≡ get before.staged at → slice_get (now_of after.staged kept) at ≡ slice_get (now_of before.staged kept) at
    now_as_before at same = get-now after.staged kept at ∙ ap (λ o. over o (slice_get kept at)) same ∙ sym (get-now before.staged kept at)

    block_as_before : (at : ℕ) → at < area_from old.geometry → block_at (now_of after.staged kept) at ≡ block_at (now_of before.staged kept) at
    block_as_before at low = ap (λ o. unwrap_or o zero_block) (now_as_before at (unstaged at low))

  -- the owners of a map block that is not marked are the same
  owner_alike : (k : ℕ) → ¬ IsMarked marks (k / block_owners) → slice_get (owners_of new) k ≡ slice_get (owners_of old) k
  owner_alike k unmarked =
      let more : ℕ → List (Option Owner) = λ m. replicate m None in
      let same : slice_get new.map.owners k ≡ slice_get old.map.owners k = elim (gives.each k) [ inl as_before ↦ as_before | inr given ↦ absurd (unmarked given.marked) ] in
      let long : length new.map.owners ≡ length old.map.owners = fits_new.layer.count ∙ ap (λ g. g.blocks) gives.same_geometry ∙ sym fits.layer.count in
      ap (λ g. slice_get (new.map.owners ++ more (block_owners * map_blocks g - g.blocks)) k) gives.same_geometry
      ∙ alike_with_more new.map.owners old.map.owners (more (block_owners * map_blocks old.geometry - old.geometry.blocks)) k long same

  owners_alike : (b : ℕ) → ¬ IsMarked marks b → take block_owners (drop (block_owners * b) (owners_of new)) ≡ take block_owners (drop (block_owners * b) (owners_of old))
  owners_alike b unmarked =
      let front : List (Option Owner) → List (Option Owner) = λ owners. take block_owners (drop (block_owners * b) owners) in
      same_by_places (front (owners_of new)) (front (owners_of old)) (λ i. elim (cases_lt i 128) [
        | inl less ↦
            let within : (128 * b + i) / 128 ≡ b = omega arith in
            slice_get-take (drop (128 * b) (owners_of new)) 128 i less ∙ slice_get-drop (128 * b) (owners_of new) i
            ∙ owner_alike (128 * b + i) (λ marked. unmarked (subst (IsMarked marks) within marked))
            ∙ sym (slice_get-take (drop (128 * b) (owners_of old)) 128 i less ∙ slice_get-drop (128 * b) (owners_of old) i)
        | inr past ↦
            slice_get_past (front (owners_of new)) i (omega (arith, past, length-take 128 (drop (128 * b) (owners_of new))))
            ∙ sym (slice_get_past (front (owners_of old)) i (omega (arith, past, length-take 128 (drop (128 * b) (owners_of old)))))
      ])

  module _ (kept : List Block) (set : FileSet) (places : Places) (shows : Shows old before.staged kept set places) (file : File) (there : get set n ≡ Some file) where
    table_now : IsTable (block_at (now_of after.staged kept) (table_at new.geometry)) new.table
    table_now =
        let before_it : IsTable (block_at (now_of after.staged kept) (table_at old.geometry)) old.table =
        subst (λ (block : Block). IsTable block old.table) (sym (block_as_before kept (table_at old.geometry) (omega arith))) shows.parts.table in
        subst (λ g. IsTable (block_at (now_of after.staged kept) (table_at g)) new.table) (sym gives.same_geometry)
        (subst (λ table. IsTable (block_at (now_of after.staged kept) (table_at old.geometry)) table) (sym gives.same_table) before_it)

    owned_now : (b : ℕ) → b < map_blocks old.geometry → ¬ IsMarked marks b → block_at (now_of after.staged kept) (map_at old.geometry + b) ≡ map_block new b
    owned_now b low unmarked =
        block_as_before kept (map_at old.geometry + b) (omega (arith, low)) ∙ (shows.parts.owned.each b low).spelling ∙ ap owner_block (sym (owners_alike b unmarked))

    stands_now : (m w at : ℕ) (f : File) → get (others n end set places file there) m ≡ Some f → Owns (elsewhere n end set places file there) m w at
        → get f.body w ≡ slice_get (now_of after.staged kept) at
    stands_now m w at f is owns =
        let was = owns_now set places shows.knows file there m w at owns in
        let held = body_kept n end set places file there m w f is was.1 in
        let stands = (owns_where_stands old set places fits.layer shows.knows m w at).0 was.0 in
        let same : get after.staged at ≡ get before.staged at = elim (gives.staged at) [
          | inl as_before ↦ as_before
          | inr given ↦
              let place = given.1 in
              let other = stands.5 in
              let one : given.0 ≡ stands.0 = omega (arith, place, other) in
              absurd (cut_if_given stands.0 m w stands.1 (subst (IsGiven n end old.map.owners new.map.owners marks) one given.2) stands.2 stands.3 stands.4 was.1)
        ] in
        held.2 ∙ shows.stands m w at held.0 held.1 was.0 ∙ sym (now_as_before kept at same)

    shows_but : ShowsBut marks nothing new after.staged kept (others n end set places file there) (elsewhere n end set places file there)
    shows_but = record {
      whole = subst (λ g. total g ≤ length kept) (sym gives.same_geometry) shows.whole;
      table = table_now;
      owned = subst (λ g. (b : ℕ) → b < map_blocks g → ¬ IsMarked marks b → block_at (now_of after.staged kept) (map_at g + b) ≡ map_block new b) (sym gives.same_geometry) owned_now;
      knows = knows_now set places shows.knows file there;
      stands = λ m w at f left is owns. stands_now m w at f is owns;
    }

  pub leads_shortened : StagesMap new marks after last → Leads (IsShortened n end) old before new last
  leads_shortened stages kept set places shows =
      let file = file_if_used old set places n shows.knows used in (
        others n end set places file.0 file.1,
        elsewhere n end set places file.0 file.1,
        shortened n end set places file.0 file.1,
        shows_ends marks nothing new after last kept (others n end set places file.0 file.1) (elsewhere n end set places file.0 file.1) fits_new none_left
            (shows_but kept set places shows file.0 file.1) stages,
      )

  -- a data block that was given back changes its owner
  changes_owner : (k : ℕ) → IsGiven n end old.map.owners new.map.owners marks k → ChangesOwner old.map new.map (old.map.from + k)
  changes_owner k given same =
      let from = gives.same_from in
      let here : (old.map.from + k) - old.map.from ≡ k = omega arith in
      let there : (old.map.from + k) - new.map.from ≡ k = omega (arith, from) in
      none-some given.owner (same_Some None (Some given.owner) (sym given.free ∙ sym (ap (slice_get new.map.owners) there) ∙ sym same ∙ ap (slice_get old.map.owners) here ∙ given.had))

  pub stages_shortened : StagesMap new marks after last → Stages (IsOfOwners old.geometry old.map new.map) 0 before last
  stages_shortened stages = record {
    counted = omega (arith, stages.counted, gives.counted);
    others = λ at apart.
        let from = fits.layer.from in
        let in_map : get last.staged at ≡ get after.staged at = stages.others at (λ b low marked same.
        let given = gives.marked b marked in
        let here : map_block_of old.geometry (old.map.from + given.0) ≡ map_at old.geometry + b =
        let index : ((old.map.from + given.0) - area_from old.geometry) ≡ given.0 = omega (arith, from) in
        ap (λ k. map_at old.geometry + k / block_owners) index ∙ ap (λ k. map_at old.geometry + k) given.1 in
        let place : at ≡ map_block_of old.geometry (old.map.from + given.0) = same ∙ ap (λ g. map_at g + b) gives.same_geometry ∙ sym here in
        apart (old.map.from + given.0, omega (arith, from), changes_owner given.0 given.2, inr place)) in
        in_map ∙ elim (gives.staged at) [
          | inl same ↦ same
          | inr given ↦ absurd (apart (old.map.from + given.0, omega (arith, from), changes_owner given.0 given.2, inl given.1))
        ];
  }

  -- for what was given back nothing is staged, for only map blocks are staged behind it
  pub forgets_shortened : StagesMap new marks after last → Forgets old.map new.map last
  forgets_shortened stages at changed free =
      let from = gives.same_from in
      let begins = fits_new.layer.from in
      let low = free.place.0 in
      let here : at - new.map.from ≡ at - old.map.from = omega (arith, from) in
      let place : old.map.from + (at - old.map.from) ≡ at = omega (arith, from, low) in
      elim (gives.each (at - old.map.from)) [
        | inl same ↦ absurd (changed (sym (ap (slice_get new.map.owners) here ∙ same)))
        | inr given ↦
            stages.others at (λ b few marked same. omega (arith, same, few, low, begins))
            ∙ ap (get after.staged) (sym place) ∙ gives.forgot (at - old.map.from) given
      ]
