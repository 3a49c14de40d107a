-- The end of a change: the map blocks that are marked are staged.
use Rattle.std.proofs.Common.{◌≡◌, inl, inr, ◌⊎◌, ℕ, ◌+◌, ◌-◌, ◌≤◌, Bool, List, length, min, take, Option, Some, option_map, refl, sym, ap, ◌∙◌, subst, arith}
use Rattle.nesc_base.specs.declared.block.Block.{Block}
use Rattle.nesc_base.specs.Geometry.{map_at}
use Rattle.nesc_base.specs.Files.{file_at}
use Rattle.std.specs.FinMap.{get}
use Rattle.std.proofs.lemmas.List.{take_all}
use Rattle.block_map.specs.Map.{count_free}
use Rattle.host_journal.specs.Journal.{Journal}
use Rattle.file_model.specs.Files.{LeadsTo, holding, free, puts_from, unheld, unheld_below}
use Rattle.file_model.specs.Places.{Gives}
use Rattle.file_model.proofs.Writing.{leads_then}
use Rattle.file_layer.specs.Changing.{AreFilled, AreHeld, AreMapped, ArePut, GoesOn, IsOfBlocks, IsOfOwners, Leads, Stages}
use Rattle.file_layer.specs.Filling.{FillsBut, Grows, IsGiven, PutsBut, left_of, nothing_left}
use Rattle.file_layer.specs.Layer.{Fits, IsLayer, Layer, HasRoomFor, area_of, entry_of, lacking, lacking_below}
use Rattle.file_layer.specs.Staging.{IsLeft, StagesMap}
use Rattle.file_layer.proofs.Known.{free_alike, unheld_alike, unheld_below_alike}
use Rattle.file_layer.proofs.Lacking.{lacking_to}
use Rattle.file_layer.specs.Knowing.{FileSet, Knows}
use Rattle.image_layout.specs.declared.table.TableEntry.{TableEntry}
use Rattle.nesc_base.specs.Places.{Places}
use Rattle.std.specs.Prelude.{unwrap_or}
use Rattle.file_layer.proofs.Shown.{shows_ends}

-- the files and the journal are still of one image
pub fits_still : (count : ℕ) (marks : List Bool) (old new : Layer) (before after : Journal) → Fits old before → Grows count marks old new → GoesOn before after → Fits new after
fits_still count marks old new before after fits grows goes = record {
  layer = grows.layer;
  sound = goes.sound;
  same = goes.same_geometry ∙ fits.same ∙ sym grows.geometry;
}

pub goes_on : (before between after : Journal) → GoesOn before between → GoesOn between after → GoesOn before after
goes_on before between after first second = record {
  sound = second.sound;
  same_geometry = second.same_geometry ∙ first.same_geometry;
  same_start = second.same_start ∙ first.same_start;
}

-- What is staged

-- a map block that is marked has an owner that changed
of_owners : (count : ℕ) (marks : List Bool) (old new : Layer) (before after : Journal) → Grows count marks old new → StagesMap new marks before after → (q : ℕ) → ¬ IsOfOwners old.geometry old.map new.map q
    → get after.staged q ≡ get before.staged q
of_owners count marks old new before after grows stages q other = stages.others q (λ b below marked same.
    let given = grows.marked b marked in
    other (given.0, given.1.0, given.1.1, inr (same ∙ ap (λ g. map_at g + b) grows.geometry ∙ ap (λ k. map_at old.geometry + k) given.2)))

pub stages_ends : (count : ℕ) (marks : List Bool) (old new : Layer) (before between after : Journal) → Grows count marks old new → Stages (IsGiven old.geometry old.map new.map) count before between
    → StagesMap new marks between after → Stages (IsOfOwners old.geometry old.map new.map) count before after
stages_ends count marks old new before between after grows data_blocks map_blocks = record {
  counted = map_blocks.counted ∙ data_blocks.counted;
  others = λ q other. of_owners count marks old new between after grows map_blocks q other ∙ data_blocks.others q (λ given. other (q, given.0, given.1, inl refl));
}

pub stages_put : (held count n v : ℕ) (marks : List Bool) (old new : Layer) (before between after : Journal) → Grows held marks old new → Stages (IsOfBlocks new.map n v count) count before between
    → StagesMap new marks between after → Stages (λ at. IsOfOwners old.geometry old.map new.map at ⊎ IsOfBlocks new.map n v count at) count before after
stages_put held count n v marks old new before between after grows data_blocks map_blocks = record {
  counted = map_blocks.counted ∙ data_blocks.counted;
  others = λ q other. of_owners held marks old new between after grows map_blocks q (λ owner. other (inl owner)) ∙ data_blocks.others q (λ block. other (inr block));
}

-- What is shown

nothing_is_left : (n v : ℕ) → ¬ IsLeft nothing_left n v
nothing_is_left n v left = omega (arith, left.2)

pub leads_filled : (n : ℕ) (blocks : List ℕ) (marks : List Bool) (old new : Layer) (before between after : Journal) → Fits new between → FillsBut n blocks marks nothing_left old before.staged new between.staged
    → StagesMap new marks between after → Leads (AreFilled (area_of old.geometry) n blocks) old before new after
leads_filled n blocks marks old new before between after fits fills map_blocks kept set places shows =
    let (others, elsewhere, filled, shown) = fills kept set places shows in
    (others, elsewhere, filled, shows_ends marks nothing_left new between after kept others elsewhere fits nothing_is_left shown map_blocks)

none_is_left : (n end m w : ℕ) → ¬ IsLeft (left_of n end end) m w
none_is_left n end m w left = omega (arith, left.1, left.2)

pub leads_put : (n v : ℕ) (blocks : List Block) (marks : List Bool) (old new : Layer) (before between after : Journal) → IsLayer old → Fits new between
    → FillsBut n (lacking old n v (v + length blocks - v)) marks (left_of n v (v + length blocks)) old before.staged new before.staged
    → PutsBut marks n v blocks new before.staged between.staged → StagesMap new marks between after → Leads (ArePut (area_of old.geometry) n v blocks) old before new after
leads_put n v blocks marks old new before between after layer fits fills puts map_blocks kept set places shows =
    let (mid, elsewhere, filled, shown) = fills kept set places shows in
    let (others, written, so) = puts kept mid elsewhere shown in
    let as_many : v + length blocks - v ≡ length blocks = omega arith in
    let same : lacking old n v (v + length blocks - v) ≡ unheld (file_at set n) v (length blocks) =
    ap (lacking old n v) as_many ∙ sym (unheld_alike old set places layer shows.knows n v (length blocks)) in (
      others,
      elsewhere,
      record {
        leads = leads_then set (holding n (unheld (file_at set n) v (length blocks))) (puts_from n v blocks) mid others
            (subst (λ (bs : List ℕ). LeadsTo set (holding n bs) mid) same filled.leads) written;
        gives = subst (λ (bs : List ℕ). Gives (area_of old.geometry) places n bs elsewhere) same filled.gives;
      },
      shows_ends marks (left_of n (v + length blocks) (v + length blocks)) new between after kept others elsewhere fits (none_is_left n (v + length blocks)) so map_blocks,
    )

-- All that are lacking

-- as many come to be held as are needed
pub all_needed : (files : Layer) (n v count result needed : ℕ) → HasRoomFor files n v count → needed ≡ length (lacking files n v count)
    → result ≡ min (length (lacking files n v (v + count - v))) (count_free files.map.owners) → result ≡ needed
all_needed files n v count result needed takes is held =
    let as_many : v + count - v ≡ count = omega arith in
    let same = ap (λ w. length (lacking files n v w)) as_many in
    let enough = takes.enough in
    omega (arith, same, enough, is, held)

pub leads_mapped : (n v count result needed : ℕ) (old new : Layer) (before after : Journal) → IsLayer old → result ≡ needed → needed ≡ length (lacking old n v count)
    → Leads (AreFilled (area_of old.geometry) n (take result (lacking old n v (v + count - v)))) old before new after → Leads (AreMapped (area_of old.geometry) n v count) old before new after
leads_mapped n v count result needed old new before after layer all is leads kept set places shows =
    let (others, elsewhere, filled, shown) = leads kept set places shows in
    let as_many : v + count - v ≡ count = omega arith in
    let same : take result (lacking old n v (v + count - v)) ≡ unheld (file_at set n) v count =
    ap (λ w. take result (lacking old n v w)) as_many ∙ take_all result (lacking old n v count) (omega (arith, all, is)) ∙ sym (unheld_alike old set places layer shows.knows n v count) in
    (others, elsewhere, subst (λ (bs : List ℕ). AreFilled (area_of old.geometry) n bs set places others elsewhere) same filled, shown)

-- Those below the length

-- up to where blocks come to be held
pub end_at : (files : Layer) (n : ℕ) (entry : TableEntry) (length : Option ℕ) (until end held : ℕ) → entry_of files n ≡ Some entry → length ≡ option_map (λ (e : TableEntry). e.length) (entry_of files n)
    → held ≡ unwrap_or length 0 → end ≡ min until held → end ≡ min until entry.length
end_at files n entry length until end held used length_is held_is is =
    let same : held ≡ entry.length = held_is ∙ ap (λ o. unwrap_or o 0) (length_is ∙ ap (option_map (λ (e : TableEntry). e.length)) used) in
    is ∙ ap (min until) same

module _ (files : Layer) (n v count end : ℕ) (entry : TableEntry) (used : entry_of files n ≡ Some entry) (is : end ≡ min (v + count) entry.length) where
  pub room_below : (staged slack : ℕ) → staged + min (length (lacking_below files n entry.length v count)) (count_free files.map.owners) ≤ slack
      → staged + min (length (lacking files n v (end - v))) (count_free files.map.owners) ≤ slack
  room_below staged slack room =
      let same = ap length (lacking_to files n v count entry.length end is) in
      omega (arith, same, room)

  pub count_held : (result : ℕ) (set : FileSet) (places : Places) → IsLayer files → Knows files set places → result ≡ min (length (lacking files n v (end - v))) (count_free files.map.owners)
      → result ≡ min (length (unheld_below (file_at set n) v count)) (free files.geometry.blocks set)
  count_held result set places layer knows counted =
      let same = ap length (lacking_to files n v count entry.length end is ∙ sym (unheld_below_alike files set places layer knows n v count entry used)) in
      let as_many = free_alike files set places layer knows in
      omega (arith, counted, same, as_many)

  pub leads_held : (result : ℕ) (new : Layer) (before after : Journal) → IsLayer files → Leads (AreFilled (area_of files.geometry) n (take result (lacking files n v (end - v)))) files before new after
      → Leads (AreHeld (area_of files.geometry) n v count result) files before new after
  leads_held result new before after layer leads kept set places shows =
      let (others, elsewhere, filled, shown) = leads kept set places shows in
      let same : take result (lacking files n v (end - v)) ≡ take result (unheld_below (file_at set n) v count) =
      ap (take result) (lacking_to files n v count entry.length end is ∙ sym (unheld_below_alike files set places layer shows.knows n v count entry used)) in
      (others, elsewhere, subst (λ (bs : List ℕ). AreFilled (area_of files.geometry) n bs set places others elsewhere) same filled, shown)
