-- Where the block for each place stands, while slots are laid over an image one after another.
use Rattle.std.proofs.Common.{◌≡◌, ◌≢◌, ℕ, zero, suc, ◌+◌, ◌-◌, ◌<◌, ◌≤◌, inl, inr, List, [], ◌∷◌, ◌++◌, Some, length, drop, get_or, slice_get, take, refl, sym, ap, ◌∙◌, subst, arith}
use Rattle.std.specs.Prelude.{slice_index, slice_set}
use Rattle.std.proofs.lemmas.Bool.{cases_eq}
use Rattle.std.proofs.lemmas.List.{get_or-set_other, get_or-set_same, take_at}
use Rattle.std.proofs.lemmas.Option.{none-some, same_Some, slice_get-get_or, slice_get_within}
use Rattle.nesc_base.specs.declared.block.Block.{Block}
use Rattle.nesc_base.specs.declared.geometry.Geometry.{Geometry}
use Rattle.nesc_base.specs.Block.{zero_block}
use Rattle.nesc_base.specs.Geometry.{list_blocks, slot_room, table_at, total}
use Rattle.nesc_base.proofs.Differing.{slice_get-set_other, slice_get-set_same}
use Rattle.slot_layout.specs.Slots.{AreOpen, LacksList, LaidOver, laid_over, list_at, list_of, slot_data}
use Rattle.slot_layout.specs.Targets.{AreTargets, IsListOf}
use Rattle.slot_layout.proofs.Alike.{length-LaidOver, length-laid_over, slice_get-blocks_from, slot_below}
use Rattle.slot_layout.proofs.SlotLemmas.{LaidOver-more}
use Rattle.host_journal.specs.Replays.{IsTarget}
use Rattle.host_journal.specs.Replaying.{AreLaid, AreLow, AreSources}
use Rattle.host_journal.proofs.Torn.{all_at}

-- Lists of targets

-- a target is a place from the table on
pub target_from : (geometry : Geometry) (targets : List ℕ) (i at : ℕ) → AreTargets geometry targets → slice_get targets i ≡ Some at → table_at geometry ≤ at
target_from geometry targets i at good is = all_at (λ a. table_at geometry ≤ a) targets i at good.from is

pub target_below : (geometry : Geometry) (targets : List ℕ) (i at : ℕ) → AreTargets geometry targets → slice_get targets i ≡ Some at → at < total geometry
target_below geometry targets i at good is = all_at (λ a. a < total geometry) targets i at good.below is

-- one more block is put where its target says
laid_over_more : (targets : List ℕ) (blocks image : List Block) (i target : ℕ) (block : Block) → slice_get targets i ≡ Some target → slice_get blocks i ≡ Some block
    → laid_over (take (suc i) targets) blocks image ≡ slice_set (laid_over (take i targets) blocks image) target block
laid_over_more [] blocks image i target block is there = absurd (none-some target is)
laid_over_more (t ∷ targets) [] image i target block is there = absurd (none-some block there)
laid_over_more (t ∷ targets) (b ∷ blocks) image zero target block is there =
    ap (λ a. slice_set image a b) (same_Some t target is) ∙ ap (slice_set image target) (same_Some b block there)
laid_over_more (t ∷ targets) (b ∷ blocks) image (suc i) target block is there = laid_over_more targets blocks (slice_set image t b) i target block is there

-- what is written over all of a vector is all that it has
pub take-written : {X : Type 0} (written before : List X) (n : ℕ) → length written ≡ length before → n ≡ length before → take n (written ++ drop (length written) before) ≡ written
take-written written before n same all = take_at written (drop (length written) before) n (omega arith)

-- One more target

-- its block is put into the laid image, and where it stands is told
sources_set : (geometry : Geometry) (image laid : List Block) (sources : List ℕ) (target source : ℕ) (block : Block) → AreSources geometry image laid sources
    → table_at geometry ≤ target → target < total geometry → length sources ≡ total geometry - table_at geometry → total geometry ≤ length laid
    → 1 ≤ source → slice_get image source ≡ Some block → IsTarget geometry image target
    → AreSources geometry image (slice_set laid target block) (slice_set sources (target - table_at geometry) source)
sources_set geometry image laid sources target source block stand from below long enough some there named =
    let at : ℕ = target - table_at geometry in
    let put : slice_index (slice_set sources at source) at ≡ source = get_or-set_same sources at source 0 (omega arith) in
    let back : table_at geometry + at ≡ target = omega arith in
    let laid_there : slice_get (slice_set laid target block) (table_at geometry + at) ≡ Some block = ap (slice_get (slice_set laid target block)) back ∙ slice_get-set_same laid target block (omega arith) in
    let kept : (i : ℕ) → i ≢ at → slice_index (slice_set sources at source) i ≡ slice_index sources i = λ i apart. get_or-set_other sources at i source 0 apart in
    let laid_else : (i : ℕ) → i ≢ at → slice_get (slice_set laid target block) (table_at geometry + i) ≡ slice_get laid (table_at geometry + i) =
    λ i apart. slice_get-set_other laid target (table_at geometry + i) block (λ same. apart (omega (arith, same))) in
    record {
      home = λ i none. elim (cases_eq i at) [
        | inl same ↦ absurd (omega (arith, some, sym put ∙ ap (slice_index (slice_set sources at source)) (sym same) ∙ none))
        | inr apart ↦ laid_else i apart ∙ stand.home i (sym (kept i apart) ∙ none)
      ];
      slots = λ i is. elim (cases_eq i at) [
        | inl same ↦
            let reads : slice_index (slice_set sources at source) i ≡ source = ap (slice_index (slice_set sources at source)) same ∙ put in
            ap (λ j. slice_get (slice_set laid target block) (table_at geometry + j)) same ∙ laid_there ∙ sym there ∙ ap (slice_get image) (sym reads)
        | inr apart ↦ laid_else i apart ∙ stand.slots i (omega (arith, is, kept i apart)) ∙ ap (slice_get image) (sym (kept i apart))
      ];
      named = λ i is. elim (cases_eq i at) [
        | inl same ↦ subst (IsTarget geometry image) (sym (ap (λ j. table_at geometry + j) same ∙ back)) named
        | inr apart ↦ stand.named i (omega (arith, is, kept i apart))
      ];
    }

-- the first i targets of slot k are told, whatever image has their list
abbrev pub AreTaken : Geometry → ℕ → List ℕ → ℕ → List ℕ → List ℕ → Type 0
AreTaken geometry k targets i before now =
    (image laid : List Block) → total geometry ≤ length image → length laid ≡ length image → AreOpen geometry image k → IsListOf geometry (list_of geometry image k) targets
    → AreSources geometry image laid before → AreSources geometry image (laid_over (take i targets) (slot_data geometry image k) laid) now

pub taken_more : (geometry : Geometry) (k i next target source place : ℕ) (targets before now : List ℕ) → 1 ≤ k → k ≤ 4 → next ≡ i + 1 → slice_get targets i ≡ Some target
    → source ≡ list_at geometry k + list_blocks geometry + i → place ≡ target - table_at geometry → length now ≡ total geometry - table_at geometry
    → AreTaken geometry k targets i before now → AreTaken geometry k targets next before (slice_set now place source)
taken_more geometry k i next target source place targets before now some most more is from at long taken image laid enough as_long opened list stand =
    let held : List Block = slot_data geometry image k in
    let data_at : ℕ = list_at geometry k + list_blocks geometry in
    let so_far : List Block = laid_over (take i targets) held laid in
    let few : i < slot_room geometry = (let within = slice_get_within targets i target is in let room = list.good.room in omega arith) in
    let low : data_at + i < table_at geometry = omega (arith, few, slot_below geometry k some most) in
    let block : Block = get_or image (data_at + i) zero_block in
    let there : slice_get image (data_at + i) ≡ Some block = slice_get-get_or image (data_at + i) zero_block (omega (arith, low, enough)) in
    let inside : slice_get held i ≡ Some block = slice_get-blocks_from image data_at (slot_room geometry) i few ∙ there in
    let named : IsTarget geometry image target = record { slot = k; some = some; most = most; opened = opened; targets = targets; list = list; index = i; named = is } in
    let put = sources_set geometry image so_far now target source block (taken image laid enough as_long opened list stand)
    (target_from geometry targets i target list.good is) (target_below geometry targets i target list.good is) long
    (omega (arith, enough, as_long, length-laid_over (take i targets) held laid)) (omega (arith, from)) (ap (slice_get image) from ∙ there) named in
    let step : next ≡ suc i = omega arith in
    let laid_next : laid_over (take next targets) held laid ≡ slice_set so_far target block = ap (λ n. laid_over (take n targets) held laid) step ∙ laid_over_more targets held laid i target block is inside in
    subst (λ (l : List Block). AreSources geometry image l (slice_set now place source)) (sym laid_next)
    (subst (λ (p : ℕ). AreSources geometry image (slice_set so_far target block) (slice_set now p source)) (sym at) put)

pub taken_none : (geometry : Geometry) (k : ℕ) (targets before : List ℕ) → AreTaken geometry k targets 0 before before
taken_none geometry k [] before image laid enough long opened list stand = stand
taken_none geometry k (target ∷ targets) before image laid enough long opened list stand = stand

-- all of them are: one more slot is laid over
pub taken_all : (geometry : Geometry) (image : List Block) (k n : ℕ) (targets before now : List ℕ) → 1 ≤ k → total geometry ≤ length image → AreOpen geometry image k
    → IsListOf geometry (list_of geometry image k) targets → take n targets ≡ targets
    → AreTaken geometry k targets n before now → AreLaid geometry image (k - 1) before → AreLaid geometry image k now
taken_all geometry image k n targets before now some enough opened list all taken so_far =
    let held : List Block = slot_data geometry image k in
    let put = taken image so_far.laid enough (length-LaidOver geometry image (k - 1) so_far.laid so_far.over) opened list so_far.stand in
    let this : k ≡ k - 1 + 1 = omega arith in
    record {
      laid = laid_over targets held so_far.laid;
      over = subst (λ (m : ℕ). LaidOver geometry image m (laid_over targets held so_far.laid)) (sym this)
          (LaidOver-more geometry image (k - 1) k so_far.laid (laid_over targets held so_far.laid) targets this so_far.over list refl);
      stand = subst (λ (ts : List ℕ). AreSources geometry image (laid_over ts held so_far.laid) now) all put;
    }

-- the source of one more place stands below the table
pub low_more : (geometry : Geometry) (sources : List ℕ) (place source : ℕ) → place < length sources → AreLow geometry sources → source < table_at geometry → AreLow geometry (slice_set sources place source)
low_more geometry sources place source within low below i = elim (cases_eq i place) [
  | inl same ↦ omega (arith, below, ap (slice_index (slice_set sources place source)) same ∙ get_or-set_same sources place source 0 within)
  | inr apart ↦ omega (arith, low i, get_or-set_other sources place i source 0 apart)
]

-- a slot in front of which all have a list, and which has none
pub slot_lacks : (geometry : Geometry) (image list : List Block) (k place : ℕ) (sources : List ℕ) → 1 ≤ k → k ≤ 4 → AreOpen geometry image k → AreLaid geometry image (k - 1) sources
    → list ≡ list_of geometry image k → ((targets : List ℕ) → ¬ IsListOf geometry list targets) → place ≡ list_at geometry k → LacksList geometry image place
slot_lacks geometry image list k place sources some most opened so_far read none at =
    let this : k ≡ k - 1 + 1 = omega arith in
    record {
      before = k - 1;
      laid = so_far.laid;
      over = so_far.over;
      most = omega arith;
      opened = subst (AreOpen geometry image) this opened;
      none = λ targets is. none targets (subst (λ (blocks : List Block). IsListOf geometry blocks targets) (sym read) (subst (λ (m : ℕ). IsListOf geometry (list_of geometry image m) targets) (sym this) is));
      at = at ∙ ap (list_at geometry) this;
    }
