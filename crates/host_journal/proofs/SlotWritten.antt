-- The first slot with the blocks of a commit in it.
use Rattle.std.proofs.Common.{◌≡◌, ◌≢◌, inl, inr, ℕ, zero, suc, ◌+◌, ◌-◌, ◌*◌, ◌<◌, ◌≤◌, List, [], ◌∷◌, Some, length, drop, slice_get, refl, sym, ap, ◌∙◌, arith, length-drop, length-take-le}
use Rattle.std.specs.Prelude.{Contains, slice_set}
use Rattle.std.specs.List.{AllByRecursion, range_with_len}
use Rattle.std.proofs.Math.Nat.{mul-le-mul_right}
use Rattle.std.proofs.lemmas.Bool.{cases_lt}
use Rattle.std.proofs.lemmas.List.{length-set}
use Rattle.std.proofs.lemmas.List.Elements.{All-contains, All-from_recursion}
use Rattle.std.proofs.lemmas.List.FromFn.{get_or-map-range_with_len, get_or-range_with_len, length-map-range_with_len, length-range_with_len}
use Rattle.std.proofs.lemmas.Option.{none-some, same_Some, slice_get-get_or}
use Rattle.nesc_base.specs.declared.block.Block.{Block}
use Rattle.nesc_base.specs.declared.geometry.Geometry.{Geometry}
use Rattle.nesc_base.specs.Geometry.{list_blocks, slot_at, slot_blocks, slot_room, table_at, total}
use Rattle.nesc_base.proofs.Differing.{slice_get-set_same}
use Rattle.slot_layout.specs.Slots.{IsBeside, laid_over, list_at, list_of, slot_data}
use Rattle.slot_layout.specs.Targets.{AreTargets, IsListOf, blocks_needed, list_block}
use Rattle.slot_layout.proofs.Alike.{laid_over-elsewhere, length-laid_over, slice_get-blocks_from, slot_below}
use Rattle.slot_layout.proofs.ListBlocks.{list_reads_back}
use Rattle.host_journal.specs.Committing.{blocks_of_list, data_places, list_places}

-- Places

-- a block of the first slot behind its gate
abbrev pub IsInFirst : Geometry → ℕ → Type 0
IsInFirst geometry at = (2 ≤ at) × (at ≤ slot_blocks geometry)

-- no gate stands there
pub gate_apart : (geometry : Geometry) (k at : ℕ) → 1 ≤ k → IsInFirst geometry at → at ≢ slot_at geometry k
gate_apart geometry k at from inside same = elim (cases_lt k 2) [
  | inl first ↦
      let one : k ≡ 1 = omega arith in
      let here : at ≡ slot_at geometry 1 = same ∙ ap (slot_at geometry) one in
      omega (arith, inside.0, here)
  | inr later ↦
      let behind : 1 * slot_blocks geometry ≤ (k - 1) * slot_blocks geometry = mul-le-mul_right (slot_blocks geometry) (omega arith) in
      omega (arith, inside.1, same, behind)
]

-- nor a block beside the slots
pub first_beside : (geometry : Geometry) (at : ℕ) → IsInFirst geometry at → IsBeside geometry at → ⊥
first_beside geometry at inside (inl start) = omega (arith, inside.0, start)
first_beside geometry at inside (inr behind) = omega (arith, inside.1, behind.0)

-- a gate is not beside the slots either
pub gate_beside : (geometry : Geometry) (k : ℕ) → 1 ≤ k → k ≤ 4 → IsBeside geometry (slot_at geometry k) → ⊥
gate_beside geometry k from to (inl start) = omega (arith, start)
gate_beside geometry k from to (inr behind) = omega (arith, slot_below geometry k from to, behind.0)

-- the places from one on
in_range : (from count at : ℕ) → Contains (range_with_len from count) at → (from ≤ at) × (at < from + count)
in_range from count at held =
    let below : held.0 < count = omega (arith, held.1, length-range_with_len from count) in
    let here : at ≡ from + held.0 = sym held.2 ∙ get_or-range_with_len from count held.0 at below in
    (omega arith, omega arith)

-- the list takes no more blocks than there are for it
few_needed : (geometry : Geometry) (targets : List ℕ) → AreTargets geometry targets → blocks_needed (length targets) ≤ list_blocks geometry
few_needed geometry targets good = let room = good.room in omega arith

pub list_inside : (geometry : Geometry) (targets : List ℕ) (at : ℕ) → AreTargets geometry targets → Contains (list_places geometry targets) at → IsInFirst geometry at
list_inside geometry targets at good held =
    let range = in_range (list_at geometry 1) (blocks_needed (length targets)) at held in
    let few = few_needed geometry targets good in
    (omega (arith, range.0), omega (arith, range.1, few))

pub data_inside : (geometry : Geometry) (targets : List ℕ) (at : ℕ) → AreTargets geometry targets → Contains (data_places geometry (length targets)) at → IsInFirst geometry at
data_inside geometry targets at good held =
    let range = in_range (list_at geometry 1 + list_blocks geometry) (length targets) at held in
    let room = good.room in
    (omega (arith, range.0), omega (arith, range.1))

-- each target stands from the table on
pub held_from : (geometry : Geometry) (targets : List ℕ) (at : ℕ) → AreTargets geometry targets → Contains targets at → table_at geometry ≤ at
held_from geometry targets at good held = All-contains (λ n. table_at geometry ≤ n) targets at (All-from_recursion (λ n. table_at geometry ≤ n) targets good.from) held

-- Blocks laid over a run of places

range_apart : (from count at : ℕ) → at < from → AllByRecursion (λ target. at ≢ target) (range_with_len from count)
range_apart from zero at below = tt
range_apart from (suc count) at below = ((λ same. omega (arith, same, below)), range_apart (from + 1) count at (omega arith))

-- each block stands at its place
laid_over_range : (from count : ℕ) (blocks image : List Block) (i : ℕ) → i < count → count ≤ length blocks → from + count ≤ length image
    → slice_get (laid_over (range_with_len from count) blocks image) (from + i) ≡ slice_get blocks i
laid_over_range from zero blocks image i below many long = absurd (omega arith)
laid_over_range from (suc count) [] image i below many long = absurd (omega arith)
laid_over_range from (suc count) (block ∷ blocks) image zero below many long =
    let here : from + 0 ≡ from = omega arith in
    let put : List Block = slice_set image from block in
    ap (slice_get (laid_over (range_with_len (from + 1) count) blocks put)) here
    ∙ laid_over-elsewhere (range_with_len (from + 1) count) blocks put from (range_apart (from + 1) count from (omega arith))
    ∙ slice_get-set_same image from block (omega arith)
laid_over_range from (suc count) (block ∷ blocks) image (suc i) below many long =
    let next : from + suc i ≡ from + 1 + i = omega arith in
    let put : List Block = slice_set image from block in
    ap (slice_get (laid_over (range_with_len (from + 1) count) blocks put)) next
    ∙ laid_over_range (from + 1) count blocks put i (omega arith) (omega arith) (omega (arith, long, length-set image from block))

-- no more blocks are laid over than there are targets
same_laid : (targets : List ℕ) (blocks others image : List Block) → ((i : ℕ) → i < length targets → slice_get blocks i ≡ slice_get others i)
    → laid_over targets blocks image ≡ laid_over targets others image
same_laid [] blocks others image same = refl
same_laid (at ∷ targets) [] [] image same = refl
same_laid (at ∷ targets) [] (other ∷ others) image same = absurd (none-some other (same 0 (omega arith)))
same_laid (at ∷ targets) (block ∷ blocks) [] image same = absurd (none-some block (sym (same 0 (omega arith))))
same_laid (at ∷ targets) (block ∷ blocks) (other ∷ others) image same =
    ap (λ (b : Block). laid_over targets blocks (slice_set image at b)) (same_Some block other (same 0 (omega arith)))
    ∙ same_laid targets blocks others (slice_set image at other) (λ i below. same (suc i) (omega arith))

-- The slot

-- the first slot has the list of the targets, and behind it these blocks
pub record IsReady (geometry : Geometry) (targets : List ℕ) (fresh image : List Block) : Type 0 where
  pub enough : total geometry ≤ length image
  pub list : (b : ℕ) → b < blocks_needed (length targets) → slice_get image (list_at geometry 1 + b) ≡ Some (list_block targets b)
  pub blocks : (i : ℕ) → i < length targets → slice_get image (list_at geometry 1 + list_blocks geometry + i) ≡ slice_get fresh i

module _ (geometry : Geometry) (targets : List ℕ) (fresh : List Block) (good : AreTargets geometry targets) where
  -- so its list is the list of the targets
  pub ready_list : (image : List Block) → IsReady geometry targets fresh image → IsListOf geometry (list_of geometry image 1) targets
  ready_list image ready =
      let few = few_needed geometry targets good in
      list_reads_back geometry targets (list_of geometry image 1) good (record {
        count = length-take-le (list_blocks geometry) (drop (list_at geometry 1) image) (omega (arith, ready.enough, length-drop (list_at geometry 1) image));
        each = λ b below. slice_get-blocks_from image (list_at geometry 1) (list_blocks geometry) b (omega (arith, below, few)) ∙ ready.list b below;
      })

  -- and to lay it over is to lay these blocks over
  pub ready_laid : (image over : List Block) → IsReady geometry targets fresh image → laid_over targets (slot_data geometry image 1) over ≡ laid_over targets fresh over
  ready_laid image over ready =
      same_laid targets (slot_data geometry image 1) fresh over (λ i below.
      slice_get-blocks_from image (list_at geometry 1 + list_blocks geometry) (slot_room geometry) i (omega (arith, below, good.room)) ∙ ready.blocks i below)

  -- it is so wherever the slot has the same blocks
  pub ready_on : (one other : List Block) → IsReady geometry targets fresh one → length other ≡ length one → ((at : ℕ) → IsInFirst geometry at → slice_get other at ≡ slice_get one at)
      → IsReady geometry targets fresh other
  ready_on one other ready long same =
      let few = few_needed geometry targets good in
      let room = good.room in
      record {
        enough = omega (arith, ready.enough, long);
        list = λ b below. same (list_at geometry 1 + b) (omega arith, omega (arith, below, few)) ∙ ready.list b below;
        blocks = λ i below. same (list_at geometry 1 + list_blocks geometry + i) (omega arith, omega (arith, below, room)) ∙ ready.blocks i below;
      }

  -- and where the list and the blocks were laid over it
  pub ready_written : (image : List Block) → total geometry ≤ length image → length targets ≡ length fresh
      → IsReady geometry targets fresh (laid_over (data_places geometry (length targets)) fresh (laid_over (list_places geometry targets) (blocks_of_list targets) image))
  ready_written image enough paired =
      let few = few_needed geometry targets good in
      let room = good.room in
      let needed : ℕ = blocks_needed (length targets) in
      let from : ℕ = list_at geometry 1 + list_blocks geometry in
      let listed : List Block = laid_over (list_places geometry targets) (blocks_of_list targets) image in
      let many : length (blocks_of_list targets) ≡ needed = length-map-range_with_len (list_block targets) 0 needed in
      let long : length listed ≡ length image = length-laid_over (list_places geometry targets) (blocks_of_list targets) image in
      record {
        enough = omega (arith, enough, long, length-laid_over (data_places geometry (length targets)) fresh listed);
        list = λ b below.
            laid_over-elsewhere (data_places geometry (length targets)) fresh listed (list_at geometry 1 + b) (range_apart from (length targets) (list_at geometry 1 + b) (omega (arith, below, few)))
            ∙ laid_over_range (list_at geometry 1) needed (blocks_of_list targets) image b below (omega (arith, many)) (omega (arith, few, enough))
            ∙ slice_get-get_or (blocks_of_list targets) b (list_block targets 0) (omega (arith, below, many))
            ∙ ap Some (get_or-map-range_with_len (list_block targets) 0 needed b b (list_block targets 0) below (omega arith));
        blocks = λ i below. laid_over_range from (length targets) fresh listed i below (omega (arith, paired)) (omega (arith, room, long, enough));
      }
