-- What the images on the way of a commit stand for.
use Rattle.std.proofs.Common.{◌≡◌, ◌⊎◌, inl, inr, ℕ, zero, suc, ◌-◌, ◌*◌, ◌<◌, ◌≤◌, true, false, List, [], ◌∷◌, length, get_or, slice_get, refl, sym, ap, ◌∙◌, subst, arith}
use Rattle.std.specs.Prelude.{Contains, slice_set, unwrap_or}
use Rattle.std.specs.List.{AllByRecursion}
use Rattle.std.proofs.Math.Nat.{mul-le-mul_right}
use Rattle.std.proofs.lemmas.Bool.{cases_Bool, cases_eq}
use Rattle.std.proofs.lemmas.List.{length-set}
use Rattle.nesc_base.specs.declared.block.Block.{Block}
use Rattle.nesc_base.specs.declared.geometry.Geometry.{Geometry}
use Rattle.nesc_base.specs.Block.{zero_block}
use Rattle.nesc_base.specs.Disk.{DiffersAt, here}
use Rattle.nesc_base.specs.Geometry.{slot_at, slot_blocks, total}
use Rattle.nesc_base.proofs.Differing.{slice_get-set_other, slice_get-set_same}
use Rattle.slot_layout.specs.Gate.{is_open}
use Rattle.slot_layout.specs.Slots.{AreAlike, AreClosed, IsBeside, StandsFor, gate, laid_over}
use Rattle.slot_layout.specs.Targets.{AreTargets}
use Rattle.slot_layout.proofs.Alike.{alike_back, alike_enough, alike_on, laid_over-below, slot_below}
use Rattle.host_journal.specs.Kept.{StandsForEither}
use Rattle.host_journal.proofs.SlotWritten.{IsInFirst, IsReady, first_beside, gate_apart, gate_beside, ready_laid, ready_list, ready_on, held_from}

-- Images that are alike beside the slots

-- alike beside the slots but at these places
abbrev pub IsAlikeBut : Geometry → List ℕ → List Block → List Block → Type 0
IsAlikeBut geometry places one other = (at : ℕ) → IsBeside geometry at → ¬ Contains places at → slice_get other at ≡ slice_get one at

-- the first of some, or one of the others
contains_at : (target at : ℕ) (targets : List ℕ) (k : ℕ) → k < length (target ∷ targets) → get_or (target ∷ targets) k at ≡ at → (at ≡ target) ⊎ Contains targets at
contains_at target at targets zero within is = inl (sym is)
contains_at target at targets (suc k) within is = inr (k, omega arith, is)

pub contains_one : (target at : ℕ) → Contains (target ∷ []) at → at ≡ target
contains_one target at held = elim (contains_at target at [] held.0 held.1 held.2) [
  | inl same ↦ same
  | inr none ↦ let within : none.0 < 0 = none.1 in absurd (omega arith)
]

-- what is laid over both at those places makes them alike
pub over_alike : (geometry : Geometry) (targets : List ℕ) (blocks one other : List Block) → length targets ≡ length blocks → AllByRecursion (λ at. at < total geometry) targets
    → total geometry ≤ length one → total geometry ≤ length other → IsAlikeBut geometry targets one other
    → AreAlike geometry (laid_over targets blocks one) (laid_over targets blocks other)
over_alike geometry [] blocks one other paired below long longer but =
    record { each = λ at beside. but at beside (λ held. let within : held.0 < 0 = held.1 in omega arith) }
over_alike geometry (target ∷ targets) [] one other paired below long longer but = absurd (omega arith)
over_alike geometry (target ∷ targets) (block ∷ blocks) one other paired below long longer but =
    let first : target < total geometry = below.0 in
    over_alike geometry targets blocks (slice_set one target block) (slice_set other target block) (omega arith) below.1
    (omega (arith, long, length-set one target block)) (omega (arith, longer, length-set other target block))
    (λ at beside none. elim (cases_eq at target) [
      | inl same ↦
          ap (slice_get (slice_set other target block)) same ∙ slice_get-set_same other target block (omega (arith, first, longer))
          ∙ sym (ap (slice_get (slice_set one target block)) same ∙ slice_get-set_same one target block (omega (arith, first, long)))
      | inr apart ↦
          slice_get-set_other other target at block apart
          ∙ but at beside (λ held. elim (contains_at target at targets held.0 held.1 held.2) [ inl same ↦ apart same | inr later ↦ none later ])
          ∙ sym (slice_get-set_other one target at block apart)
    ])

-- gates that have one block at their place
same_open : (geometry : Geometry) (one other : List Block) (k : ℕ) → slice_get other (slot_at geometry k) ≡ slice_get one (slot_at geometry k)
    → is_open (gate geometry other k) ≡ is_open (gate geometry one k)
same_open geometry one other k same = ap (λ o. is_open (unwrap_or o zero_block)) same

-- where only the first slot was written behind its gate, all is as before
module _ (geometry : Geometry) (one other : List Block) (differs : DiffersAt (IsInFirst geometry) one other) where
  pub first_alike : AreAlike geometry one other
  first_alike = record { each = λ at beside. differs.others at (λ inside. first_beside geometry at inside beside) }

  pub first_gate : (k : ℕ) → 1 ≤ k → is_open (gate geometry other k) ≡ is_open (gate geometry one k)
  first_gate k from = same_open geometry one other k (differs.others (slot_at geometry k) (λ inside. gate_apart geometry k (slot_at geometry k) from inside refl))

-- so is what stands beside the slots where only the first gate was written
pub gate_alike : (geometry : Geometry) (one other : List Block) → DiffersAt (here (slot_at geometry 1)) one other → AreAlike geometry one other
gate_alike geometry one other differs =
    record { each = λ at beside. differs.others at (λ same. gate_beside geometry 1 (omega arith) (omega arith) (subst (IsBeside geometry) same beside)) }

-- a gate is as before where only targets were written
pub targets_gate : (geometry : Geometry) (targets : List ℕ) (one other : List Block) → AreTargets geometry targets → DiffersAt (Contains targets) one other
    → is_open (gate geometry other 1) ≡ is_open (gate geometry one 1)
targets_gate geometry targets one other good differs =
    same_open geometry one other 1 (differs.others (slot_at geometry 1) (λ held. omega (arith, held_from geometry targets (slot_at geometry 1) good held)))

-- the block that was put there is the gate
pub put_gate : (geometry : Geometry) (image : List Block) (block : Block) → total geometry ≤ length image → gate geometry (slice_set image (slot_at geometry 1) block) 1 ≡ block
put_gate geometry image block enough = ap (λ o. unwrap_or o zero_block) (slice_get-set_same image (slot_at geometry 1) block (omega arith))

-- Images with the first slot written

-- the first gate, or a target
abbrev pub IsGateOrTarget : Geometry → List ℕ → ℕ → Type 0
IsGateOrTarget geometry targets at = (at ≡ slot_at geometry 1) ⊎ Contains targets at

-- The first slot of the image is written, no later one is to be replayed where none was at first, and beside the slots it is
-- as at first but at the targets.
pub record IsLoaded (geometry : Geometry) (targets : List ℕ) (fresh first image : List Block) : Type 0 where
  pub ready : IsReady geometry targets fresh image
  pub later : AreClosed geometry first → (k : ℕ) → 2 ≤ k → k ≤ 4 → is_open (gate geometry image k) ≡ false
  pub others : IsAlikeBut geometry targets first image

module _ (geometry : Geometry) (targets : List ℕ) (good : AreTargets geometry targets) where
  -- neither the first gate nor a target is in the slot behind its gate, nor a later gate
  outside_first : (at : ℕ) → IsGateOrTarget geometry targets at → IsInFirst geometry at → ⊥
  outside_first at (inl same) inside = gate_apart geometry 1 at (omega arith) inside same
  outside_first at (inr held) inside = omega (arith, held_from geometry targets at good held, inside.1)

  outside_gates : (k : ℕ) → 2 ≤ k → k ≤ 4 → IsGateOrTarget geometry targets (slot_at geometry k) → ⊥
  outside_gates k from to (inl same) =
      let behind : 1 * slot_blocks geometry ≤ (k - 1) * slot_blocks geometry = mul-le-mul_right (slot_blocks geometry) (omega arith) in
      omega (arith, same, behind)
  outside_gates k from to (inr held) = omega (arith, held_from geometry targets (slot_at geometry k) good held, slot_below geometry k (omega arith) to)

module _ (geometry : Geometry) (targets : List ℕ) (fresh first : List Block) (good : AreTargets geometry targets) where
  -- it is so still where only the first gate and the targets were written
  pub loaded_on : (one other : List Block) → IsLoaded geometry targets fresh first one → DiffersAt (IsGateOrTarget geometry targets) one other → IsLoaded geometry targets fresh first other
  loaded_on one other loaded differs = record {
    ready = ready_on geometry targets fresh good one other loaded.ready differs.whole
        (λ at inside. differs.others at (λ is. outside_first geometry targets good at is inside));
    later = λ closed k from to.
        same_open geometry one other k (differs.others (slot_at geometry k) (λ is. outside_gates geometry targets good k from to is)) ∙ loaded.later closed k from to;
    others = λ at beside none.
        differs.others at (λ is. elim is [
          | inl same ↦ gate_beside geometry 1 (omega arith) (omega arith) (subst (IsBeside geometry) same beside)
          | inr held ↦ none held
        ]) ∙ loaded.others at beside none;
  }

  module _ (paired : length targets ≡ length fresh) (closed : AreClosed geometry first) (enough : total geometry ≤ length first) where
    -- with its first gate open it stands for the first image with the blocks laid over
    pub loaded_open : (image : List Block) → IsLoaded geometry targets fresh first image → is_open (gate geometry image 1) ≡ true → StandsFor geometry image (laid_over targets fresh first)
    loaded_open image loaded opened = record {
      laid = laid_over targets fresh image;
      lays = record {
        slots = 1;
        replayed = record {
          most = omega arith;
          opened = λ k from to. let one : k ≡ 1 = omega arith in ap (λ n. is_open (gate geometry image n)) one ∙ opened;
          closed = inr (loaded.later closed 2 (omega arith) (omega arith));
        };
        over = (image, targets, refl, ready_list geometry targets fresh good image loaded.ready, sym (ready_laid geometry targets fresh good image image loaded.ready));
      };
      alike = over_alike geometry targets fresh first image paired good.below enough loaded.ready.enough loaded.others;
    }

    -- so it stands for that or for the first image, if it does with its first gate closed
    pub loaded_either : (image : List Block) → IsLoaded geometry targets fresh first image
        → (is_open (gate geometry image 1) ≡ false → StandsForEither geometry first (laid_over targets fresh first) image)
        → StandsForEither geometry first (laid_over targets fresh first) image
    loaded_either image loaded shut = elim (cases_Bool (is_open (gate geometry image 1))) [
      | inl opened ↦ inr (loaded_open image loaded opened)
      | inr closed_here ↦ shut closed_here
    ]

-- What is kept

module _ (geometry : Geometry) (targets : List ℕ) (fresh first kept : List Block) (good : AreTargets geometry targets) (paired : length targets ≡ length fresh) (enough : total geometry ≤ length first)
    (alike : AreAlike geometry kept first) where
  -- with the blocks laid over, what is kept is as the first image with them laid over
  pub kept_alike : AreAlike geometry (laid_over targets fresh kept) (laid_over targets fresh first)
  kept_alike =
      over_alike geometry targets fresh kept first paired good.below (alike_enough geometry first kept (alike_back geometry kept first alike) enough) enough
      (λ at beside none. alike.each at beside)

  -- and what stands for the one stands for the other
  pub kept_either : (image : List Block) → StandsForEither geometry first (laid_over targets fresh first) image → StandsForEither geometry kept (laid_over targets fresh kept) image
  kept_either image (inl stands) = inl (record { laid = stands.laid; lays = stands.lays; alike = alike_on geometry kept first stands.laid alike stands.alike })
  kept_either image (inr stands) =
      inr (record { laid = stands.laid; lays = stands.lays; alike = alike_on geometry (laid_over targets fresh kept) (laid_over targets fresh first) stands.laid kept_alike stands.alike })

-- what is laid over leaves closed gates closed
pub over_closed : (geometry : Geometry) (targets : List ℕ) (blocks image : List Block) → AreTargets geometry targets → AreClosed geometry image → AreClosed geometry (laid_over targets blocks image)
over_closed geometry targets blocks image good closed k from to =
    same_open geometry image (laid_over targets blocks image) k
    (laid_over-below geometry targets blocks image (slot_at geometry k) good (omega (arith, slot_below geometry k from to))) ∙ closed k from to
