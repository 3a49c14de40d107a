-- An image that is torn where slots have blocks for it is laid as before.
use Rattle.std.proofs.Common.{◌≡◌, ◌⊎◌, ℕ, zero, suc, ◌+◌, ◌<◌, ◌≤◌, inl, inr, List, [], ◌∷◌, Some, length, drop, slice_get, refl, sym, ap, ◌∙◌, subst, arith, length-drop, length-take}
use Rattle.std.specs.Prelude.{slice_set}
use Rattle.std.specs.List.{AllByRecursion}
use Rattle.std.proofs.lemmas.Bool.{cases_eq, cases_lt, false≢true}
use Rattle.std.proofs.lemmas.List.{length-set}
use Rattle.std.proofs.lemmas.Option.{none-some, same_Some, slice_get_past}
use Rattle.nesc_base.specs.declared.block.Block.{Block}
use Rattle.nesc_base.specs.declared.geometry.Geometry.{Geometry}
use Rattle.nesc_base.specs.Geometry.{IsGeometry, list_blocks, slot_room, table_at, total}
use Rattle.nesc_base.proofs.Differing.{same_by_places, slice_get-set_other, slice_get-set_same}
use Rattle.slot_layout.specs.Slots.{AreReplayed, LaidOver, Lays, laid_over, list_at, list_of, slot_data}
use Rattle.slot_layout.specs.Targets.{IsListOf}
use Rattle.slot_layout.proofs.Alike.{length-LaidOver, same_data, same_list, same_replayed, slot_below}
use Rattle.slot_layout.proofs.OneList.{one_list}
use Rattle.host_journal.specs.Replays.{IsTarget}

-- the targets name this place
abbrev Names : List ℕ → ℕ → Type 0
Names targets at = (i : ℕ) × (slice_get targets i ≡ Some at)

-- what is put in both stands in both, and so does what stood in both
same_put : (one other : List Block) (target at : ℕ) (block : Block) → length other ≡ length one → (slice_get other at ≡ slice_get one at) ⊎ (at ≡ target)
    → slice_get (slice_set other target block) at ≡ slice_get (slice_set one target block) at
same_put one other target at block long same = elim (cases_eq at target) [
  | inl here ↦ elim (cases_lt target (length one)) [
    | inl within ↦
        ap (slice_get (slice_set other target block)) here ∙ slice_get-set_same other target block (omega (arith, long, within))
        ∙ sym (ap (slice_get (slice_set one target block)) here ∙ slice_get-set_same one target block within)
    | inr past ↦
        slice_get_past (slice_set other target block) at (omega (arith, here, long, past, length-set other target block))
        ∙ sym (slice_get_past (slice_set one target block) at (omega (arith, here, past, length-set one target block)))
  ]
  | inr apart ↦
      let was : slice_get other at ≡ slice_get one at = elim same [ inl alike ↦ alike | inr here ↦ absurd (apart here) ] in
      slice_get-set_other other target at block apart ∙ was ∙ sym (slice_get-set_other one target at block apart)
]

same_laid_over : (targets : List ℕ) (blocks one other : List Block) (at : ℕ) → length targets ≤ length blocks → length other ≡ length one
    → (slice_get other at ≡ slice_get one at) ⊎ Names targets at
    → slice_get (laid_over targets blocks other) at ≡ slice_get (laid_over targets blocks one) at
same_laid_over [] blocks one other at enough long (inl same) = same
same_laid_over [] blocks one other at enough long (inr named) = absurd (none-some at named.1)
same_laid_over (target ∷ targets) [] one other at enough long same = absurd (omega arith)
same_laid_over (target ∷ targets) (block ∷ blocks) one other at enough long (inl same) =
    same_laid_over targets blocks (slice_set one target block) (slice_set other target block) at (omega arith)
    (length-set other target block ∙ long ∙ sym (length-set one target block)) (inl (same_put one other target at block long (inl same)))
same_laid_over (target ∷ targets) (block ∷ blocks) one other at enough long (inr (zero, is)) =
    same_laid_over targets blocks (slice_set one target block) (slice_set other target block) at (omega arith)
    (length-set other target block ∙ long ∙ sym (length-set one target block)) (inl (same_put one other target at block long (inr (sym (same_Some target at is)))))
same_laid_over (target ∷ targets) (block ∷ blocks) one other at enough long (inr (suc i, is)) =
    same_laid_over targets blocks (slice_set one target block) (slice_set other target block) at (omega arith)
    (length-set other target block ∙ long ∙ sym (length-set one target block)) (inr (i, is))

-- one of the first n slots has a block for this place
record IsLaidAt (geometry : Geometry) (image : List Block) (n at : ℕ) : Type 0 where
  slot : ℕ
  some : 1 ≤ slot
  within : slot ≤ n
  targets : List ℕ
  list : IsListOf geometry (list_of geometry image slot) targets
  names : Names targets at

-- laid over the other, the slots give what they give over the one, where the two are alike and where a slot has a block
record LaidToo (geometry : Geometry) (one other over : List Block) (n : ℕ) : Type 0 where
  result : List Block
  lays : LaidOver geometry other n result
  alike : (at : ℕ) → (slice_get other at ≡ slice_get one at) ⊎ IsLaidAt geometry one n at → slice_get result at ≡ slice_get over at

-- a slot has blocks for all of its targets
enough_data : (geometry : Geometry) (image : List Block) (k : ℕ) (targets : List ℕ) → total geometry ≤ length image → 1 ≤ k → k ≤ 4
    → IsListOf geometry (list_of geometry image k) targets → length targets ≤ length (slot_data geometry image k)
enough_data geometry image k targets enough some most list =
    let at : ℕ = list_at geometry k + list_blocks geometry in
    let room : length targets ≤ slot_room geometry = list.good.room in
    omega (arith, room, enough, slot_below geometry k some most, length-take (slot_room geometry) (drop at image), length-drop at image)

module _ (geometry : Geometry) (one other : List Block) (sizes : IsGeometry geometry) (enough : total geometry ≤ length one)
    (same : (at : ℕ) → at < table_at geometry → slice_get other at ≡ slice_get one at) (long : length other ≡ length one) where
  laid_too : (n : ℕ) (over : List Block) → n ≤ 4 → LaidOver geometry one n over → LaidToo geometry one other over n
  laid_too zero over most lays = record {
    result = other;
    lays = refl;
    alike = λ at known. elim known [
      | inl alike ↦ alike ∙ ap (λ (blocks : List Block). slice_get blocks at) (sym lays)
      | inr named ↦ absurd (let some = named.some in let within = named.within in omega arith)
    ];
  }
  laid_too (suc n) over most lays =
      let before : LaidToo geometry one other lays.0 n = laid_too n lays.0 (omega arith) lays.2 in
      let blocks : List Block = slot_data geometry one (suc n) in
      let list : list_of geometry other (suc n) ≡ list_of geometry one (suc n) = same_list geometry one other same (suc n) (omega arith) most in
      let there : slot_data geometry other (suc n) ≡ blocks = same_data geometry one other same (suc n) (omega arith) most in
      let as_long : length before.result ≡ length lays.0 =
      length-LaidOver geometry other n before.result before.lays ∙ long ∙ sym (length-LaidOver geometry one n lays.0 lays.2) in
      let room : length lays.1 ≤ length blocks = enough_data geometry one (suc n) lays.1 enough (omega arith) most lays.3 in
      let put : (at : ℕ) → (slice_get before.result at ≡ slice_get lays.0 at) ⊎ Names lays.1 at → slice_get (laid_over lays.1 blocks before.result) at ≡ slice_get over at =
      λ at known. same_laid_over lays.1 blocks lays.0 before.result at room as_long known ∙ ap (λ (bs : List Block). slice_get bs at) (sym lays.4) in
      record {
        result = laid_over lays.1 blocks before.result;
        lays = (
          before.result,
          lays.1,
          before.lays,
          subst (λ (bs : List Block). IsListOf geometry bs lays.1) (sym list) lays.3,
          ap (λ (bs : List Block). laid_over lays.1 bs before.result) (sym there),
        );
        alike = λ at known. elim known [
          | inl alike ↦ put at (inl (before.alike at (inl alike)))
          | inr named ↦ elim (cases_lt n named.slot) [
            | inl last ↦
                let this : named.slot ≡ suc n = let within = named.within in omega arith in
                let here : IsListOf geometry (list_of geometry one (suc n)) named.targets = subst (λ (k : ℕ). IsListOf geometry (list_of geometry one k) named.targets) this named.list in
                let targets : named.targets ≡ lays.1 = one_list geometry (list_of geometry one (suc n)) named.targets lays.1 sizes here lays.3 in
                put at (inr (subst (λ (ts : List ℕ). Names ts at) targets named.names))
            | inr earlier ↦ put at (inl (before.alike at (inr (record {
              slot = named.slot;
              some = named.some;
              within = earlier;
              targets = named.targets;
              list = named.list;
              names = named.names;
            }))))
          ]
        ];
      }

-- the slot of a target is one of those that are to be replayed
laid_at : (geometry : Geometry) (image : List Block) (n at : ℕ) → AreReplayed geometry image n → IsTarget geometry image at → IsLaidAt geometry image n at
laid_at geometry image n at replayed target = record {
  slot = target.slot;
  some = target.some;
  within = elim (cases_lt n target.slot) [
    | inl past ↦ absurd (elim replayed.closed [
      | inl all ↦ let most = target.most in omega (arith, all, most, past)
      | inr closed ↦ false≢true (sym closed ∙ target.opened (n + 1) (omega arith) (omega arith))
    ])
    | inr within ↦ within
  ];
  targets = target.targets;
  list = target.list;
  names = (target.index, target.named);
}

-- what all of them are each is
pub all_at : (P : ℕ → Type 0) (xs : List ℕ) (i x : ℕ) → AllByRecursion P xs → slice_get xs i ≡ Some x → P x
all_at P [] i x all is = absurd (none-some x is)
all_at P (y ∷ ys) zero x all is = subst P (same_Some y x is) all.0
all_at P (y ∷ ys) (suc i) x all is = all_at P ys i x all.1 is

-- a target stands behind the slots
target_above : (geometry : Geometry) (image : List Block) (at : ℕ) → IsTarget geometry image at → table_at geometry ≤ at
target_above geometry image at target = all_at (λ a. table_at geometry ≤ a) target.targets target.index at target.list.good.from target.named

-- torn at targets alone, the image is laid as before
pub lays_torn : (geometry : Geometry) (one other laid : List Block) → IsGeometry geometry → total geometry ≤ length one → length other ≡ length one
    → ((at : ℕ) → (slice_get other at ≡ slice_get one at) ⊎ IsTarget geometry one at) → Lays geometry one laid → Lays geometry other laid
lays_torn geometry one other laid sizes enough long torn lays =
    let same : (at : ℕ) → at < table_at geometry → slice_get other at ≡ slice_get one at = λ at below. elim (torn at) [
      | inl alike ↦ alike
      | inr target ↦ absurd (omega (arith, below, target_above geometry one at target))
    ] in
    let too : LaidToo geometry one other laid lays.slots = laid_too geometry one other sizes enough same long lays.slots laid lays.replayed.most lays.over in
    let all : too.result ≡ laid = same_by_places too.result laid (λ at. elim (torn at) [
      | inl alike ↦ too.alike at (inl alike)
      | inr target ↦ too.alike at (inr (laid_at geometry one lays.slots at lays.replayed target))
    ]) in
    record {
      slots = lays.slots;
      replayed = same_replayed geometry one other same lays.slots lays.replayed;
      over = subst (λ (blocks : List Block). LaidOver geometry other lays.slots blocks) all too.lays;
    }
