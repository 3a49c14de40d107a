-- Images that are alike: beside the slots, or below the table. Where gates are closed an image is laid alone, and slots
-- that are laid over change nothing below the table.
use Rattle.std.proofs.Common.{◌≡◌, ◌≢◌, ◌⊎◌, ℕ, zero, suc, ◌+◌, ◌-◌, ◌*◌, ◌<◌, ◌≤◌, false, List, [], ◌∷◌, inl, inr, length, drop, slice_get, get_or, None, refl, sym, ap, ◌∙◌, subst, arith, length-take}
use Rattle.std.specs.Prelude.{slice_set, unwrap_or}
use Rattle.std.specs.List.{AllByRecursion}
use Rattle.std.proofs.Math.Nat.{mul-le-mul_right}
use Rattle.std.proofs.lemmas.Bool.{cases_eq, cases_lt, false≢true}
use Rattle.std.proofs.lemmas.List.{length-set}
use Rattle.std.proofs.lemmas.Option.{slice_get-get_or, slice_get_past, slice_get_within}
use Rattle.nesc_base.specs.declared.block.Block.{Block}
use Rattle.nesc_base.specs.declared.geometry.Geometry.{Geometry}
use Rattle.nesc_base.specs.Block.{zero_block}
use Rattle.nesc_base.specs.Geometry.{list_blocks, slot_at, slot_blocks, slot_room, table_at, total}
use Rattle.slot_layout.specs.Gate.{is_open, open_gate}
use Rattle.slot_layout.specs.Slots.{AreAlike, AreClosed, AreReplayed, IsBeside, LaidOver, Lays, StandsFor, block_at, blocks_from, gate, laid_over, list_at, list_of, slot_data}
use Rattle.slot_layout.specs.Targets.{AreTargets, IsListOf}
use Rattle.nesc_base.proofs.Differing.{same_by_places, slice_get-set_other, slice_get-set_same}

-- Alike beside the slots

pub alike_itself : (geometry : Geometry) (image : List Block) → AreAlike geometry image image
alike_itself geometry image = record { each = λ at beside. refl }

pub alike_back : (geometry : Geometry) (one other : List Block) → AreAlike geometry one other → AreAlike geometry other one
alike_back geometry one other alike = record { each = λ at beside. sym (alike.each at beside) }

pub alike_on : (geometry : Geometry) (a b c : List Block) → AreAlike geometry a b → AreAlike geometry b c → AreAlike geometry a c
alike_on geometry a b c first second = record { each = λ at beside. second.each at beside ∙ first.each at beside }

-- the last block of all is beside the slots
last_beside : (geometry : Geometry) → IsBeside geometry (total geometry - 1)
last_beside geometry = inr (omega arith, omega arith)

module _ (geometry : Geometry) (one other : List Block) (alike : AreAlike geometry one other) where
  pub alike_block : (at : ℕ) → IsBeside geometry at → block_at other at ≡ block_at one at
  alike_block at beside = ap (λ o. unwrap_or o zero_block) (alike.each at beside)

  -- one has a block there, and so has the other
  alike_within : (at : ℕ) → IsBeside geometry at → at < length one → at < length other
  alike_within at beside within = slice_get_within other at (get_or one at zero_block) (alike.each at beside ∙ slice_get-get_or one at zero_block within)

  pub alike_some : 1 ≤ length one → 1 ≤ length other
  alike_some some = alike_within 0 (inl refl) some

  -- one has all the blocks, and so has the other
  pub alike_enough : total geometry ≤ length one → total geometry ≤ length other
  alike_enough enough =
      let last : total geometry - 1 < length other = alike_within (total geometry - 1) (last_beside geometry) (omega arith) in
      omega arith

-- Closed gates

-- a gate of zeros is closed
pub zero_gate : is_open zero_block ≡ false
unfolding is_open open_gate zero_block
zero_gate = refl

-- where the first gate is closed no slot is to be replayed
pub none_replayed : (geometry : Geometry) (image : List Block) (n : ℕ) → is_open (gate geometry image 1) ≡ false → AreReplayed geometry image n → n ≡ 0
none_replayed geometry image zero closed replayed = refl
none_replayed geometry image (suc n) closed replayed = absurd (false≢true (sym closed ∙ replayed.opened 1 (omega arith) (omega arith)))

-- and the image is laid alone
pub laid_alone : (geometry : Geometry) (image laid : List Block) → is_open (gate geometry image 1) ≡ false → Lays geometry image laid → laid ≡ image
laid_alone geometry image laid closed lays =
    subst (λ n. LaidOver geometry image n laid) (none_replayed geometry image lays.slots closed lays.replayed) lays.over

pub lays_itself : (geometry : Geometry) (image : List Block) → is_open (gate geometry image 1) ≡ false → Lays geometry image image
lays_itself geometry image closed = record {
  slots = 0;
  replayed = record { most = omega arith; opened = λ k from to. absurd (omega arith); closed = inr closed };
  over = refl;
}

pub first_closed : (geometry : Geometry) (image : List Block) → AreClosed geometry image → is_open (gate geometry image 1) ≡ false
first_closed geometry image closed = closed 1 (omega arith) (omega arith)

-- an image whose first gate is closed stands for what is alike to it
pub stands_for_alike : (geometry : Geometry) (image blocks : List Block) → is_open (gate geometry image 1) ≡ false → AreAlike geometry blocks image → StandsFor geometry image blocks
stands_for_alike geometry image blocks closed alike = record { laid = image; lays = lays_itself geometry image closed; alike = alike }

-- what it stands for is alike to it
pub alike_where_closed : (geometry : Geometry) (image blocks : List Block) → is_open (gate geometry image 1) ≡ false → StandsFor geometry image blocks → AreAlike geometry blocks image
alike_where_closed geometry image blocks closed stands = subst (AreAlike geometry blocks) (laid_alone geometry image stands.laid closed stands.lays) stands.alike

-- What laying over changes

pub length-laid_over : (targets : List ℕ) (blocks image : List Block) → length (laid_over targets blocks image) ≡ length image
length-laid_over [] blocks image = refl
length-laid_over (at ∷ targets) [] image = refl
length-laid_over (at ∷ targets) (block ∷ blocks) image = length-laid_over targets blocks (slice_set image at block) ∙ length-set image at block

-- what no target names stays
pub laid_over-elsewhere : (targets : List ℕ) (blocks image : List Block) (at : ℕ) → AllByRecursion (λ target. at ≢ target) targets
    → slice_get (laid_over targets blocks image) at ≡ slice_get image at
laid_over-elsewhere [] blocks image at apart = refl
laid_over-elsewhere (target ∷ targets) [] image at apart = refl
laid_over-elsewhere (target ∷ targets) (block ∷ blocks) image at apart =
    laid_over-elsewhere targets blocks (slice_set image target block) at apart.1 ∙ slice_get-set_other image target at block apart.0

all_apart : (from at : ℕ) (targets : List ℕ) → at < from → AllByRecursion (λ target. from ≤ target) targets → AllByRecursion (λ target. at ≢ target) targets
all_apart from at [] below all = tt
all_apart from at (target ∷ targets) below all = let high = all.0 in ((λ same. omega (arith, same, high, below)), all_apart from at targets below all.1)

-- what stands below the table stays
pub laid_over-below : (geometry : Geometry) (targets : List ℕ) (blocks image : List Block) (at : ℕ) → AreTargets geometry targets → at < table_at geometry
    → slice_get (laid_over targets blocks image) at ≡ slice_get image at
laid_over-below geometry targets blocks image at good below = laid_over-elsewhere targets blocks image at (all_apart (table_at geometry) at targets below good.from)

module _ (geometry : Geometry) (image : List Block) where
  pub length-LaidOver : (n : ℕ) (laid : List Block) → LaidOver geometry image n laid → length laid ≡ length image
  length-LaidOver zero laid over = ap length over
  length-LaidOver (suc n) laid over = ap length over.4 ∙ length-laid_over over.1 (slot_data geometry image (suc n)) over.0 ∙ length-LaidOver n over.0 over.2

  pub LaidOver-below : (n : ℕ) (laid : List Block) (at : ℕ) → LaidOver geometry image n laid → at < table_at geometry → slice_get laid at ≡ slice_get image at
  LaidOver-below zero laid at over below = ap (λ (blocks : List Block). slice_get blocks at) over
  LaidOver-below (suc n) laid at over below =
      ap (λ (blocks : List Block). slice_get blocks at) over.4
      ∙ laid_over-below geometry over.1 (slot_data geometry image (suc n)) over.0 at over.3.good below
      ∙ LaidOver-below n over.0 at over.2 below

  pub length-Lays : (laid : List Block) → Lays geometry image laid → length laid ≡ length image
  length-Lays laid lays = length-LaidOver lays.slots laid lays.over

  pub Lays-below : (laid : List Block) (at : ℕ) → Lays geometry image laid → at < table_at geometry → slice_get laid at ≡ slice_get image at
  Lays-below laid at lays below = LaidOver-below lays.slots laid at lays.over below

-- Alike below the table

-- the blocks from a place on, by their places
pub slice_get-blocks_from : (image : List Block) (at count i : ℕ) → i < count → slice_get (blocks_from image at count) i ≡ slice_get image (at + i)
slice_get-blocks_from [] zero (suc count) i below = refl
slice_get-blocks_from [] (suc at) (suc count) i below = refl
slice_get-blocks_from [] at zero i below = absurd (omega arith)
slice_get-blocks_from (block ∷ image) zero zero i below = absurd (omega arith)
slice_get-blocks_from (block ∷ image) zero (suc count) zero below = refl
slice_get-blocks_from (block ∷ image) zero (suc count) (suc i) below =
    let same : suc (0 + i) ≡ 0 + suc i = omega arith in
    slice_get-blocks_from image zero count i (omega arith) ∙ ap (slice_get (block ∷ image)) same
slice_get-blocks_from (block ∷ image) (suc at) count i below =
    let same : suc (at + i) ≡ suc at + i = omega arith in
    slice_get-blocks_from image at count i below ∙ ap (slice_get (block ∷ image)) same

pub slice_get-blocks_from_past : (image : List Block) (at count i : ℕ) → count ≤ i → slice_get (blocks_from image at count) i ≡ None
slice_get-blocks_from_past image at count i past = slice_get_past (blocks_from image at count) i (omega (arith, length-take count (drop at image)))

-- so many blocks are the same where each is
pub same_blocks_from : (one other : List Block) (at count : ℕ) → ((i : ℕ) → i < count → slice_get other (at + i) ≡ slice_get one (at + i)) → blocks_from other at count ≡ blocks_from one at count
same_blocks_from one other at count same = same_by_places (blocks_from other at count) (blocks_from one at count) (λ i. elim (cases_lt i count) [
  | inl below ↦ slice_get-blocks_from other at count i below ∙ same i below ∙ sym (slice_get-blocks_from one at count i below)
  | inr past ↦ slice_get-blocks_from_past other at count i past ∙ sym (slice_get-blocks_from_past one at count i past)
])

-- a slot stands below the table
pub slot_below : (geometry : Geometry) (k : ℕ) → 1 ≤ k → k ≤ 4 → slot_at geometry k + slot_blocks geometry ≤ table_at geometry
slot_below geometry k from to =
    let before : (k - 1) * slot_blocks geometry ≤ 3 * slot_blocks geometry = mul-le-mul_right (slot_blocks geometry) (omega arith) in
    omega arith

module _ (geometry : Geometry) (one other : List Block) (same : (at : ℕ) → at < table_at geometry → slice_get other at ≡ slice_get one at) where
  pub same_gate : (k : ℕ) → 1 ≤ k → k ≤ 4 → gate geometry other k ≡ gate geometry one k
  same_gate k from to = ap (λ o. unwrap_or o zero_block) (same (slot_at geometry k) (omega (arith, slot_below geometry k from to)))

  pub same_list : (k : ℕ) → 1 ≤ k → k ≤ 4 → list_of geometry other k ≡ list_of geometry one k
  same_list k from to = same_blocks_from one other (list_at geometry k) (list_blocks geometry) (λ i below. same (list_at geometry k + i) (omega (arith, slot_below geometry k from to)))

  pub same_data : (k : ℕ) → 1 ≤ k → k ≤ 4 → slot_data geometry other k ≡ slot_data geometry one k
  same_data k from to =
      same_blocks_from one other (list_at geometry k + list_blocks geometry) (slot_room geometry)
      (λ i below. same (list_at geometry k + list_blocks geometry + i) (omega (arith, slot_below geometry k from to)))

  -- the same slots are to be replayed
  pub same_replayed : (n : ℕ) → AreReplayed geometry one n → AreReplayed geometry other n
  same_replayed n replayed = record {
    most = replayed.most;
    opened = λ k from to. ap is_open (same_gate k from (let most = replayed.most in omega arith)) ∙ replayed.opened k from to;
    closed = elim replayed.closed [
      | inl all ↦ inl all
      | inr closed ↦ elim (cases_lt n 4) [
        | inl less ↦ inr (ap is_open (same_gate (n + 1) (omega arith) (omega arith)) ∙ closed)
        | inr all ↦ inl (let most = replayed.most in omega arith)
      ]
    ];
  }

-- An image some of whose blocks stand already where its slots lay them

-- each block of other is that of one, or that of laid
abbrev pub IsBetween : List Block → List Block → List Block → Type 0
IsBetween one laid other = (at : ℕ) → (slice_get other at ≡ slice_get one at) ⊎ (slice_get other at ≡ slice_get laid at)

-- what is put in both is in both
set_between : (laid one other : List Block) (target : ℕ) (block : Block) → length other ≡ length one → IsBetween one laid other
    → IsBetween (slice_set one target block) laid (slice_set other target block)
set_between laid one other target block long between at = elim (cases_eq at target) [
  | inl here ↦ elim (cases_lt target (length one)) [
    | inl within ↦
        inl (ap (slice_get (slice_set other target block)) here
        ∙ slice_get-set_same other target block (omega (arith, long, within))
        ∙ sym (ap (slice_get (slice_set one target block)) here ∙ slice_get-set_same one target block within))
    | inr past ↦
        inl (slice_get_past (slice_set other target block) at (omega (arith, here, long, past, length-set other target block))
        ∙ sym (slice_get_past (slice_set one target block) at (omega (arith, here, past, length-set one target block))))
  ]
  | inr apart ↦
      let left : slice_get (slice_set other target block) at ≡ slice_get other at = slice_get-set_other other target at block apart in
      elim (between at) [
        | inl same ↦ inl (left ∙ same ∙ sym (slice_get-set_other one target at block apart))
        | inr home ↦ inr (left ∙ home)
      ]
]

laid_over_between : (laid : List Block) (targets : List ℕ) (blocks one other : List Block) → length other ≡ length one → IsBetween one laid other
    → IsBetween (laid_over targets blocks one) laid (laid_over targets blocks other)
laid_over_between laid [] blocks one other long between = between
laid_over_between laid (target ∷ targets) [] one other long between = between
laid_over_between laid (target ∷ targets) (block ∷ blocks) one other long between =
    laid_over_between laid targets blocks (slice_set one target block) (slice_set other target block)
    (length-set other target block ∙ long ∙ sym (length-set one target block)) (set_between laid one other target block long between)

-- laid over the other, the slots give blocks between those that they give over the one and laid
record Over (geometry : Geometry) (other laid over : List Block) (n : ℕ) : Type 0 where
  result : List Block
  lays : LaidOver geometry other n result
  long : length result ≡ length over
  between : IsBetween over laid result

module _ (geometry : Geometry) (one other laid : List Block) (same : (at : ℕ) → at < table_at geometry → slice_get other at ≡ slice_get one at) (long : length other ≡ length one)
    (between : IsBetween one laid other) where
  over_between : (n : ℕ) (over : List Block) → n ≤ 4 → LaidOver geometry one n over → Over geometry other laid over n
  over_between zero over most lays =
      subst (λ (blocks : List Block). Over geometry other laid blocks 0) (sym lays) (record { result = other; lays = refl; long = long; between = between })
  over_between (suc n) over most lays =
      let before : Over geometry other laid lays.0 n = over_between n lays.0 (omega arith) lays.2 in
      let blocks : List Block = slot_data geometry one (suc n) in
      let put : List Block = laid_over lays.1 blocks before.result in
      let list : list_of geometry other (suc n) ≡ list_of geometry one (suc n) = same_list geometry one other same (suc n) (omega arith) most in
      let there : slot_data geometry other (suc n) ≡ blocks = same_data geometry one other same (suc n) (omega arith) most in
      subst (λ (blocks : List Block). Over geometry other laid blocks (suc n)) (sym lays.4) (record {
        result = put;
        lays = (
          before.result,
          lays.1,
          before.lays,
          subst (λ (blocks : List Block). IsListOf geometry blocks lays.1) (sym list) lays.3,
          ap (λ (bs : List Block). laid_over lays.1 bs before.result) (sym there),
        );
        long = length-laid_over lays.1 blocks before.result ∙ before.long ∙ sym (length-laid_over lays.1 blocks lays.0);
        between = laid_over_between laid lays.1 blocks lays.0 before.result before.long before.between;
      })

-- so the other is laid as the one
pub lays_between : (geometry : Geometry) (one other laid : List Block) → length other ≡ length one → IsBetween one laid other → Lays geometry one laid → Lays geometry other laid
lays_between geometry one other laid long between lays =
    let same : (at : ℕ) → at < table_at geometry → slice_get other at ≡ slice_get one at = λ at below. elim (between at) [
      | inl alike ↦ alike
      | inr home ↦ home ∙ Lays-below geometry one laid at lays below
    ] in
    let over : Over geometry other laid laid lays.slots = over_between geometry one other laid same long between lays.slots laid lays.replayed.most lays.over in
    let all : over.result ≡ laid = same_by_places over.result laid (λ at. elim (over.between at) [ inl alike ↦ alike | inr home ↦ home ]) in
    record {
      slots = lays.slots;
      replayed = same_replayed geometry one other same lays.slots lays.replayed;
      over = subst (λ (blocks : List Block). LaidOver geometry other lays.slots blocks) all over.lays;
    }

-- and stands for what it stands for
pub stands_between : (geometry : Geometry) (one other blocks : List Block) (stands : StandsFor geometry one blocks) → length other ≡ length one → IsBetween one stands.laid other
    → StandsFor geometry other blocks
stands_between geometry one other blocks stands long between =
    record { laid = stands.laid; lays = lays_between geometry one other stands.laid long between stands.lays; alike = stands.alike }
