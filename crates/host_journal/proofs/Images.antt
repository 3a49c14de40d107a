-- What images stand for while the gates of their slots are closed.
use Rattle.std.proofs.Common.{◌≡◌, ◌≢◌, ◌⊎◌, ℕ, suc, ◌+◌, ◌-◌, ◌*◌, ◌<◌, ◌≤◌, Bool, true, false, inl, inr, List, Some, length, slice_get, refl, sym, ap, ◌∙◌, subst, arith}
use Rattle.std.specs.Prelude.{Option, slice_set, unwrap_or}
use Rattle.std.proofs.Math.Nat.{mul-le-mul_right, suc-mul}
use Rattle.std.proofs.lemmas.Bool.{cases_eq, cases_lt, false≢true}
use Rattle.std.proofs.lemmas.Option.{same_Some, slice_get-get_or, unwrap_or-slice_get}
use Rattle.std.proofs.lemmas.Slice.Eq.{bytes_eq-Decides}
use Rattle.nesc_base.specs.declared.block.Block.{Block}
use Rattle.nesc_base.specs.declared.geometry.Geometry.{Geometry}
use Rattle.nesc_base.specs.Block.{zero_block}
use Rattle.nesc_base.specs.Disk.{DiffersAt, here}
use Rattle.nesc_base.specs.Geometry.{IsGeometry, slot_at, slot_blocks, total}
use Rattle.nesc_base.proofs.Differing.{differs_set, same_by_places, slice_get-set_same}
use Rattle.slot_layout.specs.Bytes.{block_of_bytes}
use Rattle.slot_layout.specs.Gate.{is_open, open_gate}
use Rattle.slot_layout.specs.Slots.{AreAlike, AreClosed, IsBeside, LacksList, Lays, StandsFor, gate, list_at}
use Rattle.slot_layout.proofs.Alike.{Lays-below, alike_back, alike_itself, lays_between, length-Lays, slot_below, stands_for_alike, zero_gate}
use Rattle.slot_layout.proofs.OneLaid.{list_before, list_there, one_laid}
use Rattle.host_journal.specs.Replays.{AreZeroed}
use Rattle.host_journal.specs.Replaying.{AreGates, AreSources, IsLaidClosed, IsOtherGate, IsSourced}
use Rattle.host_journal.proofs.Homing.{torn_at_targets}
use Rattle.host_journal.proofs.Torn.{lays_torn}

-- Gates

open_block : (block : Block) → is_open block ≡ true → block ≡ open_gate
unfolding is_open
open_block block is = ap block_of_bytes ((bytes_eq-Decides block.0 open_gate.0).0 is)

open_or_closed : (b : Bool) → (b ≡ true) ⊎ (b ≡ false)
open_or_closed true = inl refl
open_or_closed false = inr refl

-- the block that stands there
gate_there : (geometry : Geometry) (image : List Block) (k : ℕ) → slot_at geometry k < length image → slice_get image (slot_at geometry k) ≡ Some (gate geometry image k)
gate_there geometry image k within =
    slice_get-get_or image (slot_at geometry k) zero_block within ∙ ap Some (sym (unwrap_or-slice_get image (slot_at geometry k) zero_block))

gate_as : (geometry : Geometry) (one other : List Block) (k : ℕ) → slice_get other (slot_at geometry k) ≡ slice_get one (slot_at geometry k) → gate geometry other k ≡ gate geometry one k
gate_as geometry one other k same = ap (λ (o : Option Block). unwrap_or o zero_block) same

gate_is : (geometry : Geometry) (image : List Block) (k : ℕ) (block : Block) → slice_get image (slot_at geometry k) ≡ Some block → gate geometry image k ≡ block
gate_is geometry image k block is = ap (λ (o : Option Block). unwrap_or o zero_block) is

rises : (n a b : ℕ) → a < b → a * n + n ≤ b * n
rises n a b less = let more : suc a * n ≤ b * n = mul-le-mul_right n (omega arith) in omega (arith, more, suc-mul a n)

slot_before : (geometry : Geometry) (j k : ℕ) → 1 ≤ j → j < k → slot_at geometry j < slot_at geometry k
slot_before geometry j k some less = omega (arith, rises (slot_blocks geometry) (j - 1) (k - 1) (omega arith))

-- each slot has a place of its own
one_slot : (geometry : Geometry) (j k : ℕ) → 1 ≤ j → 1 ≤ k → slot_at geometry j ≡ slot_at geometry k → j ≡ k
one_slot geometry j k some_j some_k same = elim (cases_lt j k) [
  | inl less ↦ absurd (omega (arith, slot_before geometry j k some_j less, same))
  | inr up ↦ elim (cases_lt k j) [
    | inl less ↦ absurd (omega (arith, slot_before geometry k j some_k less, same))
    | inr down ↦ omega arith
  ]
]

-- no gate stands beside the slots
beside_apart : (geometry : Geometry) (k at : ℕ) → 1 ≤ k → k ≤ 4 → IsBeside geometry at → at ≢ slot_at geometry k
beside_apart geometry k at some most (inl none) same = omega (arith, none, same)
beside_apart geometry k at some most (inr from) same = omega (arith, from.0, same, slot_below geometry k some most)

-- Lists that are bad

pub lays_not_lacks : (geometry : Geometry) (image laid : List Block) (place : ℕ) → Lays geometry image laid → ¬ LacksList geometry image place
lays_not_lacks geometry image laid place lays lacks =
    let there = list_there geometry image laid lays lacks.before lacks.most lacks.opened in
    lacks.none there.0 there.1

lacks_first : (geometry : Geometry) (image : List Block) (a b : ℕ) (one : LacksList geometry image a) (other : LacksList geometry image b) → ¬ (one.before < other.before)
lacks_first geometry image a b one other less =
    let there = list_before geometry image other.before other.laid other.over one.before less in
    one.none there.0 there.1

-- the first of them is one
pub one_lack : (geometry : Geometry) (image : List Block) (a b : ℕ) → LacksList geometry image a → LacksList geometry image b → a ≡ b
one_lack geometry image a b one other = elim (cases_lt one.before other.before) [
  | inl less ↦ absurd (lacks_first geometry image a b one other less)
  | inr up ↦ elim (cases_lt other.before one.before) [
    | inl less ↦ absurd (lacks_first geometry image b a other one less)
    | inr down ↦ let same : one.before ≡ other.before = omega arith in one.at ∙ ap (λ n. list_at geometry (n + 1)) same ∙ sym other.at
  ]
]

-- Torn images

-- torn at targets, an image stands for the same
pub stands_torn : (geometry : Geometry) (one other laid kept : List Block) (sources : List ℕ) → IsGeometry geometry → total geometry ≤ length one → AreSources geometry one laid sources
    → DiffersAt (IsSourced geometry sources) one other → StandsFor geometry one kept → StandsFor geometry other kept
stands_torn geometry one other laid kept sources sizes enough stand differs stands = record {
  laid = stands.laid;
  lays = lays_torn geometry one other stands.laid sizes enough differs.whole (torn_at_targets geometry one other laid sources stand differs) stands.lays;
  alike = stands.alike;
}

-- torn at a gate, it is alike to the same beside the slots
alike_torn : (geometry : Geometry) (P : ℕ → Type 0) (one other kept : List Block) → ((at : ℕ) → P at → (k : ℕ) × (1 ≤ k) × (k ≤ 4) × (at ≡ slot_at geometry k))
    → DiffersAt P one other → AreAlike geometry kept one → AreAlike geometry kept other
alike_torn geometry P one other kept gates differs alike = record {
  each = λ at beside. differs.others at (λ is. let slot = gates at is in beside_apart geometry slot.0 at slot.1 slot.2 beside slot.3) ∙ alike.each at beside;
}

-- that it is laid as
alike_laid : (geometry : Geometry) (one laid kept : List Block) → IsGeometry geometry → Lays geometry one laid → StandsFor geometry one kept → AreAlike geometry kept laid
alike_laid geometry one laid kept sizes lays stands = subst (AreAlike geometry kept) (one_laid geometry one stands.laid laid sizes stands.lays lays) stands.alike

-- with its blocks home and its first gate torn, an image stands for the same
pub stands_first_torn : (geometry : Geometry) (one laid image kept : List Block) → IsGeometry geometry → total geometry ≤ length one → Lays geometry one laid → is_open (gate geometry one 1) ≡ true
    → DiffersAt (here (slot_at geometry 1)) laid image → StandsFor geometry one kept → StandsFor geometry image kept
stands_first_torn geometry one laid image kept sizes enough lays opened differs stands =
    let alike : AreAlike geometry kept laid = alike_laid geometry one laid kept sizes lays stands in
    elim (open_or_closed (is_open (gate geometry image 1))) [
      | inl still ↦
          let place : ℕ = slot_at geometry 1 in
          let long : length laid ≡ length one = length-Lays geometry one laid lays in
          let as_one : gate geometry laid 1 ≡ gate geometry one 1 =
          gate_as geometry one laid 1 (Lays-below geometry one laid place lays (omega (arith, slot_below geometry 1 (omega arith) (omega arith)))) in
          let was : gate geometry laid 1 ≡ open_gate = open_block (gate geometry laid 1) (ap is_open as_one ∙ opened) in
          let same : image ≡ laid = same_by_places image laid (λ at. elim (cases_eq at place) [
            | inl there ↦
                ap (slice_get image) there ∙ gate_there geometry image 1 (omega (arith, enough, long, differs.whole))
                ∙ ap Some (open_block (gate geometry image 1) still ∙ sym was)
                ∙ sym (gate_there geometry laid 1 (omega (arith, enough, long))) ∙ ap (slice_get laid) (sym there)
            | inr apart ↦ differs.others at apart
          ]) in
          let itself : Lays geometry laid laid = lays_between geometry one laid laid long (λ at. inr refl) lays in
          subst (λ (blocks : List Block). StandsFor geometry blocks kept) (sym same) (record { laid = laid; lays = itself; alike = alike })
      | inr closed ↦
          stands_for_alike geometry image kept closed
          (alike_torn geometry (here (slot_at geometry 1)) laid image kept (λ at is. (1, omega arith, omega arith, is)) differs alike)
    ]

-- Images whose first gate is closed

-- it is alike to what it stood for
alike_closed : (geometry : Geometry) (before image kept : List Block) → IsGeometry geometry → IsLaidClosed geometry before image → StandsFor geometry before kept → AreAlike geometry kept image
alike_closed geometry before image kept sizes is stands =
    alike_torn geometry (here (slot_at geometry 1)) is.laid image kept (λ at is. (1, omega arith, omega arith, is)) is.differs
    (alike_laid geometry before is.laid kept sizes is.lays stands)

-- the first gate is none of the others
first_apart : (geometry : Geometry) (gates : List Bool) → ¬ IsOtherGate geometry gates (slot_at geometry 1)
first_apart geometry gates is =
    let some = is.some in
    omega (arith, some, slot_before geometry 1 is.slot (omega arith) (omega arith), is.place)

first_stays : (geometry : Geometry) (gates : List Bool) (one image : List Block) → DiffersAt (IsOtherGate geometry gates) one image → gate geometry image 1 ≡ gate geometry one 1
first_stays geometry gates one image differs = gate_as geometry one image 1 (differs.others (slot_at geometry 1) (first_apart geometry gates))

alike_others : (geometry : Geometry) (gates : List Bool) (one image kept : List Block) → DiffersAt (IsOtherGate geometry gates) one image → AreAlike geometry kept one → AreAlike geometry kept image
alike_others geometry gates one image kept differs alike =
    alike_torn geometry (IsOtherGate geometry gates) one image kept (λ at is. (is.slot, let some = is.some in omega arith, is.most, is.place)) differs alike

-- with other gates torn it stands for the same
pub stands_others_torn : (geometry : Geometry) (gates : List Bool) (before one image kept : List Block) → IsGeometry geometry → IsLaidClosed geometry before one
    → DiffersAt (IsOtherGate geometry gates) one image → StandsFor geometry before kept → StandsFor geometry image kept
stands_others_torn geometry gates before one image kept sizes is differs stands =
    stands_for_alike geometry image kept (ap is_open (first_stays geometry gates one image differs) ∙ is.closed)
    (alike_others geometry gates one image kept differs (alike_closed geometry before one kept sizes is stands))

-- All gates closed

-- those that were open are zeros
abbrev pub AreZeros : Geometry → List Bool → List Block → Type 0
AreZeros geometry gates image = (at : ℕ) → IsOtherGate geometry gates at → slice_get image at ≡ Some zero_block

other_gate : (geometry : Geometry) (before : List Block) (gates : List Bool) (k : ℕ) → AreGates geometry before gates → 2 ≤ k → k ≤ 4 → is_open (gate geometry before k) ≡ true
    → IsOtherGate geometry gates (slot_at geometry k)
other_gate geometry before gates k known some most opened = record {
  slot = k;
  some = some;
  most = most;
  opened = known k (omega arith) most ∙ ap Some opened;
  place = refl;
}

-- a gate that was open
pub other_opened : (geometry : Geometry) (before : List Block) (gates : List Bool) (at : ℕ) → AreGates geometry before gates → (is : IsOtherGate geometry gates at)
    → is_open (gate geometry before is.slot) ≡ true
other_opened geometry before gates at known is =
    let some = is.some in
    same_Some (is_open (gate geometry before is.slot)) true (sym (known is.slot (omega arith) is.most) ∙ is.opened)

module _ (geometry : Geometry) (before one image : List Block) (gates : List Bool) (known : AreGates geometry before gates) (is : IsLaidClosed geometry before one)
    (differs : DiffersAt (IsOtherGate geometry gates) one image) (zeros : AreZeros geometry gates image) where
  -- a gate that was not open stands as before
  closed_stays : (k : ℕ) → 2 ≤ k → k ≤ 4 → is_open (gate geometry before k) ≡ false → gate geometry image k ≡ gate geometry before k
  closed_stays k some most closed =
      let place : ℕ = slot_at geometry k in
      let none : ¬ IsOtherGate geometry gates place = λ other.
      let same : other.slot ≡ k = (let low = other.some in one_slot geometry other.slot k (omega arith) (omega arith) (sym other.place)) in
      false≢true (sym closed ∙ ap (λ m. is_open (gate geometry before m)) (sym same) ∙ other_opened geometry before gates place known other) in
      gate_as geometry before image k (
      differs.others place none
      ∙ is.differs.others place (λ same. omega (arith, one_slot geometry k 1 (omega arith) (omega arith) same, some))
      ∙ Lays-below geometry before is.laid place is.lays (omega (arith, slot_below geometry k (omega arith) most))
      )

  pub all_closed : AreClosed geometry image
  all_closed k some most = elim (cases_lt 1 k) [
    | inl behind ↦ elim (open_or_closed (is_open (gate geometry before k))) [
      | inl opened ↦ ap is_open (gate_is geometry image k zero_block (zeros (slot_at geometry k) (other_gate geometry before gates k known (omega arith) most opened))) ∙ zero_gate
      | inr closed ↦ ap is_open (closed_stays k (omega arith) most closed) ∙ closed
    ]
    | inr first ↦
        let this : k ≡ 1 = omega arith in
        ap (λ m. is_open (gate geometry image m)) this ∙ ap is_open (first_stays geometry gates one image differs) ∙ is.closed
  ]

  pub all_zeroed : (is_open (gate geometry before 1) ≡ true → gate geometry one 1 ≡ zero_block) → AreZeroed geometry before image
  all_zeroed first k some most opened = elim (cases_lt 1 k) [
    | inl behind ↦ gate_is geometry image k zero_block (zeros (slot_at geometry k) (other_gate geometry before gates k known (omega arith) most opened))
    | inr low ↦
        let this : k ≡ 1 = omega arith in
        ap (gate geometry image) this ∙ first_stays geometry gates one image differs ∙ first (subst (λ m. is_open (gate geometry before m) ≡ true) this opened)
  ]

  -- the image before stood for this one
  pub stood_for : StandsFor geometry before image
  stood_for = record {
    laid = is.laid;
    lays = is.lays;
    alike = alike_back geometry is.laid image
        (alike_others geometry gates one image is.laid differs
        (alike_torn geometry (here (slot_at geometry 1)) is.laid one is.laid (λ at same. (1, omega arith, omega arith, same)) is.differs (alike_itself geometry is.laid)));
  }

-- with zeros for its first gate, an image with all blocks home is laid and closed
pub first_closed : (geometry : Geometry) (before laid : List Block) → total geometry ≤ length before → Lays geometry before laid
    → IsLaidClosed geometry before (slice_set laid (slot_at geometry 1) zero_block) × (gate geometry (slice_set laid (slot_at geometry 1) zero_block) 1 ≡ zero_block)
first_closed geometry before laid enough lays =
    let put : gate geometry (slice_set laid (slot_at geometry 1) zero_block) 1 ≡ zero_block =
    gate_is geometry (slice_set laid (slot_at geometry 1) zero_block) 1 zero_block (slice_get-set_same laid (slot_at geometry 1) zero_block (omega (arith, enough, length-Lays geometry before laid lays))) in
    (record { laid = laid; lays = lays; differs = differs_set laid (slot_at geometry 1) zero_block; closed = ap is_open put ∙ zero_gate }, put)
