use Rattle.std.proofs.Common.{◌≡◌, ℕ, ◌+◌, ◌-◌, [], Err, List, inr, take, subst, sym, ap, ◌∙◌, arith, rules}
use Rattle.nesc_base.specs.declared.block.Block.{Block}
use Rattle.nesc_base.specs.Geometry.{list_blocks, slot_at, slot_room}
use Rattle.image_layout.specs.declared.fault.ImageFault.TheVariants.{BadList}
use Rattle.slot_layout.specs.Gate.{is_open}
use Rattle.slot_layout.specs.Slots.{AreOpen, LacksList, LaidOver, gate, laid_over, list_at}
use Rattle.slot_layout.specs.Targets.{IsListOf}
use Rattle.slot_layout.proofs.SlotLemmas.{AreOpen-more, LaidOver-more, gate_within, get_or-block_at, take-blocks_from}
use Rattle.image_layout.proofs.slots.lay_slots.Goals as goal
use Rattle.image_layout.proofs.slots.lay_slots.Goals.{After-is_open}

-- the gate that was looked at is that of the slot
gate_here : (c : After-is_open) → is_open (gate c.args.geometry c.args.image.now c.loop-k.k) ≡ c.is_open.result
gate_here c =
    let image : List Block = c.args.image.now in
    let d : Block = record { 0 = [] } in
    let within = gate_within c.args.geometry image c.loop-k.k c.requires.divided.enough (omega arith) in
    ap is_open (sym (get_or-block_at image c.slot_at-gate_at.result (slot_at c.args.geometry c.loop-k.k) d c.slot_at-gate_at.ensures within)) ∙ sym c.is_open.ensures

pub returns-then-not-is_open : goal.returns-then-not-is_open
returns-then-not-is_open c =
    let this : c.loop-k.k - 1 + 1 ≡ c.loop-k.k = omega arith in
    let here = gate_here (goal.at.returns-then-not-is_open c).After-is_open in
    record {
      slots = c.loop-k.k - 1;
      replayed = record {
        most = omega arith;
        opened = c.loop-k.invariant.opened;
        closed = inr (ap (λ n. is_open (gate c.args.geometry c.args.image.now n)) this ∙ here ∙ c.if-not-is_open.true);
      };
      over = c.loop-k.invariant.over;
    }

pub returns-in_err-count : goal.returns-in_err-count
returns-in_err-count c =
    let image : List Block = c.args.image.now in
    let before : ℕ = c.loop-k.k - 1 in
    let this : c.loop-k.k ≡ before + 1 = omega arith in
    let here = gate_here (goal.at.returns-in_err-count c).After-is_open in
    let list_from : ℕ = c.slot_at-gate_at.result + 1 in
    let begins : list_from ≡ list_at c.args.geometry (before + 1) = ap (λ n. n + 1) (c.slot_at-gate_at.ensures ∙ ap (slot_at c.args.geometry) this) in
    let list_is = take-blocks_from image list_from (list_from + c.list_blocks.result) (list_at c.args.geometry (before + 1)) (list_blocks c.args.geometry)
    begins (omega (arith, begins, c.list_blocks.ensures)) in
    let no_list = rw c.in_err-count.ensures.ok_part at c.list_of.ensures in
    let lacks : LacksList c.args.geometry image list_from = record {
      before = before;
      laid = c.loop-k.laid;
      over = c.loop-k.invariant.over;
      most = omega arith;
      opened = AreOpen-more c.args.geometry image before c.loop-k.k this c.loop-k.invariant.opened (here ∙ c.if-not-is_open.false);
      none = λ targets is. no_list (targets, subst (λ (blocks : List Block). IsListOf c.args.geometry blocks targets) (sym list_is) is);
      at = begins;
    } in
    let gives : c.from_residual.result ≡ Err c.in_err-count.field-0.0 = search rules in
    let fault_is : c.in_err-count.field-0.0 ≡ BadList list_from = let value = rw c.in_err-count.ensures.ok_part at c.in_err-count.ensures.value in cc in
    rw (gives, fault_is) (c.args.geometry, c.requires.divided, lacks)

pub loop-k-preserved : goal.loop-k-preserved
loop-k-preserved c =
    let image : List Block = c.args.image.now in
    let before : ℕ = c.loop-k.k - 1 in
    let this : c.loop-k.k ≡ before + 1 = omega arith in
    let next : before + 1 ≡ c.loop-k.k + 1 - 1 = omega arith in
    let here = gate_here (goal.at.loop-k-preserved c).After-is_open in
    let list_from : ℕ = c.slot_at-gate_at.result + 1 in
    let fresh_from : ℕ = list_from + c.list_blocks.result in
    let begins : list_from ≡ list_at c.args.geometry c.loop-k.k = ap (λ n. n + 1) c.slot_at-gate_at.ensures in
    let fresh_begins : fresh_from ≡ list_at c.args.geometry c.loop-k.k + list_blocks c.args.geometry = omega (arith, begins, c.list_blocks.ensures) in
    let list_is = take-blocks_from image list_from fresh_from (list_at c.args.geometry c.loop-k.k) (list_blocks c.args.geometry) begins fresh_begins in
    let fresh_is = take-blocks_from image fresh_from (fresh_from + c.slot_room.result)
    (list_at c.args.geometry c.loop-k.k + list_blocks c.args.geometry) (slot_room c.args.geometry) fresh_begins (omega (arith, fresh_begins, c.slot_room.ensures)) in
    let targets : List ℕ = take c.in_ok-count.count c.list_of.new.into in
    let list = rw c.in_ok-count.ensures.ok_part at c.list_of.ensures in
    let is = subst (λ (blocks : List Block). IsListOf c.args.geometry blocks targets) list_is list.1 in
    let put = c.lay_over.ensures ∙ ap (λ (blocks : List Block). laid_over targets blocks c.loop-k.laid) fresh_is in
    record {
      opened = subst (λ n. AreOpen c.args.geometry image n) next
          (AreOpen-more c.args.geometry image before c.loop-k.k this c.loop-k.invariant.opened (here ∙ c.if-not-is_open.false));
      over = subst (λ n. LaidOver c.args.geometry image n c.lay_over.new.blocks) next
          (LaidOver-more c.args.geometry image before c.loop-k.k c.loop-k.laid c.lay_over.new.blocks targets this c.loop-k.invariant.over is put);
    }
