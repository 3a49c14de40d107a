use Rattle.std.proofs.Common.{ap, ◌∙◌, Option, set, arith}
use Rattle.std.proofs.lemmas.List.Edits.{map_over_more}
use Rattle.btlb_cache.specs.declared.slots.Held.{Held}
use Rattle.btlb_cache.specs.Slots.{slot_at, without}
use Rattle.btlb_cache.proofs.Placed.{read_again}
use Rattle.btlb_cache.proofs.slots.forget.Goals as goal

pub loop-slot-preserved : goal.loop-slot-preserved
loop-slot-preserved c =
    let slots = c.loop-slot.slots in
    let at = c.loop-slot.slot-index in
    ap (λ (slot : Option Held). set slots at slot) c.slot_without.ensures
    ∙ map_over_more (without c.args.f.0) c.args.slots.now slots at (slot_at slots at) (omega arith) c.loop-slot.invariant (read_again slots at)
