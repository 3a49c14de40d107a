use Rattle.std.proofs.Common.{◌≡◌, ◌+◌, ◌<◌, ◌≤◌, ◌⊎◌, arith, inl, inr, subst}
use Rattle.nesc_base.specs.Geometry.{total}
use Rattle.slot_layout.proofs.ListsOf.{list_is_read, no_target, none_whole, read_more, whole_so_far}
use Rattle.slot_layout.proofs.TargetsRead.{AreRead, number}
use Rattle.slot_layout.proofs.targets.list_of.Goals.{then-target-least-via-then-target-least, then-target-least-via-else-target-least+then-total-target}
use Rattle.slot_layout.proofs.targets.list_of.Goals as goal

pub returns-then-target-least : goal.returns-then-target-least
returns-then-target-least c = λ is.
    let geometry = c.args.geometry in
    let blocks = c.args.blocks.now in
    let count : c.number_at-count.result ≡ number blocks 0 = c.number_at-count.ensures.number (none_whole blocks) in
    let target : c.number_at-target.result ≡ number blocks (c.loop-i.i + 1) =
    c.number_at-target.ensures.number (whole_so_far geometry blocks c.loop-i.into c.loop-i.i c.loop-i.least c.loop-i.invariant) in
    let below : c.loop-i.i < number blocks 0 = omega arith in
    let bad : (c.number_at-target.result < c.loop-i.least) ⊎ (total geometry ≤ c.number_at-target.result) = elim c.then-target-least.branch [
      | then-target-least-via-then-target-least w ↦ inl w.if-target-least.true
      | then-target-least-via-else-target-least+then-total-target w ↦ inr (let at_end = w.if-total-target.true in omega arith)
    ] in
    no_target geometry blocks is.0 c.loop-i.into c.loop-i.i c.loop-i.least c.number_at-target.result c.requires.sizes is.1 c.loop-i.invariant below target bad

pub loop-i-preserved : goal.loop-i-preserved
loop-i-preserved c =
    let blocks = c.args.blocks.now in
    let whole = whole_so_far c.args.geometry blocks c.loop-i.into c.loop-i.i c.loop-i.least c.loop-i.invariant in
    read_more c.args.geometry blocks c.loop-i.into c.loop-i.i c.loop-i.least c.number_at-target.result c.loop-i.invariant (c.number_at-target.ensures.whole whole)
    (c.number_at-target.ensures.number whole) c.if-target-least.false (omega arith) (omega arith)

pub returns : goal.returns
returns c =
    let blocks = c.args.blocks.now in
    let all : c.loop-i.i ≡ c.number_at-count.result = omega arith in
    let count : c.number_at-count.result ≡ number blocks 0 = c.number_at-count.ensures.number (none_whole blocks) in
    let room = c.requires.room in (
      omega arith,
      list_is_read c.args.geometry blocks c.loop-i.into c.number_at-count.result c.loop-i.least c.requires.blocks count (omega arith) (omega arith)
          (subst (λ n. AreRead c.args.geometry blocks c.loop-i.into n c.loop-i.least) all c.loop-i.invariant),
    )
