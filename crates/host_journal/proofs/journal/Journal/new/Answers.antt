use Rattle.std.proofs.Common.{◌-◌, ap, ◌∙◌}
use Rattle.nesc_base.specs.Geometry.{total}
use Rattle.host_journal.proofs.Sounding.{sound-empty}
use Rattle.host_journal.proofs.journal.Journal.new.Goals as goal

pub invariant_of-result : goal.invariant_of-result
invariant_of-result c =
    let made = c.in_ok-new.ensures in
    sound-empty c.args.geometry c.in_ok-new.field-0 c.in_ok-new-2.field-0 c.in_ok-new-2.ensures.geometry c.in_ok-new-2.ensures.ready
    (ap (λ s. s.staged) made)
    (ap (λ s. s.from) made ∙ c.table_at-2.ensures)
    (ap (λ s. s.places) made ∙ ap (λ n. n - c.table_at.result) c.total.ensures ∙ ap (λ n. total c.args.geometry - n) c.table_at.ensures)
    (ap (λ s. s.room) made ∙ c.slot_room.ensures)
