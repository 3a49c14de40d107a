use Rattle.std.proofs.Common.{◌+◌, ◌<◌, ◌≤◌, sym, subst, arith}
use Rattle.nesc_base.specs.Geometry.{area_from}
use Rattle.host_journal.specs.Journal as value
use Rattle.host_journal.specs.Staged.{MayStage}
use Rattle.host_journal.proofs.Sounding.{room_for_one, sound-staged, weight-before, weight-behind}
use Rattle.host_journal.proofs.journal.Journal.stage.Goals as goal

pub put-requires-clause-room : goal.put-requires-clause-room
put-requires-clause-room c =
    room_for_one c.self.invariant c.args.at
    (subst (λ (journal : value.Journal). MayStage journal.geometry c.args.at) (sym c.self.view_is) c.requires.place)
    (subst (λ (journal : value.Journal). area_from journal.geometry ≤ c.args.at → journal.count < journal.geometry.slack) (sym c.self.view_is) c.requires.room)

pub invariant_of-self : goal.invariant_of-self
invariant_of-self c =
    let one = weight-behind c.self.inside.geometry c.args.at (omega (arith, c.if-area_from-at.true, c.area_from.ensures)) in
    sound-staged c.self.invariant c.args.at c.args.block.now c.put.new.self (c.self.inside.count + 1)
    (subst (λ (journal : value.Journal). MayStage journal.geometry c.args.at) (sym c.self.view_is) c.requires.place)
    (subst (λ (journal : value.Journal). area_from journal.geometry ≤ c.args.at → journal.count < journal.geometry.slack) (sym c.self.view_is) c.requires.room)
    c.put.ensures (omega (arith, one))

pub invariant_of-self-else-area_from-at : goal.invariant_of-self-else-area_from-at
invariant_of-self-else-area_from-at c =
    let none = weight-before c.self.inside.geometry c.args.at (omega (arith, c.if-area_from-at.false, c.area_from.ensures)) in
    sound-staged c.self.invariant c.args.at c.args.block.now c.put.new.self c.self.inside.count
    (subst (λ (journal : value.Journal). MayStage journal.geometry c.args.at) (sym c.self.view_is) c.requires.place)
    (subst (λ (journal : value.Journal). area_from journal.geometry ≤ c.args.at → journal.count < journal.geometry.slack) (sym c.self.view_is) c.requires.room)
    c.put.ensures (omega (arith, none))
