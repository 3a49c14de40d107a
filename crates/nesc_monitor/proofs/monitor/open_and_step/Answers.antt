use Rattle.std.proofs.Common.{Err, refl, ap, ◌∙◌}
use Rattle.nesc_monitor.specs.Watched.{watch}
use Rattle.nesc_monitor.proofs.StartingLemmas.{starts_not, starts_to_end, starts_to_fault}
use Rattle.nesc_monitor.proofs.monitor.open_and_step.Goals as goal

pub returns-in-Err-clause-steps : goal.returns-in-Err-clause-steps
returns-in-Err-clause-steps g c =
    let call = c.in-Err.ensures in
    rw c.of_opening.ensures
    (starts_not g.D.Disk.known _ _ c.args.accepted.commands.script c.args.accepted.schedule (watch g.K.Sink.taken g.K.Sink.faults c.args.out.now c.args.out.now) refl c.in-Err.fault call.leaves
    (record { never_falls = call.cause.never_falls; rose = λ is. call.cause.rose (ap Err is) }) (λ is. call.memory (ap Err is)) (λ tells image is. call.refused tells image (ap Err is)))

pub returns-in-Ok-write_out-clause-steps : goal.returns-in-Ok-write_out-clause-steps
returns-in-Ok-write_out-clause-steps g c =
    let begun = c.in-Ok-begin.ensures in
    starts_to_end c.in-Ok-begin.session c.args.accepted.commands.script c.args.accepted.schedule _ _ _ (watch g.K.Sink.taken g.K.Sink.faults c.args.out.now c.write_out.new.out) begun.goes.still_tells begun.cause.never_falls
    (begun.machine ∙ c.machine-machine.ensures.machine) begun.start c.in-Ok-write_out.ensures.runs

pub returns-clause-steps : goal.returns-clause-steps
returns-clause-steps g c =
    let begun = c.in-Ok-begin.ensures in
    let call = c.in-Err-write_out.ensures in
    rw c.of_run.ensures
    (starts_to_fault c.in-Ok-begin.session c.args.accepted.commands.script c.args.accepted.schedule _ _ _ (watch g.K.Sink.taken g.K.Sink.faults c.args.out.now c.write_out.new.out) begun.goes.still_tells begun.cause.never_falls
    (begun.machine ∙ c.machine-machine.ensures.machine) begun.start c.in-Err-write_out.fault (record { never_falls = call.device.never_falls; rose = λ is. call.device.rose (ap Err is) })
    (record { never_falls = call.write.never_falls; rose = λ is. call.write.rose (ap Err is) }) call.runs)
