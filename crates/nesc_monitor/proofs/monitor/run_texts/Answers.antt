use Rattle.std.proofs.Common.{refl}
use Rattle.nesc_monitor.proofs.RunningLemmas.{ComesOfRun-refused, ComesOfRun-steps}
use Rattle.nesc_monitor.proofs.monitor.run_texts.Goals as goal

pub returns-in-Ok-clause-runs : goal.returns-in-Ok-clause-runs
returns-in-Ok-clause-runs g c =
    ComesOfRun-steps c.open_and_step.result _ _ _ _ _ _ c.in-Ok.ensures.commands c.in-Ok.ensures.schedule c.in-Ok.ensures.read.0 c.in-Ok.ensures.read.1 c.open_and_step.ensures.steps

pub returns-in-Err-clause-runs : goal.returns-in-Err-clause-runs
returns-in-Err-clause-runs g c = ComesOfRun-refused c.in-Err.ending _ _ _ _ c.in-Err.ensures.refused record { same = refl; faults = refl } refl
