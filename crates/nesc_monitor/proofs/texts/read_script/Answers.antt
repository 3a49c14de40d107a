use Rattle.std.proofs.lemmas.Result.{IfErr-weaker}
use Rattle.nesc_monitor.proofs.TextLemmas.{AreRefusedFor-judged}
use Rattle.nesc_monitor.proofs.texts.read_script.Goals as goal

pub returns-in-Ok-clause-refused : goal.returns-in-Ok-clause-refused
returns-in-Ok-clause-refused g c =
    IfErr-weaker c.judge.result _ _
    (λ ending refusal. AreRefusedFor-judged ending _ _ _ _ c.in-Ok.ensures.commands c.in-Ok.ensures.schedule c.in-Ok.ensures.within.0 c.in-Ok.ensures.within.1 refusal)
    c.judge.ensures.refusal
