use Rattle.std.proofs.Common.{subst, rules}
use Rattle.text_kit.specs.Buffered.{sink_of}
use Rattle.nesc_monitor.specs.Steps.{RunsBy}
use Rattle.nesc_monitor.proofs.monitor.write_out.Goals as goal

-- the sink behind the one that gathers is the caller's
pub returns-clause-runs : goal.returns-clause-runs
returns-clause-runs g c tells kept state placed is =
    let told = c.take_words.ensures.runs tells kept state placed is in
    let Runs : g.row.K.Denot → Type 0 = λ sink. RunsBy c.take_words.result c.args.session.now.setting placed.now state c.args.accepted.now.commands.script c.args.accepted.now.schedule
    (g.D.Disk.known c.args.image.now) (g.D.Disk.known c.take_words.new.disk) (g.K.Sink.taken (sink_of c.new-buffered.result)) (g.K.Sink.taken sink) in
    rw (← c.new-buffered.ensures.sink) (subst Runs (search rules) told)
