use Rattle.std.proofs.Common.{arith}
use Rattle.text_kit.proofs.WritesLemmas.{Writes-same}
use Rattle.nesc_monitor.proofs.InputLemmas.{guest_line, host_line}
use Rattle.nesc_monitor.proofs.inputs.tell_command.Goals as goal

pub returns-then-actor-eq0 : goal.returns-then-actor-eq0
returns-then-actor-eq0 g c = Writes-same _ _ _ _ _ _ _ _ (host_line c.args.actor _ c.args.index c.args.text.now (omega (arith, c.if-actor-eq0.true)) c.from.ensures) c.write_pieces.ensures

pub returns : goal.returns
returns g c =
    Writes-same _ _ _ _ _ _ _ _ (guest_line _ c.args.actor _ c.args.index c.args.text.now (omega (arith, c.if-actor-eq0.false)) c.from-2.ensures c.from-3.ensures) c.write_pieces-2.ensures
