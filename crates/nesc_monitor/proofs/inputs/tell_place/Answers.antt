use Rattle.std.specs.Fmt.{decimal}
use Rattle.text_kit.proofs.WritesLemmas.{Writes-same}
use Rattle.nesc_monitor.proofs.InputLemmas.{place_line}
use Rattle.nesc_monitor.proofs.inputs.tell_place.Goals as goal

pub returns : goal.returns
returns g c = Writes-same _ _ _ _ _ _ _ _ (place_line c.args.text.now c.args.kind.now (decimal c.args.first) (decimal c.args.second)) c.write_pieces.ensures
