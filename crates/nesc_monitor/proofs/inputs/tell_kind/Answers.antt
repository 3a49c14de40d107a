use Rattle.std.proofs.Common.{append_assoc}
use Rattle.text_kit.proofs.WritesLemmas.{Writes-same}
use Rattle.nesc_monitor.proofs.inputs.tell_kind.Goals as goal

pub returns : goal.returns
returns g c = Writes-same _ _ _ _ _ _ _ _ (simp append_assoc) c.write_pieces.ensures
