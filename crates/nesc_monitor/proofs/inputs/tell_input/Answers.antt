use Rattle.text_kit.proofs.WritesLemmas.{Writes-same}
use Rattle.nesc_monitor.proofs.inputs.tell_input.Goals as goal

pub returns-in-BadToml : goal.returns-in-BadToml
returns-in-BadToml g c = Writes-same _ _ _ _ _ _ _ _ (simp c.in-BadToml.is) c.tell_kind.ensures
