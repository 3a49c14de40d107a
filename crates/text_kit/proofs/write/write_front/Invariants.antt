use Rattle.std.proofs.Common.{length, ◌-◌, ◌≤◌, take}
use Rattle.nesc_base.specs.Sink.{Appends, StaysLent}
use Rattle.text_kit.proofs.write.write_front.Given as goal

-- the front of the text is taken, and nothing is exchanged
abbrev pub invariant-loop-done : goal.invariant-loop-done
invariant-loop-done g l = record {
  within : l.done ≤ length l.text;
  taken : Appends (g.K.Sink.taken l.initial.sink) (g.K.Sink.taken l.sink) (take l.done l.text);
  never_falls : g.K.Sink.faults l.initial.sink ≤ g.K.Sink.faults l.sink;
  stays_lent : StaysLent (g.K.Sink.lent l.initial.sink) (g.K.Sink.lent l.sink);
}

abbrev pub decreases-loop-done : goal.decreases-loop-done
decreases-loop-done g l = length l.text - l.done
