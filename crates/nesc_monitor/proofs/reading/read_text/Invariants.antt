use Rattle.std.proofs.Common.{◌-◌, ◌≤◌, vec_len}
use Rattle.nesc_monitor.specs.Reading.{GivesFront}
use Rattle.nesc_monitor.proofs.reading.read_text.Given as goal

-- what was read so far stood in front
abbrev pub invariant-loop-chunk : goal.invariant-loop-chunk
invariant-loop-chunk g l = record {
  front : GivesFront l.text.items (g.S.Source.left l.initial.source) (g.S.Source.left l.source);
  within : vec_len l.text ≤ 16777217;
  never_falls : g.S.Source.faults l.initial.source ≤ g.S.Source.faults l.source;
}

abbrev pub decreases-loop-chunk : goal.decreases-loop-chunk
decreases-loop-chunk g l = 16777217 - vec_len l.text
