use Rattle.std.proofs.Common.{◌-◌, Ok, take}
use Rattle.std.specs.List.{flat_map, range_with_len}
use Rattle.nesc_requests.specs.Machine.{most_functions}
use Rattle.text_kit.specs.Writes.{Writes}
use Rattle.trace_text.specs.Behind.{drop_of}
use Rattle.trace_text.proofs.trace.write_drops.Given as goal

-- the lines of the first functions are written
abbrev pub invariant-loop-f : goal.invariant-loop-f
invariant-loop-f g l = Writes g.K.Sink.taken g.K.Sink.faults g.K.Sink.lent l.initial.sink l.sink (flat_map (drop_of l.bits) (take (l.f - 1) (range_with_len 1 most_functions))) (Ok tt)
