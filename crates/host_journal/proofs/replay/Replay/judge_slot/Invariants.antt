use Rattle.std.proofs.Common.{◌≡◌, length, take}
use Rattle.host_journal.specs.Replaying.{AreLow}
use Rattle.host_journal.proofs.Sources.{AreTaken}
use Rattle.host_journal.proofs.replay.Replay.judge_slot.Given as goal

-- where the blocks for the first targets stand is told
abbrev pub invariant-loop-i : goal.invariant-loop-i
invariant-loop-i g l = record {
  geometry : l.self.geometry ≡ l.initial.self.geometry;
  list : l.self.list ≡ l.initial.self.list;
  targets : l.self.targets ≡ l.initial.self.targets;
  long : length l.self.sources.items ≡ length l.initial.self.sources.items;
  low : AreLow l.initial.self.geometry l.self.sources.items;
  taken : AreTaken l.initial.self.geometry l.k (take l.count l.initial.self.targets.items) l.i l.initial.self.sources.items l.self.sources.items;
}
