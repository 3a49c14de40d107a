use Rattle.std.proofs.Common.{◌≡◌, ◌≤◌, true, List, length}
use Rattle.nesc_base.specs.declared.block.Block.{Block}
use Rattle.nesc_base.specs.Disk.{Goes}
use Rattle.nesc_base.specs.Sink.{Appends}
use Rattle.plain_machine.specs.Placing.{Placed}
use Rattle.plain_machine.specs.State.{State}
use Rattle.nesc_session.specs.Resting.{IsIn}
use Rattle.text_kit.specs.Buffered.{lent_name, sink_of}
use Rattle.nesc_monitor.specs.Steps.{IsUnderWay, out_of}
use Rattle.nesc_monitor.proofs.StepsLemmas.{TellsFirst}
use Rattle.nesc_monitor.proofs.steps.take_words.Given as goal

-- the first words are taken and told
abbrev pub invariant-loop-word : goal.invariant-loop-word
invariant-loop-word g l = record {
  under_way : IsUnderWay l.session l.commands l.spare (g.D.Disk.known l.disk);
  setting : l.session.setting ≡ l.initial.session.setting;
  first : (g.D.Disk.known l.initial.disk).tells ≡ true → (kept : List Block) (state : State) (placed : Placed) → IsIn l.initial.session (g.D.Disk.known l.initial.disk) kept state placed
      → TellsFirst Appends l.initial.session.setting placed.now state l.initial.commands.script l.initial.schedule l.session (g.D.Disk.known l.initial.disk) (g.D.Disk.known l.disk) l.commands.script l.schedule
      (out_of g.K.Sink.taken l.initial.buffered) (out_of g.K.Sink.taken l.buffered);
  lent : lent_name l.buffered ≡ lent_name l.initial.buffered;
  goes : Goes (g.D.Disk.known l.initial.disk) (g.D.Disk.known l.disk);
  keeps : g.D.Disk.keeps l.initial.disk l.disk;
  disk_faults : (g.D.Disk.known l.initial.disk).faults ≤ (g.D.Disk.known l.disk).faults;
  sink_faults : g.K.Sink.faults (sink_of l.initial.buffered) ≤ g.K.Sink.faults (sink_of l.buffered);
}

abbrev pub decreases-loop-word : goal.decreases-loop-word
decreases-loop-word g l = length l.schedule
