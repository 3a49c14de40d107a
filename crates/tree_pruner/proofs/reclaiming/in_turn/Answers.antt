use Rattle.std.proofs.Common.{sym}
use Rattle.tree_pruner.proofs.Turns.{turn_at}
use Rattle.tree_pruner.proofs.reclaiming.in_turn.Goals as goal

pub returns-clause-turn : goal.returns-clause-turn
returns-clause-turn c = sym (turn_at c.args.f.0 c.args.turn c.requires.function c.requires.among)
