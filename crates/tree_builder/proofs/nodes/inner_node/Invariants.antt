use Rattle.std.proofs.Common.{◌≡◌, ◌+◌, ◌*◌, map}
use Rattle.std.specs.List.{range_with_len}
use Rattle.tree_shape.specs.Shape.{border}
use Rattle.tree_words.specs.Shown.{child_entry}
use Rattle.tree_builder.specs.Ways.{only}
use Rattle.tree_builder.proofs.nodes.inner_node.Given as goal

abbrev pub invariant-loop-i : goal.invariant-loop-i
invariant-loop-i g l =
    let runs = g.R.Runs.runs l.runs in
    let layout = only l.fn.level (l.fn.k * 10 + l.fn.slot) l.fn.child in
    record {
      so_far : l.entries ≡ map (child_entry runs layout l.fn.level) (range_with_len (l.fn.k * 10) l.i);
      begins : l.begin ≡ border runs l.fn.level (l.fn.k * 10 + l.i);
    }
