use Rattle.std.proofs.Common.{◌≡◌, ◌-◌, ◌*◌, ◌<◌, min, [], ◌∷◌, ◌++◌, length, sym, ap, ◌∙◌, subst, arith}
use Rattle.extent_node.specs.Rules.{AreLeafEntries}
use Rattle.extent_node.specs.Words.{node_words}
use Rattle.extent_node.specs.declared.node.Kind.TheVariants as kind
use Rattle.tree_words.specs.Shown.{leaf_entries}
use Rattle.tree_words.proofs.NodeWords.{keep_entry_rules}
use Rattle.tree_builder.proofs.Filling.{leaf_all, leaf_entry_at, take_more}
use Rattle.tree_builder.proofs.nodes.leaf_node.Goals as goal

pub loop-i-preserved : goal.loop-i-preserved
loop-i-preserved g c =
    let runs = g.R.Runs.runs c.args.runs.now in
    let less : c.loop-i.i < 10 = omega arith in
    let is = leaf_entry_at runs c.args.leaf c.loop-i.i c.run_entry.result less c.run_entry.ensures in
    c.push.ensures ∙ ap (λ es. es ++ c.run_entry.result ∷ []) c.loop-i.invariant
    ∙ sym (take_more (leaf_entries runs c.args.leaf) c.loop-i.i c.run_entry.result is)

pub write_node-requires : goal.write_node-requires
write_node-requires g c =
    let runs = g.R.Runs.runs c.args.runs.now in
    let all : c.loop-i.i ≡ min 10 (length runs - c.args.leaf * 10) = omega arith in
    let same = c.loop-i.invariant ∙ leaf_all runs c.args.leaf c.loop-i.i all in
    subst AreLeafEntries (sym same) ((keep_entry_rules runs (λ _ _. 0) c.count-count.ensures.are).leaf c.args.leaf)

pub returns : goal.returns
returns g c =
    let runs = g.R.Runs.runs c.args.runs.now in
    let all : c.loop-i.i ≡ min 10 (length runs - c.args.leaf * 10) = omega arith in
    let same = c.loop-i.invariant ∙ leaf_all runs c.args.leaf c.loop-i.i all in
    c.write_node.ensures.words ∙ ap (λ es. node_words kind.Leaf es) same
