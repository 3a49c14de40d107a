use Rattle.std.proofs.Common.{inr, ◌≡◌, ◌≢◌, ℕ, ◌+◌, ◌-◌, ◌*◌, ◌<◌, ◌≤◌, [], ◌∷◌, ◌++◌, length, map, sym, ap, ◌∙◌, subst, arith}
use Rattle.std.specs.List.{range_with_len}
use Rattle.std.proofs.lemmas.List.FromFn.{length-map-range_with_len, map-range_with_len_more}
use Rattle.extent_node.specs.Rules.{AreInnerEntries}
use Rattle.extent_node.specs.Words.{node_words}
use Rattle.extent_node.specs.declared.entries.Entry.{Entry}
use Rattle.extent_node.specs.declared.node.Kind.TheVariants as kind
use Rattle.tree_shape.specs.Shape.{border, children}
use Rattle.tree_shape.proofs.Beginnings.{few_runs}
use Rattle.tree_shape.proofs.Borders.{border_rising}
use Rattle.tree_words.specs.Shown.{child_entry}
use Rattle.tree_builder.specs.Ways.{only}
use Rattle.tree_words.proofs.NodeWords.{keep_entry_rules}
use Rattle.tree_words.proofs.NodeWords.{with_node_other}
use Rattle.tree_builder.proofs.Filling.{entry_is, few_children, with_here}
use Rattle.tree_builder.proofs.nodes.inner_node.Goals as goal
use Rattle.tree_builder.proofs.nodes.inner_node.Goals.{then-i-slot, else-i-slot}

pub children_of-i-end-requires-clause-few : goal.children_of-i-end-requires-clause-few
children_of-i-end-requires-clause-few g c =
    omega (arith, c.count-count.ensures.count, few_runs (g.R.Runs.runs c.args.runs.now) c.count-count.ensures.are)

pub overflow_sub-end : goal.overflow_sub-end
overflow_sub-end g c =
    let runs = g.R.Runs.runs c.args.runs.now in
    let at : ℕ = c.args.k * 10 + c.loop-i.i in
    let on : at ≤ at + 1 = omega arith in
    omega (arith, c.loop-i.invariant.begins, c.border_of-end.ensures, border_rising runs c.count-count.ensures.are c.args.level at (at + 1) on)

pub push-requires : goal.push-requires
push-requires g c =
    let runs = g.R.Runs.runs c.args.runs.now in
    let layout = only c.args.level (c.args.k * 10 + c.args.slot) c.args.child in
    let long = ap length c.loop-i.invariant.so_far
    ∙ length-map-range_with_len (child_entry runs layout c.args.level) (c.args.k * 10) c.loop-i.i in
    let few : c.children_of-i-end.result ≤ 10 = subst (λ (n : ℕ). n ≤ 10) (sym c.children_of-i-end.ensures) (few_children _) in
    let less : c.loop-i.i < c.children_of-i-end.result = omega arith in
    omega (arith, long, few, less)

pub loop-i-preserved : goal.loop-i-preserved
loop-i-preserved g c =
    let runs = g.R.Runs.runs c.args.runs.now in
    let at : ℕ = c.args.k * 10 + c.loop-i.i in
    let there : ℕ = c.args.k * 10 + c.args.slot in
    let layout = only c.args.level there c.args.child in
    let place : c.if-i-slot.place ≡ layout c.args.level at = elim c.if-i-slot.branch [
      | then-i-slot w ↦
          let alike : at ≡ there = omega arith in
          w.place-is ∙ sym (with_here (λ _ _. 0) c.args.level there c.args.child c.args.level at (omega arith) alike)
      | else-i-slot w ↦
          let apart : at ≢ there = omega arith in
          w.place-is ∙ sym (with_node_other (λ _ _. 0) c.args.level there c.args.child c.args.level at (inr apart))
    ] in
    let entry = entry_is runs layout c.args.level at c.loop-i.begin c.border_of-end.result c.if-i-slot.place c.loop-i.invariant.begins c.border_of-end.ensures place in
    let same : at ≡ at = omega arith in
    let put : Entry = record { first = c.loop-i.begin; count = c.border_of-end.result - c.loop-i.begin; place = c.if-i-slot.place } in
    let next : at + 1 ≡ c.args.k * 10 + (c.loop-i.i + 1) = omega arith in
    let more = map-range_with_len_more (child_entry runs layout c.args.level) (c.args.k * 10) c.loop-i.i at same in
    record {
      so_far = c.push.ensures ∙ ap (λ es. es ++ put ∷ []) c.loop-i.invariant.so_far
          ∙ ap (λ e. map (child_entry runs layout c.args.level) (range_with_len (c.args.k * 10) c.loop-i.i) ++ e ∷ []) entry ∙ sym more;
      begins = c.border_of-end.ensures ∙ ap (λ (j : ℕ). border runs c.args.level j) next;
    }

pub write_node-requires : goal.write_node-requires
write_node-requires g c =
    let runs = g.R.Runs.runs c.args.runs.now in
    let layout = only c.args.level (c.args.k * 10 + c.args.slot) c.args.child in
    let end : c.loop-i.i ≡ c.children_of-i-end.result = omega arith in
    let all : c.loop-i.i ≡ children (length runs) c.args.level c.args.k
    = end ∙ c.children_of-i-end.ensures ∙ ap (λ (n : ℕ). children n c.args.level c.args.k) c.count-count.ensures.count in
    let same = c.loop-i.invariant.so_far ∙ ap (λ (n : ℕ). map (child_entry runs layout c.args.level) (range_with_len (c.args.k * 10) n)) all in
    subst AreInnerEntries (sym same) ((keep_entry_rules runs layout c.count-count.ensures.are).inner c.args.level c.args.k c.requires.among)

pub returns : goal.returns
returns g c =
    let runs = g.R.Runs.runs c.args.runs.now in
    let layout = only c.args.level (c.args.k * 10 + c.args.slot) c.args.child in
    let end : c.loop-i.i ≡ c.children_of-i-end.result = omega arith in
    let all : c.loop-i.i ≡ children (length runs) c.args.level c.args.k
    = end ∙ c.children_of-i-end.ensures ∙ ap (λ (n : ℕ). children n c.args.level c.args.k) c.count-count.ensures.count in
    let same = c.loop-i.invariant.so_far ∙ ap (λ (n : ℕ). map (child_entry runs layout c.args.level) (range_with_len (c.args.k * 10) n)) all in
    c.write_node.ensures.words ∙ ap (λ es. node_words kind.Inner es) same
