use Rattle.std.proofs.Common.{◌<◌, ◌≤◌, arith, length, refl}
use Rattle.std.proofs.lemmas.Option.{slice_get_within}
use Rattle.extent_node.specs.Entries.{most_entries}
use Rattle.extent_node.proofs.Listed.{are_node_words, zero_behind_two}
use Rattle.extent_node.proofs.write.words_of.Goals as goal

pub loop-k-init : goal.loop-k-init
loop-k-init c = (
  refl,
  c.word_of.ensures,
  omega arith,
  λ j entry less stands. absurd (omega arith),
  λ i behind. zero_behind_two c.word_of.result c.from.result i behind,
)

pub returns : goal.returns
returns c =
    let few : length c.args.entries.now ≤ most_entries = omega arith in
    are_node_words c.loop-k.words c.args.kind c.args.entries.now c.loop-k.invariant.0 few c.loop-k.invariant.1
    c.loop-k.invariant.2
    (λ k entry stands.
    let within : k < length c.args.entries.now = slice_get_within c.args.entries.now k entry stands in
    let less : k < c.loop-k.k = omega arith in
    c.loop-k.invariant.3 k entry less stands)
    (λ i behind. c.loop-k.invariant.4 i (omega arith))
