use Rattle.std.proofs.Common.{◌≡◌, ◌+◌, ap, arith, length}
use Rattle.std.proofs.lemmas.List.FromFn.{length-map-range_with_len, map-range_with_len_more}
use Rattle.extent_node.specs.Words.{entry_at}
use Rattle.extent_node.proofs.read.entries_in.Goals as goal

pub push-requires : goal.push-requires
push-requires c =
    omega (arith, ap length c.loop-k.invariant, length-map-range_with_len (entry_at c.args.words.now) 0 c.loop-k.k, c.requires.few)

pub loop-k-preserved : goal.loop-k-preserved
loop-k-preserved c =
    let same : 0 + c.loop-k.k ≡ c.loop-k.k = omega arith in
    let more = map-range_with_len_more (entry_at c.args.words.now) 0 c.loop-k.k c.loop-k.k same in
    rw more cc
