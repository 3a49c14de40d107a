-- Each word before the one that is written has all its bits set, and the others are as they were.
use Rattle.std.proofs.Common.{◌≡◌}
use Rattle.block_map.proofs.BitLemmas.{HasFull}
use Rattle.block_map.proofs.free_bits.FreeBits.set_all.Given as goal

abbrev pub invariant-loop-w : goal.invariant-loop-w
invariant-loop-w l = record {
  words : HasFull l.initial.self-inside.words.items l.self-inside.words.items l.w;
  len : l.self-inside.len ≡ l.initial.self-inside.len;
  hint : l.self-inside.hint ≡ 0;
}
