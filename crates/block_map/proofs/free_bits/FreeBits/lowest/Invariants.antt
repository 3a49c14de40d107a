-- No bit before the word looked at is set.
use Rattle.std.proofs.Common.{◌≡◌, ℕ, ◌<◌, ◌*◌, false}
use Rattle.block_map.specs.Bits.{bit_at}
use Rattle.block_map.proofs.free_bits.FreeBits.lowest.Given as goal

abbrev pub invariant-loop-w : goal.invariant-loop-w
invariant-loop-w l = (k : ℕ) → k < 64 * l.w → bit_at l.self-inside.words.items k ≡ false
