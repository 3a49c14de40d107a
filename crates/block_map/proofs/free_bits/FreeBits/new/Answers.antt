-- `set_all` sets as many bits as there are.
use Rattle.std.proofs.Common.{ℕ, replicate, true, ap, ◌∙◌}
use Rattle.block_map.proofs.BitLemmas.{length_view}
use Rattle.block_map.proofs.free_bits.FreeBits.new.Goals as goal

pub returns : goal.returns
returns c = c.set_all.ensures ∙ ap (λ (n : ℕ). replicate n true) (length_view c.in_ok-words.words.items c.args.len)
