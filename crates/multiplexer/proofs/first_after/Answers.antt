use Rattle.std.proofs.Common.{◌/◌, ◌<◌, ◌^◌, arith}
use Rattle.std.proofs.lemmas.Nat.{shr_le}
use Rattle.multiplexer.proofs.Bits.{first_is, none_after}
use Rattle.multiplexer.proofs.first_after.Goals as goal

pub returns-then-after-eq0 : goal.returns-then-after-eq0
returns-then-after-eq0 c = none_after c.args.last c.args.bits c.if-after-eq0.true

pub returns : goal.returns
returns c =
    let short : c.args.bits / 2 ^ c.args.last < 2 ^ 32 = omega (arith, shr_le c.args.bits c.args.last, c.ranges.bits.fits) in
    first_is c.args.last c.args.bits (omega (arith, c.if-after-eq0.false)) short
