use Rattle.std.proofs.Common.{◌≡◌, map, take}
use Rattle.std.specs.List.{All}
use Rattle.nesc_session.specs.Requests.{IsClearWhereIdle}
use Rattle.nesc_session.proofs.Bits.{number_of}
use Rattle.nesc_session.proofs.FunctionBits.{waits}
use Rattle.nesc_session.proofs.functions.pending.Given as goal

-- the bits are those of the functions so far
abbrev pub invariant-loop-index : goal.invariant-loop-index
invariant-loop-index l = record {
  bits : l.bits ≡ number_of (map waits (take l.index l.requests));
  clear : All IsClearWhereIdle (take l.index l.requests);
}
