use Rattle.std.proofs.Common.{◌≡◌, map, take}
use Rattle.std.specs.List.{All}
use Rattle.nesc_session.specs.Requests.{IsClearWhereIdle}
use Rattle.nesc_session.proofs.Bits.{number_of}
use Rattle.nesc_session.proofs.FunctionBits.{is_queued}
use Rattle.nesc_session.proofs.functions.queued.Given as goal

-- the bits are those of the functions so far
abbrev pub invariant-loop-index : goal.invariant-loop-index
invariant-loop-index l = record {
  bits : l.bits ≡ number_of (map is_queued (take l.index l.requests));
  clear : All IsClearWhereIdle (take l.index l.requests);
}
