-- What a whole call says of a count of failures, from what each of its calls says.
use Rattle.std.proofs.Common.{ℕ, ◌+◌, ◌≤◌, inl, inr, arith}
use Rattle.nesc_base.specs.Fault.{HasCause, RoseBy}

-- what rose from one moment to the next, and on to a third
pub rose_on : (m n a b c : ℕ) → b ≤ c → RoseBy m a b → RoseBy n b c → RoseBy (m + n) a c
rose_on m n a b c later (inl first) (inl second) = inl (omega arith)
rose_on m n a b c later (inl first) (inr ended) = inr ended
rose_on m n a b c later (inr ended) second = inr (omega arith)

-- what rose from a later count rose from an earlier one
pub rose_earlier : (n a b c : ℕ) → a ≤ b → RoseBy n b c → RoseBy n a c
rose_earlier n a b c before (inl rose) = inl (omega arith)
rose_earlier n a b c before (inr ended) = inr ended

-- a call fails with the cause of its last one
pub cause_on : (a b c : ℕ) (failed : Type 0) → a ≤ b → HasCause b c failed → HasCause a c failed
cause_on a b c failed before cause = record {
  never_falls = omega (arith, cause.never_falls);
  rose = λ told. rose_earlier 1 a b c before (cause.rose told);
}
