-- What it is to write a text to a sink.
use Rattle.std.specs.Prelude.{ℕ, List, Option, Result, OnOk, IsErr}
use Rattle.nesc_base.specs.Fault.{HasCause}
use Rattle.nesc_base.specs.Sink.{Appends, Lent, StaysLent}
use Rattle.nesc_base.specs.declared.sink.WriteFault.{WriteFault}
use Rattle.text_kit.specs.Known.{AppendsPrefix}

-- With Ok the sink has taken all of the text, and else the first bytes of it, since it failed. It stays lent.
pub record Writes {K : Type 0} (taken : K → Option (List ℕ)) (faults : K → ℕ) (lent : K → Lent) (old new : K)
    (text : List ℕ) (result : Result (Unit {0}) WriteFault) : Type 0 where
  pub all : OnOk result (Appends (taken old) (taken new) text)
  pub first : AppendsPrefix (taken old) (taken new) text
  pub stays_lent : StaysLent (lent old) (lent new)
  pub cause : HasCause (faults old) (faults new) (IsErr result)
