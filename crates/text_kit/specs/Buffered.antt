-- What a buffered sink shows.
use Rattle.std.specs.Prelude.{ℕ, List, ◌∷◌, Option}
use Rattle.std.specs.Borrow.{GName}
use Rattle.nesc_base.specs.Sink.{Lent}
use Rattle.text_kit.specs.declared.buffered.Buffer.{Buffer}
use Rattle.text_kit.specs.declared.buffered.Buffered.{Buffered}
use Rattle.text_kit.specs.Known.{followed_by}

-- the sink that it hands its bytes on to
abbrev pub sink_of : {K : Type 0} → Buffered K → K
sink_of buffered = buffered.sink.now

-- the loan of that sink
abbrev pub lent_name : {K : Type 0} → Buffered K → GName
lent_name buffered = buffered.sink.ghost_name

-- what a buffer has gathered
abbrev pub gathered_in : Buffer → List ℕ
gathered_in buffer = buffer.bytes.items

-- what it has taken and not yet handed on
abbrev pub pending_of : {K : Type 0} → Buffered K → List ℕ
pending_of buffered = gathered_in buffered.buffer.now

-- what the sink has taken, and then what is pending
abbrev pub shown : {K : Type 0} → (K → Option (List ℕ)) → Buffered K → Option (List ℕ)
shown taken buffered = followed_by (taken (sink_of buffered)) (pending_of buffered)

-- what it is lent: the sink, and what that one is lent
abbrev pub lent_on : Lent → GName → Option (List ℕ) → Lent
lent_on behind name handed = record { loans = name ∷ behind.loans; handed = handed }
