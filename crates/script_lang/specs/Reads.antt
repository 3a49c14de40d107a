-- What a reader of a text answers, and steps of which one may be refused.
use Rattle.std.specs.Prelude.{◌≡◌, Option, Some, None, Result, Ok, Err}
use Rattle.script_lang.specs.declared.fault.InputFault.{InputFault}
use Rattle.script_lang.specs.declared.fault.InputFault.TheVariants.{NoMemory}

-- the second step, unless the first is refused
infixl 10 ◌>>=◌
abbrev pub ◌>>=◌ : {A B : Type 0} → Result A InputFault → (A → Result B InputFault) → Result B InputFault
(Err fault) >>= f = Err fault
(Ok x) >>= f = f x

-- the value, unless there is a fault
abbrev pub unless : {A : Type 0} → Option InputFault → A → Result A InputFault
unless None x = Ok x
unless (Some fault) x = Err fault

-- The text says this fault. Want of memory says nothing of the text.
abbrev pub IsRefusedFor : {A : Type 0} → InputFault → Result A InputFault → Type 0
IsRefusedFor NoMemory said = Unit {0}
IsRefusedFor fault said = said ≡ Err fault

-- what was read, as it is shown, is what the text says, and so is a fault
abbrev pub ReadsAs : {A B : Type 0} → (A → B) → Result A InputFault → Result B InputFault → Type 0
ReadsAs shown (Ok value) said = said ≡ Ok (shown value)
ReadsAs shown (Err fault) said = IsRefusedFor fault said

-- so it is where the value itself is what the text says
abbrev pub Reads : {A : Type 0} → Result A InputFault → Result A InputFault → Type 0
Reads result said = ReadsAs (λ value. value) result said
