-- What is told of a file that a function has leaves the functions as they are.
use Rattle.std.proofs.Common.{◌≡◌, ℕ, ◌+◌, Bool, true, false, List, Option, Some, None, refl, ap, ◌∙◌, arith}
use Rattle.std.specs.Prelude.{nat_lt, if◌then◌else◌}
use Rattle.std.proofs.lemmas.Bool.Decides.{nat_tests}
use Rattle.plain_machine.specs.Functions.{Function}
use Rattle.hypervisor.specs.Attachments.{Attachments}
use Rattle.hypervisor.specs.Telling.{TellsBlocks, TellsLength, told}
use Rattle.hypervisor.specs.declared.change.Change.{Change}
use Rattle.hypervisor.specs.declared.change.Change.TheVariants.{Nothing, Remapped}

module _ (files : Attachments) (functions : List Function) where
  pub told_length : (f : Option ℕ) (length : ℕ) (given : Bool) (change : Change) → TellsLength f length given change → told change files functions ≡ functions
  told_length None length given change tells = ap (λ (c : Change). told c files functions) tells
  told_length (Some f) length given change tells = ap (λ (c : Change). told c files functions) tells

  pub told_blocks : (f : Option ℕ) (count : ℕ) (change : Change) → TellsBlocks f count change → told change files functions ≡ functions
  told_blocks None count change tells = ap (λ (c : Change). told c files functions) tells
  told_blocks (Some f) count change tells = ap (λ (c : Change). told c files functions) tells ∙ either_way f (nat_lt 0 count)
    where
      either_way : (f : ℕ) (some : Bool) → told (if some then Remapped (record { 0 = f }) else Nothing) files functions ≡ functions
      either_way f true = refl
      either_way f false = refl

-- blocks were given back where more were held than are held still
pub given_some : (given kept held : ℕ) → given + kept ≡ held → nat_lt 0 given ≡ nat_lt kept held
given_some given kept held sum = grind (arith, nat_tests)
