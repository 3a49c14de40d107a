-- Which faults of a step and of an opening tell of an image.
use Rattle.std.proofs.Common.{◌≡◌, ℕ, Result, Ok, Err, refl, sym, ap, ◌∙◌, subst}
use Rattle.std.specs.Prelude.{IsErrAnd, IsErrOf, MatchResult}
use Rattle.host_journal.specs.declared.journal.StartFault.{StartFault}
use Rattle.host_journal.specs.declared.journal.StartFault.TheVariants as start
use Rattle.image_layout.specs.declared.fault.ImageFault.{ImageFault}
use Rattle.image_layout.specs.declared.fault.ImageFault.TheVariants.{BadList}
use Rattle.image_layout.specs.declared.fault.OpenFault.{OpenFault}
use Rattle.image_layout.specs.declared.fault.OpenFault.TheVariants as opening
use Rattle.nesc_session.specs.Opening.{open_fault_of}
use Rattle.nesc_session.specs.declared.fault.StepFault.{StepFault}
use Rattle.nesc_session.specs.declared.fault.StepFault.TheVariants as fault
use Rattle.nesc_session.specs.Stepping.{step_fault_of_load, step_fault_of_start}
use Rattle.nesc_session.proofs.Renamed.{err_renamed, same_err}

-- Steps

abbrev IsOfImage : StepFault → Type 0
IsOfImage (fault.Disk disk) = ⊥
IsOfImage (fault.Image image) = Unit {0}

-- the image's fault, or another one where it is none
abbrev image_in : ImageFault → StepFault → ImageFault
image_in other (fault.Disk disk) = other
image_in other (fault.Image image) = image

none_of_disk : (one : StepFault) (image : ImageFault) → one ≡ fault.Image image → IsOfImage one
none_of_disk one image is = subst IsOfImage (sym is) tt

-- a start tells of a list
pub image_of_start : (found : StartFault) (image : ImageFault) → step_fault_of_start found ≡ fault.Image image → (block : ℕ) × (found ≡ start.BadList block)
image_of_start (start.Disk disk) image is = absurd (none_of_disk (fault.Disk disk) image is)
image_of_start (start.BadList block) image is = (block, refl)

-- a loading tells of the same
pub image_of_load : (found : OpenFault) (image : ImageFault) → step_fault_of_load found ≡ fault.Image image → found ≡ opening.Image image
image_of_load opening.NoMemory image is = absurd (none_of_disk (fault.Disk (record {})) image is)
image_of_load (opening.Disk disk) image is = absurd (none_of_disk (fault.Disk disk) image is)
image_of_load (opening.Image other) image is = ap (λ f. opening.Image (image_in other f)) is

-- Openings

-- a start tells of its list
pub list_of_start : (found : StartFault) (image : ImageFault) → open_fault_of found ≡ opening.Image image → (block : ℕ) × (found ≡ start.BadList block) × (image ≡ BadList block)
list_of_start (start.Disk disk) image is = absurd cc
list_of_start (start.BadList block) image is = (block, refl, cc)

-- and never of memory
pub memory_for_start : (found : StartFault) → ¬ (open_fault_of found ≡ opening.NoMemory)
memory_for_start (start.Disk disk) is = cc
memory_for_start (start.BadList block) is = cc

-- Where the journal was not started, this is why.
module _ {T : Type 0} (started : Result (Unit {0}) StartFault) (named : Result (Unit {0}) OpenFault)
    (cases : MatchResult started (λ done. named ≡ Ok done) (λ first. IsErrAnd named (λ found. found ≡ open_fault_of first)))
    (found : OpenFault) (is : named ≡ Err found) (result : Result T OpenFault) (back : result ≡ Err found) where
  not_started : (fault : OpenFault) → IsErrOf result fault → (first : StartFault) × IsErrOf started first × (open_fault_of first ≡ fault)
  not_started fault failed =
      let was = err_renamed (λ first found. found ≡ open_fault_of first) started named found cases is in
      (was.0, was.1, sym was.2 ∙ same_err found fault (sym back ∙ failed))

  -- for its list, where it is for an image's fault
  pub not_started_for_list : (image : ImageFault) → IsErrOf result (opening.Image image) → (block : ℕ) × IsErrOf started (start.BadList block) × (image ≡ BadList block)
  not_started_for_list image failed =
      let was = not_started (opening.Image image) failed in
      let bad = list_of_start was.0 image was.2 in
      (bad.0, was.1 ∙ ap Err bad.1, bad.2)

  -- never for want of memory
  pub not_started_for_memory : ¬ IsErrOf result opening.NoMemory
  not_started_for_memory failed = let was = not_started opening.NoMemory failed in memory_for_start was.0 was.2
