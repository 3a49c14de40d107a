-- Commands for a name that no file has.
use Rattle.std.proofs.Common.{◌≡◌, ℕ, List, Err, refl, sym, ◌∙◌}
use Rattle.std.specs.FinMap.{get}
use Rattle.std.proofs.lemmas.Option.{none-some}
use Rattle.std.proofs.Common.{Some}
use Rattle.nesc_base.specs.declared.block.Block.{Block}
use Rattle.nesc_base.specs.declared.numbers.FnNo.{FnNo}
use Rattle.nesc_base.specs.Files.{File}
use Rattle.nesc_requests.specs.declared.host.HostAnswer.TheVariants as said
use Rattle.nesc_requests.specs.declared.host.HostCommand.TheVariants.{Attach, Delete, Get, Map, Put, Resize}
use Rattle.file_layer.specs.declared.files.FileFault.{FileFault}
use Rattle.file_layer.specs.declared.files.FileFault.TheVariants as fault
use Rattle.file_layer.specs.Answers.{FileAnswers}
use Rattle.file_layer.specs.Knowing.{FileSet}
use Rattle.file_model.specs.Files.{IsUnnamed}
use Rattle.plain_machine.specs.Functions.{Function}
use Rattle.hypervisor.proofs.Done.{IsRefused}

module _ (blocks : ℕ) (set : FileSet) (functions : List Function) (name : List ℕ) (unnamed : IsUnnamed set name) where
  pub delete_unnamed : IsRefused blocks set functions (Delete name) said.NoFile
  delete_unnamed = record { step = ((unnamed, refl), refl); tells = refl }

  pub resize_unnamed : (length : ℕ) → IsRefused blocks set functions (Resize name length) said.NoFile
  resize_unnamed length = record { step = ((unnamed, refl), refl); tells = refl }

  pub put_unnamed : (v : ℕ) (from : List Block) → IsRefused blocks set functions (Put name v from) said.NoFile
  put_unnamed v from = record { step = ((unnamed, refl), refl); tells = refl }

  pub map_unnamed : (v n : ℕ) → IsRefused blocks set functions (Map name v n) said.NoFile
  map_unnamed v n = record { step = ((unnamed, refl), refl); tells = refl }

  pub get_unnamed : (v : ℕ) (into : List Block) → IsRefused blocks set functions (Get name v into) said.NoFile
  get_unnamed v into = record { step = ((unnamed, refl), refl); tells = refl }

  pub attach_unnamed : (f : FnNo) → IsRefused blocks set functions (Attach f name) said.NoFile
  attach_unnamed f = record { step = ((unnamed, refl), refl); tells = refl }

-- a call that looks only for the file is not refused where it is there
pub not_refused : {X : Type 0} (set : FileSet) (n : ℕ) (answers : File → X → Type 0) (cause : FileFault) (file : File) → get set n ≡ Some file → ¬ FileAnswers set n answers (Err cause)
not_refused set n answers fault.NoFile file stands none = none-some file (sym none ∙ stands)
not_refused set n answers fault.Exists file stands none = none
not_refused set n answers fault.NoSlot file stands none = none
not_refused set n answers fault.Range file stands none = none
not_refused set n answers (fault.NoSpace are_free needed) file stands none = none
not_refused set n answers fault.Media file stands none = none
