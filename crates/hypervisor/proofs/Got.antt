-- How blocks of a file are read.
use Rattle.std.proofs.Common.{◌≡◌, ℕ, List, length, Ok, Err, refl, sym, ap, ◌∙◌}
use Rattle.std.specs.Prelude.{unwrap_or}
use Rattle.std.proofs.lemmas.Option.{none-some}
use Rattle.nesc_base.specs.declared.block.Block.{Block}
use Rattle.nesc_base.specs.Files.{File, file_at}
use Rattle.nesc_requests.specs.declared.host.HostAnswer.TheVariants as said
use Rattle.nesc_requests.specs.declared.host.HostCommand.TheVariants.{Get}
use Rattle.file_layer.specs.declared.files.FileFault.{FileFault}
use Rattle.file_layer.specs.declared.files.FileFault.TheVariants as fault
use Rattle.file_layer.specs.Answers.{GetAnswers}
use Rattle.file_layer.specs.Knowing.{FileSet}
use Rattle.file_layer.proofs.Known.{no_file}
use Rattle.file_model.specs.Files.{HasName, read_from}
use Rattle.plain_machine.specs.Functions.{Function}
use Rattle.hypervisor.specs.Carrying.{refusal_of}
use Rattle.hypervisor.proofs.Done.{IsRefused}
use Rattle.hypervisor.proofs.Held.{inside, named_so, outside}

module _ (blocks : ℕ) (set : FileSet) (functions : List Function) (name : List ℕ) (k v : ℕ) (into : List Block) (file : File) (has : HasName set name k file) where
  pub get_refused : (cause : FileFault) → GetAnswers set k v (length into) (Err cause) → IsRefused blocks set functions (Get name v into) (refusal_of cause)
  get_refused fault.NoFile answers = absurd (none-some file (sym answers ∙ has.stands))
  get_refused fault.Range answers = record { step = ((outside set name k file has v (length into) answers, refl), refl); tells = refl }
  get_refused fault.Media answers = record { step = ((inside set name k file has v (length into) answers, refl), refl); tells = refl }
  get_refused fault.Exists answers = absurd answers
  get_refused fault.NoSlot answers = absurd answers
  get_refused (fault.NoSpace are_free needed) answers = absurd answers

  -- a command that reads changes nothing either
  pub got : (done : Unit {0}) (read : List Block) → GetAnswers set k v (length into) (Ok done) → read ≡ read_from (file_at set k) v (length into) → IsRefused blocks set functions (Get name v into) (said.Got read)
  got done read answers is =
      let here : file_at set k ≡ answers.file = ap (λ o. unwrap_or o no_file) answers.stands in
      record {
        step = (
          (
            record {
              number = k;
              file = answers.file;
              named = named_so set name k file has answers.file answers.stands;
              within = answers.within;
              read = is ∙ ap (λ (f : File). read_from f v (length into)) here;
            },
            refl,
          ),
          refl,
        );
        tells = refl;
      }
