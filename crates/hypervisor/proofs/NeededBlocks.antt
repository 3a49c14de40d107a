-- How many data blocks a command stages, by what is known of its file.
use Rattle.std.proofs.Common.{◌≡◌, ℕ, ◌+◌, ◌≤◌, List, length, Result, Ok, Err, sym, ap, ◌∙◌, arith}
use Rattle.std.specs.Result.{result_unwrap_or}
use Rattle.std.proofs.lemmas.Option.{same_Some}
use Rattle.nesc_base.specs.declared.block.Block.{Block}
use Rattle.nesc_base.specs.Files.{File}
use Rattle.nesc_base.specs.Places.{Places}
use Rattle.nesc_requests.specs.declared.host.HostAnswer.{HostAnswer}
use Rattle.nesc_requests.specs.declared.host.HostAnswer.TheVariants as said
use Rattle.nesc_requests.specs.declared.host.HostCommand.TheVariants.{Put, Map}
use Rattle.file_model.specs.Files.{Change, HasName, staged, unheld}
use Rattle.file_layer.specs.declared.files.FileFault.{FileFault}
use Rattle.file_layer.specs.declared.files.FileFault.TheVariants as fault
use Rattle.file_layer.specs.Answers as number
use Rattle.file_layer.specs.Knowing.{FileSet, Knows}
use Rattle.file_layer.specs.Layer.{IsLayer, Layer}
use Rattle.plain_machine.specs.HostCommands.{AnswersFor, HasSpace, IsOutside, LacksSpace}
use Rattle.hypervisor.specs.Needing.{LackAnswers}
use Rattle.hypervisor.proofs.Naming.{one_named}
use Rattle.hypervisor.proofs.StagedCounts.{staged_holding, staged_put}

module _ (files : Layer) (set : FileSet) (places : Places) (knows : Knows files set places) (layer : IsLayer files) (name : List ℕ) where
  -- the file that has the name, and the one that has its number
  module _ (k : ℕ) (file : File) (has : HasName set name k file) where
    not_outside : (blocks v n count : ℕ) → number.HasSpace blocks set k v n count → IsOutside set name v n → ⊥
    not_outside blocks v n count space out =
        let same : out.file ≡ file = one_named files set places knows name out.number k out.file file layer out.named has in
        let here : space.file ≡ file = same_Some space.file file (sym space.stands ∙ has.stands) in
        let one : out.file.length ≡ space.file.length = ap (λ (f : File). f.length) (same ∙ sym here) in
        let past = out.past in
        let within = space.within in
        omega (arith, one, past, within)

    not_lacking : (blocks v n count are_free needed : ℕ) → number.HasSpace blocks set k v n count → LacksSpace blocks set name v n are_free needed → ⊥
    not_lacking blocks v n count are_free needed space lacks =
        let same : lacks.file ≡ file = one_named files set places knows name lacks.number k lacks.file file layer lacks.named has in
        let here : space.file ≡ file = same_Some space.file file (sym space.stands ∙ has.stands) in
        let one : length (unheld lacks.file v n) ≡ length (unheld space.file v n) = ap (λ (f : File). length (unheld f v n)) (same ∙ sym here) in
        omega (arith, one, lacks.frees, lacks.lacks, lacks.few, space.counted, space.enough)

    not_past : (v n m : ℕ) (other : File) → number.IsPast set k v n → HasName set name m other → v + n ≤ other.length → ⊥
    not_past v n m other past named within =
        let same : other ≡ file = one_named files set places knows name m k other file layer named has in
        let here : past.file ≡ file = same_Some past.file file (sym past.stands ∙ has.stands) in
        let one : other.length ≡ past.file.length = ap (λ (f : File). f.length) (same ∙ sym here) in
        omega (arith, one, past.past, within)

    not_enough : (blocks v n are_free needed : ℕ) → number.LacksSpace blocks set k v n are_free needed → HasSpace blocks set name v n → ⊥
    not_enough blocks v n are_free needed lacks space =
        let here : lacks.file ≡ file = same_Some lacks.file file (sym lacks.stands ∙ has.stands) in
        let one : length (unheld lacks.file v n) ≡ length (unheld file v n) = ap (λ (f : File). length (unheld f v n)) here in
        omega (arith, one, lacks.free, lacks.lacked, lacks.few, space k file has)

  -- where the blocks are not to be had the command is not done
  refused_not_done : (blocks v n : ℕ) (cause : FileFault) (m : ℕ) (other : File) → LackAnswers blocks set name v n (Err cause) → HasName set name m other → v + n ≤ other.length → HasSpace blocks set name v n → ⊥
  refused_not_done blocks v n fault.NoFile m other lack named within space = lack m other named.stands named.named
  refused_not_done blocks v n fault.Range m other lack named within space = not_past lack.0 lack.1 lack.2 v n m other lack.3 named within
  refused_not_done blocks v n (fault.NoSpace are_free needed) m other lack named within space = not_enough lack.0 lack.1 lack.2 blocks v n are_free needed lack.3 space
  refused_not_done blocks v n fault.Exists m other lack named within space = absurd lack.3
  refused_not_done blocks v n fault.NoSlot m other lack named within space = absurd lack.3
  refused_not_done blocks v n fault.Media m other lack named within space = absurd lack.3

  -- a put that is done stages all that it brings
  pub put_stages : (blocks v : ℕ) (from : List Block) (count : ℕ) (answer : HostAnswer) (changes : List Change) → LackAnswers blocks set name v (length from) (Ok count)
      → AnswersFor blocks set (Put name v from) answer changes → length from ≡ staged changes
  put_stages blocks v from count said.NoFile changes lack answers = absurd (answers.0 lack.0 lack.1 lack.2.stands lack.2.named)
  put_stages blocks v from count said.Range changes lack answers = absurd (not_outside lack.0 lack.1 lack.2 blocks v (length from) count lack.3 answers.0)
  put_stages blocks v from count (said.NoSpace are_free needed) changes lack answers = absurd (not_lacking lack.0 lack.1 lack.2 blocks v (length from) count are_free needed lack.3 answers.0)
  put_stages blocks v from count said.Ok changes lack answers = let puts = answers.1 in sym (staged_put puts.file puts.number v from) ∙ ap staged (sym puts.puts)
  put_stages blocks v from count answer changes lack answers = absurd answers

  pub put_stages_none : (blocks v : ℕ) (from : List Block) (cause : FileFault) (answer : HostAnswer) (changes : List Change) → LackAnswers blocks set name v (length from) (Err cause)
      → AnswersFor blocks set (Put name v from) answer changes → 0 ≡ staged changes
  put_stages_none blocks v from cause said.NoFile changes lack answers = ap staged (sym answers.1)
  put_stages_none blocks v from cause said.Range changes lack answers = ap staged (sym answers.1)
  put_stages_none blocks v from cause (said.NoSpace are_free needed) changes lack answers = ap staged (sym answers.1)
  put_stages_none blocks v from cause said.Ok changes lack answers =
      let puts = answers.1 in absurd (refused_not_done blocks v (length from) cause puts.number puts.file lack puts.named puts.within answers.0)
  put_stages_none blocks v from cause answer changes lack answers = absurd answers

  -- a map that is done stages what it lacked
  pub map_stages : (blocks v n : ℕ) (result : Result ℕ FileFault) (answer : HostAnswer) (changes : List Change) → LackAnswers blocks set name v n result
      → AnswersFor blocks set (Map name v n) answer changes → result_unwrap_or result 0 ≡ staged changes
  map_stages blocks v n (Err cause) said.NoFile changes lack answers = ap staged (sym answers.1)
  map_stages blocks v n (Err cause) said.Range changes lack answers = ap staged (sym answers.1)
  map_stages blocks v n (Err cause) (said.NoSpace are_free needed) changes lack answers = ap staged (sym answers.1)
  map_stages blocks v n (Err cause) said.Ok changes lack answers =
      let maps = answers.1 in absurd (refused_not_done blocks v n cause maps.number maps.file lack maps.named maps.within answers.0)
  map_stages blocks v n (Ok count) said.NoFile changes lack answers = absurd (answers.0 lack.0 lack.1 lack.2.stands lack.2.named)
  map_stages blocks v n (Ok count) said.Range changes lack answers = absurd (not_outside lack.0 lack.1 lack.2 blocks v n count lack.3 answers.0)
  map_stages blocks v n (Ok count) (said.NoSpace are_free needed) changes lack answers = absurd (not_lacking lack.0 lack.1 lack.2 blocks v n count are_free needed lack.3 answers.0)
  map_stages blocks v n (Ok count) said.Ok changes lack answers =
      let maps = answers.1 in
      let space = lack.3 in
      let same : maps.file ≡ lack.1 = one_named files set places knows name maps.number lack.0 maps.file lack.1 layer maps.named lack.2 in
      let here : space.file ≡ lack.1 = same_Some space.file lack.1 (sym space.stands ∙ lack.2.stands) in
      space.counted ∙ ap (λ (f : File). length (unheld f v n)) (here ∙ sym same) ∙ sym (staged_holding maps.number (unheld maps.file v n)) ∙ ap staged (sym maps.holds)
  map_stages blocks v n result answer changes lack answers = absurd answers
