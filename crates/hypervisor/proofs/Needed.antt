-- What a command needs, and why it is refused.
use Rattle.std.proofs.Common.{◌≡◌, ℕ, List, length, Option, Some, None, Result, Ok, Err, OnErr, IfOk, sym, ◌∙◌, subst}
use Rattle.std.proofs.lemmas.Option.{none-some}
use Rattle.std.proofs.lemmas.Result.{IfOk-weaker, on_err_weaker}
use Rattle.nesc_base.specs.declared.numbers.FileNo.{FileNo}
use Rattle.nesc_base.specs.Files.{File}
use Rattle.file_model.specs.Files.{HasName}
use Rattle.file_layer.specs.declared.files.FileFault.{FileFault}
use Rattle.file_layer.specs.declared.files.FileFault.TheVariants.{Exists, NoSlot, NoFile, Range, NoSpace, Media}
use Rattle.file_layer.specs.Answers.{HoldAnswers}
use Rattle.file_layer.specs.Knowing.{FileSet, OfFiles}
use Rattle.file_layer.specs.Layer.{HasRoomFor, IsLayer, Layer, lacking}
use Rattle.hypervisor.specs.Needing.{IsEntered, LackAnswers}
use Rattle.hypervisor.proofs.Naming.{Finds, entries_apart, found_entered, named_found, none_entered}

-- what a number is answered its name is
pub lack_answers : (blocks : ℕ) (set : FileSet) (name : List ℕ) (k v n : ℕ) (result : Result ℕ FileFault) (file : File) → HasName set name k file → HoldAnswers blocks set k v n result → LackAnswers blocks set name v n result
lack_answers blocks set name k v n (Err NoFile) file has answers = absurd (none-some file (sym answers ∙ has.stands))
lack_answers blocks set name k v n (Ok count) file has answers = (k, file, has, answers)
lack_answers blocks set name k v n (Err Exists) file has answers = (k, file, has, answers)
lack_answers blocks set name k v n (Err NoSlot) file has answers = (k, file, has, answers)
lack_answers blocks set name k v n (Err Range) file has answers = (k, file, has, answers)
lack_answers blocks set name k v n (Err (NoSpace are_free needed)) file has answers = (k, file, has, answers)
lack_answers blocks set name k v n (Err Media) file has answers = (k, file, has, answers)

-- a fact holds where there is an error too
pub on_any_error : {T E P : Type 0} (r : Result T E) → P → OnErr r P
on_any_error (Ok x) p = tt
on_any_error (Err e) p = p

module _ (files : Layer) (name : List ℕ) (v n : ℕ) (found : Option FileNo) (finds : OfFiles files (Finds name found)) (layer : IsLayer files) where
  -- the file of the name has no room for so many blocks
  abbrev LacksRoom : Type 0
  LacksRoom = (k : ℕ) → IsEntered files name k → ¬ HasRoomFor files k v n

  pub lacks_where_none : found ≡ None → LacksRoom
  lacks_where_none none k entered room = none_entered files name found finds layer none k entered

  module _ (file : FileNo) (is : found ≡ Some file) (result : Result ℕ FileFault) where
    pub takes_found : IfOk result (λ needed. HasRoomFor files file.0 v n × (needed ≡ length (lacking files file.0 v n)))
        → IfOk result (λ count. (k : ℕ) × IsEntered files name k × HasRoomFor files k v n × (count ≡ length (lacking files k v n)))
    takes_found takes = IfOk-weaker result _ _ (λ count is_so. (file.0, found_entered files name found finds layer file is, is_so.0, is_so.1)) takes

    pub lacks_found : OnErr result (¬ HasRoomFor files file.0 v n) → OnErr result LacksRoom
    lacks_found refused = on_err_weaker result (λ (none : ¬ HasRoomFor files file.0 v n) k entered room.
        none (subst (λ m. HasRoomFor files m v n) (entries_apart files name k file.0 layer entered (found_entered files name found finds layer file is)) room)) refused

    pub answers_found : OfFiles files (λ set _. HoldAnswers files.geometry.blocks set file.0 v n result) → OfFiles files (λ set _. LackAnswers files.geometry.blocks set name v n result)
    answers_found answers set places knows =
        let has = named_found files name found finds file is set places knows in
        lack_answers files.geometry.blocks set name file.0 v n result has.0 has.1 (answers set places knows)
