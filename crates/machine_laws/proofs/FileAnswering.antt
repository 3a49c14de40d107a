-- What a command on files alone is answered.
use Rattle.std.proofs.Common.{◌≡◌, ℕ, ◌+◌, ◌<◌, ◌≤◌, ◌⊎◌, inl, inr, nat_lt, le-ltb, lt-ltb, ltb-false, ltb-true, if◌then◌else◌, Bool, true, false, List, [], ◌∷◌, ◌++◌, length, Option, Some, None, refl, sym, ap, ◌∙◌, subst, arith}
use Rattle.std.proofs.lemmas.Bool.{cond-false, cond-true, cond_both}
use Rattle.std.specs.FinMap.{empty, insert}
use Rattle.nesc_base.specs.Files.{File, Files, IsFileSet}
use Rattle.nesc_base.specs.declared.block.Block.{Block}
use Rattle.nesc_requests.specs.declared.host.HostAnswer.{HostAnswer}
use Rattle.nesc_requests.specs.declared.host.HostAnswer.TheVariants.{Exists, Got, Media, NoFile, NoSlot, NoSpace, Ok, Range}
use Rattle.nesc_requests.specs.declared.host.HostCommand.{HostCommand}
use Rattle.nesc_requests.specs.declared.host.HostCommand.TheVariants.{Create, Get, Map, Put, Resize}
use Rattle.file_model.specs.Files.{Change, HasName, IsFull, IsLowestUnused, LeadsTo, below, create, free, holding, puts_from, read_from, resize, unheld}
use Rattle.plain_machine.specs.Given.{is_failed_get}
use Rattle.plain_machine.specs.HostCommands.{AnswersFor, HasSpace, IsOutside, LacksSpace}
use Rattle.plain_machine.specs.declared.outcome.Answer.TheVariants as happened
use Rattle.machine_laws.proofs.Deciding.{Decided, IsCrowded, crowded_file, crowded_file-None, crowded_file-Some, crowded_or_not, found, lowest_unused, lowest_unused-None, lowest_unused-Some, named_file, named_file-None, named_file-Some, named_one, named_or_not, room_if, unnamed_if, unused, unused_or_full}
use Rattle.machine_laws.proofs.Leading.{CanLead, can_map, can_write}

pub record Answered : Type 0 where
  pub answer : HostAnswer
  pub changes : List Change

abbrev pub refused : HostAnswer → Answered
refused answer = record { answer = answer; changes = [] }

abbrev pub created : List ℕ → ℕ → Option (ℕ × File) → Option ℕ → Answered
created name len (Some stands) lowest = refused Exists
created name len None None = refused NoSlot
created name len None (Some number) = record { answer = Ok; changes = create number name len ∷ [] }

abbrev pub resized : ℕ → Option (ℕ × File) → Answered
resized len None = refused NoFile
resized len (Some stands) = record { answer = Ok; changes = resize stands.0 len ∷ [] }

-- n blocks of a file from v on do not all lie below its length, or this is answered
abbrev pub inside_or : File → ℕ → ℕ → Answered → Answered
inside_or file v n answered = if nat_lt file.length (v + n) then refused Range else answered

-- So many data blocks are free. A file of the name is crowded, or none is; these are the changes that are made then.
abbrev pub placed : ℕ → ℕ → ℕ → (ℕ → File → List Change) → Option (ℕ × File) → Option (ℕ × File) → Answered
placed are_free v n changes stands (Some crowded) = inside_or crowded.1 v n (refused (NoSpace are_free (length (unheld crowded.1 v n))))
placed are_free v n changes None None = refused NoFile
placed are_free v n changes (Some stands) None = inside_or stands.1 v n (record { answer = Ok; changes = changes stands.0 stands.1 })

abbrev pub mapping : ℕ → ℕ → ℕ → File → List Change
mapping v n number file = holding number (unheld file v n)

abbrev pub putting : ℕ → List Block → ℕ → File → List Change
putting v blocks number file = holding number (unheld file v (length blocks)) ++ puts_from number v blocks

-- the disk could not be read, or could
abbrev pub read_or : Bool → File → ℕ → ℕ → Answered
read_or true file v n = refused Media
read_or false file v n = refused (Got (read_from file v n))

abbrev pub got : ℕ → ℕ → Bool → Option (ℕ × File) → Answered
got v n fails None = refused NoFile
got v n fails (Some stands) = inside_or stands.1 v n (read_or fails stands.1 v n)

module _ (blocks : ℕ) (old : Files) (fails : Bool) where
  -- n blocks of the file of this name
  abbrev pub placing : List ℕ → ℕ → ℕ → (ℕ → File → List Change) → Answered
  placing name v n changes = placed (free blocks old) v n changes (named_file old name) (crowded_file old name v n (free blocks old))

  -- a command that asks for something else is no such command
  abbrev pub answered : HostCommand → Answered
  answered (Create name len) = created name len (named_file old name) (lowest_unused old)
  answered (Resize name len) = resized len (named_file old name)
  answered (Put name v from) = placing name v (length from) (putting v from)
  answered (Map name v n) = placing name v n (mapping v n)
  answered (Get name v into) = got v (length into) fails (named_file old name)
  answered command = refused NoFile

  -- It is answered nothing else

  inside_or-past : (file : File) (v n : ℕ) (answered : Answered) → file.length < v + n → inside_or file v n answered ≡ refused Range
  inside_or-past file v n answered past = cond-true _ _ _ (lt-ltb _ _ past)

  inside_or-within : (file : File) (v n : ℕ) (answered : Answered) → v + n ≤ file.length → inside_or file v n answered ≡ answered
  inside_or-within file v n answered within = cond-false _ _ _ (le-ltb _ _ within)

  module _ (name : List ℕ) (v n : ℕ) (makes : ℕ → File → List Change) where
    abbrev are_free : ℕ
    are_free = free blocks old

    -- whether it is crowded or not
    placing_outside : IsFileSet old → (outside : IsOutside old name v n) → placing name v n makes ≡ refused Range
    placing_outside set outside =
        let named = outside.named in
        elim (crowded_or_not old name v n are_free) [
          | inl (number, file, crowded) ↦
              let same = (named_one old name number outside.number file outside.file set crowded.named named).1 in
              let past : file.length < v + n = subst (λ (file : File). file.length < v + n) (sym same) outside.past in
              ap (placed are_free v n makes (named_file old name)) (crowded_file-Some old name v n are_free number file set crowded)
              ∙ inside_or-past file v n _ past
          | inr none ↦
              ap (placed are_free v n makes (named_file old name)) (crowded_file-None old name v n are_free none)
              ∙ ap (λ (stands : Option (ℕ × File)). placed are_free v n makes stands None) (named_file-Some old name outside.number outside.file set named)
              ∙ inside_or-past outside.file v n _ outside.past
        ]

    placing_lacking : IsFileSet old → (are needed : ℕ) (lacks : LacksSpace blocks old name v n are needed)
        → placing name v n makes ≡ refused (NoSpace are needed)
    placing_lacking set are needed lacks =
        let file = lacks.file in
        let few : are_free < length (unheld file v n) = subst (λ (k : ℕ). k < length (unheld file v n)) lacks.frees (subst (λ (k : ℕ). are < k) lacks.lacks lacks.few) in
        let crowded : IsCrowded old name v n are_free lacks.number file = record { named = lacks.named; few = few } in
        ap (placed are_free v n makes (named_file old name)) (crowded_file-Some old name v n are_free lacks.number file set crowded)
        ∙ inside_or-within file v n _ lacks.within
        ∙ sym (λ i. refused (NoSpace (lacks.frees i) (lacks.lacks i)))

    placing_unnamed : ((number : ℕ) (file : File) → ¬ HasName old name number file) → placing name v n makes ≡ refused NoFile
    placing_unnamed none =
        ap (placed are_free v n makes (named_file old name)) (crowded_file-None old name v n are_free (λ number file crowded. none number file crowded.named))
        ∙ ap (λ (stands : Option (ℕ × File)). placed are_free v n makes stands None)
        (named_file-None old name (unnamed_if old name none))

    placing_inside : IsFileSet old → (number : ℕ) (file : File) → HasName old name number file → v + n ≤ file.length → HasSpace blocks old name v n
        → placing name v n makes ≡ record { answer = Ok; changes = makes number file }
    placing_inside set number file named within space =
        let none : (m : ℕ) (other : File) → ¬ IsCrowded old name v n are_free m other =
        λ m other crowded. let room = space m other crowded.named in let few = crowded.few in absurd (omega (arith, room, few)) in
        ap (placed are_free v n makes (named_file old name)) (crowded_file-None old name v n are_free none)
        ∙ ap (λ (stands : Option (ℕ × File)). placed are_free v n makes stands None) (named_file-Some old name number file set named)
        ∙ inside_or-within file v n _ within

  pub answered_one : (command : HostCommand) (answer : HostAnswer) (changes : List Change) (new : Files) → IsFileSet old
      → fails ≡ is_failed_get (happened.Host answer) → AnswersFor blocks old command answer changes → LeadsTo old changes new
      → record { answer = answer; changes = changes } ≡ answered command
  answered_one (Create name len) Exists changes new set failing answers leads =
      let stands = named_file-Some old name answers.0.0 answers.0.1 set answers.0.2 in
      (λ i. record { answer = Exists; changes = answers.1 i }) ∙ sym (λ i. created name len (stands i) (lowest_unused old))
  answered_one (Create name len) NoSlot changes new set failing answers leads =
      (λ i. record { answer = NoSlot; changes = answers.2 i })
      ∙ sym (λ i. created name len (named_file-None old name answers.0 i) (lowest_unused-None old answers.1 i))
  answered_one (Create name len) Ok changes new set failing answers leads =
      let creates = (subst (λ (changes : List Change). LeadsTo old changes new) answers.1 leads).1 in
      (λ i. record { answer = Ok; changes = answers.1 i })
      ∙ sym (λ i. created name len (named_file-None old name creates.unnamed i) (lowest_unused-Some old answers.0 creates.lowest i))
  answered_one (Resize name len) NoFile changes new set failing answers leads =
      (λ i. record { answer = NoFile; changes = answers.1 i }) ∙ sym (ap (resized len) (named_file-None old name answers.0))
  answered_one (Resize name len) Ok changes new set failing answers leads =
      (λ i. record { answer = Ok; changes = answers.sized i })
      ∙ sym (ap (resized len) (named_file-Some old name answers.number answers.file set answers.named))
  answered_one (Put name v from) NoFile changes new set failing answers leads =
      (λ i. record { answer = NoFile; changes = answers.1 i })
      ∙ sym (placing_unnamed name v (length from) (putting v from) (λ n file has. answers.0 n file has.stands has.named))
  answered_one (Put name v from) Range changes new set failing answers leads =
      (λ i. record { answer = Range; changes = answers.1 i }) ∙ sym (placing_outside name v (length from) (putting v from) set answers.0)
  answered_one (Put name v from) (NoSpace are_free needed) changes new set failing answers leads =
      (λ i. record { answer = NoSpace are_free needed; changes = answers.1 i })
      ∙ sym (placing_lacking name v (length from) (putting v from) set are_free needed answers.0)
  answered_one (Put name v from) Ok changes new set failing answers leads =
      let puts = answers.1 in
      (λ i. record { answer = Ok; changes = puts.puts i })
      ∙ sym (placing_inside name v (length from) (putting v from) set puts.number puts.file puts.named puts.within answers.0)
  answered_one (Map name v n) NoFile changes new set failing answers leads =
      (λ i. record { answer = NoFile; changes = answers.1 i })
      ∙ sym (placing_unnamed name v n (mapping v n) (λ n file has. answers.0 n file has.stands has.named))
  answered_one (Map name v n) Range changes new set failing answers leads =
      (λ i. record { answer = Range; changes = answers.1 i }) ∙ sym (placing_outside name v n (mapping v n) set answers.0)
  answered_one (Map name v n) (NoSpace are_free needed) changes new set failing answers leads =
      (λ i. record { answer = NoSpace are_free needed; changes = answers.1 i })
      ∙ sym (placing_lacking name v n (mapping v n) set are_free needed answers.0)
  answered_one (Map name v n) Ok changes new set failing answers leads =
      let maps = answers.1 in
      (λ i. record { answer = Ok; changes = maps.holds i })
      ∙ sym (placing_inside name v n (mapping v n) set maps.number maps.file maps.named maps.within answers.0)
  answered_one (Get name v into) NoFile changes new set failing answers leads =
      (λ i. record { answer = NoFile; changes = answers.1 i }) ∙ sym (ap (got v (length into) fails) (named_file-None old name answers.0))
  answered_one (Get name v into) Range changes new set failing answers leads =
      let outside = answers.0 in
      (λ i. record { answer = Range; changes = answers.1 i })
      ∙ sym (ap (got v (length into) fails) (named_file-Some old name outside.number outside.file set outside.named)
      ∙ inside_or-past outside.file v (length into) _ outside.past)
  answered_one (Get name v into) Media changes new set failing answers leads =
      let inside = answers.0 in
      (λ i. record { answer = Media; changes = answers.1 i })
      ∙ sym (ap (got v (length into) fails) (named_file-Some old name inside.number inside.file set inside.named)
      ∙ inside_or-within inside.file v (length into) _ inside.within
      ∙ ap (λ b. read_or b inside.file v (length into)) failing)
  answered_one (Get name v into) (Got read) changes new set failing answers leads =
      let gets = answers.0 in
      (λ i. record { answer = Got (gets.read i); changes = answers.1 i })
      ∙ sym (ap (got v (length into) fails) (named_file-Some old name gets.number gets.file set gets.named)
      ∙ inside_or-within gets.file v (length into) _ gets.within
      ∙ ap (λ b. read_or b gets.file v (length into)) failing)
  answered_one command answer changes new set failing answers leads = absurd answers

-- And it is answered that

module _ (blocks : ℕ) (old : Files) where
  pub record CanAnswer (command : HostCommand) (to : Answered) : Type 0 where
    pub answers : AnswersFor blocks old command to.answer to.changes
    pub leads : CanLead old to.changes

  created_answers : (name : List ℕ) (len : ℕ) (decided : Decided (HasName old name)) (lowest : ((n : ℕ) × IsLowestUnused old n) ⊎ IsFull old)
      → CanAnswer (Create name len) (created name len (found (HasName old name) decided) (unused old lowest))
  created_answers name len (inl named) lowest = record { answers = (named, refl); leads = (old, refl) }
  created_answers name len (inr none) (inr full) = record { answers = (unnamed_if old name none, full, refl); leads = (old, refl) }
  created_answers name len (inr none) (inl lowest) =
      let new = insert old lowest.0 (record { name = name; length = len; body = empty }) in record {
        answers = (lowest.0, refl);
        leads = (new, (new, record { unnamed = unnamed_if old name none; lowest = lowest.1; result = refl }, refl));
      }

  resized_answers : (name : List ℕ) (len : ℕ) (decided : Decided (HasName old name)) → CanAnswer (Resize name len) (resized len (found (HasName old name) decided))
  resized_answers name len (inr none) = record { answers = (unnamed_if old name none, refl); leads = (old, refl) }
  resized_answers name len (inl (n, file, named)) =
      let new = insert old n (record file { length = len; body = below len file.body }) in record {
        answers = record { number = n; file = file; named = named; sized = refl };
        leads = (new, (new, record { file = file; stands = named.stands; result = refl }, refl));
      }

  -- how a command on n blocks from v on may be answered
  pub record PlacesSo (command : HostCommand) (name : List ℕ) (v n : ℕ) (makes : ℕ → File → List Change) : Type 0 where
    pub unnamed : ((number : ℕ) (file : File) → ¬ HasName old name number file) → CanAnswer command (refused NoFile)
    pub outside : IsOutside old name v n → CanAnswer command (refused Range)
    pub lacking : (are needed : ℕ) → LacksSpace blocks old name v n are needed → CanAnswer command (refused (NoSpace are needed))
    pub inside : HasSpace blocks old name v n → (number : ℕ) (file : File) → HasName old name number file → v + n ≤ file.length
        → CanAnswer command (record { answer = Ok; changes = makes number file })

  placed_answers : (command : HostCommand) (name : List ℕ) (v n : ℕ) (makes : ℕ → File → List Change) → PlacesSo command name v n makes
      → (named : Decided (HasName old name)) (crowded : Decided (IsCrowded old name v n (free blocks old)))
      → CanAnswer command (placed (free blocks old) v n makes (found (HasName old name) named) (found (IsCrowded old name v n (free blocks old)) crowded))
  placed_answers command name v n makes so named (inl (number, file, crowded)) =
      cond_both (nat_lt file.length (v + n)) _ _ (CanAnswer command)
      (λ past. so.outside (record { number = number; file = file; named = crowded.named; past = ltb-true _ _ past }))
      (λ within. so.lacking _ _ (record {
        number = number;
        file = file;
        named = crowded.named;
        within = ltb-false _ _ within;
        frees = refl;
        lacks = refl;
        few = crowded.few;
      }))
  placed_answers command name v n makes so (inr none) (inr room) = so.unnamed none
  placed_answers command name v n makes so (inl (number, file, named)) (inr room) =
      cond_both (nat_lt file.length (v + n)) _ _ (CanAnswer command)
      (λ past. so.outside (record { number = number; file = file; named = named; past = ltb-true _ _ past }))
      (λ within. so.inside (room_if old name v n (free blocks old) room) number file named (ltb-false _ _ within))

  got_answers : (name : List ℕ) (v : ℕ) (into : List Block) (decided : Decided (HasName old name))
      → CanAnswer (Get name v into) (got v (length into) false (found (HasName old name) decided))
  got_answers name v into (inr none) = record { answers = (unnamed_if old name none, refl); leads = (old, refl) }
  got_answers name v into (inl (n, file, named)) =
      cond_both (nat_lt file.length (v + length into)) _ _ (CanAnswer (Get name v into))
      (λ outside. record { answers = (record { number = n; file = file; named = named; past = ltb-true _ _ outside }, refl); leads = (old, refl) })
      (λ within. record {
        answers = (record { number = n; file = file; named = named; within = ltb-false _ _ within; read = refl }, refl);
        leads = (old, refl);
      })

  pub create_answers : (name : List ℕ) (len : ℕ) → CanAnswer (Create name len) (answered blocks old false (Create name len))
  create_answers name len = created_answers name len (named_or_not old name) (unused_or_full old)

  pub resize_answers : (name : List ℕ) (len : ℕ) → CanAnswer (Resize name len) (answered blocks old false (Resize name len))
  resize_answers name len = resized_answers name len (named_or_not old name)

  pub put_answers : (name : List ℕ) (v : ℕ) (from : List Block) → CanAnswer (Put name v from) (answered blocks old false (Put name v from))
  put_answers name v from =
      placed_answers (Put name v from) name v (length from) (putting v from) (record {
        unnamed = λ none. record { answers = (unnamed_if old name none, refl); leads = (old, refl) };
        outside = λ outside. record { answers = (outside, refl); leads = (old, refl) };
        lacking = λ are needed lacks. record { answers = (lacks, refl); leads = (old, refl) };
        inside = λ space number file named within. record {
          answers = (space, record { number = number; file = file; named = named; within = within; puts = refl });
          leads = can_write old v from number file named.stands within;
        };
      }) (named_or_not old name) (crowded_or_not old name v (length from) (free blocks old))

  pub map_answers : (name : List ℕ) (v n : ℕ) → CanAnswer (Map name v n) (answered blocks old false (Map name v n))
  map_answers name v n =
      placed_answers (Map name v n) name v n (mapping v n) (record {
        unnamed = λ none. record { answers = (unnamed_if old name none, refl); leads = (old, refl) };
        outside = λ outside. record { answers = (outside, refl); leads = (old, refl) };
        lacking = λ are needed lacks. record { answers = (lacks, refl); leads = (old, refl) };
        inside = λ space number file named within. record {
          answers = (space, record { number = number; file = file; named = named; within = within; holds = refl });
          leads = can_map old v n number file named.stands within;
        };
      }) (named_or_not old name) (crowded_or_not old name v n (free blocks old))

  pub get_answers : (name : List ℕ) (v : ℕ) (into : List Block) → CanAnswer (Get name v into) (answered blocks old false (Get name v into))
  get_answers name v into = got_answers name v into (named_or_not old name)
