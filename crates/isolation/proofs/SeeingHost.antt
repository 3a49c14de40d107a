-- What the host asks for, as one function and one file see it.
use Rattle.std.proofs.Common.{◌≡◌, ◌≢◌, ℕ, ◌==◌, ◌&&◌, ◌||◌, true, false, cond, List, [], ◌∷◌, ◌++◌, append-nil, filter, length, map, Option, Some, None, refl, sym, ap, ◌∙◌, subst, ⊎_elim}
use Rattle.std.specs.FinMap.{empty, get}
use Rattle.std.specs.List.{list_any}
use Rattle.std.specs.Option.{option_map_or}
use Rattle.std.specs.Prelude.{unwrap_or}
use Rattle.std.specs.Str.{bytes_eq}
use Rattle.std.proofs.lemmas.Bool.{and_parts, cases_eq, cond_both, cond-false, cond-true, eq-eqb, eqb-false, eqb-true, false_from_ne_true, ne_eqb}
use Rattle.std.proofs.lemmas.Slice.Eq.{bytes_eq-Decides}
use Rattle.nesc_base.specs.declared.block.Block.{Block}
use Rattle.nesc_base.specs.declared.numbers.FnNo.{FnNo}
use Rattle.nesc_base.specs.Files.{File, Files, file_at}
use Rattle.nesc_requests.specs.declared.event.Event.TheVariants.{Host}
use Rattle.nesc_requests.specs.declared.host.HostAnswer.{HostAnswer}
use Rattle.nesc_requests.specs.declared.host.HostAnswer.TheVariants as said
use Rattle.nesc_requests.specs.declared.host.HostCommand.{HostCommand}
use Rattle.nesc_requests.specs.declared.host.HostCommand.TheVariants.{Attach, Create, Delete, Detach, Get, Map, Put, Regs, Resize, Sync}
use Rattle.nesc_requests.specs.Script.{with_numbered}
use Rattle.file_model.specs.Files.{Change, HasName, LeadsTo, create, delete, holding, puts_from, read_from, resize, unheld}
use Rattle.plain_machine.specs.Functions.{Attached, Function, attached_of, fresh}
use Rattle.plain_machine.specs.HostCommands.{AnswersFor, AttachStep, Attaches, DeleteStep, DetachStep, GetsBlocks, HostStep}
use Rattle.plain_machine.specs.Machine.{AnswersHost}
use Rattle.plain_machine.specs.State.{State}
use Rattle.plain_machine.specs.declared.outcome.Answer.TheVariants as happened
use Rattle.plain_machine.specs.declared.outcome.Outcome.{Outcome}
use Rattle.plain_machine.specs.declared.setting.Setting.{Setting}
use Rattle.isolation.specs.History.{OwnEvent, OwnLine, attached, changed, data_from, data_of, detached, got, has, if_called, is_called, is_of, own_of_host, replies_of}
use Rattle.isolation.specs.Solo.{desk_of, solo_in}
use Rattle.isolation.proofs.AtDesk.{attached_with_off, attached_with_other, attached_with_same, desk_with, desk_without, no_desk}
use Rattle.isolation.proofs.NamesApart.{AreNamedApart}
use Rattle.isolation.proofs.OneFile.{AreOf, all_of_same, are_of_holding, are_of_puts, by_test, none_of_other}
use Rattle.isolation.proofs.OwnFile.{all_append}
use Rattle.isolation.proofs.Seeing.{Sees, desk_in, run_one, sees_as, sees_changes, sees_nothing, solo_with}

-- Names

called_at : (found : Option File) (name : List ℕ) → ((file : File) → found ≡ Some file → file.name ≢ name)
    → option_map_or (λ (file : File). bytes_eq file.name name) found false ≡ false
called_at None name none = refl
called_at (Some file) name none = false_from_ne_true (bytes_eq file.name name) (λ is. none file refl ((bytes_eq-Decides file.name name).0 is))

module _ (old : State) (apart : AreNamedApart old.now) (n : ℕ) where
  -- the file has the name that the file of this number has, where it is that file
  called_is : (name : List ℕ) (number : ℕ) (file : File) → HasName old.now name number file → is_called old.now n name ≡ (number == n)
  called_is name number file named =
      ⊎_elim (λ (same : number ≡ n).
      let stands : get old.now n ≡ Some file = ap (get old.now) (sym same) ∙ named.stands in
      ap (λ found. option_map_or (λ (file : File). bytes_eq file.name name) found false) stands
      ∙ (bytes_eq-Decides file.name name).1 named.named
      ∙ sym (eq-eqb number n same))
      (λ (away : number ≢ n).
      called_at (get old.now n) name
      (λ other stands is. away (apart number n file other named.stands stands (named.named ∙ sym is)))
      ∙ sym (ne_eqb number n away)) (cases_eq number n)

  -- the file of the number is the one that is read
  file_is : (name : List ℕ) (number : ℕ) (file : File) → HasName old.now name number file → number ≡ n → file_at old.now n ≡ file
  file_is name number file named same =
      ap (λ found. unwrap_or found (record { name = []; length = 0; body = empty })) (ap (get old.now) (sym same) ∙ named.stands)

module _ (f : FnNo) (n : ℕ) (old : State) (apart : AreNamedApart old.now) (changes : List Change) (files : Files) (functions : List Function)
    (leads : LeadsTo old.now changes files) where
  abbrev SeesThen : List OwnEvent → List OwnLine → Type 0
  SeesThen events lines = Sees f n old events lines files functions

  -- the files stay
  same_now : changes ≡ [] → get files n ≡ get old.now n
  same_now none = ap (λ (files : Files). get files n) (subst (λ (changes : List Change). LeadsTo old.now changes files) none leads)

  -- nothing is done
  quiet : changes ≡ [] → functions ≡ old.functions → SeesThen [] []
  quiet none same = sees_nothing f n old changes files functions leads (ap (filter (is_of n)) none) (ap (desk_in f n old) same)

  -- Commands on files

  -- the file of this name and number is changed so
  sees_named : (name : List ℕ) (number : ℕ) (file : File) (makes : ℕ → File → List Change) → HasName old.now name number file
      → AreOf number (makes number file) → changes ≡ makes number file → functions ≡ old.functions
      → SeesThen (if_called old.now n name (map changed (makes n (file_at old.now n)))) []
  sees_named name number file makes named of_it is same =
      let called = called_is old apart n name number file named in
      let of_changes : AreOf number changes = subst (AreOf number) (sym is) of_it in
      ⊎_elim (λ (here : number ≡ n).
      let stands = file_is old apart n name number file named here in
      let own : changes ≡ makes n (file_at old.now n) = is ∙ ap (λ (k : ℕ). makes k file) here ∙ ap (makes n) (sym stands) in
      sees_as f n old _ (map changed (makes n (file_at old.now n))) [] [] files functions (cond-true _ _ _ (called ∙ eq-eqb number n here)) refl
      (sees_changes f n old changes files functions leads (makes n (file_at old.now n))
      (all_of_same number n here changes of_changes ∙ own) (ap (desk_in f n old) same)))
      (λ (away : number ≢ n).
      sees_as f n old _ [] [] [] files functions (cond-false _ _ _ (called ∙ ne_eqb number n away)) refl
      (sees_nothing f n old changes files functions leads (none_of_other number n away changes of_changes) (ap (desk_in f n old) same)))
      (cases_eq number n)

  sees_created : (name : List ℕ) (len number : ℕ) → changes ≡ create number name len ∷ [] → functions ≡ old.functions
      → SeesThen (cond (list_any (is_of n) changes) (changed (create n name len) ∷ []) []) []
  sees_created name len number is same =
      let any : list_any (is_of n) changes ≡ ((number == n) || false) = ap (list_any (is_of n)) is in
      ⊎_elim (λ (here : number ≡ n).
      let own : changes ≡ create n name len ∷ [] = is ∙ (λ i. create (here i) name len ∷ []) in
      let of_it : AreOf number changes = subst (AreOf number) (sym is) (eq-eqb number number refl, tt) in
      sees_as f n old _ (map changed (create n name len ∷ [])) [] [] files functions
      (cond-true _ _ _ (any ∙ ap (λ b. b || false) (eq-eqb number n here))) refl
      (sees_changes f n old changes files functions leads (create n name len ∷ []) (all_of_same number n here changes of_it ∙ own)
      (ap (desk_in f n old) same)))
      (λ (away : number ≢ n).
      let of_it : AreOf number changes = subst (AreOf number) (sym is) (eq-eqb number number refl, tt) in
      sees_as f n old _ [] [] [] files functions (cond-false _ _ _ (any ∙ ap (λ b. b || false) (ne_eqb number n away))) refl
      (sees_nothing f n old changes files functions leads (none_of_other number n away changes of_it) (ap (desk_in f n old) same)))
      (cases_eq number n)

  -- nothing has moved
  still : changes ≡ [] → functions ≡ old.functions → solo_with f n old files functions ≡ solo_in f n old
  still none same =
      let now = same_now none in
      λ i. record { now = now i; last_kept = get old.kept n; desk = desk_in f n old (same i) }

  sees_got : (name : List ℕ) (v count : ℕ) (blocks : List Block) → GetsBlocks old.now name v count blocks → changes ≡ [] → functions ≡ old.functions
      → SeesThen (if_called old.now n name (got v count false ∷ [])) (cond (is_called old.now n name) (data_from v blocks ∷ []) [])
  sees_got name v count blocks gets none same =
      let called = called_is old apart n name gets.number gets.file gets.named in
      by_test (λ b. SeesThen (cond b (got v count false ∷ []) []) (cond b (data_from v blocks ∷ []) [])) (is_called old.now n name)
      (λ is.
      let here = eqb-true gets.number n (sym called ∙ is) in
      let read : blocks ≡ read_from (file_at old.now n) v count =
      gets.read ∙ ap (λ (file : File). read_from file v count) (sym (file_is old apart n name gets.number gets.file gets.named here)) in
      run_one f n (solo_in f n old) (got v count false) (data_from v blocks ∷ []) (solo_with f n old files functions)
      (ap (λ (blocks : List Block). data_from v blocks ∷ []) read, still none same))
      (λ _. quiet none same)

  sees_failed : (name : List ℕ) (v count : ℕ) → changes ≡ [] → functions ≡ old.functions
      → SeesThen (if_called old.now n name (got v count true ∷ [])) []
  sees_failed name v count none same =
      cond_both (is_called old.now n name) _ _ (λ (events : List OwnEvent). SeesThen events [])
      (λ _. run_one f n (solo_in f n old) (got v count true) [] (solo_with f n old files functions) (refl, still none same))
      (λ _. quiet none same)

  sees_answer : (blocks : ℕ) (command : HostCommand) (answer : HostAnswer) → AnswersFor blocks old.now command answer changes → functions ≡ old.functions
      → SeesThen (own_of_host f.0 n old command (happened.Host answer) changes) (data_of n old (Host command) (happened.Host answer))
  sees_answer blocks (Create name len) said.Exists answers same = quiet answers.1 same
  sees_answer blocks (Create name len) said.NoSlot answers same = quiet answers.2 same
  sees_answer blocks (Create name len) said.Ok answers same = sees_created name len answers.0 answers.1 same
  sees_answer blocks (Resize name len) said.NoFile answers same = quiet answers.1 same
  sees_answer blocks (Resize name len) said.Ok answers same =
      sees_named name answers.number answers.file (λ k file. resize k len ∷ []) answers.named (eq-eqb answers.number answers.number refl, tt) answers.sized same
  sees_answer blocks (Put name v from) said.NoFile answers same = quiet answers.1 same
  sees_answer blocks (Put name v from) said.Range answers same = quiet answers.1 same
  sees_answer blocks (Put name v from) (said.NoSpace are_free needed) answers same = quiet answers.1 same
  sees_answer blocks (Put name v from) said.Ok answers same =
      let puts = answers.1 in
      sees_named name puts.number puts.file (λ k file. holding k (unheld file v (length from)) ++ puts_from k v from) puts.named
      (all_append (λ (change : Change). is_of puts.number change ≡ true) _ _ (are_of_holding puts.number _) (are_of_puts puts.number v from)) puts.puts same
  sees_answer blocks (Map name v count) said.NoFile answers same = quiet answers.1 same
  sees_answer blocks (Map name v count) said.Range answers same = quiet answers.1 same
  sees_answer blocks (Map name v count) (said.NoSpace are_free needed) answers same = quiet answers.1 same
  sees_answer blocks (Map name v count) said.Ok answers same =
      let maps = answers.1 in
      sees_named name maps.number maps.file (λ k file. holding k (unheld file v count)) maps.named (are_of_holding maps.number _) maps.holds same
  sees_answer blocks (Get name v into) said.NoFile answers same = quiet answers.1 same
  sees_answer blocks (Get name v into) said.Range answers same = quiet answers.1 same
  sees_answer blocks (Get name v into) said.Media answers same = sees_failed name v (length into) answers.1 same
  sees_answer blocks (Get name v into) (said.Got read) answers same = sees_got name v (length into) read answers.0 answers.1 same
  sees_answer blocks command answer answers same = absurd answers

  sees_deleted : (name : List ℕ) (answer : HostAnswer) → DeleteStep old.now old.functions name answer changes → functions ≡ old.functions
      → SeesThen (own_of_host f.0 n old (Delete name) (happened.Host answer) changes) []
  sees_deleted name said.NoFile step same = quiet step.1 same
  sees_deleted name said.Attached step same = quiet step.1 same
  sees_deleted name said.Ok step same =
      sees_named name step.number step.file (λ k file. delete k ∷ []) step.named (eq-eqb step.number step.number refl, tt) step.gone same
  sees_deleted name answer step same = absurd step

  -- Commands on functions

  -- and the desk
  no_change : changes ≡ [] → desk_in f n old functions ≡ desk_in f n old old.functions → SeesThen [] []
  no_change none same = sees_nothing f n old changes files functions leads (ap (filter (is_of n)) none) same

  -- another function became another
  desk_of_other : (g : FnNo) (after : Function) → functions ≡ with_numbered old.functions g.0 after → g.0 ≢ f.0
      → desk_in f n old functions ≡ desk_in f n old old.functions
  desk_of_other g after is away =
      ap (desk_of n)
      (ap (λ (functions : List Function). attached_of functions f.0) is
      ∙ attached_with_other old.functions f.0 g.0 after (λ same. away (sym same)))

  sees_attached : (g : FnNo) (name : List ℕ) → Attaches old.now old.functions g.0 name functions → changes ≡ []
      → SeesThen (cond (g.0 == f.0) (if_called old.now n name (attached ∷ [])) []) []
  sees_attached g name attaches none =
      let number = attaches.number in
      let called = called_is old apart n name number attaches.file attaches.named in
      let after = attaches.given.after in
      let given = attached_with_off old.functions g.0 after attaches.off in
      let on : attached_of functions g.0 ≡ Some (fresh number) =
      ap (λ (functions : List Function). attached_of functions g.0) attaches.given.others
      ∙ given.now
      ∙ ap (λ (function : Function). function.attached) attaches.given.becomes in
      cond_both (g.0 == f.0) _ _ (λ (events : List OwnEvent). SeesThen events [])
      (λ is.
      let mine = eqb-true g.0 f.0 is in
      let then : attached_of functions f.0 ≡ Some (fresh number) = ap (attached_of functions) (sym mine) ∙ on in
      let was : attached_of old.functions f.0 ≡ None = ap (attached_of old.functions) (sym mine) ∙ given.off in
      cond_both (is_called old.now n name) _ _ (λ (events : List OwnEvent). SeesThen events [])
      (λ is.
      let here = eqb-true number n (sym called ∙ is) in
      let desk : desk_in f n old functions ≡ Some (fresh n) =
      ap (desk_of n) (then ∙ ap (λ (k : ℕ). Some (fresh k)) here) ∙ desk_with n (fresh n) (eq-eqb n n refl) in
      let now = same_now none in
      run_one f n (solo_in f n old) attached [] (solo_with f n old files functions)
      (refl, λ i. record { now = now i; last_kept = get old.kept n; desk = desk i }))
      (λ is_no.
      no_change none
      (ap (desk_of n) then ∙ desk_without n (fresh number) (sym called ∙ is_no) ∙ sym (ap (desk_of n) was))))
      (λ is_no. no_change none (desk_of_other g after attaches.given.others (eqb-false g.0 f.0 is_no)))

  sees_attach : (g : FnNo) (name : List ℕ) (answer : HostAnswer) → AttachStep old.now old.functions g.0 name answer functions → changes ≡ []
      → SeesThen (own_of_host f.0 n old (Attach g name) (happened.Host answer) changes) []
  sees_attach g name said.NoFile step none = quiet none step.1
  sees_attach g name said.FunctionTaken step none = quiet none step.2
  sees_attach g name said.FileTaken step none = quiet none step.2
  sees_attach g name said.Ok step none = sees_attached g name step none
  sees_attach g name answer step none = absurd step

  sees_detached : (g : FnNo) (before : Attached) (after : Function) → attached_of old.functions g.0 ≡ Some before
      → functions ≡ with_numbered old.functions g.0 after → after.attached ≡ None → changes ≡ []
      → SeesThen (cond (g.0 == f.0 && has old.functions f.0 n) (detached ∷ []) []) []
  sees_detached g before after was is gone none =
      let off : attached_of functions g.0 ≡ None =
      ap (λ (functions : List Function). attached_of functions g.0) is ∙ attached_with_same old.functions g.0 after before was ∙ gone in
      let now = same_now none in
      cond_both (g.0 == f.0 && has old.functions f.0 n) _ _ (λ (events : List OwnEvent). SeesThen events [])
      (λ both.
      let mine = eqb-true g.0 f.0 (and_parts (g.0 == f.0) (has old.functions f.0 n) both).0 in
      let desk : desk_in f n old functions ≡ None = ap (desk_of n) (ap (attached_of functions) (sym mine) ∙ off) in
      run_one f n (solo_in f n old) detached [] (solo_with f n old files functions)
      (refl, λ i. record { now = now i; last_kept = get old.kept n; desk = desk i }))
      (λ neither.
      ⊎_elim (λ (mine : g.0 ≡ f.0).
      let without : has old.functions f.0 n ≡ false = sym (ap (λ b. b && has old.functions f.0 n) (eq-eqb g.0 f.0 mine)) ∙ neither in
      no_change none
      (ap (desk_of n) (ap (attached_of functions) (sym mine) ∙ off) ∙ sym (no_desk n (attached_of old.functions f.0) without)))
      (λ (away : g.0 ≢ f.0). no_change none (desk_of_other g after is away)) (cases_eq g.0 f.0))

  sees_detach : (g : FnNo) (answer : HostAnswer) → DetachStep old.functions g.0 answer functions → changes ≡ []
      → SeesThen (own_of_host f.0 n old (Detach g) (happened.Host answer) changes) []
  sees_detach g said.NotAttached step none = quiet none step.1
  sees_detach g said.Queued step none = quiet none step.1
  sees_detach g said.Ok step none =
      sees_detached g step.0.attached step.1.after step.0.on step.1.others (ap (λ (function : Function). function.attached) step.1.becomes) none
  sees_detach g answer step none = absurd step

  sees_command : (blocks : ℕ) (command : HostCommand) (answer : HostAnswer) → HostStep blocks old.now old.functions command answer changes functions
      → SeesThen (own_of_host f.0 n old command (happened.Host answer) changes) (data_of n old (Host command) (happened.Host answer))
  sees_command blocks (Delete name) answer step = sees_deleted name answer step.0 step.1
  sees_command blocks (Attach g name) answer step = sees_attach g name answer step.0 step.1
  sees_command blocks (Detach g) answer step = sees_detach g answer step.0 step.1
  sees_command blocks Sync answer step = quiet step.1 step.2
  sees_command blocks (Regs g) answer step = quiet step.1 step.2
  sees_command blocks command answer step = sees_answer blocks command answer step.0 step.1

  pub sees_host : (setting : Setting) (command : HostCommand) (outcome : Outcome) (last : ℕ) → AnswersHost setting old command outcome changes functions last
      → SeesThen (own_of_host f.0 n old command outcome.answer changes) (data_of n old (Host command) outcome.answer ++ replies_of f.0 n old outcome.reply)
  sees_host setting command outcome last answers =
      let said = answers.said in
      sees_as f n old _ (own_of_host f.0 n old command (happened.Host said) changes) _ (data_of n old (Host command) (happened.Host said)) files functions
      (ap (λ answer. own_of_host f.0 n old command answer changes) answers.told)
      ((λ i. data_of n old (Host command) (answers.told i) ++ replies_of f.0 n old (answers.silent i))
      ∙ append-nil (data_of n old (Host command) (happened.Host said)))
      (sees_command setting.geometry.blocks command said answers.answers)
