-- Runs of the machine of one file and one function, put together.
use Rattle.std.proofs.Common.{◌≡◌, ℕ, List, [], ◌∷◌, ◌++◌, append-nil, append_assoc, filter, map, Option, None, Some, refl, sym, ap, ◌∙◌, subst}
use Rattle.std.specs.FinMap.{get}
use Rattle.nesc_base.specs.Files.{Files}
use Rattle.nesc_base.specs.declared.numbers.FnNo.{FnNo}
use Rattle.file_model.specs.Files.{Change, LeadsTo}
use Rattle.plain_machine.specs.Functions.{Attached, Function, attached_of}
use Rattle.plain_machine.specs.State.{State, committed}
use Rattle.isolation.specs.History.{OwnEvent, OwnLine, changed, changes_of, is_of, kept, own_of_commit}
use Rattle.isolation.specs.Solo.{Solo, SoloRun, SoloStep, desk_of, file_after, file_after_all, solo_in}
use Rattle.isolation.proofs.OneFile.{ArePossible, changes_make, changes_possible}

module _ (f : FnNo) (n : ℕ) where
  -- one run behind another
  pub run_append : (old : Solo) (events more : List OwnEvent) (lines others : List OwnLine) (mid new : Solo) → SoloRun f n old events lines mid
      → SoloRun f n mid more others new → SoloRun f n old (events ++ more) (lines ++ others) new
  run_append old [] more lines others mid new first second =
      subst (λ (lines : List OwnLine). SoloRun f n old more (lines ++ others) new) (sym first.0)
      (subst (λ (from : Solo). SoloRun f n from more others new) first.1 second)
  run_append old (event ∷ events) more lines others mid new first second = (
    first.0,
    first.1,
    first.2 ++ others,
    first.3,
    run_append first.0 events more first.2 others mid new first.4 second,
    ap (λ (lines : List OwnLine). lines ++ others) first.5 ∙ append_assoc first.1 first.2 others,
  )

  -- one event
  pub run_one : (old : Solo) (event : OwnEvent) (lines : List OwnLine) (new : Solo) → SoloStep f n old event lines new
      → SoloRun f n old (event ∷ []) lines new
  run_one old event lines new step = (new, lines, [], step, (refl, refl), sym (append-nil lines))

  -- changes, one after another
  run_changes : (changes : List Change) (old : Solo) → ArePossible changes old.now
      → SoloRun f n old (map changed changes) [] (record old { now = file_after_all changes old.now })
  run_changes [] old possible = (refl, refl)
  run_changes (change ∷ changes) old possible =
      let next : Solo = record old { now = file_after change old.now } in
      (next, [], [], (refl, possible.0, refl), run_changes changes next possible.1, refl)

  -- a commit, if there is one
  pub run_commit : (clock : Option ℕ) (state : State) → SoloRun f n (solo_in f n state) (own_of_commit clock) [] (solo_in f n (committed clock state))
  run_commit None state = (refl, refl)
  run_commit (Some at) state = run_one (solo_in f n state) kept [] (solo_in f n (committed (Some at) state)) (refl, refl)

  module _ (old : State) where
    -- what there is of the file and the function with these files and functions
    abbrev pub solo_with : Files → List Function → Solo
    solo_with files functions = record { now = get files n; last_kept = get old.kept n; desk = desk_of n (attached_of functions f.0) }

    -- the events lead there, and so much is told
    abbrev pub Sees : List OwnEvent → List OwnLine → Files → List Function → Type 0
    Sees events lines files functions = SoloRun f n (solo_in f n old) events lines (solo_with files functions)

    -- what the function has of the file
    abbrev pub desk_in : List Function → Option Attached
    desk_in functions = desk_of n (attached_of functions f.0)

    module _ (changes : List Change) (files : Files) (functions : List Function) (leads : LeadsTo old.now changes files) where
      -- these are the changes of the file
      pub sees_changes : (own : List Change) → filter (is_of n) changes ≡ own → desk_in functions ≡ desk_in old.functions
          → Sees (map changed own) [] files functions
      sees_changes own is same =
          let now = changes_make old.now changes files n leads ∙ ap (λ (changes : List Change). file_after_all changes (get old.now n)) is in
          let ends : record (solo_in f n old) { now = file_after_all own (get old.now n) } ≡ solo_with files functions =
          λ i. record { now = sym now i; last_kept = get old.kept n; desk = sym same i } in
          let possible = subst (λ (changes : List Change). ArePossible changes (get old.now n)) is (changes_possible old.now changes files n leads) in
          subst (SoloRun f n (solo_in f n old) (map changed own) []) ends (run_changes own (solo_in f n old) possible)

      pub sees_own_changes : desk_in functions ≡ desk_in old.functions → Sees (changes_of n changes) [] files functions
      sees_own_changes same = sees_changes (filter (is_of n) changes) refl same

      -- none of the changes is of the file
      pub sees_nothing : filter (is_of n) changes ≡ [] → desk_in functions ≡ desk_in old.functions → Sees [] [] files functions
      sees_nothing none same = sees_changes [] none same

    -- the same events and lines
    pub sees_as : (events others : List OwnEvent) (lines told : List OwnLine) (files : Files) (functions : List Function) → events ≡ others
        → lines ≡ told → Sees others told files functions → Sees events lines files functions
    sees_as events others lines told files functions same alike sees =
        subst (λ (lines : List OwnLine). Sees events lines files functions) (sym alike)
        (subst (λ (events : List OwnEvent). Sees events told files functions) (sym same) sees)
