-- No two files have one name, after each step.
use Rattle.std.proofs.Common.{◌≡◌, ◌≢◌, ℕ, List, [], ◌∷◌, Option, None, Some, refl, sym, ap, ◌∙◌, subst, ⊎_elim}
use Rattle.std.specs.FinMap.{get, insert, remove}
use Rattle.std.proofs.lemmas.Bool.{cases_eq}
use Rattle.std.proofs.lemmas.Option.{none-some, same_Some}
use Rattle.nesc_base.specs.Files.{File, Files}
use Rattle.nesc_base.proofs.Maps.{get-insert_other, get-insert_same, get-remove_other, get-remove_same}
use Rattle.file_model.specs.Files.{Change, Changes, LeadsTo, create, delete, hold, put, resize}
use Rattle.nesc_requests.specs.declared.event.Event.{Event}
use Rattle.nesc_requests.specs.declared.event.Event.TheVariants.{Restart}
use Rattle.plain_machine.specs.Machine.{Does, Moves}
use Rattle.plain_machine.specs.State.{State, committed}
use Rattle.plain_machine.specs.declared.outcome.Outcome.{Outcome}
use Rattle.plain_machine.specs.declared.setting.Setting.{Setting}

-- no two files have one name
abbrev pub AreNamedApart : Files → Type 0
AreNamedApart files = (m n : ℕ) (one other : File) → get files m ≡ Some one → get files n ≡ Some other → one.name ≡ other.name → m ≡ n

-- a file takes a number, with a name that no file of another number has
module _ (files : Files) (n : ℕ) (file : File) (apart : AreNamedApart files)
    (fresh : (m : ℕ) (other : File) → m ≢ n → get files m ≡ Some other → other.name ≢ file.name) where
  this : (m : ℕ) (other : File) → m ≡ n → get (insert files n file) m ≡ Some other → file ≡ other
  this m other same stands =
      same_Some file other (sym (get-insert_same files n file) ∙ sym (ap (get (insert files n file)) same) ∙ stands)

  before : (m : ℕ) (other : File) → m ≢ n → get (insert files n file) m ≡ Some other → get files m ≡ Some other
  before m other away stands = sym (get-insert_other files n file m away) ∙ stands

  named_insert : AreNamedApart (insert files n file)
  named_insert l m one other first second named =
      ⊎_elim (λ (here : l ≡ n).
      ⊎_elim (λ (there : m ≡ n). here ∙ sym there)
      (λ (away : m ≢ n).
      absurd (fresh m other away (before m other away second) (sym named ∙ sym (ap (λ (file : File). file.name) (this l one here first)))))
      (cases_eq m n))
      (λ (away : l ≢ n).
      ⊎_elim (λ (there : m ≡ n).
      absurd (fresh l one away (before l one away first) (named ∙ sym (ap (λ (file : File). file.name) (this m other there second)))))
      (λ (far : m ≢ n). apart l m one other (before l one away first) (before m other far second) named)
      (cases_eq m n)) (cases_eq l n)

-- a file that stands stays under its name
named_again : (old new : Files) (n : ℕ) (file after : File) → AreNamedApart old → get old n ≡ Some file → after.name ≡ file.name → new ≡ insert old n after
    → AreNamedApart new
named_again old new n file after apart stands same is =
    subst AreNamedApart (sym is)
    (named_insert old n after apart (λ m other away was named. away (apart m n other file was stands (named ∙ same))))

named_remove : (files : Files) (n : ℕ) → AreNamedApart files → AreNamedApart (remove files n)
named_remove files n apart l m one other first second named =
    apart l m one other (stood l one first) (stood m other second) named
  where
    stood : (m : ℕ) (file : File) → get (remove files n) m ≡ Some file → get files m ≡ Some file
    stood m file stands =
        ⊎_elim (λ (here : m ≡ n). absurd (none-some file (sym (get-remove_same files n) ∙ sym (ap (get (remove files n)) here) ∙ stands)))
        (λ (away : m ≢ n). sym (get-remove_other files n m away) ∙ stands) (cases_eq m n)

named_change : (old : Files) (change : Change) (new : Files) → AreNamedApart old → Changes old change new → AreNamedApart new
named_change old (create n name length) new apart changes =
    subst AreNamedApart (sym changes.result) (named_insert old n _ apart (λ m other away stands. changes.unnamed m other stands))
named_change old (delete n) new apart changes = subst AreNamedApart (sym changes.result) (named_remove old n apart)
named_change old (resize n length) new apart changes = named_again old new n changes.file _ apart changes.stands refl changes.result
named_change old (hold n blocks) new apart changes = named_again old new n changes.file _ apart changes.stands refl changes.result
named_change old (put n v block) new apart changes = named_again old new n changes.file _ apart changes.stands refl changes.result

pub named_changes : (old : Files) (changes : List Change) (new : Files) → AreNamedApart old → LeadsTo old changes new → AreNamedApart new
named_changes old [] new apart same = subst AreNamedApart (sym same) apart
named_changes old (change ∷ changes) new apart leads = named_changes leads.0 changes new (named_change old change leads.0 apart leads.1) leads.2

-- Steps

-- so it is for the files as they are and as they were kept
pub record HasNamesApart (state : State) : Type 0 where
  pub now : AreNamedApart state.now
  pub kept : AreNamedApart state.kept

pub named_committed : (clock : Option ℕ) (state : State) → HasNamesApart state → HasNamesApart (committed clock state)
named_committed None state named = named
named_committed (Some at) state named = record { now = named.now; kept = named.now }

named_moved : (setting : Setting) (old : State) (event : Event) (changes : List Change) (outcome : Outcome) (new : State)
    → HasNamesApart old → Moves setting old event changes outcome new → HasNamesApart new
named_moved setting old event changes outcome new named moves =
    subst HasNamesApart (sym moves.result)
    (named_committed outcome.after _ (record { now = named_changes old.now changes moves.files named.now moves.leads; kept = named.kept }))

pub named_done : (setting : Setting) (old : State) (event : Event) (changes : List Change) (outcome : Outcome) (new : State)
    → HasNamesApart old → Does setting old event changes outcome new → HasNamesApart new
named_done setting old Restart changes outcome new named does =
    subst HasNamesApart (sym does.result) (record { now = named.kept; kept = named.kept })
named_done setting old event changes outcome new named does = named_moved setting old event changes outcome new named does
