-- A step: a commit, where the journal has no room for what the event stages, and then what the event does.
use Rattle.std.proofs.Common.{◌≡◌, ◌≢◌, ℕ, ◌+◌, ◌<◌, ◌≤◌, true, List, Option, None, Some, inl, inr, refl, sym, ap, subst, ◌∙◌, arith}
use Rattle.std.specs.Prelude.{is_some, nat_lt}
use Rattle.std.specs.FinMap.{empty}
use Rattle.std.proofs.lemmas.Bool.Decides.{nat_tests}
use Rattle.nesc_base.specs.declared.block.Block.{Block}
use Rattle.nesc_base.specs.declared.geometry.Geometry.{Geometry}
use Rattle.nesc_base.specs.Disk.{Goes, Known, Unchanged}
use Rattle.nesc_base.proofs.DiskCalls.{goes_on, unchanged_on}
use Rattle.nesc_requests.specs.declared.event.Event.{Event}
use Rattle.nesc_requests.specs.declared.event.Event.TheVariants.{Restart}
use Rattle.file_model.specs.Files.{Change}
use Rattle.host_journal.specs.Journal.{Journal}
use Rattle.hypervisor.specs.Needing.{HasRoom}
use Rattle.plain_machine.specs.Machine.{Does, need}
use Rattle.plain_machine.specs.Placing.{Placed, PlacesAfter, placed_by}
use Rattle.plain_machine.specs.State.{State, committed}
use Rattle.plain_machine.specs.declared.outcome.Outcome.{Outcome}
use Rattle.plain_machine.specs.declared.setting.Setting.{Setting}
use Rattle.nesc_session.specs.Resting.{IsIn, Rests, Stands}
use Rattle.nesc_session.specs.Stepping.{CommitsFor, DoesTo, HasClock, HasRoomFor, KeepsFor, LeavesBoth, LeavesBy, MakesRoom, StepsTo, made_room}
use Rattle.nesc_session.specs.declared.session.Session.{Session}
use Rattle.nesc_session.proofs.Behind.{does_behind}
use Rattle.nesc_session.proofs.Leaving.{one_division}
use Rattle.nesc_session.proofs.LeavingOn.{leaves_behind, leaves_by_wider}
use Rattle.nesc_session.proofs.RoomMade.{keeps_in_room}
use Rattle.nesc_session.proofs.Uncommitted.{does_before}

-- a commit came where there was no room
pub came_short : (made : Option ℕ) (slack count : ℕ) → is_some made ≡ nat_lt slack count → (clock : ℕ) → made ≡ Some clock → slack < count
came_short made slack count due clock is = let there : nat_lt slack count ≡ true = sym due ∙ ap is_some is in grind (arith, nat_tests)

-- An event, for which so many blocks need room
module _ (old : Session) (event : Event) (needed : ℕ) where
  -- it commits, where there is no room for these
  module _ (asks : (journal : Journal) → journal.count ≤ journal.geometry.slack → HasRoomFor old event journal → HasRoom journal needed)
      (disk : Known) (rests : Rests old disk) (short : old.setting.geometry.slack < old.journal.count + needed) where
    no_room : HasRoomFor old event old.journal → ⊥
    no_room room =
        let same = ap (λ (geometry : Geometry). geometry.slack) (one_division old disk rests) in
        absurd (omega (arith, short, same, asks old.journal rests.rests.fits.sound.few room))

    pub commits_short : CommitsFor old event
    commits_short = inl no_room

    -- it is none then that keeps the files, and no restart
    pub keeps_not : KeepsFor old event → ⊥
    keeps_not keeps = no_room (keeps_in_room old rests.sound event old.journal rests.rests.fits.sound.few keeps)

    pub restarts_not : event ≢ Restart
    restarts_not is = no_room (subst (λ (one : Event). HasRoomFor old one old.journal) (sym is) tt)

  -- it is a step of the plain machine
  pub steps_behind : (middle new : Session) (before between after : Known) (made : Option ℕ) (outcome : Outcome) → middle.setting ≡ old.setting
      → is_some made ≡ nat_lt old.setting.geometry.slack (old.journal.count + needed)
      → ((kept : List Block) (state : State) (placed : Placed) → Stands old kept state placed
      → (changes : List Change) (outcome : Outcome) (next : State) → Does old.setting state event changes outcome next → needed ≡ need state event changes)
      → Goes before between → MakesRoom old before made middle between
      → (between.tells ≡ true → (kept : List Block) (state : State) (placed : Placed) → IsIn middle between kept state placed → DoesTo middle state placed event outcome new after)
      → before.tells ≡ true → (kept : List Block) (state : State) (placed : Placed) → IsIn old before kept state placed
      → StepsTo old state placed event (record outcome { before = made }) new after
  steps_behind middle new before between after made outcome same due needs goes makes does tells kept state placed is =
      let then = makes tells kept state placed is in
      let done = does (goes.still_tells ∙ tells) then.0 (committed made state) (placed_by made placed) then.1 in
      let here : Does old.setting (committed made state) event done.changes outcome done.next = subst (λ (setting : Setting). Does setting (committed made state) event done.changes outcome done.next) same done.does in
      let alone = does_before old.setting state made event done.changes outcome done.next here in
      let many : needed ≡ need state event done.changes = needs kept state placed is.stands done.changes outcome alone.0 alone.1 in
      let count : old.journal.count ≡ state.count = sym is.stands.count in
      record {
        changes = done.changes;
        next = done.next;
        moved = done.moved;
        later = done.later;
        step = record { due = due ∙ (λ i. nat_lt old.setting.geometry.slack (count i + many i)); does = does_behind old.setting (committed made state) made outcome done.changes event done.next here };
        places = subst (λ (setting : Setting). PlacesAfter setting.geometry (placed_by made placed) event done.changes outcome.after done.moved) same done.places;
        no_trees = record { walks = done.no_trees.walks; no_leaf = done.no_trees.no_leaf; no_drops = done.no_trees.no_drops; no_path = done.no_trees.no_path };
        is_in = done.is_in;
      }

  -- Over a disk
  module _ {D : Type 0} (known : D → Known) (before between : D) where
    -- what stops leave
    pub leaves_in_step : (middle : Session) (after : Known) (made : Option ℕ) → middle ≡ made_room made old → (made ≡ None → between ≡ before) → ((clock : ℕ) → made ≡ Some clock → CommitsFor old event)
        → Goes (known before) (known between) → Goes (known between) after → LeavesBoth old (known before) (known between) → MakesRoom old (known before) made middle (known between)
        → LeavesBy (KeepsFor middle event) middle (known between) after → LeavesBy (CommitsFor old event) old (known before) after
    leaves_in_step middle after None is still cause first second early makes late =
        leaves_by_wider (KeepsFor old event) (CommitsFor old event) old (known before) after (λ keeps. inr keeps)
        (subst (λ (disk : D). LeavesBy (KeepsFor old event) old (known disk) after) (still refl)
        (subst (λ (session : Session). LeavesBy (KeepsFor session event) session (known between) after) is late))
    leaves_in_step middle after (Some clock) is still cause first second early makes late =
        leaves_behind (CommitsFor old event) (KeepsFor (made_room (Some clock) old) event) old clock (known before) (known between) after (cause clock refl) first second early
        (subst (λ (session : Session). MakesRoom old (known before) (Some clock) session (known between)) is makes)
        (subst (λ (session : Session). LeavesBy (KeepsFor session event) session (known between) after) is late)

    -- and the clock of the commit that came first
    pub clock_in_step : (clock : ℕ) (after : D) → HasClock known old before clock between → Goes (known between) (known after) → Unchanged (known between) (known after) → HasClock known old before clock after
    clock_in_step clock after has goes still = record {
      middle = has.middle;
      commits = has.commits;
      at = has.at;
      goes = goes_on _ _ _ has.goes goes;
      still = unchanged_on _ _ _ has.goes has.still still;
    }

    -- which is not asked where nothing is staged and the event keeps the files
    pub unasked_in_step : (middle : Session) (after : D) (made : Option ℕ) → middle ≡ made_room made old → (made ≡ None → between ≡ before) → ((clock : ℕ) → made ≡ Some clock → KeepsFor old event → ⊥)
        → (middle.journal.staged ≡ empty → KeepsFor middle event → after ≡ between) → old.journal.staged ≡ empty → KeepsFor old event → after ≡ before
    unasked_in_step middle after None is still never stays nothing keeps =
        stays (subst (λ (session : Session). session.journal.staged ≡ empty) (sym is) nothing) (subst (λ (session : Session). KeepsFor session event) (sym is) keeps) ∙ still refl
    unasked_in_step middle after (Some clock) is still never stays nothing keeps = absurd (never clock refl keeps)

    -- which nothing changes where no commit comes
    pub still_in_step : (middle : Session) (after : D) (made : Option ℕ) → middle ≡ made_room made old → (made ≡ None → between ≡ before) → ((clock : ℕ) → made ≡ Some clock → CommitsFor old event)
        → ((KeepsFor middle event → ⊥) → Unchanged (known between) (known after)) → (CommitsFor old event → ⊥) → Unchanged (known before) (known after)
    still_in_step middle after None is still cause stays never =
        subst (λ (disk : D). Unchanged (known disk) (known after)) (still refl)
        (stays (λ keeps. never (inr (subst (λ (session : Session). KeepsFor session event) is keeps))))
    still_in_step middle after (Some clock) is still cause stays never = absurd (never (cause clock refl))
