-- What an event comes to, as the functions and the files of a session change, is what the plain machine does.
use Rattle.std.proofs.Common.{◌≡◌, ◌≢◌, ℕ, ◌+◌, List, [], None, Some, Option, refl, sym, ap, ◌∙◌, subst, arith}
use Rattle.nesc_base.specs.declared.block.Block.{Block}
use Rattle.nesc_base.specs.declared.geometry.Geometry.{Geometry}
use Rattle.nesc_base.specs.Disk.{Known}
use Rattle.nesc_base.specs.Files.{Files}
use Rattle.nesc_requests.specs.declared.event.Event.{Event}
use Rattle.nesc_requests.specs.declared.event.Event.TheVariants.{Evict, Handle, Host, Prune, PruneAt, Restart, Submit, Tick}
use Rattle.file_model.specs.Files.{Change, staged}
use Rattle.file_model.specs.Places.{AreMoved}
use Rattle.file_layer.specs.Layer.{Layer}
use Rattle.file_layer.specs.Showing.{Shows}
use Rattle.host_journal.specs.Journal.{Journal}
use Rattle.host_journal.specs.Kept.{IsKept}
use Rattle.hypervisor.specs.Carrying.{Carries}
use Rattle.image_layout.specs.Opens.{Opens}
use Rattle.plain_machine.specs.Machine.{ComesTo, Does, MayBuild, Moves}
use Rattle.plain_machine.specs.Misses.{HasNoTrees}
use Rattle.plain_machine.specs.Placing.{MovesPlaces, Placed, PlacesAfter, data_area, placed_by}
use Rattle.plain_machine.specs.State.{State, committed}
use Rattle.plain_machine.specs.declared.outcome.Outcome.{Outcome}
use Rattle.plain_machine.specs.declared.setting.Setting.{Setting}
use Rattle.nesc_session.specs.Resting.{IsIn, Stands, functions_in}
use Rattle.nesc_session.specs.Stepping.{DoesOver, DoesTo}
use Rattle.nesc_session.specs.declared.session.Session.{Session}

-- An event that is no restart

does_moves : (setting : Setting) (old : State) (event : Event) (changes : List Change) (outcome : Outcome) (new : State) → event ≢ Restart
    → Moves setting old event changes outcome new → Does setting old event changes outcome new
does_moves setting old (Submit f request) changes outcome new other moves = moves
does_moves setting old Tick changes outcome new other moves = moves
does_moves setting old (Host command) changes outcome new other moves = moves
does_moves setting old (Handle f) changes outcome new other moves = moves
does_moves setting old (Prune f) changes outcome new other moves = moves
does_moves setting old (PruneAt f v) changes outcome new other moves = moves
does_moves setting old Evict changes outcome new other moves = moves
does_moves setting old Restart changes outcome new other moves = absurd (other refl)

places_move : (geometry : Geometry) (old : Placed) (event : Event) (changes : List Change) (after : Option ℕ) (new : Placed) → event ≢ Restart
    → MovesPlaces geometry old changes after new → PlacesAfter geometry old event changes after new
places_move geometry old (Submit f request) changes after new other moves = moves
places_move geometry old Tick changes after new other moves = moves
places_move geometry old (Host command) changes after new other moves = moves
places_move geometry old (Handle f) changes after new other moves = moves
places_move geometry old (Prune f) changes after new other moves = moves
places_move geometry old (PruneAt f v) changes after new other moves = moves
places_move geometry old Evict changes after new other moves = moves
places_move geometry old Restart changes after new other moves = absurd (other refl)

-- the state that a session is in, with these files
abbrev pub state_of : Session → Files → Files → State
state_of session now kept = record { now = now; kept = kept; functions = functions_in session; last = session.last; count = session.journal.count }

pub own_state : (session : Session) (kept : List Block) (state : State) (placed : Placed) → Stands session kept state placed → state_of session state.now state.kept ≡ state
own_state session kept state placed stands =
    let functions = sym stands.functions in
    let last = sym stands.last in
    let count = sym stands.count in
    λ i. record { now = state.now; kept = state.kept; functions = functions i; last = last i; count = count i }

module _ (old new : Session) (event : Event) (other : event ≢ Restart) (outcome : Outcome) (state : State) (placed : Placed) where
  -- without a commit
  pub moves_over : (kept : List Block) (changes : List Change) → old.files.geometry ≡ old.setting.geometry → new.journal.geometry ≡ old.journal.geometry → outcome.after ≡ None → MayBuild event outcome.built
      → ComesTo old.setting (state_of old state.now state.kept) event outcome changes (functions_in new) new.last
      → Carries old.files old.journal kept state.now placed.now changes new.files new.journal
      → Stands old kept state placed → DoesOver old kept state placed event outcome new
  moves_over kept changes division same no_commit builds comes carries stands =
      let next : State = record { now = carries.others; kept = state.kept; functions = functions_in new; last = new.last; count = state.count + staged changes } in
      let moved : Placed = record { now = carries.elsewhere; kept = placed.kept } in
      record {
        changes = changes;
        next = next;
        moved = moved;
        does = does_moves old.setting state event changes outcome next other (record {
          files = carries.others;
          functions = functions_in new;
          last = new.last;
          comes = subst (λ (s : State). ComesTo old.setting s event outcome changes (functions_in new) new.last) (own_state old kept state placed stands) comes;
          builds = builds;
          leads = carries.leads;
          result = sym (ap (λ clock. committed clock next) no_commit);
        });
        places = places_move old.setting.geometry placed event changes outcome.after moved other (record {
          places = carries.elsewhere;
          moves = subst (λ (g : Geometry). AreMoved (data_area g) placed.now changes carries.elsewhere) division carries.moves;
          result = sym (ap (λ clock. placed_by clock moved) no_commit);
        });
        stands = record {
          now = carries.shows;
          kept_files = subst (λ (g : Geometry). Opens kept g state.kept placed.kept) (sym same) stands.kept_files;
          functions = refl;
          last = refl;
          count = omega (arith, stands.count, carries.counted);
        };
      }

  -- with a commit, which comes first
  pub keeps_over : (middle : Session) (disk : Known) (clock : ℕ) (later : List Block) → new.files ≡ middle.files → new.journal ≡ middle.journal → outcome.after ≡ Some clock → MayBuild event outcome.built → HasNoTrees outcome
      → ComesTo old.setting (state_of old state.now state.kept) event outcome [] (functions_in new) new.last
      → (kept : List Block) → Stands old kept state placed → IsIn middle disk later (committed (Some clock) state) (placed_by (Some clock) placed) → DoesTo old state placed event outcome new disk
  keeps_over middle disk clock later same_files same_journal commits builds no_trees comes kept stands is =
      let next : State = record { now = state.now; kept = state.now; functions = functions_in new; last = new.last; count = 0 } in
      let moved : Placed = record { now = placed.now; kept = placed.now } in
      record {
        changes = [];
        next = next;
        moved = moved;
        later = later;
        does = does_moves old.setting state event [] outcome next other (record {
          files = state.now;
          functions = functions_in new;
          last = new.last;
          comes = subst (λ (s : State). ComesTo old.setting s event outcome [] (functions_in new) new.last) (own_state old kept state placed stands) comes;
          builds = builds;
          leads = refl;
          result = sym (ap (λ made. committed made (record { now = state.now; kept = state.kept; functions = functions_in new; last = new.last; count = state.count + 0 })) commits);
        });
        places = places_move old.setting.geometry placed event [] outcome.after moved other (record {
          places = placed.now;
          moves = refl;
          result = sym (ap (λ made. placed_by made placed) commits);
        });
        no_trees = no_trees;
        is_in = record {
          has_kept = subst (λ (j : Journal). IsKept j.geometry disk later) (sym same_journal) is.has_kept;
          stands = record {
            now = subst (λ (files : Layer). Shows files new.journal.staged later state.now placed.now) (sym same_files)
                (subst (λ (j : Journal). Shows middle.files j.staged later state.now placed.now) (sym same_journal) is.stands.now);
            kept_files = subst (λ (j : Journal). Opens later j.geometry state.now placed.now) (sym same_journal) is.stands.kept_files;
            functions = refl;
            last = refl;
            count = is.stands.count ∙ sym (ap (λ (j : Journal). j.count) same_journal);
          };
        };
      }
