-- An event that asks nothing of the disk.
use Rattle.std.proofs.Common.{◌≡◌, ◌≢◌, List, [], None, true, refl, sym, ap, subst}
use Rattle.nesc_base.specs.declared.block.Block.{Block}
use Rattle.nesc_base.specs.Disk.{Known}
use Rattle.nesc_base.proofs.DiskCalls.{goes_itself, unchanged_itself}
use Rattle.nesc_requests.specs.declared.event.Event.{Event}
use Rattle.nesc_requests.specs.declared.event.Event.TheVariants.{Restart}
use Rattle.file_layer.specs.Layer.{Layer}
use Rattle.file_layer.specs.Showing.{RestsOn}
use Rattle.host_journal.specs.Journal.{Journal}
use Rattle.host_journal.proofs.Stretches.{LeftByNow, LeftNow}
use Rattle.plain_machine.specs.Machine.{ComesTo, MayBuild}
use Rattle.plain_machine.specs.Misses.{HasNoTrees}
use Rattle.plain_machine.specs.Placing.{Placed}
use Rattle.plain_machine.specs.State.{State}
use Rattle.plain_machine.specs.declared.outcome.Outcome.{Outcome}
use Rattle.nesc_session.specs.Resting.{IsIn, IsSession, Rests, Stands, functions_in}
use Rattle.nesc_session.specs.Stepping.{DoesTo, KeepsFilesAsTheyAre, LeavesBy}
use Rattle.nesc_session.specs.declared.session.Session.{Session}
use Rattle.nesc_session.proofs.Carried.{carries_none}
use Rattle.nesc_session.proofs.Leaving.{unchanged_leaves}
use Rattle.nesc_session.proofs.Moving.{moves_over, state_of}
use Rattle.nesc_session.proofs.StillRests.{does_unasked, rests_read}

pub unasked_leaves : (keeps : Type 0) (session : Session) (disk : Known) → LeftNow disk → LeftByNow disk → Rests session disk → LeavesBy keeps session disk disk
unasked_leaves keeps session disk left_now by_now rests = unchanged_leaves keeps session disk disk left_now by_now rests (goes_itself disk) (unchanged_itself disk)

-- what it comes to is all that it does
pub does_alone : (session : Session) (disk : Known) → session.files.geometry ≡ session.setting.geometry → (event : Event) → event ≢ Restart → (outcome : Outcome) → outcome.after ≡ None → MayBuild event outcome.built
    → HasNoTrees outcome
    → ((kept : List Block) (state : State) (placed : Placed) → Stands session kept state placed
    → ComesTo session.setting (state_of session state.now state.kept) event outcome [] (functions_in session) session.last)
    → disk.tells ≡ true → (kept : List Block) (state : State) (placed : Placed) → IsIn session disk kept state placed → DoesTo session state placed event outcome session disk
does_alone session disk division event other outcome no_commit builds no_trees comes =
    does_unasked session session disk event outcome refl no_trees (λ kept state placed stands.
    moves_over session session event other outcome state placed kept [] division refl no_commit builds (comes kept state placed stands)
    (carries_none session.files session.journal kept state.now placed.now stands.now) stands)

-- where nothing but functions changes
pub rests_as_they_are : (old new : Session) (disk : Known) → KeepsFilesAsTheyAre old new → IsSession new → Rests old disk → Rests new disk
rests_as_they_are old new disk same sound rests =
    rests_read old new disk disk (goes_itself disk) (unchanged_itself disk) (ap (λ (journal : Journal). journal.geometry) same.same_journal) sound
    (subst (λ (files : Layer). RestsOn files new.journal disk) (sym same.same_files) (subst (λ (journal : Journal). RestsOn old.files journal disk) (sym same.same_journal) rests.rests)) rests
