use Rattle.std.proofs.Common.{◌≡◌, None, true, false, refl, ap, arith, rules}
use Rattle.std.specs.Prelude.{◌||◌, Result, Ok, Err}
use Rattle.std.proofs.lemmas.Bool.{false≢true}
use Rattle.std.proofs.lemmas.Option.{none-some}
use Rattle.nesc_base.specs.declared.numbers.FnNo.{FnNo}
use Rattle.nesc_base.proofs.DiskCalls.{goes_itself, unchanged_itself}
use Rattle.nesc_requests.specs.declared.event.Event.TheVariants.{Evict, Handle, Host, Prune, PruneAt, Submit}
use Rattle.nesc_requests.specs.declared.host.HostAnswer.{HostAnswer}
use Rattle.nesc_requests.specs.declared.host.HostAnswer.TheVariants.{Media}
use Rattle.nesc_requests.specs.declared.host.HostCommand.{HostCommand}
use Rattle.nesc_requests.specs.declared.host.HostCommand.TheVariants.{Regs, Sync}
use Rattle.file_layer.proofs.ShownOpens.{stays_on}
use Rattle.host_journal.specs.Journal.{Journal}
use Rattle.hypervisor.specs.Carrying.{IsForHost}
use Rattle.plain_machine.specs.Given.{is_failed_get}
use Rattle.plain_machine.specs.declared.outcome.Answer.TheVariants as answer
use Rattle.nesc_session.specs.Buffers.{waiting_buffers}
use Rattle.nesc_session.specs.Stepping.{KeepsFor}
use Rattle.nesc_session.specs.declared.session.Session.{Session}
use Rattle.nesc_session.proofs.Leaving.{unchanged_leaves}
use Rattle.nesc_session.proofs.LeavingOn.{leaves_by_wider}
use Rattle.nesc_session.proofs.StillRests.{does_unasked, rests_read}
use Rattle.nesc_session.proofs.Unasked.{does_alone, rests_as_they_are, unasked_leaves}
use Rattle.nesc_session.proofs.session.Session.take.Goals as goal

no_fault : {T F : Type 0} (x : T) (fault : F) → ◌≡◌ {A = Result T F} (Ok x) (Err fault) → ⊥
no_fault x fault failed = cc

-- a failed read is told as that alone
media_said : (said : HostAnswer) → (is_failed_get (answer.Host said) || false) ≡ true → said ≡ Media
media_said Media failed = refl
media_said said failed = absurd (false≢true failed)

-- of the host's commands a `sync` alone keeps all files
keeps_no : (session : Session) (command : HostCommand) → IsForHost command → KeepsFor session (Host command) → ⊥
keeps_no session Sync here keeps = here
keeps_no session (Regs f) here keeps = here
keeps_no session command here keeps = keeps

-- A tick

pub returns-in-Tick-clause-does : goal.returns-in-Tick-clause-does
returns-in-Tick-clause-does g c = rw c.in-Tick.is c.tick.ensures.does

pub returns-in-Tick-clause-leaves : goal.returns-in-Tick-clause-leaves
returns-in-Tick-clause-leaves g c = rw c.in-Tick.is c.tick.ensures.leaves

pub returns-in-Tick-clause-still : goal.returns-in-Tick-clause-still
returns-in-Tick-clause-still g c = rw c.in-Tick.is (λ none other. c.tick.ensures.still none)

pub returns-in-Tick-clause-quiet : goal.returns-in-Tick-clause-quiet
returns-in-Tick-clause-quiet g c = rw c.in-Tick.is c.tick.ensures.quiet

-- A request

pub returns-in-Submit-clause-rests : goal.returns-in-Submit-clause-rests
returns-in-Submit-clause-rests g c = rests_as_they_are c.args.self.now c.submit.new.self _ c.submit.ensures.parts c.submit.ensures.session c.requires.rests

pub returns-in-Submit-clause-does : goal.returns-in-Submit-clause-does
returns-in-Submit-clause-does g c =
    let quiet = c.submit.ensures.no_trees in
    rw (c.in-Submit.is, c.told.ensures)
    (does_unasked c.args.self.now c.submit.new.self _ (Submit c.in-Submit.f c.in-Submit.request) _ (ap (λ (journal : Journal). journal.geometry) c.submit.ensures.parts.same_journal)
    (record { walks = quiet.walks; no_leaf = quiet.no_leaf; no_drops = refl; no_path = refl }) c.submit.ensures.does)

pub returns-in-Submit-clause-leaves : goal.returns-in-Submit-clause-leaves
returns-in-Submit-clause-leaves g c =
    unasked_leaves _ c.args.self.now _ (g.met.D.Disk.left_now c.args.disk.now) (λ tells k image. g.met.D.Disk.left_by_now c.args.disk.now k image tells) c.requires.rests

-- The host

pub returns-in-Host-Sync-clause-does : goal.returns-in-Host-Sync-clause-does
returns-in-Host-Sync-clause-does g c = rw (c.in-Host-Sync.is, c.in-Host-Sync.field-0-is) c.sync.ensures.does

pub returns-in-Host-Sync-clause-leaves : goal.returns-in-Host-Sync-clause-leaves
returns-in-Host-Sync-clause-leaves g c = rw (c.in-Host-Sync.is, c.in-Host-Sync.field-0-is) c.sync.ensures.leaves

pub returns-in-Host-Regs-clause-does : goal.returns-in-Host-Regs-clause-does
returns-in-Host-Regs-clause-does g c =
    let f : FnNo = c.in-Host-Regs.f in
    let said : HostAnswer = c.regs.result in
    rw (c.in-Host-Regs.is, c.in-Host-Regs.field-0-is, c.told-in-Host-Regs.ensures)
    (does_alone c.args.self.now _ c.requires.rests.sound.division (Host (Regs f)) (λ e. cc) _ refl refl (record { walks = refl; no_leaf = refl; no_drops = refl; no_path = refl })
    (λ kept state placed stands. record {
      said = said;
      answers = (c.regs.ensures.answers state.now placed.now stands.now.knows, refl, refl);
      told = refl;
      commits = refl;
      silent = refl;
      same_last = refl;
    }))

pub returns-in-Host-Regs-clause-leaves : goal.returns-in-Host-Regs-clause-leaves
returns-in-Host-Regs-clause-leaves g c =
    unasked_leaves _ c.args.self.now _ (g.met.D.Disk.left_now c.args.disk.now) (λ tells k image. g.met.D.Disk.left_by_now c.args.disk.now k image tells) c.requires.rests

pub returns-in-Host : goal.returns-in-Host
returns-in-Host g c =
    let done = c.carry_out.ensures in
    let waits : waiting_buffers c.carry_out.new.self.requests.items ≡ waiting_buffers c.args.self.now.requests.items = rw done.requests refl in
    let here : IsForHost c.in-Host.command = search rules in
    let never : KeepsFor c.args.self.now (Host c.in-Host.command) → ⊥ = keeps_no c.args.self.now c.in-Host.command here in
    rw (c.in-Host.is, c.told-in-Host.ensures)
    (record {
      buffers = omega (arith, done.buffers, waits);
      room = done.room;
      rests = done.rests;
      does = done.does;
      back = tt;
      before = refl;
      setting = done.setting;
      quiet = λ _. refl;
      clock = λ clock is. absurd (none-some clock is);
      leaves = unchanged_leaves _ c.args.self.now _ _ (g.met.D.Disk.left_now c.args.disk.now) (λ tells k image. g.met.D.Disk.left_by_now c.args.disk.now k image tells) c.requires.rests
          done.goes done.unchanged;
      media = record { never_falls = done.cause.never_falls; rose = λ failed. done.cause.rose (media_said c.carry_out.result failed) };
      cause = record { never_falls = done.cause.never_falls; rose = λ failed. absurd (no_fault _ _ failed) };
      asked = λ failed. absurd (false≢true failed);
      image = λ image failed. absurd (no_fault _ _ failed);
      still = λ keeps other. done.unchanged;
      unasked = λ nothing keeps. absurd (never keeps);
      opens = λ tells image failed. no_fault _ _ failed;
      goes = done.goes;
      keeps = done.keeps;
    })

-- A handling

pub returns-in-Handle-clause-rests : goal.returns-in-Handle-clause-rests
returns-in-Handle-clause-rests g c =
    let session : Session = c.args.self.now in
    let done = c.handle.ensures in
    rests_read session c.handle.new.self _ _ (goes_itself _) (unchanged_itself _) done.goes_on.same_geometry done.session
    (stays_on session.files c.handle.new.self.files session.journal c.handle.new.self.journal _ (g.met.D.Disk.reads_whole c.args.disk.now) done.goes_on done.fits done.stays c.requires.rests.rests) c.requires.rests

pub returns-in-Handle-clause-does : goal.returns-in-Handle-clause-does
returns-in-Handle-clause-does g c =
    rw c.in-Handle.is
    (does_unasked c.args.self.now c.handle.new.self _ (Handle c.in-Handle.f) c.handle.result c.handle.ensures.goes_on.same_geometry c.handle.ensures.no_trees c.handle.ensures.does)

pub returns-in-Handle-clause-leaves : goal.returns-in-Handle-clause-leaves
returns-in-Handle-clause-leaves g c =
    unasked_leaves _ c.args.self.now _ (g.met.D.Disk.left_now c.args.disk.now) (λ tells k image. g.met.D.Disk.left_by_now c.args.disk.now k image tells) c.requires.rests

-- What is given up of trees

pub returns-in-Prune-clause-does : goal.returns-in-Prune-clause-does
returns-in-Prune-clause-does g c =
    rw (c.in-Prune.is, c.told-in-Prune.ensures)
    (does_alone c.args.self.now _ c.requires.rests.sound.division (Prune c.in-Prune.f) (λ e. cc) _ refl refl (record { walks = refl; no_leaf = refl; no_drops = refl; no_path = refl })
    (λ kept state placed stands. record { tells = refl; no_commit = refl; silent = refl; unchanged = refl; same = refl; same_last = refl }))

pub returns-in-Prune-clause-leaves : goal.returns-in-Prune-clause-leaves
returns-in-Prune-clause-leaves g c =
    unasked_leaves _ c.args.self.now _ (g.met.D.Disk.left_now c.args.disk.now) (λ tells k image. g.met.D.Disk.left_by_now c.args.disk.now k image tells) c.requires.rests

pub returns-in-PruneAt-clause-does : goal.returns-in-PruneAt-clause-does
returns-in-PruneAt-clause-does g c =
    rw (c.in-PruneAt.is, c.told-in-PruneAt.ensures)
    (does_alone c.args.self.now _ c.requires.rests.sound.division (PruneAt c.in-PruneAt.f c.in-PruneAt.field-1) (λ e. cc) _ refl refl (record { walks = refl; no_leaf = refl; no_drops = refl; no_path = refl })
    (λ kept state placed stands. record { tells = (None, refl); no_commit = refl; silent = refl; unchanged = refl; same = refl; same_last = refl }))

pub returns-in-PruneAt-clause-leaves : goal.returns-in-PruneAt-clause-leaves
returns-in-PruneAt-clause-leaves g c =
    unasked_leaves _ c.args.self.now _ (g.met.D.Disk.left_now c.args.disk.now) (λ tells k image. g.met.D.Disk.left_by_now c.args.disk.now k image tells) c.requires.rests

pub returns-in-Evict-clause-does : goal.returns-in-Evict-clause-does
returns-in-Evict-clause-does g c =
    rw (c.in-Evict.is, c.told-in-Evict.ensures)
    (does_alone c.args.self.now _ c.requires.rests.sound.division Evict (λ e. cc) _ refl refl (record { walks = refl; no_leaf = refl; no_drops = refl; no_path = refl })
    (λ kept state placed stands. record { tells = refl; no_commit = refl; silent = refl; unchanged = refl; same = refl; same_last = refl }))

pub returns-in-Evict-clause-leaves : goal.returns-in-Evict-clause-leaves
returns-in-Evict-clause-leaves g c =
    unasked_leaves _ c.args.self.now _ (g.met.D.Disk.left_now c.args.disk.now) (λ tells k image. g.met.D.Disk.left_by_now c.args.disk.now k image tells) c.requires.rests

-- A restart

pub returns-in-Restart-clause-does : goal.returns-in-Restart-clause-does
returns-in-Restart-clause-does g c = rw c.in-Restart.is c.restart.ensures.does

pub returns-in-Restart-clause-leaves : goal.returns-in-Restart-clause-leaves
returns-in-Restart-clause-leaves g c = leaves_by_wider ⊥ _ c.args.self.now _ _ (λ none. absurd none) c.restart.ensures.leaves
