-- What a restart leaves: the session goes with its disk, in the state in which the files are those that were kept.
use Rattle.std.proofs.Common.{◌≡◌, inl, ℕ, List, [], length, map, replicate, Some, None, true, refl, sym, ap, ◌∙◌, subst, arith}
use Rattle.std.specs.Prelude.{IsErrOf, IsOk, Result}
use Rattle.std.proofs.lemmas.Bool.{false≢true}
use Rattle.std.proofs.lemmas.List.{length-map, length-replicate}
use Rattle.std.proofs.lemmas.Option.{none-some}
use Rattle.nesc_base.specs.declared.block.Block.{Block}
use Rattle.nesc_base.specs.declared.geometry.Geometry.{Geometry}
use Rattle.nesc_base.specs.Disk.{Goes, Known, Unchanged}
use Rattle.nesc_base.specs.Files.{Files}
use Rattle.nesc_base.specs.Places.{Places}
use Rattle.nesc_requests.specs.declared.event.Event.TheVariants.{Restart}
use Rattle.slot_layout.specs.Slots.{StandsFor}
use Rattle.image_layout.specs.declared.fault.ImageFault.{ImageFault}
use Rattle.image_layout.specs.declared.fault.OpenFault.{OpenFault}
use Rattle.image_layout.specs.declared.fault.OpenFault.TheVariants.{Image}
use Rattle.image_layout.specs.Opens.{Opens}
use Rattle.image_layout.specs.Refusal.{HasNoFiles}
use Rattle.image_layout.proofs.Beside.{opens_standing, refused_standing}
use Rattle.image_layout.proofs.OneFault.{opens_as_nothing}
use Rattle.host_journal.specs.declared.journal.StartFault.{StartFault}
use Rattle.host_journal.specs.declared.journal.StartFault.TheVariants.{BadList}
use Rattle.host_journal.specs.Journal.{Journal, started_anew}
use Rattle.host_journal.specs.Kept.{IsKept}
use Rattle.host_journal.specs.Starting.{Starts}
use Rattle.host_journal.proofs.Overlaid.{now-empty}
use Rattle.host_journal.proofs.Stretches.{LeftByNow, LeftNow}
use Rattle.file_layer.specs.Layer.{Layer}
use Rattle.file_layer.specs.Loading.{Loads}
use Rattle.file_layer.specs.Showing.{RestsOn}
use Rattle.file_layer.proofs.BlocksRead.{kept_on, where_ok}
use Rattle.nesc_requests.specs.Machine.{IsMachine}
use Rattle.nesc_requests.specs.Script.{numbered}
use Rattle.hypervisor.specs.Attachments.{file_of}
use Rattle.plain_machine.specs.Machine.{restarted}
use Rattle.plain_machine.specs.Placing.{Placed, placed_at}
use Rattle.plain_machine.specs.State.{State}
use Rattle.plain_machine.specs.declared.outcome.Answer.TheVariants.{Restarted}
use Rattle.plain_machine.specs.declared.setting.Setting.{Setting}
use Rattle.nesc_session.specs.Requests.{HoldsUpTo, Requests, cleared, functions_of}
use Rattle.nesc_session.specs.Resting.{IsIn, IsSession, Rests}
use Rattle.nesc_session.specs.Stepping.{DoesTo, LeavesOld}
use Rattle.nesc_session.specs.declared.session.Session.{Session}
use Rattle.nesc_session.proofs.Cleared.{still_cleared, no_file, none_waits}
use Rattle.nesc_session.proofs.Leaving.{leaves_read, leaves_wider, one_division, opens_as}
use Rattle.nesc_session.proofs.Loaded.{loaded_is_in}
use Rattle.nesc_session.proofs.MadeFunctions.{functions_restarted}
use Rattle.nesc_session.proofs.Sessions.{as_many}
use Rattle.nesc_session.proofs.StillOpens.{opens_kept}

-- the session with its journal started anew, its functions off, and whatever files it loaded
pub record IsRestarted (old new : Session) : Type 0 where
  pub setting : new.setting ≡ old.setting
  pub journal : new.journal ≡ started_anew old.journal
  pub attachments : new.attachments ≡ replicate (length old.attachments) None
  pub requests : new.requests.items ≡ map cleared old.requests.items
  pub last : new.last ≡ 0

restarted_session : (old new : Session) (before after : Known) → IsRestarted old new → Rests old before → RestsOn new.files new.journal after → IsSession new
restarted_session old new before after is rests loaded =
    let set : new.setting.machine.functions ≡ old.setting.machine.functions = ap (λ (s : Setting). s.machine.functions) is.setting in
    let idle : (f : ℕ) (requests : Requests) → numbered new.requests.items f ≡ Some requests → length requests.queue.requests ≡ 0 =
    λ f requests there. none_waits old.requests.items f requests (sym (ap (λ all. numbered all f) is.requests) ∙ there) in
    record {
      machine = subst (λ (s : Setting). IsMachine s.machine) (sym is.setting) rests.sound.machine;
      division =
          sym loaded.fits.same ∙ ap (λ (j : Journal). j.geometry) is.journal ∙ one_division old before rests ∙ ap (λ (s : Setting). s.geometry) (sym is.setting);
      attachments = ap length is.attachments ∙ length-replicate (length old.attachments) None ∙ rests.sound.attachments ∙ sym set;
      functions = ap length is.requests ∙ length-map old.requests.items cleared ∙ rests.sound.functions ∙ sym set;
      last = omega (arith, is.last);
      used = λ f file has. absurd (none-some file (sym (no_file (length old.attachments) f) ∙ sym (ap (λ files. file_of files f) is.attachments) ∙ has));
      idle = λ f requests there off. idle f requests there;
      few = λ f requests there.
          subst (λ (s : Setting). HoldsUpTo s.machine.queue requests.queue) (sym is.setting)
          (still_cleared old.setting.machine.queue old.requests.items rests.sound.few f requests (sym (ap (λ all. numbered all f) is.requests) ∙ there));
    }

module _ {D : Type 0} (known : D → Known) (old : Session) (first mid : D) (result : Result (Unit {0}) StartFault) (rests : Rests old (known first))
    (starts : Starts known old.journal.geometry first mid result) where
  -- The journal

  -- every image on the way opens as the files that were kept
  pub start_leaves : LeavesOld old (known first) (known mid)
  start_leaves tells kept state placed is =
      leaves_wider (λ image. StandsFor old.journal.geometry image kept) _ (known first) (known mid)
      (λ _ image stands. inl (opens_as old.journal.geometry old.setting.geometry image kept state.kept placed.kept (one_division old (known first) rests) is.has_kept.gates is.stands.kept_files stands))
      (starts.leaves_settled tells is.has_kept.settled kept is.has_kept.stands)

  -- no gate is open, so no slot is to be replayed
  pub lists_are_good : (known first).tells ≡ true → (block : ℕ) → ¬ IsErrOf result (BadList block)
  lists_are_good tells block is =
      let lacks = starts.no_other tells block is in
      false≢true (sym (rests.rests.rests.closed tells 1 (omega arith) (omega arith)) ∙ lacks.opened 1 (omega arith) (omega arith))

  module _ (ok : IsOk result) where
    -- what was kept is so still
    kept_then : (known first).tells ≡ true → (kept : List Block) → IsKept old.journal.geometry (known first) kept → IsKept old.journal.geometry (known mid) kept
    kept_then tells kept is = where_ok result ok (starts.kept tells kept is.gates is.stands)

    -- and the disk opens
    opens_then : (known first).tells ≡ true
        → (kept : List Block) × (files : Files) × (places : Places) × IsKept old.journal.geometry (known mid) kept × Opens (known mid).contents old.journal.geometry files places
    opens_then tells =
        let geometry : Geometry = old.journal.geometry in
        let some = rests.rests.rests.kept tells in
        let kept : List Block = some.0 in
        let opened = rests.opens tells in
        let opens = opens_kept geometry (known first).contents kept opened.0 opened.1 (rests.rests.rests.closed tells) some.1.gates some.1.stands opened.2 in
        let then = kept_then tells kept some.1 in
        (kept, opened.0, opened.1, then, opens_standing (known mid).contents kept geometry opened.0 opened.1 then.gates then.stands opens)

    -- The files

    -- so it has files
    pub files_are_there : (files : Layer) (loaded : Result (Unit {0}) OpenFault) → Loads (started_anew old.journal) (known mid) files loaded
        → (known first).tells ≡ true → (fault : ImageFault) → ¬ IsErrOf loaded (Image fault)
    files_are_there files loaded loads tells fault is =
        let geometry : Geometry = old.journal.geometry in
        let there = opens_then tells in
        let kept : List Block = there.0 in
        let none : HasNoFiles geometry kept fault = subst (λ (blocks : List Block). HasNoFiles geometry blocks fault) (now-empty kept) (loads.refused (starts.goes.still_tells ∙ tells) kept there.3 fault is) in
        (opens_as_nothing (known mid).contents fault (refused_standing (known mid).contents kept geometry fault there.4.divided there.3.stands none)).0 geometry there.1 there.2 there.4

    module _ (last : D) (goes : Goes (known mid) (known last)) (unchanged : Unchanged (known mid) (known last)) where
      pub load_leaves : LeftNow (known mid) → LeftByNow (known mid) → LeavesOld old (known first) (known last)
      load_leaves left_now by_now tells kept state placed is =
          leaves_read _ (known first) (known mid) (known last) left_now by_now starts.goes (start_leaves tells kept state placed is) goes unchanged

      module _ (new : Session) (is : IsRestarted old new) (loaded : RestsOn new.files new.journal (known last)) where
        same_geometry : new.journal.geometry ≡ old.journal.geometry
        same_geometry = ap (λ (j : Journal). j.geometry) is.journal

        told_first : (known last).tells ≡ true → (known first).tells ≡ true
        told_first tells = sym starts.goes.still_tells ∙ (sym goes.still_tells ∙ tells)

        pub restarted_rests : Rests new (known last)
        restarted_rests = record {
          sound = restarted_session old new (known first) (known last) is rests loaded;
          rests = loaded;
          opens = λ tells.
              let there = opens_then (told_first tells) in
              let told : (known mid).tells ≡ true = sym goes.still_tells ∙ tells in (
                there.1,
                there.2,
                subst (λ g. Opens (known last).contents g there.1 there.2) (sym same_geometry)
                    (subst (λ (blocks : List Block). Opens blocks old.journal.geometry there.1 there.2) (sym (unchanged.contents told)) there.4),
              );
        }

        pub restarted_does : (known first).tells ≡ true → (kept : List Block) (state : State) (placed : Placed) → IsIn old (known first) kept state placed
            → DoesTo old state placed Restart (record { before = None; answer = Restarted; drops = 0; built = None; after = None; reply = None }) new (known last)
        restarted_does tells kept state placed is_in =
            let told : (known mid).tells ≡ true = starts.goes.still_tells ∙ tells in
            let kept_last : IsKept old.journal.geometry (known last) kept = kept_on old.journal.geometry (known mid) (known last) kept told unchanged (kept_then tells kept is_in.has_kept) in
            record {
              changes = [];
              next = record { now = state.kept; kept = state.kept; functions = map restarted state.functions; last = 0; count = 0 };
              moved = placed_at placed.kept;
              later = kept;
              does = record {
                told = refl;
                no_drops = refl;
                no_path = refl;
                no_commit = refl;
                silent = refl;
                unchanged = refl;
                result = refl;
              };
              places = refl;
              no_trees = record { walks = refl; no_leaf = refl; no_drops = refl; no_path = refl };
              is_in = loaded_is_in new (known last) kept (map restarted state.functions) state.kept placed.kept loaded
                  (ap (λ (j : Journal). j.staged) is.journal) (ap (λ (j : Journal). j.count) is.journal) is.last
                  (ap (map restarted) is_in.stands.functions ∙ functions_restarted old.attachments old.requests.items (as_many old rests.sound)
                  ∙ sym (ap (λ files. functions_of files new.requests.items) is.attachments ∙ ap (functions_of (replicate (length old.attachments) None)) is.requests))
                  (goes.still_tells ∙ told)
                  (subst (λ g. IsKept g (known last) kept) (sym same_geometry) kept_last)
                  (subst (λ g. Opens kept g state.kept placed.kept) (sym same_geometry) is_in.stands.kept_files);
            }
