-- The session that was opened: it goes with its disk, in the state in which the machine starts with the files as which the image opens.
use Rattle.std.proofs.Common.{◌≡◌, ℕ, List, length, replicate, None, true, refl, sym, ap, ◌∙◌, subst, arith}
use Rattle.std.specs.Prelude.{IsErrOf, IsOk, Result}
use Rattle.std.proofs.lemmas.List.{length-replicate}
use Rattle.std.proofs.lemmas.Option.{none-some}
use Rattle.nesc_base.specs.declared.block.Block.{Block}
use Rattle.nesc_base.specs.declared.geometry.Geometry.{Geometry}
use Rattle.nesc_base.specs.Disk.{Goes, Known, Unchanged}
use Rattle.nesc_base.specs.Files.{Files}
use Rattle.nesc_base.specs.Places.{Places}
use Rattle.nesc_requests.specs.Machine.{IsMachine}
use Rattle.nesc_requests.specs.Script.{numbered}
use Rattle.slot_layout.specs.Slots.{LacksList, StandsFor}
use Rattle.image_layout.specs.declared.fault.ImageFault.{ImageFault}
use Rattle.image_layout.specs.declared.fault.ImageFault.TheVariants.{BadList, BadOwner, BadSize, BadSuper, BadTable, TwiceOwned}
use Rattle.image_layout.specs.declared.fault.OpenFault.{OpenFault}
use Rattle.image_layout.specs.declared.fault.OpenFault.TheVariants.{Image}
use Rattle.image_layout.specs.Opens.{IsDivided, Opens}
use Rattle.image_layout.specs.Refusal.{HasNoFiles, IsRefused}
use Rattle.image_layout.proofs.Beside.{divided_standing, opens_standing, refused_standing}
use Rattle.image_layout.proofs.OneSaying.{opens_once}
use Rattle.hypervisor.specs.Attachments.{file_of}
use Rattle.host_journal.specs.declared.journal.StartFault.{StartFault}
use Rattle.host_journal.specs.declared.journal.StartFault.TheVariants as start
use Rattle.host_journal.specs.Journal.{Journal, started_anew}
use Rattle.host_journal.specs.Kept.{IsKept}
use Rattle.host_journal.specs.Starting.{Starts}
use Rattle.host_journal.proofs.Overlaid.{now-empty}
use Rattle.file_layer.specs.Layer.{Layer}
use Rattle.file_layer.specs.Loading.{Loads}
use Rattle.file_layer.specs.Showing.{RestsOn}
use Rattle.file_layer.proofs.BlocksRead.{kept_on, where_ok}
use Rattle.plain_machine.specs.Functions.{off}
use Rattle.plain_machine.specs.declared.setting.Setting.{Setting}
use Rattle.nesc_session.specs.Opening.{IsBeforeReplay, IsNew, StartsIn}
use Rattle.nesc_session.specs.Requests.{HoldsUpTo, Requests, functions_of, no_requests}
use Rattle.nesc_session.specs.Resting.{IsIdleWhereOff, IsSession, Rests}
use Rattle.nesc_session.specs.declared.session.Session.{Session}
use Rattle.nesc_session.proofs.Cleared.{no_file}
use Rattle.nesc_session.proofs.Idle.{idle_at_start}
use Rattle.nesc_session.proofs.Items.{numbered_replicate}
use Rattle.nesc_session.proofs.Loaded.{loaded_is_in, loaded_opens}
use Rattle.nesc_session.proofs.MadeFunctions.{functions_at_start}

-- blocks that have no files have none for a cause that a replay does not find
late : (geometry : Geometry) (blocks : List Block) (fault : ImageFault) → HasNoFiles geometry blocks fault → ¬ IsBeforeReplay fault
late geometry blocks (BadSuper place) has early = has
late geometry blocks (BadSize place) has early = has
late geometry blocks (BadList place) has early = has
late geometry blocks (BadTable place) has early = early
late geometry blocks (BadOwner place) has early = early
late geometry blocks (TwiceOwned file v) has early = early

-- the image is refused for its list, for which the journal was not started
pub refused_for_list : {D : Type 0} (known : D → Known) (old read new : D) → Goes (known old) (known read) → Unchanged (known old) (known read)
    → (geometry : Geometry) → IsDivided (known old).contents geometry → (started : Result (Unit {0}) StartFault) → Starts known geometry read new started
    → (known old).tells ≡ true → (block : ℕ) → IsErrOf started (start.BadList block) → IsRefused (known old).contents (BadList block)
refused_for_list known old read new goes unchanged geometry divided started starts tells block is =
    (geometry, divided, subst (λ (blocks : List Block). LacksList geometry blocks block) (unchanged.contents tells) (starts.no_other (goes.still_tells ∙ tells) block is))

-- The disk, once the journal was started
module _ {D : Type 0} (known : D → Known) (old read new : D) (goes : Goes (known old) (known read)) (unchanged : Unchanged (known old) (known read))
    (before : Journal) (started : Result (Unit {0}) StartFault) (ok : IsOk started) (starts : Starts known before.geometry read new started) where
  -- it has kept what the image stood for
  pub kept_there : (known old).tells ≡ true → (kept : List Block) × StandsFor before.geometry (known old).contents kept × IsKept before.geometry (known new) kept
  kept_there tells =
      let told : (known read).tells ≡ true = goes.still_tells ∙ tells in
      let some = where_ok started ok (starts.stands told) in
      (some.0, subst (λ (blocks : List Block). StandsFor before.geometry blocks some.0) (unchanged.contents tells) some.2, where_ok started ok (starts.kept told some.0 some.1 some.2))

  module _ (files : Layer) (loaded : Result (Unit {0}) OpenFault) (loads : Loads (started_anew before) (known new) files loaded) (tells : (known old).tells ≡ true)
      (fault : ImageFault) (is : IsErrOf loaded (Image fault)) where
    -- which has no files, where none were loaded
    none_there : HasNoFiles before.geometry (kept_there tells).0 fault
    none_there =
        let there = kept_there tells in
        subst (λ (blocks : List Block). HasNoFiles before.geometry blocks fault) (now-empty there.0) (loads.refused (starts.goes.still_tells ∙ (goes.still_tells ∙ tells)) there.0 there.2 fault is)

    -- so the image is refused
    pub refused_there : IsDivided (known old).contents before.geometry → IsRefused (known old).contents fault
    refused_there divided = let there = kept_there tells in refused_standing (known old).contents there.0 before.geometry fault divided there.1 none_there

    pub late_there : ¬ IsBeforeReplay fault
    late_there = late before.geometry (kept_there tells).0 fault none_there

-- The session

module _ (setting : Setting) (machine : IsMachine setting.machine) (fresh : Session) (is : IsNew setting fresh) (files : Layer) (journal : Journal)
    (anew : journal ≡ started_anew fresh.journal) where
  abbrev pub begun : Session
  begun = record fresh { files = files; journal = journal }

  same_division : journal.geometry ≡ fresh.setting.geometry
  same_division = ap (λ (j : Journal). j.geometry) anew ∙ ap (λ (j : Journal). j.geometry) is.journal ∙ ap (λ (s : Setting). s.geometry) (sym is.set)

  begun_session : (disk : Known) → RestsOn files journal disk → IsSession begun
  begun_session disk rests =
      let n : ℕ = setting.machine.functions in
      let set : fresh.setting.machine.functions ≡ n = ap (λ (s : Setting). s.machine.functions) is.set in
      record {
        machine = subst (λ (s : Setting). IsMachine s.machine) (sym is.set) machine;
        division = sym rests.fits.same ∙ same_division;
        attachments = ap length is.attachments ∙ length-replicate n None ∙ sym set;
        functions = ap length is.requests ∙ length-replicate n (no_requests setting.machine.queue) ∙ sym set;
        last = omega (arith, is.last);
        used = λ f file has. absurd (none-some file (sym (no_file n f) ∙ sym (ap (λ those. file_of those f) is.attachments) ∙ has));
        idle = subst (IsIdleWhereOff fresh.attachments) (sym is.requests) (idle_at_start fresh.attachments n setting.machine.queue);
        few = λ f requests at.
            let none : requests ≡ no_requests setting.machine.queue =
            numbered_replicate n (no_requests setting.machine.queue) f requests (sym (ap (λ all. numbered all f) is.requests) ∙ at) in
            subst (λ (s : Setting). HoldsUpTo s.machine.queue requests.queue) (sym is.set)
            (subst (λ (r : Requests). HoldsUpTo setting.machine.queue r.queue) (sym none) (record { depth = refl; within = omega arith }));
      }

  -- on the disk, which was only read since its journal was started
  module _ {D : Type 0} (known : D → Known) (old read new last : D) (goes : Goes (known old) (known read)) (unchanged : Unchanged (known old) (known read))
      (started : Result (Unit {0}) StartFault) (ok : IsOk started) (starts : Starts known fresh.journal.geometry read new started)
      (on : Goes (known new) (known last)) (still : Unchanged (known new) (known last))
      (divided : (known old).tells ≡ true → IsDivided (known old).contents fresh.journal.geometry) (rests : RestsOn files journal (known last)) where
    one_geometry : journal.geometry ≡ fresh.journal.geometry
    one_geometry = ap (λ (j : Journal). j.geometry) anew

    -- what it has kept opens, and the image opens as this does
    opened : (known old).tells ≡ true
        → (kept : List Block) × (set : Files) × (places : Places) × IsKept journal.geometry (known last) kept × Opens kept journal.geometry set places × Opens (known old).contents journal.geometry set places
    opened tells =
        let there = kept_there known old read new goes unchanged fresh.journal started ok starts tells in
        let told : (known new).tells ≡ true = starts.goes.still_tells ∙ (goes.still_tells ∙ tells) in
        let kept : IsKept journal.geometry (known last) there.0 =
        subst (λ g. IsKept g (known last) there.0) (sym one_geometry) (kept_on fresh.journal.geometry (known new) (known last) there.0 told still there.2) in
        let stands : StandsFor journal.geometry (known old).contents there.0 = subst (λ g. StandsFor g (known old).contents there.0) (sym one_geometry) there.1 in
        let opens =
        loaded_opens files journal (known last) there.0 rests (ap (λ (j : Journal). j.staged) anew) (on.still_tells ∙ told) kept
        (divided_standing (known old).contents there.0 journal.geometry stands (subst (IsDivided (known old).contents) (sym one_geometry) (divided tells))) in
        (there.0, opens.0, opens.1, kept, opens.2, opens_standing (known old).contents there.0 journal.geometry opens.0 opens.1 kept.gates stands opens.2)

    pub begun_rests : Rests begun (known last)
    begun_rests = record {
      sound = begun_session (known last) rests;
      rests = rests;
      opens = λ tells.
          let there = opened (sym goes.still_tells ∙ (sym starts.goes.still_tells ∙ (sym on.still_tells ∙ tells))) in
          (there.1, there.2, opens_standing (known last).contents there.0 journal.geometry there.1 there.2 there.3.gates there.3.stands there.4);
    }

    pub begun_starts : (known old).tells ≡ true → StartsIn begun (known old).contents (known last)
    begun_starts tells =
        let there = opened tells in
        let n : ℕ = setting.machine.functions in
        record {
          some = (there.1, there.2, subst (λ g. Opens (known old).contents g there.1 there.2) same_division there.5);
          starts = λ set places opens.
              let same = opens_once (known old).contents journal.geometry journal.geometry there.1 set there.2 places there.5 (subst (λ g. Opens (known old).contents g set places) (sym same_division) opens) in (
                there.0,
                loaded_is_in begun (known last) there.0 (replicate fresh.setting.machine.functions off) set places rests
                    (ap (λ (j : Journal). j.staged) anew) (ap (λ (j : Journal). j.count) anew) is.last
                    (ap (λ (s : Setting). replicate s.machine.functions off) is.set ∙ sym (functions_at_start n setting.machine.queue)
                    ∙ sym (ap (λ those. functions_of those fresh.requests.items) is.attachments ∙ ap (functions_of (replicate n None)) is.requests))
                    (on.still_tells ∙ (starts.goes.still_tells ∙ (goes.still_tells ∙ tells))) there.3
                    (subst (λ (s : Files). Opens there.0 journal.geometry s places) same.1 (subst (λ (p : Places). Opens there.0 journal.geometry there.1 p) same.2 there.4)),
              );
        }
