use Rattle.std.proofs.Common.{◌≡◌, List, Err, IsOk, sym, ap, ◌∙◌, subst}
use Rattle.std.specs.Result.{is_err}
use Rattle.nesc_base.specs.declared.block.Block.{Block}
use Rattle.nesc_base.proofs.DiskCalls.{goes_on}
use Rattle.image_layout.specs.declared.fault.OpenFault.{OpenFault}
use Rattle.image_layout.specs.declared.fault.OpenFault.TheVariants.{Image}
use Rattle.image_layout.specs.Opens.{IsDivided}
use Rattle.image_layout.specs.Refusal.{IsRefused}
use Rattle.host_journal.specs.Journal.{Journal, started_anew}
use Rattle.host_journal.proofs.FirstSync.{err_of}
use Rattle.file_layer.specs.Layer.{IsLayer}
use Rattle.file_layer.specs.Loading.{Loads}
use Rattle.file_layer.proofs.BlocksRead.{where_ok}
use Rattle.file_layer.proofs.NoFiles.{no_files_layer}
use Rattle.plain_machine.specs.declared.setting.Setting.{Setting}
use Rattle.nesc_session.specs.Opening.{IsNew}
use Rattle.nesc_session.specs.declared.session.Session.{Session}
use Rattle.nesc_session.proofs.Begun.{begun_rests, begun_starts, late_there, refused_for_list, refused_there}
use Rattle.nesc_session.proofs.Faults.{not_started_for_list, not_started_for_memory}
use Rattle.nesc_session.proofs.Renamed.{same_err, was_ok}
use Rattle.nesc_session.proofs.WhileOpened.{leaves_where_loaded, leaves_where_not_started, leaves_where_read}
use Rattle.nesc_session.proofs.session.Session.begin.Goals as goal

-- the image is divided as the journal of the new session
divided_as_journal : (image : List Block) (setting : Setting) (session : Session) → IsNew setting session → IsDivided image setting.geometry → IsDivided image session.journal.geometry
divided_as_journal image setting session is divided = subst (IsDivided image) (sym (ap (λ (j : Journal). j.geometry) is.journal)) divided

pub returns-in_err-geometry-clause-leaves : goal.returns-in_err-geometry-clause-leaves
returns-in_err-geometry-clause-leaves g c =
    leaves_where_read g.D.Disk.known _ _ c.read_geometry.ensures.goes c.read_geometry.ensures.unchanged (g.met.D.Disk.left_now c.args.disk.now)
    (λ tells k image. g.met.D.Disk.left_by_now c.args.disk.now k image tells) c.from_residual.result c.from_residual.ensures.0

pub returns-in_err-session-clause-leaves : goal.returns-in_err-session-clause-leaves
returns-in_err-session-clause-leaves g c =
    leaves_where_read g.D.Disk.known _ _ c.read_geometry.ensures.goes c.read_geometry.ensures.unchanged (g.met.D.Disk.left_now c.args.disk.now)
    (λ tells k image. g.met.D.Disk.left_by_now c.args.disk.now k image tells) c.from_residual-in_err-session.result c.from_residual-in_err-session.ensures.0

-- The journal was not started.

pub returns-in_err-map_err-clause-refused : goal.returns-in_err-map_err-clause-refused
returns-in_err-map_err-clause-refused g c tells image is =
    let found : OpenFault = c.in_err-map_err.field-0.0 in
    let back : c.from_residual-in_err-map_err.result ≡ Err found = err_of c.from_residual-in_err-map_err.result _ found (λ e same. same) c.from_residual-in_err-map_err.ensures in
    let bad = not_started_for_list c.start.result c.map_err.result c.map_err.ensures.cases found c.in_err-map_err.was c.from_residual-in_err-map_err.result back image is in
    subst (IsRefused (g.D.Disk.known c.args.disk.now).contents) (sym bad.2)
    (refused_for_list g.D.Disk.known c.args.disk.now _ _ c.read_geometry.ensures.goes c.read_geometry.ensures.unchanged c.in_ok-session.session.journal.geometry
    (divided_as_journal _ _ c.in_ok-session.session c.in_ok-session.ensures (c.in_ok-geometry.ensures.divided tells)) c.start.result c.start.ensures.starts tells bad.0 bad.1)

pub returns-in_err-map_err-clause-memory : goal.returns-in_err-map_err-clause-memory
returns-in_err-map_err-clause-memory g c is =
    let found : OpenFault = c.in_err-map_err.field-0.0 in
    let back : c.from_residual-in_err-map_err.result ≡ Err found = err_of c.from_residual-in_err-map_err.result _ found (λ e same. same) c.from_residual-in_err-map_err.ensures in
    absurd (not_started_for_memory c.start.result c.map_err.result c.map_err.ensures.cases found c.in_err-map_err.was c.from_residual-in_err-map_err.result back is)

pub returns-in_err-map_err-clause-leaves : goal.returns-in_err-map_err-clause-leaves
returns-in_err-map_err-clause-leaves g c =
    let found : OpenFault = c.in_err-map_err.field-0.0 in
    let back : c.from_residual-in_err-map_err.result ≡ Err found = err_of c.from_residual-in_err-map_err.result _ found (λ e same. same) c.from_residual-in_err-map_err.ensures in
    leaves_where_not_started g.D.Disk.known c.args.disk.now _ c.read_geometry.ensures.goes c.read_geometry.ensures.unchanged (g.met.D.Disk.left_now c.args.disk.now)
    (λ tells k image. g.met.D.Disk.left_by_now c.args.disk.now k image tells) c.in_ok-session.session.journal.geometry
    (λ tells. divided_as_journal _ _ c.in_ok-session.session c.in_ok-session.ensures (c.in_ok-geometry.ensures.divided tells)) _ c.start.result c.start.ensures.starts
    c.from_residual-in_err-map_err.result (ap is_err back)
    (λ image is.
    let bad = not_started_for_list c.start.result c.map_err.result c.map_err.ensures.cases found c.in_err-map_err.was c.from_residual-in_err-map_err.result back image is in
    (bad.0, bad.1))

pub returns-in_err-map_err-clause-keeps : goal.returns-in_err-map_err-clause-keeps
returns-in_err-map_err-clause-keeps g c = g.met.D.Disk.keeps_on _ _ _ c.read_geometry.ensures.keeps c.start.ensures.keeps

-- It was, and the files were read.

pub load-requires-clause-layer : goal.load-requires-clause-layer
load-requires-clause-layer g c = subst IsLayer (sym c.in_ok-session.ensures.files) (no_files_layer c.in_ok-geometry.geometry c.in_ok-geometry.ensures.sizes)

pub returns-in_err-load-clause-refused : goal.returns-in_err-load-clause-refused
returns-in_err-load-clause-refused g c tells image is =
    let fresh : Session = c.in_ok-session.session in
    let ok : IsOk c.start.result = was_ok c.start.result c.map_err.result _ c.map_err.ensures.variant c.in_ok-map_err.was in
    let loads : Loads (started_anew fresh.journal) (g.D.Disk.known c.start.new.disk) c.load.new.self c.load.result =
    subst (λ (j : Journal). Loads j (g.D.Disk.known c.start.new.disk) c.load.new.self c.load.result) (where_ok c.start.result ok c.start.ensures.started) c.load.ensures.loads in
    let found : OpenFault = c.in_err-load.field-0.0 in
    let back : c.from_residual-in_err-load.result ≡ Err found = err_of c.from_residual-in_err-load.result _ found (λ e same. same) c.from_residual-in_err-load.ensures in
    refused_there g.D.Disk.known c.args.disk.now _ _ c.read_geometry.ensures.goes c.read_geometry.ensures.unchanged fresh.journal c.start.result ok c.start.ensures.starts
    c.load.new.self c.load.result loads tells image (c.in_err-load.was ∙ ap Err (same_err found (Image image) (sym back ∙ is)))
    (divided_as_journal _ _ fresh c.in_ok-session.ensures (c.in_ok-geometry.ensures.divided tells))

pub returns-in_err-load-clause-leaves : goal.returns-in_err-load-clause-leaves
returns-in_err-load-clause-leaves g c =
    let fresh : Session = c.in_ok-session.session in
    let ok : IsOk c.start.result = was_ok c.start.result c.map_err.result _ c.map_err.ensures.variant c.in_ok-map_err.was in
    let loads : Loads (started_anew fresh.journal) (g.D.Disk.known c.start.new.disk) c.load.new.self c.load.result =
    subst (λ (j : Journal). Loads j (g.D.Disk.known c.start.new.disk) c.load.new.self c.load.result) (where_ok c.start.result ok c.start.ensures.started) c.load.ensures.loads in
    let found : OpenFault = c.in_err-load.field-0.0 in
    let back : c.from_residual-in_err-load.result ≡ Err found = err_of c.from_residual-in_err-load.result _ found (λ e same. same) c.from_residual-in_err-load.ensures in
    leaves_where_loaded g.D.Disk.known c.args.disk.now _ c.read_geometry.ensures.goes c.read_geometry.ensures.unchanged (g.met.D.Disk.left_now c.args.disk.now)
    (λ tells k image. g.met.D.Disk.left_by_now c.args.disk.now k image tells) fresh.journal.geometry
    (λ tells. divided_as_journal _ _ fresh c.in_ok-session.ensures (c.in_ok-geometry.ensures.divided tells)) _ c.start.result c.start.ensures.starts
    ok _ c.load.ensures.goes c.load.ensures.unchanged (g.met.D.Disk.left_now c.start.new.disk) (λ tells k image. g.met.D.Disk.left_by_now c.start.new.disk k image tells)
    c.from_residual-in_err-load.result
    (λ tells image is. late_there g.D.Disk.known c.args.disk.now _ _ c.read_geometry.ensures.goes c.read_geometry.ensures.unchanged fresh.journal c.start.result ok c.start.ensures.starts
    c.load.new.self c.load.result loads tells image (c.in_err-load.was ∙ ap Err (same_err found (Image image) (sym back ∙ is))))

pub returns-in_err-load-clause-keeps : goal.returns-in_err-load-clause-keeps
returns-in_err-load-clause-keeps g c = g.met.D.Disk.keeps_on _ _ _ (g.met.D.Disk.keeps_on _ _ _ c.read_geometry.ensures.keeps c.start.ensures.keeps) c.load.ensures.keeps

-- The machine began.

pub returns-clause-rests : goal.returns-clause-rests
returns-clause-rests g c =
    let fresh : Session = c.in_ok-session.session in
    let ok : IsOk c.start.result = was_ok c.start.result c.map_err.result _ c.map_err.ensures.variant c.in_ok-map_err.was in
    begun_rests (record { machine = c.args.machine; geometry = c.in_ok-geometry.geometry }) c.requires.machine fresh c.in_ok-session.ensures c.load.new.self c.start.new.self (where_ok c.start.result ok c.start.ensures.started)
    g.D.Disk.known c.args.disk.now _ _ _ c.read_geometry.ensures.goes c.read_geometry.ensures.unchanged c.start.result ok c.start.ensures.starts
    c.load.ensures.goes c.load.ensures.unchanged
    (λ tells. divided_as_journal _ _ fresh c.in_ok-session.ensures (c.in_ok-geometry.ensures.divided tells)) c.in_ok-load.ensures.rests

pub returns-clause-start : goal.returns-clause-start
returns-clause-start g c =
    let fresh : Session = c.in_ok-session.session in
    let ok : IsOk c.start.result = was_ok c.start.result c.map_err.result _ c.map_err.ensures.variant c.in_ok-map_err.was in
    begun_starts (record { machine = c.args.machine; geometry = c.in_ok-geometry.geometry }) c.requires.machine fresh c.in_ok-session.ensures c.load.new.self c.start.new.self (where_ok c.start.result ok c.start.ensures.started)
    g.D.Disk.known c.args.disk.now _ _ _ c.read_geometry.ensures.goes c.read_geometry.ensures.unchanged c.start.result ok c.start.ensures.starts
    c.load.ensures.goes c.load.ensures.unchanged
    (λ tells. divided_as_journal _ _ fresh c.in_ok-session.ensures (c.in_ok-geometry.ensures.divided tells)) c.in_ok-load.ensures.rests

pub returns-clause-leaves : goal.returns-clause-leaves
returns-clause-leaves g c =
    let fresh : Session = c.in_ok-session.session in
    let ok : IsOk c.start.result = was_ok c.start.result c.map_err.result _ c.map_err.ensures.variant c.in_ok-map_err.was in
    leaves_where_loaded g.D.Disk.known c.args.disk.now _ c.read_geometry.ensures.goes c.read_geometry.ensures.unchanged (g.met.D.Disk.left_now c.args.disk.now)
    (λ tells k image. g.met.D.Disk.left_by_now c.args.disk.now k image tells) fresh.journal.geometry
    (λ tells. divided_as_journal _ _ fresh c.in_ok-session.ensures (c.in_ok-geometry.ensures.divided tells)) _ c.start.result c.start.ensures.starts
    ok _ c.load.ensures.goes c.load.ensures.unchanged (g.met.D.Disk.left_now c.start.new.disk) (λ tells k image. g.met.D.Disk.left_by_now c.start.new.disk k image tells)
    _ (λ tells image is. absurd cc)

pub returns-clause-goes : goal.returns-clause-goes
returns-clause-goes g c =
    goes_on _ _ _ (goes_on _ _ _ c.read_geometry.ensures.goes c.start.ensures.starts.goes) c.load.ensures.goes
