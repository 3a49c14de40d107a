use Rattle.std.proofs.Common.{ℕ}
use Rattle.std.proofs.lemmas.Result.{IfOk-weaker}
use Rattle.nesc_base.specs.Disk.{Known}
use Rattle.nesc_session.specs.Resting.{Rests}
use Rattle.nesc_session.specs.Stepping.{KeepsFiles}
use Rattle.nesc_session.specs.declared.session.Session.{Session}
use Rattle.nesc_session.proofs.Committed.{commit_done, committed_leaves, with_journal}
use Rattle.nesc_session.proofs.Renamed.{ok_renamed}
use Rattle.nesc_session.proofs.session.Session.commit.Goals as goal

pub returns-clause-rests : goal.returns-clause-rests
returns-clause-rests g c =
    let before : Known = g.D.Disk.known c.args.disk.now in
    let after : Known = g.D.Disk.known c.commit.new.disk in
    let new : Session = with_journal c.args.self.now c.commit.new.self in
    let done = commit_done c.args.self.now before after c.requires.rests c.commit.result c.commit.new.self c.commit.ensures.commits c.commit.ensures.started c.commit.ensures.rests in
    ok_renamed (λ clock. Rests new after) _ c.commit.result c.map_err.result c.map_err.ensures.cases (IfOk-weaker c.commit.result _ (λ clock. Rests new after) (λ clock both. both.0) done)

pub returns-clause-keeps_files : goal.returns-clause-keeps_files
returns-clause-keeps_files g c =
    let before : Known = g.D.Disk.known c.args.disk.now in
    let after : Known = g.D.Disk.known c.commit.new.disk in
    let new : Session = with_journal c.args.self.now c.commit.new.self in
    let done = commit_done c.args.self.now before after c.requires.rests c.commit.result c.commit.new.self c.commit.ensures.commits c.commit.ensures.started c.commit.ensures.rests in
    let keeps = λ (clock : ℕ). KeepsFiles c.args.self.now before clock new after in
    ok_renamed keeps _ c.commit.result c.map_err.result c.map_err.ensures.cases (IfOk-weaker c.commit.result _ keeps (λ clock both. both.1) done)

pub returns-clause-leaves : goal.returns-clause-leaves
returns-clause-leaves g c = committed_leaves c.args.self.now _ _ c.requires.rests c.commit.result c.commit.ensures.commits
