use Rattle.std.proofs.Common.{◌≤◌, Ok, true, refl, sym, ap, ◌∙◌, subst}
use Rattle.nesc_base.specs.declared.geometry.Geometry.{Geometry}
use Rattle.nesc_base.specs.Geometry.{total}
use Rattle.host_journal.specs.Journal as value
use Rattle.host_journal.specs.Starting.{Starts}
use Rattle.host_journal.proofs.Restarted.{on_err_always, rests_started}
use Rattle.host_journal.proofs.Sounding.{journal_of, sound-cleared}
use Rattle.host_journal.proofs.journal.Journal.start.Goals as goal

pub invariant_of-self : goal.invariant_of-self
invariant_of-self g c = sound-cleared c.self.invariant c.clear.new.self c.start.new.self c.clear.ensures c.start.ensures.geometry c.start.ensures.ready

pub returns-in_err-start-clause-failed : goal.returns-in_err-start-clause-failed
returns-in_err-start-clause-failed g c = on_err_always c.from_residual.result (record {
  same_geometry = ap (λ (journal : value.Journal). journal.geometry) c.self.view_is;
  not_started = refl;
  sound = journal_of (sound-cleared c.self.invariant c.clear.new.self c.start.new.self c.clear.ensures c.start.ensures.geometry c.start.ensures.ready) _;
})

pub invariant_of-self-2 : goal.invariant_of-self-2
invariant_of-self-2 g c = sound-cleared c.self.invariant c.clear.new.self c.start.new.self c.clear.ensures c.start.ensures.geometry c.start.ensures.ready

pub returns-clause-starts : goal.returns-clause-starts
returns-clause-starts g c =
    subst (λ (geometry : Geometry). Starts g.D.Disk.known geometry c.args.disk.now c.start.new.disk (Ok tt))
    (c.self.invariant.same_geometry ∙ ap (λ (journal : value.Journal). journal.geometry) c.self.view_is) c.in_ok-start.ensures.starts

pub returns-clause-rests : goal.returns-clause-rests
returns-clause-rests g c =
    rests_started g.D.Disk.known _ c.args.disk.now c.start.new.disk
    (subst (λ (geometry : Geometry). Starts g.D.Disk.known geometry c.args.disk.now c.start.new.disk (Ok tt)) c.self.invariant.same_geometry c.in_ok-start.ensures.starts)
    refl
    (journal_of (sound-cleared c.self.invariant c.clear.new.self c.start.new.self c.clear.ensures c.start.ensures.geometry c.start.ensures.ready) true)
    (subst (λ (journal : value.Journal). total journal.geometry ≤ (g.D.Disk.known c.args.disk.now).size) (sym c.self.view_is) c.requires)
