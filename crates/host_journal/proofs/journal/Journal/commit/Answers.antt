use Rattle.std.proofs.Common.{◌≡◌, Ok, ℕ, Bool, true, List, length, take, nat_cmp, refl, sym, ap, ◌∙◌, subst, arith}
use Rattle.std.specs.FinMap.{empty, empty_of_len, len, len-empty}
use Rattle.nesc_base.specs.declared.block.Block.{Block}
use Rattle.host_journal.specs.Committing.{Commits}
use Rattle.host_journal.specs.Journal as value
use Rattle.host_journal.specs.Staged.{Staged}
use Rattle.host_journal.proofs.FirstSync.{err_of}
use Rattle.host_journal.proofs.Keys.{length-targets}
use Rattle.host_journal.proofs.Sounding.{are_for, journal_of, put_over, sound-cleared, sound-none}
use Rattle.host_journal.proofs.Unasked.{commits_answered, commits_failed, commits_nothing, rests_committed}
use Rattle.host_journal.proofs.journal.Journal.commit.Goals as goal

pub invariant_of-self : goal.invariant_of-self
invariant_of-self g c = sound-none c.self.invariant (empty_of_len c.self.inside.staged.staged (sym c.len.ensures.count ∙ c.if-len-eq0.true))

pub returns-then-len-eq0-clause-started : goal.returns-then-len-eq0-clause-started
returns-then-len-eq0-clause-started g c =
    let none = empty_of_len c.self.inside.staged.staged (sym c.len.ensures.count ∙ c.if-len-eq0.true) in
    let started = ap (λ (journal : value.Journal). journal.started) c.self.view_is ∙ c.requires.started in
    ap (λ (staged : Staged). record { geometry = c.self.inside.geometry; staged = staged; count = 0; started = c.self.inside.started }) none
    ∙ ap (λ (b : Bool). record { geometry = c.self.inside.geometry; staged = empty; count = 0; started = b }) started
    ∙ ap (λ (journal : value.Journal). value.started_anew journal) c.self.view_is

pub returns-then-len-eq0-clause-commits : goal.returns-then-len-eq0-clause-commits
returns-then-len-eq0-clause-commits g c =
    let none = empty_of_len c.self.inside.staged.staged (sym c.len.ensures.count ∙ c.if-len-eq0.true) in
    commits_nothing c.args.self.now.geometry c.args.self.now.staged (g.D.Disk.known c.args.disk.now) c.clock.result
    (sym (ap (λ (journal : value.Journal). journal.staged) c.self.view_is) ∙ none)
    (g.met.D.Disk.left_now c.args.disk.now) (λ tells k image before left. g.met.D.Disk.left_by_now c.args.disk.now k image tells before left)

pub write_commit-requires-clause-staged : goal.write_commit-requires-clause-staged
write_commit-requires-clause-staged g c =
    let long : c.self.inside.replay.targets.len ≡ length c.sort_targets-count.new.into = omega (arith, c.sort_targets-count.ensures.length, ap length c.deref_mut.ensures.value, c.self.inside.replay.targets.ok.0) in
    let sorted : take c.sort_targets-count.result c.deref.result.now ≡ take c.sort_targets-count.result c.sort_targets-count.new.into =
    ap (λ (all : List ℕ). take c.sort_targets-count.result all) (c.deref.ensures.value ∙ put_over c.self.inside.replay.targets.len c.sort_targets-count.new.into _ long) in
    are_for c.self.invariant _ (sorted ∙ c.sort_targets-count.ensures.targets)
    (omega (arith, c.len.ensures.within, c.len.ensures.count, length-targets c.self.inside.staged.staged))

pub returns-in_err-write_commit-clause-commits : goal.returns-in_err-write_commit-clause-commits
returns-in_err-write_commit-clause-commits g c =
    subst (λ (journal : value.Journal). Commits journal.geometry journal.staged (g.D.Disk.known c.args.disk.now) (g.D.Disk.known c.write_commit.new.disk) c.from_residual.result) c.self.view_is
    (subst (Commits c.self.inside.geometry c.self.inside.staged.staged (g.D.Disk.known c.args.disk.now) (g.D.Disk.known c.write_commit.new.disk))
    (sym (err_of c.from_residual.result _ c.in_err-write_commit.field-0.0 (λ e is. is) c.from_residual.ensures))
    (commits_failed c.self.inside.geometry c.self.inside.staged.staged _ _ c.in_err-write_commit.field-0.0 c.in_err-write_commit.ensures.commits))

pub returns-in_err-write_commit-clause-unasked : goal.returns-in_err-write_commit-clause-unasked
returns-in_err-write_commit-clause-unasked g c none = absurd (omega (arith, c.if-len-eq0.false, c.len.ensures.count, ap (λ (staged : Staged). len staged) (ap (λ (journal : value.Journal). journal.staged) c.self.view_is ∙ none), len-empty nat_cmp Block))

pub invariant_of-self-2 : goal.invariant_of-self-2
invariant_of-self-2 g c = sound-cleared c.self.invariant c.clear.new.self _ c.clear.ensures refl (record {
  sizes = c.self.invariant.ready.sizes;
  list = c.self.invariant.ready.list;
  targets =
      let long : c.self.inside.replay.targets.len ≡ length c.sort_targets-count.new.into = omega (arith, c.sort_targets-count.ensures.length, ap length c.deref_mut.ensures.value, c.self.inside.replay.targets.ok.0) in
      ap length (put_over c.self.inside.replay.targets.len c.sort_targets-count.new.into _ long) ∙ sym long ∙ c.self.inside.replay.targets.ok.0 ∙ c.self.invariant.ready.targets;
  sources = c.self.invariant.ready.sources;
})

pub returns-clause-commits : goal.returns-clause-commits
returns-clause-commits g c =
    subst (λ (journal : value.Journal). Commits journal.geometry journal.staged (g.D.Disk.known c.args.disk.now) (g.D.Disk.known c.write_commit.new.disk) (Ok c.clock-2.result)) c.self.view_is
    (commits_answered c.self.inside.geometry c.self.inside.staged.staged _ _ c.clock-2.result c.in_ok-write_commit.ensures.commits)

pub returns-clause-rests : goal.returns-clause-rests
returns-clause-rests g c =
    let geometry = ap (λ (journal : value.Journal). journal.geometry) c.self.view_is in
    rests_committed c.args.self.now _ (g.D.Disk.known c.args.disk.now) (g.D.Disk.known c.write_commit.new.disk) c.clock-2.result c.requires
    (subst (λ (journal : value.Journal). Commits journal.geometry journal.staged (g.D.Disk.known c.args.disk.now) (g.D.Disk.known c.write_commit.new.disk) (Ok c.clock-2.result)) c.self.view_is
    (commits_answered c.self.inside.geometry c.self.inside.staged.staged _ _ c.clock-2.result c.in_ok-write_commit.ensures.commits))
    geometry refl
    (journal_of (sound-cleared c.self.invariant c.clear.new.self c.self.inside.replay c.clear.ensures refl c.self.invariant.ready) true)

pub returns-clause-unasked : goal.returns-clause-unasked
returns-clause-unasked g c none = absurd (omega (arith, c.if-len-eq0.false, c.len.ensures.count, ap (λ (staged : Staged). len staged) (ap (λ (journal : value.Journal). journal.staged) c.self.view_is ∙ none), len-empty nat_cmp Block))
