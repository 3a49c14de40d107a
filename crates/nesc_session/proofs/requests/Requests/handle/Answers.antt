use Rattle.std.proofs.Common.{◌≡◌, ◌≤◌, ℕ, true, [], take, sym, ap, ◌∙◌, subst, rules, arith}
use denote.Enum.Bare.{same_true}
use Rattle.std.proofs.lemmas.Bool.{false≢true}
use Rattle.nesc_base.specs.Files.{file_at}
use Rattle.nesc_requests.specs.contracts.request.Kind.{the_type}
use Rattle.nesc_requests.specs.declared.request.Kind.TheVariants.{Unmapped}
use Rattle.file_model.specs.Files.{holding}
use Rattle.plain_machine.specs.Handlings.{is_wanted, wanted}
use Rattle.plain_machine.specs.declared.outcome.Outcome.{Outcome}
use Rattle.nesc_session.specs.Requests.{Requests}
use Rattle.nesc_session.proofs.Carried.{carries_held, carries_none}
use Rattle.nesc_session.proofs.HandledMisses.{finds_held, finds_no_space, handles_built, handles_held, handles_no_space, handles_none}
use Rattle.nesc_session.proofs.requests.Requests.handle.Goals.{else-free-eq0-via-then-free-eq0+else-lacks, else-free-eq0-via-else-free-eq0}
use Rattle.nesc_session.proofs.requests.Requests.handle.Goals as goal

pub returns-in_default-clause-handles : goal.returns-in_default-clause-handles
returns-in_default-clause-handles c kept set places shows =
    let idle = sym (ap (λ (r : Requests). r.waiting) c.self.view_is) ∙ c.in_default.is in
    rw c.told.ensures
    (record { changes = []; handles = handles_none set c.args.f c.args.file c.args.self.now idle; finds = λ miss waits. tt; carries = carries_none c.args.files.now c.args.journal.now kept set places shows })

pub returns-then-eq-clause-handles : goal.returns-then-eq-clause-handles
returns-then-eq-clause-handles c kept set places shows =
    let waits = sym (ap (λ (r : Requests). r.waiting) c.self.view_is) ∙ c.in-Some.is in
    rw c.told-then-eq.ensures
    (record {
      changes = [];
      handles = handles_built set c.args.f c.args.file c.args.self.now c.in-Some.miss waits c.rewalk.new.self c.rewalk.ensures (same_true the_type (search rules) _ _ (sym c.if-eq.ensures));
      finds = λ miss waits. tt;
      carries = carries_none c.args.files.now c.args.journal.now kept set places shows;
    })

pub returns-then-lacks-clause-handles : goal.returns-then-lacks-clause-handles
returns-then-lacks-clause-handles c kept set places shows =
    let waits = sym (ap (λ (r : Requests). r.waiting) c.self.view_is) ∙ c.in-Some.is in
    let unmapped : c.in-Some.miss.kind ≡ Unmapped = search rules in
    let wants = sym (c.lacks.ensures set places shows.knows) ∙ c.if-lacks.true in
    let ends = c.end_without_space.ensures.ends in
    let none_free = sym (c.free.ensures.answers set places shows.knows) ∙ c.if-free-eq0.true in
    record {
      changes = [];
      handles = handles_no_space set c.args.f c.args.file c.args.self.now c.in-Some.miss waits unmapped wants c.end_without_space.result c.end_without_space.new.self ends;
      finds = finds_no_space set c.args.f c.args.file c.args.self.now _ none_free c.end_without_space.result (ap (λ (o : Outcome). o.answer) ends.told);
      carries = carries_none c.args.files.now c.args.journal.now kept set places shows;
    }

pub hold-count-requires-clause-begins : goal.hold-count-requires-clause-begins
hold-count-requires-clause-begins c = grind arith

pub returns-clause-handles : goal.returns-clause-handles
returns-clause-handles c kept set places shows =
    let own = file_at set c.args.file.0 in
    let waits = sym (ap (λ (r : Requests). r.waiting) c.self.view_is) ∙ c.in-Some.is in
    let unmapped : c.in-Some.miss.kind ≡ Unmapped = search rules in
    let counted = c.hold-count.ensures.count set places shows.knows in
    let free_now = c.free.ensures.answers set places shows.knows in
    let some : is_wanted own c.in-Some.miss ≡ true → 1 ≤ c.free.result =
    elim c.else-free-eq0.branch [
      | else-free-eq0-via-then-free-eq0+else-lacks w ↦ λ wants. absurd (false≢true (sym w.if-lacks.false ∙ w.lacks.ensures set places shows.knows ∙ wants))
      | else-free-eq0-via-else-free-eq0 w ↦ λ wants. let apart = w.if-free-eq0.false in omega (arith, apart)
    ] in
    rw c.told-2.ensures
    (record {
      changes = holding c.args.file.0 (take c.hold-count.result.count (wanted own c.in-Some.miss));
      handles = handles_held set c.args.f c.args.file c.args.self.now c.in-Some.miss waits c.rewalk-2.new.self c.rewalk-2.ensures unmapped c.hold-count.result.count;
      finds = finds_held set c.args.f c.args.file c.args.self.now c.in-Some.miss waits _ c.hold-count.result.count counted (λ wants. subst (λ (k : ℕ). 1 ≤ k) free_now (some wants));
      carries = carries_held c.args.files.now c.args.journal.now kept set places shows c.args.file.0 c.in-Some.miss.v c.in-Some.miss.n c.hold-count.result.count c.hold-count.new.self c.hold-count.new.journal _ (omega (arith, counted))
          c.hold-count.ensures.leads c.hold-count.ensures.stages;
    })

pub returns-clause-stays : goal.returns-clause-stays
returns-clause-stays c kept set places shows = let (others, elsewhere, filled, shown) = c.hold-count.ensures.leads kept set places shows in (others, elsewhere, shown)
