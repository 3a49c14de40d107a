use Rattle.std.proofs.Common.{ℕ, Some, MatchOption, option_map, subst}
use Rattle.nesc_base.specs.declared.numbers.FnNo.{FnNo}
use Rattle.multiplexer.specs.Turns.{IsFirstAfter, IsNoneAfter}
use Rattle.multiplexer.proofs.Bits.{as_cut}
use Rattle.multiplexer.proofs.Turning.{among_after, among_around, next_after, next_around, next_of_machine}
use Rattle.multiplexer.proofs.next.Goals as goal

pub returns-in-Some-clause-next : goal.returns-in-Some-clause-next
returns-in-Some-clause-next c =
    next_after c.args.runnable c.args.last c.args.functions c.requires.taken c.in-Some.f.0
    (subst (λ (bits : ℕ). IsFirstAfter c.args.last bits c.in-Some.f.0) (as_cut c.from.result c.args.runnable c.args.functions c.from.ensures c.requires.few) c.in-Some.ensures)

pub returns-in-Some-clause-among : goal.returns-in-Some-clause-among
returns-in-Some-clause-among c =
    among_after c.args.runnable c.args.last c.args.functions c.requires.taken c.in-Some.f.0
    (subst (λ (bits : ℕ). IsFirstAfter c.args.last bits c.in-Some.f.0) (as_cut c.from.result c.args.runnable c.args.functions c.from.ensures c.requires.few) c.in-Some.ensures)

pub returns-in-Some-clause-runnable : goal.returns-in-Some-clause-runnable
returns-in-Some-clause-runnable c =
    next_of_machine (Some c.in-Some.f.0) c.args.runnable c.args.last c.args.functions c.requires.taken (returns-in-Some-clause-next c)

pub returns-in-None-clause-next : goal.returns-in-None-clause-next
returns-in-None-clause-next c =
    let cut = as_cut c.from.result c.args.runnable c.args.functions c.from.ensures c.requires.few in
    next_around c.args.runnable c.args.last c.args.functions c.requires.taken
    (subst (λ (bits : ℕ). IsNoneAfter c.args.last bits) cut c.in-None.ensures)
    c.first_after-in-None.result
    (subst (λ (bits : ℕ). MatchOption c.first_after-in-None.result (IsNoneAfter 0 bits) (λ f. IsFirstAfter 0 bits f.0)) cut c.first_after-in-None.ensures)

pub returns-in-None-clause-among : goal.returns-in-None-clause-among
returns-in-None-clause-among c =
    among_around c.args.runnable c.args.last c.args.functions c.requires.taken c.first_after-in-None.result
    (subst (λ (bits : ℕ). MatchOption c.first_after-in-None.result (IsNoneAfter 0 bits) (λ f. IsFirstAfter 0 bits f.0)) (as_cut c.from.result c.args.runnable c.args.functions c.from.ensures c.requires.few) c.first_after-in-None.ensures)

pub returns-in-None-clause-runnable : goal.returns-in-None-clause-runnable
returns-in-None-clause-runnable c =
    next_of_machine (option_map (λ (f : FnNo). f.0) c.first_after-in-None.result) c.args.runnable c.args.last c.args.functions c.requires.taken (returns-in-None-clause-next c)
