use Rattle.std.proofs.Common.{◌++◌, sym, append_assoc}
use Rattle.std.specs.List.{flat_map}
use Rattle.plain_machine.specs.Groups.{functions_in, path_told}
use Rattle.plain_machine.specs.Lines.{drop_text, path_text}
use Rattle.text_kit.proofs.WritesLemmas.{Writes-then, Writes-cut, Writes-same}
use Rattle.trace_text.specs.Behind.{last_text}
use Rattle.trace_text.proofs.trace.write_behind.Goals as goal

pub returns-in_err-write_drops : goal.returns-in_err-write_drops
returns-in_err-write_drops g c =
    let outcome = c.args.outcome.now in
    let drops = flat_map drop_text (functions_in outcome.drops) in
    let path = path_text (path_told outcome.answer outcome.built) in
    let last = last_text outcome in
    Writes-same _ _ _ _ _ _ _ _ (sym (append_assoc drops path last))
    (Writes-cut _ _ _ _ _ drops (path ++ last) _ _ c.from_residual.ensures.0 c.in_err-write_drops.ensures)

pub returns-in_err-write_path : goal.returns-in_err-write_path
returns-in_err-write_path g c =
    let outcome = c.args.outcome.now in
    let drops = flat_map drop_text (functions_in outcome.drops) in
    let path = path_text (path_told outcome.answer outcome.built) in
    Writes-cut _ _ _ _ _ (drops ++ path) (last_text outcome) _ _ c.from_residual-in_err-write_path.ensures.0
    (Writes-then _ _ _ _ _ _ drops path _ c.in_ok-write_drops.ensures c.in_err-write_path.ensures)

pub returns : goal.returns
returns g c =
    let outcome = c.args.outcome.now in
    let drops = flat_map drop_text (functions_in outcome.drops) in
    let path = path_text (path_told outcome.answer outcome.built) in
    Writes-then _ _ _ _ _ _ (drops ++ path) (last_text outcome) _ (Writes-then _ _ _ _ _ _ drops path _ c.in_ok-write_drops.ensures c.in_ok-write_path.ensures) c.write_end_of_step.ensures
