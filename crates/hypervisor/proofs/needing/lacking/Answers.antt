use Rattle.std.proofs.Common.{sym}
use Rattle.file_layer.proofs.FileChanges.{none_if}
use Rattle.hypervisor.proofs.Needed.{answers_found, lacks_found, lacks_where_none, on_any_error, takes_found}
use Rattle.hypervisor.proofs.needing.lacking.Goals as goal

pub returns-in_err-file-clause-refused : goal.returns-in_err-file-clause-refused
returns-in_err-file-clause-refused c =
    let none = none_if c.find.result (sym c.in_err-file.ensures.variant) in
    on_any_error c.from_residual.result (lacks_where_none c.args.files.now c.args.name.now c.args.v c.args.n c.find.result c.find.ensures.found c.requires.layer none)

pub returns-clause-takes : goal.returns-clause-takes
returns-clause-takes c =
    takes_found c.args.files.now c.args.name.now c.args.v c.args.n c.find.result c.find.ensures.found c.requires.layer c.in_ok-file.file c.in_ok-file.ensures.ok_part c.needed.result c.needed.ensures.takes

pub returns-clause-refused : goal.returns-clause-refused
returns-clause-refused c =
    lacks_found c.args.files.now c.args.name.now c.args.v c.args.n c.find.result c.find.ensures.found c.requires.layer c.in_ok-file.file c.in_ok-file.ensures.ok_part c.needed.result c.needed.ensures.refused

pub returns-clause-answers : goal.returns-clause-answers
returns-clause-answers c =
    answers_found c.args.files.now c.args.name.now c.args.v c.args.n c.find.result c.find.ensures.found c.requires.layer c.in_ok-file.file c.in_ok-file.ensures.ok_part c.needed.result c.needed.ensures.answers
