use Rattle.std.proofs.Common.{◌≤◌, length, sym, ◌∙◌, arith}
use Rattle.std.proofs.lemmas.Bool.{false≢true}
use Rattle.toml.specs.View.{table_view}
use Rattle.script_lang.specs.Limits.{most_bytes}
use Rattle.script_lang.proofs.CountLemmas.{commands_of-bad, commands_of-document, commands_of-long}
use Rattle.script_lang.proofs.script.read_commands.Goals as goal

pub returns-then-text-gt-MOST_BYTES-clause-read : goal.returns-then-text-gt-MOST_BYTES-clause-read
returns-then-text-gt-MOST_BYTES-clause-read c = commands_of-long c.args.text.now (omega (arith, c.if-text-gt-MOST_BYTES.true))

pub returns-in-Ok-clause-read : goal.returns-in-Ok-clause-read
returns-in-Ok-clause-read c =
    let short : length c.args.text.now ≤ most_bytes = omega (arith, c.if-text-gt-MOST_BYTES.false) in
    rw (commands_of-document c.args.text.now short (table_view c.in-Ok.table) c.in-Ok.ensures.ok.0 c.in-Ok.ensures.ok.1) c.read_document.ensures.read

pub returns-in-Err-2-clause-read : goal.returns-in-Err-2-clause-read
returns-in-Err-2-clause-read c =
    let short : length c.args.text.now ≤ most_bytes = omega (arith, c.if-text-gt-MOST_BYTES.false) in
    commands_of-bad c.args.text.now short (c.in-Err.ensures.refused (λ memory. false≢true (sym c.if-is_memory.false ∙ c.is_memory.ensures.1 memory)))
