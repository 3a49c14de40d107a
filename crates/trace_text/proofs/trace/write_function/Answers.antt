use Rattle.std.proofs.Common.{◌≡◌, [], ◌++◌, sym, append-nil, append_assoc}
use Rattle.std.specs.Fmt.{decimal}
use Rattle.plain_machine.specs.Lines.{function_text}
use Rattle.text_kit.proofs.WritesLemmas.{Writes-then, Writes-same}
use Rattle.trace_text.proofs.trace.write_function.Goals as goal

pub returns : goal.returns
returns g c =
    let begin = c.args.begin.now in
    let f = function_text c.args.f in
    let last = c.args.end.now in
    let rest : decimal c.from.result ++ (last ++ []) ≡ f ++ last = simp (c.from.ensures, append-nil) in
    Writes-same _ _ _ _ _ _ _ _ (sym (append_assoc begin f last))
    (Writes-then _ _ _ _ _ _ begin (f ++ last) _ c.in_ok-write_text.ensures (Writes-same _ _ _ _ _ _ _ _ rest c.write_pieces.ensures))
