use Rattle.std.proofs.Common.{◌≡◌, ◌++◌, w64, to_z, of_z, ap, ◌∙◌, unsigned_abs}
use Rattle.std.specs.Fmt.{decimal}
use Rattle.std.proofs.lemmas.Int.{to_z-of_z}
use Rattle.text_kit.proofs.WritesLemmas.{Writes-same}
use Rattle.nesc_monitor.specs.Inputs.{limit_text, whole_text}
use Rattle.nesc_monitor.proofs.InputLemmas.{limit_line, negative_text, positive_text}
use Rattle.nesc_monitor.proofs.inputs.tell_limit.Goals.{then-count-lt0, else-count-lt0}
use Rattle.nesc_monitor.proofs.inputs.tell_limit.Goals as goal

pub returns : goal.returns
returns g c =
    let count = c.args.count in
    let same : to_z w64 (of_z w64 count) ≡ count = to_z-of_z w64 count c.ranges.count in
    let abs : c.unsigned_abs.result ≡ unsigned_abs count = c.unsigned_abs.ensures.value ∙ ap unsigned_abs same in
    let whole : c.if-count-lt0.sign.now ++ decimal c.unsigned_abs.result ≡ whole_text count = elim c.if-count-lt0.branch [
      | then-count-lt0 w ↦ negative_text count _ _ _ same abs w.if-count-lt0.true (ap (λ sign. sign.now) w.sign-is)
      | else-count-lt0 w ↦ positive_text count _ _ _ same abs w.if-count-lt0.false (ap (λ sign. sign.now) w.sign-is)
    ] in
    Writes-same _ _ _ _ _ _ _ _ (limit_line c.args.text.now _ (limit_text c.args.limit) _ _ (whole_text count) c.limit_name.ensures whole) c.write_pieces.ensures
