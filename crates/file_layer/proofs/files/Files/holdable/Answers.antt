use Rattle.std.proofs.Common.{◌≡◌, ◌+◌, length, min, option_map, sym, ap, ◌∙◌}
use Rattle.std.specs.Prelude.{unwrap_or}
use Rattle.std.specs.FinMap.{get}
use Rattle.nesc_base.specs.Files.{file_at}
use Rattle.file_model.specs.Files.{free, unheld_below}
use Rattle.file_layer.specs.Layer.{lacking_below}
use Rattle.image_layout.specs.declared.table.TableEntry.{TableEntry}
use Rattle.file_layer.proofs.Known.{free_alike}
use Rattle.file_layer.proofs.Spaces.{lacking_below_ends, length_or_none, unheld_below_ends}
use Rattle.file_layer.proofs.files.Files.holdable.Goals as goal

pub returns-clause-count : goal.returns-clause-count
returns-clause-count c entry used =
    let long : c.unwrap_or.result ≡ entry.length =
    c.unwrap_or.ensures ∙ ap (λ o. unwrap_or o 0) (c.length.ensures.entry ∙ ap (option_map (λ (e : TableEntry). e.length)) used) in
    let ends : c.min-end.result ≡ min (c.args.v + c.args.n) entry.length = c.min-end.ensures ∙ ap (min (c.args.v + c.args.n)) long in
    c.min.ensures
    ∙ ap (λ k. min k c.free.result) (c.count_lacking-lacking.ensures ∙ ap length (sym (lacking_below_ends c.args.self.now c.args.file.0 c.args.v c.args.n entry.length c.min-end.result ends)))
    ∙ ap (min (length (lacking_below c.args.self.now c.args.file.0 entry.length c.args.v c.args.n))) c.free.ensures.count

pub returns-clause-answers : goal.returns-clause-answers
returns-clause-answers c set places knows =
    let long : (file_at set c.args.file.0).length ≡ c.unwrap_or.result =
    sym (c.unwrap_or.ensures ∙ ap (λ o. unwrap_or o 0) (c.length.ensures.answers set places knows) ∙ length_or_none (get set c.args.file.0)) in
    let counted : c.count_lacking-lacking.result ≡ length (unheld_below (file_at set c.args.file.0) c.args.v c.args.n) =
    c.count_lacking-lacking.ensures
    ∙ sym (unheld_below_ends c.args.self.now set places c.requires.layer knows c.args.file.0 c.args.v c.args.n c.unwrap_or.result c.min-end.result long c.min-end.ensures) in
    let free_now : c.free.result ≡ free c.args.self.now.geometry.blocks set = c.free.ensures.count ∙ sym (free_alike c.args.self.now set places c.requires.layer knows) in
    c.min.ensures ∙ ap (λ k. min k c.free.result) counted ∙ ap (min (length (unheld_below (file_at set c.args.file.0) c.args.v c.args.n))) free_now
