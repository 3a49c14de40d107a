use Rattle.std.proofs.Common.{◌≡◌, sym, subst, rules}
use Rattle.file_layer.specs.Layer.{IsLayer, Layer, no_files}
use Rattle.file_layer.proofs.NoFiles.{no_files_layer}
use Rattle.file_layer.proofs.files.Files.new.Goals as goal

pub returns-clause-layer : goal.returns-clause-layer
returns-clause-layer c =
    let files : Layer = record { geometry = c.args.geometry; table = c.empty.result; map = c.in_ok-new.field-0 } in
    let same : files ≡ no_files c.args.geometry = search rules in
    subst IsLayer (sym same) (no_files_layer c.args.geometry c.requires)
