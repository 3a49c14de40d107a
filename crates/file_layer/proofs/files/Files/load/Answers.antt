use Rattle.std.proofs.Common.{◌∙◌, IsOk, sym, subst}
use Rattle.nesc_base.specs.declared.geometry.Geometry.{Geometry}
use Rattle.nesc_base.specs.Disk.{Known}
use Rattle.file_layer.specs.Layer.{Fits, IsLayer, Layer}
use Rattle.file_layer.proofs.BlocksRead.{kept_back, on_ok, where_ok}
use Rattle.file_layer.proofs.NoFiles.{emptied_is, no_files_layer}
use Rattle.file_layer.proofs.files.Files.load.Goals as goal

pub load_parts-loaded-requires-clause-map : goal.load_parts-loaded-requires-clause-map
load_parts-loaded-requires-clause-map g c = record { from = c.requires.layer.from; count = c.requires.layer.count }

pub returns-then-is_err-clause-fits : goal.returns-then-is_err-clause-fits
returns-then-is_err-clause-fits g c =
    let geometry : Geometry = c.args.self.now.geometry in
    let emptied : Layer = record { geometry = c.load_parts-loaded.new.self.geometry; table = c.empty-self.result; map = c.clear.new.self } in
    record {
      layer = subst IsLayer
          (sym (emptied_is geometry emptied c.load_parts-loaded.new.self.map c.load_parts-loaded.ensures.same_geometry c.empty-self.ensures c.load_parts-loaded.ensures.map c.clear.ensures))
          (no_files_layer geometry c.requires.layer.sizes);
      sound = c.requires.rests.sound;
      same = c.requires.same ∙ sym c.load_parts-loaded.ensures.same_geometry;
    }

pub returns-else-is_err-clause-rests : goal.returns-else-is_err-clause-rests
returns-else-is_err-clause-rests g c =
    let old : Known = g.D.Disk.known c.args.disk.now in
    let new : Known = g.D.Disk.known c.load_parts-loaded.new.disk in
    let ok : IsOk c.load_parts-loaded.result = c.if-is_err.ensures.negation in
    let fits : Fits c.load_parts-loaded.new.self c.args.journal.now = record {
      layer = where_ok c.load_parts-loaded.result ok c.load_parts-loaded.ensures.layer;
      sound = c.requires.rests.sound;
      same = c.requires.same ∙ sym c.load_parts-loaded.ensures.same_geometry;
    } in
    on_ok c.load_parts-loaded.result (record {
      fits = fits;
      rests = c.load_parts-loaded.ensures.rests;
      parts = λ still kept is.
          let tells = sym c.load_parts-loaded.ensures.goes.still_tells ∙ still in
          where_ok c.load_parts-loaded.result ok
          (c.load_parts-loaded.ensures.loads.loaded tells kept (kept_back c.args.journal.now.geometry old new kept tells c.load_parts-loaded.ensures.unchanged is));
    })
