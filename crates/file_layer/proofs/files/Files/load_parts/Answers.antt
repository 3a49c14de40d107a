use Rattle.std.proofs.Common.{◌≡◌, ◌∙◌, List, Option, Some, None, sym, ap, subst, rules}
use Rattle.nesc_base.specs.declared.block.Block.{Block}
use Rattle.nesc_base.specs.declared.geometry.Geometry.{Geometry}
use Rattle.nesc_base.specs.Disk.{Known}
use Rattle.nesc_base.specs.Geometry.{map_blocks, table_at}
use Rattle.image_layout.specs.declared.fault.ImageFault.TheVariants.{TwiceOwned}
use Rattle.image_layout.specs.declared.table.TableEntry.{TableEntry}
use Rattle.image_layout.specs.Opens.{HasParts}
use Rattle.image_layout.specs.Refusal.{HasNoFiles}
use Rattle.image_layout.specs.Table.{IsTable}
use Rattle.slot_layout.specs.Slots.{block_at}
use Rattle.host_journal.specs.Staged.{now_of}
use Rattle.file_layer.specs.Layer.{IsLayer, Layer, owners_of}
use Rattle.file_layer.specs.Loading.{MapLoads, OfBlocks}
use Rattle.file_layer.proofs.BlocksRead.{kept_on}
use Rattle.file_layer.proofs.MapLoaded.{layer_is, layer_loaded, parts_loaded, twice_loaded}
use Rattle.file_layer.proofs.files.Files.load_parts.Goals as goal

pub returns-in-Some-clause-loads : goal.returns-in-Some-clause-loads
returns-in-Some-clause-loads g c =
    let geometry : Geometry = c.args.self.now.geometry in
    let old : Known = g.D.Disk.known c.args.disk.now in
    let now : Known = g.D.Disk.known c.read_block.new.disk in
    let entries : List (Option TableEntry) = c.in_ok-self.field-0 in
    let are = rw c.in_ok-self.ensures.ok_part at c.table_of.ensures in
    let loads : MapLoads geometry c.args.journal.now now entries (map_blocks geometry) c.load_map.new.self.map (Some (c.in-Some.file, c.in-Some.v)) =
    subst (MapLoads geometry c.args.journal.now now entries (map_blocks geometry) c.load_map.new.self.map) c.in-Some.is c.in_ok-file.ensures.loads in
    let table : OfBlocks c.args.journal.now old (λ blocks. IsTable (block_at blocks (table_at geometry)) entries) =
    λ tells kept is. subst (λ (block : Block). IsTable block entries)
    (c.in_ok-read.ensures.block tells kept is ∙ ap (block_at (now_of c.args.journal.now.staged kept)) c.table_at-block.ensures) are in
    record {
      loaded = λ tells kept is. tt;
      refused = λ tells kept is fault failed.
          let same : TwiceOwned c.in-Some.file c.in-Some.v ≡ fault = search rules in
          let none : HasNoFiles geometry (now_of c.args.journal.now.staged kept) (TwiceOwned c.in-Some.file c.in-Some.v) =
          twice_loaded geometry c.args.journal.now now entries c.load_map.new.self.map c.in-Some.file c.in-Some.v loads (c.read_block.ensures.goes.still_tells ∙ tells) kept
          (kept_on c.args.journal.now.geometry old now kept tells c.read_block.ensures.unchanged is) (table tells kept is) in
          subst (λ (geometry : Geometry). HasNoFiles geometry (now_of c.args.journal.now.staged kept) fault) (sym c.requires.same)
          (subst (HasNoFiles geometry (now_of c.args.journal.now.staged kept)) same none);
    }

pub returns-in-None-clause-loads : goal.returns-in-None-clause-loads
returns-in-None-clause-loads g c =
    let geometry : Geometry = c.args.self.now.geometry in
    let old : Known = g.D.Disk.known c.args.disk.now in
    let now : Known = g.D.Disk.known c.read_block.new.disk in
    let entries : List (Option TableEntry) = c.in_ok-self.field-0 in
    let are = rw c.in_ok-self.ensures.ok_part at c.table_of.ensures in
    let loads : MapLoads geometry c.args.journal.now now entries (map_blocks geometry) c.load_map.new.self.map None =
    subst (MapLoads geometry c.args.journal.now now entries (map_blocks geometry) c.load_map.new.self.map) c.in-None.is c.in_ok-file.ensures.loads in
    let table : OfBlocks c.args.journal.now old (λ blocks. IsTable (block_at blocks (table_at geometry)) entries) =
    λ tells kept is. subst (λ (block : Block). IsTable block entries)
    (c.in_ok-read.ensures.block tells kept is ∙ ap (block_at (now_of c.args.journal.now.staged kept)) c.table_at-block.ensures) are in
    record {
      loaded = λ tells kept is.
          let blocks : List Block = now_of c.args.journal.now.staged kept in
          subst (λ (files : Layer). HasParts files.geometry blocks files.table (owners_of files))
          (sym (layer_is c.load_map.new.self geometry entries c.load_map.ensures.same_geometry c.load_map.ensures.table))
          (parts_loaded geometry c.args.journal.now now entries c.load_map.new.self.map loads (c.read_block.ensures.goes.still_tells ∙ tells) kept
          (kept_on c.args.journal.now.geometry old now kept tells c.read_block.ensures.unchanged is) (table tells kept is));
      refused = λ tells kept is fault failed. search rules;
    }

pub returns-in-None-clause-layer : goal.returns-in-None-clause-layer
returns-in-None-clause-layer g c =
    let geometry : Geometry = c.args.self.now.geometry in
    let now : Known = g.D.Disk.known c.read_block.new.disk in
    let entries : List (Option TableEntry) = c.in_ok-self.field-0 in
    let are = rw c.in_ok-self.ensures.ok_part at c.table_of.ensures in
    let loads : MapLoads geometry c.args.journal.now now entries (map_blocks geometry) c.load_map.new.self.map None =
    subst (MapLoads geometry c.args.journal.now now entries (map_blocks geometry) c.load_map.new.self.map) c.in-None.is c.in_ok-file.ensures.loads in
    subst IsLayer (sym (layer_is c.load_map.new.self geometry entries c.load_map.ensures.same_geometry c.load_map.ensures.table))
    (layer_loaded geometry c.args.journal.now now entries c.load_map.new.self.map loads c.requires.sizes are.good)
