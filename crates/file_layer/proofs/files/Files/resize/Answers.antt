-- A file that holds no block from the length on any more gets that length in the table.
use Rattle.std.proofs.Common.{◌≡◌, Some, ◌-◌, ap, ◌∙◌, refl, sym, option_map}
use Rattle.std.specs.Prelude.{None, if◌then◌else◌, slice_set, slice_get, unwrap_or, ◌==◌}
use Rattle.image_layout.specs.declared.table.TableEntry.{TableEntry}
use Rattle.image_layout.specs.Table.{table_block}
use Rattle.file_layer.specs.Changing.{IsOfOwners}
use Rattle.file_layer.specs.Layer.{IsUsed, entry_of}
use Rattle.file_layer.proofs.FileChanges.{Retables, entry_resized, fits_retabled, forgets_retabled, given_back, goes_on, leads_resized, one_geometry, resizing, stages_retabled, table_staged, used_if_some}
use Rattle.file_layer.proofs.Tabling.{fits_staged, goes_tabled}
use Rattle.file_layer.proofs.files.Files.resize.Goals as goal

-- the table does not change before
same_entry : (c : goal.After-stage_table-arg-1) → entry_of c.args.self.now c.args.file.0 ≡ entry_of c.shorten-given_back.new.self c.args.file.0
same_entry c = ap (λ table. if c.args.file.0 == 0 then None else unwrap_or (slice_get table (c.args.file.0 - 1)) None) (sym c.shorten-given_back.ensures.table)

named : (c : goal.After-stage_table-arg-1) → Some c.in-Some.name ≡ option_map (λ (e : TableEntry). e.name) (entry_of c.shorten-given_back.new.self c.args.file.0)
named c = c.in-Some.ensures.entry ∙ ap (option_map (λ (e : TableEntry). e.name)) (same_entry c)

to : (c : goal.After-stage_table-arg-1) → Retables c.shorten-given_back.new.self c.set.new.self c.args.file.0 (Some (record { name = c.in-Some.name; length = c.args.length })) c.shorten-given_back.new.journal
to c =
    let used : IsUsed c.shorten-given_back.new.self c.args.file.0 = used_if_some (λ e. e.name) (entry_of c.shorten-given_back.new.self c.args.file.0) (Some c.in-Some.name) (named c) refl in
    resizing c.args.file.0 c.args.length c.in-Some.name c.shorten-given_back.new.self c.shorten-given_back.new.journal c.set.new.self c.shorten-given_back.ensures.gone (named c) used c.shorten-given_back.ensures.fits c.requires.short
    (c.set.ensures ∙ ap (λ e. slice_set c.shorten-given_back.new.self.table e (Some (record { name = c.in-Some.name; length = c.args.length }))) c.from.ensures)

pub stage_table-requires : goal.stage_table-requires
stage_table-requires c = fits_retabled c.shorten-given_back.new.self c.set.new.self c.args.file.0 (Some (record { name = c.in-Some.name; length = c.args.length })) c.shorten-given_back.new.journal (to c)

pub returns-clause-answers : goal.returns-clause-answers
returns-clause-answers c set places knows =
    let shorter = c.shorten-given_back.ensures.knows set places knows in
    given_back c.args.self.now c.shorten-given_back.new.self c.args.file.0 c.args.length c.shorten-given_back.result set places c.requires.fits.layer c.shorten-given_back.ensures.fits.layer knows shorter.0 shorter.1 shorter.2 shorter.3 c.shorten-given_back.ensures.count

pub returns-clause-leads : goal.returns-clause-leads
returns-clause-leads c =
    leads_resized c.args.file.0 c.args.length c.in-Some.name c.shorten-given_back.new.self c.shorten-given_back.new.journal c.set.new.self c.shorten-given_back.ensures.gone (named c.before) c.args.self.now c.args.journal.now c.stage_table.new.journal (to c.before) c.shorten-given_back.ensures.leads c.stage_table.ensures

pub returns-clause-used : goal.returns-clause-used
returns-clause-used c m =
    entry_resized c.args.file.0 c.args.length c.in-Some.name c.shorten-given_back.new.self c.shorten-given_back.new.journal c.set.new.self c.shorten-given_back.ensures.gone (named c.before) c.args.self.now (to c.before) c.shorten-given_back.ensures.table m

pub returns-clause-stages : goal.returns-clause-stages
returns-clause-stages c =
    let same = one_geometry c.args.self.now c.shorten-given_back.new.self c.args.journal.now c.shorten-given_back.new.journal c.requires.fits c.shorten-given_back.ensures.fits c.shorten-given_back.ensures.goes in
    stages_retabled c.args.self.now c.shorten-given_back.new.self c.set.new.self c.args.file.0 (Some (record { name = c.in-Some.name; length = c.args.length })) c.args.journal.now c.shorten-given_back.new.journal c.stage_table.new.journal (to c.before) c.stage_table.ensures same
    (IsOfOwners c.args.self.now.geometry c.args.self.now.map c.shorten-given_back.new.self.map) c.shorten-given_back.ensures.stages

pub returns-clause-fits : goal.returns-clause-fits
returns-clause-fits c =
    let t = to c.before in
    fits_staged c.shorten-given_back.new.self c.set.new.self c.args.file.0 (Some (record { name = c.in-Some.name; length = c.args.length })) c.shorten-given_back.new.journal t.fits t.numbered t.among t.is t.good t.room c.stage_table.new.journal c.stage_table.ensures

pub returns-clause-goes : goal.returns-clause-goes
returns-clause-goes c =
    let t = to c.before in
    goes_on c.args.journal.now c.shorten-given_back.new.journal c.stage_table.new.journal c.shorten-given_back.ensures.goes
    (goes_tabled c.shorten-given_back.new.self c.set.new.self c.args.file.0 (Some (record { name = c.in-Some.name; length = c.args.length })) c.shorten-given_back.new.journal t.fits t.numbered t.among t.is t.good t.room c.stage_table.new.journal c.stage_table.ensures)

pub returns-clause-forgets : goal.returns-clause-forgets
returns-clause-forgets c =
    forgets_retabled c.args.self.now c.shorten-given_back.new.self (table_block c.set.new.self) c.shorten-given_back.new.journal c.stage_table.new.journal c.shorten-given_back.ensures.fits c.stage_table.ensures c.shorten-given_back.ensures.forgets

pub returns-clause-tabled : goal.returns-clause-tabled
returns-clause-tabled c =
    let same = one_geometry c.args.self.now c.shorten-given_back.new.self c.args.journal.now c.shorten-given_back.new.journal c.requires.fits c.shorten-given_back.ensures.fits c.shorten-given_back.ensures.goes in
    table_staged c.args.self.now.geometry c.shorten-given_back.new.self.geometry c.set.new.self c.shorten-given_back.new.journal c.stage_table.new.journal c.stage_table.ensures same
