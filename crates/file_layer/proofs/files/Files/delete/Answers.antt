-- A file that holds no block any more goes from the table.
use Rattle.std.proofs.Common.{None, ◌-◌, ap, ◌∙◌, sym, subst}
use Rattle.std.specs.Prelude.{IsSome, if◌then◌else◌, slice_set, slice_get, unwrap_or, ◌==◌}
use Rattle.image_layout.specs.Table.{table_block}
use Rattle.file_layer.specs.Changing.{IsOfOwners}
use Rattle.file_layer.specs.Layer.{IsUsed, entry_of}
use Rattle.file_layer.proofs.FileChanges.{Retables, deleting, entry_retabled, fits_retabled, forgets_retabled, goes_on, leads_deleted, one_geometry, stages_retabled, table_staged, used_if_some}
use Rattle.file_layer.proofs.Shortening.{file_if_used}
use Rattle.file_layer.proofs.Tabling.{fits_staged, goes_tabled}
use Rattle.file_layer.proofs.files.Files.delete.Goals as goal

used : (c : goal.After-stage_table-arg-1) → IsUsed c.args.self.now c.args.file.0
used c = used_if_some (λ entry. entry.length) (entry_of c.args.self.now c.args.file.0) c.length.result c.length.ensures.entry c.if-is_none.ensures

to : (c : goal.After-stage_table-arg-1) → Retables c.shorten.new.self c.set.new.self c.args.file.0 None c.shorten.new.journal
to c =
    let used_mid : IsUsed c.shorten.new.self c.args.file.0 =
    subst (λ table. IsSome (if c.args.file.0 == 0 then None else unwrap_or (slice_get table (c.args.file.0 - 1)) None)) (sym c.shorten.ensures.table) (used c) in
    deleting c.args.file.0 c.shorten.new.self c.shorten.new.journal c.set.new.self c.shorten.ensures.gone used_mid c.shorten.ensures.fits
    (c.set.ensures ∙ ap (λ e. slice_set c.shorten.new.self.table e None) c.from.ensures)

pub stage_table-requires : goal.stage_table-requires
stage_table-requires c = fits_retabled c.shorten.new.self c.set.new.self c.args.file.0 None c.shorten.new.journal (to c)

pub returns-clause-answers : goal.returns-clause-answers
returns-clause-answers c set places knows =
    let file = file_if_used c.args.self.now set places c.args.file.0 knows (used c.before) in
    (file.0, file.1, tt)

pub returns-clause-leads : goal.returns-clause-leads
returns-clause-leads c =
    leads_deleted c.args.file.0 c.shorten.new.self c.shorten.new.journal c.set.new.self c.shorten.ensures.gone c.args.self.now c.args.journal.now c.stage_table.new.journal (to c.before) c.shorten.ensures.leads c.stage_table.ensures

pub returns-clause-used : goal.returns-clause-used
returns-clause-used c m = entry_retabled c.args.self.now c.shorten.new.self c.set.new.self c.args.file.0 None c.shorten.new.journal (to c.before) c.shorten.ensures.table m

pub returns-clause-stages : goal.returns-clause-stages
returns-clause-stages c =
    let same = one_geometry c.args.self.now c.shorten.new.self c.args.journal.now c.shorten.new.journal c.requires.fits c.shorten.ensures.fits c.shorten.ensures.goes in
    stages_retabled c.args.self.now c.shorten.new.self c.set.new.self c.args.file.0 None c.args.journal.now c.shorten.new.journal c.stage_table.new.journal (to c.before) c.stage_table.ensures same
    (IsOfOwners c.args.self.now.geometry c.args.self.now.map c.shorten.new.self.map) c.shorten.ensures.stages

pub returns-clause-fits : goal.returns-clause-fits
returns-clause-fits c =
    let t = to c.before in
    fits_staged c.shorten.new.self c.set.new.self c.args.file.0 None c.shorten.new.journal t.fits t.numbered t.among t.is t.good t.room c.stage_table.new.journal c.stage_table.ensures

pub returns-clause-goes : goal.returns-clause-goes
returns-clause-goes c =
    let t = to c.before in
    goes_on c.args.journal.now c.shorten.new.journal c.stage_table.new.journal c.shorten.ensures.goes
    (goes_tabled c.shorten.new.self c.set.new.self c.args.file.0 None c.shorten.new.journal t.fits t.numbered t.among t.is t.good t.room c.stage_table.new.journal c.stage_table.ensures)

pub returns-clause-forgets : goal.returns-clause-forgets
returns-clause-forgets c =
    forgets_retabled c.args.self.now c.shorten.new.self (table_block c.set.new.self) c.shorten.new.journal c.stage_table.new.journal c.shorten.ensures.fits c.stage_table.ensures c.shorten.ensures.forgets

pub returns-clause-tabled : goal.returns-clause-tabled
returns-clause-tabled c =
    let same = one_geometry c.args.self.now c.shorten.new.self c.args.journal.now c.shorten.new.journal c.requires.fits c.shorten.ensures.fits c.shorten.ensures.goes in
    table_staged c.args.self.now.geometry c.shorten.new.self.geometry c.set.new.self c.shorten.new.journal c.stage_table.new.journal c.stage_table.ensures same
