-- A file is made under the lowest number that is unused.
use Rattle.std.proofs.Common.{◌≡◌, ℕ, ◌<◌, ◌≤◌, Some, None, MatchOption, IsTrue, refl, ap, ◌∙◌, sym, subst}
use Rattle.std.specs.Prelude.{slice_set}
use Rattle.nesc_base.specs.Files.{File}
use Rattle.nesc_base.specs.Name.{is_name}
use Rattle.file_model.specs.Files.{HasName, IsUnnamed}
use Rattle.file_model.proofs.Answering.{found_from_is_some}
use Rattle.image_layout.specs.declared.table.TableEntry.{TableEntry}
use Rattle.file_layer.specs.Knowing.{OfFiles}
use Rattle.file_layer.specs.Layer.{IsUsed, entry_of}
use Rattle.file_layer.proofs.FileChanges.{Retables, creating, entry_retabled, fits_retabled, fresh_if_unnamed, leads_created, lowest_known, none_if, table_staged}
use Rattle.file_layer.proofs.SomeFiles.{some_known}
use Rattle.file_layer.proofs.Tabling.{fits_staged, goes_tabled, stages_table}
use Rattle.file_layer.proofs.files.Files.create.Goals as goal

pub returns-then-is_some-clause-answers : goal.returns-then-is_some-clause-answers
returns-then-is_some-clause-answers c set places knows =
    let there = found_from_is_some c.find.result _ _ (c.find.ensures.found set places knows) (sym c.if-is_some.ensures) in
    (there.0.0, there.1.0, there.1.1)

unnamed : (c : goal.After-stage_table-arg-1) → OfFiles c.args.self.now (λ set places. IsUnnamed set c.args.name)
unnamed c set places knows =
    let none = none_if c.find.result (sym c.is_some.ensures ∙ c.if-is_some.false) in
    subst (λ r. MatchOption r (IsUnnamed set c.args.name) (λ n. (file : File) × HasName set c.args.name n.0 file)) none (c.find.ensures.found set places knows)

named : (c : goal.After-stage_table-arg-1) → IsTrue (is_name c.args.name)
named c = c.bytes-bytes.ensures.name

-- the number is the lowest that is unused
lowest : (c : goal.After-stage_table-arg-1) → (1 ≤ c.in_ok-file.file.0) × (c.in_ok-file.file.0 ≤ 32) × (entry_of c.args.self.now c.in_ok-file.file.0 ≡ None)
    × ((m : ℕ) → 1 ≤ m → m < c.in_ok-file.file.0 → IsUsed c.args.self.now m)
lowest c =
    subst (λ r. MatchOption r ((n : ℕ) → 1 ≤ n → n ≤ 32 → IsUsed c.args.self.now n) (λ n. (1 ≤ n.0) × (n.0 ≤ 32) × (entry_of c.args.self.now n.0 ≡ None) × ((m : ℕ) → 1 ≤ m → m < n.0 → IsUsed c.args.self.now m)))
    c.in_ok-file.ensures.ok_part c.lowest_unused.ensures

to : (c : goal.After-stage_table-arg-1) → Retables c.args.self.now c.set.new.self c.in_ok-file.file.0 (Some (record { name = c.args.name; length = c.args.length })) c.args.journal.now
to c =
    let entry : TableEntry = record { name = c.args.name; length = c.args.length } in
    let some = some_known c.args.self.now c.requires.fits.layer in
    let low = lowest c in
    creating c.in_ok-file.file.0 entry c.args.self.now c.args.journal.now c.set.new.self low.2 c.requires.fits low.0 low.1 (named c) c.requires.short
    (fresh_if_unnamed c.args.self.now some.0 some.1 c.in_ok-file.file.0 entry some.2 (unnamed c some.0 some.1 some.2))
    (c.set.ensures ∙ ap (λ e. slice_set c.args.self.now.table e (Some entry)) c.from.ensures)

pub stage_table-requires : goal.stage_table-requires
stage_table-requires c =
    fits_retabled c.args.self.now c.set.new.self c.in_ok-file.file.0 (Some (record { name = c.args.name; length = c.args.length })) c.args.journal.now (to c)

pub returns-clause-answers : goal.returns-clause-answers
returns-clause-answers c set places knows =
    let low = lowest c.before in (
      unnamed c.before set places knows,
      lowest_known c.in_ok-file.file.0 (record { name = c.args.name; length = c.args.length }) c.args.self.now c.args.journal.now c.set.new.self low.2 set places knows low.0 low.1 low.3,
    )

pub returns-clause-leads : goal.returns-clause-leads
returns-clause-leads c =
    let low = lowest c.before in
    leads_created c.in_ok-file.file.0 (record { name = c.args.name; length = c.args.length }) c.args.self.now c.args.journal.now c.set.new.self low.2 c.stage_table.new.journal (to c.before) c.stage_table.ensures low.3 (unnamed c.before)

pub returns-clause-used : goal.returns-clause-used
returns-clause-used c m =
    entry_retabled c.args.self.now c.args.self.now c.set.new.self c.in_ok-file.file.0 (Some (record { name = c.args.name; length = c.args.length })) c.args.journal.now (to c.before) refl m

pub returns-clause-stages : goal.returns-clause-stages
returns-clause-stages c =
    let t = to c.before in
    stages_table c.args.self.now c.set.new.self c.in_ok-file.file.0 (Some (record { name = c.args.name; length = c.args.length })) c.args.journal.now t.fits t.numbered t.among t.is t.good t.room c.stage_table.new.journal c.stage_table.ensures

pub returns-clause-fits : goal.returns-clause-fits
returns-clause-fits c =
    let t = to c.before in
    fits_staged c.args.self.now c.set.new.self c.in_ok-file.file.0 (Some (record { name = c.args.name; length = c.args.length })) c.args.journal.now t.fits t.numbered t.among t.is t.good t.room c.stage_table.new.journal c.stage_table.ensures

pub returns-clause-goes : goal.returns-clause-goes
returns-clause-goes c =
    let t = to c.before in
    goes_tabled c.args.self.now c.set.new.self c.in_ok-file.file.0 (Some (record { name = c.args.name; length = c.args.length })) c.args.journal.now t.fits t.numbered t.among t.is t.good t.room c.stage_table.new.journal c.stage_table.ensures

pub returns-clause-tabled : goal.returns-clause-tabled
returns-clause-tabled c =
    table_staged c.args.self.now.geometry c.args.self.now.geometry c.set.new.self c.args.journal.now c.stage_table.new.journal c.stage_table.ensures refl
