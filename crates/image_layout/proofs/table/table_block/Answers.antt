use Rattle.std.proofs.Common.{◌≡◌, Some, get_or, slice_get, sym, ap, ◌∙◌, arith}
use Rattle.std.proofs.lemmas.Option.{slice_get-get_or}
use Rattle.image_layout.specs.Table.{entry_bytes, table_block}
use Rattle.slot_layout.proofs.Pieces.{IsSpelledTo-more, spelled_from_to}
use Rattle.image_layout.proofs.table.table_block.Goals as goal

pub loop-e-preserved : goal.loop-e-preserved
loop-e-preserved c =
    let entry = get_or c.table.inside.entries c.loop-e.e c.entry-item.result in
    let item : slice_get c.args.table.now c.loop-e.e ≡ Some entry =
    ap (λ t. slice_get t c.loop-e.e) (sym c.table.view_is) ∙ slice_get-get_or c.table.inside.entries c.loop-e.e c.entry-item.result (omega arith) in
    IsSpelledTo-more entry_bytes 32 c.args.table.now 1024 c.loop-e.e c.loop-e.bytes c.copy_from_slice.new.self entry (omega arith) item
    c.copy_from_slice.ensures.len (c.copy_from_slice.ensures.after ∙ c.entry_bytes.ensures) c.loop-e.invariant

pub returns : goal.returns
unfolding table_block
returns c =
    let bytes = spelled_from_to entry_bytes 32 c.args.table.now 1024 c.loop-e.e c.loop-e.bytes (omega arith) (omega arith) c.loop-e.invariant in
    record { good = c.requires; spelling = ap (λ b. record { 0 = b }) bytes }
