use Rattle.std.proofs.Common.{◌≡◌, None, Some, get_or, length, slice_get, sym, ap, ◌∙◌, arith}
use Rattle.std.proofs.lemmas.Option.{slice_get-get_or}
use Rattle.nesc_base.specs.declared.block.Block.{Block}
use Rattle.image_layout.specs.Owners.{owner_block, owner_bytes}
use Rattle.slot_layout.proofs.Pieces.{IsSpelledTo-more, spelled_from_to}
use Rattle.image_layout.proofs.owners.owner_block.Goals as goal

pub loop-k-preserved : goal.loop-k-preserved
loop-k-preserved c =
    let owner = get_or c.owners.inside.entries c.loop-k.k None in
    let count : length c.owners.inside.entries ≡ 128 = c.owners.invariant in
    let item : slice_get c.args.owners.now c.loop-k.k ≡ Some owner =
    ap (λ t. slice_get t c.loop-k.k) (sym c.owners.view_is) ∙ slice_get-get_or c.owners.inside.entries c.loop-k.k None (omega arith) in
    IsSpelledTo-more owner_bytes 8 c.args.owners.now 1024 c.loop-k.k c.loop-k.bytes c.copy_from_slice.new.self owner (omega arith) item
    c.copy_from_slice.ensures.len (c.copy_from_slice.ensures.after ∙ c.owner_bytes.ensures) c.loop-k.invariant

count : (c : goal.After-loop-k) → length c.args.owners.now ≡ 128
count c = ap length (sym c.owners.view_is) ∙ c.owners.invariant

spelling : (c : goal.After-loop-k) → ◌≡◌ {A = Block} (record { 0 = c.loop-k.bytes }) (owner_block c.args.owners.now)
unfolding owner_block
spelling c =
    let all = count c in
    ap (λ b. record { 0 = b }) (spelled_from_to owner_bytes 8 c.args.owners.now 1024 c.loop-k.k c.loop-k.bytes (omega arith) (omega arith) c.loop-k.invariant)

pub returns-clause-spelling : goal.returns-clause-spelling
returns-clause-spelling c = spelling c

pub returns-clause-reads : goal.returns-clause-reads
returns-clause-reads c lengths entries good = record { count = count c; good = good; spelling = spelling c }
