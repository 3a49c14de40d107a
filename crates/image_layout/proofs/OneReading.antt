-- The superblock, a list and the table are read in one way.
use Rattle.std.proofs.Common.{◌≡◌, ℕ, ◌<◌, List, Option, drop, length, slice_get, refl, sym, ap, ◌∙◌, arith}
use Rattle.std.specs.Prelude.{unwrap_or}
use Rattle.std.proofs.lemmas.List.{same_lists}
use Rattle.std.proofs.lemmas.Option.{unwrap_or-slice_get}
use Rattle.byteorder.specs.Endian.{little_number}
use Rattle.nesc_base.specs.declared.block.Block.{Block}
use Rattle.nesc_base.specs.declared.geometry.Geometry.{Geometry}
use Rattle.image_layout.specs.declared.table.TableEntry.{TableEntry}
use Rattle.image_layout.specs.Super.{IsSuperblock}
use Rattle.image_layout.specs.Table.{IsTable}
use Rattle.image_layout.proofs.Superblocks.{sizes-superblock}
use Rattle.image_layout.proofs.TableLemmas.{entry_at, entry_at-one}

-- lists of one length that have the same at each place are one
pub same_items : {X : Type 0} (xs ys : List X) → length xs ≡ length ys → ((k : ℕ) → k < length xs → slice_get xs k ≡ slice_get ys k) → xs ≡ ys
same_items xs ys size same = same_lists xs ys size
    (λ k d below. sym (unwrap_or-slice_get xs k d) ∙ ap (λ x. unwrap_or x d) (same k below) ∙ unwrap_or-slice_get ys k d)

-- a block is a superblock of no two divisions
pub one_superblock : (block : Block) (one other : Geometry) → IsSuperblock block one → IsSuperblock block other → one ≡ other
one_superblock block one other first second =
    let read : ℕ → ℕ = λ at. little_number 4 (drop at block.0) in
    let found : Geometry = record { version = read 8; blocks = read 12; slack = read 16 } in
    sym (sizes-superblock block one found first refl refl refl) ∙ sizes-superblock block other found second refl refl refl

-- a block is no two tables
pub one_table : (block : Block) (one other : List (Option TableEntry)) → IsTable block one → IsTable block other → one ≡ other
one_table block one other first second =
    let count = first.good.count in
    same_items one other (count ∙ sym second.good.count) (λ k below.
    let there = entry_at block other second k (omega arith) in
    entry_at-one block one first k there.0 (omega arith) there.2 there.3 ∙ sym there.1)
