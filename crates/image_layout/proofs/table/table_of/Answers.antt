use Rattle.std.proofs.Common.{◌≡◌, ℕ, Option, Some, get_or, slice_get, ap, ◌∙◌, arith, length-set}
use Rattle.std.proofs.lemmas.List.Elements.{recursion_from_All}
use Rattle.std.proofs.lemmas.Option.{slice_get-get_or, slice_get_within}
use Rattle.std.specs.List.{All}
use Rattle.image_layout.specs.Table.{Fits, entry_bytes, table_block}
use Rattle.image_layout.specs.declared.table.TableEntry.{TableEntry}
use Rattle.slot_layout.proofs.Pieces.{HoldsBelow-more, piece, spelled_from_pieces}
use Rattle.image_layout.proofs.TableLemmas.{entry_at, entry_at-one}
use Rattle.image_layout.proofs.table.table_of.Goals as goal

pub returns-in_err-entries : goal.returns-in_err-entries
returns-in_err-entries c =
    rw c.from_residual.ensures (λ table.
    let there = entry_at c.args.block.now table.0 table.1 c.loop-e.e (omega arith) in
    c.in_err-entries.ensures there.0 there.2 there.3)

pub loop-e-preserved : goal.loop-e-preserved
loop-e-preserved c = record {
  count = length-set c.loop-e.entries c.loop-e.e c.in_ok-entries.field-0 ∙ c.loop-e.invariant.count;
  size = c.loop-e.invariant.size;
  read = HoldsBelow-more (λ k entry. Fits entry × (piece 32 k c.args.block.now.0 ≡ entry_bytes entry))
      c.loop-e.entries c.loop-e.e c.in_ok-entries.field-0 c.loop-e.invariant.read c.in_ok-entries.ensures;
}

pub returns-then-not-are_apart : goal.returns-then-not-are_apart
returns-then-not-are_apart c table =
    let item : (k : ℕ) (entry : TableEntry) → slice_get c.loop-e.entries k ≡ Some (Some entry) → slice_get table.0 k ≡ Some (Some entry) =
    λ k entry is.
    let within = slice_get_within c.loop-e.entries k (Some entry) is in
    let count = c.loop-e.invariant.count in
    let read = c.loop-e.invariant.read k (Some entry) (omega arith) is in
    entry_at-one c.args.block.now table.0 table.1 k (Some entry) (omega arith) read.0 read.1 in
    c.if-not-are_apart.ensures.same (λ i j one other is is' same. table.1.good.apart i j one other (item i one is) (item j other is') same)

pub returns : goal.returns
unfolding table_block
returns c =
    let read : (k : ℕ) (entry : Option TableEntry) → slice_get c.loop-e.entries k ≡ Some entry
    → Fits entry × (piece 32 k c.args.block.now.0 ≡ entry_bytes entry) =
    λ k entry is.
    let within = slice_get_within c.loop-e.entries k entry is in
    let count = c.loop-e.invariant.count in
    c.loop-e.invariant.read k entry (omega arith) is in
    let fit : All Fits c.loop-e.entries =
    λ k d within. (read k (get_or c.loop-e.entries k d) (slice_get-get_or c.loop-e.entries k d within)).0 in
    let bytes = spelled_from_pieces entry_bytes 32 c.loop-e.entries c.args.block.now.0
    (omega (arith, c.loop-e.invariant.size, c.loop-e.invariant.count)) (λ k entry is. (read k entry is).1) in
    record {
      good = record {
        count = c.loop-e.invariant.count;
        fit = recursion_from_All Fits c.loop-e.entries fit;
        apart = c.if-not-are_apart.ensures.apart;
      };
      spelling = ap (λ b. record { 0 = b }) bytes;
    }
