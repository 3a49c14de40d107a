use Rattle.std.proofs.Common.{◌≡◌, ℕ, ◌<◌, ◌≤◌, ◌++◌, Err, List, length, take, drop, get_or, subst, ap, ◌∙◌, arith, rules}
use Rattle.nesc_base.specs.declared.block.Block.{Block}
use Rattle.nesc_base.specs.declared.geometry.Geometry.{Geometry}
use Rattle.nesc_base.specs.Geometry.{table_at, total}
use Rattle.image_layout.specs.declared.fault.ImageFault.TheVariants.{BadTable, TwiceOwned}
use Rattle.image_layout.specs.declared.fault.OpenFault.TheVariants.{Image}
use Rattle.image_layout.specs.Opens.{Says}
use Rattle.image_layout.specs.Refusal.{IsRefused, LacksTable, OwnsTwice}
use Rattle.slot_layout.specs.Slots.{block_at}
use Rattle.slot_layout.proofs.SlotLemmas.{get_or-block_at, take-written}
use Rattle.image_layout.proofs.plain.open_blocks.Goals as goal
use Rattle.image_layout.proofs.plain.open_blocks.Goals.{After-table_of}

-- the vector has what was laid over
laid_whole : (c : After-table_of) → take c.in_ok-laid.laid.len (c.lay_slots.new.laid ++ drop (length c.lay_slots.new.laid) c.in_ok-laid.laid.items) ≡ c.lay_slots.new.laid
laid_whole c = take-written c.lay_slots.new.laid c.in_ok-laid.laid.items c.in_ok-laid.laid.len (omega (arith, ap length c.deref_mut-2.ensures.value)) c.in_ok-laid.laid.ok.0

-- the block that was judged is that of the table
table_here : (c : After-table_of) → c.index.result.now ≡ block_at c.lay_slots.new.laid (table_at c.in_ok-geometry.geometry)
table_here c =
    let laid : List Block = c.lay_slots.new.laid in
    let geometry : Geometry = c.in_ok-geometry.geometry in
    let many : length c.in_ok-laid.laid.items ≡ length c.args.image.now = ap length c.in_ok-laid.ensures.items in
    let enough : total geometry ≤ length c.args.image.now = c.in_ok-geometry.ensures.enough in
    let within : table_at geometry < length laid = omega (arith, ap length c.deref_mut-2.ensures.value) in
    c.index.ensures ∙ ap (λ (blocks : List Block). get_or blocks c.table_at-table_at.result c.index.result.now) (laid_whole c)
    ∙ get_or-block_at laid c.table_at-table_at.result (table_at geometry) c.index.result.now c.table_at-table_at.ensures within

pub returns-in_err-table-clause-refused : goal.returns-in_err-table-clause-refused
returns-in_err-table-clause-refused c fault is =
    let here = table_here (goal.at.returns-in_err-table-clause-refused c).After-table_of in
    let no_table = rw c.in_err-table.ensures.ok_part at c.table_of.ensures in
    let lacks : LacksTable c.in_ok-geometry.geometry c.lay_slots.new.laid c.table_at-table_at.result = record {
      none = λ entries table. no_table (entries, rw here table);
      at = c.table_at-table_at.ensures;
    } in
    let gives : c.from_residual-in_err-table.result ≡ Err (Image c.in_err-table.field-0.0) = search rules in
    let value = rw c.in_err-table.ensures.ok_part at c.in_err-table.ensures.value in
    let same : BadTable c.table_at-table_at.result ≡ fault = cc in
    subst (IsRefused c.args.image.now) same
    (record { geometry = c.in_ok-geometry.geometry; divided = c.in_ok-geometry.ensures; laid = c.lay_slots.new.laid; lays = c.in_ok-lay_slots.ensures; has = lacks })

pub returns-in_err-owners-clause-refused : goal.returns-in_err-owners-clause-refused
returns-in_err-owners-clause-refused c fault is =
    let after = (goal.at.returns-in_err-owners-clause-refused c).After-table_of in
    let same : c.from_residual-in_err-owners.result ≡ Err c.in_err-owners.field-0.0 = search rules in
    let fault_is : c.in_err-owners.field-0.0 ≡ Image fault = cc in
    let stands : c.deref.result.now ≡ c.lay_slots.new.laid = c.deref.ensures.value ∙ laid_whole after in
    let table = rw (table_here after) at (rw c.in_ok-table.ensures.ok_part at c.table_of.ensures) in
    c.in_err-owners.ensures.refused c.args.image.now c.in_ok-geometry.ensures (rw stands c.in_ok-lay_slots.ensures) (rw stands table) fault (ap Err fault_is)

pub returns-in-Some-clause-refused : goal.returns-in-Some-clause-refused
returns-in-Some-clause-refused c fault is =
    let after = (goal.at.returns-in-Some-clause-refused c).After-table_of in
    let stands : c.deref.result.now ≡ c.lay_slots.new.laid = c.deref.ensures.value ∙ laid_whole after in
    let file = c.in-Some.file in
    let v : ℕ = c.in-Some.v in
    let twice : OwnsTwice c.in_ok-geometry.geometry c.lay_slots.new.laid (file, v) = record {
      entries = c.in_ok-table.table;
      table = rw (table_here after) at (rw c.in_ok-table.ensures.ok_part at c.table_of.ensures);
      owners = c.deref-2.result.now;
      owned = rw c.deref-2.ensures.value (rw stands at c.in_ok-owners.ensures.owned);
      k = c.in-Some.ensures.0;
      repeats = c.in-Some.ensures.1;
      first = c.in-Some.ensures.2;
    } in
    let same : TwiceOwned file v ≡ fault = cc in
    subst (IsRefused c.args.image.now) same
    (record { geometry = c.in_ok-geometry.geometry; divided = c.in_ok-geometry.ensures; laid = c.lay_slots.new.laid; lays = c.in_ok-lay_slots.ensures; has = twice })

pub returns-clause-says : goal.returns-clause-says
returns-clause-says c =
    let after = (goal.at.returns-clause-says c).After-table_of in
    let stands : c.deref.result.now ≡ c.lay_slots.new.laid = c.deref.ensures.value ∙ laid_whole after in
    let says : Says c.args.image.now c.in_ok-geometry.geometry c.lay_slots.new.laid c.in_ok-table.table c.in_ok-owners.owners.items = record {
      divided = c.in_ok-geometry.ensures;
      lays = c.in_ok-lay_slots.ensures;
      parts = record {
        table = rw (table_here after) at (rw c.in_ok-table.ensures.ok_part at c.table_of.ensures);
        owned = rw stands at c.in_ok-owners.ensures.owned;
        once = rw c.deref-2.ensures.value at c.in_default.ensures;
      };
    } in
    rw (laid_whole after) says
