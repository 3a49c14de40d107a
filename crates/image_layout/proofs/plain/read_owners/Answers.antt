use Rattle.std.proofs.Common.{◌≡◌, ℕ, ◌+◌, ◌*◌, ◌<◌, [], Err, List, Option, length, take, drop, get_or, subst, sym, ap, ◌∙◌, arith, length-append, rules}
use Rattle.nesc_base.specs.Geometry.{map_at}
use Rattle.nesc_base.specs.Places.{Owner}
use Rattle.image_layout.specs.declared.fault.ImageFault.TheVariants.{BadOwner}
use Rattle.image_layout.specs.declared.fault.OpenFault.TheVariants.{Image}
use Rattle.image_layout.specs.Opens.{IsMapBlock}
use Rattle.image_layout.specs.Refusal.{IsRefused, LacksOwners}
use Rattle.slot_layout.specs.Slots.{block_at}
use Rattle.image_layout.proofs.MapBlocks.{each_more}
use Rattle.slot_layout.proofs.SlotLemmas.{get_or-block_at}
use Rattle.image_layout.proofs.plain.read_owners.Goals as goal
use Rattle.image_layout.proofs.plain.read_owners.Goals.{After-owners_of}

-- the block that was judged is the next of the map
block_here : (c : After-owners_of) → get_or c.args.laid.now (c.map_at-map_at.result + c.loop-b.b) (record { 0 = [] }) ≡ block_at c.args.laid.now (map_at c.args.geometry + c.loop-b.b)
block_here c =
    let next : ℕ = map_at c.args.geometry + c.loop-b.b in
    let at : c.map_at-map_at.result + c.loop-b.b ≡ next = omega arith in
    let within : next < length c.args.laid.now = omega arith in
    get_or-block_at c.args.laid.now (c.map_at-map_at.result + c.loop-b.b) next (record { 0 = [] }) at within

pub returns-in_err-found-clause-refused : goal.returns-in_err-found-clause-refused
returns-in_err-found-clause-refused c image divided lays table fault is =
    let here = block_here (goal.at.returns-in_err-found-clause-refused c).After-owners_of in
    let place : ℕ = c.map_at-map_at.result + c.loop-b.b in
    let no_owners = rw c.in_err-found.ensures.ok_part at c.owners_of.ensures in
    let lacks : LacksOwners c.args.geometry c.args.laid.now place = record {
      entries = c.args.table.now;
      table = table;
      b = c.loop-b.b;
      last = omega arith;
      before = λ b below. (_, c.loop-b.invariant.each b below);
      none = λ owners are. no_owners (owners, rw (c.lengths_of-lengths.ensures, here) are);
      at = omega arith;
    } in
    let gives : c.from_residual.result ≡ Err (Image c.in_err-found.field-0.0) = search rules in
    let value = rw c.in_err-found.ensures.ok_part at c.in_err-found.ensures.value in
    let same : BadOwner place ≡ fault = cc in
    subst (IsRefused image) same (record { geometry = c.args.geometry; divided = divided; laid = c.args.laid.now; lays = lays; has = lacks })

pub loop-b-preserved : goal.loop-b-preserved
loop-b-preserved c =
    let found : List (Option Owner) = c.in_ok-found.found in
    let are = rw c.in_ok-found.ensures.ok_part at c.owners_of.ensures in
    let here : IsMapBlock c.args.geometry c.args.laid.now c.args.table.now c.loop-b.b found =
    rw (c.lengths_of-lengths.ensures, block_here (goal.at.loop-b-preserved c).After-owners_of) at are in
    let put = c.in_ok-push_owners.ensures in
    record {
      count = ap length put ∙ omega (arith, length-append c.loop-b.owners.items found, c.loop-b.invariant.count, here.count);
      each = λ b below. subst (λ (owners : List (Option Owner)). IsMapBlock c.args.geometry c.args.laid.now c.args.table.now b (take 128 (drop (128 * b) owners))) (sym put)
          (each_more (IsMapBlock c.args.geometry c.args.laid.now c.args.table.now) c.loop-b.b c.loop-b.owners.items found c.loop-b.invariant.count here.count c.loop-b.invariant.each here b below);
    }
