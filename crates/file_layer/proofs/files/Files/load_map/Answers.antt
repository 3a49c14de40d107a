use Rattle.std.proofs.Common.{◌≡◌, ◌∙◌, ℕ, ◌+◌, ◌<◌, ◌≤◌, ◌++◌, MatchOption, Err, IfErr, List, Result, Option, None, refl, sym, subst, arith, rules}
use Rattle.nesc_base.specs.declared.block.Block.{Block}
use Rattle.nesc_base.specs.declared.geometry.Geometry.{Geometry}
use Rattle.nesc_base.specs.Disk.{Goes, Known, Unchanged}
use Rattle.nesc_base.specs.Geometry.{IsGeometry, map_at, map_blocks}
use Rattle.nesc_base.specs.Places.{Owner}
use Rattle.nesc_base.proofs.DiskCalls.{goes_itself, goes_on, unchanged_itself, unchanged_on}
use Rattle.block_map.specs.Map.{BlockMap}
use Rattle.image_layout.specs.declared.fault.ImageFault.TheVariants.{BadOwner}
use Rattle.image_layout.specs.declared.fault.ImageFault.{ImageFault}
use Rattle.image_layout.specs.declared.fault.OpenFault.{OpenFault}
use Rattle.image_layout.specs.declared.fault.OpenFault.TheVariants.{Image}
use Rattle.image_layout.specs.declared.table.TableEntry.{TableEntry}
use Rattle.image_layout.specs.Opens.{IsMapBlock, entries_in, lengths_of}
use Rattle.image_layout.specs.Owners.{AreOwners}
use Rattle.image_layout.specs.Table.{AreEntries}
use Rattle.file_layer.specs.Loading.{HasOwners, IsFirstTwice, IsMapOf, LacksMap, MapLoads, MayOwnEach, OfBlocks, owners_before}
use Rattle.file_layer.proofs.MapRead.{before_is, block_then, map_begins, map_lacks, map_more, set_more, set_so_far, twice_more}
use Rattle.file_layer.proofs.MapSet.{has_map}
use Rattle.file_layer.proofs.OwnersSet.{Owners}
use Rattle.file_layer.proofs.files.Files.load_map.Goals as goal
use Rattle.file_layer.proofs.files.Files.load_map.Goals.{then-is_none, else-is_none}

pub loop-b-init : goal.loop-b-init
loop-b-init g c =
    let begins : MapLoads c.args.self.now.geometry c.args.journal.now (g.D.Disk.known c.args.disk.now) c.args.self.now.table 0 c.clear.new.self None =
    map_begins c.args.self.now.geometry c.args.journal.now (g.D.Disk.known c.args.disk.now) c.args.self.now.table c.args.self.now.map c.clear.new.self c.requires.map c.clear.ensures in
    record {
      loads = begins;
      map = has_map c.args.self.now.geometry c.clear.new.self _ begins.set;
      same_geometry = refl;
      table = refl;
      rests = c.requires.rests;
      never_falls = omega arith;
      unchanged = unchanged_itself _;
      goes = goes_itself _;
      keeps = search rules;
    }

pub returns-in_err-owners-clause-refused : goal.returns-in_err-owners-clause-refused
returns-in_err-owners-clause-refused g c =
    let geometry : Geometry = c.args.self.now.geometry in
    let old : Known = g.D.Disk.known c.args.disk.now in
    let place : ℕ = c.map_at-map_at.result + c.loop-b.b in
    let at : place ≡ map_at geometry + c.loop-b.b = omega arith in
    let here = block_then c.args.journal.now old (g.D.Disk.known c.loop-b.disk) place (map_at geometry + c.loop-b.b) c.in_ok-read.read
    c.loop-b.invariant.goes c.loop-b.invariant.unchanged at c.in_ok-read.ensures.block in
    let no_owners = rw c.in_err-owners.ensures.ok_part at c.owners_of.ensures in
    let lacks : LacksMap geometry c.args.journal.now old c.args.self.now.table (Image (BadOwner place)) =
    map_lacks geometry c.args.journal.now old c.args.self.now.table c.loop-b.b c.loop-b.self.map c.loop-b.twice c.loop-b.invariant.loads place c.in_ok-read.read (omega arith) at here
    (λ some. no_owners (some.0, rw c.lengths_of-lengths.ensures some.1)) in
    let gives : c.from_residual-in_err-owners.result ≡ Err (Image c.in_err-owners.field-0.0) = search rules in
    let value = rw c.in_err-owners.ensures.ok_part at c.in_err-owners.ensures.value in
    let same : BadOwner place ≡ c.in_err-owners.field-0.0 = cc in
    let Lacks : OpenFault → Type 0 = LacksMap geometry c.args.journal.now old c.args.self.now.table in
    subst (λ (r : Result (Option Owner) OpenFault). IfErr r Lacks) (sym gives) (subst (λ (fault : ImageFault). Lacks (Image fault)) same lacks)

pub set_owners-twice-requires-clause-sizes : goal.set_owners-twice-requires-clause-sizes
set_owners-twice-requires-clause-sizes g c = subst IsGeometry (sym c.loop-b.invariant.same_geometry) c.requires.sizes

pub set_owners-twice-requires-clause-entries : goal.set_owners-twice-requires-clause-entries
set_owners-twice-requires-clause-entries g c = subst AreEntries (sym c.loop-b.invariant.table) c.requires.entries

pub set_owners-twice-requires-clause-block : goal.set_owners-twice-requires-clause-block
set_owners-twice-requires-clause-block g c =
    let within : c.loop-b.b < map_blocks c.args.self.now.geometry = omega arith in
    subst (λ (geometry : Geometry). c.loop-b.b < map_blocks geometry) (sym c.loop-b.invariant.same_geometry) within

pub set_owners-twice-requires-clause-may : goal.set_owners-twice-requires-clause-may
set_owners-twice-requires-clause-may g c =
    let are = rw c.in_ok-owners.ensures.ok_part at c.owners_of.ensures in
    let may : MayOwnEach c.args.self.now.table (entries_in c.args.self.now.geometry c.loop-b.b) c.in_ok-owners.owners = rw c.lengths_of-lengths.ensures at are.good in
    let first : MayOwnEach c.loop-b.self.table (entries_in c.args.self.now.geometry c.loop-b.b) c.in_ok-owners.owners =
    subst (λ (table : List (Option TableEntry)). MayOwnEach table (entries_in c.args.self.now.geometry c.loop-b.b) c.in_ok-owners.owners) (sym c.loop-b.invariant.table) may in
    subst (λ (geometry : Geometry). MayOwnEach c.loop-b.self.table (entries_in geometry c.loop-b.b) c.in_ok-owners.owners) (sym c.loop-b.invariant.same_geometry) first

pub set_owners-twice-requires-clause-before : goal.set_owners-twice-requires-clause-before
set_owners-twice-requires-clause-before g c =
    let geometry : Geometry = c.args.self.now.geometry in
    let loads = c.loop-b.invariant.loads in
    let has : HasOwners geometry c.loop-b.self.map loads.owners =
    set_so_far geometry c.args.journal.now (g.D.Disk.known c.args.disk.now) c.args.self.now.table c.loop-b.b c.loop-b.self.map c.loop-b.twice loads c.if-is_none.ensures in
    let same = before_is geometry c.loop-b.self.map c.loop-b.b loads.owners (omega arith) loads.count has in
    subst (λ (g : Geometry). HasOwners g c.loop-b.self.map (owners_before c.loop-b.b c.loop-b.self.map)) (sym c.loop-b.invariant.same_geometry)
    (subst (HasOwners geometry c.loop-b.self.map) (sym same) has)

pub loop-b-preserved : goal.loop-b-preserved
loop-b-preserved g c =
    let geometry : Geometry = c.args.self.now.geometry in
    let entries : List (Option TableEntry) = c.args.self.now.table in
    let old : Known = g.D.Disk.known c.args.disk.now in
    let now : Known = g.D.Disk.known c.loop-b.disk in
    let new : Known = g.D.Disk.known c.read_block.new.disk in
    let found : Owners = c.in_ok-owners.owners in
    let loads = c.loop-b.invariant.loads in
    let place : ℕ = c.map_at-map_at.result + c.loop-b.b in
    let at : place ≡ map_at geometry + c.loop-b.b = omega arith in
    let are = rw c.in_ok-owners.ensures.ok_part at c.owners_of.ensures in
    let may : MayOwnEach entries (entries_in geometry c.loop-b.b) found = rw c.lengths_of-lengths.ensures at are.good in
    let read = block_then c.args.journal.now old now place (map_at geometry + c.loop-b.b) c.in_ok-read.read c.loop-b.invariant.goes c.loop-b.invariant.unchanged at c.in_ok-read.ensures.block in
    let here : OfBlocks c.args.journal.now old (λ blocks. IsMapBlock geometry blocks entries c.loop-b.b found) =
    λ tells kept is. subst (λ (block : Block). AreOwners (lengths_of entries) (entries_in geometry c.loop-b.b) block found) (read tells kept is) (rw c.lengths_of-lengths.ensures at are) in
    let never_falls : old.faults ≤ new.faults = omega (arith, c.loop-b.invariant.never_falls, c.read_block.ensures.cause.never_falls) in
    let unchanged : Unchanged old new = unchanged_on old now new c.loop-b.invariant.goes c.loop-b.invariant.unchanged c.read_block.ensures.unchanged in
    let goes : Goes old new = goes_on old now new c.loop-b.invariant.goes c.read_block.ensures.goes in
    elim c.if-is_none.branch [
      | then-is_none w ↦
          let after : BlockMap = w.set_owners-twice.new.self.map in
          let next : Option Owner = w.set_owners-twice.result in
          let has : HasOwners geometry c.loop-b.self.map loads.owners = set_so_far geometry c.args.journal.now old entries c.loop-b.b c.loop-b.self.map c.loop-b.twice loads w.if-is_none.ensures in
          let same = before_is geometry c.loop-b.self.map c.loop-b.b loads.owners (omega arith) loads.count has in
          let before : Owners = owners_before c.loop-b.b c.loop-b.self.map in
          let set = subst (λ (geometry : Geometry). MatchOption next (HasOwners geometry after (before ++ found)) (IsFirstTwice (before ++ found))) c.loop-b.invariant.same_geometry w.set_owners-twice.ensures.set in
          rw (w.self-is, w.twice-is) (record {
            loads = map_more geometry c.args.journal.now old entries c.loop-b.b c.loop-b.self.map c.loop-b.twice loads found after next are.count may here
                (set_more geometry c.loop-b.self.map after c.loop-b.b loads.owners found next same set);
            map = subst (λ (geometry : Geometry). IsMapOf geometry after) c.loop-b.invariant.same_geometry w.set_owners-twice.ensures.map;
            same_geometry = w.set_owners-twice.ensures.same_geometry ∙ c.loop-b.invariant.same_geometry;
            table = w.set_owners-twice.ensures.table ∙ c.loop-b.invariant.table;
            rests = c.read_block.ensures.rests;
            never_falls = never_falls;
            unchanged = unchanged;
            goes = goes;
            keeps = g.met.D.Disk.keeps_on _ _ _ c.loop-b.invariant.keeps c.read_block.ensures.keeps;
          })
      | else-is_none w ↦
          rw (w.self-is, w.twice-is) (record {
            loads = map_more geometry c.args.journal.now old entries c.loop-b.b c.loop-b.self.map c.loop-b.twice loads found c.loop-b.self.map c.loop-b.twice are.count may here
                (twice_more geometry c.loop-b.self.map loads.owners found c.loop-b.twice w.if-is_none.ensures loads.set);
            map = c.loop-b.invariant.map;
            same_geometry = c.loop-b.invariant.same_geometry;
            table = c.loop-b.invariant.table;
            rests = c.read_block.ensures.rests;
            never_falls = never_falls;
            unchanged = unchanged;
            goes = goes;
            keeps = g.met.D.Disk.keeps_on _ _ _ c.loop-b.invariant.keeps c.read_block.ensures.keeps;
          })
    ]
