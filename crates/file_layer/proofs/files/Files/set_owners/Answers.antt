use Rattle.std.proofs.Common.{◌≡◌, ◌∙◌, ◌+◌, ◌*◌, ◌++◌, Some, None, length, take, sym, ap, subst, arith, rules}
use Rattle.std.specs.Prelude.{slice_get}
use Rattle.std.proofs.lemmas.List.{append-nil, take_all}
use Rattle.nesc_base.specs.declared.geometry.Geometry.{Geometry}
use Rattle.nesc_base.specs.Geometry.{block_owners}
use Rattle.nesc_base.specs.Places.{Owner}
use Rattle.file_layer.specs.Loading.{HasOwners, IsFirstTwice, owners_before}
use Rattle.file_layer.proofs.MapSet.{count_before, count_so_far, free_behind, front_more, front_rest, has_free, has_map, has_more, may_hold, twice_there, where_none, where_some}
use Rattle.file_layer.proofs.OwnersSet.{Owners}
use Rattle.file_layer.proofs.files.Files.set_owners.Goals as goal
use Rattle.file_layer.proofs.files.Files.set_owners.Goals.{in-Some+else-is_some, in_default}

pub loop-k-init : goal.loop-k-init
loop-k-init c = record {
  has = subst (HasOwners c.args.self.now.geometry c.args.self.now.map) (sym (append-nil (owners_before c.args.b c.args.self.now.map))) c.requires.before;
  same_geometry = search rules;
  table = search rules;
}

pub returns-then-is_some-clause-set : goal.returns-then-is_some-clause-set
returns-then-is_some-clause-set c =
    let owner : Owner = (c.in-Some.file, c.in-Some.v) in
    let before : Owners = owners_before c.args.b c.args.self.now.map in
    let stands = where_some _ _ c.place.result (sym c.is_some.ensures ∙ c.if-is_some.true) c.place.ensures in
    subst (λ (owners : Owners). IsFirstTwice owners owner) (sym (front_rest before c.args.owners.now c.loop-k.k (Some owner) c.in-Some.ensures))
    (twice_there c.args.self.now.geometry c.loop-k.self.map (before ++ take c.loop-k.k c.args.owners.now) c.loop-k.invariant.has stands.0 owner _ stands.1)

pub returns-then-is_some-clause-map : goal.returns-then-is_some-clause-map
returns-then-is_some-clause-map c = has_map c.args.self.now.geometry c.loop-k.self.map _ c.loop-k.invariant.has

pub set-requires-clause-free : goal.set-requires-clause-free
set-requires-clause-free c =
    let geometry : Geometry = c.args.self.now.geometry in
    let before : Owners = owners_before c.args.b c.args.self.now.map in
    let count : length (before ++ take c.loop-k.k c.args.owners.now) ≡ block_owners * c.args.b + c.loop-k.k =
    count_so_far before c.args.owners.now c.args.b c.loop-k.k
    (count_before geometry c.args.self.now.map c.args.b c.requires.block (has_map geometry c.args.self.now.map _ c.requires.before))
    c.requires.count (omega arith) in
    let among = (c.requires.may c.loop-k.k (c.in-Some.file, c.in-Some.v) c.in-Some.ensures).among in
    free_behind geometry c.loop-k.self.map (before ++ take c.loop-k.k c.args.owners.now) c.loop-k.invariant.has _ (omega arith) (omega arith)

pub set-requires-clause-may : goal.set-requires-clause-may
set-requires-clause-may c =
    let owner : Owner = (c.in-Some.file, c.in-Some.v) in
    may_hold c.args.self.now.table _ c.loop-k.k owner c.requires.entries (c.requires.may c.loop-k.k owner c.in-Some.ensures)

pub set-requires-clause-unheld : goal.set-requires-clause-unheld
set-requires-clause-unheld c = where_none _ _ c.place.result (sym c.is_some.ensures ∙ c.if-is_some.false) c.place.ensures

pub loop-k-preserved : goal.loop-k-preserved
loop-k-preserved c =
    let geometry : Geometry = c.args.self.now.geometry in
    let before : Owners = owners_before c.args.b c.args.self.now.map in
    let front : Owners = before ++ take c.loop-k.k c.args.owners.now in
    elim c.match-get.branch [
      | in-Some+else-is_some w ↦
          let owner : Owner = (w.in-Some.file, w.in-Some.v) in
          let count : length front ≡ block_owners * c.args.b + c.loop-k.k =
          count_so_far before c.args.owners.now c.args.b c.loop-k.k
          (count_before geometry c.args.self.now.map c.args.b c.requires.block (has_map geometry c.args.self.now.map _ c.requires.before))
          c.requires.count (omega arith) in
          let among = (c.requires.may c.loop-k.k owner w.in-Some.ensures).among in
          let more = has_more geometry c.loop-k.self.map front c.loop-k.invariant.has _ owner _ (omega arith) (omega arith)
          (where_none _ _ w.place.result (sym w.is_some.ensures ∙ w.if-is_some.false) w.place.ensures) w.set.ensures in
          rw w.self-is (record {
            has = subst (HasOwners geometry _) (sym (front_more before c.args.owners.now c.loop-k.k (Some owner) w.in-Some.ensures)) more;
            same_geometry = c.loop-k.invariant.same_geometry;
            table = c.loop-k.invariant.table;
          })
      | in_default w ↦
          let none : slice_get c.args.owners.now c.loop-k.k ≡ Some None = c.get.ensures ∙ ap Some w.in_default.is in
          rw w.self-is (record {
            has = subst (HasOwners geometry c.loop-k.self.map) (sym (front_more before c.args.owners.now c.loop-k.k None none)) (has_free geometry c.loop-k.self.map front c.loop-k.invariant.has);
            same_geometry = c.loop-k.invariant.same_geometry;
            table = c.loop-k.invariant.table;
          })
    ]

pub returns-clause-set : goal.returns-clause-set
returns-clause-set c =
    let before : Owners = owners_before c.args.b c.args.self.now.map in
    let all : before ++ take c.loop-k.k c.args.owners.now ≡ before ++ c.args.owners.now =
    ap (λ (owners : Owners). before ++ owners) (take_all c.loop-k.k c.args.owners.now (omega arith)) in
    subst (HasOwners c.args.self.now.geometry c.loop-k.self.map) all c.loop-k.invariant.has

pub returns-clause-map : goal.returns-clause-map
returns-clause-map c = has_map c.args.self.now.geometry c.loop-k.self.map _ c.loop-k.invariant.has
