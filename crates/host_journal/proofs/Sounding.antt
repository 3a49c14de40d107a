-- How a journal stands in memory stays sound: there is room for each block that may be staged.
use Rattle.std.proofs.Common.{◌≡◌, inl, inr, ℕ, suc, ◌+◌, ◌-◌, ◌<◌, ◌≤◌, Bool, true, false, not, cond, List, [], ◌∷◌, ◌++◌, length, slice_get, take, Some, IsSome, refl, sym, ap, ◌∙◌, subst, arith}
use Rattle.std.specs.Cmp.{nat_cmp_total}
use Rattle.std.specs.FinMap.{contains_key, empty, get, get-empty, insert, len, len-insert, remove}
use Rattle.std.specs.List.{AllByRecursion, count_by}
use Rattle.std.specs.Ordering.{nat_cmp}
use Rattle.std.proofs.lemmas.Bool.{cases_Bool, cases_eq, false≢true}
use Rattle.std.proofs.lemmas.Bool.Decides.{nat_tests}
use Rattle.nesc_base.specs.declared.block.Block.{Block}
use Rattle.nesc_base.specs.declared.geometry.Geometry.{Geometry}
use Rattle.nesc_base.specs.Block.{zero_block}
use Rattle.nesc_base.specs.Geometry.{IsGeometry, area_from, slot_room, table_at, total}
use Rattle.nesc_base.proofs.Maps.{get-insert_other, get-remove_other, get-remove_same}
use Rattle.host_journal.specs.Journal.{IsJournal, is_data}
use Rattle.host_journal.specs.Sound.{IsReady, IsSound}
use Rattle.host_journal.specs.Staged.{MayStage, Staged, targets_of}
use Rattle.host_journal.specs.Store.{AreFor, Store}
use Rattle.host_journal.specs.declared.replay.Replay.{Replay}
use Rattle.host_journal.proofs.Keys.{all_targets, count-empty, count-insert, count-remove, few_targets, staged_there, targets_rise}

-- whether a place is one of a data block
behind : (geometry : Geometry) (at : ℕ) → is_data geometry at ≡ true → area_from geometry ≤ at
behind geometry at is = grind (arith, nat_tests)

before : (geometry : Geometry) (at : ℕ) → not (is_data geometry at) ≡ true → at < area_from geometry
before geometry at is = grind (arith, nat_tests)

-- how much a block staged for this place counts
abbrev pub weight : Geometry → ℕ → ℕ
weight geometry at = cond (is_data geometry at) 1 0

before_data : (geometry : Geometry) (at : ℕ) → is_data geometry at ≡ false → at < area_from geometry
before_data geometry at is = grind (arith, nat_tests)

pub weight-behind : (geometry : Geometry) (at : ℕ) → area_from geometry ≤ at → weight geometry at ≡ 1
weight-behind geometry at is = elim (cases_Bool (is_data geometry at)) [
  | inl counts ↦ ap {A = Bool} {B = ℕ} (λ b. cond b 1 0) counts
  | inr not_so ↦ absurd (omega (arith, is, before_data geometry at not_so))
]

pub weight-before : (geometry : Geometry) (at : ℕ) → at < area_from geometry → weight geometry at ≡ 0
weight-before geometry at is = elim (cases_Bool (is_data geometry at)) [
  | inl counts ↦ absurd (omega (arith, is, behind geometry at counts))
  | inr not_so ↦ ap {A = Bool} {B = ℕ} (λ b. cond b 1 0) not_so
]

-- what is staged with one block more
within_staged : (geometry : Geometry) (staged : Staged) (at : ℕ) (block : Block) → MayStage geometry at → ((q : ℕ) → IsSome (get staged q) → MayStage geometry q)
    → (q : ℕ) → IsSome (get (insert staged at block) q) → MayStage geometry q
within_staged geometry staged at block may within q some = elim (cases_eq q at) [
  | inl same ↦ subst (MayStage geometry) (sym same) may
  | inr apart ↦ within q (subst IsSome (get-insert_other staged at block q apart) some)
]

within_forgotten : (geometry : Geometry) (staged : Staged) (at : ℕ) → ((q : ℕ) → IsSome (get staged q) → MayStage geometry q)
    → (q : ℕ) → IsSome (get (remove staged at) q) → MayStage geometry q
within_forgotten geometry staged at within q some = elim (cases_eq q at) [
  | inl same ↦ absurd (false≢true (subst IsSome (ap (get (remove staged at)) same ∙ get-remove_same staged at) some))
  | inr apart ↦ within q (subst IsSome (get-remove_other staged at q apart) some)
]

-- no more data blocks than were counted, and no more others than the table and the map have
few_staged : (geometry : Geometry) (staged : Staged) (count : ℕ) → ((at : ℕ) → IsSome (get staged at) → MayStage geometry at) → count_by (is_data geometry) (targets_of staged) ≤ count
    → len staged ≤ count + (area_from geometry - table_at geometry)
few_staged geometry staged count within counted =
    let others : count_by (λ k. not (is_data geometry k)) (targets_of staged) ≤ area_from geometry - table_at geometry =
    few_targets (λ k. not (is_data geometry k)) (table_at geometry) (area_from geometry) (before geometry) staged (λ at some. (within at some).0) in
    omega (arith, others, counted, all_targets (is_data geometry) staged)

-- one more still counts within the slack
within_slack : (geometry : Geometry) (at count : ℕ) → count ≤ geometry.slack → (area_from geometry ≤ at → count < geometry.slack) → count + weight geometry at ≤ geometry.slack
within_slack geometry at count few room = elim (cases_Bool (is_data geometry at)) [
  | inl is ↦ let one : weight geometry at ≡ 1 = ap {A = Bool} {B = ℕ} (λ b. cond b 1 0) is in omega (arith, one, room (behind geometry at is))
  | inr not_so ↦ let none : weight geometry at ≡ 0 = ap {A = Bool} {B = ℕ} (λ b. cond b 1 0) not_so in omega (arith, none, few)
]

module _ {geometry : Geometry} {store : Store} {count : ℕ} {replay : Replay} (sound : IsSound geometry store count replay) where
  pub sizes : IsGeometry geometry
  sizes = subst IsGeometry sound.same_geometry sound.ready.sizes

  counted_staged : (at : ℕ) (block : Block) → count_by (is_data geometry) (targets_of (insert store.staged at block)) ≤ count + weight geometry at
  counted_staged at block = omega (arith, count-insert (is_data geometry) store.staged at block, sound.counted)

  -- there is room for one block more
  pub room_for_one : (at : ℕ) → MayStage geometry at → (area_from geometry ≤ at → count < geometry.slack) → contains_key store.staged at ≡ false → len store.staged < store.room
  room_for_one at may room unstaged =
      let more : len (insert store.staged at zero_block) ≡ len store.staged + 1 =
      len-insert nat_cmp_total store.staged at zero_block ∙ ap (λ b. cond b (len store.staged) (len store.staged + 1)) unstaged in
      let few : len (insert store.staged at zero_block) ≤ (count + weight geometry at) + (area_from geometry - table_at geometry) =
      few_staged geometry (insert store.staged at zero_block) (count + weight geometry at) (within_staged geometry store.staged at zero_block may sound.within) (counted_staged at zero_block) in
      omega (arith, more, few, within_slack geometry at count sound.few room, sound.room)

  pub sound-staged : (at : ℕ) (block : Block) (new : Store) (more : ℕ) → MayStage geometry at → (area_from geometry ≤ at → count < geometry.slack)
      → new ≡ record store { staged = insert store.staged at block } → more ≡ count + weight geometry at → IsSound geometry new more replay
  sound-staged at block new more may room is counts = subst (λ (s : Store). IsSound geometry s more replay) (sym is) (record {
    same_geometry = sound.same_geometry;
    ready = sound.ready;
    within = within_staged geometry store.staged at block may sound.within;
    few = omega (arith, counts, within_slack geometry at count sound.few room);
    counted = omega (arith, counts, counted_staged at block);
    from = sound.from;
    places = sound.places;
    room = sound.room;
  })

  pub sound-forgotten : (at : ℕ) (new : Store) → new ≡ record store { staged = remove store.staged at } → IsSound geometry new count replay
  sound-forgotten at new is = subst (λ (s : Store). IsSound geometry s count replay) (sym is) (record {
    same_geometry = sound.same_geometry;
    ready = sound.ready;
    within = within_forgotten geometry store.staged at sound.within;
    few = sound.few;
    counted = omega (arith, count-remove (is_data geometry) store.staged at, sound.counted);
    from = sound.from;
    places = sound.places;
    room = sound.room;
  })

-- nothing staged
pub sound-empty : (geometry : Geometry) (store : Store) (replay : Replay) → replay.geometry ≡ geometry → IsReady replay
    → store.staged ≡ empty → store.from ≡ table_at geometry → store.places ≡ total geometry - table_at geometry → store.room ≡ slot_room geometry → IsSound geometry store 0 replay
sound-empty geometry store replay same ready none from places room = record {
  same_geometry = same;
  ready = ready;
  within = λ at some. absurd (false≢true (subst IsSome (ap (λ (s : Staged). get s at) none ∙ get-empty nat_cmp at) some));
  few = omega arith;
  counted = omega (arith, ap (λ (s : Staged). count_by (is_data geometry) (targets_of s)) none, count-empty (is_data geometry));
  from = from;
  places = places;
  room = room;
}

-- where nothing is staged any more
pub sound-cleared : {geometry : Geometry} {store : Store} {count : ℕ} {replay : Replay} → IsSound geometry store count replay → (new : Store) (later : Replay)
    → new ≡ record store { staged = empty } → later.geometry ≡ replay.geometry → IsReady later → IsSound geometry new 0 later
sound-cleared {geometry} {store} sound new later cleared same ready =
    sound-empty geometry new later (same ∙ sound.same_geometry) ready
    (ap (λ s. s.staged) cleared)
    (ap (λ s. s.from) cleared ∙ sound.from)
    (ap (λ s. s.places) cleared ∙ sound.places)
    (ap (λ s. s.room) cleared ∙ sound.room)

-- where nothing was
pub sound-none : {geometry : Geometry} {store : Store} {count : ℕ} {replay : Replay} → IsSound geometry store count replay → store.staged ≡ empty → IsSound geometry store 0 replay
sound-none {geometry} {store} {count} {replay} sound none = sound-empty geometry store replay sound.same_geometry sound.ready none sound.from sound.places sound.room

-- what callers see of it
pub journal_of : {geometry : Geometry} {store : Store} {count : ℕ} {replay : Replay} → IsSound geometry store count replay → (started : Bool)
    → IsJournal (record { geometry = geometry; staged = store.staged; count = count; started = started })
journal_of sound started = record { sizes = sizes sound; within = sound.within; few = sound.few }

-- The targets of a commit

-- what was put over the front of a list that is no longer is all of it
pub put_over : (n : ℕ) (front old : List ℕ) → n ≡ length front → take n (front ++ old) ≡ front
put_over n front old is = ap (λ m. take m (front ++ old)) is ∙ all_taken front old
  where
    all_taken : (front old : List ℕ) → take (length front) (front ++ old) ≡ front
    all_taken [] old = refl
    all_taken (k ∷ front) old = ap (λ (ks : List ℕ). k ∷ ks) (all_taken front old)

all_of : (P : ℕ → Type 0) (ks : List ℕ) → ((i at : ℕ) → slice_get ks i ≡ Some at → P at) → AllByRecursion P ks
all_of P [] each = tt
all_of P (k ∷ ks) each = (each 0 k refl, all_of P ks (λ i at is. each (suc i) at is))

module _ {geometry : Geometry} {store : Store} {count : ℕ} {replay : Replay} (sound : IsSound geometry store count replay) where
  may_be : (i at : ℕ) → slice_get (targets_of store.staged) i ≡ Some at → MayStage geometry at
  may_be i at is = sound.within at (staged_there store.staged i at is)

  pub are_for : (targets : List ℕ) → targets ≡ targets_of store.staged → length (targets_of store.staged) ≤ store.room → AreFor geometry store targets
  are_for targets all few = subst (AreFor geometry store) (sym all) (record {
    all = refl;
    good = record {
      room = omega (arith, few, sound.room);
      rising = targets_rise store.staged;
      from = all_of (λ at. table_at geometry ≤ at) (targets_of store.staged) (λ i at is. (may_be i at is).0);
      below = all_of (λ at. at < total geometry) (targets_of store.staged) (λ i at is. (may_be i at is).1);
    };
    places = λ i at is. let may = may_be i at is in (omega (arith, may.0, sound.from), omega (arith, may.0, may.1, sound.from, sound.places));
  })
