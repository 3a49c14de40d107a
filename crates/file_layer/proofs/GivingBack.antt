-- One data block after another of a file is given back, from the last on.
use Rattle.std.proofs.Common.{◌≡◌, ◌⊎◌, inl, inr, ℕ, zero, suc, ◌+◌, ◌-◌, ◌/◌, ◌<◌, ◌≤◌, Bool, true, false, cond, List, [], ◌∷◌, length, replicate, Option, None, Some, slice_get, refl, sym, ap, ◌∙◌, subst, arith}
use Rattle.std.specs.Prelude.{slice_set}
use Rattle.std.specs.FinMap.{get, remove}
use Rattle.std.proofs.lemmas.Bool.{cases_eq, false≢true}
use Rattle.std.proofs.lemmas.Bool.Decides.{Decides-eqb}
use Rattle.std.proofs.lemmas.List.{length-set}
use Rattle.std.proofs.lemmas.List.Sums.{sum_by-cons}
use Rattle.std.proofs.lemmas.Option.{none-some, same_Some, slice_get_within}
use Rattle.nesc_base.specs.Geometry.{area_from, block_owners}
use Rattle.nesc_base.specs.Places.{Owner}
use Rattle.nesc_base.proofs.Differing.{slice_get-set_other, slice_get-set_same}
use Rattle.nesc_base.proofs.Maps.{get-remove_other, get-remove_same}
use Rattle.block_map.specs.Map.{BlockMap, HoldsNoneFrom, count_held, is_of}
use Rattle.host_journal.specs.Journal.{Journal}
use Rattle.file_layer.specs.Layer.{IsLayer, Layer}
use Rattle.file_layer.specs.Staging.{IsMarked}
use Rattle.file_layer.specs.TakingBack.{GivesBack, IsGiven, TakesBack}

-- How many are held

counts : (n : ℕ) (owner : Option Owner) (owners : List (Option Owner)) → count_held n (owner ∷ owners) ≡ cond (is_of n owner) 1 0 + count_held n owners
counts n owner owners = sum_by-cons (λ o. cond (is_of n o) 1 0) owner owners

-- one less where one is taken back
count-without : (n : ℕ) (owners : List (Option Owner)) (k : ℕ) (owner : Owner) → slice_get owners k ≡ Some (Some owner) → owner.0.0 ≡ n
    → count_held n (slice_set owners k None) + 1 ≡ count_held n owners
count-without n [] k owner is file = absurd (none-some (Some owner) is)
count-without n (o ∷ owners) zero owner is file =
    let same : o ≡ Some owner = same_Some o (Some owner) is in
    let of : is_of n o ≡ true = ap (is_of n) same ∙ (Decides-eqb owner.0.0 n).1 file in
    omega (arith, counts n None owners, counts n o owners, ap {A = Bool} {B = ℕ} (λ b. cond b 1 0) of)
count-without n (o ∷ owners) (suc k) owner is file =
    omega (arith, count-without n owners k owner is file, counts n o (slice_set owners k None), counts n o owners)

-- where so many are none, none is
none_counted : (n : ℕ) (owners : List (Option Owner)) → count_held n owners ≡ 0 → (k : ℕ) (owner : Owner) → slice_get owners k ≡ Some (Some owner) → ¬ (owner.0.0 ≡ n)
none_counted n [] none k owner is file = none-some (Some owner) is
none_counted n (o ∷ owners) none zero owner is file =
    let same : o ≡ Some owner = same_Some o (Some owner) is in
    let of : is_of n o ≡ true = ap (is_of n) same ∙ (Decides-eqb owner.0.0 n).1 file in
    absurd (omega (arith, counts n o owners, ap {A = Bool} {B = ℕ} (λ b. cond b 1 0) of, none))
none_counted n (o ∷ owners) none (suc k) owner is file = none_counted n owners (omega (arith, counts n o owners, none)) k owner is file

pub holds_none : (map : BlockMap) (n end : ℕ) → count_held n map.owners ≡ 0 → HoldsNoneFrom map n end
holds_none map n end none v behind at stands = none_counted n map.owners none stands.0 stands.1 stands.2 stands.3

-- None so far

unmarked : (m b : ℕ) → ¬ IsMarked (replicate m false) b
unmarked zero b is = none-some true is
unmarked (suc m) zero is = false≢true (same_Some false true is)
unmarked (suc m) (suc b) is = unmarked m b is

pub gives_none : (n end m : ℕ) (files : Layer) (journal : Journal) (marks : List Bool) → marks ≡ replicate m false → GivesBack n end files journal files journal marks
gives_none n end m files journal marks none = record {
  same_geometry = refl;
  same_table = refl;
  same_from = refl;
  each = λ k. inl refl;
  staged = λ at. inl refl;
  forgot = λ k given. absurd (none-some given.owner (same_Some None (Some given.owner) (sym given.free ∙ given.had)));
  marked = λ b is. absurd (unmarked m b (subst (λ (ms : List Bool). IsMarked ms b) none is));
  counted = refl;
  same_start = refl;
  same_division = refl;
}

-- One more, at j

module _ (n end : ℕ) (old mid new : List (Option Owner)) (marks marked : List Bool) (j : ℕ) (owner : Owner) (here : slice_get mid j ≡ Some (Some owner)) (file : owner.0.0 ≡ n) (past : end ≤ owner.1)
    (taken : new ≡ slice_set mid j None) (touched : marked ≡ slice_set marks (j / block_owners) true) (room : j / block_owners < length marks)
    (each : (k : ℕ) → (slice_get mid k ≡ slice_get old k) ⊎ IsGiven n end old mid marks k) where
  free_now : slice_get new j ≡ Some None
  free_now = ap (λ (os : List (Option Owner)). slice_get os j) taken ∙ slice_get-set_same mid j None (slice_get_within mid j (Some owner) here)

  others_now : (k : ℕ) → ¬ (k ≡ j) → slice_get new k ≡ slice_get mid k
  others_now k apart = ap (λ (os : List (Option Owner)). slice_get os k) taken ∙ slice_get-set_other mid j k None apart

  marked_now : IsMarked marked (j / block_owners)
  marked_now = ap (λ (ms : List Bool). slice_get ms (j / block_owners)) touched ∙ slice_get-set_same marks (j / block_owners) true room

  marked_still : (b : ℕ) → IsMarked marks b → IsMarked marked b
  marked_still b is = elim (cases_eq b (j / block_owners)) [
    | inl same ↦ ap (slice_get marked) same ∙ marked_now
    | inr apart ↦ ap (λ (ms : List Bool). slice_get ms b) touched ∙ slice_get-set_other marks (j / block_owners) b true apart ∙ is
  ]

  -- it had its owner from the first
  had_here : slice_get old j ≡ Some (Some owner)
  had_here = elim (each j) [
    | inl same ↦ sym same ∙ here
    | inr given ↦ absurd (none-some owner (same_Some None (Some owner) (sym given.free ∙ here)))
  ]

  given_here : IsGiven n end old new marked j
  given_here = record { owner = owner; had = had_here; file = file; past = past; free = free_now; marked = marked_now }

  given_still : (k : ℕ) → IsGiven n end old mid marks k → IsGiven n end old new marked k
  given_still k given = record {
    owner = given.owner;
    had = given.had;
    file = given.file;
    past = given.past;
    free = elim (cases_eq k j) [
      | inl same ↦ ap (slice_get new) same ∙ free_now
      | inr apart ↦ others_now k apart ∙ given.free
    ];
    marked = marked_still (k / block_owners) given.marked;
  }

  each_now : (k : ℕ) → (slice_get new k ≡ slice_get old k) ⊎ IsGiven n end old new marked k
  each_now k = elim (cases_eq k j) [
    | inl same ↦ inr (subst (IsGiven n end old new marked) (sym same) given_here)
    | inr apart ↦ elim (each k) [
      | inl as_before ↦ inl (others_now k apart ∙ as_before)
      | inr given ↦ inr (given_still k given)
    ]
  ]

  -- another than this one was given back before
  given_before : (k : ℕ) → ¬ (k ≡ j) → IsGiven n end old new marked k → IsGiven n end old mid marks k
  given_before k apart given = elim (each k) [
    | inl same ↦ absurd (none-some given.owner (same_Some None (Some given.owner) (sym given.free ∙ others_now k apart ∙ same ∙ given.had)))
    | inr before ↦ before
  ]

  given_where_marked : ((b : ℕ) → IsMarked marks b → (k : ℕ) × (k / block_owners ≡ b) × IsGiven n end old mid marks k)
      → (b : ℕ) → IsMarked marked b → (k : ℕ) × (k / block_owners ≡ b) × IsGiven n end old new marked k
  given_where_marked before b is = elim (cases_eq b (j / block_owners)) [
    | inl same ↦ (j, sym same, given_here)
    | inr apart ↦
        let was : IsMarked marks b = sym (slice_get-set_other marks (j / block_owners) b true apart) ∙ sym (ap (λ (ms : List Bool). slice_get ms b) touched) ∙ is in
        let given = before b was in
        (given.0, given.1, given_still given.0 given.2)
  ]

module _ (n end v : ℕ) (old mid new : Layer) (before between after : Journal) (marks marked : List Bool) (layer : IsLayer mid) (room : length marks ≡ 512)
    (gives : GivesBack n end old before mid between marks) (past : end ≤ v) (takes : TakesBack n v mid between marks new after marked) where
  -- which data block it is
  abbrev index : ℕ
  index = takes.stood.0

  index_within : index < 65536
  index_within =
      let few = layer.sizes.few_blocks in
      omega (arith, slice_get_within mid.map.owners index (Some takes.stood.1) takes.stood.2, layer.count, few)

  owners_now : new.map.owners ≡ slice_set mid.map.owners index None
  owners_now =
      let at = takes.stood.5 in
      let same : takes.at - mid.map.from ≡ index = omega (arith, at) in
      ap (λ (files : Layer). files.map.owners) takes.taken ∙ ap (λ k. slice_set mid.map.owners k None) same

  marks_now : marked ≡ slice_set marks (index / block_owners) true
  marks_now =
      let at = takes.stood.5 in
      let from = layer.from in
      let same : takes.at - area_from mid.geometry ≡ index = omega (arith, at, from) in
      takes.touched ∙ ap (λ k. slice_set marks (k / block_owners) true) same

  pub gives_more : GivesBack n end old before new after marked
  gives_more =
      let at = takes.stood.5 in
      let file = takes.stood.3 in
      let block = takes.stood.4 in
      let late : end ≤ takes.stood.1.1 = omega (arith, past, block) in
      let few : index / block_owners < length marks = omega (arith, index_within, room) in
      record {
        same_geometry = ap (λ (files : Layer). files.geometry) takes.taken ∙ gives.same_geometry;
        same_table = ap (λ (files : Layer). files.table) takes.taken ∙ gives.same_table;
        same_from = ap (λ (files : Layer). files.map.from) takes.taken ∙ gives.same_from;
        each = each_now n end old.map.owners mid.map.owners new.map.owners marks marked index takes.stood.1 takes.stood.2 file late owners_now marks_now few gives.each;
        staged = λ q. elim (cases_eq q takes.at) [
          | inl same ↦
              let from = gives.same_from in
              inr (index, omega (arith, same, at, from), given_here n end old.map.owners mid.map.owners new.map.owners marks marked index takes.stood.1 takes.stood.2 file late owners_now marks_now few gives.each)
          | inr apart ↦
              let left : get after.staged q ≡ get between.staged q = ap (λ (j : Journal). get j.staged q) takes.forgotten ∙ get-remove_other between.staged takes.at q apart in
              elim (gives.staged q) [
                | inl as_before ↦ inl (left ∙ as_before)
                | inr given ↦ inr (given.0, given.1, given_still n end old.map.owners mid.map.owners new.map.owners marks marked index takes.stood.1 takes.stood.2 file late owners_now marks_now few gives.each given.0 given.2)
              ]
        ];
        forgot = λ k given. elim (cases_eq k index) [
          | inl same ↦
              let from = gives.same_from in
              let place : old.map.from + k ≡ takes.at = omega (arith, same, at, from) in
              ap (λ (j : Journal). get j.staged (old.map.from + k)) takes.forgotten ∙ ap (get (remove between.staged takes.at)) place ∙ get-remove_same between.staged takes.at
          | inr apart ↦
              let from = gives.same_from in
              let other : ¬ (old.map.from + k ≡ takes.at) = λ same. omega (arith, same, at, from, apart) in
              ap (λ (j : Journal). get j.staged (old.map.from + k)) takes.forgotten ∙ get-remove_other between.staged takes.at (old.map.from + k) other
              ∙ gives.forgot k (given_before n end old.map.owners mid.map.owners new.map.owners marks marked index takes.stood.1 takes.stood.2 file late owners_now marks_now few gives.each k apart given)
        ];
        marked = given_where_marked n end old.map.owners mid.map.owners new.map.owners marks marked index takes.stood.1 takes.stood.2 file late owners_now marks_now few gives.each gives.marked;
        counted = ap (λ (j : Journal). j.count) takes.forgotten ∙ gives.counted;
        same_start = ap (λ (j : Journal). j.started) takes.forgotten ∙ gives.same_start;
        same_division = ap (λ (j : Journal). j.geometry) takes.forgotten ∙ gives.same_division;
      }

  pub marks_room : length marked ≡ 512
  marks_room = ap length marks_now ∙ length-set marks (index / block_owners) true ∙ room

  pub held_less : count_held n new.map.owners + 1 ≡ count_held n mid.map.owners
  held_less =
      let less = count-without n mid.map.owners index takes.stood.1 takes.stood.2 takes.stood.3 in
      omega (arith, less, ap (count_held n) owners_now)

-- Nothing more

pub gives_same : (n end : ℕ) (old mid new : Layer) (before between after : Journal) (marks marked : List Bool) → new ≡ mid → after ≡ between → marked ≡ marks
    → GivesBack n end old before mid between marks → GivesBack n end old before new after marked
gives_same n end old mid new before between after marks marked files journal touched gives =
    subst (λ (ms : List Bool). GivesBack n end old before new after ms) (sym touched)
    (subst (λ (j : Journal). GivesBack n end old before new j marks) (sym journal) (subst (λ (f : Layer). GivesBack n end old before f between marks) (sym files) gives))
