-- A run without one of its blocks.
use Rattle.std.proofs.Common.{◌≡◌, inl, inr, ℕ, suc, ◌+◌, ◌-◌, ◌<◌, ◌≤◌, List, [], ◌∷◌, ◌++◌, length, take, drop, slice_get, Some, refl, sym, ap, ◌∙◌, subst, arith}
use Rattle.std.proofs.lemmas.Bool.{cases_lt, cases_order}
use Rattle.std.proofs.lemmas.Bool.Decides.{nat_tests}
use Rattle.std.proofs.lemmas.List.{length-append, take-append-drop}
use Rattle.std.proofs.lemmas.List.Sums.{sum_by-append, sum_by-cons}
use Rattle.std.proofs.lemmas.Option.{none-some}
use Rattle.nesc_base.specs.Runs.{IsIn, IsRun}
use Rattle.block_map.specs.declared.held_runs.HeldRun.{HeldRun}
use Rattle.block_map.specs.Runs.{AreHeldRuns, IsAmong, IsBefore, TakesOne, blocks_in, part_before, part_behind, parts_around}
use Rattle.block_map.proofs.Parts.{alone, at_append, drop_next}
use Rattle.block_map.proofs.RunLists.{AllBefore, Holds, alone_among, among_alone, among_append, among_left, among_right, append_before, length_within, none_among, runs_alone, runs_apart, runs_back, runs_front, runs_join, runs_none}

-- the part before the block and the one behind it
abbrev pub front_of : HeldRun → ℕ → HeldRun
front_of held v = record { file = held.file; run = record { first = held.run.first; count = v - held.run.first; place = held.run.place } }

abbrev pub rest_of : HeldRun → ℕ → ℕ → HeldRun
rest_of held v at = record { file = held.file; run = record { first = v + 1; count = held.run.count - (v - held.run.first) - 1; place = at + 1 } }

no_front : (held : HeldRun) (v : ℕ) → held.run.first ≡ v → part_before held v ≡ []
no_front held v same = grind (arith, nat_tests)

some_front : (held : HeldRun) (v : ℕ) → held.run.first < v → part_before held v ≡ front_of held v ∷ []
some_front held v less = grind (arith, nat_tests)

no_rest : (held : HeldRun) (v : ℕ) → held.run.first + held.run.count ≡ v + 1 → part_behind held v ≡ []
no_rest held v same = grind (arith, nat_tests)

rest_as : (held : HeldRun) (v count place : ℕ) → v + 1 < held.run.first + held.run.count → count ≡ held.run.first + held.run.count - (v + 1)
    → place ≡ held.run.place + (v - held.run.first) + 1 → part_behind held v ≡ record { file = held.file; run = record { first = v + 1; count = count; place = place } } ∷ []
rest_as held v count place less is_count is_place = grind (arith, nat_tests)

some_rest : (held : HeldRun) (v at : ℕ) → held.run.first ≤ v → v + 1 < held.run.first + held.run.count → at ≡ held.run.place + (v - held.run.first)
    → part_behind held v ≡ rest_of held v at ∷ []
some_rest held v at from less place = rest_as held v (held.run.count - (v - held.run.first) - 1) (at + 1) less (omega arith) (omega arith)

pub only_front : (held : HeldRun) (v : ℕ) → held.run.first < v → held.run.first + held.run.count ≡ v + 1 → parts_around held v ≡ front_of held v ∷ []
only_front held v less end = ap (λ fronts. fronts ++ part_behind held v) (some_front held v less) ∙ ap (λ rest. front_of held v ∷ rest) (no_rest held v end)

pub only_rest : (held : HeldRun) (v at : ℕ) → held.run.first ≡ v → v + 1 < held.run.first + held.run.count → at ≡ held.run.place + (v - held.run.first)
    → parts_around held v ≡ rest_of held v at ∷ []
only_rest held v at same less place = ap (λ fronts. fronts ++ part_behind held v) (no_front held v same) ∙ some_rest held v at (omega arith) less place

pub both_parts : (held : HeldRun) (v at : ℕ) → held.run.first < v → v + 1 < held.run.first + held.run.count → at ≡ held.run.place + (v - held.run.first)
    → parts_around held v ≡ front_of held v ∷ (rest_of held v at ∷ [])
both_parts held v at less more place =
    ap (λ fronts. fronts ++ part_behind held v) (some_front held v less) ∙ ap (λ rest. front_of held v ∷ rest) (some_rest held v at (omega arith) more place)

-- What the parts are

-- a part of a run
pub record IsPartOf (held part : HeldRun) : Type 0 where
  pub file : part.file.0 ≡ held.file.0
  pub from : held.run.first ≤ part.run.first
  pub to : part.run.first + part.run.count ≤ held.run.first + held.run.count
  pub places : part.run.place + held.run.first ≡ held.run.place + part.run.first

-- it stands between the same runs
before_part : (one held part : HeldRun) → IsPartOf held part → IsBefore one held → IsBefore one part
before_part one held part is (inl less) = inl (let file = is.file in omega arith)
before_part one held part is (inr within) =
    let file = is.file in
    let from = is.from in
    let places = is.places in
    let later = within.1.later in
    inr (
      within.0 ∙ sym file,
      record {
        later = omega arith;
        apart = λ meets joins. (let first : one.run.first + one.run.count ≡ held.run.first = omega arith in within.1.apart first (omega arith));
      },
    )

part_before_next : (held part next : HeldRun) → IsPartOf held part → IsBefore held next → IsBefore part next
part_before_next held part next is (inl less) = inl (let file = is.file in omega arith)
part_before_next held part next is (inr within) =
    let file = is.file in
    let from = is.from in
    let to = is.to in
    let places = is.places in
    let later = within.1.later in
    inr (
      file ∙ within.0,
      record {
        later = omega arith;
        apart = λ meets joins. (let last : held.run.first + held.run.count ≡ next.run.first = omega arith in within.1.apart last (omega arith));
      },
    )

-- the blocks before block v
record IsFront (held : HeldRun) (v : ℕ) (parts : List HeldRun) : Type 0 where
  pub are : AreHeldRuns parts
  pub within : (j : ℕ) (part : HeldRun) → slice_get parts j ≡ Some part → IsPartOf held part × (part.run.first + part.run.count ≤ v)
  pub each : (m w p : ℕ) → IsAmong parts m w p → Holds held m w p × (w < v)
  pub all : (m w p : ℕ) → Holds held m w p → w < v → IsAmong parts m w p
  pub count : held.run.first + blocks_in parts ≡ v

front_none : (held : HeldRun) (v : ℕ) → held.run.first ≡ v → IsFront held v []
front_none held v same = record {
  are = runs_none;
  within = λ j part stands. absurd (none-some part stands);
  each = λ m w p among. absurd (none_among m w p among);
  all = λ m w p holds less. absurd (let from = holds.1.from in omega arith);
  count = omega arith;
}

front_some : (held : HeldRun) (v : ℕ) → IsRun held.run → held.run.first < v → v < held.run.first + held.run.count → IsFront held v (front_of held v ∷ [])
front_some held v is less below =
    let filed = is.filed in
    let placed = is.placed in
    record {
      are = runs_alone (front_of held v) (record { some = omega arith; filed = omega arith; placed = omega arith });
      within = λ j part stands. subst (λ (h : HeldRun). IsPartOf held h × (h.run.first + h.run.count ≤ v)) (alone (front_of held v) part j stands)
          (record { file = refl; from = omega arith; to = omega arith; places = refl }, omega arith);
      each = λ m w p among. (
          let holds = among_alone (front_of held v) m w p among in
          let under = holds.1.below in
          let from = holds.1.from in
          ((holds.0, record { from = from; below = omega arith; place = holds.1.place }), omega arith));
      all = λ m w p holds low. alone_among (front_of held v) m w p (holds.0, (let from = holds.1.from in record { from = from; below = omega arith; place = holds.1.place }));
      count = omega arith;
    }

-- the blocks behind it
record IsRest (held : HeldRun) (v : ℕ) (parts : List HeldRun) : Type 0 where
  pub are : AreHeldRuns parts
  pub within : (j : ℕ) (part : HeldRun) → slice_get parts j ≡ Some part → IsPartOf held part × (v < part.run.first)
  pub each : (m w p : ℕ) → IsAmong parts m w p → Holds held m w p × (v < w)
  pub all : (m w p : ℕ) → Holds held m w p → v < w → IsAmong parts m w p
  pub count : v + 1 + blocks_in parts ≡ held.run.first + held.run.count

rest_none : (held : HeldRun) (v : ℕ) → held.run.first + held.run.count ≡ v + 1 → IsRest held v []
rest_none held v same = record {
  are = runs_none;
  within = λ j part stands. absurd (none-some part stands);
  each = λ m w p among. absurd (none_among m w p among);
  all = λ m w p holds more. absurd (let below = holds.1.below in omega arith);
  count = omega arith;
}

rest_some : (held : HeldRun) (v at : ℕ) → IsRun held.run → IsIn held.run v at → v + 1 < held.run.first + held.run.count → IsRest held v (rest_of held v at ∷ [])
rest_some held v at is within less =
    let filed = is.filed in
    let placed = is.placed in
    let from = within.from in
    let place = within.place in
    record {
      are = runs_alone (rest_of held v at) (record { some = omega arith; filed = omega arith; placed = omega arith });
      within = λ j part stands. subst (λ (h : HeldRun). IsPartOf held h × (v < h.run.first)) (alone (rest_of held v at) part j stands)
          (record { file = refl; from = omega arith; to = omega arith; places = omega arith }, omega arith);
      each = λ m w p among. (
          let holds = among_alone (rest_of held v at) m w p among in
          let low = holds.1.from in
          let below = holds.1.below in
          let there = holds.1.place in
          ((holds.0, record { from = omega arith; below = omega arith; place = omega arith }), omega arith));
      all = λ m w p holds more. alone_among (rest_of held v at) m w p (
        holds.0,
        (let low = holds.1.from in let below = holds.1.below in let there = holds.1.place in record { from = omega arith; below = omega arith; place = omega arith }),
      );
      count = omega arith;
    }

is_front : (held : HeldRun) (v at : ℕ) → IsRun held.run → IsIn held.run v at → IsFront held v (part_before held v)
is_front held v at is within = elim (cases_lt held.run.first v) [
  | inl less ↦ subst (IsFront held v) (sym (some_front held v less)) (front_some held v is less within.below)
  | inr high ↦ (
      let from = within.from in
      let same : held.run.first ≡ v = omega arith in
      subst (IsFront held v) (sym (no_front held v same)) (front_none held v same))
]

is_rest : (held : HeldRun) (v at : ℕ) → IsRun held.run → IsIn held.run v at → IsRest held v (part_behind held v)
is_rest held v at is within = elim (cases_lt (v + 1) (held.run.first + held.run.count)) [
  | inl less ↦ subst (IsRest held v) (sym (some_rest held v at within.from less within.place)) (rest_some held v at is within less)
  | inr high ↦ (
      let below = within.below in
      let same : held.run.first + held.run.count ≡ v + 1 = omega arith in
      subst (IsRest held v) (sym (no_rest held v same)) (rest_none held v same))
]

-- Both, in a list

module _ (front back : List HeldRun) (held : HeldRun) (v at : ℕ) (are : AreHeldRuns (front ++ (held ∷ back))) (within : IsIn held.run v at) where
  held_is : IsRun held.run
  held_is = (runs_front (held ∷ []) back (runs_back front (held ∷ back) are)).each 0 held refl

  fronts : IsFront held v (part_before held v)
  fronts = is_front held v at held_is within

  rests : IsRest held v (part_behind held v)
  rests = is_rest held v at held_is within

  before_held : (j : ℕ) (one : HeldRun) → slice_get front j ≡ Some one → IsBefore one held
  before_held j one stands = runs_apart front (held ∷ back) are j 0 one held stands refl

  held_before : (k : ℕ) (next : HeldRun) → slice_get back k ≡ Some next → IsBefore held next
  held_before k next stands = runs_apart (held ∷ []) back (runs_back front (held ∷ back) are) 0 k held next refl stands

  parts_apart : AllBefore (part_before held v) (part_behind held v)
  parts_apart j k one next stands there =
      let first = fronts.within j one stands in
      let second = rests.within k next there in
      let ends = first.1 in
      let begins = second.1 in
      inr (first.0.file ∙ sym second.0.file, record { later = omega arith; apart = λ meets. absurd (omega arith) })

  parts_of : (j : ℕ) (part : HeldRun) → slice_get (parts_around held v) j ≡ Some part → IsPartOf held part
  parts_of j part stands = elim (at_append (part_before held v) (part_behind held v) j part stands) [
    | inl here ↦ (fronts.within j part here).0
    | inr behind ↦ (rests.within behind.0 part behind.2).0
  ]

  pub sound_cut : AreHeldRuns (front ++ (parts_around held v ++ back))
  sound_cut =
      runs_join front (parts_around held v ++ back) (runs_front front (held ∷ back) are)
      (runs_join (parts_around held v) back (runs_join (part_before held v) (part_behind held v) fronts.are rests.are parts_apart)
      (runs_back (held ∷ []) back (runs_back front (held ∷ back) are))
      (λ j k one next stands there. part_before_next held one next (parts_of j one stands) (held_before k next there)))
      (append_before front (parts_around held v) back
      (λ j k one next stands there. before_part one held next (parts_of k next there) (before_held j one stands))
      (λ j k one next stands there. runs_apart front (held ∷ back) are j (suc k) one next stands there))

  pub takes_cut : TakesOne (front ++ (held ∷ back)) held.file.0 v (front ++ (parts_around held v ++ back))
  takes_cut =
      let from = within.from in
      let below = within.below in
      let parts = parts_around held v in
      record {
        taken = λ p among. elim (among_append front (parts ++ back) held.file.0 v p among) [
          | inl low ↦ elim (before_held low.k low.held low.stands) [
            | inl less ↦ (let file = low.file in omega arith)
            | inr here ↦ (let later = here.1.later in let under = low.within.below in omega arith)
          ]
          | inr rest ↦ elim (among_append parts back held.file.0 v p rest) [
            | inl part ↦ elim (among_append (part_before held v) (part_behind held v) held.file.0 v p part) [
              | inl low ↦ (let less = (fronts.each held.file.0 v p low).1 in omega arith)
              | inr high ↦ (let more = (rests.each held.file.0 v p high).1 in omega arith)
            ]
            | inr high ↦ elim (held_before high.k high.held high.stands) [
              | inl less ↦ (let file = high.file in omega arith)
              | inr here ↦ (let later = here.1.later in let over = high.within.from in omega arith)
            ]
          ]
        ];
        no_other = λ m w p among. elim (among_append front (parts ++ back) m w p among) [
          | inl low ↦ among_left front (held ∷ back) m w p low
          | inr rest ↦ elim (among_append parts back m w p rest) [
            | inl part ↦ among_right front (held ∷ back) m w p (among_left (held ∷ []) back m w p (alone_among held m w p (elim (among_append (part_before held v) (part_behind held v) m w p part) [
              | inl low ↦ (fronts.each m w p low).0
              | inr high ↦ (rests.each m w p high).0
            ])))
            | inr high ↦ among_right front (held ∷ back) m w p (among_right (held ∷ []) back m w p high)
          ]
        ];
        stay = λ m w p among. elim (among_append front (held ∷ back) m w p among) [
          | inl low ↦ inl (among_left front (parts ++ back) m w p low)
          | inr rest ↦ elim (among_append (held ∷ []) back m w p rest) [
            | inl here ↦ (
                let holds = among_alone held m w p here in
                elim (cases_order w v) [
                  | inl same ↦ inr (sym holds.0, same)
                  | inr apart ↦ inl (among_right front (parts ++ back) m w p (among_left parts back m w p (elim apart [
                    | inl less ↦ among_left (part_before held v) (part_behind held v) m w p (fronts.all m w p holds less)
                    | inr more ↦ among_right (part_before held v) (part_behind held v) m w p (rests.all m w p holds more)
                  ])))
                ])
            | inr high ↦ inl (among_right front (parts ++ back) m w p (among_right parts back m w p high))
          ]
        ];
        count =
            (let size : HeldRun → ℕ = λ h. h.run.count in
            let low = fronts.count in
            let high = rests.count in
            let news = sum_by-append size front (parts ++ back) in
            let rest = sum_by-append size parts back in
            let both = sum_by-append size (part_before held v) (part_behind held v) in
            let olds = sum_by-append size front (held ∷ back) in
            let next = sum_by-cons size held back in
            omega arith);
      }

-- What is left of the runs once block v of the run at place k is taken out

split_at : (runs : List HeldRun) (k : ℕ) (held : HeldRun) → slice_get runs k ≡ Some held → runs ≡ take k runs ++ (held ∷ drop (k + 1) runs)
split_at runs k held stands =
    sym (take-append-drop k runs) ∙ ap (λ xs. take k runs ++ xs) (drop_next runs k held stands)
    ∙ ap (λ n. take k runs ++ (held ∷ drop n runs)) (let same : suc k ≡ k + 1 = omega arith in same)

module _ (runs : List HeldRun) (k : ℕ) (held : HeldRun) (v at : ℕ) (are : AreHeldRuns runs) (stands : slice_get runs k ≡ Some held) (within : IsIn held.run v at) where
  pub sound_without : AreHeldRuns (take k runs ++ (parts_around held v ++ drop (k + 1) runs))
  sound_without = sound_cut (take k runs) (drop (k + 1) runs) held v at (subst AreHeldRuns (split_at runs k held stands) are) within

  pub takes_without : TakesOne runs held.file.0 v (take k runs ++ (parts_around held v ++ drop (k + 1) runs))
  takes_without = subst (λ (old : List HeldRun). TakesOne old held.file.0 v (take k runs ++ (parts_around held v ++ drop (k + 1) runs))) (sym (split_at runs k held stands))
      (takes_cut (take k runs) (drop (k + 1) runs) held v at (subst AreHeldRuns (split_at runs k held stands) are) within)

  -- there is room for one run more, where it has a block on both sides
  pub room_without : 3 ≤ held.run.count → length runs < blocks_in runs
  room_without three =
      let size : HeldRun → ℕ = λ h. h.run.count in
      let old = subst AreHeldRuns (split_at runs k held stands) are in
      let front = take k runs in
      let back = drop (k + 1) runs in
      let fronts_few = length_within front (runs_front front (held ∷ back) old).each in
      let backs_few = length_within back (runs_back (held ∷ []) back (runs_back front (held ∷ back) old)).each in
      let sizes = length-append front (held ∷ back) in
      let sums = sum_by-append size front (held ∷ back) in
      let next = sum_by-cons size held back in
      subst (λ (xs : List HeldRun). length xs < blocks_in xs) (sym (split_at runs k held stands)) (omega arith)
