-- One block more among runs in order, which joins what it meets.
use Rattle.std.proofs.Common.{◌≡◌, ◌⊎◌, inl, inr, ℕ, suc, ◌+◌, ◌-◌, ◌<◌, ◌≤◌, ◌^◌, List, [], ◌∷◌, ◌++◌, length, take, drop, get_or, slice_get, Some, refl, sym, ap, ◌∙◌, subst, arith}
use Rattle.std.proofs.lemmas.Bool.{cases_eq, cases_lt}
use Rattle.std.proofs.lemmas.List.{append-nil, take-append-drop}
use Rattle.std.proofs.lemmas.List.Sums.{sum_by-append, sum_by-cons}
use Rattle.std.proofs.lemmas.Option.{slice_get-get_or, slice_get_within}
use Rattle.nesc_base.specs.Files.{longest_file}
use Rattle.nesc_base.specs.Runs.{IsIn, IsRun}
use Rattle.block_map.specs.declared.held_runs.HeldRun.{HeldRun}
use Rattle.block_map.specs.Runs.{AddsOne, AreHeldRuns, BeginsBy, BeginsItself, BeginsPast, EndsItself, GoesOn, IsAmong, IsBefore, IsBegin, IsEnd, IsGoneOn, IsNotAmong, blocks_in}
use Rattle.block_map.proofs.Parts.{alone, at_drop, at_left, at_right, at_take, drop_next, take_next}
use Rattle.block_map.proofs.RunLists.{Holds, alone_among, among_alone, among_append, among_left, among_right, append_before, none_among, runs_alone, runs_apart, runs_back, runs_front, runs_join}

-- What stands before a block

-- a run that begins as another does stands behind the same runs
before_like : (one next other : HeldRun) → IsBefore one next → other.file.0 ≡ next.file.0 → other.run.first ≡ next.run.first → other.run.place ≡ next.run.place
    → IsBefore one other
before_like one next other (inl less) file first place = inl (omega arith)
before_like one next other (inr within) file first place = inr (
  within.0 ∙ sym file,
  record { later = (let later = within.1.later in omega arith); apart = λ meets joins. within.1.apart (meets ∙ first) (joins ∙ place) },
)

-- a run that ends as another does stands before the same runs
like_before : (one next other : HeldRun) → IsBefore one next → other.file.0 ≡ one.file.0 → other.run.first + other.run.count ≡ one.run.first + one.run.count
    → other.run.place + other.run.count ≡ one.run.place + one.run.count → IsBefore other next
like_before one next other (inl less) file ends places = inl (omega arith)
like_before one next other (inr within) file ends places = inr (
  file ∙ within.0,
  record { later = (let later = within.1.later in omega arith); apart = λ meets joins. within.1.apart (sym ends ∙ meets) (sym places ∙ joins) },
)

-- the runs before a block and its own run's blocks before it, from `first` on, which stands at `place`
pub record LeftEdge (front left : List HeldRun) (n v at first place : ℕ) : Type 0 where
  pub before : (j : ℕ) (one next : HeldRun) → slice_get front j ≡ Some one → next.file.0 ≡ n → next.run.first ≡ first → next.run.place ≡ place → IsBefore one next
  pub each : (m w p : ℕ) → IsAmong left m w p → (m ≡ n) × (first ≤ w) × (w < v) × (p ≡ place + (w - first))
  pub all : (w : ℕ) → first ≤ w → w < v → IsAmong left n w (place + (w - first))
  pub count : first + blocks_in left ≡ v
  pub places : place + blocks_in left ≡ at

-- the first k runs begin before a block, which none of them has
pub record Precede (runs : List HeldRun) (k n v : ℕ) : Type 0 where
  pub are : AreHeldRuns runs
  pub within : k ≤ length runs
  pub by : (j : ℕ) (held : HeldRun) → j < k → slice_get runs j ≡ Some held → BeginsBy n v held
  pub unheld : IsNotAmong runs n v

-- they end before it
ends_before : (runs : List HeldRun) (k n v j : ℕ) (one : HeldRun) → Precede runs k n v → j < k → slice_get runs j ≡ Some one → one.file.0 ≡ n
    → one.run.first + one.run.count ≤ v
ends_before runs k n v j one precede less stands file = elim (precede.by j one less stands) [
  | inl low ↦ absurd (omega arith)
  | inr begins ↦ elim (cases_lt v (one.run.first + one.run.count)) [
    | inl below ↦ absurd (precede.unheld (one.run.place + (v - one.run.first)) (record {
      k = j;
      held = one;
      stands = stands;
      file = file;
      within = record { from = begins.1; below = below; place = refl };
    }))
    | inr ended ↦ ended
  ]
]

-- only the last of them may end at it
last_ends : (runs : List HeldRun) (k n v j : ℕ) (one : HeldRun) → Precede runs k n v → j < k → slice_get runs j ≡ Some one → one.file.0 ≡ n
    → one.run.first + one.run.count ≡ v → j + 1 ≡ k
last_ends runs k n v j one precede less stands file ends = elim (cases_lt (j + 1) k) [
  | inr high ↦ omega arith
  | inl more ↦ absurd (
      let next : HeldRun = get_or runs (j + 1) one in
      let there : slice_get runs (j + 1) ≡ Some next = slice_get-get_or runs (j + 1) one (let within = precede.within in omega arith) in
      let some : 1 ≤ next.run.count = (precede.are.each (j + 1) next there).some in
      elim (precede.are.rising j (j + 1) one next (omega arith) stands there) [
        | inl higher ↦ elim (precede.by (j + 1) next more there) [ inl low ↦ omega arith | inr here ↦ (let same = here.0 in omega arith) ]
        | inr within ↦ (
            let later = within.1.later in
            let ended = ends_before runs k n v (j + 1) next precede more there (sym within.0 ∙ file) in
            omega arith)
      ])
]

left_alone : (runs : List HeldRun) (k n v at from first place : ℕ) → Precede runs k n v → BeginsItself runs k n v at from first place
    → LeftEdge (take from runs) [] n v at first place
left_alone runs k n v at from first place precede itself = record {
  before = λ j one next stands file is_first is_place. (
      let same = itself.behind in
      let there = at_take from runs j one stands in
      let less : j < k = (let low = there.0 in omega arith) in
      elim (precede.by j one less there.1) [
        | inl low ↦ inl (omega arith)
        | inr here ↦ inr (
          here.0 ∙ sym file,
          record {
            later = (let ended = ends_before runs k n v j one precede less there.1 here.0 in let is = itself.first_is in omega arith);
            apart = λ meets joins.
                (
                let ends : one.run.first + one.run.count ≡ v = meets ∙ is_first ∙ sym itself.first_is in
                itself.apart j one (last_ends runs k n v j one precede less there.1 here.0 ends) there.1 (here.0, ends, joins ∙ is_place ∙ sym itself.place_is));
          },
        )
      ]);
  each = λ m w p among. absurd (none_among m w p among);
  all = λ w least less. absurd (let is = itself.first_is in omega arith);
  count = (let is = itself.first_is in omega arith);
  places = (let is = itself.place_is in omega arith);
}

left_joined : (runs : List HeldRun) (k n v at from first place : ℕ) → AreHeldRuns runs → (on : GoesOn runs k n v at from first place)
    → LeftEdge (take from runs) (on.held ∷ []) n v at first place
left_joined runs k n v at from first place are on =
    let file = on.ends.0 in
    let ends = on.ends.1 in
    let places = on.ends.2 in
    let is_first = on.first_is in
    let is_place = on.place_is in
    record {
      before = λ j one next stands is_file begins there. (
          let low = at_take from runs j one stands in
          before_like one on.held next (are.rising j from one on.held low.0 low.1 on.stands) (is_file ∙ sym file) (begins ∙ sym is_first) (there ∙ sym is_place));
      each = λ m w p among. (
          let holds = among_alone on.held m w p among in
          let within = holds.1 in
          (sym holds.0 ∙ file, omega arith, omega arith, omega arith));
      all = λ w least less. alone_among on.held n w (place + (w - first)) (file, record { from = omega arith; below = omega arith; place = omega arith });
      count = omega arith;
      places = omega arith;
    }

-- What stands behind a block

-- the runs behind a block and its own run's blocks behind it, up to `end`, which is not of them
pub record RightEdge (right back : List HeldRun) (n v at end : ℕ) : Type 0 where
  pub before : (j : ℕ) (one next : HeldRun) → slice_get back j ≡ Some next → one.file.0 ≡ n → one.run.first + one.run.count ≡ end
      → one.run.place + one.run.count ≡ at + (end - v) → IsBefore one next
  pub each : (m w p : ℕ) → IsAmong right m w p → (m ≡ n) × (v < w) × (w < end) × (p ≡ at + (w - v))
  pub all : (w : ℕ) → v < w → w < end → IsAmong right n w (at + (w - v))
  pub count : v + 1 + blocks_in right ≡ end
  pub filed : end ≤ longest_file
  pub placed : at + (end - v) < 2 ^ 32

-- only the first of those from place k on may begin right behind it
first_begins : (runs : List HeldRun) (k n v j : ℕ) (one : HeldRun) → AreHeldRuns runs
    → ((i : ℕ) (held : HeldRun) → k ≤ i → slice_get runs i ≡ Some held → BeginsPast n v held) → k ≤ j → slice_get runs j ≡ Some one → one.file.0 ≡ n
    → one.run.first ≡ v + 1 → j ≡ k
first_begins runs k n v j one are past least stands file begins = elim (cases_lt k j) [
  | inr high ↦ omega arith
  | inl more ↦ absurd (
      let next : HeldRun = get_or runs k one in
      let there : slice_get runs k ≡ Some next = slice_get-get_or runs k one (let within = slice_get_within runs j one stands in omega arith) in
      let some : 1 ≤ next.run.count = (are.each k next there).some in
      elim (are.rising k j next one more there stands) [
        | inl higher ↦ elim (past k next (omega arith) there) [ inl low ↦ omega arith | inr here ↦ (let same = here.0 in omega arith) ]
        | inr within ↦ (
            let later = within.1.later in
            let same = within.0 in
            elim (past k next (omega arith) there) [ inl low ↦ omega arith | inr here ↦ (let behind = here.1 in omega arith) ])
      ])
]

right_alone : (runs : List HeldRun) (k n v at to end : ℕ) → AreHeldRuns runs
    → ((i : ℕ) (held : HeldRun) → k ≤ i → slice_get runs i ≡ Some held → BeginsPast n v held) → v < longest_file → at + 1 < 2 ^ 32
    → EndsItself runs k n v at to end → RightEdge [] (drop to runs) n v at end
right_alone runs k n v at to end are past filed placed itself =
    let is_end = itself.end_is in
    let is_to = itself.before in
    record {
      before = λ j one next stands file ends places. (
          let there : slice_get runs (to + j) ≡ Some next = sym (at_drop to runs j) ∙ stands in
          elim (past (to + j) next (omega arith) there) [
            | inl low ↦ inl (omega arith)
            | inr here ↦ inr (
              file ∙ sym here.0,
              record {
                later = (let behind = here.1 in omega arith);
                apart = λ meets joins.
                    (
                    let begins : next.run.first ≡ v + 1 = sym meets ∙ ends ∙ is_end in
                    let first : to + j ≡ k = first_begins runs k n v (to + j) next are past (omega arith) there here.0 begins in
                    itself.apart next (ap (slice_get runs) (sym first) ∙ there) (here.0, begins, omega arith));
              },
            )
          ]);
      each = λ m w p among. absurd (none_among m w p among);
      all = λ w more less. absurd (omega arith);
      count = omega arith;
      filed = omega arith;
      placed = omega arith;
    }

right_joined : (runs : List HeldRun) (k n v at to end : ℕ) → AreHeldRuns runs → (on : IsGoneOn runs k n v at to end)
    → RightEdge (on.held ∷ []) (drop to runs) n v at end
right_joined runs k n v at to end are on =
    let file = on.begins.0 in
    let begins = on.begins.1 in
    let places = on.begins.2 in
    let is_end = on.end_is in
    let is_to = on.next in
    let is_run = are.each k on.held on.stands in
    record {
      before = λ j one next stands is_file ends there. (
          let behind : slice_get runs (to + j) ≡ Some next = sym (at_drop to runs j) ∙ stands in
          like_before on.held next one (are.rising k (to + j) on.held next (omega arith) on.stands behind) (is_file ∙ sym file) (omega arith) (omega arith));
      each = λ m w p among. (
          let holds = among_alone on.held m w p among in
          let within = holds.1 in
          (sym holds.0 ∙ file, omega arith, omega arith, omega arith));
      all = λ w more less. alone_among on.held n w (at + (w - v)) (file, record { from = omega arith; below = omega arith; place = omega arith });
      count = omega arith;
      filed = omega arith;
      placed = omega arith;
    }

-- Both

among_at : (runs : List HeldRun) (n m w p q : ℕ) → m ≡ n → p ≡ q → IsAmong runs n w q → IsAmong runs m w p
among_at runs n m w p q file place among = record {
  k = among.k;
  held = among.held;
  stands = among.stands;
  file = among.file ∙ sym file;
  within = subst (IsIn among.held.run w) (sym place) among.within;
}

-- a run over what a block joins: where it begins and ends, and between which runs
pub record Joins (front left right back : List HeldRun) (joined : HeldRun) (n v at first place end : ℕ) : Type 0 where
  pub are : AreHeldRuns ((front ++ left) ++ (right ++ back))
  pub on_left : LeftEdge front left n v at first place
  pub on_right : RightEdge right back n v at end
  pub file : joined.file.0 ≡ n
  pub begins : joined.run.first ≡ first
  pub stands : joined.run.place ≡ place
  pub ends : joined.run.first + joined.run.count ≡ end

module _ (front left right back : List HeldRun) (joined : HeldRun) (n v at first place end : ℕ) (joins : Joins front left right back joined n v at first place end) where
  joined_places : joined.run.place + joined.run.count ≡ at + (end - v)
  joined_places =
      let count = joins.on_left.count in
      let places = joins.on_left.places in
      let behind = joins.on_right.count in
      let begins = joins.begins in
      let stands = joins.stands in
      let ends = joins.ends in
      omega arith

  joined_is : IsRun joined.run
  joined_is =
      let count = joins.on_left.count in
      let behind = joins.on_right.count in
      let filed = joins.on_right.filed in
      let placed = joins.on_right.placed in
      let begins = joins.begins in
      let ends = joins.ends in
      let places = joined_places in
      record { some = omega arith; filed = omega arith; placed = omega arith }

  pub sound_joined : AreHeldRuns (front ++ (joined ∷ back))
  sound_joined =
      let before = runs_apart (front ++ left) (right ++ back) joins.are in
      let fronts : AreHeldRuns front = runs_front front left (runs_front (front ++ left) (right ++ back) joins.are) in
      let backs : AreHeldRuns back = runs_back right back (runs_back (front ++ left) (right ++ back) joins.are) in
      runs_join front (joined ∷ back) fronts
      (runs_join (joined ∷ []) back (runs_alone joined joined_is) backs
      (λ j k one next there stands. (
      let same : joined ≡ one = alone joined one j there in
      subst (λ (h : HeldRun). IsBefore h next) same (joins.on_right.before k joined next stands joins.file joins.ends joined_places))))
      (append_before front (joined ∷ []) back
      (λ j k one next stands there. (
      let same : joined ≡ next = alone joined next k there in
      subst (IsBefore one) same (joins.on_left.before j one joined stands joins.file joins.begins joins.stands)))
      (λ j k one next stands there. before j (length right + k) one next (at_left front left j one stands) (at_right right back k (length right + k) next refl there)))

  holds_left : (m w p : ℕ) → IsAmong left m w p → Holds joined m w p
  holds_left m w p among =
      let each = joins.on_left.each m w p among in
      let file = each.0 in
      let least = each.1 in
      let less = each.2 in
      let at_place = each.3 in
      let count = joins.on_left.count in
      let behind = joins.on_right.count in
      let begins = joins.begins in
      let stands = joins.stands in
      let ends = joins.ends in
      (joins.file ∙ sym file, record { from = omega arith; below = omega arith; place = at_place ∙ omega arith })

  holds_right : (m w p : ℕ) → IsAmong right m w p → Holds joined m w p
  holds_right m w p among =
      let each = joins.on_right.each m w p among in
      let file = each.0 in
      let more = each.1 in
      let less = each.2 in
      let at_place = each.3 in
      let count = joins.on_left.count in
      let places = joins.on_left.places in
      let begins = joins.begins in
      let stands = joins.stands in
      let ends = joins.ends in
      (joins.file ∙ sym file, record { from = omega arith; below = omega arith; place = at_place ∙ omega arith })

  holds_itself : Holds joined n v at
  holds_itself =
      let count = joins.on_left.count in
      let places = joins.on_left.places in
      let behind = joins.on_right.count in
      let begins = joins.begins in
      let stands = joins.stands in
      let ends = joins.ends in
      (joins.file, record { from = omega arith; below = omega arith; place = omega arith })

  of_joined : (m w p : ℕ) → Holds joined m w p → (IsAmong left m w p ⊎ IsAmong right m w p) ⊎ ((m ≡ n) × (w ≡ v) × (p ≡ at))
  of_joined m w p holds =
      let file : m ≡ n = sym holds.0 ∙ joins.file in
      let from = holds.1.from in
      let below = holds.1.below in
      let at_place = holds.1.place in
      let count = joins.on_left.count in
      let places = joins.on_left.places in
      let begins = joins.begins in
      let stands = joins.stands in
      let ends = joins.ends in
      elim (cases_lt w v) [
        | inl less ↦ inl (inl (among_at left n m w p (place + (w - first)) file (at_place ∙ omega arith) (joins.on_left.all w (omega arith) less)))
        | inr least ↦ elim (cases_eq w v) [
          | inl same ↦ inr (file, same, at_place ∙ omega arith)
          | inr apart ↦ (
              let more : v < w = omega (arith, apart, least) in
              inl (inr (among_at right n m w p (at + (w - v)) file (at_place ∙ omega arith) (joins.on_right.all w more (omega arith)))))
        ]
      ]

  pub adds_joined : AddsOne ((front ++ left) ++ (right ++ back)) n v at (front ++ (joined ∷ back))
  adds_joined =
      let in_joined : ((m w p : ℕ) → Holds joined m w p → IsAmong (front ++ (joined ∷ back)) m w p) =
      λ m w p holds. among_right front (joined ∷ back) m w p (among_left (joined ∷ []) back m w p (alone_among joined m w p holds)) in
      record {
        added = in_joined n v at holds_itself;
        stay = λ m w p among. elim (among_append (front ++ left) (right ++ back) m w p among) [
          | inl low ↦ elim (among_append front left m w p low) [
            | inl here ↦ among_left front (joined ∷ back) m w p here
            | inr here ↦ in_joined m w p (holds_left m w p here)
          ]
          | inr high ↦ elim (among_append right back m w p high) [
            | inl here ↦ in_joined m w p (holds_right m w p here)
            | inr here ↦ among_right front (joined ∷ back) m w p (among_right (joined ∷ []) back m w p here)
          ]
        ];
        no_other = λ m w p among. elim (among_append front (joined ∷ back) m w p among) [
          | inl here ↦ inl (among_left (front ++ left) (right ++ back) m w p (among_left front left m w p here))
          | inr high ↦ elim (among_append (joined ∷ []) back m w p high) [
            | inl here ↦ elim (of_joined m w p (among_alone joined m w p here)) [
              | inl old ↦ elim old [
                | inl there ↦ inl (among_left (front ++ left) (right ++ back) m w p (among_right front left m w p there))
                | inr there ↦ inl (among_right (front ++ left) (right ++ back) m w p (among_left right back m w p there))
              ]
              | inr new ↦ inr new
            ]
            | inr here ↦ inl (among_right (front ++ left) (right ++ back) m w p (among_right right back m w p here))
          ]
        ];
        count =
            (let count = joins.on_left.count in
            let behind = joins.on_right.count in
            let begins = joins.begins in
            let ends = joins.ends in
            let size : HeldRun → ℕ = λ held. held.run.count in
            let parts = sum_by-append size (front ++ left) (right ++ back) in
            let lefts = sum_by-append size front left in
            let rights = sum_by-append size right back in
            let news = sum_by-append size front (joined ∷ back) in
            let next = sum_by-cons size joined back in
            omega arith);
      }

-- a run is put over what a block joins
pub record PutsIn (runs : List HeldRun) (k n v at from to : ℕ) (joined : HeldRun) (first place end : ℕ) : Type 0 where
  pub precede : Precede runs k n v
  pub past : (j : ℕ) (held : HeldRun) → k ≤ j → slice_get runs j ≡ Some held → BeginsPast n v held
  pub filed : v < longest_file
  pub placed : at + 1 < 2 ^ 32
  pub begin : IsBegin runs k n v at from first place
  pub end_is : IsEnd runs k n v at to end
  pub file : joined.file.0 ≡ n
  pub begins : joined.run.first ≡ first
  pub stands : joined.run.place ≡ place
  pub count : joined.run.count ≡ end - first

split_left : (runs : List HeldRun) (k n v at from first place : ℕ) → Precede runs k n v → IsBegin runs k n v at from first place
    → (left : List HeldRun) × (take k runs ≡ take from runs ++ left) × LeftEdge (take from runs) left n v at first place
split_left runs k n v at from first place precede (inl on) = (
  on.held ∷ [],
  ap (λ j. take j runs) (let last = on.last in let same : k ≡ suc from = omega arith in same) ∙ take_next runs from on.held on.stands,
  left_joined runs k n v at from first place precede.are on,
)
split_left runs k n v at from first place precede (inr itself) = (
  [],
  ap (λ j. take j runs) (sym itself.behind) ∙ sym (append-nil (take from runs)),
  left_alone runs k n v at from first place precede itself,
)

split_right : (runs : List HeldRun) (k n v at to end : ℕ) → AreHeldRuns runs
    → ((j : ℕ) (held : HeldRun) → k ≤ j → slice_get runs j ≡ Some held → BeginsPast n v held) → v < longest_file → at + 1 < 2 ^ 32 → IsEnd runs k n v at to end
    → (right : List HeldRun) × (drop k runs ≡ right ++ drop to runs) × RightEdge right (drop to runs) n v at end
split_right runs k n v at to end are past filed placed (inl on) = (
  on.held ∷ [],
  drop_next runs k on.held on.stands ∙ ap (λ j. on.held ∷ drop j runs) (let next = on.next in let same : suc k ≡ to = omega arith in same),
  right_joined runs k n v at to end are on,
)
split_right runs k n v at to end are past filed placed (inr itself) = (
  [],
  ap (λ j. drop j runs) (sym itself.before),
  right_alone runs k n v at to end are past filed placed itself,
)

module _ (runs : List HeldRun) (k n v at from to : ℕ) (joined : HeldRun) (first place end : ℕ) (puts : PutsIn runs k n v at from to joined first place end) where
  -- what the block joins, as the parts of the list
  on_joins : (left right : List HeldRun) × (runs ≡ (take from runs ++ left) ++ (right ++ drop to runs))
      × Joins (take from runs) left right (drop to runs) joined n v at first place end
  on_joins =
      let lefts = split_left runs k n v at from first place puts.precede puts.begin in
      let rights = split_right runs k n v at to end puts.precede.are puts.past puts.filed puts.placed puts.end_is in
      let same : runs ≡ (take from runs ++ lefts.0) ++ (rights.0 ++ drop to runs) =
      sym (take-append-drop k runs) ∙ ap (λ xs. xs ++ drop k runs) lefts.1 ∙ ap (λ xs. (take from runs ++ lefts.0) ++ xs) rights.1 in (
        lefts.0,
        rights.0,
        same,
        record {
          are = subst AreHeldRuns same puts.precede.are;
          on_left = lefts.2;
          on_right = rights.2;
          file = puts.file;
          begins = puts.begins;
          stands = puts.stands;
          ends =
              (let count = lefts.2.count in
              let behind = rights.2.count in
              let begins = puts.begins in
              let size = puts.count in
              omega arith);
        },
      )

  pub sound_in : AreHeldRuns (take from runs ++ joined ∷ drop to runs)
  sound_in = let on = on_joins in sound_joined (take from runs) on.0 on.1 (drop to runs) joined n v at first place end on.3

  pub adds_in : AddsOne runs n v at (take from runs ++ joined ∷ drop to runs)
  adds_in =
      let on = on_joins in
      subst (λ (old : List HeldRun). AddsOne old n v at (take from runs ++ joined ∷ drop to runs)) (sym on.2)
      (adds_joined (take from runs) on.0 on.1 (drop to runs) joined n v at first place end on.3)
