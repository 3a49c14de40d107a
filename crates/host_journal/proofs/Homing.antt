-- Blocks that are written home from the slots where they stand.
use Rattle.std.proofs.Common.{◌≡◌, ◌⊎◌, ℕ, ◌+◌, ◌-◌, ◌<◌, ◌≤◌, true, inl, inr, List, Result, Some, length, slice_get, sym, ap, ◌∙◌, subst, arith}
use Rattle.std.specs.Prelude.{IsErr, slice_index, slice_set}
use Rattle.std.proofs.lemmas.Bool.{cases_eq, cases_lt}
use Rattle.std.proofs.lemmas.Result.{IfOk-from_err}
use Rattle.nesc_base.specs.declared.block.Block.{Block}
use Rattle.nesc_base.specs.declared.disk.DiskFault.{DiskFault}
use Rattle.nesc_base.specs.declared.geometry.Geometry.{Geometry}
use Rattle.nesc_base.specs.Disk.{DiffersAt, Goes, Known, WritesAt, here}
use Rattle.nesc_base.specs.Fault.{HasCause}
use Rattle.nesc_base.specs.Geometry.{table_at}
use Rattle.nesc_base.proofs.Causes.{cause_on}
use Rattle.nesc_base.proofs.Differing.{same_by_places, slice_get-set_other, slice_get-set_same}
use Rattle.nesc_base.proofs.DiskCalls.{goes_itself, goes_on, unchanged_itself, writes_none, writes_on, writes_wider}
use Rattle.slot_layout.proofs.Alike.{LaidOver-below}
use Rattle.host_journal.proofs.Stretches.{LeftByNow}
use Rattle.host_journal.specs.Replays.{IsTarget}
use Rattle.host_journal.specs.Replaying.{AreLaid, AreSources, BringsHome, IsSourced, Reads}
use Rattle.host_journal.proofs.DiskReads.{HasRead}

-- Places with a source

pub sourced_or_not : (geometry : Geometry) (sources : List ℕ) (at : ℕ) → IsSourced geometry sources at ⊎ (¬ IsSourced geometry sources at)
sourced_or_not geometry sources at = elim (cases_lt at (table_at geometry)) [
  | inl below ↦ inr (λ is. let place = is.place in omega (arith, place, below))
  | inr from ↦ elim (cases_lt 0 (slice_index sources (at - table_at geometry))) [
    | inl some ↦ inl (record { index = at - table_at geometry; some = some; place = omega arith })
    | inr none ↦ inr (λ is.
        let same : is.index ≡ at - table_at geometry = (let place = is.place in omega (arith, place)) in
        let some = is.some in
        omega (arith, some, none, ap (slice_index sources) same))
  ]
]

-- a place below the table has none
pub low_unsourced : (geometry : Geometry) (sources : List ℕ) (at : ℕ) → at < table_at geometry → ¬ IsSourced geometry sources at
low_unsourced geometry sources at below is = let place = is.place in omega (arith, place, below)

-- an image that is torn there is torn at targets alone
pub torn_at_targets : (geometry : Geometry) (one other laid : List Block) (sources : List ℕ) → AreSources geometry one laid sources → DiffersAt (IsSourced geometry sources) one other
    → (at : ℕ) → (slice_get other at ≡ slice_get one at) ⊎ IsTarget geometry one at
torn_at_targets geometry one other laid sources stand differs at = elim (sourced_or_not geometry sources at) [
  | inl is ↦ inr (subst (IsTarget geometry one) (sym is.place) (stand.named is.index is.some))
  | inr none ↦ inl (differs.others at none)
]

-- with all of them home the image is as it is laid
pub home_is_laid : (geometry : Geometry) (one now : List Block) (n : ℕ) (sources : List ℕ) (so_far : AreLaid geometry one n sources) → DiffersAt (IsSourced geometry sources) one now
    → ((i : ℕ) → 1 ≤ slice_index sources i → slice_get now (table_at geometry + i) ≡ slice_get one (slice_index sources i)) → now ≡ so_far.laid
home_is_laid geometry one now n sources so_far differs home = same_by_places now so_far.laid (λ at. elim (sourced_or_not geometry sources at) [
  | inl is ↦
      ap (slice_get now) is.place ∙ home is.index is.some ∙ sym (so_far.stand.slots is.index is.some) ∙ ap (slice_get so_far.laid) (sym is.place)
  | inr none ↦ differs.others at none ∙ sym (elim (cases_lt at (table_at geometry)) [
    | inl below ↦ LaidOver-below geometry one n so_far.laid at so_far.over below
    | inr from ↦
        let i : ℕ = at - table_at geometry in
        let place : table_at geometry + i ≡ at = omega arith in
        let zero : slice_index sources i ≡ 0 = elim (cases_lt 0 (slice_index sources i)) [
          | inl some ↦ absurd (none (record { index = i; some = some; place = sym place }))
          | inr low ↦ omega arith
        ] in
        ap (slice_get so_far.laid) (sym place) ∙ so_far.stand.home i zero ∙ ap (slice_get one) place
  ])
])

-- The first of them

-- those for the first n places are home
pub record BringsSome (geometry : Geometry) (sources : List ℕ) (n : ℕ) (old now : Known) : Type 0 where
  pub goes : Goes old now
  pub home : old.tells ≡ true → (i : ℕ) → i < n → 1 ≤ slice_index sources i → slice_get now.contents (table_at geometry + i) ≡ slice_get old.contents (slice_index sources i)
  pub writes : WritesAt (IsSourced geometry sources) old now
  pub never_falls : old.faults ≤ now.faults

pub some_none : (geometry : Geometry) (sources : List ℕ) (old : Known) → LeftByNow old → BringsSome geometry sources 0 old old
some_none geometry sources old by_now = record {
  goes = goes_itself old;
  home = λ tells i below. absurd (omega arith);
  writes = writes_none (IsSourced geometry sources) old old by_now (unchanged_itself old);
  never_falls = omega arith;
}

-- a place that has none
pub some_skipped : (geometry : Geometry) (sources : List ℕ) (n next : ℕ) (old now : Known) → next ≡ n + 1 → slice_index sources n ≡ 0 → BringsSome geometry sources n old now → BringsSome geometry sources next old now
some_skipped geometry sources n next old now more none some = record {
  goes = some.goes;
  home = λ tells i below is. elim (cases_eq i n) [
    | inl same ↦ absurd (omega (arith, is, none, ap (slice_index sources) same))
    | inr apart ↦ some.home tells i (omega (arith, apart)) is
  ];
  writes = some.writes;
  never_falls = some.never_falls;
}

-- a read writes nothing
pub writes_read : (P : ℕ → Type 0) (a b c : Known) (failed : Type 0) → LeftByNow b → Goes a b → WritesAt P a b → Reads b c failed → WritesAt P a c
writes_read P a b c failed by_now goes writes reads = writes_on P a b c goes writes reads.goes (writes_none P b c by_now reads.unchanged)

-- a block that is written for the next place
pub record BringsOne (geometry : Geometry) (n source place : ℕ) (block : Block) (now read new : Known) : Type 0 where
  pub reads : HasRead now read
  pub there : now.tells ≡ true → slice_get now.contents source ≡ Some block
  pub goes : Goes read new
  pub writes : WritesAt (here place) read new
  pub never_falls : read.faults ≤ new.faults

-- whether or not its write fails nothing else was written
pub writes_one : (geometry : Geometry) (sources : List ℕ) (n source place : ℕ) (block : Block) (old now read new : Known) → LeftByNow now → 1 ≤ source → source ≡ slice_index sources n
    → place ≡ table_at geometry + n → BringsSome geometry sources n old now → BringsOne geometry n source place block now read new → WritesAt (IsSourced geometry sources) old new
writes_one geometry sources n source place block old now read new by_now some from at so_far one =
    let to_read : Goes old read = goes_on old now read so_far.goes one.reads.goes in
    let is : IsSourced geometry sources place = record { index = n; some = omega (arith, some, from); place = at } in
    writes_on (IsSourced geometry sources) old read new to_read (writes_read (IsSourced geometry sources) old now read ⊥ by_now so_far.goes so_far.writes one.reads) one.goes
    (writes_wider (here place) (IsSourced geometry sources) read new (λ other same. subst (IsSourced geometry sources) (sym same) is) one.writes)

pub some_more : (geometry : Geometry) (sources : List ℕ) (n next source place : ℕ) (block : Block) (old now read new : Known) → LeftByNow now → 1 ≤ source → source < table_at geometry
    → source ≡ slice_index sources n → place ≡ table_at geometry + n → next ≡ n + 1 → (old.tells ≡ true → place < length old.contents)
    → BringsSome geometry sources n old now → BringsOne geometry n source place block now read new
    → (read.tells ≡ true → new.contents ≡ slice_set read.contents place block) → BringsSome geometry sources next old new
some_more geometry sources n next source place block old now read new by_now some low from at more within so_far one written =
    let to_read : Goes old read = goes_on old now read so_far.goes one.reads.goes in
    record {
      goes = goes_on old read new to_read one.goes;
      home = λ tells i below is.
          let told : now.tells ≡ true = so_far.goes.still_tells ∙ tells in
          let put : new.contents ≡ slice_set now.contents place block = written (to_read.still_tells ∙ tells) ∙ ap (λ (blocks : List Block). slice_set blocks place block) (one.reads.unchanged.contents told) in
          let was : slice_get now.contents source ≡ slice_get old.contents source = (so_far.writes.contents tells).others source (low_unsourced geometry sources source low) in
          let long : length now.contents ≡ length old.contents = (so_far.writes.contents tells).whole in
          ap (λ (blocks : List Block). slice_get blocks (table_at geometry + i)) put ∙ elim (cases_eq i n) [
            | inl same ↦
                let here_at : table_at geometry + i ≡ place = omega (arith, same, at) in
                let here_from : slice_index sources i ≡ source = ap (slice_index sources) same ∙ sym from in
                ap (slice_get (slice_set now.contents place block)) here_at ∙ slice_get-set_same now.contents place block (omega (arith, within tells, long))
                ∙ sym (one.there told) ∙ was ∙ ap (slice_get old.contents) (sym here_from)
            | inr apart ↦
                slice_get-set_other now.contents place (table_at geometry + i) block (λ same. apart (omega (arith, same, at)))
                ∙ so_far.home tells i (omega (arith, apart)) is
          ];
      writes = writes_one geometry sources n source place block old now read new by_now some from at so_far one;
      never_falls = omega (arith, so_far.never_falls, one.reads.cause.never_falls, one.never_falls);
    }

-- Where it fails, and where all went well

pub brings_failed : (geometry : Geometry) (sources : List ℕ) (old now new : Known) (failed : Type 0) (result : Result (Unit {0}) DiskFault) → IsErr result → failed → Goes old new
    → WritesAt (IsSourced geometry sources) old new → old.faults ≤ now.faults → HasCause now.faults new.faults failed → BringsHome geometry sources old new result
brings_failed geometry sources old now new failed result is told goes writes before cause = record {
  goes = goes;
  home = λ tells. IfOk-from_err result _ is;
  writes = writes;
  cause = cause_on old.faults now.faults new.faults (IsErr result) before (record { never_falls = cause.never_falls; rose = λ _. cause.rose told });
}
