-- Runs in order, as parts of a list one behind the other.
use Rattle.std.proofs.Common.{◌≡◌, ◌⊎◌, inl, inr, ℕ, suc, ◌+◌, ◌≤◌, List, [], ◌∷◌, ◌++◌, length, slice_get, Some, refl, sym, subst, arith}
use Rattle.std.proofs.lemmas.List.Sums.{sum_by-cons}
use Rattle.std.proofs.lemmas.Option.{none-some, slice_get_within}
use Rattle.nesc_base.specs.Runs.{IsIn, IsRun}
use Rattle.block_map.specs.declared.held_runs.HeldRun.{HeldRun}
use Rattle.block_map.specs.Runs.{AreHeldRuns, IsAmong, IsBefore, blocks_in}
use Rattle.block_map.proofs.Parts.{alone, at_append, at_left, at_right}

-- each of the one list stands before each of the other
abbrev pub AllBefore : List HeldRun → List HeldRun → Type 0
AllBefore fronts backs = (j k : ℕ) (one next : HeldRun) → slice_get fronts j ≡ Some one → slice_get backs k ≡ Some next → IsBefore one next

-- block w of file m stands at this place, as one of the run
abbrev pub Holds : HeldRun → ℕ → ℕ → ℕ → Type 0
Holds held m w place = (held.file.0 ≡ m) × IsIn held.run w place

pub runs_join : (xs ys : List HeldRun) → AreHeldRuns xs → AreHeldRuns ys → AllBefore xs ys → AreHeldRuns (xs ++ ys)
runs_join xs ys are others before = record {
  each = λ k held stands. elim (at_append xs ys k held stands) [ inl here ↦ are.each k held here | inr behind ↦ others.each behind.0 held behind.2 ];
  rising = λ j k one next less first second. elim (at_append xs ys j one first) [
    | inl here ↦ elim (at_append xs ys k next second) [
      | inl there ↦ are.rising j k one next less here there
      | inr behind ↦ before j behind.0 one next here behind.2
    ]
    | inr behind ↦ elim (at_append xs ys k next second) [
      | inl there ↦ absurd (let short = slice_get_within xs k next there in let place = behind.1 in omega arith)
      | inr further ↦ others.rising behind.0 further.0 one next (let place = behind.1 in let other = further.1 in omega arith) behind.2 further.2
    ]
  ];
}

pub runs_front : (xs ys : List HeldRun) → AreHeldRuns (xs ++ ys) → AreHeldRuns xs
runs_front xs ys are = record {
  each = λ k held stands. are.each k held (at_left xs ys k held stands);
  rising = λ j k one next less first second. are.rising j k one next less (at_left xs ys j one first) (at_left xs ys k next second);
}

pub runs_back : (xs ys : List HeldRun) → AreHeldRuns (xs ++ ys) → AreHeldRuns ys
runs_back xs ys are = record {
  each = λ k held stands. are.each (length xs + k) held (at_right xs ys k (length xs + k) held refl stands);
  rising = λ j k one next less first second. are.rising (length xs + j) (length xs + k) one next (omega arith)
      (at_right xs ys j (length xs + j) one refl first) (at_right xs ys k (length xs + k) next refl second);
}

pub runs_apart : (xs ys : List HeldRun) → AreHeldRuns (xs ++ ys) → AllBefore xs ys
runs_apart xs ys are j k one next first second =
    let short = slice_get_within xs j one first in
    are.rising j (length xs + k) one next (omega arith) (at_left xs ys j one first) (at_right xs ys k (length xs + k) next refl second)

pub runs_none : AreHeldRuns []
runs_none = record { each = λ k held stands. absurd (none-some held stands); rising = λ j k one next less first second. absurd (none-some one first) }

pub runs_alone : (held : HeldRun) → IsRun held.run → AreHeldRuns (held ∷ [])
runs_alone held is = record {
  each = λ k other stands. subst (λ (h : HeldRun). IsRun h.run) (alone held other k stands) is;
  rising = λ j k one next less first second. absurd (let short = slice_get_within (held ∷ []) k next second in omega arith);
}

-- a list before two, one behind the other
pub append_before : (xs ys zs : List HeldRun) → AllBefore xs ys → AllBefore xs zs → AllBefore xs (ys ++ zs)
append_before xs ys zs first second j k one next stands there = elim (at_append ys zs k next there) [
  | inl here ↦ first j k one next stands here
  | inr behind ↦ second j behind.0 one next stands behind.2
]

-- Blocks of lists one behind the other

pub among_append : (xs ys : List HeldRun) (m w place : ℕ) → IsAmong (xs ++ ys) m w place → IsAmong xs m w place ⊎ IsAmong ys m w place
among_append xs ys m w place among = elim (at_append xs ys among.k among.held among.stands) [
  | inl here ↦ inl (record { k = among.k; held = among.held; stands = here; file = among.file; within = among.within })
  | inr behind ↦ inr (record { k = behind.0; held = among.held; stands = behind.2; file = among.file; within = among.within })
]

pub among_left : (xs ys : List HeldRun) (m w place : ℕ) → IsAmong xs m w place → IsAmong (xs ++ ys) m w place
among_left xs ys m w place among = record { k = among.k; held = among.held; stands = at_left xs ys among.k among.held among.stands; file = among.file; within = among.within }

pub among_right : (xs ys : List HeldRun) (m w place : ℕ) → IsAmong ys m w place → IsAmong (xs ++ ys) m w place
among_right xs ys m w place among = record {
  k = length xs + among.k;
  held = among.held;
  stands = at_right xs ys among.k (length xs + among.k) among.held refl among.stands;
  file = among.file;
  within = among.within;
}

pub none_among : (m w place : ℕ) → ¬ IsAmong [] m w place
none_among m w place among = none-some among.held among.stands

pub among_alone : (held : HeldRun) (m w place : ℕ) → IsAmong (held ∷ []) m w place → Holds held m w place
among_alone held m w place among = subst (λ (h : HeldRun). Holds h m w place) (sym (alone held among.held among.k among.stands)) (among.file, among.within)

pub alone_among : (held : HeldRun) (m w place : ℕ) → Holds held m w place → IsAmong (held ∷ []) m w place
alone_among held m w place holds = record { k = 0; held = held; stands = refl; file = holds.0; within = holds.1 }

-- Counts

-- a list has at most as many runs as they have blocks
pub length_within : (runs : List HeldRun) → ((k : ℕ) (held : HeldRun) → slice_get runs k ≡ Some held → IsRun held.run) → length runs ≤ blocks_in runs
length_within [] each = omega arith
length_within (held ∷ runs) each =
    let rest = length_within runs (λ k other stands. each (suc k) other stands) in
    let some = (each 0 held refl).some in
    let more = sum_by-cons (λ (h : HeldRun). h.run.count) held runs in
    omega arith
