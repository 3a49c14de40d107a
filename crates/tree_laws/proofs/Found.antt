-- What there is to be found of a block.
use Rattle.std.proofs.Common.{◌≡◌, ◌⊎◌, inl, inr, ℕ, zero, suc, ◌+◌, ◌-◌, ◌<◌, List, [], ◌∷◌, refl, sym, arith, subst}
use Rattle.std.proofs.lemmas.Bool.{cases_lt}
use Rattle.std.proofs.lemmas.Option.{none-some, same_Some}
use Rattle.nesc_base.specs.Runs.{IsIn}
use Rattle.nesc_base.specs.declared.runs.Run.{Run}
use Rattle.tree_walker.specs.declared.found.Found.{Found}
use Rattle.tree_walker.specs.declared.found.Found.TheVariants.{Hole, Mapped, Pruned}
use Rattle.tree_laws.specs.Laws.{FindsSomething}
use Rattle.tree_laws.specs.Paths.{Finds, HasNoRun, HasRun}

in_run : (run : Run) (v : ℕ) → ((at : ℕ) × IsIn run v at) ⊎ ((at : ℕ) → ¬ IsIn run v at)
in_run run v = elim (cases_lt v run.first) [
  | inl less ↦ inr (λ at isin. let from = isin.from in omega arith)
  | inr from ↦ elim (cases_lt v (run.first + run.count)) [
    | inl below ↦ inl (run.place + (v - run.first), record { from = from; below = below; place = refl })
    | inr past ↦ inr (λ at isin. let below = isin.below in omega arith)
  ]
]

none_first : (run : Run) (runs : List Run) (v : ℕ) → ((at : ℕ) → ¬ IsIn run v at) → HasNoRun runs v → HasNoRun (run ∷ runs) v
none_first run runs v not none zero one at is isin =
    not at (subst (λ (r : Run). IsIn r v at) (sym (same_Some run one is)) isin)
none_first run runs v not none (suc j) one at is isin = none j one at is isin

-- a block stands in a run, or in none
pub run_or_none : (runs : List Run) (v : ℕ) → ((run : Run) × HasRun runs v run) ⊎ HasNoRun runs v
run_or_none [] v = inr (λ j run at is isin. absurd (none-some run is))
run_or_none (run ∷ runs) v = elim (in_run run v) [
  | inl has ↦ inl (run, (0, has.0, refl, has.1))
  | inr not ↦ elim (run_or_none runs v) [
    | inl has ↦ inl (has.0, (suc has.1.0, has.1.1, has.1.2, has.1.3))
    | inr none ↦ inr (none_first run runs v not none)
  ]
]

pub finds_something : (runs : List Run) (v lacking : ℕ) → FindsSomething runs v lacking
finds_something runs v zero = elim (run_or_none runs v) [ inl has ↦ (Mapped has.0, has.1) | inr none ↦ (Hole, none) ]
finds_something runs v (suc lacking) = (Pruned, refl)

pub finds_pruned : (runs : List Run) (v lacking : ℕ) (found : Found) → 0 < lacking → Finds runs v lacking found → found ≡ Pruned
finds_pruned runs v zero found some finds = absurd (omega arith)
finds_pruned runs v (suc lacking) found some finds = finds
