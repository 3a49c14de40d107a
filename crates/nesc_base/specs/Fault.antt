-- When a thing of the outside may say that it failed.
use Rattle.std.specs.Prelude.{ℕ, ◌+◌, ◌≤◌, ◌⊎◌}
use Rattle.nesc_base.specs.Count.{count_end}

-- The count rose by so much or more, or stands where it can rise no more. Over several calls these add up.
abbrev pub RoseBy : ℕ → ℕ → ℕ → Type 0
RoseBy n before after = (before + n ≤ after) ⊎ (count_end ≤ after)

-- it rose
abbrev pub Rose : ℕ → ℕ → Type 0
Rose = RoseBy 1

-- the count never falls, and a failure is told only where it rose
pub record HasCause (before after : ℕ) (failed : Type 0) : Type 0 where
  pub never_falls : before ≤ after
  pub rose : failed → Rose before after
