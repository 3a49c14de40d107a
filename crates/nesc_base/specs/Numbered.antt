-- The map that has the items of a list by their numbers.
use Rattle.std.specs.Prelude.{ℕ, suc, List, [], ◌∷◌, Option, Some, None}
use Rattle.std.specs.FinMap.{FinMap, empty, insert}
use Rattle.std.specs.Ordering.{nat_cmp}

-- f of each item that there is, by its number, the first of number n
abbrev pub map_from : {X Y : Type 0} → (ℕ → X → Y) → ℕ → List (Option X) → FinMap nat_cmp Y
map_from f n [] = empty
map_from f n (None ∷ xs) = map_from f (suc n) xs
map_from f n (Some x ∷ xs) = insert (map_from f (suc n) xs) n (f n x)
