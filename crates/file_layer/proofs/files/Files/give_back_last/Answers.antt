-- What is given back lies at or past `from`, and where none does none is held there.
use Rattle.std.proofs.Common.{ℕ, ◌<◌, Option, MatchOption, refl, subst, arith}
use Rattle.block_map.specs.Map.{BlockMap, HoldsNoneFrom, IsLastHeld}
use Rattle.file_layer.proofs.files.Files.give_back_last.Goals as goal

-- the last block that a file holds, or that it holds none
abbrev IsFound : BlockMap → ℕ → Option (ℕ × ℕ) → Type 0
IsFound map n result = MatchOption result (HoldsNoneFrom map n 0) (λ found. IsLastHeld map n found.0 found.1)

pub give_back-requires-clause-stands : goal.give_back-requires-clause-stands
give_back-requires-clause-stands c =
    let last = subst (IsFound c.args.self.now.map c.args.file.0) c.in-Some.is c.last_held.ensures in
    (c.in-Some.field-0-1, last.stands)

pub returns-in_default-clause-none : goal.returns-in_default-clause-none
returns-in_default-clause-none c =
    let last = subst (IsFound c.args.self.now.map c.args.file.0) c.in-Some.is c.last_held.ensures in
    let before : c.in-Some.v < c.args.from = c.if-from-v.false in
    ((λ v behind. last.last v (omega (arith, before, behind))), refl, refl, refl)

pub returns-in_default-2-clause-none : goal.returns-in_default-2-clause-none
returns-in_default-2-clause-none c =
    let none = subst (IsFound c.args.self.now.map c.args.file.0) c.in_default.is c.last_held.ensures in
    ((λ v behind. none v (omega arith)), refl, refl, refl)
