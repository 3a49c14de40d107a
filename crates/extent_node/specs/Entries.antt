-- How many entries a node has.
use Rattle.std.specs.Prelude.{ℕ}

abbrev pub most_entries : ℕ
most_entries = 10
