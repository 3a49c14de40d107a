-- What is read of a source.
use Rattle.std.specs.Prelude.{◌≡◌, ℕ, ◌+◌, ◌<◌, ◌≤◌, ◌++◌, List, [], drop, length, Option, Some, None}
use Rattle.script_lang.specs.Limits.{most_bytes}

-- where the source tells what it has left: that was the text, and nothing is left
abbrev pub GivesAll : List ℕ → Option (List ℕ) → Option (List ℕ) → Type 0
GivesAll text None new = Unit {0}
GivesAll text (Some bytes) new = (text ≡ bytes) × (new ≡ Some [])

-- the source tells what it has left
abbrev pub Tells : Option (List ℕ) → Type 0
Tells None = ⊥
Tells (Some bytes) = Unit {0}

-- where the source tells what it has left: that was no more than a text may have, and nothing is left
abbrev pub GivesWhole : Option (List ℕ) → Option (List ℕ) → Type 0
GivesWhole None new = Unit {0}
GivesWhole (Some bytes) new = (length bytes ≤ most_bytes) × (new ≡ Some [])

-- where the source tells what it has left: that was more than a text may have
abbrev pub GivesTooMany : Option (List ℕ) → Type 0
GivesTooMany None = Unit {0}
GivesTooMany (Some bytes) = most_bytes < length bytes

-- where the source tells what it has left: these bytes of it were given so far
abbrev pub GivesFront : List ℕ → Option (List ℕ) → Option (List ℕ) → Type 0
GivesFront front None new = Unit {0}
GivesFront front (Some bytes) new = (rest : List ℕ) × (bytes ≡ front ++ rest) × (new ≡ Some rest)

-- where the source tells what it has left: of that only the front was taken, at most one byte more than a text may have
abbrev pub TakesFront : Option (List ℕ) → Option (List ℕ) → Type 0
TakesFront None new = Unit {0}
TakesFront (Some bytes) new = (n : ℕ) × (n ≤ most_bytes + 1) × (new ≡ Some (drop n bytes))
