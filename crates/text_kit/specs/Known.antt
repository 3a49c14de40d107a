-- What becomes of the bytes that a sink has taken, where it tells them.
use Rattle.std.specs.Prelude.{◌≡◌, ℕ, ◌≤◌, ◌++◌, List, length, take, Option, Some, None, option_map}

-- so many first bytes of the text came behind them
abbrev pub AppendsPrefix : Option (List ℕ) → Option (List ℕ) → List ℕ → Type 0
AppendsPrefix None new text = Unit {0}
AppendsPrefix (Some old) new text = (n : ℕ) × (n ≤ length text) × (new ≡ Some (old ++ take n text))

-- they stay the same
abbrev pub Keeps : Option (List ℕ) → Option (List ℕ) → Type 0
Keeps None new = Unit {0}
Keeps (Some old) new = new ≡ Some old

-- they, and then these
abbrev pub followed_by : Option (List ℕ) → List ℕ → Option (List ℕ)
followed_by known more = option_map (λ bytes. bytes ++ more) known
