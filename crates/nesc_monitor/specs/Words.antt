-- What the words of the command line say.
use Rattle.std.specs.Prelude.{ℕ, ◌&&◌, nat_le, if◌then◌else◌, List, [], ◌∷◌, codes, Option, Some, None}
use Rattle.std.specs.Str.{bytes_eq}
use Rattle.nesc_base.specs.Geometry.{least_blocks, most_blocks, least_slack, most_slack}
use Rattle.text_kit.specs.Number.{number_of}
use Rattle.nesc_monitor.specs.declared.words.Command.{Command}
use Rattle.nesc_monitor.specs.declared.words.Command.TheVariants.{Run, Make}

-- the number that the word writes, if it is one between these two
abbrev pub between : ℕ → ℕ → Option ℕ → Option ℕ
between least most None = None
between least most (Some n) = if nat_le least n && nat_le n most then Some n else None

abbrev pub make_with : Option ℕ → Option ℕ → Option Command
make_with (Some blocks) (Some slack) = Some (Make (record { version = 1; blocks = blocks; slack = slack }))
make_with blocks slack = None

-- an image of so many data blocks, with so much slack
abbrev pub make_of : List ℕ → List ℕ → Option Command
make_of blocks slack =
    make_with (between least_blocks most_blocks (number_of blocks)) (between least_slack most_slack (number_of slack))

-- the slack where the words do not say it: the least
abbrev pub default_slack : List ℕ
default_slack = codes "64"

-- `run`, or `make --blocks N`, or `make --blocks N --slack S`; without `--slack` the slack is the least
abbrev pub command_of : List (List ℕ) → Option Command
command_of (name ∷ []) = if bytes_eq name (codes "run") then Some Run else None
command_of (name ∷ key ∷ blocks ∷ []) =
    if bytes_eq name (codes "make") && bytes_eq key (codes "--blocks") then make_of blocks default_slack else None
command_of (name ∷ key ∷ blocks ∷ other ∷ slack ∷ []) =
    if bytes_eq name (codes "make") && bytes_eq key (codes "--blocks") && bytes_eq other (codes "--slack")
    then make_of blocks slack else None
command_of words = None
