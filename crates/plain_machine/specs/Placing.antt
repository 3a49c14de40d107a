-- Where the blocks of files stand, as steps go on. No answer depends on it; it decides what trees have to show.
use Rattle.std.specs.Prelude.{◌≡◌, ℕ, List, Option, Some, None}
use Rattle.nesc_base.specs.declared.runs.Area.{Area}
use Rattle.nesc_base.specs.Geometry.{area_from, total}
use Rattle.nesc_base.specs.declared.geometry.Geometry.{Geometry}
use Rattle.nesc_base.specs.Places.{Places}
use Rattle.nesc_requests.specs.declared.event.Event.{Event}
use Rattle.nesc_requests.specs.declared.event.Event.TheVariants.{Restart}
use Rattle.file_model.specs.Files.{Change}
use Rattle.file_model.specs.Places.{AreMoved}
use Rattle.plain_machine.specs.declared.outcome.Outcome.{Outcome}

-- the places of the blocks that the files hold now, and of those that they held when they were kept last
pub record Placed : Type 0 where
  pub now : Places
  pub kept : Places

-- those of an image that was opened
abbrev pub placed_at : Places → Placed
placed_at places = record { now = places; kept = places }

-- a commit, if there is one, keeps them
abbrev pub placed_by : Option ℕ → Placed → Placed
placed_by None placed = placed
placed_by (Some clock) placed = record { now = placed.now; kept = placed.now }

-- where data blocks stand
abbrev pub data_area : Geometry → Area
data_area geometry = record { from = area_from geometry; to = total geometry }

-- the changes of an event move them, and a commit that the event makes keeps them
pub record MovesPlaces (geometry : Geometry) (old : Placed) (changes : List Change) (after : Option ℕ)
    (new : Placed) : Type 0 where
  pub places : Places
  pub moves : AreMoved (data_area geometry) old.now changes places
  pub result : new ≡ placed_by after (record { now = places; kept = old.kept })

-- a restart goes back to those that were kept
abbrev pub PlacesAfter : Geometry → Placed → Event → List Change → Option ℕ → Placed → Type 0
PlacesAfter geometry old Restart changes after new = new ≡ placed_at old.kept
PlacesAfter geometry old event changes after new = MovesPlaces geometry old changes after new

-- so a step moves them; a commit may come before it
abbrev pub PlacesStep : Geometry → Placed → Event → List Change → Outcome → Placed → Type 0
PlacesStep geometry old event changes outcome new =
    PlacesAfter geometry (placed_by outcome.before old) event changes outcome.after new
