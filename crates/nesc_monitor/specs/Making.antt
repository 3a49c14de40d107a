-- What the command `make` comes to.
use Rattle.std.specs.Prelude.{◌≡◌, ℕ, ◌<◌, ◌≤◌, true, List, ◌++◌, codes}
use Rattle.std.specs.Fmt.{decimal}
use Rattle.nesc_base.specs.declared.geometry.Geometry.{Geometry}
use Rattle.nesc_base.specs.Disk.{IsSettled, Known, Unchanged}
use Rattle.nesc_base.specs.Fault.{Rose}
use Rattle.nesc_base.specs.Geometry.{total}
use Rattle.nesc_base.specs.Sink.{Appends}
use Rattle.image_layout.specs.declared.fault.ImageFault.TheVariants.{BadSize}
use Rattle.image_tools.specs.Make.{OpensAsNew, made}
use Rattle.text_kit.specs.Known.{AppendsPrefix}
use Rattle.nesc_monitor.specs.Watched.{HasFailed, Watched}
use Rattle.nesc_monitor.specs.declared.ending.Ending.{Ending}
use Rattle.nesc_monitor.specs.declared.ending.Ending.TheVariants.{Done, Image, Device, Write}

-- how many blocks the image has
abbrev pub made_text : Geometry → List ℕ
made_text geometry = codes "made " ++ decimal (total geometry) ++ codes "\n"

-- the image was made, and a stop leaves it alone
pub record IsMade (geometry : Geometry) (old new : Known) : Type 0 where
  pub enough : total geometry ≤ old.size
  pub contents : old.tells ≡ true → new.contents ≡ made geometry old.contents
  pub opens : old.tells ≡ true → OpensAsNew geometry new.contents
  pub settled : old.tells ≡ true → IsSettled new

abbrev pub ComesOfMake : Ending → Geometry → Known → Known → Watched → Type 0
ComesOfMake Done geometry old new out = IsMade geometry old new × Appends out.before out.after (made_text geometry)
ComesOfMake (Image (BadSize block)) geometry old new out =
    (old.size < total geometry) × (block ≡ old.size) × Unchanged old new × (out.after ≡ out.before)
ComesOfMake Device geometry old new out =
    (total geometry ≤ old.size) × Rose old.faults new.faults × (out.after ≡ out.before)
ComesOfMake Write geometry old new out =
    IsMade geometry old new × HasFailed out × AppendsPrefix out.before out.after (made_text geometry)
ComesOfMake other geometry old new out = ⊥
