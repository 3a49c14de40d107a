-- What a command of the program comes to, and what it says of it.
use Rattle.std.specs.Prelude.{◌≡◌, ◌⊎◌, ℕ, ◌++◌, List, [], codes, Option, Some, None}
use Rattle.std.specs.Fmt.{decimal}
use Rattle.nesc_base.specs.declared.geometry.Geometry.{Geometry}
use Rattle.nesc_base.specs.Disk.{Known, LeavesSince}
use Rattle.image_layout.specs.declared.fault.ImageFault.{ImageFault}
use Rattle.image_layout.specs.declared.fault.ImageFault.TheVariants.{BadSuper, BadSize, BadList}
use Rattle.image_layout.specs.declared.fault.ImageFault.TheVariants.{BadTable, BadOwner, TwiceOwned}
use Rattle.image_tools.specs.Make.{OpensWhereMade}
use Rattle.nesc_monitor.specs.Inputs.{input_line}
use Rattle.nesc_monitor.specs.Making.{ComesOfMake}
use Rattle.nesc_monitor.specs.Running.{ComesOfRun}
use Rattle.nesc_monitor.specs.Watched.{HasTakenNothing, IsDiskUntouched, IsOnlyRead, IsUntouched, Watched, WatchedDisk}
use Rattle.nesc_monitor.specs.declared.words.Command.{Command}
use Rattle.nesc_monitor.specs.declared.words.Command.TheVariants.{Run, Make}
use Rattle.nesc_monitor.specs.declared.ending.Ending.{Ending}
use Rattle.nesc_monitor.specs.declared.ending.Ending.TheVariants as ending
use Rattle.nesc_monitor.specs.declared.ending.Status.{Status}
use Rattle.nesc_monitor.specs.declared.ending.Status.TheVariants.{Done, Words, Memory, Input}
use Rattle.nesc_monitor.specs.declared.ending.Status.TheVariants.{Image, Device, Read, Write}

-- the exit status
abbrev pub code_of : Status → ℕ
code_of Done = 0
code_of Words = 2
code_of Memory = 3
code_of Input = 4
code_of Image = 5
code_of Device = 6
code_of Read = 7
code_of Write = 8

abbrev pub status_of : Ending → Status
status_of ending.Done = Done
status_of ending.Words = Words
status_of ending.Memory = Memory
status_of (ending.Commands fault) = Input
status_of (ending.Schedule fault) = Input
status_of (ending.Image fault) = Image
status_of ending.Device = Device
status_of ending.Read = Read
status_of ending.Write = Write

-- why an image is refused, with its place
abbrev pub fault_line : ImageFault → List ℕ
fault_line (BadSuper block) = codes "super " ++ decimal block ++ codes "\n"
fault_line (BadSize block) = codes "size " ++ decimal block ++ codes "\n"
fault_line (BadList block) = codes "list " ++ decimal block ++ codes "\n"
fault_line (BadTable block) = codes "table " ++ decimal block ++ codes "\n"
fault_line (BadOwner block) = codes "owner " ++ decimal block ++ codes "\n"
fault_line (TwiceOwned file v) = codes "twice " ++ (decimal file.0 ++ (codes " " ++ (decimal v ++ codes "\n")))

-- what stands on standard error
abbrev pub error_line : Ending → List ℕ
error_line ending.Done = []
error_line ending.Words = codes "nesc: words\n"
error_line ending.Memory = codes "nesc: memory\n"
error_line (ending.Commands fault) = input_line (codes "commands") fault
error_line (ending.Schedule fault) = input_line (codes "schedule") fault
error_line (ending.Image fault) = codes "nesc: image " ++ fault_line fault
error_line ending.Device = codes "nesc: device\n"
error_line ending.Read = codes "nesc: read\n"
error_line ending.Write = codes "nesc: write\n"

-- What an ending says, by the command that the words are: of the two sources, of the image and of the sink.
abbrev pub Comes : Ending → Option Command → Watched → Watched → WatchedDisk → Watched → Type 0
Comes outcome None commands schedule image out = (outcome ≡ ending.Words) × IsUntouched commands × IsUntouched schedule
    × IsOnlyRead image × IsDiskUntouched image × IsUntouched out
Comes outcome (Some Run) commands schedule image out = ComesOfRun outcome commands schedule image out
Comes outcome (Some (Make geometry)) commands schedule image out =
    IsUntouched commands × IsUntouched schedule × ComesOfMake outcome geometry image.before image.after out

-- a stop leaves what it left before
abbrev pub LeavesAsBefore : Known → Known → Type 0
LeavesAsBefore old new = LeavesSince (λ _. old.left old.clock) old new

-- a stop leaves an image whose block 0 is as before, or that opens with no files where it has the superblock
abbrev pub LeavesMade : Geometry → Known → Known → Type 0
LeavesMade geometry old new = LeavesSince (λ _. OpensWhereMade geometry old) old new

-- so it is while an image is made, and where there is no command a stop leaves what it left before
abbrev pub AtAnyMoment : Option Command → Known → Known → Type 0
AtAnyMoment None old new = LeavesAsBefore old new
AtAnyMoment (Some Run) old new = Unit {0}
AtAnyMoment (Some (Make geometry)) old new = LeavesMade geometry old new

-- Statuses

-- it was carried out to its end, or there was no memory and the sink took nothing
abbrev pub IsCarriedOut : Status → Watched → Type 0
IsCarriedOut Done out = Unit {0}
IsCarriedOut Memory out = HasTakenNothing out
IsCarriedOut status out = ⊥

-- a text was refused, or there was no memory
abbrev pub IsInputRefused : Status → Type 0
IsInputRefused status = (status ≡ Input) ⊎ (status ≡ Memory)

-- the image was refused, or there was no memory
abbrev pub IsImageRefused : Status → Type 0
IsImageRefused status = (status ≡ Image) ⊎ (status ≡ Memory)

-- it comes before anything goes out
abbrev pub IsEarly : Status → Type 0
IsEarly Words = Unit {0}
IsEarly Memory = Unit {0}
IsEarly Input = Unit {0}
IsEarly Read = Unit {0}
IsEarly status = ⊥

-- it comes once both texts are accepted
abbrev pub IsPastTexts : Status → Type 0
IsPastTexts Done = Unit {0}
IsPastTexts Image = Unit {0}
IsPastTexts Device = Unit {0}
IsPastTexts Write = Unit {0}
IsPastTexts status = ⊥

-- a text was refused, or could not be read
abbrev pub IsOfTexts : Status → Type 0
IsOfTexts Input = Unit {0}
IsOfTexts Read = Unit {0}
IsOfTexts status = ⊥

-- the command `make` may come to it
abbrev pub IsOfMake : Status → Type 0
IsOfMake Done = Unit {0}
IsOfMake Image = Unit {0}
IsOfMake Device = Unit {0}
IsOfMake Write = Unit {0}
IsOfMake status = ⊥
