-- Laws of the definitions.
use Rattle.std.specs.Prelude.{◌≡◌, List, Option}
use Rattle.nesc_base.specs.declared.block.Block.{Block}
use Rattle.nesc_base.specs.declared.geometry.Geometry.{Geometry}
use Rattle.nesc_base.specs.Files.{Files, IsFileSet}
use Rattle.nesc_base.specs.Places.{AreApart, Owner, Places}
use Rattle.image_layout.specs.declared.fault.ImageFault.{ImageFault}
use Rattle.image_layout.specs.declared.table.TableEntry.{TableEntry}
use Rattle.image_layout.specs.Opens.{HasFiles, IsDivided, Opens, Says}
use Rattle.image_layout.specs.Refusal.{HasNoFiles, IsRefused}
use Rattle.slot_layout.specs.Slots.{AreAlike, AreClosed, StandsFor}

-- the image opens as one division, one set of files and one set of places, if as any
abbrev pub OpensOnce : List Block → Type 0
OpensOnce image =
    (one other : Geometry) (files others : Files) (places elsewhere : Places) → Opens image one files places
    → Opens image other others elsewhere
    → (one ≡ other) × (files ≡ others) × (places ≡ elsewhere)

-- what it says part by part opens as some files
abbrev pub OpensAsSaid : List Block → Type 0
OpensAsSaid image =
    (geometry : Geometry) (laid : List Block) (entries : List (Option TableEntry)) (owners : List (Option Owner)) →
    Says image geometry laid entries owners
    → (files : Files) × (places : Places) × Opens image geometry files places

-- the files as which an image opens are as files may be, and no two of their blocks stand at one place
abbrev pub OpensAsFileSet : List Block → Type 0
OpensAsFileSet image = (geometry : Geometry) (files : Files) (places : Places) → Opens image geometry files places
    → IsFileSet files × AreApart places

-- where all gates are closed an opening sees nothing of the slots: images that are alike beside them open alike
abbrev pub OpensBesideSlots : List Block → List Block → Type 0
OpensBesideSlots one other =
    (geometry : Geometry) (files : Files) (places : Places) → AreClosed geometry one → AreClosed geometry other
    → AreAlike geometry one other
    → Opens one geometry files places → Opens other geometry files places

-- blocks that are laid over and alike beside the slots have the same files, or none for the same cause
abbrev pub HasFilesBesideSlots : List Block → List Block → Type 0
HasFilesBesideSlots one other =
    (geometry : Geometry) (files : Files) (places : Places) → AreAlike geometry one other
    → HasFiles geometry one files places → HasFiles geometry other files places

abbrev pub HasNoFilesBesideSlots : List Block → List Block → Type 0
HasNoFilesBesideSlots one other = (geometry : Geometry) (fault : ImageFault) → AreAlike geometry one other
    → HasNoFiles geometry one fault → HasNoFiles geometry other fault

-- an image opens as the blocks do that it stands for, or is refused for the cause for which they have no files
abbrev pub OpensAsItStands : List Block → List Block → Type 0
OpensAsItStands image blocks =
    (geometry : Geometry) (files : Files) (places : Places) → AreClosed geometry blocks
    → StandsFor geometry image blocks
    → Opens blocks geometry files places → Opens image geometry files places

abbrev pub IsRefusedAsItStands : List Block → List Block → Type 0
IsRefusedAsItStands image blocks =
    (geometry : Geometry) (fault : ImageFault) → IsDivided image geometry → StandsFor geometry image blocks
    → HasNoFiles geometry blocks fault → IsRefused image fault

-- what an image stands for is divided as it is
abbrev pub IsDividedAsItStands : List Block → List Block → Type 0
IsDividedAsItStands image blocks = (geometry : Geometry) → StandsFor geometry image blocks → IsDivided image geometry
    → IsDivided blocks geometry

-- where all gates are closed, an image that is divided opens as the files that its own blocks have
abbrev pub OpensAlone : List Block → Type 0
OpensAlone image =
    (geometry : Geometry) (files : Files) (places : Places) → AreClosed geometry image → IsDivided image geometry
    → HasFiles geometry image files places
    → Opens image geometry files places

-- an image that is refused opens as nothing, and is refused for one cause
abbrev pub OpensAsNothing : List Block → Type 0
OpensAsNothing image =
    (fault : ImageFault) → IsRefused image fault
    → ((geometry : Geometry) (files : Files) (places : Places) → ¬ Opens image geometry files places)
    × ((other : ImageFault) → IsRefused image other → other ≡ fault)
