-- An image opens in one way.
use Rattle.std.proofs.Common.{◌≡◌, List, ap, subst}
use Rattle.nesc_base.specs.declared.block.Block.{Block}
use Rattle.nesc_base.specs.declared.geometry.Geometry.{Geometry}
use Rattle.nesc_base.specs.Files.{Files}
use Rattle.nesc_base.specs.Places.{Places}
use Rattle.image_layout.specs.Opens.{AreFiles, ArePlaces, Opens, Says}
use Rattle.image_layout.specs.Laws.{OpensOnce}
use Rattle.image_layout.proofs.OneFiles.{one_files, one_places}
use Rattle.image_layout.proofs.OneParts.{Said, same_mapped, single_of}

-- what it says where it opens
abbrev said_by : (image : List Block) (geometry : Geometry) (files : Files) (places : Places) (opens : Opens image geometry files places)
    → Says image geometry opens.laid opens.has.entries opens.has.owners
said_by image geometry files places opens = record { divided = opens.divided; lays = opens.lays; parts = opens.has.parts }

-- so it opens in one way
pub opens_once : (image : List Block) → OpensOnce image
opens_once image one other files others places elsewhere first second =
    let said : ◌≡◌ {A = Said} (one, first.laid, first.has.entries, first.has.owners) (other, second.laid, second.has.entries, second.has.owners) =
    same_mapped image (single_of image one _ _ _ (said_by image one files places first)).from (single_of image other _ _ _ (said_by image other others elsewhere second)).from in
    let are_files : AreFiles other second.laid second.has.entries second.has.owners files =
    subst (λ (r : Said). AreFiles r.0 r.1 r.2 r.3 files) said first.has.are_files in
    let same : files ≡ others = one_files other second.laid second.has.entries second.has.owners files others are_files second.has.are_files in
    let are_places : ArePlaces other second.has.owners others places =
    subst (λ (f : Files). ArePlaces other second.has.owners f places) same (subst (λ (r : Said). ArePlaces r.0 r.3 files places) said first.has.are_places) in (
      ap (λ (r : Said). r.0) said,
      same,
      one_places other second.has.owners others places elsewhere are_places second.has.are_places,
    )
