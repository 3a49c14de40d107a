-- What the spelling of a superblock reads as.
use Rattle.std.proofs.Common.{◌≡◌, ℕ, ◌<◌, [], drop, ap, ◌∙◌, arith}
use Rattle.byteorder.specs.Endian.{little_number}
use Rattle.byteorder.specs.Numbers.{little_number-reads_back}
use Rattle.nesc_base.specs.declared.block.Block.{Block}
use Rattle.nesc_base.specs.declared.geometry.Geometry.{Geometry}
use Rattle.nesc_base.specs.Geometry.{IsGeometry}
use Rattle.image_layout.specs.Super.{IsSuperblock, superblock}

version-superblock : (geometry : Geometry) → geometry.version < 4294967296 → little_number 4 (drop 8 (superblock geometry).0) ≡ geometry.version
unfolding superblock
version-superblock geometry fits = little_number-reads_back 4 geometry.version [] fits

blocks-superblock : (geometry : Geometry) → geometry.blocks < 4294967296 → little_number 4 (drop 12 (superblock geometry).0) ≡ geometry.blocks
unfolding superblock
blocks-superblock geometry fits = little_number-reads_back 4 geometry.blocks [] fits

slack-superblock : (geometry : Geometry) → geometry.slack < 4294967296 → little_number 4 (drop 16 (superblock geometry).0) ≡ geometry.slack
unfolding superblock
slack-superblock geometry fits = little_number-reads_back 4 geometry.slack [] fits

same_sizes : (a b : Geometry) → a.version ≡ b.version → a.blocks ≡ b.blocks → a.slack ≡ b.slack → a ≡ b
same_sizes a b version blocks slack =
    let sizes : ℕ → ℕ → ℕ → Geometry = λ v n s. record { version = v; blocks = n; slack = s } in
    ap (λ v. sizes v a.blocks a.slack) version ∙ ap (λ n. sizes b.version n a.slack) blocks ∙ ap (λ s. sizes b.version b.blocks s) slack

-- the sizes that stand in a superblock are those of its image
pub sizes-superblock : (block : Block) (geometry found : Geometry) → IsSuperblock block geometry
    → found.version ≡ little_number 4 (drop 8 block.0) → found.blocks ≡ little_number 4 (drop 12 block.0) → found.slack ≡ little_number 4 (drop 16 block.0)
    → found ≡ geometry
sizes-superblock block geometry found is version blocks slack =
    let sizes : IsGeometry geometry = is.sizes in
    let version_is : found.version ≡ geometry.version = version ∙ ap (λ (b : Block). little_number 4 (drop 8 b.0)) is.spelling ∙ version-superblock geometry (omega (arith, sizes.version)) in
    let blocks_are : found.blocks ≡ geometry.blocks = blocks ∙ ap (λ (b : Block). little_number 4 (drop 12 b.0)) is.spelling ∙ blocks-superblock geometry (omega (arith, sizes.few_blocks)) in
    let slack_is : found.slack ≡ geometry.slack = slack ∙ ap (λ (b : Block). little_number 4 (drop 16 b.0)) is.spelling ∙ slack-superblock geometry (omega (arith, sizes.little_slack)) in
    same_sizes found geometry version_is blocks_are slack_is
