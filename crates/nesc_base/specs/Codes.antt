-- Codes for blocks and for the division of an image, by which they can be part of the value of a struct.
use Rattle.std.specs.Prelude.{List, ℕ, refl}
use Rattle.std.specs.Coded.{Coded, code_by, coded×, coded_list, coded_ℕ}
use Rattle.nesc_base.specs.declared.block.Block.{Block}
use Rattle.nesc_base.specs.declared.geometry.Geometry.{Geometry}

-- a block as its bytes
abbrev pub coded_block : Coded Block
coded_block = code_by (List ℕ) (coded_list coded_ℕ) (λ block. block.0) (λ bytes. record { 0 = bytes }) (λ _. refl)

-- a division as its three numbers
abbrev pub coded_geometry : Coded Geometry
coded_geometry =
    code_by (ℕ × (ℕ × ℕ)) (coded× coded_ℕ (coded× coded_ℕ coded_ℕ))
    (λ geometry. (geometry.version, (geometry.blocks, geometry.slack)))
    (λ parts. record { version = parts.0; blocks = parts.1.0; slack = parts.1.1 })
    (λ _. refl)
