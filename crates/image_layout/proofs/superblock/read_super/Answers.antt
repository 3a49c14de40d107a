use Rattle.std.proofs.Common.{◌≡◌, true, false, sym, ap, subst, ◌∙◌}
use Rattle.std.specs.Bool.{IsTrue}
use Rattle.std.specs.Cmp.Lexicographic.{other_text}
use Rattle.nesc_base.specs.declared.block.Block.{Block}
use Rattle.nesc_base.specs.Geometry.{IsGeometry}
use Rattle.image_layout.specs.Super.{superblock}
use Rattle.image_layout.proofs.Superblocks.{sizes-superblock}
use Rattle.image_layout.proofs.superblock.read_super.Goals.{else-are_sizes-via-then-are_sizes+else-eq, else-are_sizes-via-else-are_sizes}
use Rattle.image_layout.proofs.superblock.read_super.Goals as goal

pub returns-else-are_sizes : goal.returns-else-are_sizes
returns-else-are_sizes c = λ is.
    let found = sizes-superblock c.args.block.now is.0 c.sizes_of-geometry.result is.1 c.sizes_of-geometry.ensures.version c.sizes_of-geometry.ensures.blocks c.sizes_of-geometry.ensures.slack in
    elim c.else-are_sizes.branch [
      | else-are_sizes-via-then-are_sizes+else-eq w ↦
          other_text _ _ (sym w.if-eq.false ∙ w.eq.ensures) (ap (λ (b : Block). b.0) (w.write_super.ensures.spelling ∙ ap superblock found ∙ sym is.1.spelling))
      | else-are_sizes-via-else-are_sizes w ↦
          let passes : IsTrue c.are_sizes.result = c.are_sizes.ensures.1 (subst IsGeometry (sym found) is.1.sizes) in
          let wrong : false ≡ true = subst IsTrue w.if-are_sizes.false passes in
          cc
    ]
