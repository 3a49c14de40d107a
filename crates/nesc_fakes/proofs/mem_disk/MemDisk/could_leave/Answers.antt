use Rattle.std.proofs.Common.{◌≡◌, [], Contains, length, inl, inr, refl, sym, ◌∙◌, arith}
use Rattle.std.proofs.lemmas.Bool.{true≢false}
use Rattle.nesc_fakes.specs.MemDisk.{contents_at, unsynced}
use Rattle.nesc_fakes.specs.contracts.mem_disk.MemDisk.{the_view}
use Rattle.nesc_fakes.proofs.Leavable.{left_whole, length-contents_at, image_more, image_whole, same_block, other_block}
use Rattle.nesc_fakes.proofs.mem_disk.MemDisk.could_leave.Goals as goal
use Rattle.nesc_fakes.proofs.mem_disk.MemDisk.could_leave.Goals.{then-self-k-via-then-self-k, then-self-k-via-else-self-k+then-image-len, else-ne-via-then-ne+else-not-is_unsynced, else-ne-via-else-ne}

pub returns-then-self-k : goal.returns-then-self-k
returns-then-self-k c =
    rw (← c.self.view_is) (
      λ yes. absurd (cc),
      λ left. elim c.then-self-k.branch [
        | then-self-k-via-then-self-k w ↦ absurd (omega (arith, left.by_now))
        | then-self-k-via-else-self-k+then-image-len w ↦ absurd (omega (arith, left_whole (the_view c.self.inside) c.args.k c.args.image.now left))
      ],
    )

pub returns-then-not-is_unsynced : goal.returns-then-not-is_unsynced
returns-then-not-is_unsynced c = (
  λ yes. absurd (cc),
  λ left.
      let none : ¬ Contains (unsynced c.args.k c.args.self.now.calls []) c.loop-i.i = λ found. true≢false (sym (c.is_unsynced.ensures.1 found) ∙ c.if-not-is_unsynced.true) in
      absurd (other_block c.args.image.now c.loop-i.i _ c.block_at.result c.ne.result c.loop-i-test.true c.ne.ensures c.if-ne.true (left.left.others c.loop-i.i none ∙ c.block_at.ensures)),
)

pub loop-i-preserved : goal.loop-i-preserved
loop-i-preserved c =
    let contents = contents_at c.args.self.now c.args.k in
    let places = unsynced c.args.k c.args.self.now.calls [] in
    image_more contents places c.args.image.now c.loop-i.i c.loop-i.invariant (elim c.else-ne.branch [
      | else-ne-via-then-ne+else-not-is_unsynced w ↦ inl (w.is_unsynced.ensures.0 w.if-not-is_unsynced.false)
      | else-ne-via-else-ne w ↦ inr (same_block c.args.image.now c.loop-i.i _ c.block_at.result c.ne.result c.loop-i-test.true c.ne.ensures w.if-ne.false ∙ sym c.block_at.ensures)
    ])

pub returns : goal.returns
returns c =
    let len : length c.args.image.now ≡ length c.args.self.now.blocks = rw (← c.self.view_is) (omega arith) in
    let whole : length c.args.image.now ≡ length (contents_at c.args.self.now c.args.k) = len ∙ sym (length-contents_at c.args.self.now c.args.k) in (
      λ _. record {
        by_now = rw (← c.self.view_is) (omega arith);
        left = image_whole (contents_at c.args.self.now c.args.k) (unsynced c.args.k c.args.self.now.calls []) c.args.image.now c.loop-i.i c.loop-i-test.false whole c.loop-i.invariant;
      },
      λ _. refl,
    )
