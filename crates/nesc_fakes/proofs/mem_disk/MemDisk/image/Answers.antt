use Rattle.std.proofs.Common.{◌≡◌, ◌+◌, suc, [], ◌∷◌, ◌++◌, length, length-append, sym, ◌∙◌, ap, rules, arith}
use Rattle.nesc_fakes.specs.MemDisk.{contents_at, unsynced}
use Rattle.nesc_fakes.specs.Torn.{drawn, after_draws, torn_block}
use Rattle.nesc_fakes.proofs.Leavable.{image_whole, length-contents_at, made_more}
use Rattle.nesc_fakes.proofs.mem_disk.MemDisk.image.Goals as goal

pub loop-at-preserved : goal.loop-at-preserved
loop-at-preserved c =
    let image = c.loop-at.image.items in
    let pick = c.args.pick in
    let items : c.push.new.self.items ≡ image ++ c.left_at.result ∷ [] = search rules in
    let draws : c.drawn-x.result ≡ drawn (after_draws c.loop-at.at pick) = c.drawn-x.ensures ∙ ap drawn c.loop-at.invariant.draws in
    let one_more : c.loop-at.at + 1 ≡ suc c.loop-at.at = omega arith in
    let made = made_more (contents_at c.args.self.now c.args.k) (unsynced c.args.k c.args.self.now.calls []) pick image c.left_at.result c.loop-at.at c.loop-at.invariant.count c.loop-at.invariant.made
    (λ found. c.left_at.ensures.torn found ∙ c.torn_block.ensures ∙ ap torn_block draws) c.left_at.ensures.whole in
    rw items (record {
      count = omega (arith, c.loop-at.invariant.count, length-append image (c.left_at.result ∷ []));
      draws = draws ∙ sym (ap (λ n. after_draws n pick) one_more);
      made = made;
    })

pub returns-clause-left : goal.returns-clause-left
returns-clause-left c =
    let contents = contents_at c.args.self.now c.args.k in
    let len : c.loop-at.at ≡ length c.args.self.now.blocks = rw (← c.self.view_is) (omega arith) in
    let whole : length c.loop-at.image.items ≡ length contents = c.loop-at.invariant.count ∙ len ∙ sym (length-contents_at c.args.self.now c.args.k) in
    record {
      by_now = c.requires.over;
      left = image_whole contents (unsynced c.args.k c.args.self.now.calls []) c.loop-at.image.items c.loop-at.at (omega (arith, c.loop-at.invariant.count)) whole (λ at lt none. (c.loop-at.invariant.made at lt).1 none);
    }
