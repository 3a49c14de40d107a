use Rattle.nesc_base.specs.Disk.{Known}
use Rattle.nesc_base.proofs.DiskCalls.{goes_itself, unchanged_itself, writes_none}
use Rattle.image_tools.specs.Make.{IsBehind}
use Rattle.image_tools.proofs.Stages.{first_part}
use Rattle.image_tools.proofs.making.make.Goals as goal

pub returns-then-blocks-total-clause-any_moment : goal.returns-then-blocks-total-clause-any_moment
returns-then-blocks-total-clause-any_moment g c =
    let law = g.met.D.Disk in
    let old : Known = g.D.Disk.known c.args.disk.now in
    first_part c.args.geometry old old (law.left_now c.args.disk.now) (goes_itself old)
    (writes_none IsBehind old old (λ tells k image before left. law.left_by_now c.args.disk.now k image tells before left) (unchanged_itself old))
