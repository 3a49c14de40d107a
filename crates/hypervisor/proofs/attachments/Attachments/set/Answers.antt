use Rattle.std.proofs.Common.{◌≡◌, ◌-◌, ◌≤◌, List, Option, length, sym, ap, ◌∙◌, subst, arith}
use Rattle.std.specs.Prelude.{slice_set}
use Rattle.nesc_base.specs.declared.numbers.FileNo.{FileNo}
use Rattle.nesc_requests.specs.Script.{with_numbered}
use Rattle.hypervisor.specs.Attachments.{AreAttachments, Attachments, file_of}
use Rattle.hypervisor.proofs.Attaching.{attachments_with}
use Rattle.hypervisor.proofs.Numbering.{numbered_at}
use Rattle.hypervisor.proofs.attachments.Attachments.set.Goals as goal

pub invariant_of-self : goal.invariant_of-self
invariant_of-self c =
    let items : List (Option FileNo) = c.self.inside.files.items in
    let among : c.args.f.0 ≤ length items = omega (arith, c.requires.among, ap length c.self.view_is) in
    let put : with_numbered items c.args.f.0 c.args.file ≡ slice_set items (c.from.result - 1) c.args.file = numbered_at items c.args.f.0 c.args.file c.requires.one ∙ ap (λ k. slice_set items (k - 1) c.args.file) (sym c.from.ensures) in
    subst AreAttachments put (attachments_with items c.args.f.0 c.args.file c.requires.one among c.self.invariant
    (λ other is g has. c.requires.apart other is g (ap (λ (files : Attachments). file_of files g) (sym c.self.view_is) ∙ has)))
