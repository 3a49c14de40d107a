use Rattle.std.proofs.Common.{◌≡◌, IfSome, subst, sym, ap, ◌∙◌}
use Rattle.image_layout.specs.Owners.{MayOwn, owner_bytes}
use Rattle.image_layout.proofs.OwnersLemmas.{spelled_whole, told_apart}
use Rattle.image_layout.proofs.owners.owner_of.Goals as goal
use Rattle.image_layout.proofs.owners.owner_of.Goals.{then-not-may_own-via-then-not-may_own, then-not-may_own-via-else-not-may_own+then-ne}

pub returns-then-not-may_own : goal.returns-then-not-may_own
returns-then-not-may_own c owner may is =
    let read : c.candidate-owner.result ≡ owner = c.candidate-owner.ensures owner (spelled_whole c.args.lengths.now c.args.entries c.args.k owner may) is in
    elim c.then-not-may_own.branch [
      | then-not-may_own-via-then-not-may_own w ↦
          w.if-not-may_own.ensures.bad (subst (λ o. IfSome o (MayOwn c.args.lengths.now c.args.entries c.args.k)) (sym read) may)
      | then-not-may_own-via-else-not-may_own+then-ne w ↦
          let spelling : w.owner_bytes.result ≡ c.args.bytes.now = w.owner_bytes.ensures ∙ ap owner_bytes read ∙ sym is in
          told_apart c.args.bytes.now w.as_slice.result.now w.if-ne.ensures (sym (w.as_slice.ensures ∙ spelling))
    ]
