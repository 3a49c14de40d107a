use Rattle.std.proofs.Common.{◌≡◌, Option, Some, sym, ap, subst, ◌∙◌, rules}
use Rattle.nesc_base.specs.Blocks.{most_in_request}
use Rattle.nesc_base.specs.Files.{file_at}
use Rattle.nesc_requests.specs.declared.request.Kind.{Kind}
use Rattle.nesc_requests.specs.declared.request.Miss.{Miss}
use Rattle.image_layout.proofs.OpenedFiles.{some_there}
use Rattle.file_layer.specs.Layer.{entry_of}
use Rattle.file_layer.proofs.SomeFiles.{some_known}
use Rattle.hypervisor.specs.Needing.{HasRoom}
use Rattle.nesc_session.specs.Requests.{Requests}
use Rattle.nesc_session.specs.Serving.{HasRoomForMiss, HasRoomToHold}
use Rattle.nesc_session.proofs.HandledMisses.{few_wanted, stages_found}
use Rattle.nesc_session.proofs.requests.Requests.holdable.Goals as goal

pub returns-in-Unmapped-clause-few : goal.returns-in-Unmapped-clause-few
returns-in-Unmapped-clause-few c =
    let (set, places, knows) = some_known c.args.files.now c.requires.layer in
    few_wanted (file_at set c.args.file.0) c.in-Some.miss.v c.in-Some.miss.n _ most_in_request c.holdable.result (c.holdable.ensures.answers set places knows) (search rules)

pub returns-in-Unmapped-clause-need : goal.returns-in-Unmapped-clause-need
returns-in-Unmapped-clause-need c set places knows f told changes new handled finds =
    c.holdable.ensures.answers set places knows
    ∙ stages_found set f c.args.file c.args.self.now c.in-Some.miss (sym (ap (λ (r : Requests). r.waiting) c.self.view_is) ∙ c.in-Some.is) _ c.in-Unmapped.is told changes new handled finds

pub returns-in-Unmapped-clause-asks : goal.returns-in-Unmapped-clause-asks
returns-in-Unmapped-clause-asks c used journal few room =
    let files = c.args.files.now in
    let entry = some_there (entry_of files c.args.file.0) used in
    let waits : c.args.self.now.waiting ≡ Some c.in-Some.miss = sym (ap (λ (r : Requests). r.waiting) c.self.view_is) ∙ c.in-Some.is in
    let here = subst (λ (kind : Kind). HasRoomForMiss files c.args.file.0 c.in-Some.miss kind journal) c.in-Unmapped.is (subst (λ (o : Option Miss). HasRoomToHold files c.args.file.0 o journal) waits room) in
    subst (HasRoom journal) (sym (c.holdable.ensures.count entry.0 entry.1)) (here entry.0 entry.1)
