use Rattle.std.proofs.Common.{ℕ, ◌≤◌, Ok, sym, ◌∙◌, subst}
use Rattle.nesc_base.specs.Blocks.{most_in_request}
use Rattle.nesc_requests.specs.declared.host.HostCommand.{HostCommand}
use Rattle.nesc_requests.specs.Script.{IsWithinLimits}
use Rattle.plain_machine.specs.HostCommands.{HostStep}
use Rattle.hypervisor.specs.Needing.{HasRoom, HasRoomToDo, LackAnswers}
use Rattle.hypervisor.proofs.NeededBlocks.{map_stages, put_stages}
use Rattle.hypervisor.proofs.NeededRoom.{few_taken, map_asks, put_asks, room_if_refused, room_if_taken}
use Rattle.hypervisor.proofs.needing.needs.Goals as goal

pub returns-in-Ok-clause-need : goal.returns-in-Ok-clause-need
returns-in-Ok-clause-need c set places knows functions answer changes new step =
    let blocks = c.args.files.now.geometry.blocks in
    let done = subst (λ (command : HostCommand). HostStep blocks set functions command answer changes new) c.in-Put.is step in
    let lack = subst (λ (n : ℕ). LackAnswers blocks set c.in-Put.name c.in-Put.v n (Ok c.in-Ok.field-0)) c.len.ensures.count (c.in-Ok.ensures.answers set places knows) in
    c.len-in-Ok.ensures.count ∙ put_stages c.args.files.now set places knows c.requires.layer c.in-Put.name blocks c.in-Put.v c.in-Put.blocks c.in-Ok.field-0 answer changes lack done.0

pub returns-in-Ok-clause-asks : goal.returns-in-Ok-clause-asks
returns-in-Ok-clause-asks c journal within asks =
    let takes = c.in-Ok.ensures.takes in
    let todo = subst (λ (command : HostCommand). HasRoomToDo c.args.files.now command journal) c.in-Put.is asks in
    subst (HasRoom journal) (c.len.ensures.count ∙ sym c.len-in-Ok.ensures.count) (put_asks c.args.files.now c.in-Put.name c.in-Put.v c.in-Put.blocks c.len.result journal c.len.ensures.count takes.0 takes.1 takes.2 todo)

pub returns-in-Err-clause-room : goal.returns-in-Err-clause-room
returns-in-Err-clause-room c journal none =
    subst (λ (command : HostCommand). HasRoomToDo c.args.files.now command journal) (sym c.in-Put.is)
    (room_if_refused c.args.files.now c.in-Put.name c.in-Put.v c.in-Put.blocks c.len.result journal c.len.ensures.count c.in-Err.ensures.refused)

pub returns-in-Map-clause-few : goal.returns-in-Map-clause-few
returns-in-Map-clause-few c =
    let within = subst IsWithinLimits c.in-Map.is c.requires.within in
    subst (λ (n : ℕ). n ≤ most_in_request) (sym c.unwrap_or.ensures) (few_taken c.args.files.now c.in-Map.name c.in-Map.v c.in-Map.n most_in_request c.lacking-in-Map.result within.2.few c.lacking-in-Map.ensures.takes)

pub returns-in-Map-clause-room : goal.returns-in-Map-clause-room
returns-in-Map-clause-room c journal room =
    subst (λ (command : HostCommand). HasRoomToDo c.args.files.now command journal) (sym c.in-Map.is)
    (room_if_taken c.args.files.now c.in-Map.name c.in-Map.v c.in-Map.n c.lacking-in-Map.result journal c.requires.layer c.lacking-in-Map.ensures.takes c.lacking-in-Map.ensures.refused
    (subst (HasRoom journal) c.unwrap_or.ensures room))

pub returns-in-Map-clause-asks : goal.returns-in-Map-clause-asks
returns-in-Map-clause-asks c journal within asks =
    subst (HasRoom journal) (sym c.unwrap_or.ensures)
    (map_asks c.args.files.now c.in-Map.name c.in-Map.v c.in-Map.n c.lacking-in-Map.result journal within c.lacking-in-Map.ensures.takes
    (subst (λ (command : HostCommand). HasRoomToDo c.args.files.now command journal) c.in-Map.is asks))

pub returns-in-Map-clause-need : goal.returns-in-Map-clause-need
returns-in-Map-clause-need c set places knows functions answer changes new step =
    let blocks = c.args.files.now.geometry.blocks in
    let done = subst (λ (command : HostCommand). HostStep blocks set functions command answer changes new) c.in-Map.is step in
    c.unwrap_or.ensures ∙ map_stages c.args.files.now set places knows c.requires.layer c.in-Map.name blocks c.in-Map.v c.in-Map.n c.lacking-in-Map.result answer changes (c.lacking-in-Map.ensures.answers set places knows) done.0
