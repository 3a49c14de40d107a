use Rattle.std.proofs.Common.{◌+◌}
use Rattle.file_layer.proofs.Ending.{count_held, end_at, leads_held, room_below}
use Rattle.file_layer.proofs.Growing.{entry_there}
use Rattle.file_layer.proofs.files.Files.hold.Goals as goal

pub hold_to-requires-clause-room : goal.hold_to-requires-clause-room
hold_to-requires-clause-room c =
    let entry = entry_there c.args.self.now c.args.file.0 c.requires.used in
    room_below c.args.self.now c.args.file.0 c.args.v c.args.n c.min-end.result entry.0 entry.1
    (end_at c.args.self.now c.args.file.0 entry.0 c.length.result (c.args.v + c.args.n) c.min-end.result c.unwrap_or.result entry.1 c.length.ensures.entry c.unwrap_or.ensures c.min-end.ensures)
    c.args.journal.now.count c.args.journal.now.geometry.slack (c.requires.room entry.0 entry.1)

pub returns-clause-count : goal.returns-clause-count
returns-clause-count c set places knows =
    let entry = entry_there c.args.self.now c.args.file.0 c.requires.used in
    count_held c.args.self.now c.args.file.0 c.args.v c.args.n c.min-end.result entry.0 entry.1
    (end_at c.args.self.now c.args.file.0 entry.0 c.length.result (c.args.v + c.args.n) c.min-end.result c.unwrap_or.result entry.1 c.length.ensures.entry c.unwrap_or.ensures c.min-end.ensures)
    c.hold_to.result set places c.requires.fits.layer knows c.hold_to.ensures.count

pub returns-clause-leads : goal.returns-clause-leads
returns-clause-leads c =
    let entry = entry_there c.args.self.now c.args.file.0 c.requires.used in
    leads_held c.args.self.now c.args.file.0 c.args.v c.args.n c.min-end.result entry.0 entry.1
    (end_at c.args.self.now c.args.file.0 entry.0 c.length.result (c.args.v + c.args.n) c.min-end.result c.unwrap_or.result entry.1 c.length.ensures.entry c.unwrap_or.ensures c.min-end.ensures)
    c.hold_to.result c.hold_to.new.self c.args.journal.now c.hold_to.new.journal c.requires.fits.layer c.hold_to.ensures.leads
