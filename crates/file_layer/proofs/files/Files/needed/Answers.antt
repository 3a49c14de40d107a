use Rattle.std.proofs.Common.{sym, ◌∙◌}
use Rattle.file_layer.proofs.Spaces.{has_space, is_past, lacks_space}
use Rattle.file_layer.proofs.files.Files.needed.Goals as goal

pub returns-then-length-v-clause-answers : goal.returns-then-length-v-clause-answers
returns-then-length-v-clause-answers c set places knows =
    is_past set c.args.file.0 c.in_ok-length.length c.args.v c.args.n
    (sym (c.length.ensures.answers set places knows) ∙ c.in_ok-length.ensures.ok_part) c.if-length-v.true

pub returns-then-free-needed-clause-answers : goal.returns-then-free-needed-clause-answers
returns-then-free-needed-clause-answers c set places knows =
    lacks_space c.args.self.now set places c.requires.layer knows c.args.file.0 c.in_ok-length.length c.args.v c.args.n c.free-free.result c.count_lacking-needed.result
    (sym (c.length.ensures.answers set places knows) ∙ c.in_ok-length.ensures.ok_part) c.if-length-v.false c.free-free.ensures.count c.count_lacking-needed.ensures c.if-free-needed.true

pub returns-clause-answers : goal.returns-clause-answers
returns-clause-answers c set places knows =
    has_space c.args.self.now set places c.requires.layer knows c.args.file.0 c.in_ok-length.length c.args.v c.args.n c.free-free.result c.count_lacking-needed.result
    (sym (c.length.ensures.answers set places knows) ∙ c.in_ok-length.ensures.ok_part) c.if-length-v.false c.free-free.ensures.count c.count_lacking-needed.ensures c.if-free-needed.false
