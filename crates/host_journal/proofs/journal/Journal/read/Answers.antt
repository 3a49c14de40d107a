use Rattle.std.proofs.Common.{sym, ap, ◌∙◌}
use Rattle.std.specs.FinMap.{get}
use Rattle.std.proofs.lemmas.Result.{on_ok_weaker}
use Rattle.host_journal.specs.Staged.{Staged}
use Rattle.host_journal.proofs.Reading.{reads_kept, reads_staged}
use Rattle.host_journal.proofs.journal.Journal.read.Goals as goal

pub returns-in-Some-clause-block : goal.returns-in-Some-clause-block
returns-in-Some-clause-block g c tells kept is =
    let staged = ap (λ j. j.staged) c.self.view_is in
    reads_staged c.args.self.now _ c.args.at c.requires.rests c.requires.place tells (g.met.D.Disk.reads_whole c.args.disk.now tells) kept is c.in-Some.block.now
    (ap (λ (s : Staged). get s c.args.at) (sym staged) ∙ sym c.in-Some.ensures)

pub returns-in-None-clause-block : goal.returns-in-None-clause-block
returns-in-None-clause-block g c tells kept is =
    let staged = ap (λ j. j.staged) c.self.view_is in
    let none = ap (λ (s : Staged). get s c.args.at) (sym staged) ∙ sym c.in-None.ensures in
    on_ok_weaker c.read.result (λ reads. reads_kept c.args.self.now _ c.args.at c.requires.rests c.requires.place tells (g.met.D.Disk.reads_whole c.args.disk.now tells) kept is c.read.new.into none reads)
    (c.read.ensures.block tells)
