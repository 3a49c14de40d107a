use Rattle.std.proofs.Common.{sym, subst}
use Rattle.nesc_requests.specs.declared.host.HostCommand.{HostCommand}
use Rattle.file_layer.proofs.ShownOpens.{stays_on}
use Rattle.hypervisor.specs.Carrying.{DoesOver}
use Rattle.hypervisor.proofs.commands.command.Goals as goal

pub returns-in-Create-clause-rests : goal.returns-in-Create-clause-rests
returns-in-Create-clause-rests g c =
    stays_on c.args.files.now c.create.new.files c.args.journal.now c.create.new.journal _ (g.met.D.Disk.reads_whole c.args.disk.now) c.create.ensures.goes_on c.create.ensures.fits c.create.ensures.stays c.requires.rests

pub returns-in-Delete-clause-rests : goal.returns-in-Delete-clause-rests
returns-in-Delete-clause-rests g c =
    stays_on c.args.files.now c.delete.new.files c.args.journal.now c.delete.new.journal _ (g.met.D.Disk.reads_whole c.args.disk.now) c.delete.ensures.goes_on c.delete.ensures.fits c.delete.ensures.stays c.requires.rests

pub returns-in-Resize-clause-rests : goal.returns-in-Resize-clause-rests
returns-in-Resize-clause-rests g c =
    stays_on c.args.files.now c.resize.new.files c.args.journal.now c.resize.new.journal _ (g.met.D.Disk.reads_whole c.args.disk.now) c.resize.ensures.goes_on c.resize.ensures.fits c.resize.ensures.stays c.requires.rests

pub returns-in-Put-clause-does : goal.returns-in-Put-clause-does
returns-in-Put-clause-does g c tells kept keeps =
    subst (λ (command : HostCommand). DoesOver kept c.args.attachments.now c.args.queued c.args.files.now c.args.journal.now command c.put.result c.args.attachments.now c.put.new.files c.put.new.journal) (sym c.in-Put.is)
    (c.put.ensures.does kept)

pub returns-in-Put-clause-rests : goal.returns-in-Put-clause-rests
returns-in-Put-clause-rests g c =
    stays_on c.args.files.now c.put.new.files c.args.journal.now c.put.new.journal _ (g.met.D.Disk.reads_whole c.args.disk.now) c.put.ensures.goes_on c.put.ensures.fits c.put.ensures.stays c.requires.rests

pub returns-in-Map-clause-rests : goal.returns-in-Map-clause-rests
returns-in-Map-clause-rests g c =
    stays_on c.args.files.now c.map.new.files c.args.journal.now c.map.new.journal _ (g.met.D.Disk.reads_whole c.args.disk.now) c.map.ensures.goes_on c.map.ensures.fits c.map.ensures.stays c.requires.rests
