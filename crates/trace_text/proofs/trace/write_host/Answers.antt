use Rattle.trace_text.proofs.trace.write_host.Goals as goal

pub returns-in-NotAttached : goal.returns-in-NotAttached
returns-in-NotAttached g c = rw c.in-NotAttached.is c.write_text-in-NotAttached.ensures
