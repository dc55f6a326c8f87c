use Rattle.debcheck.proofs.output.write_line_fault.Goals as goal

pub returns-in-Memory-clause-told : goal.returns-in-Memory-clause-told
returns-in-Memory-clause-told g c = rw (c.in-Memory.is, ← c.memory_line.ensures) c.write_all-in-Memory.ensures.bytes
