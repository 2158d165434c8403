use Rattle.register_sqlite.proofs.Steady.{memory_is_steady}
use Rattle.register_sqlite.proofs.memory_register.MemoryRegister.open.Goals as goal

pub invariant_of-result : goal.invariant_of-result
invariant_of-result c =
    (c.in-Ok-make_tables.ensures.made memory_is_steady (c.in-Ok.ensures.empty.2, c.in-Ok.ensures.fresh.autocommit, c.in-Ok.ensures.fresh.unlimited)).0

pub returns-in-Ok-make_tables-clause-empty : goal.returns-in-Ok-make_tables-clause-empty
returns-in-Ok-make_tables-clause-empty c =
    (c.in-Ok-make_tables.ensures.made memory_is_steady (c.in-Ok.ensures.empty.2, c.in-Ok.ensures.fresh.autocommit, c.in-Ok.ensures.fresh.unlimited)).1

pub returns-in-Err-clause-memory : goal.returns-in-Err-clause-memory
returns-in-Err-clause-memory c =
    c.in-Err.ensures.memory memory_is_steady (c.in-Ok.ensures.empty.2, c.in-Ok.ensures.fresh.autocommit, c.in-Ok.ensures.fresh.unlimited)
