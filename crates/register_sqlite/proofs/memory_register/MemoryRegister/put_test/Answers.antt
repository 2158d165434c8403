use Rattle.sqlite.specs.Held.{state}
use Rattle.sqlite.specs.Steps.{over_memory}
use Rattle.std.proofs.Common.{subst}
use Rattle.register_sqlite.specs.Stored.{tables_in}
use Rattle.register_sqlite.proofs.Steady.{memory_is_steady}
use Rattle.std.specs.Prelude.{◌≡◌, IfErr, OnErr, OnOk}
use Rattle.service_keepers.specs.Keeping.{PutsTest}
use Rattle.service_keepers.specs.Tables.{Tables}
use Rattle.register_sqlite.specs.Faults.{RefusesTest}
use Rattle.service_keepers.specs.Rows.{test_of}
use Rattle.register_sqlite.proofs.memory_register.MemoryRegister.put_test.Goals as goal

pub invariant_of-self : goal.invariant_of-self
invariant_of-self c = (c.put_test.ensures.register memory_is_steady c.self.invariant).register

pub returns-clause-ok : goal.returns-clause-ok
returns-clause-ok c =
    subst (λ old. OnOk c.put_test.result (PutsTest (test_of c.args.visit c.args.point.now) old (tables_in (state over_memory c.put_test.new.conn).now.trees))) c.self.view_is
    (c.put_test.ensures.register memory_is_steady c.self.invariant).ok

pub returns-clause-err : goal.returns-clause-err
returns-clause-err c =
    subst (λ old. OnErr c.put_test.result (tables_in (state over_memory c.put_test.new.conn).now.trees ≡ old)) c.self.view_is
    (c.put_test.ensures.register memory_is_steady c.self.invariant).err

pub returns-clause-distinct : goal.returns-clause-distinct
returns-clause-distinct c = (c.put_test.ensures.register memory_is_steady c.self.invariant).register.distinct

pub returns-clause-refused : goal.returns-clause-refused
returns-clause-refused c =
    subst (λ (old : Tables). IfErr c.put_test.result (RefusesTest old.tests)) c.self.view_is (c.put_test.ensures.register memory_is_steady c.self.invariant).refused
