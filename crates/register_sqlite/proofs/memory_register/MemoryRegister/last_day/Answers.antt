use Rattle.std.proofs.Common.{ap, subst}
use Rattle.sqlite.specs.Effect.{Database}
use Rattle.register_sqlite.specs.Stored.{tables_in}
use Rattle.register_sqlite.proofs.Steady.{memory_is_steady}
use Rattle.std.proofs.Common.{◌∙◌}
use Rattle.std.specs.Prelude.{◌≡◌, IfOk}
use Rattle.service_keepers.specs.Tables.{last_day_of}
use Rattle.register_sqlite.proofs.memory_register.MemoryRegister.last_day.Goals as goal

pub invariant_of-self : goal.invariant_of-self
invariant_of-self c = (c.last_day.ensures.register memory_is_steady c.self.invariant).stays.register

pub returns-clause-day : goal.returns-clause-day
returns-clause-day c = subst (λ old. IfOk c.last_day.result (λ day. day ≡ last_day_of c.args.point.now.bytes old)) c.self.view_is (c.last_day.ensures.register memory_is_steady c.self.invariant).so

pub returns-clause-same : goal.returns-clause-same
returns-clause-same c =
    ap (λ (d : Database). tables_in d.trees) (c.last_day.ensures.register memory_is_steady c.self.invariant).stays.same ∙ c.self.view_is

pub returns-clause-memory : goal.returns-clause-memory
returns-clause-memory c = (c.last_day.ensures.register memory_is_steady c.self.invariant).refused
