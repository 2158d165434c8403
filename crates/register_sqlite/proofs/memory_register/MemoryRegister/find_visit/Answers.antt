use Rattle.std.proofs.Common.{ap, subst}
use Rattle.sqlite.specs.Effect.{Database}
use Rattle.register_sqlite.specs.Stored.{tables_in}
use Rattle.register_sqlite.proofs.Steady.{memory_is_steady}
use Rattle.std.proofs.Common.{◌∙◌}
use Rattle.std.specs.Prelude.{◌≡◌, IfOk, option_map}
use Rattle.service_keepers.specs.Rows.{visit_row}
use Rattle.service_keepers.specs.Tables.{visit_numbered}
use Rattle.register_sqlite.proofs.memory_register.MemoryRegister.find_visit.Goals as goal

pub invariant_of-self : goal.invariant_of-self
invariant_of-self c = (c.find_visit.ensures.register memory_is_steady c.self.invariant).stays.register

pub returns-clause-found : goal.returns-clause-found
returns-clause-found c =
    subst (λ old. IfOk c.find_visit.result (λ visit. option_map visit_row visit ≡ visit_numbered c.args.number old.visits)) c.self.view_is
    (c.find_visit.ensures.register memory_is_steady c.self.invariant).so

pub returns-clause-same : goal.returns-clause-same
returns-clause-same c =
    ap (λ (d : Database). tables_in d.trees) (c.find_visit.ensures.register memory_is_steady c.self.invariant).stays.same ∙ c.self.view_is

pub returns-clause-memory : goal.returns-clause-memory
returns-clause-memory c = (c.find_visit.ensures.register memory_is_steady c.self.invariant).refused
