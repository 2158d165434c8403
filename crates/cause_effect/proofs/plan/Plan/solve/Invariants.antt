use Rattle.cause_effect.proofs.plan.Plan.solve.Given as goal

abbrev pub ghosts-solve_in_order : goal.ghosts-solve_in_order
ghosts-solve_in_order a = record { name = a.blank.name; parts = a.blank.parts }
