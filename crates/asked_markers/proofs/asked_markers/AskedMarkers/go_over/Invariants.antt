use Rattle.asked_markers.proofs.asked_markers.AskedMarkers.go_over.Given as goal

abbrev pub ghosts-solve_over : goal.ghosts-solve_over
ghosts-solve_over a = record { name = a.blank.name; parts = a.blank.parts }
