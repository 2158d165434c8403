use Rattle.output_trials.proofs.drawn_markers.change.Given as goal

abbrev pub ghosts-go_on : goal.ghosts-go_on
ghosts-go_on a = record { name = a.blank.name; parts = a.blank.parts }
