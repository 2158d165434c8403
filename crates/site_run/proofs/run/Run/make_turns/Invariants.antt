use Rattle.site_run.proofs.run.Run.make_turns.Given as goal

abbrev pub ghosts-turn_all : goal.ghosts-turn_all
ghosts-turn_all g a = record { name = a.blank.name; parts = a.blank.parts }
