use Rattle.panel_node.proofs.node.Node.own_turns.Given as goal

abbrev pub ghosts-effect_turn : goal.ghosts-effect_turn
ghosts-effect_turn a = record { name = a.blank.name; parts = a.blank.parts }
