use Rattle.panel_rules.specs.Run.{facts_of}
use Rattle.panel_effects.proofs.effects.Effects.turn_by_words.Goals as goal

pub returns-clause-stands : goal.returns-clause-stands
returns-clause-stands g c site kept done before is stands has =
    c.turn.ensures.stands site (facts_of site kept done) before is has (c.facts_heard.ensures site kept done before is.table.valid stands)

pub returns-clause-steps : goal.returns-clause-steps
returns-clause-steps g c site kept done before is stands has =
    c.turn.ensures.ruled site (facts_of site kept done) before is has (c.facts_heard.ensures site kept done before is.table.valid stands)
