-- What the rules of coincidence make of some evidence.
use Rattle.std.specs.Prelude.{List}
use Rattle.site_types.specs.declared.answer.Answer.{Answer}
use Rattle.site_types.specs.declared.retained.Retained.{Retained}
use Rattle.site_types.specs.declared.site.Site.{Site}
use Rattle.site_types.specs.Done.{Done}
use Rattle.plain_history.specs.Settings.{settled}
use Rattle.plain_words.specs.declared.evidence.Evidence.{Evidence}

-- what a rule makes of the settings
abbrev pub weighed : {A : Type 0} → (Site → Retained → List Done → A) → Evidence → A
weighed rule evidence = settled rule evidence.settings

-- what a rule makes of the settings and of the answers
abbrev pub judged : {A : Type 0} → (Site → Retained → List Done → List Answer → A) → Evidence → A
judged rule evidence = settled rule evidence.settings evidence.answers.now
