-- What each answer is found to mean, with the answers that were taken up to it.
use Rattle.std.specs.Prelude.{ℕ, List, [], ◌∷◌, ◌++◌, ◌&&◌}
use Rattle.site_types.specs.declared.site.Site.{Site}
use Rattle.site_types.specs.declared.answer.Answer.{Answer}
use Rattle.site_types.specs.declared.retained.Retained.{Retained}
use Rattle.site_types.specs.Done.{Done}
use Rattle.coincidence_rules.specs.declared.finding.Finding.{Finding}
use Rattle.coincidence_rules.specs.Places.{is_of, zones_where}
use Rattle.coincidence_rules.specs.Counted.{is_counted}
use Rattle.coincidence_rules.specs.Confirmed.{confirms}
use Rattle.coincidence_rules.specs.Alarm.{calls, releases}
use Rattle.coincidence_rules.specs.Missing.{is_missing}

-- the finding of an answer among those taken up to it, itself the last: the zones for which it counts, which
-- it confirms, calls by hand and releases
abbrev pub finding_among : Site → Retained → ℕ → List Done → List Answer → Answer → Finding
finding_among site kept panel done answers answer =
    record {
      stamp = answer.stamp;
      point = answer.point;
      counted =
          zones_where site panel (λ zone. is_counted site kept done answer && is_of site zone answer.point);
      confirmed = zones_where site panel (λ zone. confirms site kept done answers zone answer);
      manual = zones_where site panel (λ zone. calls site kept done zone answer);
      released = zones_where site panel (λ zone. releases site kept done answers zone answer);
      missing = is_missing answers answer.point;
    }

-- the finding of an answer that is taken after these
abbrev pub finding_of : Site → Retained → ℕ → List Done → List Answer → Answer → Finding
finding_of site kept panel done before answer =
    finding_among site kept panel done (before ++ answer ∷ []) answer

-- the findings of answers that are taken after these, one for each, in order
abbrev pub findings_after : Site → Retained → ℕ → List Done → List Answer → List Answer → List Finding
findings_after site kept panel done before [] = []
findings_after site kept panel done before (answer ∷ answers) =
    finding_of site kept panel done before answer
    ∷ findings_after site kept panel done (before ++ answer ∷ []) answers

-- the findings of all answers
abbrev pub findings_of : Site → Retained → ℕ → List Done → List Answer → List Finding
findings_of site kept panel done answers = findings_after site kept panel done [] answers
