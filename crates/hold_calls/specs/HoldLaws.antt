-- Over the turns that a run makes of a panel's Hold in the ring, the part tells what the rules say of the run.
use Rattle.std.specs.Prelude.{◌≡◌, ℕ, List, length}
use Rattle.site_types.specs.declared.retained.Retained.{Retained}
use Rattle.site_types.specs.declared.site.Site.{Site}
use Rattle.site_types.specs.Done.{Done}
use Rattle.site_types.specs.Valid.{IsValid}
use Rattle.panel_conditions.specs.Shown.{buzzer_after, entries_after, last_news as last_news_told}
use Rattle.panel_conditions.specs.Words.{faults_after, word_after}
use Rattle.panel_rules.specs.Batches.{entries}
use Rattle.panel_rules.specs.Faces.{buzzer_of, last_news}
use Rattle.panel_rules.specs.Moments.{Moment, IsPanel, IsRun}
use Rattle.panel_rules.specs.Run.{faults_of, tells_fault}
use Rattle.panel_rules.specs.Words.{latest_word}
use Rattle.hold_calls.specs.Turns.{ring_turns}

-- the word of a panel's Hold in the ring is the latest word of the panel, and tells a fault where the rules say so
abbrev pub HeldWord : Type 0
HeldWord =
    (site : Site) (kept : Retained) (done : List Done) (panel : ℕ) (before : List Moment)
    → IsValid site → IsPanel site.panels panel → IsRun site.panels before
    → word_after site kept panel done (ring_turns site kept done panel before)
    ≡ latest_word site kept done (tells_fault site kept done) panel before

-- the faults of a panel's Hold in the ring are those of the panel, whatever befell it in whatever order
abbrev pub HeldFaults : Type 0
HeldFaults =
    (site : Site) (kept : Retained) (done : List Done) (panel : ℕ) (before : List Moment)
    → faults_after site kept panel done (ring_turns site kept done panel before)
    ≡ faults_of site kept done panel before

-- the last tick at which a panel's Hold in the ring newly showed something is that of the panel by the rules
abbrev pub HeldNews : Type 0
HeldNews =
    (site : Site) (kept : Retained) (done : List Done) (panel : ℕ) (before : List Moment)
    → IsValid site → IsPanel site.panels panel → IsRun site.panels before
    → last_news_told site kept panel done (ring_turns site kept done panel before)
    ≡ last_news site kept done panel before

-- the buzzer of a panel's Hold in the ring sounds as that of the panel
abbrev pub HeldBuzzer : Type 0
HeldBuzzer =
    (site : Site) (kept : Retained) (done : List Done) (panel : ℕ) (before : List Moment)
    → IsValid site → IsPanel site.panels panel → IsRun site.panels before
    → buzzer_after site kept panel done (ring_turns site kept done panel before)
    ≡ buzzer_of site kept done panel before

-- a panel's Hold in the ring counts as many entries into the fire alarm condition as there were
abbrev pub HeldEntries : Type 0
HeldEntries =
    (site : Site) (kept : Retained) (done : List Done) (panel : ℕ) (before : List Moment)
    → IsValid site → IsPanel site.panels panel → IsRun site.panels before
    → entries_after site kept panel done (ring_turns site kept done panel before)
    ≡ length (entries site kept done panel before)
