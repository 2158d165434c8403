-- Over the turns of a panel's Hold, whatever the panel is told from elsewhere, the part shows what these tell.
use Rattle.std.specs.Prelude.{◌≡◌, ℕ, List, length}
use Rattle.site_types.specs.declared.retained.Retained.{Retained}
use Rattle.site_types.specs.declared.site.Site.{Site}
use Rattle.site_types.specs.Done.{Done}
use Rattle.site_types.specs.Valid.{IsValid}
use Rattle.panel_conditions.specs.Shown.{buzzer_after, entries_after, last_news}
use Rattle.panel_conditions.specs.Words.{faults_after, word_after}
use Rattle.panel_rules.specs.Batches.{entries}
use Rattle.panel_rules.specs.Moments.{Moment, IsPanel, IsRun}
use Rattle.hold_calls.specs.Shown.{buzzer_told, latest_faults, news_told, word_told}
use Rattle.hold_calls.specs.Told.{Told}
use Rattle.hold_calls.specs.Turns.{hold_turns}

-- the faults of a panel's Hold are those that stood at its latest turn, by what the panel was told from elsewhere,
-- whatever befell the panel in whatever order
abbrev pub ToldFaults : Type 0
ToldFaults =
    (site : Site) (kept : Retained) (done : List Done) (told : Told) (panel : ℕ) (before : List Moment)
    → faults_after site kept panel done (hold_turns site kept done told panel before)
    ≡ latest_faults site kept done told panel before

-- the word of a panel's Hold is the latest word of the panel, by what the panel was told from elsewhere
abbrev pub ToldWord : Type 0
ToldWord =
    (site : Site) (kept : Retained) (done : List Done) (told : Told) (panel : ℕ) (before : List Moment)
    → IsValid site → IsPanel site.panels panel → IsRun site.panels before
    → word_after site kept panel done (hold_turns site kept done told panel before)
    ≡ word_told site kept done told panel before

-- the last tick at which a panel's Hold newly showed something is that of the panel, by what the panel was told from
-- elsewhere
abbrev pub ToldNews : Type 0
ToldNews =
    (site : Site) (kept : Retained) (done : List Done) (told : Told) (panel : ℕ) (before : List Moment)
    → IsValid site → IsPanel site.panels panel → IsRun site.panels before
    → last_news site kept panel done (hold_turns site kept done told panel before)
    ≡ news_told site kept done told panel before

-- the buzzer of a panel's Hold sounds as that of the panel, by what the panel was told from elsewhere
abbrev pub ToldBuzzer : Type 0
ToldBuzzer =
    (site : Site) (kept : Retained) (done : List Done) (told : Told) (panel : ℕ) (before : List Moment)
    → IsValid site → IsPanel site.panels panel → IsRun site.panels before
    → buzzer_after site kept panel done (hold_turns site kept done told panel before)
    ≡ buzzer_told site kept done told panel before

-- a panel's Hold counts as many entries into the fire alarm condition as there were, whatever the panel is told from
-- elsewhere
abbrev pub ToldEntries : Type 0
ToldEntries =
    (site : Site) (kept : Retained) (done : List Done) (told : Told) (panel : ℕ) (before : List Moment)
    → IsValid site → IsPanel site.panels panel → IsRun site.panels before
    → entries_after site kept panel done (hold_turns site kept done told panel before)
    ≡ length (entries site kept done panel before)
