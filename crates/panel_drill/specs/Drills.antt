-- What a drill tells.
use Rattle.std.specs.Prelude.{ℕ, List, ◌++◌, codes, decimal}
use Rattle.site_types.specs.declared.site.Site.{Site}
use Rattle.panel_drill.specs.declared.summary.Summary.{Summary}
use Rattle.panel_drill.specs.Counting.{summary_of}
use Rattle.panel_drill.specs.Running.{drill_moments}

-- the line that tells a summary
abbrev pub summary_line : ℕ → ℕ → Summary → List ℕ
summary_line seed ticks summary =
    codes "drill seed " ++ decimal seed ++ codes " ticks " ++ decimal ticks
    ++ codes " zones " ++ decimal summary.zones ++ codes " outputs " ++ decimal summary.outputs
    ++ codes " counter " ++ decimal summary.counter ++ codes "\n"

-- the line of a site after so many ticks of the record of a seed
abbrev pub drill_line : Site → ℕ → ℕ → List ℕ
drill_line site seed ticks = summary_line seed ticks (summary_of site (drill_moments site seed ticks))
