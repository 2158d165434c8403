-- The words of a run stay as more is done.
use Rattle.std.specs.Prelude.{ℕ}
use Rattle.site_types.specs.declared.retained.Retained.{Retained}
use Rattle.site_types.specs.declared.site.Site.{Site}
use Rattle.panel_rules.specs.Run.{tells_fault}
use Rattle.panel_rules.specs.Words.{word_made, kept_word_of, ring_calls}
use Rattle.later_operations.specs.Later.{StaysAsMoreIsDone}

-- the word that a panel makes in a turn of Hold
abbrev pub WordsStay : Type 0
WordsStay = (site : Site) (kept : Retained) (panel : ℕ)
    → StaysAsMoreIsDone (λ done moments. word_made site kept done (tells_fault site kept done) panel moments)

-- whether that word tells a fault
abbrev pub ToldStay : Type 0
ToldStay = (site : Site) (kept : Retained) (panel : ℕ)
    → StaysAsMoreIsDone (λ done moments. tells_fault site kept done panel moments)

-- the word of a panel that another one keeps
abbrev pub KeptWordsStay : Type 0
KeptWordsStay =
    (site : Site) (kept : Retained) (panel source : ℕ)
    → StaysAsMoreIsDone
    (λ done moments. kept_word_of site kept done (tells_fault site kept done) panel source moments)

-- what befell the ring
abbrev pub RingStays : Type 0
RingStays = (site : Site) (kept : Retained)
    → StaysAsMoreIsDone (λ done moments. ring_calls site kept done (tells_fault site kept done) moments)
