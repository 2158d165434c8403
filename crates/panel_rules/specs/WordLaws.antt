-- What panels keep of one another is what goes round the ring.
use Rattle.std.specs.Prelude.{◌≡◌, ◌≤◌, ℕ, Bool, List}
use Rattle.site_types.specs.declared.retained.Retained.{Retained}
use Rattle.site_types.specs.declared.site.Site.{Site}
use Rattle.site_types.specs.Done.{Done}
use Rattle.panel_links.specs.Words.{IsNewest}
use Rattle.panel_links.specs.Kept.{kept_word}
use Rattle.panel_rules.specs.Moments.{Moment, IsPanel}
use Rattle.panel_rules.specs.Words.{kept_word_of, ring_calls}

-- the word that a panel keeps of another is the one that the ring keeps, turn by turn
abbrev pub KeptByTheRing : Type 0
KeptByTheRing =
    (site : Site) (kept : Retained) (done : List Done) (told : ℕ → List Moment → Bool) (moments : List Moment)
    (panel source : ℕ) → site.panels ≤ 8 → IsPanel site.panels panel → IsPanel site.panels source
    → kept_word site.panels source panel (ring_calls site kept done told moments) ≡ kept_word_of site kept
    done told panel source moments

-- the word that a panel keeps of another is the one of the greatest stamp over all chains of turns of Link from the
-- other panel, over links that were up, in ticks that carried it, or the empty one
abbrev pub NewestOverChains : Type 0
NewestOverChains =
    (site : Site) (kept : Retained) (done : List Done) (told : ℕ → List Moment → Bool) (moments : List Moment)
    (panel source : ℕ) → site.panels ≤ 8 → IsPanel site.panels panel → IsPanel site.panels source
    → IsNewest site.panels source panel (ring_calls site kept done told moments)
    (kept_word_of site kept done told panel source moments)
