-- A word that a panel keeps of another is one that the other made, the one of the stamp that was heard.
use Rattle.std.specs.Prelude.{◌≡◌, ℕ, Bool, List}
use Rattle.site_types.specs.declared.retained.Retained.{Retained}
use Rattle.site_types.specs.declared.site.Site.{Site}
use Rattle.site_types.specs.Done.{Done}
use Rattle.panel_rules.specs.Moments.{Moment, IsRun}
use Rattle.panel_rules.specs.Kept.{heard}
use Rattle.panel_rules.specs.Words.{kept_word_of, word_of}

-- the word that a panel keeps of a panel, itself included, is that panel's word of the tick that was heard of
-- it
abbrev pub KeptIsWord : Type 0
KeptIsWord =
    (site : Site) (kept : Retained) (done : List Done) (told : ℕ → List Moment → Bool) (moments : List Moment)
    (panel source : ℕ) → IsRun site.panels moments
    → kept_word_of site kept done told panel source moments
    ≡ word_of site kept done told source (heard site.panels panel source moments) moments

-- the stamp of the word kept is the tick that was heard, whatever befell
abbrev pub HeardIsStamp : Type 0
HeardIsStamp =
    (site : Site) (kept : Retained) (done : List Done) (told : ℕ → List Moment → Bool) (moments : List Moment)
    (panel source : ℕ)
    → (kept_word_of site kept done told panel source moments).stamp.0 ≡ heard site.panels panel source moments
