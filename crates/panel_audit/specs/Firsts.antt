-- The first breach after a tick.
use Rattle.std.specs.Prelude.{◌≡◌, ℕ, false, List, Option, Some, None}
use Rattle.site_types.specs.declared.site.Site.{Site}
use Rattle.face_text.specs.declared.timeline.Timeline.{Timeline}
use Rattle.panel_rules.specs.Moments.{TickBlock}
use Rattle.audit_rules.specs.Breaches.{Breach, BreaksRule, breaks_earlier}

-- of the breaches of some kind there is none, or this one, before which none comes
abbrev pub IsFirstOf : (Breach → Type 0) → Option Breach → Type 0
IsFirstOf Breaks None = (breach : Breach) → ¬ Breaks breach
IsFirstOf Breaks (Some first) =
    Breaks first × ((other : Breach) → Breaks other → breaks_earlier other first ≡ false)

module _ (site : Site) (ticks : List TickBlock) (timeline : Timeline) where
  -- some rule is broken after a tick
  pub record BreaksIn (tick : ℕ) (breach : Breach) : Type 0 where
    pub tick_is : breach.tick ≡ tick
    pub breaks : BreaksRule site ticks timeline breach.rule breach

  abbrev pub FirstInTick : ℕ → Option Breach → Type 0
  FirstInTick tick = IsFirstOf (BreaksIn tick)
