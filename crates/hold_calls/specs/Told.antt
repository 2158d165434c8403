-- What a panel's turns are told from elsewhere, each by what had befallen before it.
use Rattle.std.specs.Prelude.{ℕ, Bool, List}
use Rattle.site_types.specs.declared.retained.Retained.{Retained}
use Rattle.site_types.specs.declared.site.Site.{Site}
use Rattle.site_types.specs.Done.{Done}
use Rattle.panel_rules.specs.Kept.{heard}
use Rattle.panel_rules.specs.Markers.{Facts}
use Rattle.panel_rules.specs.Moments.{Moment}
use Rattle.panel_rules.specs.Run.{facts_of}
use Rattle.panel_rules.specs.States.{is_up}

-- the facts of a turn of Effect of a panel, the stamp of the word heard of each panel, and which links are up
pub record Told : Type 0 where
  pub facts : ℕ → List Moment → Facts
  pub stamps : List Moment → ℕ → ℕ
  pub up : List Moment → ℕ → Bool

-- in a ring of panels that hand their words on
abbrev pub told_in_ring : Site → Retained → List Done → ℕ → Told
told_in_ring site kept done panel =
    record {
      facts = facts_of site kept done;
      stamps = λ before source. heard site.panels panel source before;
      up = λ before link. is_up link before;
    }
