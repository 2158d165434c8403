-- Whether an output goes on at a turn of Drive: what is done in that tick or later changes nothing of it, whatever the facts.
use Rattle.std.proofs.Common.{◌≡◌, ◌≤◌, ◌++◌, ℕ, List}
use Rattle.site_types.specs.declared.retained.Retained.{Retained}
use Rattle.site_types.specs.declared.site.Site.{Site}
use Rattle.site_types.specs.Done.{Done}
use Rattle.site_types.proofs.LaterDone.{AreFrom}
use Rattle.output_calls.proofs.LaterDone.{goes_later as goes_on_later}
use Rattle.panel_rules.specs.Moments.{Moment, tick_of}
use Rattle.panel_rules.specs.Markers.{Facts}
use Rattle.panel_rules.specs.Outputs.{goes_on}

module _ (site : Site) (facts : ℕ → List Moment → Facts) (kept : Retained) (new old : List Done) (x : ℕ) (from : AreFrom x new) where
  pub goes_later : (output : ℕ) (before : List Moment) → tick_of before ≤ x
      → goes_on site facts kept (new ++ old) output before ≡ goes_on site facts kept old output before
  goes_later = goes_on_later site facts kept new old x from
