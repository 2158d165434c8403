-- What befalls the silence of a panel in a run, and that its sounders are then quiet as the rules say.
use Rattle.std.specs.Prelude.{◌≡◌, ◌==◌, ℕ, Bool, List, [], ◌∷◌, map, if◌then◌else◌}
use Rattle.std.specs.List.{range_with_len}
use Rattle.tick_units.specs.declared.task.Task.TheVariants.{Drive}
use Rattle.site_types.specs.declared.operation.Operation.{Operation}
use Rattle.site_types.specs.declared.operation.Operation.TheVariants.{Silence, Resound}
use Rattle.site_types.specs.declared.retained.Retained.{Retained}
use Rattle.site_types.specs.declared.site.Site.{Site}
use Rattle.site_types.specs.Done.{Done}
use Rattle.site_types.specs.Limits.{most_panels}
use Rattle.site_types.specs.Valid.{IsValid}
use Rattle.coincidence_rules.specs.Places.{zones_where}
use Rattle.sounder_control.specs.Quiet.{Call, Silenced, Resounded, Drove, is_quiet as is_quiet_over}
use Rattle.panel_rules.specs.Moments.{Moment, Began, Happened, Turned, Kept, tick_of}
use Rattle.panel_rules.specs.Markers.{Facts}
use Rattle.panel_rules.specs.Outputs.{is_quiet, released_at_effect}
use Rattle.output_calls.specs.DoneCalls.{IsLatestFirst, and_done_in}

-- what an operation that was done is to the silence of its panel
abbrev pub and_silencing : Operation → List Call → List Call
and_silencing Silence calls = Silenced ∷ calls
and_silencing Resound calls = Resounded ∷ calls
and_silencing _ calls = calls

-- the zones of a site that pass a test, a mask for each panel
abbrev pub zone_masks : Site → (ℕ → Bool) → List ℕ
zone_masks site test = map (λ panel. zones_where site panel test) (range_with_len 1 most_panels)

module _ (site : Site) (facts : ℕ → List Moment → Facts) (done : List Done) where
  -- what befalls the silence of a panel: the turns of its Drive, each with the zones that were released for
  -- the latest Effect turn, and as a tick begins what was done at the panel in the one before
  abbrev pub silence_calls : ℕ → List Moment → List Call
  silence_calls panel [] = []
  silence_calls panel (Began ∷ before) =
      and_done_in and_silencing panel (tick_of before) done (silence_calls panel before)
  silence_calls panel (Happened event ∷ before) = silence_calls panel before
  silence_calls panel (Turned other Drive ∷ before) =
      if other == panel then Drove (zone_masks site (released_at_effect site facts panel before))
      ∷ silence_calls panel before else silence_calls panel before
  silence_calls panel (Turned other task ∷ before) = silence_calls panel before
  silence_calls panel (Kept failed ∷ before) = silence_calls panel before

-- the sounders of a panel are quiet by these calls exactly where they are by the rules, at a turn of Drive
-- made now as at any moment
abbrev pub QuietByCalls : Type 0
QuietByCalls =
    (site : Site) (facts : ℕ → List Moment → Facts) (kept : Retained) (done : List Done) (panel : ℕ)
    (moments : List Moment) → IsValid site → IsLatestFirst done
    → is_quiet_over (silence_calls site facts done panel moments)
    ≡ is_quiet site facts kept done panel moments
