-- What the operations make of outputs, once all of them were done.
use Rattle.std.specs.Prelude.{◌==◌, ℕ, Bool, true, false, List, [], ◌∷◌, length}
use Rattle.std.specs.Prelude.{if◌then◌else◌}
use Rattle.site_types.specs.declared.operation.Operation.{Operation}
use Rattle.site_types.specs.declared.operation.Operation.TheVariants.{Silence, Resound}
use Rattle.site_types.specs.declared.retained.Retained.{Retained}
use Rattle.site_types.specs.declared.site.Site.{Site}
use Rattle.site_types.specs.Done.{Done, OutputOff}
use Rattle.blocked_points.specs.Blocks.{AreBlockFlags}
use Rattle.blocked_points.specs.Operations.{value_behind}
use Rattle.excused_outputs.specs.declared.output_settings.OutputSettings.{OutputSettings}

-- whether a panel is silenced after one of its operations
abbrev pub silenced_by : Operation → Bool → Bool
silenced_by Silence before = true
silenced_by Resound before = false
silenced_by _ before = before

-- whether the last silence or resound of a panel among these, the newest first, is a silence
abbrev pub silenced_behind : ℕ → List Done → Bool
silenced_behind panel [] = false
silenced_behind panel (d ∷ before) =
    if d.panel == panel then silenced_by d.operation (silenced_behind panel before) else silenced_behind panel before

-- the settings once all of these operations were done
pub record SettingsStand (site : Site) (kept : Retained) (done : List Done) (settings : OutputSettings) : Type 0 where
  pub off : AreBlockFlags (length site.outputs) (λ place. value_behind site kept done (OutputOff place))
      settings.off.items
  pub silenced : AreBlockFlags 256 (λ panel. silenced_behind panel done) settings.silenced
