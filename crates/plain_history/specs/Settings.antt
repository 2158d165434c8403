-- Settings and the marks that operations leave, as the definitions have them.
use Rattle.std.specs.Prelude.{◌≡◌, ◌<◌, ℕ, ◌==◌, ◌&&◌, Bool, false, List, length, nat_le, nat_lt, Option, if◌then◌else◌}
use Rattle.std.specs.Prelude.{slice_index_or}
use Rattle.site_types.specs.declared.site.Site.{Site}
use Rattle.site_types.specs.declared.retained.Retained.{Retained}
use Rattle.site_types.specs.Done.{Done as DoneOf, in_force}
use Rattle.site_types.specs.Done.{Setting as SettingOf, ZoneOff as ZoneOffOf, InTest as InTestOf}
use Rattle.site_types.specs.Done.{cancels, is_override, moves_floor, mutes, silence_then}
use Rattle.plain_history.specs.declared.mark.Mark.{Mark}
use Rattle.plain_history.specs.declared.settings.Settings.{Settings}
use Rattle.plain_history.specs.Histories.{all_done}
use Rattle.plain_history.specs.declared.mark.Mark.TheVariants.{Floor, Cancel, Mute}
use Rattle.plain_history.specs.declared.settings_shown.ZoneSetting.{ZoneSetting}
use Rattle.plain_history.specs.declared.settings_shown.ZoneSetting.TheVariants.{Off, Test}

-- an operation leaves the mark
abbrev pub leaves : Site → Mark → DoneOf → Bool
leaves site (Floor zone) = moves_floor site zone
leaves site (Cancel zone) = cancels zone
leaves site (Mute panel) = mutes panel

-- a setting of a zone
abbrev pub zone_setting : ZoneSetting → ℕ → SettingOf
zone_setting Off zone = ZoneOffOf zone
zone_setting Test zone = InTestOf zone

-- an operation is an override of a panel, done in a tick from a first on and before another
abbrev pub is_override_in : ℕ → ℕ → ℕ → DoneOf → Bool
is_override_in panel first x d = d.panel == panel && is_override d.operation && nat_le first d.tick && nat_lt d.tick x

-- the silence of a panel before a tick, if there is one, once an operation more was done
abbrev pub silence_after : ℕ → ℕ → DoneOf → Option ℕ → Option ℕ
silence_after panel x d before =
    if d.panel == panel && nat_lt d.tick x then silence_then d.operation d.tick before else before

-- a flag for each output of the site says whether it passes a test
abbrev pub AreFlags : Site → List Bool → (ℕ → Bool) → Type 0
AreFlags site flags test = (place : ℕ) → place < length site.outputs → slice_index_or flags place false ≡ test place

-- what a rule makes of the site, of what was kept and of the operations done
abbrev pub settled : {A : Type 0} → (Site → Retained → List DoneOf → A) → Settings → A
settled rule settings = rule settings.site.now settings.kept.now (all_done settings.done.now)

-- a setting is in force at a tick
abbrev pub is_set : Settings → SettingOf → ℕ → Bool
is_set settings setting tick = in_force settings.site.now settings.kept.now setting tick (all_done settings.done.now)
