-- Two accounts of what was kept and done that make the same of outputs and faults too.
use Rattle.std.specs.Prelude.{◌≡◌, ◌≤◌, ℕ, List}
use Rattle.site_types.specs.declared.site.Site.{Site}
use Rattle.site_types.specs.Done.{DelaysOff, OutputOff, PointOff, ZoneOff, in_force, override_done_in, silence_before}
use Rattle.site_types.specs.Valid.{IsValid}
use Rattle.panel_rules.specs.Moments.{Moment, tick_of}
use Rattle.panel_rules.specs.Outputs.{is_on}
use Rattle.panel_rules.specs.Run.{facts_of, faults_with, tells_fault}
use Rattle.audit_laws.specs.AlikeZones.{Account, AreAlikeForZones}
use Rattle.audit_laws.specs.RecordedMoments.{without_failures}

-- up to a tick they are alike for zones; the same points, zones and outputs are disabled, and the same delays off;
-- the same overrides were done, and each panel's last silence or resound is the same
pub record AreAlikeAccounts (site : Site) (one other : Account) (tick : ℕ) : Type 0 where
  pub zones : AreAlikeForZones site one other tick
  pub points_off : (point x : ℕ) → x ≤ tick
      → in_force site one.kept (PointOff point) x one.done ≡ in_force site other.kept (PointOff point) x other.done
  pub zones_off : (zone x : ℕ) → x ≤ tick
      → in_force site one.kept (ZoneOff zone) x one.done ≡ in_force site other.kept (ZoneOff zone) x other.done
  pub outputs_off : (output x : ℕ) → x ≤ tick
      → in_force site one.kept (OutputOff output) x one.done ≡ in_force site other.kept (OutputOff output) x other.done
  pub delays_off : (panel x : ℕ) → panel ≤ site.panels → x ≤ tick
      → in_force site one.kept (DelaysOff panel) x one.done ≡ in_force site other.kept (DelaysOff panel) x other.done
  pub overrides : (panel first x : ℕ) → x ≤ tick
      → override_done_in panel first x one.done ≡ override_done_in panel first x other.done
  pub silences : (panel x : ℕ) → x ≤ tick → silence_before panel x one.done ≡ silence_before panel x other.done

-- an output is on by one of two accounts that are alike up to now, with what befell as a record tells it, exactly where
-- it is by the other, with all that befell
abbrev pub AlikeOutputsAreOn : Type 0
AlikeOutputsAreOn =
    (site : Site) (one other : Account) (moments : List Moment) (output : ℕ) → IsValid site
    → AreAlikeAccounts site one other (tick_of moments)
    → is_on site (facts_of site one.kept one.done) one.kept one.done output (without_failures moments)
    ≡ is_on site (facts_of site other.kept other.done) other.kept other.done output moments

-- the same faults of a panel stand by one of two accounts that are alike up to now, with what befell as a record tells
-- it, and by the other, with all that befell
abbrev pub AlikeFaultsStand : Type 0
AlikeFaultsStand =
    (site : Site) (one other : Account) (moments : List Moment) (panel : ℕ) → IsValid site
    → AreAlikeAccounts site one other (tick_of moments)
    → faults_with site one.kept one.done (tells_fault site one.kept one.done) panel (without_failures moments)
    ≡ faults_with site other.kept other.done (tells_fault site other.kept other.done) panel moments
