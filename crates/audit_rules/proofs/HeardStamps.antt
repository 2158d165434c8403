-- What a panel hears is among what it may have heard.
use Rattle.std.proofs.Common.{◌≡◌, ◌≢◌, ◌⊎◌, ℕ, ◌+◌, ◌≤◌, ◌<◌, List, Bool, true, false, inl, inr, refl, sym, ◌∙◌, ap, subst, arith}
use Rattle.std.specs.Prelude.{nat_le}
use Rattle.std.proofs.lemmas.Bool.Decides.{leb_tells}
use Rattle.tick_units.specs.declared.task.Task.TheVariants.{Hold, Link}
use Rattle.site_types.specs.declared.site.Site.{Site}
use Rattle.site_types.specs.Profile.{network_of}
use Rattle.site_types.specs.Valid.{IsValid}
use Rattle.panel_rules.specs.Caused.{IsCausedAt}
use Rattle.panel_rules.specs.Kept.{heard, kept_at}
use Rattle.panel_rules.specs.Moments.{HaveAllTurned, IsPanel, IsRun, Moment, latest_turn, present, tick_of}
use Rattle.panel_rules.specs.Ring.{AreJoined}
use Rattle.panel_rules.specs.Zones.{panel_of_zone}
use Rattle.panel_rules.proofs.Deadlines.{own_caused}
use Rattle.panel_rules.proofs.Joined.{joined_heard, kept_caused}
use Rattle.panel_rules.proofs.KeptWords.{kept_is}
use Rattle.panel_rules.proofs.Turns.{tick_rises, turn_lag}
use Rattle.audit_rules.specs.CanCause.{CanBeShown, own, told}
use Rattle.audit_rules.specs.Hearing.{MayBeHeard, network_start}
use Rattle.audit_rules.specs.Laws.{HeardMayBe, HeldZoneCanBeShown, KeptZoneCanBeShown}

-- in a tick that has ended each panel has had its turn of a task
pub turned_now : (site : Site) (moments : List Moment) (panel : ℕ) → IsRun site.panels moments → HaveAllTurned site.panels moments
    → IsPanel site.panels panel → latest_turn panel Link moments ≡ tick_of moments
turned_now site moments panel run ended p =
    let lag = rw (ended.each panel Link p tt) at (turn_lag site.panels panel Link moments p tt run) in
    omega (arith, lag)

held_now : (site : Site) (moments : List Moment) (panel : ℕ) → IsRun site.panels moments → HaveAllTurned site.panels moments
    → IsPanel site.panels panel → latest_turn panel Hold moments ≡ tick_of moments
held_now site moments panel run ended p =
    let lag = rw (ended.each panel Hold p tt) at (turn_lag site.panels panel Hold moments p tt run) in
    omega (arith, lag)

pub heard_may_be : HeardMayBe
heard_may_be site moments panel source valid run ended p s =
    record {
      past = tick_rises (kept_at site.panels panel source moments) moments (kept_is site.panels panel source moments).past;
      recent = λ joined. elim (leb_tells (network_of site.format) (tick_of moments)) [ inl l ↦ long l.1 joined | inr l ↦ omega (arith, l.1) ];
    }
  where
    long : network_of site.format ≤ tick_of moments
        → AreJoined site.panels moments source panel (network_start site (tick_of moments)) (tick_of moments)
        → tick_of moments ≤ heard site.panels panel source moments + network_of site.format
    long l joined =
        let format = valid.forms.format.0 in
        let now = turned_now site moments panel run ended p in
        let came =
        joined_heard site.panels moments moments run present valid.forms.panels.1 source panel s p (network_start site (tick_of moments))
        (tick_of moments) (omega (arith, now)) (omega (arith, now, l, format)) joined in
        omega (arith, came, now, format)

pub held_shown : HeldZoneCanBeShown
held_shown site timeline kept done moments zone after h =
    let now = held_now site moments (panel_of_zone site zone) after.run after.ended after.panel in
    own refl (subst (IsCausedAt site kept done moments zone) now (own_caused site kept done moments zone after.run after.panel h))

pub kept_shown : KeptZoneCanBeShown
kept_shown site timeline kept done moments zone panel after p other h =
    let source = panel_of_zone site zone in
    told other
    (record {
      stamp = heard site.panels panel source moments;
      heard = heard_may_be site moments panel source after.valid after.run after.ended p after.panel;
      cause = kept_caused site kept done moments zone panel after.run after.panel h;
    })
