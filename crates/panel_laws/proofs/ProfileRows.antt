-- The rows of the profile.
use Rattle.std.proofs.Common.{◌≡◌, ℕ, ◌+◌, ◌-◌, ◌≤◌, ◌&&◌, inr, List, true, false, sym, ◌∙◌, ap, subst, arith}
use Rattle.site_types.specs.declared.retained.Retained.{Retained}
use Rattle.site_types.specs.declared.site.Site.{Site}
use Rattle.site_types.specs.Done.{Done}
use Rattle.site_types.specs.Profile.{network_of, spread_of}
use Rattle.panel_rules.specs.Moments.{Moment, tick_of, up_to}
use Rattle.panel_rules.specs.Ring.{AreJoined, IsWayUp, the_same, upward, downward}
use Rattle.panel_rules.specs.Zones.{panel_of_zone}
use Rattle.panel_rules.specs.Outputs.{delay_of, delay_of_plan, is_quiet, is_sounder, panel_of_output, panel_of_plan}
use Rattle.panel_rules.specs.Run.{facts_of}
use Rattle.panel_rules.specs.Due.{IsDueAfter, IsDueOut, own, by_way, by_itself}
use Rattle.panel_rules.specs.DueOutputs.{AreDue, IsDueAsked}
use Rattle.panel_laws.specs.ProfileLaws.{HasSignalledFor, SignalledOutputIsOn, WereJoined, at_home, over_the_network}
use Rattle.panel_laws.specs.ProfileLaws.{NetworkIsTheSum, SignalIsShown, JoinedPanelsShow, SingleDetectorIsShown}
use Rattle.panel_laws.specs.ProfileLaws.{DisablementIsShown}
use Rattle.panel_laws.proofs.Accepted.{accepted}
use Rattle.panel_laws.proofs.FacesShow.{due_output_shown, due_zone_shown, of_plan, plan_panel}
use Rattle.panel_laws.proofs.SettingsShow.{accepted_shown}
use Rattle.panel_rules.proofs.Stays.{up_to_here}

pub network_sum : NetworkIsTheSum
network_sum format = omega arith

pub signal_shown : SignalIsShown
signal_shown site kept done stored moments zone plan settled after is signal late =
    due_zone_shown site kept done stored moments zone plan plan.panel after (plan_panel site kept done after.valid zone plan is) is
    (record { settled = settled; signal = signal; late = own (sym (of_plan site kept done after.valid zone plan is)) late })

-- panels that were joined in a span were joined in each part of it
way_within : (panels : ℕ) (moments : List Moment) (from to first last later sooner : ℕ) → first ≤ later → sooner ≤ last
    → IsWayUp panels moments from to first last
    → IsWayUp panels moments from to later sooner
way_within panels moments from to first last later sooner l m way step tick on after before =
    way step tick on (omega (arith, l, after)) (omega (arith, m, before))

joined_within : (panels : ℕ) (moments : List Moment) (one other first last later sooner : ℕ) → first ≤ later → sooner ≤ last
    → AreJoined panels moments one other first last
    → AreJoined panels moments one other later sooner
joined_within panels moments one other first last later sooner l m (the_same e) = the_same e
joined_within panels moments one other first last later sooner l m (upward way) =
    upward (way_within panels moments one other first last later sooner l m way)
joined_within panels moments one other first last later sooner l m (downward way) =
    downward (way_within panels moments other one first last later sooner l m way)

due_by_network : (site : Site) (kept : Retained) (done : List Done) (moments : List Moment) (zone panel settled : ℕ) → 1 ≤ site.format
    → settled + network_of site.format ≤ tick_of moments
    → WereJoined site moments (panel_of_zone site zone) panel → IsDueAfter site kept done moments zone panel settled
due_by_network site kept done moments zone panel settled format late joined =
    by_way (tick_of moments - spread_of site.format) (tick_of moments - 1) (omega (arith, late)) (omega (arith, late)) (omega (arith, late, format))
    (joined_within site.panels moments (panel_of_zone site zone) panel (tick_of moments - network_of site.format) (tick_of moments)
    (tick_of moments - spread_of site.format) (tick_of moments - 1)
    (omega arith) (omega arith) joined)

pub joined_shown : JoinedPanelsShow
joined_shown site kept done stored moments zone plan panel settled after is p signal late joined =
    due_zone_shown site kept done stored moments zone plan panel after p is
    (record {
      settled = settled;
      signal = signal;
      late = due_by_network site kept done moments zone panel settled after.valid.forms.format.0 late
          (subst (λ q. WereJoined site moments q panel) (sym (of_plan site kept done after.valid zone plan is)) joined);
    })

pub single_shown : SingleDetectorIsShown
single_shown site kept done stored moments zone plan settled after is signals late =
    signal_shown site kept done stored moments zone plan settled after is (by_itself signals) (let e = signals.settles in omega (arith, e, late))

-- ---- outputs

due_out : (site : Site) (kept : Retained) (done : List Done) (moments : List Moment) (zone panel : ℕ) → 1 ≤ site.format
    → HasSignalledFor site kept done moments zone panel
    → IsDueOut site kept done moments zone panel
due_out site kept done moments zone panel format (at_home settled signal late home) =
    record { settled = settled; signal = signal; late = own home late }
due_out site kept done moments zone panel format (over_the_network settled signal late joined) =
    record { settled = settled; signal = signal; late = due_by_network site kept done moments zone panel settled format late joined }

pub signalled_on : SignalledOutputIsOn
signalled_on site kept done stored moments output plan after so =
    due_output_shown site kept done stored moments output plan after so.is
    (record {
      enabled = so.enabled;
      heard = ap (λ panel. is_sounder site output && is_quiet site (facts_of site kept done) kept done panel moments) here ∙ so.heard;
      asked = inr (record { begins = (let begun = so.begun in omega (arith, begun, no_delay)); each = each });
    })
  where
    here : panel_of_output site output ≡ plan.panel
    here = ap panel_of_plan so.is

    no_delay : delay_of site output ≡ 0
    no_delay = ap delay_of_plan so.is ∙ so.instant

    now : IsDueAsked site kept done moments output
    now =
        record {
          facts = so.facts;
          due =
              subst (λ panel. AreDue site kept done moments panel so.facts) (sym here)
              (record {
                released = λ zone t. due_out site kept done moments zone plan.panel after.valid.forms.format.0 (so.zones zone t);
                by_hand = λ zone t. absurd (let x : true ≡ false = sym t ∙ so.hands zone in cc);
                faults = so.faults;
              });
          asks = so.asks;
        }

    each : (tick : ℕ) → tick_of moments ≤ tick + delay_of site output → tick ≤ tick_of moments → IsDueAsked site kept done (up_to tick moments) output
    each tick low high =
        let e : tick_of moments ≡ tick = omega (arith, low, high, no_delay) in
        subst (λ t. IsDueAsked site kept done (up_to t moments) output) e
        (subst (λ m. IsDueAsked site kept done m output) (sym (up_to_here moments)) now)

-- ---- a disablement

pub disablement_shown : DisablementIsShown
disablement_shown site kept stored moments a setting valid run of_site was late none =
    let h = accepted site kept moments was.place a setting run was.is was.on was.by_keep was.stored in
    let format = valid.forms.format.0 in (
      h.holds (tick_of moments) (let s = h.soon in omega (arith, s, late, format)) none,
      accepted_shown site kept stored moments a setting valid run of_site was (omega (arith, late, format)) none,
    )
