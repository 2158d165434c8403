-- The face of the rules keeps what the rules promise of it, and the face shown is that one.
use Rattle.std.proofs.Common.{◌≡◌, ◌⊎◌, ◌∙◌, ◌-◌, ℕ, true, List, sym, ap, subst, arith}
use Rattle.site_types.specs.declared.retained.Retained.{Retained}
use Rattle.site_types.specs.declared.site.Site.{Site}
use Rattle.site_types.specs.Bits.{has_bit, has_point}
use Rattle.site_types.specs.Done.{value_set}
use Rattle.face_text.specs.declared.face.Face.{Face}
use Rattle.face_text.specs.Faces.{is_in_fire}
use Rattle.panel_rules.specs.Batches.{kept_after}
use Rattle.panel_rules.specs.Faces.{face_with}
use Rattle.panel_rules.specs.Moments.{Moment, IsRun, IsPanel, HaveAllTurned}
use Rattle.panel_rules.specs.States.{supply_number}
use Rattle.panel_laws.specs.FaceLaws.{HasEnded, shows_first, shows_output, shows_zone}
use Rattle.panel_laws.specs.ShownSettings.{shows_setting}
use Rattle.panel_laws.proofs.Away.{away_is_missing}
use Rattle.panel_laws.proofs.ClearedCounts.{cleared_counts}
use Rattle.panel_laws.proofs.CountersAddUp.{add_up}
use Rattle.panel_laws.proofs.CutOff.{cut_off_silent}
use Rattle.panel_laws.proofs.EventsOfSite.{of_site}
use Rattle.panel_laws.proofs.FacesShow.{due_output_shown, due_zone_shown, shown_output_caused, shown_zone_caused}
use Rattle.panel_laws.proofs.FireTold.{fire_counted}
use Rattle.panel_laws.proofs.FirstsShow.{lone_zone_shown}
use Rattle.panel_laws.proofs.IndicationsShow.{indicated_shown}
use Rattle.panel_laws.proofs.OwnTick.{link_shown, piece_shown, stands_again}
use Rattle.panel_laws.proofs.ProfileRows.{disablement_shown, joined_shown, signal_shown, signalled_on, single_shown}
use Rattle.panel_laws.proofs.SettingsShow.{accepted_shown, settings_shown}
use Rattle.panel_laws.proofs.Supplies.{bad_supply_shown}
use Rattle.panel_core.specs.declared.system.System.{System}
use Rattle.panel_parts.specs.Applied.{done_so_far}
use Rattle.panel_core.specs.PromisedFaces.{PromisedCounter, PromisedFaults, PromisedOutputs, PromisedSettings, PromisedZones}
use Rattle.panel_core.specs.ShownFaces.{ShowsFace}
use Rattle.panel_core.specs.Stands.{HasPanel, StandsFor}
use Rattle.panel_core.proofs.Shows.{asked_member}

module _ (system : System) (panel : ℕ) (face : Face) (has : HasPanel panel system) (shown : ShowsFace system panel face) where
  module _ (site : Site) (kept : Retained) (moments : List Moment) (h : StandsFor site kept moments system) (run : IsRun site.panels moments) where
    abbrev ruled : ℕ → Face
    ruled owner = face_with site kept (done_so_far site kept moments) (kept_after site kept moments) owner moments

    member : IsPanel site.panels panel
    member = asked_member site kept moments system panel has h

    -- what holds of the face of the rules holds of the one shown
    on_face : (Holds : Face → Type 0) → Holds (ruled panel) → Holds face
    on_face Holds holds = subst Holds (sym (shown site kept moments h run)) holds

    -- so does what holds of the panel that a thing is of
    on_own : (Holds : Face → Type 0) (owner : ℕ) → owner ≡ panel → Holds (ruled owner) → Holds face
    on_own Holds owner at holds = on_face Holds (subst (λ q. Holds (ruled q)) at holds)

    after_tick : HaveAllTurned site.panels moments → HasEnded site moments
    after_tick turned = record { valid = h.valid; run = run; ended = turned }

  pub zones : PromisedZones system panel face
  zones = record {
    due_zone_is_shown = λ site kept moments h run turned zone plan is due.
        on_face site kept moments h run (λ f. shows_zone f plan ≡ true)
        (due_zone_shown site kept (done_so_far site kept moments) (kept_after site kept moments) moments zone plan panel
        (after_tick site kept moments h run turned) (member site kept moments h run) is due);
    shown_zone_is_caused = λ site kept moments h run turned zone plan is on.
        shown_zone_caused site kept (done_so_far site kept moments) (kept_after site kept moments) moments zone plan panel
        (after_tick site kept moments h run turned) (member site kept moments h run) is
        (subst (λ f. shows_zone f plan ≡ true) (shown site kept moments h run) on);
    signal_is_shown = λ site kept moments h run turned zone plan is settled at signals late.
        on_own site kept moments h run (λ f. shows_zone f plan ≡ true) plan.panel at
        (signal_shown site kept (done_so_far site kept moments) (kept_after site kept moments) moments zone plan settled
        (after_tick site kept moments h run turned) is signals late);
    joined_signal_is_shown = λ site kept moments h run turned zone plan is settled signals late joined.
        on_face site kept moments h run (λ f. shows_zone f plan ≡ true)
        (joined_shown site kept (done_so_far site kept moments) (kept_after site kept moments) moments zone plan panel settled
        (after_tick site kept moments h run turned) is (member site kept moments h run) signals late joined);
    single_detector_is_shown = λ site kept moments h run turned zone plan is settled at signals late.
        on_own site kept moments h run (λ f. shows_zone f plan ≡ true) plan.panel at
        (single_shown site kept (done_so_far site kept moments) (kept_after site kept moments) moments zone plan settled
        (after_tick site kept moments h run turned) is signals late);
    lone_zone_is_shown = λ site kept moments h run turned zone plan is at signals.
        on_own site kept moments h run (λ f. (shows_zone f plan ≡ true) ⊎ (shows_first f plan ≡ true)) plan.panel at
        (lone_zone_shown site kept (done_so_far site kept moments) (kept_after site kept moments) moments zone plan
        (after_tick site kept moments h run turned) is signals);
    stands_again = λ site kept moments h run turned zone plan is reset addition settled at signals soon late.
        on_own site kept moments h run (λ f. shows_zone f plan ≡ true) plan.panel at
        (stands_again site kept (done_so_far site kept moments) (kept_after site kept moments) moments zone plan reset addition settled
        (after_tick site kept moments h run turned) is signals soon late);
  }

  pub outputs : PromisedOutputs system panel face
  outputs = record {
    due_output_is_on = λ site kept moments h run turned output plan is at due.
        on_own site kept moments h run (λ f. shows_output f plan ≡ true) plan.panel at
        (due_output_shown site kept (done_so_far site kept moments) (kept_after site kept moments) moments output plan
        (after_tick site kept moments h run turned) is due);
    indicated_output_is_on = λ site kept moments h run turned output plan is at indicated.
        on_own site kept moments h run (λ f. shows_output f plan ≡ true) plan.panel at
        (indicated_shown site kept (done_so_far site kept moments) (kept_after site kept moments) moments output plan
        (after_tick site kept moments h run turned) is indicated);
    signalled_output_is_on = λ site kept moments h run turned output plan is at signalled.
        on_own site kept moments h run (λ f. shows_output f plan ≡ true) plan.panel at
        (signalled_on site kept (done_so_far site kept moments) (kept_after site kept moments) moments output plan
        (after_tick site kept moments h run turned) signalled);
    on_output_is_caused = λ site kept moments h run turned output plan is at on.
        shown_output_caused site kept (done_so_far site kept moments) (kept_after site kept moments) moments output plan
        (after_tick site kept moments h run turned) is
        (subst (λ q. shows_output (ruled site kept moments h run q) plan ≡ true) (sym at)
        (subst (λ f. shows_output f plan ≡ true) (shown site kept moments h run) on));
  }

  pub faults : PromisedFaults system panel face
  faults = record {
    away_point_is_missing = λ site kept moments h run turned point first plan is at away free.
        on_own site kept moments h run (λ f. has_point f.faults.missing plan.line plan.address ≡ true) plan.panel at
        (away_is_missing site kept (done_so_far site kept moments) (kept_after site kept moments) moments point first plan
        (after_tick site kept moments h run turned) is away free);
    bad_supply_is_shown = λ site kept moments h run turned kind first bad.
        on_face site kept moments h run (λ f. has_bit f.faults.supply (supply_number kind) ≡ true)
        (bad_supply_shown site kept (done_so_far site kept moments) (kept_after site kept moments) moments panel kind first
        (after_tick site kept moments h run turned) (member site kept moments h run) bad);
    cut_off_panel_is_silent = λ site kept moments h run turned other first there cut.
        on_face site kept moments h run (λ f. has_bit f.faults.silent (other - 1) ≡ true)
        (cut_off_silent site kept (done_so_far site kept moments) (kept_after site kept moments) moments panel other first
        (after_tick site kept moments h run turned) (member site kept moments h run) there cut);
    piece_is_shown = λ site kept moments h run turned line piece plan low high is last. (
        let both = piece_shown site kept (done_so_far site kept moments) (kept_after site kept moments) moments panel line piece plan
        (after_tick site kept moments h run turned) (member site kept moments h run) low high is last in (
          λ opened. on_face site kept moments h run (λ f. has_bit f.faults.broken (line - 1) ≡ true) (both.0 opened),
          λ short. on_face site kept moments h run (λ f. has_bit f.faults.shorted (line - 1) ≡ true) (both.1 short),
        ));
    link_is_shown = λ site kept moments h run turned link low high of down.
        on_face site kept moments h run (λ f. has_bit f.faults.links (link - 1) ≡ true)
        (link_shown site kept (done_so_far site kept moments) (kept_after site kept moments) moments panel link
        (after_tick site kept moments h run turned) (member site kept moments h run) low high of down);
  }

  pub settings : PromisedSettings system panel face
  settings = record {
    settings_are_shown = λ site kept moments h run setting there.
        ap (λ f. shows_setting site f setting) (shown site kept moments h run)
        ∙ settings_shown site kept (done_so_far site kept moments) (kept_after site kept moments) moments panel setting h.valid there;
    accepted_is_shown = λ site kept moments h run a setting accepted at late none.
        on_own site kept moments h run (λ f. shows_setting site f setting ≡ value_set a.request.operation) a.request.panel at
        (accepted_shown site kept (kept_after site kept moments) moments a setting h.valid run (of_site site moments h.events) accepted late none);
    disablement_is_shown = λ site kept moments h run a setting accepted at late none.
        on_own site kept moments h run (λ f. shows_setting site f setting ≡ value_set a.request.operation) a.request.panel at
        (disablement_shown site kept (kept_after site kept moments) moments a setting h.valid run (of_site site moments h.events) accepted late none).1;
  }

  pub counter : PromisedCounter system panel face
  counter = record {
    fire_is_counted = λ site kept moments h run. (
        let there = member site kept moments h run in
        let eight = h.valid.forms.panels.1 in
        ap is_in_fire (shown site kept moments h run)
        ∙ fire_counted site kept (done_so_far site kept moments) (kept_after site kept moments) moments panel (there.0, omega (arith, there.1, eight)));
    counter_adds_up = λ site kept moments h run sized counters none.
        ap (λ (f : Face). f.counter) (shown site kept moments h run)
        ∙ add_up site kept moments panel h.valid.forms.panels.1 (member site kept moments h run) sized counters none;
    cleared_counter_adds_up = λ site kept moments h run before sized counters last.
        ap (λ (f : Face). f.counter) (shown site kept moments h run)
        ∙ cleared_counts site kept moments panel before h.valid.forms.panels.1 (member site kept moments h run) sized counters last;
  }
