-- What is found broken after a tick is what breaks the rules of an audit.
use Rattle.std.proofs.Common.{◌≡◌, ◌∙◌, ◌&&◌, ℕ, List, sym, ap, subst, Some, slice_get}
use Rattle.site_types.specs.declared.output.Output.{Output}
use Rattle.site_types.specs.declared.retained.Retained.{Retained}
use Rattle.site_types.specs.declared.site.Site.{Site}
use Rattle.site_types.specs.declared.zone.Zone.{Zone}
use Rattle.site_types.specs.Done.{Done}
use Rattle.face_text.specs.declared.timeline.Timeline.{Timeline}
use Rattle.panel_rules.specs.Due.{IsDue}
use Rattle.panel_rules.specs.DueOutputs.{IsDueOn}
use Rattle.panel_rules.specs.Moments.{Moment, TickBlock, moments, tick_of, up_to}
use Rattle.panel_rules.specs.Outputs.{is_sounder}
use Rattle.audit_rules.specs.Breaches.{Breach, BreaksCause, BreaksIndication, BreaksOutput, BreaksZone, NamesOutput, NamesZone}
use Rattle.audit_rules.specs.Breaches.{befallen_by, done_by_text, kept_by_text, was_silenced}
use Rattle.audit_rules.specs.CanCause.{CanBeOn, CanBeShown}
use Rattle.audit_rules.specs.Shown.{text_tells_output, text_tells_zone}
use Rattle.panel_audit.specs.Broken.{IsBaseless, IsDark, IsHidden, IsUncaused}

some_is : {X : Type 0} (one other : X) → Some one ≡ Some other → one ≡ other
some_is one other e = cc

module _ (site : Site) (ticks : List TickBlock) (timeline : Timeline) (tick : ℕ) (before : List Moment) (until : up_to tick (moments ticks) ≡ before)
    (now : tick_of before ≡ tick) where
  abbrev kept : Retained
  kept = kept_by_text site ticks timeline

  abbrev done : List Done
  done = done_by_text site ticks timeline

  befallen : (breach : Breach) → breach.tick ≡ tick → befallen_by site ticks timeline breach.tick ≡ before
  befallen breach at = ap (λ n. up_to n (moments ticks)) at ∙ until

  then_is : (breach : Breach) → breach.tick ≡ tick → tick_of before ≡ breach.tick
  then_is breach at = now ∙ sym at

  same_zone : (place : ℕ) (one other : Zone) → slice_get site.zones place ≡ Some one → slice_get site.zones place ≡ Some other → one ≡ other
  same_zone place one other is are = some_is one other (sym is ∙ are)

  same_output : (place : ℕ) (one other : Output) → slice_get site.outputs place ≡ Some one → slice_get site.outputs place ≡ Some other → one ≡ other
  same_output place one other is are = some_is one other (sym is ∙ are)

  -- ---- indication

  pub hidden_breaks : (breach : Breach) (place : ℕ) (plan : Zone) → breach.tick ≡ tick → NamesZone site ticks timeline breach place plan
      → IsHidden site kept done timeline before breach.panel place → BreaksIndication site ticks timeline breach
  hidden_breaks breach place plan at names hidden = record {
    place = place;
    plan = plan;
    names = names;
    due = subst (λ m. IsDue site kept done m place breach.panel) (sym (befallen breach at)) hidden.due;
    hidden =
        ap (λ z. text_tells_zone timeline breach.panel z breach.tick) (same_zone place plan hidden.plan names.plan_is hidden.plan_is)
        ∙ ap (λ n. text_tells_zone timeline breach.panel hidden.plan n) (sym (then_is breach at)) ∙ hidden.hidden;
  }

  pub broken_hides : (breach : Breach) → breach.tick ≡ tick → BreaksIndication site ticks timeline breach
      → (place : ℕ) × (plan : Zone) × NamesZone site ticks timeline breach place plan × IsHidden site kept done timeline before breach.panel place
  broken_hides breach at broken =
      let hidden : IsHidden site kept done timeline before breach.panel broken.place = record {
        plan = broken.plan;
        plan_is = broken.names.plan_is;
        due = subst (λ m. IsDue site kept done m broken.place breach.panel) (befallen breach at) broken.due;
        hidden = ap (λ n. text_tells_zone timeline breach.panel broken.plan n) (then_is breach at) ∙ broken.hidden;
      } in
      (broken.place, broken.plan, broken.names, hidden)

  -- ---- zones

  pub uncaused_breaks : (breach : Breach) (place : ℕ) (plan : Zone) → breach.tick ≡ tick → NamesZone site ticks timeline breach place plan
      → IsUncaused site kept done timeline before breach.panel place → BreaksZone site ticks timeline breach
  uncaused_breaks breach place plan at names bad = record {
    place = place;
    plan = plan;
    names = names;
    shown =
        ap (λ z. text_tells_zone timeline breach.panel z breach.tick) (same_zone place plan bad.plan names.plan_is bad.plan_is)
        ∙ ap (λ n. text_tells_zone timeline breach.panel bad.plan n) (sym (then_is breach at)) ∙ bad.shown;
    uncaused = λ can. bad.uncaused (subst (λ m. CanBeShown site timeline kept done m breach.panel place) (befallen breach at) can);
  }

  pub broken_uncaused : (breach : Breach) → breach.tick ≡ tick → BreaksZone site ticks timeline breach
      → (place : ℕ) × (plan : Zone) × NamesZone site ticks timeline breach place plan × IsUncaused site kept done timeline before breach.panel place
  broken_uncaused breach at broken =
      let bad : IsUncaused site kept done timeline before breach.panel broken.place = record {
        plan = broken.plan;
        plan_is = broken.names.plan_is;
        shown = ap (λ n. text_tells_zone timeline breach.panel broken.plan n) (then_is breach at) ∙ broken.shown;
        uncaused = λ can. broken.uncaused (subst (λ m. CanBeShown site timeline kept done m breach.panel broken.place) (sym (befallen breach at)) can);
      } in
      (broken.place, broken.plan, broken.names, bad)

  -- ---- outputs

  pub dark_breaks : (breach : Breach) (place : ℕ) (plan : Output) → breach.tick ≡ tick → NamesOutput site ticks timeline breach place plan
      → IsDark site kept done timeline before place → BreaksOutput site ticks timeline breach
  dark_breaks breach place plan at names dark =
      let same = same_output place plan dark.plan names.plan_is dark.plan_is in
      record {
        place = place;
        plan = plan;
        names = names;
        due = subst (λ m. IsDueOn site kept done m place) (sym (befallen breach at)) dark.due.due;
        off = ap (λ o. text_tells_output timeline o breach.tick) same ∙ ap (λ n. text_tells_output timeline dark.plan n) (sym (then_is breach at)) ∙ dark.off;
        unexcused =
            ap (λ (o : Output). is_sounder site place && was_silenced o.panel breach.tick done) same
            ∙ ap (λ n. is_sounder site place && was_silenced dark.plan.panel n done) (sym (then_is breach at)) ∙ dark.due.unexcused;
      }

  pub broken_dark : (breach : Breach) → breach.tick ≡ tick → BreaksOutput site ticks timeline breach
      → (place : ℕ) × (plan : Output) × NamesOutput site ticks timeline breach place plan × IsDark site kept done timeline before place
  broken_dark breach at broken =
      let dark : IsDark site kept done timeline before broken.place = record {
        plan = broken.plan;
        plan_is = broken.names.plan_is;
        due = record {
          due = subst (λ m. IsDueOn site kept done m broken.place) (befallen breach at) broken.due;
          unexcused = ap (λ n. is_sounder site broken.place && was_silenced broken.plan.panel n done) (then_is breach at) ∙ broken.unexcused;
        };
        off = ap (λ n. text_tells_output timeline broken.plan n) (then_is breach at) ∙ broken.off;
      } in
      (broken.place, broken.plan, broken.names, dark)

  -- ---- causes

  pub baseless_breaks : (breach : Breach) (place : ℕ) (plan : Output) → breach.tick ≡ tick → NamesOutput site ticks timeline breach place plan
      → IsBaseless site kept done timeline before place → BreaksCause site ticks timeline breach
  baseless_breaks breach place plan at names bad = record {
    place = place;
    plan = plan;
    names = names;
    on =
        ap (λ o. text_tells_output timeline o breach.tick) (same_output place plan bad.plan names.plan_is bad.plan_is)
        ∙ ap (λ n. text_tells_output timeline bad.plan n) (sym (then_is breach at)) ∙ bad.on;
    uncaused = λ can. bad.uncaused (subst (λ m. CanBeOn site timeline kept done m place) (befallen breach at) can);
  }

  pub broken_baseless : (breach : Breach) → breach.tick ≡ tick → BreaksCause site ticks timeline breach
      → (place : ℕ) × (plan : Output) × NamesOutput site ticks timeline breach place plan × IsBaseless site kept done timeline before place
  broken_baseless breach at broken =
      let bad : IsBaseless site kept done timeline before broken.place = record {
        plan = broken.plan;
        plan_is = broken.names.plan_is;
        on = ap (λ n. text_tells_output timeline broken.plan n) (then_is breach at) ∙ broken.on;
        uncaused = λ can. broken.uncaused (subst (λ m. CanBeOn site timeline kept done m broken.place) (sym (befallen breach at)) can);
      } in
      (broken.place, broken.plan, broken.names, bad)
