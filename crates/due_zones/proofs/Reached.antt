-- A signal that counts from a tick on has come where it has come on the zone's own panel, or in the latest window.
use Rattle.std.proofs.Common.{◌≡◌, ◌↔◌, ◌≤◌, ◌+◌, ◌-◌, ◌==◌, ◌⊎◌, inl, inr, ℕ, Bool, true, false, List, Option, Some, None, sym, ◌∙◌, ap, subst, arith, rules}
use Rattle.std.specs.Prelude.{IsTrue}
use Rattle.site_types.specs.declared.retained.Retained.{Retained}
use Rattle.site_types.specs.declared.site.Site.{Site}
use Rattle.site_types.specs.Done.{Done}
use Rattle.site_types.specs.Profile.{settled_of, signal_of, spread_of}
use Rattle.site_types.specs.Valid.{IsValid}
use Rattle.panel_rules.specs.Due.{IsDueAfter, by_way, own}
use Rattle.panel_rules.specs.Moments.{Moment, tick_of}
use Rattle.panel_rules.specs.Ring.{AreJoined}
use Rattle.panel_rules.specs.Zones.{panel_of_zone}
use Rattle.cause_effect.proofs.Truths.{equal_number}
use Rattle.panel_laws.proofs.AnswerLaws.{eq_is}
use Rattle.joined_panels.specs.Latest.{IsLatestTick}
use Rattle.joined_panels.specs.Windows.{IsWindow}
use Rattle.due_zones.specs.declared.reach.Reach.{Reach}
use Rattle.due_zones.specs.Reaching.{CameRound, HasReach, IsHome}

module _ (site : Site) (kept : Retained) (done : List Done) (moments : List Moment) (zone panel : ℕ) where
  came_by : (settled first last : ℕ) (window : Option ℕ) → IsLatestTick (IsWindow site moments (panel_of_zone site zone) panel) window
      → settled + settled_of site.format ≤ first → IsWindow site moments (panel_of_zone site zone) panel first → CameRound site.format settled window
  came_by settled first last None latest l w = latest first w
  came_by settled first last (Some late) latest l w = let m = latest.1 first w in omega (arith, l, m)

  -- a signal that is due has come on the zone's own panel or in the latest window
  pub has_come : (settled : ℕ) (window : Option ℕ) → IsLatestTick (IsWindow site moments (panel_of_zone site zone) panel) window
      → IsDueAfter site kept done moments zone panel settled
      → ((panel ≡ panel_of_zone site zone) × (settled + signal_of site.format ≤ tick_of moments)) ⊎ CameRound site.format settled window
  has_come settled window latest (own at l) = inl (at, l)
  has_come settled window latest (by_way first last from by ends joined) =
      inr (came_by settled first last window latest from (record {
        past = by;
        joined = (let e : last ≡ first + spread_of site.format - 1 = omega (arith, ends) in
            subst (λ n. AreJoined site.panels moments (panel_of_zone site zone) panel first n) e joined);
      }))

  by_window : (settled : ℕ) (window : Option ℕ) → IsValid site → IsLatestTick (IsWindow site moments (panel_of_zone site zone) panel) window
      → CameRound site.format settled window → IsDueAfter site kept done moments zone panel settled
  by_window settled None valid latest h = absurd h
  by_window settled (Some first) valid latest h =
      let f = valid.forms.format.0 in
      by_way first (first + spread_of site.format - 1) h latest.0.past (omega (arith, f)) latest.0.joined

-- ---- what a panel hears decides

same_panel : (one other : ℕ) (b : Bool) → b ≡ (one == other) → b ≡ true → other ≡ one
same_panel one other b is h = sym (eq_is one other (sym is ∙ h))

home_panel : (one other : ℕ) (b : Bool) → b ≡ (one == other) → other ≡ one → b ≡ true
home_panel one other b is e = is ∙ ap (λ n. one == n) e ∙ equal_number one

module _ (site : Site) (kept : Retained) (done : List Done) (moments : List Moment) (zone panel : ℕ) (valid : IsValid site) (reach : Reach) (has :
    HasReach site moments zone panel reach) (settled : ℕ) where
  from_home : IsHome reach settled → IsDueAfter site kept done moments zone panel settled
  from_home h =
      let f = has.format in
      let t = has.tick in
      let l = h.1 in
      own (same_panel (panel_of_zone site zone) panel reach.own has.own h.0) (omega (arith, f, t, l))

  from_round : CameRound reach.format settled reach.window → IsDueAfter site kept done moments zone panel settled
  from_round h =
      by_window site kept done moments zone panel settled reach.window valid has.window (subst (λ f. CameRound f settled reach.window) has.format h)

  back : IsDueAfter site kept done moments zone panel settled → IsHome reach settled ⊎ CameRound reach.format settled reach.window
  back due =
      elim (has_come site kept done moments zone panel settled reach.window has.window due) [
        | inl h ↦
            (let f = has.format in
            let t = has.tick in
            let l = h.1 in
            inl ((home_panel (panel_of_zone site zone) panel reach.own has.own h.0, omega (arith, f, t, l))))
        | inr h ↦ inr (subst (λ f. CameRound f settled reach.window) (sym has.format) h)
      ]

  pub home_decides : (here : Bool) → here ≡ true → IsTrue here ↔ IsHome reach settled → IsTrue here ↔ IsDueAfter site kept done moments zone panel settled
  home_decides true is p = (λ h. from_home (p.0 h), λ due. search rules)
  home_decides false is p = absurd cc

  pub round_decides : (here there : Bool) → here ≡ false → IsTrue here ↔ IsHome reach settled
      → IsTrue there ↔ CameRound reach.format settled reach.window → IsTrue there ↔ IsDueAfter site kept done moments zone panel settled
  round_decides true there is p q = absurd cc
  round_decides false there is p q = (λ h. from_round (q.0 h), λ due. second (back due))
    where
      none : IsTrue false → IsTrue there
      none h = search rules

      second : IsHome reach settled ⊎ CameRound reach.format settled reach.window → IsTrue there
      second (inl h) = none (p.1 h)
      second (inr h) = q.1 h
