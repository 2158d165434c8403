-- An answer of this tick confirms a zone exactly where the marks say so.
use Rattle.std.proofs.Common.{◌≡◌, ℕ, ◌==◌, ◌&&◌, ◌||◌, ◌⊎◌, ◌≤◌, Bool, true, false, List, length, Option, Some, None, slice_get, inl, inr, refl, sym, ◌∙◌, ap, subst, arith}
use Rattle.std.specs.List.{list_any}
use Rattle.std.proofs.lemmas.Bool.{eqb-true}
use Rattle.std.proofs.lemmas.Option.{slice_get_within}
use Rattle.site_types.specs.declared.answer.Answer.{Answer}
use Rattle.site_types.specs.declared.point.Point.{Point}
use Rattle.site_types.specs.declared.retained.Retained.{Retained}
use Rattle.site_types.specs.declared.rule.Rule.{Rule}
use Rattle.site_types.specs.declared.rule.Rule.TheVariants.{Plain, A, B, C}
use Rattle.site_types.specs.declared.site.Site.{Site}
use Rattle.site_types.specs.declared.zone.Zone.{Zone}
use Rattle.site_types.specs.Done.{Done}
use Rattle.site_types.specs.Valid.{is_partner_type}
use Rattle.coincidence_rules.specs.Alarm.{calls}
use Rattle.coincidence_rules.specs.Confirmed.{coincides, confirms, is_by_call_point, is_near, is_uncancelled, is_verified}
use Rattle.coincidence_rules.specs.Counted.{is_counted}
use Rattle.coincidence_rules.specs.Places.{is_detector, is_manual, is_of, lies_in, on_partner, on_zone, pairs_up, partner_of, rule_of}
use Rattle.coincidence_rules.proofs.Lists.{same_test}
use Rattle.coincidence_rules.proofs.ValidWired.{wired_of}
use Rattle.panel_rules.specs.Answers.{answers}
use Rattle.panel_rules.specs.Moments.{Moment}
use Rattle.panel_rules.specs.Zones.{panel_of, panel_of_zone}
use Rattle.panel_rules.proofs.AnswersTell.{eq_true}
use Rattle.panel_rules.proofs.Bools.{any_at, at_any, both, either, either_left, either_right, parts}
use Rattle.panel_rules.proofs.Held.{at_panel, partner_at}
use Rattle.panel_rules.proofs.ValidLayout.{laid_out}
use Rattle.blocked_points.specs.declared.done_operation.DoneOperation.{DoneOperation}
use Rattle.blocked_points.specs.Operations.{done_newest_first}
use Rattle.caused_zones.specs.declared.point_mark.PointMark.{PointMark}
use Rattle.caused_zones.specs.Counting.{CountsAt}
use Rattle.caused_zones.specs.Judging.{coincides_by, confirms_by, counts_now, is_called_now, is_confirmed_now, is_mark_verified, mark_at, some_near_to, touches, touches_of}
use Rattle.caused_zones.specs.Marks.{passes_below}
use Rattle.caused_zones.specs.Stands.{was_given}
use Rattle.caused_zones.proofs.Answered.{counted_in, counted_is}
use Rattle.caused_zones.proofs.EachAfter.{below_here, here_below}
use Rattle.caused_zones.proofs.NearAnswers.{AreKnown, near_is, uncancelled_is}
use Rattle.caused_zones.proofs.VerifiedMarks.{last_now, verified_is}

-- tests of the zone and of its partner that agree make the same pairs
pub same_pairs : (site : Site) (zone point : ℕ) (f g : ℕ → Bool) → f zone ≡ g zone
    → ((other : ℕ) → partner_of (slice_get site.zones zone) ≡ Some other → f other ≡ g other)
    → pairs_up site zone point f ≡ pairs_up site zone point g
same_pairs site zone point f g own partner =
    ap (λ b. (is_of site zone point && (b || on_partner site zone f)) || (on_partner site zone (λ other. is_of site other point) && b)) own
    ∙ ap (λ b. (is_of site zone point && (g zone || b)) || (on_partner site zone (λ other. is_of site other point) && g zone))
    (go (partner_of (slice_get site.zones zone)) partner)
  where
    go : (o : Option ℕ) → ((other : ℕ) → o ≡ Some other → f other ≡ g other) → on_zone f o ≡ on_zone g o
    go None h = refl
    go (Some other) h = h other refl

-- the partner of a zone of type B is of type B, at its panel
record IsB (site : Site) (zone other : ℕ) : Type 0 where
  within : ℕ
  rule : rule_of (slice_get site.zones other) ≡ Some (B within)
  same_panel : panel_of_zone site other ≡ panel_of_zone site zone

module _ (site : Site) (kept : Retained) (operations : List DoneOperation) (taken now : ℕ) (moments : List Moment) (marks : List PointMark) (known :
    AreKnown site kept operations taken now moments marks) where
  abbrev done : List Done
  done = done_newest_first operations

  partner_is : (zone other within : ℕ) → rule_of (slice_get site.zones zone) ≡ Some (B within) → partner_of (slice_get site.zones zone) ≡ Some other
      → IsB site zone other
  partner_is zone other within rule partner = plan (slice_get site.zones zone) refl rule partner
    where
      by_type : (r : Rule) → is_partner_type (B within) r ≡ true → (w : ℕ) × (r ≡ B w)
      by_type Plain h = absurd cc
      by_type (A v w) h = absurd cc
      by_type (B w) h = (w, refl)
      by_type C h = absurd cc

      plan : (o : Option Zone) → slice_get site.zones zone ≡ o → rule_of o ≡ Some (B within) → partner_of o ≡ Some other → IsB site zone other
      plan None e r p = absurd cc
      plan (Some z) e r p =
          let h = (wired_of site known.valid).partners zone other z e p in
          let own : z.rule ≡ B within = cc in
          let t = by_type h.partner.rule (subst (λ x. is_partner_type x h.partner.rule ≡ true) own h.type) in
          record {
            within = t.0;
            rule = ap rule_of h.is ∙ ap Some t.1;
            same_panel = ap panel_of h.is ∙ h.at_panel ∙ ap panel_of (sym e);
          }

  module _ (panel zone : ℕ) (own : panel_of_zone site zone ≡ panel) (a : Answer) (at : a.stamp.0 ≡ now)
      (counts : CountsAt site kept done moments a.point now) where
    abbrev xs : List Answer
    xs = answers site panel moments

    coincides_is : (rule : Option Rule) → rule_of (slice_get site.zones zone) ≡ rule
        → coincides site kept done xs zone rule a ≡ coincides_by site marks now zone rule a.point
    coincides_is None e = refl
    coincides_is (Some Plain) e = refl
    coincides_is (Some (A verify within)) e = by_zone (is_of site zone a.point) refl
      where
        by_zone : (b : Bool) → is_of site zone a.point ≡ b
            → (b && (is_verified site kept done xs verify zone a || list_any (is_near site kept done within zone a) xs))
            ≡ (b && (is_mark_verified now verify (mark_at marks a.point) || some_near_to site marks now within a.point zone))
        by_zone false h = refl
        by_zone true h =
            ap (λ x. x || list_any (is_near site kept done within zone a) xs)
            (verified_is site kept operations taken now moments marks known panel zone verify within a at own e h counts)
            ∙ ap (λ x. is_mark_verified now verify (mark_at marks a.point) || x)
            (near_is site kept operations taken now moments marks known panel verify within zone a at own e)
    coincides_is (Some (B within)) e =
        same_pairs site zone a.point (λ other. list_any (is_uncancelled site kept done within other a) xs) (some_near_to site marks now within a.point)
        (uncancelled_is site kept operations taken now moments marks known panel within within zone a at own e)
        (λ other partner.
        let p = partner_is zone other within e partner in
        uncancelled_is site kept operations taken now moments marks known panel p.within within other a at (p.same_panel ∙ own) p.rule)
    coincides_is (Some C) e = refl

    pub confirms_is : confirms site kept done xs zone a ≡ (is_counted site kept done a && confirms_by site marks now zone a.point)
    confirms_is =
        ap (λ b. is_counted site kept done a && (is_by_call_point site zone a.point || (is_detector site a.point && b)))
        (coincides_is (rule_of (slice_get site.zones zone)) refl)

  touches_own : (zone point : ℕ) (o : Option Point) → lies_in zone o ≡ true → touches_of site marks now o zone ≡ true
  touches_own zone point None h = absurd cc
  touches_own zone point (Some p) h =
      either_left (zone == p.zone) (on_partner site p.zone (λ other. zone == other)) (eq_true zone p.zone (sym (eqb-true p.zone zone h)))

  touches_other : (zone other : ℕ) (o : Option Point) → on_partner site other (λ back. zone == back) ≡ true → lies_in other o ≡ true
      → touches_of site marks now o zone ≡ true
  touches_other zone other None back h = absurd cc
  touches_other zone other (Some p) back h =
      either_right (zone == p.zone) (on_partner site p.zone (λ x. zone == x))
      (subst (λ z. on_partner site z (λ x. zone == x) ≡ true) (sym (eqb-true p.zone other h)) back)

  -- a point that confirms a zone is of it or of its partner
  touching : (zone point : ℕ) → is_of site zone point ≡ true → touches site marks now point zone ≡ true
  touching zone point h = touches_own zone point (slice_get site.points point) h

  touching_partner : (zone point : ℕ) → on_partner site zone (λ other. is_of site other point) ≡ true → touches site marks now point zone ≡ true
  touching_partner zone point h = by_plan (slice_get site.zones zone) refl h
    where
      by_partner : (z : Zone) (q : Option ℕ) → slice_get site.zones zone ≡ Some z → z.partner ≡ q
          → on_zone (λ other. is_of site other point) q ≡ true → touches site marks now point zone ≡ true
      by_partner z None e p g = absurd cc
      by_partner z (Some other) e p g =
          let has = (wired_of site known.valid).partners zone other z e p in
          let back : on_partner site other (λ x. zone == x) ≡ true =
          ap (on_zone (λ x. zone == x)) (ap partner_of has.is ∙ has.back) ∙ eq_true zone zone refl in
          touches_other zone other (slice_get site.points point) back g

      by_plan : (o : Option Zone) → slice_get site.zones zone ≡ o → on_zone (λ other. is_of site other point) (partner_of o) ≡ true
          → touches site marks now point zone ≡ true
      by_plan None e g = absurd cc
      by_plan (Some z) e g = by_partner z z.partner e refl g

  -- one point of a pair is of the zone or of its partner
  pair_of : (zone point within : ℕ) → pairs_up site zone point (some_near_to site marks now within point) ≡ true
      → (is_of site zone point ≡ true) ⊎ (on_partner site zone (λ other. is_of site other point) ≡ true)
  pair_of zone point within e =
      first_parts (is_of site zone point) (some_near_to site marks now within point zone || on_partner site zone (some_near_to site marks now within point))
      (on_partner site zone (λ other. is_of site other point)) (some_near_to site marks now within point zone) e
    where
      first_parts : (a b c d : Bool) → ((a && b) || (c && d)) ≡ true → (a ≡ true) ⊎ (c ≡ true)
      first_parts true b c d h = inl refl
      first_parts false b true d h = inr refl
      first_parts false b false d h = absurd cc

  coinciding_of : (zone point : ℕ) (rule : Option Rule) → coincides_by site marks now zone rule point ≡ true
      → (is_of site zone point ≡ true) ⊎ (on_partner site zone (λ other. is_of site other point) ≡ true)
  coinciding_of zone point None e = absurd cc
  coinciding_of zone point (Some Plain) e = inl e
  coinciding_of zone point (Some (A verify within)) e =
      inl (parts (is_of site zone point) (is_mark_verified now verify (mark_at marks point) || some_near_to site marks now within point zone) e).0
  coinciding_of zone point (Some (B within)) e = pair_of zone point within e
  coinciding_of zone point (Some C) e = inl e

  confirming_of : (zone point : ℕ) → confirms_by site marks now zone point ≡ true
      → (is_of site zone point ≡ true) ⊎ (on_partner site zone (λ other. is_of site other point) ≡ true)
  confirming_of zone point h =
      elim (either _ _ h) [
        | inl c ↦ inl (parts (is_of site zone point) (is_manual site point) c).0
        | inr c ↦
            coinciding_of zone point (rule_of (slice_get site.zones zone))
            (parts (is_detector site point) (coincides_by site marks now zone (rule_of (slice_get site.zones zone)) point) c).1
      ]

  confirms_touches : (zone point : ℕ) → confirms_by site marks now zone point ≡ true → touches site marks now point zone ≡ true
  confirms_touches zone point h =
      elim (confirming_of zone point h) [ inl own ↦ touching zone point own | inr other ↦ touching_partner zone point other ]

  -- the panel of a point that touches a zone is the zone's
  pub record IsAt (panel point : ℕ) : Type 0 where
    pub plan : Point
    pub is : slice_get site.points point ≡ Some plan
    pub of_panel : plan.panel ≡ panel

  own_at : (zone point : ℕ) → is_of site zone point ≡ true → IsAt (panel_of_zone site zone) point
  own_at zone point of =
      let l = at_panel site zone (panel_of_zone site zone) point (laid_out site known.valid) of refl in
      record { plan = l.plan; is = l.is; of_panel = l.of_panel }

  touched_at : (zone point : ℕ) → confirms_by site marks now zone point ≡ true → IsAt (panel_of_zone site zone) point
  touched_at zone point h =
      elim (confirming_of zone point h) [
        | inl own ↦ own_at zone point own
        | inr other ↦
            (let p = partner_at site zone (λ z. is_of site z point) (laid_out site known.valid) other in
            let l = at_panel site p.other (panel_of_zone site zone) point (laid_out site known.valid) p.passes p.same_panel in
            record { plan = l.plan; is = l.is; of_panel = l.of_panel })
      ]

  -- of the answers of this tick
  module _ (zone : ℕ) (xs_test : Answer → Bool) (by_mark : ℕ → Bool) (same : (k : ℕ) (a : Answer)
      → slice_get (answers site (panel_of_zone site zone) moments) k ≡ Some a → a.stamp.0 ≡ now → is_counted site kept done a ≡ true
      → xs_test a ≡ by_mark a.point) (counted : (a : Answer) → xs_test a ≡ true → is_counted site kept done a ≡ true)
      (here : (point : ℕ) → by_mark point ≡ true → IsAt (panel_of_zone site zone) point) where
    pub given_by_marks : 1 ≤ now
        → was_given site moments zone xs_test now ≡ passes_below (λ place. counts_now site marks now place && by_mark place) (length marks)
    given_by_marks one = same_test _ _ to from
      where
        to : was_given site moments zone xs_test now ≡ true
            → passes_below (λ place. counts_now site marks now place && by_mark place) (length marks) ≡ true
        to h =
            let xs = answers site (panel_of_zone site zone) moments in
            let g = at_any _ xs h in
            let a = g.item in
            let p = parts _ _ g.passes in
            let at : a.stamp.0 ≡ now = eqb-true _ _ p.0 in
            let c = counted_is site kept done moments known.valid known.run known.ended (panel_of_zone site zone) g.place a g.is (counted a p.1) in
            let now_counts : CountsAt site kept done moments a.point now = subst (CountsAt site kept done moments a.point) at c in
            let inside = slice_get_within site.points a.point c.asked.plan c.asked.is in
            let size = known.points in
            below_here (λ place. counts_now site marks now place && by_mark place) (length marks) a.point (omega (arith, inside, size))
            (both _ _ (eq_true _ _ (last_now site kept operations taken now moments marks known a.point now_counts))
            (sym (same g.place a g.is at (counted a p.1)) ∙ p.1))

        from : passes_below (λ place. counts_now site marks now place && by_mark place) (length marks) ≡ true
            → was_given site moments zone xs_test now ≡ true
        from h =
            let xs = answers site (panel_of_zone site zone) moments in
            let g = here_below (λ place. counts_now site marks now place && by_mark place) (length marks) h in
            let point = g.0 in
            let p = parts (counts_now site marks now point) (by_mark point) g.2 in
            let last : (mark_at marks point).last ≡ now = eqb-true _ _ p.0 in
            let c = (known.stand point).last (omega (arith, last, one)) in
            let now_counts : CountsAt site kept done moments point now = subst (CountsAt site kept done moments point) last c in
            let at = here point p.1 in
            let found = counted_in site kept done moments known.valid known.run known.ended (panel_of_zone site zone) point now at.plan at.is at.of_panel
            now_counts in
            any_at (λ a. (a.stamp.0 == now) && xs_test a) xs found.place found.answer found.is
            (both _ _ (eq_true _ _ found.stamp_is)
            (same found.place found.answer found.is found.stamp_is found.counts
            ∙ subst (λ q. by_mark q ≡ true) (sym found.point_is) p.1))

  -- a zone is confirmed at this tick
  pub confirmed_now : (zone : ℕ) → 1 ≤ now
      → was_given site moments zone (confirms site kept done (answers site (panel_of_zone site zone) moments) zone) now
      ≡ is_confirmed_now site marks now zone
  confirmed_now zone one =
      given_by_marks zone (confirms site kept done (answers site (panel_of_zone site zone) moments) zone)
      (λ place. touches site marks now place zone && confirms_by site marks now zone place)
      (λ k a is at counts.
      let c = counted_is site kept done moments known.valid known.run known.ended (panel_of_zone site zone) k a is counts in
      confirms_is (panel_of_zone site zone) zone refl a at (subst (CountsAt site kept done moments a.point) at c)
      ∙ ap (λ b. b && confirms_by site marks now zone a.point) counts
      ∙ with_touch (touches site marks now a.point zone) (confirms_by site marks now zone a.point) (confirms_touches zone a.point))
      (λ a h. (parts (is_counted site kept done a) _ h).0)
      (λ point h. touched_at zone point (parts (touches site marks now point zone) (confirms_by site marks now zone point) h).1)
      one
    where
      with_touch : (t c : Bool) → (c ≡ true → t ≡ true) → c ≡ (t && c)
      with_touch true c h = refl
      with_touch false true h = sym (h refl)
      with_touch false false h = refl

  -- called by hand
  pub called_now : (zone : ℕ) → 1 ≤ now → was_given site moments zone (calls site kept done zone) now ≡ is_called_now site marks now zone
  called_now zone one =
      given_by_marks zone (calls site kept done zone) (λ place. is_by_call_point site zone place)
      (λ k a is at counts. ap (λ b. b && is_by_call_point site zone a.point) counts)
      (λ a h. (parts (is_counted site kept done a) (is_by_call_point site zone a.point) h).0)
      (λ point h. own_at zone point (parts (is_of site zone point) (is_manual site point) h).0)
      one
