-- Where each event was the panel's own, nothing befell the others: no report came on a point of theirs, and nothing was asked for at them.
use Rattle.std.proofs.Common.{◌≡◌, ◌≢◌, ◌∙◌, ◌==◌, ◌&&◌, ◌++◌, ℕ, Bool, true, false, List, [], ◌∷◌, Option, Some, None, filter, if◌then◌else◌, refl, sym, slice_get}
use Rattle.std.proofs.lemmas.Bool.{eqb-true, ne_eqb}
use Rattle.site_types.specs.declared.event.Event.{Event}
use Rattle.site_types.specs.declared.event.Event.TheVariants.{Point, Cable, Supply, Link, Confirmed, Op}
use Rattle.site_types.specs.declared.point.Point.{Point as PointPlan}
use Rattle.site_types.specs.declared.site.Site.{Site}
use Rattle.node_inputs.specs.OwnEvents.{is_event_of, is_point_of}
use Rattle.node_rules.specs.QuietPanels.{HasQuietPoints, IsElsewhere}
use Rattle.panel_rules.specs.Moments.{Moment, Began, Happened, Turned, Kept, tick_of}
use Rattle.panel_rules.specs.Operations.{Request, and_request, requests, requests_in}
use Rattle.panel_rules.specs.Reports.{is_on_panel}
use Rattle.panel_node.specs.Seats.{AreOwnEvents}

module _ (site : Site) (panel other : ℕ) (apart : other ≢ panel) where
  elsewhere : (event : Event) → is_event_of site panel event ≡ true → IsElsewhere site other event
  elsewhere (Point point state) own = on_other (slice_get site.points point) own
    where
      on_other : (plan : Option PointPlan) → is_point_of panel plan ≡ true → is_on_panel other plan ≡ false
      on_other None none = refl
      on_other (Some plan) is = ne_eqb plan.panel other (λ e. apart (sym e ∙ eqb-true plan.panel panel is))
  elsewhere (Cable at line piece state) own = tt
  elsewhere (Supply at kind bad) own = tt
  elsewhere (Link link up) own = tt
  elsewhere (Confirmed output) own = tt
  elsewhere (Op at code operation) own = tt

  pub others_quiet : (moments : List Moment) → AreOwnEvents site panel moments → HasQuietPoints site other moments
  others_quiet [] own = tt
  others_quiet (Began ∷ before) own = others_quiet before own
  others_quiet (Happened event ∷ before) own = (elsewhere event own.0, others_quiet before own.1)
  others_quiet (Turned at task ∷ before) own = others_quiet before own
  others_quiet (Kept failed ∷ before) own = others_quiet before own

  -- ---- what was asked for

  none_front : {X : Type 0} (test : X → Bool) (x : X) (xs : List X) → filter test (x ∷ xs) ≡ [] → (test x ≡ false) × (filter test xs ≡ [])
  none_front test x xs none = go (test x) refl none
    where
      go : (b : Bool) → test x ≡ b → (if b then x ∷ filter test xs else filter test xs) ≡ [] → (test x ≡ false) × (filter test xs ≡ [])
      go true is some = absurd (let no_way : x ∷ filter test xs ≡ [] = some in cc)
      go false is rest = (is, rest)

  filter_both : {X : Type 0} (test : X → Bool) (xs ys : List X) → filter test xs ≡ [] → filter test ys ≡ [] → filter test (xs ++ ys) ≡ []
  filter_both test [] ys none more = more
  filter_both test (x ∷ xs) ys none more = (let front = none_front test x xs none in rw front.0 (filter_both test xs ys front.1 more))

  none_more : (tick now : ℕ) (event : Event) (before : List Request) → is_event_of site panel event ≡ true → requests_in other tick before ≡ []
      → requests_in other tick (and_request site now event before) ≡ []
  none_more tick now (Point point state) before own none = none
  none_more tick now (Cable at line piece state) before own none = none
  none_more tick now (Supply at kind bad) before own none = none
  none_more tick now (Link link up) before own none = none
  none_more tick now (Confirmed output) before own none = none
  none_more tick now (Op at code operation) before own none =
      filter_both (λ (r : Request). (r.panel == other) && (r.tick == tick)) before _ none
      (rw (ne_eqb at other (λ e. apart (sym e ∙ eqb-true at panel own))) refl)

  -- nothing at them
  pub none_asked : (tick : ℕ) (moments : List Moment) → AreOwnEvents site panel moments → requests_in other tick (requests site moments) ≡ []
  none_asked tick [] own = refl
  none_asked tick (Began ∷ before) own = none_asked tick before own
  none_asked tick (Happened event ∷ before) own =
      none_more tick (tick_of before) event (requests site before) own.0 (none_asked tick before own.1)
  none_asked tick (Turned at task ∷ before) own = none_asked tick before own
  none_asked tick (Kept failed ∷ before) own = none_asked tick before own
