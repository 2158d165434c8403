-- What is kept after one more answer stands for one more answer.
use Rattle.std.proofs.Common.{◌≡◌, ◌≢◌, ◌⊎◌, inl, inr, ⊎_elim, ℕ, zero, suc, ◌+◌, ◌≤◌, Bool, true, false, not, List}
use Rattle.std.proofs.Common.{[], ◌∷◌, ◌++◌, set, length, length-set, reverse, filter, Option, Some, None, slice_get, get_or}
use Rattle.std.proofs.Common.{◌==◌, ◌&&◌, nat_lt, nat_le, if◌then◌else◌, refl, sym, ◌∙◌, ap, subst, arith}
use Rattle.std.proofs.lemmas.Bool.{eq-eqb, ne_eqb}
use Rattle.std.proofs.lemmas.Bool.Decides.{nat_tests, eqb_tells}
use Rattle.std.proofs.lemmas.List.{reverse-append, set-get_or}
use Rattle.std.proofs.lemmas.Option.{get_or_from_slice_get}
use Rattle.std.proofs.lemmas.List.Elements.{filter-append}
use Rattle.std.specs.Vec.{with_item}
use Rattle.circular_buffer.proofs.Places.{slice_get-set_other}
use Rattle.tick_units.specs.declared.tick.Tick.{Tick}
use Rattle.site_types.specs.declared.site.Site.{Site}
use Rattle.site_types.specs.declared.point.Point.{Point as PointPlan}
use Rattle.site_types.specs.declared.zone.Zone.{Zone as ZonePlan}
use Rattle.site_types.specs.declared.heard.Heard.{Heard}
use Rattle.site_types.specs.declared.heard.Heard.TheVariants.{Quiet, Alarm, Silent}
use Rattle.site_types.specs.declared.answer.Answer.{Answer}
use Rattle.site_types.specs.declared.retained.Retained.{Retained}
use Rattle.site_types.specs.Done.{Done, floor_before, is_blocked}
use Rattle.site_types.specs.Profile.{missing_askings}
use Rattle.coincidence_rules.specs.Places.{lies_in, is_of, detects, is_detector}
use Rattle.coincidence_rules.specs.Counted.{is_alarm, is_silent, is_counted}
use Rattle.coincidence_rules.specs.Missing.{latest_of, begins_silent}
use Rattle.coincidence_rules.specs.Kept.{run_then, run_of, latest_besides, makes_pairs, may_pair}
use Rattle.coincidence_rules.proofs.Lists.{get_either, get_set, same_place}
use Rattle.coincidence.specs.declared.point_stamp.PointStamp.{PointStamp}
use Rattle.coincidence.specs.declared.recent.Recent.{Recent}
use Rattle.coincidence.specs.declared.point_watch.PointWatch.{PointWatch}
use Rattle.coincidence.specs.declared.zone_watch.ZoneWatch.{ZoneWatch}
use Rattle.coincidence.specs.declared.decide.Decide.{Decide}
use Rattle.coincidence.specs.Parts.{stamp_of, besides_by, besides, other_after, noted, silent_then, point_noted, zone_noted}
use Rattle.coincidence.specs.Changes.{NotesPoint}
use Rattle.answer_lanes.specs.declared.place_set.PlaceSet.{PlaceSet}
use Rattle.coincidence.specs.Places.{HasGoingOn}
use Rattle.coincidence.specs.Stands.{WatchesPoint, WatchesZone, DecidesFor}
use Rattle.coincidence.specs.Premises.{IsOwn, MayTake}
use Rattle.coincidence.proofs.Watched.{read_is, Watched, watched, zone_read, zone_watch_read}

-- one more answer: the newest first, the run, the latest of another point
pub latest_more : (point : ℕ) (xs : List Answer) (x : Answer)
    → latest_of point (xs ++ x ∷ []) ≡ (if x.point == point then x ∷ latest_of point xs else latest_of point xs)
latest_more point xs x =
    ap reverse (filter-append (λ a. a.point == point) xs (x ∷ [])) ∙ reverse-append (filter (λ a. a.point == point) xs)
    (filter (λ a. a.point == point) (x ∷ [])) ∙ go (x.point == point)
  where
    go : (b : Bool) → reverse (if b then x ∷ [] else []) ++ reverse (filter (λ a. a.point == point) xs)
        ≡ (if b then x ∷ latest_of point xs else latest_of point xs)
    go true = refl
    go false = refl

run_more : (counted : Answer → Bool) (floor : ℕ → ℕ) (point : ℕ) (first : Option Tick) (xs : List Answer) (x : Answer)
    → run_of counted floor point first (xs ++ x ∷ [])
    ≡ (if x.point == point then run_then (counted x) (floor x.stamp.0) x.stamp (run_of counted floor point first xs) else run_of counted floor
    point first xs)
run_more counted floor point first [] x = refl
run_more counted floor point first (y ∷ xs) x =
    run_more counted floor point (if y.point == point then run_then (counted y) (floor y.stamp.0) y.stamp first else first) xs x

besides_more : (test : Answer → Bool) (point : ℕ) (stamp : Option Tick) (xs : List Answer) (x : Answer)
    → latest_besides test point stamp (xs ++ x ∷ []) ≡ (if test x && not (x.point == point) then Some x.stamp else latest_besides test point stamp xs)
besides_more test point stamp [] x = refl
besides_more test point stamp (y ∷ xs) x = besides_more test point (if test y && not (y.point == point) then Some y.stamp else stamp) xs x

besides-noted : (q p : ℕ) (stamp : Tick) (recent : Recent) → besides q (noted p stamp recent) ≡ (if p == q then besides q recent else Some stamp)
besides-noted q p stamp recent = go recent.latest (eqb_tells p q)
  where
    shown : (seen : PointStamp) (b : Bool) → p ≡ q
        → stamp_of (if b then recent.other else Some seen) ≡ (if b then stamp_of recent.other else Some seen.stamp)
    shown seen true e = refl
    shown seen false e = refl

    same : (latest : Option PointStamp) → p ≡ q → stamp_of (other_after p latest recent.other) ≡ besides_by q latest recent.other
    same None e = refl
    same (Some seen) e = shown seen (seen.point == p) e ∙ ap (λ n. if seen.point == n then stamp_of recent.other else Some seen.stamp) e

    go : (latest : Option PointStamp) → ((p == q) ≡ true) × (p ≡ q) ⊎ (((p == q) ≡ false) × (p ≢ q))
        → (if p == q then stamp_of (other_after p latest recent.other) else Some stamp)
        ≡ (if p == q then besides_by q latest recent.other else Some stamp)
    go latest (inl at) =
        ap (λ b. if b then stamp_of (other_after p latest recent.other) else Some stamp) at.0 ∙ same latest at.1 ∙ sym
        (ap (λ b. if b then besides_by q latest recent.other else Some stamp) at.0)
    go latest (inr at) =
        ap (λ b. if b then stamp_of (other_after p latest recent.other) else Some stamp) at.0 ∙ sym
        (ap (λ b. if b then besides_by q latest recent.other else Some stamp) at.0)

not_le : (n : ℕ) → nat_le (suc n) 0 ≡ false
not_le n = grind (arith, nat_tests)

zero_le : (n : ℕ) → true ≡ nat_le 0 n
zero_le n = grind (arith, nat_tests)

silent_more : (heard : Heard) (x : Answer) (latest : List Answer) (silent : ℕ) → x.heard ≡ heard → silent ≤ missing_askings
    → ((n : ℕ) → n ≤ missing_askings → begins_silent n latest ≡ nat_le n silent) → (n : ℕ) → n ≤ 3
    → begins_silent n (x ∷ latest) ≡ nat_le n (silent_then heard silent)
silent_more Quiet x latest silent e few h zero le = refl
silent_more Quiet x latest silent e few h (suc n) le = ap (λ b. is_silent b && begins_silent n latest) e ∙ sym (not_le n)
silent_more Alarm x latest silent e few h zero le = refl
silent_more Alarm x latest silent e few h (suc n) le = ap (λ b. is_silent b && begins_silent n latest) e ∙ sym (not_le n)
silent_more Silent x latest silent e few h zero le = zero_le (silent_then Silent silent)
silent_more Silent x latest silent e few h (suc n) le =
    ap (λ b. is_silent b && begins_silent n latest) e ∙ h n (omega (arith, le)) ∙ next (nat_lt silent missing_askings) refl
  where
    next : (b : Bool) → nat_lt silent missing_askings ≡ b → nat_le n silent ≡ nat_le (suc n) (if b then silent + 1 else silent)
    next true t = grind (arith, nat_tests, t)
    next false t = grind (arith, nat_tests, t, le, few)

silent_few : (heard : Heard) (silent : ℕ) → silent ≤ missing_askings → silent_then heard silent ≤ missing_askings
silent_few Quiet silent few = omega arith
silent_few Alarm silent few = omega arith
silent_few Silent silent few = next (nat_lt silent missing_askings) refl
  where
    next : (b : Bool) → nat_lt silent missing_askings ≡ b → (if b then silent + 1 else silent) ≤ missing_askings
    next true t = grind (arith, nat_tests, t)
    next false t = few

module _ {site : Site} {kept : Retained} {done : List Done} {taken : List Answer} where
  -- a point that gave the answer, and one that didn't
  point_more : (place : ℕ) (point : PointPlan) (watch : PointWatch) (answer : Answer) (counted : Bool) (floor : Tick) → place ≡ answer.point
      → counted ≡ is_counted site kept done answer → floor.0 ≡ floor_before site point.zone answer.stamp.0 done
      → WatchesPoint site kept done taken place point watch
      → WatchesPoint site kept done (taken ++ answer ∷ []) place point (point_noted answer.heard counted floor answer.stamp watch)
  point_more place point watch answer counted floor here c f h =
      let test : (answer.point == place) ≡ true = eq-eqb answer.point place (sym here) in
      let latest : latest_of place (taken ++ answer ∷ []) ≡ answer ∷ latest_of place taken =
      latest_more place taken answer ∙ ap (λ b. if b then answer ∷ latest_of place taken else latest_of place taken) test in
      record {
        zone = h.zone;
        manual = h.manual;
        off = h.off;
        silent = λ n le. ap (begins_silent n) latest ∙ silent_more answer.heard answer (latest_of place taken) watch.silent refl h.few h.silent n le;
        few = silent_few answer.heard watch.silent h.few;
        run =
            let fl = λ (x : ℕ). floor_before site point.zone x done in
            let old = run_of (is_counted site kept done) fl place None taken in
            ap (λ b. run_then b floor.0 answer.stamp watch.run) c ∙ ap (λ n. run_then (is_counted site kept done answer) n answer.stamp watch.run) f ∙
            ap (run_then (is_counted site kept done answer) (floor_before site point.zone answer.stamp.0 done) answer.stamp) h.run
            ∙ sym (run_more (is_counted site kept done) fl place None taken answer ∙ ap (λ b. if b then run_then (is_counted site kept done answer) (fl answer.stamp.0) answer.stamp old else old) test);
      }

  point_less : (place : ℕ) (point : PointPlan) (watch : PointWatch) (answer : Answer) → place ≢ answer.point
      → WatchesPoint site kept done taken place point watch → WatchesPoint site kept done (taken ++ answer ∷ []) place point watch
  point_less place point watch answer apart h =
      let test : (answer.point == place) ≡ false = ne_eqb answer.point place (λ e. apart (sym e)) in
      let latest : latest_of place (taken ++ answer ∷ []) ≡ latest_of place taken =
      latest_more place taken answer ∙ ap (λ b. if b then answer ∷ latest_of place taken else latest_of place taken) test in
      record {
        zone = h.zone;
        manual = h.manual;
        off = h.off;
        silent = λ n le. ap (begins_silent n) latest ∙ h.silent n le;
        few = h.few;
        run =
            let fl = λ (x : ℕ). floor_before site point.zone x done in
            let old = run_of (is_counted site kept done) fl place None taken in
            h.run ∙ sym
            (run_more (is_counted site kept done) fl place None taken answer ∙ ap
            (λ b. if b then run_then (is_counted site kept done answer) (fl answer.stamp.0) answer.stamp old else old) test);
      }

  -- a zone in which the answer may make a pair, and one in which it may not
  zone_more : (place : ℕ) (zone : ZonePlan) (watch : ZoneWatch) (answer : Answer) (pairs : Bool)
      → pairs ≡ may_pair site kept done place zone.rule answer → WatchesZone site kept done taken place zone watch
      → WatchesZone site kept done (taken ++ answer ∷ []) place zone (zone_noted pairs answer.point answer.stamp watch)
  zone_more place zone watch answer pairs p h = go pairs p
    where
      test : Answer → Bool
      test = may_pair site kept done place zone.rule

      noted_is : (point : ℕ) → may_pair site kept done place zone.rule answer ≡ true
          → besides point (noted answer.point answer.stamp watch.recent) ≡ latest_besides (may_pair site kept done place zone.rule) point None
          (taken ++ answer ∷ [])
      noted_is point yes' =
          let old = latest_besides (may_pair site kept done place zone.rule) point None taken in
          besides-noted point answer.point answer.stamp watch.recent ∙ ap (λ o. if answer.point == point then o else Some answer.stamp)
          (h.recent point) ∙ turn (answer.point == point) old
          ∙ sym (besides_more (may_pair site kept done place zone.rule) point None taken answer ∙ ap (λ b. if b && not (answer.point == point) then Some answer.stamp else old) yes')
        where
          turn : (b : Bool) (old : Option Tick) → (if b then old else Some answer.stamp) ≡ (if not b then Some answer.stamp else old)
          turn true old = refl
          turn false old = refl

      -- all but the recent answers stays
      keeps : (recent : Recent)
          → ((point : ℕ) → besides point recent ≡ latest_besides (may_pair site kept done place zone.rule) point None (taken ++ answer ∷ []))
          → WatchesZone site kept done (taken ++ answer ∷ []) place zone (record watch { recent = recent })
      keeps recent is = record {
        number = h.number;
        rule = h.rule;
        partner = h.partner;
        off = h.off;
        test = h.test;
        moved = h.moved;
        cancelled = h.cancelled;
        recent = is;
      }

      go : (b : Bool) → b ≡ may_pair site kept done place zone.rule answer
          → WatchesZone site kept done (taken ++ answer ∷ []) place zone (zone_noted b answer.point answer.stamp watch)
      go true e = keeps (noted answer.point answer.stamp watch.recent) (λ point. noted_is point (sym e))
      go false e = keeps watch.recent (λ point.
          let old = latest_besides (may_pair site kept done place zone.rule) point None taken in
          h.recent point ∙ sym
          (besides_more (may_pair site kept done place zone.rule) point None taken answer ∙ ap
          (λ b. if b && not (answer.point == point) then Some answer.stamp else old) (sym e)))

module _ {site : Site} {kept : Retained} {panel : ℕ} {done : List Done} {taken : List Answer} {decide : Decide} (stands :
    DecidesFor site kept panel done taken decide) (answer : Answer) (may : MayTake site panel done taken (answer ∷ []))
    (r : PointWatch) (z : ZoneWatch) (e : r ≡ get_or decide.points answer.point r) (h : z ≡ get_or decide.zones.items r.zone z) (counted :
    Bool) (floor : Tick) where
  abbrev own : IsOwn site panel answer.point
  own = may.own 0 answer refl

  abbrev w : Watched site kept panel done taken decide answer.point
  w = watched stands answer.point own

  abbrev p : PointWatch
  p = point_noted answer.heard counted floor answer.stamp r

  abbrev pairs : Bool
  pairs = counted && makes_pairs z.rule (not r.manual)

  and_left : (a b : Bool) → a ≡ true → b ≡ (a && b)
  and_left true b s = refl
  and_left false b s = cc

  -- the test that the code makes is whether the answer may make a pair
  pairs_is : counted ≡ is_counted site kept done answer → pairs ≡ may_pair site kept done w.point.zone w.zone.rule answer
  pairs_is c =
      let point : r ≡ w.watch = read_is decide.points answer.point r w.watch e w.is_watch in
      let zone_watch : z ≡ w.zone_watch = zone_watch_read stands answer.point own r z e h in
      let manual : r.manual ≡ w.point.manual = ap (λ (o : PointWatch). o.manual) point ∙ w.watches.manual in
      let rule : z.rule ≡ w.zone.rule = ap (λ (o : ZoneWatch). o.rule) zone_watch ∙ w.watches_zone.rule in
      ap (λ b. b && makes_pairs z.rule (not r.manual)) c
      ∙ ap (λ q. is_counted site kept done answer && makes_pairs q (not r.manual)) rule
      ∙ ap (λ m. is_counted site kept done answer && makes_pairs w.zone.rule (not m)) manual
      ∙ ap (λ d. is_counted site kept done answer && makes_pairs w.zone.rule d) (sym (ap detects w.is_point))
      ∙ and_left (is_of site w.point.zone answer.point) _ (ap (lies_in w.point.zone) w.is_point ∙ eq-eqb w.point.zone w.point.zone refl)

  not_of : (place : ℕ) (zone : ZonePlan) → place ≢ r.zone → false ≡ may_pair site kept done place zone.rule answer
  not_of place zone apart =
      let off : is_of site place answer.point ≡ false =
      ap (lies_in place) w.is_point ∙ ne_eqb w.point.zone place (λ s. apart (sym s ∙ sym (zone_read stands answer.point own r e))) in
      sym (ap (λ b. b && (is_counted site kept done answer && makes_pairs zone.rule (is_detector site answer.point))) off)

  points_more : counted ≡ is_counted site kept done answer → floor.0 ≡ floor_before site r.zone answer.stamp.0 done
      → (place : ℕ) (watch : PointWatch) (point : PointPlan) → slice_get (set decide.points answer.point p) place ≡ Some watch
      → slice_get site.points place ≡ Some point → point.panel ≡ panel
      → WatchesPoint site kept done (taken ++ answer ∷ []) place point watch
  points_more c f place watch point there is at =
      ⊎_elim
      (λ here.
      let same : w.point ≡ point = same_place site.points answer.point place w.point point (sym here.0) w.is_point is in
      let read : r ≡ w.watch = read_is decide.points answer.point r w.watch e w.is_watch in
      let old : WatchesPoint site kept done taken place point r =
      subst (λ (o : PointPlan). WatchesPoint site kept done taken place o r) same
      (subst (λ k. WatchesPoint site kept done taken k w.point r) (sym here.0)
      (subst (WatchesPoint site kept done taken answer.point w.point) (sym read) w.watches)) in
      subst (WatchesPoint site kept done (taken ++ answer ∷ []) place point) here.1
      (point_more place point r answer counted floor here.0 c (f ∙ ap (λ k. floor_before site k answer.stamp.0 done) old.zone) old))
      (λ other. point_less place point watch answer other.0 (stands.points place watch point other.1 is at))
      (get_set decide.points answer.point place p watch there)

  zones_more : counted ≡ is_counted site kept done answer → (place : ℕ) (watch : ZoneWatch) (zone : ZonePlan)
      → slice_get (set decide.zones.items r.zone (zone_noted pairs answer.point answer.stamp z)) place ≡ Some watch
      → slice_get site.zones place ≡ Some zone → zone.panel ≡ panel → WatchesZone site kept done (taken ++ answer ∷ []) place zone watch
  zones_more c place watch zone there is at =
      ⊎_elim
      (λ here.
      let own_zone : place ≡ w.point.zone = here.0 ∙ zone_read stands answer.point own r e in
      let same : w.zone ≡ zone = same_place site.zones w.point.zone place w.zone zone (sym own_zone) w.is_zone is in
      let read : z ≡ w.zone_watch = zone_watch_read stands answer.point own r z e h in
      let old : WatchesZone site kept done taken w.point.zone w.zone z =
      subst (WatchesZone site kept done taken w.point.zone w.zone) (sym read) w.watches_zone in
      subst (WatchesZone site kept done (taken ++ answer ∷ []) place zone) here.1
      (subst (λ (o : ZonePlan). WatchesZone site kept done (taken ++ answer ∷ []) place o (zone_noted pairs answer.point answer.stamp z)) same
      (subst (λ k. WatchesZone site kept done (taken ++ answer ∷ []) k w.zone (zone_noted pairs answer.point answer.stamp z)) (sym own_zone)
      (zone_more w.point.zone w.zone z answer pairs (pairs_is c) old))))
      (λ other. zone_more place zone watch answer false (not_of place zone other.0) (stands.zones place watch zone other.1 is at))
      (get_set decide.zones.items r.zone place (zone_noted pairs answer.point answer.stamp z) watch there)

  own_more : (k : ℕ) (a : Answer) → slice_get (taken ++ answer ∷ []) k ≡ Some a → IsOwn site panel a.point
  own_more k a at = ⊎_elim (λ before. stands.own k a before) (λ last. may.own last.0 a last.2) (get_either taken (answer ∷ []) k a at)

  pub stands_more : (g : PlaceSet) → HasGoingOn g decide.since.0 decide.reset (set decide.points answer.point p)
      (set decide.zones.items r.zone (zone_noted pairs answer.point answer.stamp z))
      → counted ≡ is_counted site kept done answer → floor.0 ≡ floor_before site r.zone answer.stamp.0 done
      → DecidesFor site kept panel done (taken ++ answer ∷ []) (record decide {
        points = set decide.points answer.point p;
        zones =
            with_item decide.zones r.zone (zone_noted pairs answer.point answer.stamp z);
        going_on = g;
      })
  stands_more g going c f = record {
    wired = stands.wired;
    at = stands.at;
    point_count = length-set decide.points answer.point p ∙ stands.point_count;
    zone_count = length-set decide.zones.items r.zone (zone_noted pairs answer.point answer.stamp z) ∙ stands.zone_count;
    points = points_more c f;
    zones = zones_more c;
    reset = stands.reset;
    going_on = going;
    order = may.order;
    own = own_more;
    told = stands.told;
  }

  -- by what the code's calls say of the new values
  pub stands_noted : (next : List PointWatch) (y : ZoneWatch) (b : Bool) (g : PlaceSet)
      → HasGoingOn g decide.since.0 decide.reset next (set decide.zones.items r.zone y) → next ≡ set decide.points answer.point p → b ≡ pairs
      → y ≡ zone_noted b answer.point answer.stamp z
      → counted ≡ is_counted site kept done answer → floor.0 ≡ floor_before site r.zone answer.stamp.0 done
      → DecidesFor site kept panel done (taken ++ answer ∷ []) (record decide { points = next; zones = with_item decide.zones r.zone y; going_on = g })
  stands_noted next y b g going es eb ey c f =
      subst (λ (o : List PointWatch × ZoneWatch). DecidesFor site kept panel done (taken ++ answer ∷ [])
      (record decide { points = o.0; zones = with_item decide.zones r.zone o.1; going_on = g }))
      (both (sym es) (sym (ey ∙ ap (λ t. zone_noted t answer.point answer.stamp z) eb)))
      (stands_more g
      (subst (λ (o : List PointWatch × ZoneWatch). HasGoingOn g decide.since.0 decide.reset o.0 (set decide.zones.items r.zone o.1))
      (both es (ey ∙ ap (λ t. zone_noted t answer.point answer.stamp z) eb)) going) c f)
    where
      both : {q w : List PointWatch} {t u : ZoneWatch} → q ≡ w → t ≡ u → ◌≡◌ {A = List PointWatch × ZoneWatch} (q, t) (w, u)
      both e f = cc

-- the zone is put back as it was
pub zone_as_before : {site : Site} {kept : Retained} {panel : ℕ} {done : List Done} {taken : List Answer} (decide : Decide) (points : List PointWatch)
    (place : ℕ) (zone : ZoneWatch) (marks : PlaceSet) → set decide.zones.items place zone ≡ decide.zones.items
    → length decide.zones.items ≡ length site.zones → HasGoingOn marks decide.since.0 decide.reset points decide.zones.items
    → DecidesFor site kept panel done taken (record decide { points = points; zones = with_item decide.zones place zone; going_on = marks })
    → DecidesFor site kept panel done taken (record decide { points = points; going_on = marks })
zone_as_before decide points place zone marks items count going noted = record {
  wired = noted.wired;
  at = noted.at;
  point_count = noted.point_count;
  zone_count = count;
  points = noted.points;
  zones = λ place watch zone is. noted.zones place watch zone (ap (λ xs. slice_get xs place) items ∙ is);
  reset = noted.reset;
  going_on = going;
  order = noted.order;
  own = noted.own;
  told = noted.told;
}

-- an answer that is no alarm
pub quiet_noted : {site : Site} {kept : Retained} {panel : ℕ} {done : List Done} {taken : List Answer} {decide : Decide} (stands :
    DecidesFor site kept panel done taken decide) (answer : Answer) → MayTake site panel done taken (answer ∷ []) →
    is_alarm answer.heard ≡ false → (q : PointWatch) (s : List PointWatch) → q ≡ get_or decide.points answer.point q
    → s ≡ set decide.points answer.point (point_noted answer.heard false (record { 0 = 0 }) answer.stamp q) → (g : PlaceSet)
    → HasGoingOn g decide.since.0 decide.reset s decide.zones.items → DecidesFor site kept panel done (taken ++ answer ∷ []) (record {
      panel = decide.panel;
      points = s;
      zones =
          decide.zones;
      reset = decide.reset;
      going_on = g;
      since = decide.since;
      told = decide.told;
    })
quiet_noted {site} {kept} {panel} {done} {taken} {decide} stands answer may quiet q s eq es g going =
    let own = may.own 0 answer refl in
    let w = watched stands answer.point own in
    let counted = is_counted site kept done answer in
    let uncounted : counted ≡ false = ap (λ b. b && not (is_blocked site kept done answer.point answer.stamp.0)) quiet in
    let floor : Tick = record { 0 = floor_before site q.zone answer.stamp.0 done } in
    let there : get_or decide.zones.items q.zone w.zone_watch ≡ w.zone_watch =
    ap (λ k. get_or decide.zones.items k w.zone_watch) (zone_read stands answer.point own q eq) ∙ get_or_from_slice_get decide.zones.items w.point.zone
    w.zone_watch w.zone_watch w.is_zone_watch
    in
    let items : set decide.zones.items q.zone w.zone_watch ≡ decide.zones.items =
    ap (set decide.zones.items q.zone) (sym there) ∙ set-get_or decide.zones.items q.zone w.zone_watch
    in
    let noted =
    stands_noted stands answer may q w.zone_watch eq (sym there) counted floor s w.zone_watch false g
    (subst (HasGoingOn g decide.since.0 decide.reset s) (sym items) going)
    (es ∙ sym (ap (λ b. set decide.points answer.point (point_noted answer.heard b floor answer.stamp q)) uncounted))
    (sym (ap (λ b. b && makes_pairs w.zone_watch.rule (not q.manual)) uncounted)) refl refl refl
    in
    zone_as_before decide s q.zone w.zone_watch g items stands.zone_count going noted

pub no_alarm : (heard : Heard) → (heard ≡ Quiet) ⊎ (heard ≡ Silent) → is_alarm heard ≡ false
no_alarm heard (inl quiet) = ap is_alarm quiet
no_alarm heard (inr silent) = ap is_alarm silent

-- what is kept of the other points stays
pub others_noted : (points : List PointWatch) (place : ℕ) (heard : Heard) (counted : Bool) (floor stamp : Tick) (watch : PointWatch)
    → watch ≡ get_or points place watch → (next : List PointWatch) → NotesPoint place heard counted floor stamp points next → (k : ℕ) → k ≢ place
    → slice_get next k ≡ slice_get points k
others_noted points place heard counted floor stamp watch read next notes k apart =
    ap (λ xs. slice_get xs k) (notes watch read) ∙ slice_get-set_other points place k (point_noted heard counted floor stamp watch) apart
