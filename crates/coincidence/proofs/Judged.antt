-- Whether an answer counts, the floor before it and the latest other answer, as the code reads them, are the
-- definitions'.
use Rattle.std.proofs.Common.{◌≡◌, ℕ, ◌≤◌, max, Bool, true, false, not, List, [], ◌∷◌, Option, Some, None, slice_get, get_or, ◌==◌, ◌&&◌, ◌||◌, nat_lt, if◌then◌else◌, refl, sym, ◌∙◌, ap, subst, arith}
use Rattle.site_types.specs.declared.site.Site.{Site}
use Rattle.site_types.specs.declared.zone.Zone.{Zone as ZonePlan}
use Rattle.site_types.specs.declared.answer.Answer.{Answer}
use Rattle.site_types.specs.declared.retained.Retained.{Retained}
use Rattle.site_types.specs.declared.item.Item.TheVariants.{Point, Zone, Output}
use Rattle.site_types.specs.declared.operation.Operation.{Operation}
use Rattle.site_types.specs.declared.operation.Operation.TheVariants.{Mute, Override, Silence, Resound, Reset, Cancel, Disable, Enable, Test, Untest, Delays, Clear}
use Rattle.site_types.specs.Done.{Done, PointOff, ZoneOff, in_force, latest_before, is_of_panel, is_floor, moves_floor, floor_before, cancelled_before, is_zone_blocked, AreBy}
use Rattle.coincidence_rules.specs.Counted.{is_alarm, is_counted}
use Rattle.coincidence_rules.specs.Kept.{bar, after, may_pair, latest_besides, second_of}
use Rattle.coincidence.specs.declared.point_watch.PointWatch.{PointWatch}
use Rattle.coincidence.specs.declared.zone_watch.ZoneWatch.{ZoneWatch}
use Rattle.coincidence.specs.declared.decide.Decide.{Decide}
use Rattle.coincidence.specs.Parts.{switch_at, besides}
use Rattle.tick_units.specs.LastTicks.{last_at}
use Rattle.coincidence.specs.Stands.{is_reset, resets, is_move, moves, DecidesFor, Fits}
use Rattle.coincidence.proofs.Watched.{read_is, watched, watched_zone, zone_watch_read, off_since, zone_off_since, test_since}

-- the latest of two kinds of operations
latest_or : (one other : Done → Bool) (x : ℕ) (done : List Done)
    → latest_before (λ d. one d || other d) x done ≡ max (latest_before one x done) (latest_before other x done)
latest_or one other x [] = refl
latest_or one other x (d ∷ ds) = step (one d) (other d) (nat_lt d.tick x) d.tick _ _ _ (latest_or one other x ds)
  where
    step : (p q b : Bool) (t m n k : ℕ) → m ≡ max n k
        → (if (p || q) && b then max t m else m) ≡ max (if p && b then max t n else n) (if q && b then max t k else k)
    step false false b t m n k e = e
    step true false false t m n k e = e
    step false true false t m n k e = e
    step true true false t m n k e = e
    step true false true t m n k e = omega (arith, e)
    step false true true t m n k e = omega (arith, e)
    step true true true t m n k e = omega (arith, e)

pub latest_same : (one other : Done → Bool) (x : ℕ) (done : List Done) → ((d : Done) → one d ≡ other d)
    → latest_before one x done ≡ latest_before other x done
latest_same one other x [] h = refl
latest_same one other x (d ∷ ds) h =
    ap (λ b. if b && nat_lt d.tick x then max d.tick (latest_before one x ds) else latest_before one x ds) (h d)
    ∙ ap (λ n. if other d && nat_lt d.tick x then max d.tick n else n) (latest_same one other x ds h)

-- a floor of a zone is a reset of its panel, or a disabling or test of the zone
floor_parts : (zone panel at : ℕ) (o : Option ZonePlan) (operation : Operation) → is_of_panel panel o ≡ (panel == at) → (site : Site)
    → slice_get site.zones zone ≡ o → is_floor site zone panel operation ≡ ((is_reset operation && (panel == at)) || is_move zone operation)
floor_parts zone panel at o Reset e site is = ap (is_of_panel panel) is ∙ e ∙ ends (panel == at)
  where
    ends : (b : Bool) → b ≡ (b || false)
    ends true = refl
    ends false = refl
floor_parts zone panel at o (Disable (Zone other)) e site is = refl
floor_parts zone panel at o (Disable (Point other)) e site is = refl
floor_parts zone panel at o (Disable (Output other)) e site is = refl
floor_parts zone panel at o (Test other) e site is = refl
floor_parts zone panel at o (Enable item) e site is = refl
floor_parts zone panel at o (Untest other) e site is = refl
floor_parts zone panel at o (Cancel other) e site is = refl
floor_parts zone panel at o (Delays on) e site is = refl
floor_parts zone panel at o Mute e site is = refl
floor_parts zone panel at o Override e site is = refl
floor_parts zone panel at o Silence e site is = refl
floor_parts zone panel at o Resound e site is = refl
floor_parts zone panel at o Clear e site is = refl

module _ {site : Site} {kept : Retained} {panel : ℕ} {done : List Done} {taken : List Answer} {decide : Decide} (stands :
    DecidesFor site kept panel done taken decide) where
  pub floor_is : (x zone : ℕ) (plan : ZonePlan) → AreBy x done → slice_get site.zones zone ≡ Some plan → plan.panel ≡ panel → (z : ZoneWatch)
      → z ≡ get_or decide.zones.items zone z
      → max (last_at x decide.reset) (last_at x z.moved) ≡ floor_before site zone x done
  floor_is x zone plan by' is at z e =
      let w = watched_zone stands zone plan is at in
      let same : z ≡ w.zone_watch = read_is decide.zones.items zone z w.zone_watch e w.is_zone_watch in
      let reset = stands.reset.at x (stands.reset.by x by') in
      let moved : last_at x z.moved ≡ latest_before (moves zone) x done =
      ap (λ (o : ZoneWatch). last_at x o.moved) same ∙ sym (w.watches.moved.at x (w.watches.moved.by x by')) in
      ap (λ n. max n (last_at x z.moved)) (sym reset) ∙ ap (λ n. max (latest_before (resets panel) x done) n) moved
      ∙ sym (latest_or (resets panel) (moves zone) x done)
      ∙ latest_same (λ d. resets panel d || moves zone d) (moves_floor site zone) x done
      (λ d. sym (floor_parts zone d.panel panel (Some plan) d.operation (ap (λ n. d.panel == n) at) site is))

  pub counted_is : (answer : Answer) (fits : Fits site panel done taken answer) (r : PointWatch) (z : ZoneWatch)
      → r ≡ get_or decide.points answer.point r → z ≡ get_or decide.zones.items r.zone z
      → (is_alarm answer.heard && not (switch_at answer.stamp.0 r.off || (switch_at answer.stamp.0 z.off || switch_at answer.stamp.0 z.test)))
      ≡ is_counted site kept done answer
  counted_is answer fits r z e h =
      let x = answer.stamp.0 in
      let w = watched stands answer.point fits.own in
      let same : r ≡ w.watch = read_is decide.points answer.point r w.watch e w.is_watch in
      let zone_watch : z ≡ w.zone_watch = zone_watch_read stands answer.point fits.own r z e h in
      let point =
      ap (λ (o : PointWatch). switch_at x o.off) same ∙ sym
      (w.watches.off.at x (subst (λ (o : PointWatch). o.off.since.0 ≤ x) same (off_since stands answer fits r e))) in
      let off =
      ap (λ (o : ZoneWatch). switch_at x o.off) zone_watch ∙ sym
      (w.watches_zone.off.at x (subst (λ (o : ZoneWatch). o.off.since.0 ≤ x) zone_watch (zone_off_since stands answer fits r z e h))) in
      let test =
      ap (λ (o : ZoneWatch). switch_at x o.test) zone_watch ∙ sym
      (w.watches_zone.test.at x (subst (λ (o : ZoneWatch). o.test.since.0 ≤ x) zone_watch (test_since stands answer fits r z e h))) in
      ap (λ b. is_alarm answer.heard && not (b || (switch_at x z.off || switch_at x z.test))) point
      ∙ ap (λ b. is_alarm answer.heard && not (in_force site kept (PointOff answer.point) x done || (b || switch_at x z.test))) off
      ∙ ap (λ b. is_alarm answer.heard
      && not (in_force site kept (PointOff answer.point) x done || (in_force site kept (ZoneOff w.point.zone) x done || b))) test
      ∙ ap (λ o. is_alarm answer.heard && not (in_force site kept (PointOff answer.point) x done || is_zone_blocked site kept done o x))
      (sym w.is_point)

  pub second_is : (zone : ℕ) (plan : ZonePlan) (answer : Answer) → AreBy answer.stamp.0 done → slice_get site.zones zone ≡ Some plan
      → plan.panel ≡ panel → (z : ZoneWatch) → z ≡ get_or decide.zones.items zone z
      → (floor tick : ℕ) → floor ≡ floor_before site zone answer.stamp.0 done → tick ≡ bar z.rule floor (last_at answer.stamp.0 z.cancelled)
      → after tick (besides answer.point z.recent) ≡ second_of site kept done taken zone plan.rule answer
  second_is zone plan answer by' is at z e floor tick f t =
      let x = answer.stamp.0 in
      let w = watched_zone stands zone plan is at in
      let same : z ≡ w.zone_watch = read_is decide.zones.items zone z w.zone_watch e w.is_zone_watch in
      let cancelled : last_at x z.cancelled ≡ cancelled_before zone x done =
      ap (λ (o : ZoneWatch). last_at x o.cancelled) same ∙ sym (w.watches.cancelled.at x (w.watches.cancelled.by x by')) in
      let rule : z.rule ≡ plan.rule = ap (λ (o : ZoneWatch). o.rule) same ∙ w.watches.rule in
      let recent : besides answer.point z.recent ≡ latest_besides (may_pair site kept done zone plan.rule) answer.point None taken =
      ap (λ (o : ZoneWatch). besides answer.point o.recent) same ∙ w.watches.recent answer.point in
      ap (λ n. after n (besides answer.point z.recent))
      (t ∙ ap (λ r. bar r floor (last_at x z.cancelled)) rule ∙ ap (λ n. bar plan.rule n (last_at x z.cancelled)) f ∙ ap
      (bar plan.rule (floor_before site zone x done)) cancelled)
      ∙ ap (after (bar plan.rule (floor_before site zone x done) (cancelled_before zone x done))) recent
