-- What is confirmed by a front of the answers is confirmed by all of them.
use Rattle.std.proofs.Common.{◌≡◌, ℕ, ◌≤◌, ◌==◌, ◌&&◌, ◌||◌, List, take, Option, Some, None, slice_get, inl, inr, Bool, true, false, not, refl, sym, ◌∙◌, ap, arith}
use Rattle.std.specs.Prelude.{nat_le}
use Rattle.std.specs.List.{list_any}
use Rattle.std.proofs.lemmas.Bool.{eqb-true}
use Rattle.std.proofs.lemmas.Bool.Decides.{leb_tells}
use Rattle.site_types.specs.declared.site.Site.{Site}
use Rattle.site_types.specs.declared.answer.Answer.{Answer}
use Rattle.site_types.specs.declared.retained.Retained.{Retained}
use Rattle.site_types.specs.declared.rule.Rule.{Rule}
use Rattle.site_types.specs.declared.rule.Rule.TheVariants.{Plain, A, B, C}
use Rattle.site_types.specs.Done.{Done}
use Rattle.coincidence_rules.specs.Places.{is_of, is_detector, rule_of, on_partner, pairs_up}
use Rattle.coincidence_rules.specs.Counted.{is_counted}
use Rattle.coincidence_rules.specs.Confirmed.{is_second, is_near, is_uncancelled, is_between, counts_throughout, is_verified, coincides, is_by_call_point, confirms}
use Rattle.coincidence_rules.specs.Alarm.{calls, releases_by, releases}
use Rattle.coincidence_rules.specs.InOrder.{AreInOrder}
use Rattle.panel_rules.proofs.Bools.{both, parts, either, either_left, either_right, and_to, or_to, any_at, at_any, all_by, all_at}
use Rattle.panel_rules.proofs.Places.{get_take, take_get}
use Rattle.panel_rules.proofs.Floors.{le_from}
use Rattle.panel_rules.proofs.Pairing.{partner_to}

-- some item of a front is one of the whole
pub any_front : {X : Type 0} (test : X → Bool) (n : ℕ) (xs : List X) → list_any test (take n xs) ≡ true → list_any test xs ≡ true
any_front test n xs h = let g = at_any test (take n xs) h in any_at test xs g.place g.item (take_get n xs g.place g.item g.is).1 g.passes

-- a pair stays one for a test that follows from another
pub pairs_follow : (site : Site) (zone point : ℕ) (test other : ℕ → Bool) → ((z : ℕ) → test z ≡ true → other z ≡ true)
    → pairs_up site zone point test ≡ true → pairs_up site zone point other ≡ true
pairs_follow site zone point test other to h =
    let own = is_of site zone point in
    let partner = on_partner site zone (λ z. is_of site z point) in
    elim (either (own && (test zone || on_partner site zone test)) (partner && test zone) h) [
      | inl g ↦
          (let p = parts own (test zone || on_partner site zone test) g in
          either_left (own && (other zone || on_partner site zone other)) (partner && other zone)
          (both own (other zone || on_partner site zone other) p.0
          (elim (either (test zone) (on_partner site zone test) p.1) [
            | inl s ↦ either_left (other zone) (on_partner site zone other) (to zone s)
            | inr s ↦ either_right (other zone) (on_partner site zone other) (partner_to site zone test other to s)
          ])))
      | inr g ↦
          (let p = parts partner (test zone) g in
          either_right (own && (other zone || on_partner site zone other)) (partner && other zone) (both partner (other zone) p.0 (to zone p.1)))
    ]

module _ (site : Site) (kept : Retained) (done : List Done) (ys : List Answer) (order : AreInOrder ys) (n k : ℕ) (answer : Answer) (is :
    slice_get (take n ys) k ≡ Some answer) where
  -- an answer behind the front is stamped later, or of another point
  in_front : (first j : ℕ) (other : Answer) → slice_get ys j ≡ Some other → is_between answer.point first answer.stamp.0 other ≡ true
      → slice_get (take n ys) j ≡ Some other
  in_front first j other at between =
      let here = take_get n ys k answer is in
      let b = parts (other.point == answer.point) (nat_le first other.stamp.0 && nat_le other.stamp.0 answer.stamp.0) between in
      let c = parts (nat_le first other.stamp.0) (nat_le other.stamp.0 answer.stamp.0) b.1 in
      let by : other.stamp.0 ≤ answer.stamp.0 = le_from other.stamp.0 answer.stamp.0 c.1 in
      elim (leb_tells n j) [
        | inl l ↦
            (let rise = order.rising k j answer other (omega (arith, here.0, l.1)) here.1 at in
            let same : answer.stamp.0 ≡ other.stamp.0 = omega (arith, rise, by) in
            let place = order.once k j answer other here.1 at (sym (eqb-true other.point answer.point b.0)) same in
            absurd (omega (arith, place, here.0, l.1)))
        | inr l ↦ get_take n ys j other l.1 at
      ]

  throughout_grows : (first : ℕ) → counts_throughout site kept done (take n ys) answer.point first answer.stamp.0 ≡ true
      → counts_throughout site kept done ys answer.point first answer.stamp.0 ≡ true
  throughout_grows first h = all_by _ ys each
    where
      each : (j : ℕ) (other : Answer) → slice_get ys j ≡ Some other
          → (not (is_between answer.point first answer.stamp.0 other) || is_counted site kept done other) ≡ true
      each j other at = go (is_between answer.point first answer.stamp.0 other) refl
        where
          go : (b : Bool) → is_between answer.point first answer.stamp.0 other ≡ b → (not b || is_counted site kept done other) ≡ true
          go false e = refl
          go true e =
              let test : (not (is_between answer.point first answer.stamp.0 other) || is_counted site kept done other) ≡ true =
              all_at (λ o. not (is_between answer.point first answer.stamp.0 o) || is_counted site kept done o) (take n ys) j other h
              (in_front first j other at e) in
              sym (ap (λ b. not b || is_counted site kept done other) e) ∙ test

  verified_grows : (verify zone : ℕ) → is_verified site kept done (take n ys) verify zone answer ≡ true
      → is_verified site kept done ys verify zone answer ≡ true
  verified_grows verify zone h =
      let g = at_any _ (take n ys) h in
      let p = parts _ _ g.passes in
      any_at _ ys g.place g.item (take_get n ys g.place g.item g.is).1 (both _ _ p.0 (throughout_grows g.item.stamp.0 p.1))

  coincides_grows : (zone : ℕ) (rule : Option Rule) → coincides site kept done (take n ys) zone rule answer ≡ true
      → coincides site kept done ys zone rule answer ≡ true
  coincides_grows zone None h = h
  coincides_grows zone (Some Plain) h = h
  coincides_grows zone (Some (A verify within)) h =
      let one = is_verified site kept done (take n ys) verify zone answer in
      let whole = is_verified site kept done ys verify zone answer in
      let near = list_any (is_near site kept done within zone answer) (take n ys) in
      let nears = list_any (is_near site kept done within zone answer) ys in
      let p = parts (is_of site zone answer.point) (one || near) h in
      both (is_of site zone answer.point) (whole || nears) p.0
      (elim (either one near p.1) [
        | inl v ↦ either_left whole nears (verified_grows verify zone v)
        | inr v ↦ either_right whole nears (any_front (is_near site kept done within zone answer) n ys v)
      ])
  coincides_grows zone (Some (B within)) h =
      pairs_follow site zone answer.point (λ near. list_any (is_uncancelled site kept done within near answer) (take n ys))
      (λ near. list_any (is_uncancelled site kept done within near answer) ys)
      (λ z t. any_front (is_uncancelled site kept done within z answer) n ys t) h
  coincides_grows zone (Some C) h = h

  pub confirms_grows : (zone : ℕ) → confirms site kept done (take n ys) zone answer ≡ true → confirms site kept done ys zone answer ≡ true
  confirms_grows zone h =
      let counts = is_counted site kept done answer in
      let call = is_by_call_point site zone answer.point in
      let detects = is_detector site answer.point in
      let rule = rule_of (slice_get site.zones zone) in
      let front = coincides site kept done (take n ys) zone rule answer in
      let whole = coincides site kept done ys zone rule answer in
      and_to counts (call || (detects && front)) (call || (detects && whole))
      (or_to call (detects && front) (detects && whole) (and_to detects front whole (coincides_grows zone rule))) h

  releases_by_grows : (zone : ℕ) (rule : Option Rule) → releases_by site kept done (take n ys) zone rule answer ≡ true
      → releases_by site kept done ys zone rule answer ≡ true
  releases_by_grows zone None h = confirms_grows zone h
  releases_by_grows zone (Some Plain) h = confirms_grows zone h
  releases_by_grows zone (Some (A verify within)) h = confirms_grows zone h
  releases_by_grows zone (Some (B within)) h = confirms_grows zone h
  releases_by_grows zone (Some C) h =
      let front = pairs_up site zone answer.point (λ z. list_any (is_second site kept done z answer) (take n ys)) in
      let whole = pairs_up site zone answer.point (λ z. list_any (is_second site kept done z answer) ys) in
      or_to (calls site kept done zone answer) (is_counted site kept done answer && front) (is_counted site kept done answer && whole)
      (and_to (is_counted site kept done answer) front whole
      (pairs_follow site zone answer.point (λ z. list_any (is_second site kept done z answer) (take n ys))
      (λ z. list_any (is_second site kept done z answer) ys)
      (λ z t. any_front (is_second site kept done z answer) n ys t)))
      h

  pub releases_grows : (zone : ℕ) → releases site kept done (take n ys) zone answer ≡ true → releases site kept done ys zone answer ≡ true
  releases_grows zone h = releases_by_grows zone (rule_of (slice_get site.zones zone)) h
