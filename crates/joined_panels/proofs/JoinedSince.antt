-- Two panels are joined where one of the ways between them is up.
use Rattle.std.proofs.Common.{◌≡◌, ◌⊎◌, ◌↔◌, ℕ, ◌+◌, ◌-◌, ◌%◌, ◌≤◌, Bool, true, false, List, Option, Some, None, max, if◌then◌else◌, rules, length, IsTrue, inl, inr, refl, sym, ◌∙◌, ap, subst, arith}
use Rattle.std.proofs.Math.Nat.{mod_self}
use Rattle.std.proofs.lemmas.Bool.Decides.{leb_tells}
use Rattle.site_types.specs.declared.site.Site.{Site}
use Rattle.site_types.specs.Profile.{spread_of}
use Rattle.panel_rules.specs.Moments.{TickBlock, moments, tick_of, up_to}
use Rattle.panel_rules.specs.States.{is_up}
use Rattle.panel_rules.specs.Ring.{AreJoined, IsWayUp, downward, links_between, the_same, upward}
use Rattle.run_text.proofs.TickTimes.{tick_moments}
use Rattle.joined_panels.specs.Latest.{IsLatestTick, later_of_ticks}
use Rattle.joined_panels.specs.Links.{are_up}
use Rattle.joined_panels.specs.declared.joined_panels.JoinedPanels.{JoinedPanels}
use Rattle.joined_panels.specs.Stands.{StandsFor, was_way_up}
use Rattle.joined_panels.specs.Stretches.{IsUpFor, IsUpThroughout}
use Rattle.joined_panels.specs.Windows.{IsWindow}
use Rattle.joined_panels.proofs.LinksUp.{all_up, each_up}

module _ (site : Site) (ticks : List TickBlock) where
  -- a way is up throughout where it is up at each tick
  pub way_up : (from to first last : ℕ) → IsUpThroughout (was_way_up site ticks from to) first last → IsWayUp site.panels (moments ticks) from to first last
  way_up from to first last h step tick l a b =
      each_up (λ link. is_up link (up_to tick (moments ticks))) site.panels from (links_between site.panels from to) step (h tick a b) l

  pub up_at : (from to first last : ℕ) → IsWayUp site.panels (moments ticks) from to first last → IsUpThroughout (was_way_up site ticks from to) first last
  up_at from to first last h tick a b =
      all_up (λ link. is_up link (up_to tick (moments ticks))) site.panels from (links_between site.panels from to) (λ step l. h step tick l a b)

  -- no link lies between a panel and itself
  own_way : (one first last : ℕ) → 1 ≤ site.panels → IsUpThroughout (was_way_up site ticks one one) first last
  own_way one first last some tick a b =
      let none : links_between site.panels one one ≡ 0 = no_link one site.panels some in
      subst (λ n. are_up (λ link. is_up link (up_to tick (moments ticks))) site.panels one n ≡ true) (sym none) refl
    where
      no_link : (one panels : ℕ) → 1 ≤ panels → (one + panels - one) % panels ≡ 0
      no_link one panels some =
          let e : one + panels - one ≡ panels = omega arith in
          ap (λ n. n % panels) e ∙ mod_self panels

  pub joined_by : (one other first last : ℕ)
      → IsUpThroughout (was_way_up site ticks one other) first last ⊎ IsUpThroughout (was_way_up site ticks other one) first last
      → AreJoined site.panels (moments ticks) one other first last
  joined_by one other first last (inl h) = upward (way_up one other first last h)
  joined_by one other first last (inr h) = downward (way_up other one first last h)

  pub by_joined : (one other first last : ℕ) → 1 ≤ site.panels → AreJoined site.panels (moments ticks) one other first last
      → IsUpThroughout (was_way_up site ticks one other) first last ⊎ IsUpThroughout (was_way_up site ticks other one) first last
  by_joined one other first last some (the_same e) =
      inl (subst (λ p. IsUpThroughout (was_way_up site ticks one p) first last) e (own_way one first last some))
  by_joined one other first last some (upward h) = inl (up_at one other first last h)
  by_joined one other first last some (downward h) = inr (up_at other one first last h)

  -- a long span in which one of the ways is up is one in which the panels are joined
  module _ (one other spread now : ℕ) (some : 1 ≤ site.panels) (is : spread ≡ spread_of site.format) (long : 1 ≤ spread) (last : now ≡ length ticks) where
    now_is : now ≡ tick_of (moments ticks)
    now_is = last ∙ sym (tick_moments ticks)

    spans : (from to first : ℕ) → IsUpFor (was_way_up site ticks from to) spread now first
        → IsUpThroughout (was_way_up site ticks from to) first (first + spread_of site.format - 1)
    spans from to first h tick a b = h.through tick a (omega (arith, b, is, long))

    up_for : (from to first : ℕ) → first + spread ≤ now → IsUpThroughout (was_way_up site ticks from to) first (first + spread_of site.format - 1)
        → IsUpFor (was_way_up site ticks from to) spread now first
    up_for from to first past h = record { past = past; through = λ tick a b. h tick a (omega (arith, b, is, long)) }

    window_by : (first : ℕ)
        → IsUpFor (was_way_up site ticks one other) spread now first ⊎ IsUpFor (was_way_up site ticks other one) spread now first
        → IsWindow site (moments ticks) one other first
    window_by first (inl h) =
        let n = now_is in
        let p = h.past in
        record { past = omega (arith, n, p, is); joined = joined_by one other first (first + spread_of site.format - 1) (inl (spans one other first h)) }
    window_by first (inr h) =
        let n = now_is in
        let p = h.past in
        record { past = omega (arith, n, p, is); joined = joined_by one other first (first + spread_of site.format - 1) (inr (spans other one first h)) }

    by_window : (first : ℕ) → IsWindow site (moments ticks) one other first
        → IsUpFor (was_way_up site ticks one other) spread now first ⊎ IsUpFor (was_way_up site ticks other one) spread now first
    by_window first h =
        let n = now_is in
        let p = h.past in
        let past : first + spread ≤ now = omega (arith, n, p, is) in
        elim (by_joined one other first (first + spread_of site.format - 1) some h.joined) [
          | inl u ↦ inl (up_for one other first past u)
          | inr u ↦ inr (up_for other one first past u)
        ]

    pub latest_of_both : (a b : Option ℕ) → IsLatestTick (IsUpFor (was_way_up site ticks one other) spread now) a
        → IsLatestTick (IsUpFor (was_way_up site ticks other one) spread now) b → IsLatestTick (IsWindow site (moments ticks) one other) (later_of_ticks a b)
    latest_of_both a b p q =
        latest_either (IsUpFor (was_way_up site ticks one other) spread now) (IsUpFor (was_way_up site ticks other one) spread now)
        (IsWindow site (moments ticks) one other) window_by by_window a b p q
      where
        latest_either : (P Q R : ℕ → Type 0) → ((t : ℕ) → P t ⊎ Q t → R t) → ((t : ℕ) → R t → P t ⊎ Q t) → (a b : Option ℕ) → IsLatestTick P a → IsLatestTick Q b
            → IsLatestTick R (later_of_ticks a b)
        latest_either P Q R to from None None p q = λ t r. elim (from t r) [ inl h ↦ p t h | inr h ↦ q t h ]
        latest_either P Q R to from None (Some b) p q = (to b (inr q.0), λ t r. elim (from t r) [ inl h ↦ absurd (p t h) | inr h ↦ q.1 t h ])
        latest_either P Q R to from (Some a) None p q = (to a (inl p.0), λ t r. elim (from t r) [ inl h ↦ p.1 t h | inr h ↦ absurd (q t h) ])
        latest_either P Q R to from (Some a) (Some b) p q = (
          elim (leb_tells a b) [
            | inl l ↦ (let e : b ≡ max a b = (let k = l.1 in omega (arith, k)) in subst R e (to b (inr q.0)))
            | inr l ↦ (let e : a ≡ max a b = (let k = l.1 in omega (arith, k)) in subst R e (to a (inl p.0)))
          ],
          λ t r. elim (from t r) [ inl h ↦ (let k = p.1 t h in omega (arith, k)) | inr h ↦ (let k = q.1 t h in omega (arith, k)) ],
        )

true_of_either : {P Q R : Type 0} (a b : Bool) → IsTrue a ↔ P → IsTrue b ↔ Q → (P ⊎ Q → R) → (R → P ⊎ Q) → IsTrue (if a then true else b) ↔ R
true_of_either true b p q to from = (λ h. to (inl (p.0 h)), λ r. search rules)
true_of_either {P} {Q} {R} false b p q to from = (λ h. to (inr (q.0 h)), λ r. second (from r))
  where
    none : IsTrue false → IsTrue b
    none h = search rules

    second : P ⊎ Q → IsTrue b
    second (inl h) = none (p.1 h)
    second (inr h) = q.1 h

pub since_either : (site : Site) (ticks : List TickBlock) (joined : JoinedPanels) → StandsFor site ticks joined → (one other first : ℕ) (a b answer : Bool)
    → answer ≡ (if a then true else b) → IsTrue a ↔ IsUpThroughout (was_way_up site ticks one other) first joined.latest.0
    → IsTrue b ↔ IsUpThroughout (was_way_up site ticks other one) first joined.latest.0
    → IsTrue answer ↔ AreJoined site.panels (moments ticks) one other first (tick_of (moments ticks))
since_either site ticks joined stands one other first a b answer is p q =
    let now = stands.now ∙ sym (tick_moments ticks) in
    let some = subst (λ n. 1 ≤ n) stands.panels joined.links.some in
    subst (λ last. IsTrue answer ↔ AreJoined site.panels (moments ticks) one other first last) now
    (subst (λ r. IsTrue r ↔ AreJoined site.panels (moments ticks) one other first joined.latest.0) (sym is)
    (true_of_either a b p q (joined_by site ticks one other first joined.latest.0) (by_joined site ticks one other first joined.latest.0 some)))

pub is_first : (a b : Bool) → a ≡ true → a ≡ (if a then true else b)
is_first true b h = refl
is_first false b h = absurd cc

pub is_second : (a b : Bool) → a ≡ false → b ≡ (if a then true else b)
is_second true b h = absurd cc
is_second false b h = refl
