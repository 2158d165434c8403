-- After a tick its links and ways are those of all ticks so far.
use Rattle.std.proofs.Common.{◌≡◌, ℕ, zero, suc, ◌+◌, ◌*◌, ◌/◌, ◌%◌, ◌≤◌, ◌&&◌, Bool, true, List, [], ◌∷◌, length, get_or, refl, sym, ◌∙◌, ap, subst, add-one, arith}
use Rattle.site_types.specs.declared.site.Site.{Site}
use Rattle.panel_rules.specs.Moments.{TickBlock, moments}
use Rattle.panel_rules.specs.States.{is_up}
use Rattle.panel_rules.specs.Ring.{link_on, links_between}
use Rattle.run_text.proofs.TickTimes.{up_to_earlier, whole_up_to}
use Rattle.joined_panels.specs.declared.joined_panels.JoinedPanels.{JoinedPanels}
use Rattle.joined_panels.specs.declared.links.Links.{Links}
use Rattle.joined_panels.specs.Links.{HasLinks, are_up, has_way_up, is_link_up}
use Rattle.joined_panels.specs.Stands.{StandsFor, was_way_up}
use Rattle.joined_panels.specs.Stretches.{KnowsWay, KnowsWays, TakesWays}
use Rattle.joined_panels.proofs.WaysTaken.{knows_same, way_stays}

both_same : (a b c d : Bool) → a ≡ b → c ≡ d → (a && c) ≡ (b && d)
both_same a b c d p q = ap (λ x. x && c) p ∙ ap (λ x. b && x) q

-- links that are alike have the same ways up
same_way : (one other : ℕ → Bool) (panels from n : ℕ) → 1 ≤ panels → panels ≤ 8 → ((link : ℕ) → 1 ≤ link → link ≤ 8 → one link ≡ other link)
    → are_up one panels from n ≡ are_up other panels from n
same_way one other panels from zero some few same = refl
same_way one other panels from (suc n) some few same =
    both_same (are_up one panels from n) (are_up other panels from n) (one (link_on panels from n)) (other (link_on panels from n))
    (same_way one other panels from n some few same) (same (link_on panels from n) (omega arith) (omega arith))

module _ (site : Site) (tick : TickBlock) (ticks : List TickBlock) where
  was_before : (from to t : ℕ) → t ≤ length ticks → was_way_up site ticks from to t ≡ was_way_up site (tick ∷ ticks) from to t
  was_before from to t l = ap (λ m. has_way_up (λ link. is_up link m) site.panels from to) (sym (up_to_earlier tick ticks t l))

  -- what is kept of the ticks before is so over all of them
  knows_before : (old : JoinedPanels) → StandsFor site ticks old → KnowsWays (was_way_up site (tick ∷ ticks)) old.spread (length ticks) old.ways
  knows_before old stands place other l =
      let from = place / 8 + 1 in
      let to = place % 8 + 1 in
      knows_same (was_way_up site ticks from to) (was_way_up site (tick ∷ ticks) from to) old.spread (length ticks) (get_or old.ways.ways place other)
      (was_before from to)
      (subst (λ n. KnowsWay (was_way_up site ticks from to) old.spread n (get_or old.ways.ways place other)) stands.now (stands.ways place other l))

-- the ways after some ticks, by the links after them
was_now : (site : Site) (ticks : List TickBlock) (links : Links) (from to : ℕ) → links.panels ≡ site.panels → HasLinks (moments ticks) links
    → was_way_up site ticks from to (length ticks) ≡ has_way_up (is_link_up links) links.panels from to
was_now site ticks links from to panels has =
    let some = links.some in
    let few = links.few in
    ap (λ m. has_way_up (λ link. is_up link m) site.panels from to) (whole_up_to ticks)
    ∙ ap (λ n. has_way_up (λ link. is_up link (moments ticks)) n from to) (sym panels)
    ∙ same_way (λ link. is_up link (moments ticks)) (is_link_up links) links.panels from (links_between links.panels from to) some few
    (λ link a b. sym (has link a b))

module _ (site : Site) (tick : TickBlock) (ticks : List TickBlock) (old new : JoinedPanels) (stands : StandsFor site ticks old)
    (next : new.latest.0 ≡ length ticks + 1) (spread : new.spread ≡ old.spread) (panels : new.links.panels ≡ old.links.panels)
    (has : HasLinks (moments (tick ∷ ticks)) new.links) where
  stands_by : KnowsWays (was_way_up site (tick ∷ ticks)) new.spread new.latest.0 new.ways → StandsFor site (tick ∷ ticks) new
  stands_by ways =
      record {
        panels = panels ∙ stands.panels;
        spread = spread ∙ stands.spread;
        now = next ∙ add-one (length ticks);
        links = has;
        ways = ways;
      }

  -- a link has told
  pub after_change : TakesWays new.links new.latest.0 old.spread old.ways new.ways → StandsFor site (tick ∷ ticks) new
  after_change takes =
      stands_by (λ place other l. (
      let from = place / 8 + 1 in
      let to = place % 8 + 1 in
      let here = ap (was_way_up site (tick ∷ ticks) from to) (next ∙ add-one (length ticks)) ∙ was_now site (tick ∷ ticks) new.links from to (panels ∙ stands.panels) has in
      let taken = takes place other l (was_way_up site (tick ∷ ticks) from to) (length ticks) (knows_before site tick ticks old stands place other l) next here in
      subst (λ n. KnowsWay (was_way_up site (tick ∷ ticks) from to) n new.latest.0 (get_or new.ways.ways place other)) (sym spread) taken))

  -- no link has told
  pub after_none : new.links ≡ old.links → new.ways ≡ old.ways → StandsFor site (tick ∷ ticks) new
  after_none same kept =
      stands_by (λ place other l. (
      let from = place / 8 + 1 in
      let to = place % 8 + 1 in
      let was = was_way_up site (tick ∷ ticks) from to in
      let after : was (length ticks + 1) ≡ has_way_up (is_link_up new.links) new.links.panels from to =
      ap was (add-one (length ticks)) ∙ was_now site (tick ∷ ticks) new.links from to (panels ∙ stands.panels) has in
      let before : was (length ticks) ≡ has_way_up (is_link_up old.links) old.links.panels from to =
      sym (was_before site tick ticks from to (length ticks) (omega arith)) ∙ was_now site ticks old.links from to stands.panels stands.links in
      let alike = ap (λ links. has_way_up (is_link_up links) links.panels from to) same in
      let stays = way_stays was old.spread (length ticks) (get_or old.ways.ways place other) (knows_before site tick ticks old stands place other l)
      (after ∙ alike ∙ sym before) in
      subst (λ w. KnowsWay was new.spread new.latest.0 (get_or w.ways place other)) (sym kept)
      (subst (λ n. KnowsWay was new.spread n (get_or old.ways.ways place other)) (sym next)
      (subst (λ s. KnowsWay was s (length ticks + 1) (get_or old.ways.ways place other)) (sym spread) stays))))

-- before the first tick
pub stands_first : (site : Site) (new : JoinedPanels) → new.latest.0 ≡ 0 → new.spread ≡ 24 * site.format → new.links.panels ≡ site.panels
    → ((link : ℕ) → 1 ≤ link → link ≤ 8 → is_link_up new.links link ≡ true)
    → ((was : ℕ → ℕ → ℕ → Bool) (spread : ℕ) → 1 ≤ spread → ((from to : ℕ) → was from to 0 ≡ true) → KnowsWays was spread 0 new.ways)
    → StandsFor site [] new
stands_first site new now spread panels up ways =
    let some = new.some in
    record {
      panels = panels;
      spread = spread;
      now = now;
      links = up;
      ways = λ place other l. subst (λ n. KnowsWay (was_way_up site [] (place / 8 + 1) (place % 8 + 1)) new.spread n (get_or new.ways.ways place other))
          (sym now) (ways (was_way_up site []) new.spread some (λ from to. all_at_first from to) place other l);
    }
  where
    all_true : (panels from n : ℕ) → are_up (λ link. true) panels from n ≡ true
    all_true panels from zero = refl
    all_true panels from (suc n) = ap (λ b. b && true) (all_true panels from n)

    all_at_first : (from to : ℕ) → was_way_up site [] from to 0 ≡ true
    all_at_first from to = all_true site.panels from (links_between site.panels from to)
