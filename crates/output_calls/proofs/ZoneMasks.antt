-- Tests of every zone by the masks of the panels, and of the zones of a site.
use Rattle.std.proofs.Common.{◌≡◌, ◌<◌, ◌+◌, ◌-◌, ◌==◌, ◌&&◌, ◌||◌, not, ℕ, zero, suc, Bool, true, false, List, []}
use Rattle.std.proofs.Common.{◌∷◌, length, map, replicate, Option, Some, None, slice_get, refl, sym, ◌∙◌, ap, arith}
use Rattle.std.specs.Prelude.{slice_index_or}
use Rattle.std.specs.List.{list_all, range_with_len}
use Rattle.std.proofs.lemmas.Option.{slice_get_within}
use Rattle.site_types.specs.declared.site.Site.{Site}
use Rattle.site_types.specs.declared.zone.Zone.{Zone}
use Rattle.site_types.specs.Bits.{has_bit, mask_of}
use Rattle.site_types.specs.Valid.{IsValid}
use Rattle.site_types.proofs.Masks.{has_bit-mask, mask_below, mask_empty}
use Rattle.site_types.proofs.ValidSites.{zone_at}
use Rattle.coincidence_rules.specs.Places.{is_numbered, numbered, on_zone, zones_where}
use Rattle.sounder_control.specs.Quiet.{every_zone, has_zone, is_empty, is_within, keeps_quiet}
use Rattle.sounder_control.proofs.EveryZone.{all_in_range, every_row, not_every_row, not_in_range}
use Rattle.panel_rules.specs.Outputs.{some_zone, is_within as is_within_by}
use Rattle.panel_rules.proofs.AnswersTell.{eq_true, position_got}
use Rattle.panel_rules.proofs.Bools.{any_at, at_any, both, parts}
use Rattle.panel_rules.proofs.Places.{range_get, range_got}
use Rattle.panel_rules.proofs.ValidLayout.{position_unique}
use Rattle.panel_laws.proofs.AnswerLaws.{eq_is}
use Rattle.panel_laws.proofs.DueOn.{got}
use Rattle.output_calls.specs.SilenceCalls.{zone_masks}

two : (a b c d : ℕ) → a ≡ c → b ≡ d → ◌≡◌ {A = List ℕ} (a ∷ b ∷ []) (c ∷ d ∷ [])
two a b c d p q = cc

-- ---- ranges

-- tests that agree on the numbers of a range hold of all of them alike
all_alike : (f g : ℕ → Bool) (from count : ℕ) → ((k : ℕ) → k < count → f (from + k) ≡ g (from + k))
    → list_all f (range_with_len from count) ≡ list_all g (range_with_len from count)
all_alike f g from zero same = refl
all_alike f g from (suc count) same =
    let at : from + 0 ≡ from = omega arith in
    let first : f from ≡ g from = sym (ap f at) ∙ same 0 (omega arith) ∙ ap g at in
    let rest =
    all_alike f g (from + 1) count
    (λ k small. (let next : from + 1 + k ≡ from + (k + 1) = omega arith in ap f next ∙ same (k + 1) (omega (arith, small)) ∙ sym (ap g next))) in
    rw (first, rest) refl

every_alike : (f g : ℕ → ℕ → Bool) → ((p k : ℕ) → p < 8 → k < 32 → f (1 + p) (1 + k) ≡ g (1 + p) (1 + k)) → every_zone f ≡ every_zone g
unfolding every_zone
every_alike f g same =
    all_alike (λ panel. list_all (f panel) (range_with_len 1 32)) (λ panel. list_all (g panel) (range_with_len 1 32)) 1 8
    (λ p small. all_alike (f (1 + p)) (g (1 + p)) 1 32 (λ k within. same p k small within))

map_at : (f : ℕ → ℕ) (from count k : ℕ) → k < count → slice_index_or (map f (range_with_len from count)) k 0 ≡ f (from + k)
map_at f from zero k small = absurd (omega arith)
map_at f from (suc count) zero small = let at : from ≡ from + 0 = omega arith in ap f at
map_at f from (suc count) (suc k) small =
    map_at f (from + 1) count k (omega (arith, small)) ∙ (let next : from + 1 + k ≡ from + suc k = omega arith in ap f next)

-- ---- the zones of a site by their numbers

in_masks : (site : Site) (test : ℕ → Bool) (p k : ℕ) → p < 8 → k < 32
    → has_zone (zone_masks site test) (1 + p) (1 + k) ≡ on_zone test (numbered site (1 + p) (1 + k))
unfolding zones_where
in_masks site test p k small within =
    let panel : 1 + p - 1 ≡ p = omega arith in
    let number : 1 + k - 1 ≡ k = omega arith in
    let next : k + 1 ≡ 1 + k = omega arith in
    ap (λ n. has_bit (slice_index_or (zone_masks site test) n 0) (1 + k - 1)) panel
    ∙ ap (has_bit (slice_index_or (zone_masks site test) p 0)) number
    ∙ ap (λ mask. has_bit mask k) (map_at (λ q. zones_where site q test) 1 8 p small)
    ∙ has_bit-mask 32 (λ j. on_zone test (numbered site (1 + p) (j + 1))) k within
    ∙ ap (λ n. on_zone test (numbered site (1 + p) n)) next

numbered_is : (site : Site) → IsValid site → (zone : ℕ) (plan : Zone) → slice_get site.zones zone ≡ Some plan
    → numbered site plan.panel plan.number ≡ Some zone
numbered_is site valid zone plan is =
    position_unique (is_numbered plan.panel plan.number) site.zones zone plan is
    (both _ _ (eq_true plan.panel plan.panel refl) (eq_true plan.number plan.number refl))
    (λ j z at t. (let g = parts (z.panel == plan.panel) (z.number == plan.number) t in
    valid.twins.zones j zone z plan at is
    (two z.panel z.number plan.panel plan.number (eq_is z.panel plan.panel g.0) (eq_is z.number plan.number g.1))))

-- no zone that passes is found by a number exactly where no zone of the site passes
none_numbered : (site : Site) → IsValid site → (test : ℕ → Bool)
    → every_zone (λ panel number. not (on_zone test (numbered site panel number))) ≡ not (some_zone site test)
none_numbered site valid test = go (some_zone site test) refl
  where
    fails : (panel number : ℕ) → some_zone site test ≡ false → (o : Option ℕ) → numbered site panel number ≡ o → not (on_zone test o) ≡ true
    fails panel number none None at = refl
    fails panel number none (Some zone) at = by (test zone) refl
      where
        by : (b : Bool) → test zone ≡ b → not b ≡ true
        by false e = refl
        by true e =
            let there = position_got (is_numbered panel number) site.zones zone at in
            let within = slice_get_within site.zones zone there.item there.is in
            let some : some_zone site test ≡ true =
            any_at test (range_with_len 0 (length site.zones)) zone zone
            (range_get 0 (length site.zones) zone within ∙ (let same : 0 + zone ≡ zone = omega arith in ap Some same)) e in
            let never : true ≡ false = sym some ∙ none in
            cc

    go : (b : Bool) → some_zone site test ≡ b → every_zone (λ panel number. not (on_zone test (numbered site panel number))) ≡ not b
    go false none =
        every_row (λ panel number. not (on_zone test (numbered site panel number)))
        (λ p small. all_in_range (λ number. not (on_zone test (numbered site (1 + p) number))) 1 32
        (λ k within. fails (1 + p) (1 + k) none (numbered site (1 + p) (1 + k)) refl))
    go true some =
        let found = at_any test (range_with_len 0 (length site.zones)) some in
        let zone = found.item in
        let place = range_got 0 (length site.zones) found.place zone found.is in
        let there = got site.zones zone (let small = place.0 in let same = place.1 in omega (arith, small, same)) in
        let plan = there.0 in
        let lies = zone_at site valid zone plan there.1 in
        let panels = valid.forms.panels in
        let panel : 1 + (plan.panel - 1) ≡ plan.panel = (let low = lies.panel.0 in omega (arith, low)) in
        let number : 1 + (plan.number - 1) ≡ plan.number = (let low = lies.number.0 in omega (arith, low)) in
        not_every_row (λ panel number. not (on_zone test (numbered site panel number))) (plan.panel - 1)
        (let high = lies.panel.1 in let most = panels.1 in let low = lies.panel.0 in omega (arith, high, most, low))
        (not_in_range (λ number. not (on_zone test (numbered site (1 + (plan.panel - 1)) number))) 1 32 (plan.number - 1)
        (let high = lies.number.1 in let low = lies.number.0 in omega (arith, high, low))
        (ap (λ q. not (on_zone test (numbered site q (1 + (plan.number - 1))))) panel
        ∙ ap (λ n. not (on_zone test (numbered site plan.panel n))) number
        ∙ ap (λ o. not (on_zone test o)) (numbered_is site valid zone plan there.1)
        ∙ ap not found.passes))

empty_is : (site : Site) → IsValid site → (test : ℕ → Bool) → is_empty (zone_masks site test) ≡ not (some_zone site test)
empty_is site valid test =
    every_alike (λ panel number. not (has_zone (zone_masks site test) panel number)) (λ panel number. not (on_zone test (numbered site panel number)))
    (λ p k small within. ap not (in_masks site test p k small within))
    ∙ none_numbered site valid test

within_is : (site : Site) → IsValid site → (test others : ℕ → Bool)
    → is_within (zone_masks site test) (zone_masks site others) ≡ not (some_zone site (λ zone. test zone && not (others zone)))
within_is site valid test others =
    every_alike (λ panel number. not (has_zone (zone_masks site test) panel number) || has_zone (zone_masks site others) panel number)
    (λ panel number. not (on_zone (λ zone. test zone && not (others zone)) (numbered site panel number)))
    (λ p k small within. ap (λ b. not b || has_zone (zone_masks site others) (1 + p) (1 + k)) (in_masks site test p k small within)
    ∙ ap (λ b. not (on_zone test (numbered site (1 + p) (1 + k))) || b) (in_masks site others p k small within)
    ∙ at_one (numbered site (1 + p) (1 + k)))
    ∙ none_numbered site valid (λ zone. test zone && not (others zone))
  where
    inside : (a b : Bool) → (not a || b) ≡ not (a && not b)
    inside true true = refl
    inside true false = refl
    inside false b = refl

    at_one : (o : Option ℕ) → (not (on_zone test o) || on_zone others o) ≡ not (on_zone (λ zone. test zone && not (others zone)) o)
    at_one None = refl
    at_one (Some zone) = inside (test zone) (others zone)

-- a silence that took some zones holds at a turn by masks where it does by tests
pub keeps_is : (site : Site) → IsValid site → (taken test : ℕ → Bool)
    → keeps_quiet (zone_masks site taken) (zone_masks site test) ≡ is_within_by site test taken
keeps_is site valid taken test =
    ap (λ b. not b && is_within (zone_masks site test) (zone_masks site taken)) (empty_is site valid test)
    ∙ ap (λ b. not (not (some_zone site test)) && b) (within_is site valid test taken)
    ∙ ap (λ b. b && not (some_zone site (λ zone. test zone && not (taken zone)))) (twice (some_zone site test))
  where
    twice : (b : Bool) → not (not b) ≡ b
    twice true = refl
    twice false = refl

-- no zone at all
pub no_zones : (site : Site) → replicate 8 0 ≡ zone_masks site (λ zone. false)
unfolding zones_where
no_zones site = by 1 8
  where
    none : (o : Option ℕ) → on_zone (λ zone. false) o ≡ false
    none None = refl
    none (Some zone) = refl

    at : (panel : ℕ) → mask_of 32 (λ k. on_zone (λ zone. false) (numbered site panel (k + 1))) ≡ 0
    at panel =
        mask_empty 32 (mask_of 32 (λ k. on_zone (λ zone. false) (numbered site panel (k + 1))))
        (mask_below 32 (λ k. on_zone (λ zone. false) (numbered site panel (k + 1))))
        (λ k small. has_bit-mask 32 (λ j. on_zone (λ zone. false) (numbered site panel (j + 1))) k small ∙ none (numbered site panel (k + 1)))

    by : (from count : ℕ)
        → replicate count 0 ≡ map (λ panel. mask_of 32 (λ k. on_zone (λ zone. false) (numbered site panel (k + 1)))) (range_with_len from count)
    by from zero = refl
    by from (suc count) = let here = at from in let rest = by (from + 1) count in rw here (ap (λ (masks : List ℕ). 0 ∷ masks) rest)
