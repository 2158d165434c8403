-- Masks each bit of which is of a thing that the site names.
use Rattle.std.proofs.Common.{◌≡◌, ◌≢◌, inl, inr, ℕ, zero, suc, ◌+◌, ◌-◌, ◌<◌, ◌≤◌, ◌&&◌, ◌==◌, ◌||◌, Bool, true}
use Rattle.std.proofs.Common.{false, List, [], ◌∷◌, Option, Some, None, slice_get, refl, sym, ◌∙◌, ap, subst, arith}
use Rattle.std.proofs.Common.{if◌then◌else◌}
use Rattle.std.specs.Prelude.{nat_le, nat_lt, option_map}
use Rattle.std.specs.List.{find, list_any}
use Rattle.std.proofs.lemmas.Bool.Decides.{eqb_tells}
use Rattle.site_types.specs.declared.loop_plan.LoopPlan.{LoopPlan}
use Rattle.site_types.specs.declared.output.Output.{Output}
use Rattle.site_types.specs.declared.point.Point.{Point}
use Rattle.site_types.specs.declared.site.Site.{Site}
use Rattle.site_types.specs.declared.zone.Zone.{Zone}
use Rattle.site_types.specs.Bits.{has_bit, mask_of}
use Rattle.site_types.specs.Events.{is_link, is_panel}
use Rattle.site_types.proofs.Masks.{has_bit-mask, has_bit-zero, mask_below, mask_empty, mask_same}
use Rattle.isolators.specs.Reach.{Cable}
use Rattle.coincidence_rules.specs.Places.{is_numbered, numbered, on_zone, zones_where}
use Rattle.loop_poller.specs.Asked.{status_on}
use Rattle.site_types.specs.Things.{loop_of}
use Rattle.panel_conditions.specs.Points.{addressed, addresses_where, is_addressed, on_point}
use Rattle.panel_links.specs.Stands.{is_link_of}
use Rattle.panel_links.specs.Words.{left_of}
use Rattle.face_text.specs.Slots.{has_loop, is_named, number_if, output_name, point_name, supply_name, zone_name}
use Rattle.panel_rules.specs.Moments.{IsPanel}
use Rattle.panel_rules.specs.Outputs.{on_place, output_numbered, outputs_where}
use Rattle.panel_laws.proofs.AnswerLaws.{eq_is}
use Rattle.panel_rules.proofs.Bools.{both, parts, either}
use Rattle.panel_rules.proofs.Floors.{le_to, lt_from}
use Rattle.panel_rules.proofs.AnswersTell.{position_got}

-- each bit of a mask has a name
abbrev pub HasNames : ℕ → (ℕ → Bool) → ℕ → Type 0
HasNames count named mask = mask ≡ mask_of count (λ k. named k && has_bit mask k)

implied : (a b : Bool) → (b ≡ true → a ≡ true) → (a && b) ≡ b
implied true b f = refl
implied false true f = f refl
implied false false f = refl

none_and : (a b : Bool) → b ≡ false → (a && b) ≡ false
none_and true b e = e
none_and false b e = refl

pub of_test : (count : ℕ) (named test : ℕ → Bool) → ((k : ℕ) → k < count → test k ≡ true → named k ≡ true) → HasNames count named (mask_of count test)
of_test count named test by =
    mask_same count test (λ k. named k && has_bit (mask_of count test) k)
    (λ k small. sym (ap (λ b. named k && b) (has_bit-mask count test k small) ∙ implied (named k) (test k) (by k small)))

pub of_nothing : (count : ℕ) (named : ℕ → Bool) → HasNames count named 0
of_nothing count named =
    sym (mask_empty count (mask_of count (λ k. named k && has_bit 0 k)) (mask_below count (λ k. named k && has_bit 0 k))
    (λ k small. has_bit-mask count (λ i. named i && has_bit 0 i) k small ∙ none_and (named k) (has_bit 0 k) (has_bit-zero k)))

-- what is left of such a mask is the mask
pub kept_is : (count : ℕ) (named shown : ℕ → Bool) (mask : ℕ) → HasNames count named mask → ((k : ℕ) → k < count → shown k ≡ has_bit mask k)
    → mask ≡ mask_of count (λ k. named k && shown k)
kept_is count named shown mask h same =
    h ∙ mask_same count (λ k. named k && has_bit mask k) (λ k. named k && shown k) (λ k small. ap (λ b. named k && b) (sym (same k small)))

pub bit_is : (mask k : ℕ) → has_bit mask ((1 + k) - 1) ≡ has_bit mask k
bit_is mask k = let e : (1 + k) - 1 ≡ k = omega arith in ap (has_bit mask) e

-- ---- what is found has a name

find_there : {X : Type 0} (test : X → Bool) (name : X → List ℕ) (xs : List X) (k : ℕ) (x : X) → slice_get xs k ≡ Some x → test x ≡ true
    → is_named (option_map name (find test xs)) ≡ true
find_there test name [] k x h t = cc
find_there {X = X} test name (y ∷ xs) k x h t = go k h (test y) refl (λ j g. find_there test name xs j x g t)
  where
    differ : true ≡ false → ⊥
    differ e = cc

    go : (k : ℕ) → slice_get (y ∷ xs) k ≡ Some x → (b : Bool) → test y ≡ b
        → ((j : ℕ) → slice_get xs j ≡ Some x → is_named (option_map name (find test xs)) ≡ true)
        → is_named (option_map name (if b then Some y else find test xs)) ≡ true
    go k h true e ih = refl
    go zero h false e ih = let same : y ≡ x = cc in absurd (differ (sym (ap test same ∙ t) ∙ e))
    go (suc k) h false e ih = ih k h

zone_there : (site : Site) (source number : ℕ) (test : ℕ → Bool) → on_zone test (numbered site source number) ≡ true
    → is_named (zone_name site source number) ≡ true
zone_there site source number test h = go (numbered site source number) refl h
  where
    go : (o : Option ℕ) → numbered site source number ≡ o → on_zone test o ≡ true → is_named (zone_name site source number) ≡ true
    go None e t = absurd cc
    go (Some place) e t =
        let at = position_got (is_numbered source number) site.zones place e in
        find_there (is_numbered source number) (λ (zone : Zone). zone.name.bytes) site.zones place at.item at.is at.passes

output_there : (site : Site) (panel number : ℕ) (test : ℕ → Bool) → on_place test (output_numbered site panel number) ≡ true
    → is_named (output_name site panel number) ≡ true
output_there site panel number test h = go (output_numbered site panel number) refl h
  where
    go : (o : Option ℕ) → output_numbered site panel number ≡ o → on_place test o ≡ true → is_named (output_name site panel number) ≡ true
    go None e t = absurd cc
    go (Some place) e t =
        let at = position_got (λ (o : Output). (o.panel == panel) && (o.number == number)) site.outputs place e in
        find_there (λ (o : Output). (o.panel == panel) && (o.number == number)) (λ (output : Output). output.name.bytes) site.outputs place at.item
        at.is at.passes

grouped : (a b c : Bool) → (a && (b && c)) ≡ true → ((a && b) && c) ≡ true
grouped true b c h = h
grouped false b c h = h

point_there : (site : Site) (panel line address : ℕ) (test : ℕ → Bool) → on_point test (addressed site panel line address) ≡ true
    → is_named (point_name site panel line address) ≡ true
point_there site panel line address test h = go (addressed site panel line address) refl h
  where
    go : (o : Option ℕ) → addressed site panel line address ≡ o → on_point test o ≡ true → is_named (point_name site panel line address) ≡ true
    go None e t = absurd cc
    go (Some place) e t =
        let at = position_got (is_addressed panel line address) site.points place e in
        find_there (λ (point : Point). (point.panel == panel) && (point.line == line) && (point.address == address))
        (λ (point : Point). point.name.bytes) site.points place at.item at.is
        (grouped (at.item.panel == panel) (at.item.line == line) (at.item.address == address) at.passes)

-- ---- masks of zones, outputs and points

pub zones_named : (site : Site) (source : ℕ) (test : ℕ → Bool)
    → HasNames 32 (λ k. is_named (zone_name site source (1 + k))) (zones_where site source test)
unfolding zones_where
zones_named site source test =
    of_test 32 (λ k. is_named (zone_name site source (1 + k))) (λ k. on_zone test (numbered site source (k + 1)))
    (λ k small h. let e : k + 1 ≡ 1 + k = omega arith in
    subst (λ n. is_named (zone_name site source n) ≡ true) e (zone_there site source (k + 1) test h))

pub outputs_named : (site : Site) (panel : ℕ) (test : ℕ → Bool)
    → HasNames 32 (λ k. is_named (output_name site panel (1 + k))) (outputs_where site panel test)
unfolding outputs_where
outputs_named site panel test =
    of_test 32 (λ k. is_named (output_name site panel (1 + k))) (λ k. on_place test (output_numbered site panel (k + 1)))
    (λ k small h. let e : k + 1 ≡ 1 + k = omega arith in
    subst (λ n. is_named (output_name site panel n) ≡ true) e (output_there site panel (k + 1) test h))

pub points_named : (site : Site) (panel line past from : ℕ) (test : ℕ → Bool) → from ≡ past + 1
    → HasNames 96 (λ k. is_named (point_name site panel line (from + k))) (addresses_where site panel test line past)
unfolding addresses_where
points_named site panel line past from test begins =
    of_test 96 (λ k. is_named (point_name site panel line (from + k))) (λ k. on_point test (addressed site panel line (past + k + 1)))
    (λ k small h. let e : past + k + 1 ≡ from + k = omega (arith, begins) in
    subst (λ n. is_named (point_name site panel line n) ≡ true) e (point_there site panel line (past + k + 1) test h))

-- ---- masks of loops, supplies, panels and links

find_any : {X : Type 0} (test : X → Bool) (xs : List X) (x : X) → find test xs ≡ Some x → list_any test xs ≡ true
find_any test [] x h = cc
find_any test (y ∷ xs) x h = go (test y) h (find_any test xs x)
  where
    go : (b : Bool) → (if b then Some y else find test xs) ≡ Some x → (find test xs ≡ Some x → list_any test xs ≡ true)
        → (b || list_any test xs) ≡ true
    go true h ih = refl
    go false h ih = ih h

broken_there : (site : Site) (panel line : ℕ) (cable : Cable) → (status_on (loop_of site panel line) cable).broken ≡ true
    → has_loop site panel line ≡ true
broken_there site panel line cable h = go (loop_of site panel line) refl h
  where
    go : (o : Option LoopPlan) → loop_of site panel line ≡ o → (status_on o cable).broken ≡ true → has_loop site panel line ≡ true
    go None e t = absurd cc
    go (Some plan) e t = find_any (λ (l : LoopPlan). (l.panel == panel) && (l.line == line)) site.loops plan e

shorted_there : (site : Site) (panel line : ℕ) (cable : Cable) → (status_on (loop_of site panel line) cable).shorted ≡ true
    → has_loop site panel line ≡ true
shorted_there site panel line cable h = go (loop_of site panel line) refl h
  where
    go : (o : Option LoopPlan) → loop_of site panel line ≡ o → (status_on o cable).shorted ≡ true → has_loop site panel line ≡ true
    go None e t = absurd cc
    go (Some plan) e t = find_any (λ (l : LoopPlan). (l.panel == panel) && (l.line == line)) site.loops plan e

numbered_if : (there : Bool) (number : ℕ) → there ≡ true → is_named (number_if there number) ≡ true
numbered_if true number e = refl
numbered_if false number e = cc

module _ (site : Site) (panel : ℕ) (cable : ℕ → Cable) where
  loop_named : (k : ℕ) → has_loop site panel (k + 1) ≡ true → is_named (number_if (has_loop site panel (1 + k)) (1 + k)) ≡ true
  loop_named k h = let e : k + 1 ≡ 1 + k = omega arith in
      numbered_if (has_loop site panel (1 + k)) (1 + k) (subst (λ n. has_loop site panel n ≡ true) e h)

  pub broken_named :
      HasNames 4 (λ k. is_named (number_if (has_loop site panel (1 + k)) (1 + k)))
      (mask_of 4 (λ k. (status_on (loop_of site panel (k + 1)) (cable (k + 1))).broken))
  broken_named =
      of_test 4 (λ k. is_named (number_if (has_loop site panel (1 + k)) (1 + k)))
      (λ k. (status_on (loop_of site panel (k + 1)) (cable (k + 1))).broken)
      (λ k small h. loop_named k (broken_there site panel (k + 1) (cable (k + 1)) h))

  pub shorted_named :
      HasNames 4 (λ k. is_named (number_if (has_loop site panel (1 + k)) (1 + k)))
      (mask_of 4 (λ k. (status_on (loop_of site panel (k + 1)) (cable (k + 1))).shorted))
  shorted_named =
      of_test 4 (λ k. is_named (number_if (has_loop site panel (1 + k)) (1 + k)))
      (λ k. (status_on (loop_of site panel (k + 1)) (cable (k + 1))).shorted)
      (λ k small h. loop_named k (shorted_there site panel (k + 1) (cable (k + 1)) h))

supply_there : (k : ℕ) → k < 4 → is_named (supply_name (1 + k)) ≡ true
supply_there zero l = refl
supply_there (suc zero) l = refl
supply_there (suc (suc zero)) l = refl
supply_there (suc (suc (suc zero))) l = refl
supply_there (suc (suc (suc (suc k)))) l = absurd (omega (arith, l))

pub supplies_named : (test : ℕ → Bool) → HasNames 4 (λ k. is_named (supply_name (1 + k))) (mask_of 4 test)
supplies_named test = of_test 4 (λ k. is_named (supply_name (1 + k))) test (λ k small h. supply_there k small)

pub silent_named : (site : Site) (test : ℕ → Bool)
    → HasNames 8 (λ k. is_named (number_if (is_panel site (1 + k)) (1 + k))) (mask_of 8 (λ k. nat_lt k site.panels && test k))
silent_named site test =
    of_test 8 (λ k. is_named (number_if (is_panel site (1 + k)) (1 + k))) (λ k. nat_lt k site.panels && test k)
    (λ k small h. numbered_if (is_panel site (1 + k)) (1 + k) (by k (lt_from k site.panels (parts (nat_lt k site.panels) (test k) h).0)))
  where
    by : (k : ℕ) → k < site.panels → is_panel site (1 + k) ≡ true
    by k l = both (nat_le 1 (1 + k)) (nat_le (1 + k) site.panels) (le_to 1 (1 + k) (omega arith)) (le_to (1 + k) site.panels (omega (arith, l)))

not_eq : (a b : ℕ) → (a == b) ≡ false → a ≢ b
not_eq a b e = elim (eqb_tells a b) [ inl h ↦ (let x : true ≡ false = sym h.0 ∙ e in absurd cc) | inr h ↦ h.1 ]

link_in : (panels panel link : ℕ) → IsPanel panels panel → is_link_of panels panel link ≡ true → (2 ≤ panels) × (1 ≤ link) × (link ≤ panels)
link_in panels panel link own h =
    let p = parts (nat_lt 1 panels) ((link == panel) || (link == left_of panels panel)) h in
    let many = lt_from 1 panels p.0 in
    elim (either (link == panel) (link == left_of panels panel) p.1) [
      | inl e ↦ (let same = eq_is link panel e in (omega (arith, many), omega (arith, same, own.0), omega (arith, same, own.1)))
      | inr e ↦ (let same = eq_is link (left_of panels panel) e in left (panel == 1) refl many same)
    ]
  where
    left : (b : Bool) → (panel == 1) ≡ b → 1 < panels → link ≡ (if b then panels else panel - 1) → (2 ≤ panels) × (1 ≤ link) × (link ≤ panels)
    left true e many same = (omega (arith, many), omega (arith, same, many), omega (arith, same))
    left false e many same = let apart = not_eq panel 1 e in (omega (arith, many), omega (arith, same, apart, own.0), omega (arith, same, own.1))

pub links_named : (site : Site) (panel : ℕ) (test : ℕ → Bool) → IsPanel site.panels panel
    → HasNames 8 (λ k. is_named (number_if (is_link site (1 + k)) (1 + k))) (mask_of 8 (λ k. is_link_of site.panels panel (k + 1) && test k))
links_named site panel test own =
    of_test 8 (λ k. is_named (number_if (is_link site (1 + k)) (1 + k))) (λ k. is_link_of site.panels panel (k + 1) && test k)
    (λ k small h.
    numbered_if (is_link site (1 + k)) (1 + k)
    (by k (link_in site.panels panel (k + 1) own (parts (is_link_of site.panels panel (k + 1)) (test k) h).0)))
  where
    by : (k : ℕ) → (2 ≤ site.panels) × (1 ≤ k + 1) × (k + 1 ≤ site.panels) → is_link site (1 + k) ≡ true
    by k l =
        both (nat_le 2 site.panels && nat_le 1 (1 + k)) (nat_le (1 + k) site.panels)
        (both (nat_le 2 site.panels) (nat_le 1 (1 + k)) (le_to 2 site.panels l.0) (le_to 1 (1 + k) (omega arith)))
        (le_to (1 + k) site.panels (omega (arith, l.2)))
