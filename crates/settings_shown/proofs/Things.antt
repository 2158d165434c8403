-- The masks of the zones, outputs and points of a site that pass a test, where the test changes at one of them.
use Rattle.std.proofs.Common.{◌≡◌, ◌≢◌, ◌⊎◌, inl, inr, ℕ, ◌-◌, Bool, List, length, get_or, Option, Some, None, slice_get, ◌==◌, ◌&&◌}
use Rattle.std.proofs.Common.{if◌then◌else◌, refl, sym, ◌∙◌, ap, arith, get_or-set_same, get_or-set_other}
use Rattle.std.proofs.lemmas.Bool.{eq-eqb}
use Rattle.std.proofs.lemmas.Bool.Decides.{eqb_tells}
use Rattle.std.proofs.lemmas.Option.{same_Some}
use Rattle.site_types.specs.declared.output.Output.{Output}
use Rattle.site_types.specs.declared.point.Point.{Point}
use Rattle.site_types.specs.declared.point_set.PointSet.{PointSet}
use Rattle.site_types.specs.declared.site.Site.{Site}
use Rattle.site_types.specs.declared.zone.Zone.{Zone}
use Rattle.site_types.specs.Bits.{with_point}
use Rattle.site_types.specs.Changes.{HasOwnPlaces, IsPanelNumber, with_number}
use Rattle.site_types.specs.Done.{no_points}
use Rattle.site_types.proofs.ChangedBits.{set_points}
use Rattle.coincidence_rules.specs.Places.{numbered, on_zone, zones_where}
use Rattle.coincidence_rules.specs.Wired.{IsWired}
use Rattle.coincidence_rules.proofs.ZoneMasks.{numbered_of, of_numbered}
use Rattle.panel_conditions.specs.Points.{addressed, on_point, points_where}
use Rattle.panel_conditions.proofs.Addressed.{addressed_of, neq_false, of_addressed}
use Rattle.panel_conditions.proofs.PointSets.{put_is, sets_agree}
use Rattle.panel_rules.specs.Outputs.{on_place, output_numbered, outputs_where}
use Rattle.panel_rules.proofs.AnswersTell.{position_got}
use Rattle.panel_rules.proofs.Bools.{both, parts}
use Rattle.panel_rules.proofs.ValidLayout.{position_unique}
use Rattle.panel_laws.proofs.AnswerLaws.{eq_is}
use Rattle.settings_shown.proofs.Numbers.{number_put}

-- a test that is another at one place at most
abbrev pub ChangesAt : ℕ → Bool → (ℕ → Bool) → (ℕ → Bool) → Type 0
ChangesAt place on before after = (other : ℕ) → after other ≡ (if other == place then on else before other)

changed_here : (place : ℕ) (on : Bool) (before after : ℕ → Bool) → ChangesAt place on before after → after place ≡ on
changed_here place on before after h = h place ∙ ap (λ b. if b then on else before place) (eq-eqb place place refl)

same_elsewhere : (place other : ℕ) (on : Bool) (before after : ℕ → Bool) → ChangesAt place on before after → other ≢ place → after other ≡ before other
same_elsewhere place other on before after h apart = h other ∙ ap (λ b. if b then on else before other) (neq_false other place apart)

module _ (site : Site) (place : ℕ) (on : Bool) (before after : ℕ → Bool) (h : ChangesAt place on before after) where
  -- zones
  zone_elsewhere : (zone : Zone) → slice_get site.zones place ≡ Some zone → (panel number : ℕ) → (panel ≡ zone.panel → number ≡ zone.number → ⊥)
      → (o : Option ℕ) → numbered site panel number ≡ o → on_zone after o ≡ on_zone before o
  zone_elsewhere zone is panel number apart None e = refl
  zone_elsewhere zone is panel number apart (Some other) e =
      same_elsewhere place other on before after h (λ same.
      let found = of_numbered site panel number other e in
      let one : zone ≡ found.zone = same_Some zone found.zone (sym is ∙ ap (slice_get site.zones) (sym same) ∙ found.is) in
      apart (sym found.panel_is ∙ sym (ap (λ (z : Zone). z.panel) one)) (sym found.number_is ∙ sym (ap (λ (z : Zone). z.number) one)))

  pub zone_put : (zone : Zone) → slice_get site.zones place ≡ Some zone → IsWired site → (masks : List ℕ) → length masks ≡ 8
      → ((p : ℕ) → IsPanelNumber p → get_or masks (p - 1) 0 ≡ zones_where site p before) → (p : ℕ) → IsPanelNumber p
      → get_or (with_number masks zone.panel zone.number on) (p - 1) 0 ≡ zones_where site p after
  unfolding zones_where
  zone_put zone is wired masks size were =
      let own = wired.zones place zone is in
      number_put masks zone.panel zone.number on (λ p n. on_zone before (numbered site p n)) (λ p n. on_zone after (numbered site p n)) size own.0 own.1
      (ap (on_zone after) (numbered_of site place zone wired is) ∙ changed_here place on before after h)
      (λ p n apart. zone_elsewhere zone is p n apart (numbered site p n) refl) were

  -- outputs
  output_elsewhere : (output : Output) → slice_get site.outputs place ≡ Some output → (panel number : ℕ)
      → (panel ≡ output.panel → number ≡ output.number → ⊥) → (o : Option ℕ) → output_numbered site panel number ≡ o → on_place after o ≡ on_place before o
  output_elsewhere output is panel number apart None e = refl
  output_elsewhere output is panel number apart (Some other) e =
      same_elsewhere place other on before after h (λ same.
      let found = position_got (λ (o : Output). (o.panel == panel) && (o.number == number)) site.outputs other e in
      let mine = parts (found.item.panel == panel) (found.item.number == number) found.passes in
      let one : output ≡ found.item = same_Some output found.item (sym is ∙ ap (slice_get site.outputs) (sym same) ∙ found.is) in
      apart (sym (ap (λ (o : Output). o.panel) one ∙ eq_is found.item.panel panel mine.0))
      (sym (ap (λ (o : Output). o.number) one ∙ eq_is found.item.number number mine.1)))

  output_at : (output : Output) → slice_get site.outputs place ≡ Some output → HasOwnPlaces site
      → output_numbered site output.panel output.number ≡ Some place
  output_at output is own =
      position_unique (λ (o : Output). (o.panel == output.panel) && (o.number == output.number)) site.outputs place output is
      (both _ _ (eq-eqb output.panel output.panel refl) (eq-eqb output.number output.number refl))
      (λ other o at t. (let g = parts (o.panel == output.panel) (o.number == output.number) t in
      own.outputs_apart other place o output at is (eq_is o.panel output.panel g.0) (eq_is o.number output.number g.1)))

  pub output_put : (output : Output) → slice_get site.outputs place ≡ Some output → HasOwnPlaces site → (masks : List ℕ) → length masks ≡ 8
      → ((p : ℕ) → IsPanelNumber p → get_or masks (p - 1) 0 ≡ outputs_where site p before) → (p : ℕ) → IsPanelNumber p
      → get_or (with_number masks output.panel output.number on) (p - 1) 0 ≡ outputs_where site p after
  unfolding outputs_where
  output_put output is own masks size were =
      let at = own.output place output is in
      number_put masks output.panel output.number on (λ p n. on_place before (output_numbered site p n))
      (λ p n. on_place after (output_numbered site p n)) size at.0 at.1
      (ap (on_place after) (output_at output is own) ∙ changed_here place on before after h)
      (λ p n apart. output_elsewhere output is p n apart (output_numbered site p n) refl) were

  -- points
  point_elsewhere : (point : Point) → slice_get site.points place ≡ Some point → (panel line address : ℕ)
      → (panel ≡ point.panel → line ≡ point.line → address ≡ point.address → ⊥) → (o : Option ℕ) → addressed site panel line address ≡ o
      → on_point before o ≡ on_point after o
  point_elsewhere point is panel line address apart None e = refl
  point_elsewhere point is panel line address apart (Some other) e =
      sym (same_elsewhere place other on before after h (λ same.
      let found = of_addressed site panel line address other e in
      let one : point ≡ found.point = same_Some point found.point (sym is ∙ ap (slice_get site.points) (sym same) ∙ found.is) in
      apart (sym (ap (λ (p : Point). p.panel) one ∙ found.panel_is)) (sym (ap (λ (p : Point). p.line) one ∙ found.line_is))
      (sym (ap (λ (p : Point). p.address) one ∙ found.address_is))))

  at_its_panel : (point : Point) → slice_get site.points place ≡ Some point → HasOwnPlaces site
      → with_point (points_where site point.panel before) point.line point.address on ≡ points_where site point.panel after
  at_its_panel point is own =
      put_is site point.panel before after point.line point.address on
      (ap (on_point after) (addressed_of site place point own is) ∙ changed_here place on before after h) (own.point place point is).1
      (λ l a apart. point_elsewhere point is point.panel l a (clash l a apart) (addressed site point.panel l a) refl)
    where
      clash : (l a : ℕ) → (l ≢ point.line) ⊎ (a ≢ point.address) → point.panel ≡ point.panel → l ≡ point.line → a ≡ point.address → ⊥
      clash l a (inl far) _ e f = far e
      clash l a (inr far) _ e f = far f

  pub point_put : (point : Point) → slice_get site.points place ≡ Some point → HasOwnPlaces site → (points : List PointSet) → length points ≡ 8
      → ((p : ℕ) → IsPanelNumber p → get_or points (p - 1) no_points ≡ points_where site p before) → (p : ℕ) → IsPanelNumber p
      → get_or (set_points points point.panel point.line point.address on) (p - 1) no_points ≡ points_where site p after
  point_put point is own points size were p at =
      let here = (own.point place point is).0 in
      let set_new = with_point (get_or points (point.panel - 1) no_points) point.line point.address on in
      elim (eqb_tells p point.panel) [
        | inl same ↦ ap (λ q. get_or (set_points points point.panel point.line point.address on) (q - 1) no_points) same.1
            ∙ get_or-set_same points (point.panel - 1) set_new no_points (omega (arith, size, here.0, here.1))
            ∙ ap (λ s. with_point s point.line point.address on) (were point.panel here)
            ∙ at_its_panel point is own
            ∙ ap (λ q. points_where site q after) (sym same.1)
        | inr other ↦ (let far = other.1 in
            let ne : p - 1 ≢ point.panel - 1 = (λ e. far (omega (arith, e, here.0, at.0))) in
            get_or-set_other points (point.panel - 1) (p - 1) set_new no_points ne
            ∙ were p at
            ∙ sets_agree site p before after (λ l a. point_elsewhere point is p l a (λ e _ _. far e) (addressed site p l a) refl))
      ]
