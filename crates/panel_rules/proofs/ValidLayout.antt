-- A valid site is laid out as the rules of the whole need it.
use Rattle.std.proofs.Common.{◌≡◌, ℕ, zero, suc, ◌+◌, ◌≤◌, ◌==◌, ◌&&◌, List, [], ◌∷◌, length, Some, None, slice_get, Bool, true, false, not, cond, refl, sym, ◌∙◌, ap, arith}
use Rattle.std.specs.List.{position, position_or_len}
use Rattle.std.proofs.lemmas.Bool.{eqb-true}
use Rattle.std.proofs.lemmas.Option.{slice_get_within}
use Rattle.site_types.specs.declared.site.Site.{Site}
use Rattle.site_types.specs.declared.point.Point.{Point}
use Rattle.site_types.specs.Valid.{IsValid, point_key}
use Rattle.site_types.proofs.ValidSites.{point_at as point_is, zone_of_point, partner_of_zone}
use Rattle.panel_rules.specs.Zones.{panel_of}
use Rattle.panel_rules.proofs.SiteLayout.{IsLaidOut, PointLies}
use Rattle.panel_rules.proofs.Bools.{both, parts}
use Rattle.panel_rules.proofs.Floors.{lt_to}
use Rattle.panel_rules.proofs.AnswersTell.{position_got, eq_true}

first_by : {X : Type 0} (test : X → Bool) (xs : List X) (i : ℕ) (x : X) → slice_get xs i ≡ Some x → test x ≡ true → position_or_len test xs ≤ i
first_by test [] i x h t = cc
first_by test (y ∷ xs) i x h t = go (test y) refl i h (λ j g. first_by test xs j x g t)
  where
    go : (b : Bool) → test y ≡ b → (i : ℕ) → slice_get (y ∷ xs) i ≡ Some x → ((j : ℕ) → slice_get xs j ≡ Some x → position_or_len test xs ≤ j)
        → cond (not b) (1 + position_or_len test xs) 0 ≤ i
    go true e i h ih = omega arith
    go false e zero h ih = (let s : y ≡ x = cc in let f = ap test (sym s) ∙ e in absurd (never (test x) t f))
      where
        never : (b : Bool) → b ≡ true → b ≡ false → ⊥
        never true p q = cc
        never false p q = cc
    go false e (suc i) h ih = omega (arith, ih i h)

-- a search ends at the one that passes
pub position_unique : {X : Type 0} (test : X → Bool) (xs : List X) (i : ℕ) (x : X) → slice_get xs i ≡ Some x → test x ≡ true
    → ((j : ℕ) (y : X) → slice_get xs j ≡ Some y → test y ≡ true → j ≡ i) → position test xs ≡ Some i
position_unique test xs i x h t one =
    let n = position_or_len test xs in
    let found : position test xs ≡ Some n =
    ap (λ b. cond b (Some n) None) (lt_to n (length xs) (omega (arith, first_by test xs i x h t, slice_get_within xs i x h))) in
    let g = position_got test xs n found in
    found ∙ ap Some (one n g.item g.is g.passes)

module _ (site : Site) (valid : IsValid site) where
  lies : (point : ℕ) (plan : Point) → slice_get site.points point ≡ Some plan → PointLies site point plan
  lies point plan at =
      let is = point_is site valid point plan at in
      let zone = zone_of_point site valid point plan at in
      record {
        panel = is.panel;
        line = is.line;
        address = is.address;
        alone =
            position_unique _ site.points point plan at
            (both _ _ (eq_true plan.panel plan.panel refl) (both _ _ (eq_true plan.line plan.line refl) (eq_true plan.address plan.address refl)))
            (λ j q g t. valid.twins.points j point q plan g at (same_key q t));
        zone = ap panel_of zone.is ∙ zone.at_panel;
      }
    where
      same_key : (q : Point) → ((q.panel == plan.panel) && ((q.line == plan.line) && (q.address == plan.address))) ≡ true
          → point_key q ≡ point_key plan
      same_key q t =
          let a = parts (q.panel == plan.panel) ((q.line == plan.line) && (q.address == plan.address)) t in
          let b = parts (q.line == plan.line) (q.address == plan.address) a.1 in
          let p = eqb-true q.panel plan.panel a.0 in
          let l = eqb-true q.line plan.line b.0 in
          let d = eqb-true q.address plan.address b.1 in
          cc

  pub laid_out : IsLaidOut site
  laid_out =
      record {
        format = valid.forms.format;
        points = lies;
        partners = λ zone other plan at has. (let h = partner_of_zone site valid zone plan other at has in ap panel_of h.is ∙ h.at_panel);
      }
