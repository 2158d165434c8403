-- A draft whose values are in their ranges and in which nothing stands twice has few parts.
use Rattle.std.proofs.Common.{◌≡◌, ◌≤◌, ◌<◌, ◌+◌, ◌-◌, ◌*◌, ℕ, [], ◌∷◌, None, length, arith}
use Rattle.std.specs.Prelude.{slice_get, Some}
use Rattle.site_types.proofs.Counting.{few}
use Rattle.site_document.specs.declared.draft.Draft.{Draft}
use Rattle.site_document.specs.declared.draft_output.DraftOutput.{DraftOutput}
use Rattle.site_document.specs.declared.draft_point.DraftPoint.{DraftPoint}
use Rattle.site_document.specs.declared.draft_zone.DraftZone.{DraftZone}
use Rattle.site_config.specs.Claims.{twice_in}
use Rattle.site_config.proofs.ListsAlike.{all_by_place, by_place}
use Rattle.site_config.proofs.DraftForms.{IsDraftOutput, IsDraftPoint, IsDraftZone}
use Rattle.site_config.proofs.SiteForms.{HasDraftForms}
use Rattle.site_config.proofs.Twins.{outputs_apart, points_apart, zones_apart}

-- a number at a panel, in one number
abbrev at_panel : ℕ → ℕ → ℕ
at_panel panel number = 32 * (panel - 1) + (number - 1)

-- an address of a loop of a panel, in one number
abbrev at_loop : ℕ → ℕ → ℕ → ℕ
at_loop panel line address = 768 * (panel - 1) + (192 * (line - 1) + (address - 1))

record IsNumber (panel number : ℕ) : Type 0 where
  panel_least : 1 ≤ panel
  panel_most : panel ≤ 8
  number_least : 1 ≤ number
  number_most : number ≤ 32

record IsAddress (panel line address : ℕ) : Type 0 where
  panel_least : 1 ≤ panel
  panel_most : panel ≤ 8
  line_least : 1 ≤ line
  line_most : line ≤ 4
  address_least : 1 ≤ address
  address_most : address ≤ 192

number_low : (p n : ℕ) → IsNumber p n → at_panel p n < 256
number_low p n h = omega arith

number_apart : (p n q m : ℕ) → IsNumber p n → IsNumber q m → at_panel p n ≡ at_panel q m → p ∷ n ∷ [] ≡ q ∷ m ∷ []
number_apart p n q m x y same =
    let panel : p ≡ q = omega arith in
    let number : n ≡ m = omega arith in
    cc

address_low : (p l a : ℕ) → IsAddress p l a → at_loop p l a < 6144
address_low p l a h = omega arith

address_apart : (p l a q m b : ℕ) → IsAddress p l a → IsAddress q m b → at_loop p l a ≡ at_loop q m b → p ∷ l ∷ a ∷ [] ≡ q ∷ m ∷ b ∷ []
address_apart p l a q m b x y same =
    let panel : p ≡ q = omega arith in
    let line : l ≡ m = omega arith in
    let address : a ≡ b = omega arith in
    cc

pub record HasFewParts (draft : Draft) : Type 0 where
  pub zones : length draft.zones ≤ 256
  pub points : length draft.points ≤ 6144
  pub outputs : length draft.outputs ≤ 256
  pub markers : length draft.markers ≤ 256

module _ (draft : Draft) (forms : HasDraftForms draft) (once : twice_in draft ≡ None) where
  zone_number : (k : ℕ) (z : DraftZone) → slice_get draft.zones k ≡ Some z → IsNumber z.panel z.number
  zone_number k z at =
      let is = by_place (IsDraftZone draft.format draft.panels) draft.zones forms.zones k z at in
      let most = forms.panels.1 in
      record { panel_least = is.panel.0; panel_most = omega (arith, is.panel.1, most); number_least = is.number.0; number_most = is.number.1 }

  output_number : (k : ℕ) (o : DraftOutput) → slice_get draft.outputs k ≡ Some o → IsNumber o.panel o.number
  output_number k o at =
      let is = by_place (IsDraftOutput draft.format draft.panels) draft.outputs forms.outputs k o at in
      let most = forms.panels.1 in
      record { panel_least = is.panel.0; panel_most = omega (arith, is.panel.1, most); number_least = is.number.0; number_most = is.number.1 }

  point_address : (k : ℕ) (p : DraftPoint) → slice_get draft.points k ≡ Some p → IsAddress p.panel p.line p.address
  point_address k p at =
      let is = by_place (IsDraftPoint draft.format draft.panels) draft.points forms.points k p at in
      let most = forms.panels.1 in
      let format = forms.format.1 in
      record {
        panel_least = is.panel.0;
        panel_most = omega (arith, is.panel.1, most);
        line_least = is.line.0;
        line_most = is.line.1;
        address_least = is.address.0;
        address_most = omega (arith, is.address.1, format);
      }

  few_zones : length draft.zones ≤ 256
  few_zones = few (λ (z : DraftZone). at_panel z.panel z.number) 256 draft.zones
      (all_by_place (λ (z : DraftZone). at_panel z.panel z.number < 256) draft.zones (λ k z at. number_low z.panel z.number (zone_number k z at)))
      (λ j k a b p q same.
      zones_apart draft once j k a b p q (number_apart a.panel a.number b.panel b.number (zone_number j a p) (zone_number k b q) same))

  few_outputs : length draft.outputs ≤ 256
  few_outputs = few (λ (o : DraftOutput). at_panel o.panel o.number) 256 draft.outputs
      (all_by_place (λ (o : DraftOutput). at_panel o.panel o.number < 256) draft.outputs
      (λ k o at. number_low o.panel o.number (output_number k o at)))
      (λ j k a b p q same.
      outputs_apart draft once j k a b p q (number_apart a.panel a.number b.panel b.number (output_number j a p) (output_number k b q) same))

  few_points : length draft.points ≤ 6144
  few_points = few (λ (p : DraftPoint). at_loop p.panel p.line p.address) 6144 draft.points
      (all_by_place (λ (p : DraftPoint). at_loop p.panel p.line p.address < 6144) draft.points
      (λ k p at. address_low p.panel p.line p.address (point_address k p at)))
      (λ j k a b p q same.
      points_apart draft once j k a b p q
      (address_apart a.panel a.line a.address b.panel b.line b.address (point_address j a p) (point_address k b q) same))

  pub few_parts : HasFewParts draft
  few_parts = record { zones = few_zones; points = few_points; outputs = few_outputs; markers = forms.few_markers }
