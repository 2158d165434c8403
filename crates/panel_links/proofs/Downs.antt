-- The links of a panel that are down.
use Rattle.std.proofs.Common.{◌≡◌, ◌≢◌, ◌∙◌, ◌≤◌, ◌<◌, ◌+◌, ◌-◌, ◌==◌, ◌&&◌, ℕ, List, true, false, nat_lt, inl, inr, refl, sym, ap, arith}
use Rattle.std.specs.Prelude.{not}
use Rattle.std.proofs.lemmas.Bool.{and_right, cases_eq, eq-eqb, lt-ltb, ne_eqb}
use Rattle.std.proofs.lemmas.Bool.Decides.{eqb_tells}
use Rattle.site_types.specs.Bits.{has_bit}
use Rattle.panel_links.specs.Words.{Call, is_up, left_of}
use Rattle.panel_links.specs.Stands.{is_down_at, is_link_of}

pub left_within : (panels panel : ℕ) → 1 ≤ panel → panel ≤ panels → (1 ≤ left_of panels panel) × (left_of panels panel ≤ panels)
left_within panels panel first last =
    elim (eqb_tells panel 1) [
      | inl t ↦ rw t.0 (omega (arith, first, last), omega arith)
      | inr t ↦ let apart = t.1 in rw t.0 (omega (arith, first, apart), omega (arith, last))
    ]

-- a link that is up isn't down at a panel, and a panel alone has no links
pub up_there : (panels panel link : ℕ) (calls : List Call) → is_up link calls ≡ true → is_down_at panels panel calls link ≡ false
up_there panels panel link calls up = and_right (is_link_of panels panel link) (not (is_up link calls)) (ap not up)

pub alone_there : (panels panel link : ℕ) (calls : List Call) → panels ≡ 1 → is_down_at panels panel calls link ≡ false
alone_there panels panel link calls alone = rw alone refl

-- the bits of a panel's two links
module _ (panels panel : ℕ) (calls : List Call) (several : 1 < panels) where
  own_there : (link : ℕ) → link ≡ panel → is_down_at panels panel calls link ≡ not (is_up link calls)
  own_there link same =
      let t0 : nat_lt 1 panels ≡ true = lt-ltb 1 panels several in
      let t1 : (link == panel) ≡ true = eq-eqb link panel same in
      rw (t0, t1) refl

  left_there : (link : ℕ) → link ≢ panel → link ≡ left_of panels panel → is_down_at panels panel calls link ≡ not (is_up link calls)
  left_there link apart same =
      let t0 : nat_lt 1 panels ≡ true = lt-ltb 1 panels several in
      let t1 : (link == panel) ≡ false = ne_eqb link panel apart in
      let t2 : (link == left_of panels panel) ≡ true = eq-eqb link (left_of panels panel) same in
      rw (t0, t1, t2) refl

  neither_there : (link : ℕ) → link ≢ panel → link ≢ left_of panels panel → is_down_at panels panel calls link ≡ false
  neither_there link apart other =
      let t1 : (link == panel) ≡ false = ne_eqb link panel apart in
      let t2 : (link == left_of panels panel) ≡ false = ne_eqb link (left_of panels panel) other in
      rw (t1, t2) (ap (λ b. b && not (is_up link calls)) (and_right (nat_lt 1 panels) false refl))

  pub two_bits : (own both left : ℕ) → left ≡ left_of panels panel → 1 ≤ panel → 1 ≤ left
      → has_bit own (panel - 1) ≡ not (is_up panel calls) → ((k : ℕ) → k < 8 → k ≢ panel - 1 → has_bit own k ≡ false)
      → has_bit both (left - 1) ≡ not (is_up left calls) → ((k : ℕ) → k < 8 → k ≢ left - 1 → has_bit both k ≡ has_bit own k)
      → (k : ℕ) → k < 8 → has_bit both k ≡ is_down_at panels panel calls (k + 1)
  two_bits own both left is first near own_is own_rest left_is left_rest k small = elim (cases_eq (k + 1) left) [
    | inl same ↦
        ap (has_bit both) (omega (arith, same)) ∙ left_is ∙ ap (λ l. not (is_up l calls)) (sym same) ∙ sym (elim (cases_eq (k + 1) panel) [
          | inl here ↦ own_there (k + 1) here
          | inr apart ↦ left_there (k + 1) apart (same ∙ is)
        ])
    | inr other ↦ left_rest k small (λ e. other (omega (arith, e, near))) ∙ elim (cases_eq (k + 1) panel) [
      | inl here ↦
          ap (has_bit own) (omega (arith, here)) ∙ own_is ∙ ap (λ l. not (is_up l calls)) (sym here) ∙ sym (own_there (k + 1) here)
      | inr apart ↦
          own_rest k small (λ e. apart (omega (arith, e, first))) ∙ sym (neither_there (k + 1) apart (λ e. other (e ∙ sym is)))
    ]
  ]
