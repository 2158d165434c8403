-- What is asked for of a panel's own outputs is what is asked for of all.
use Rattle.std.proofs.Common.{◌≡◌, ◌∙◌, ◌<◌, ◌≤◌, ◌+◌, ◌^◌, ◌==◌, ◌&&◌, ◌||◌, ℕ, Bool, true, false, List, [], ◌∷◌, Some, suc, length, take, ap, sym, refl, inl, inr, arith, lit<}
use Rattle.std.specs.List.{list_any}
use Rattle.std.specs.Prelude.{slice_get, slice_index_or}
use Rattle.std.proofs.lemmas.Bool.{cases_lt, ne_eqb}
use Rattle.std.proofs.lemmas.List.{get_or_past, take_all}
use Rattle.site_types.specs.declared.output.Output.{Output}
use Rattle.site_types.specs.declared.requests.Requests.{Requests}
use Rattle.site_types.specs.declared.site.Site.{Site}
use Rattle.site_types.specs.Bits.{has_bit}
use Rattle.site_types.specs.Valid.{IsValid}
use Rattle.site_types.proofs.ValidSites.{output_numbers}
use Rattle.site_types.proofs.Masks.{has_bit-zero, mask_from_bits, mask_same}
use Rattle.cause_effect.specs.Requests.{asked, asked_among, asks, asks_among, outputs_of}

among_one : (values : ℕ → Bool) (number panel : ℕ) (output : Output) (own : Bool) (rest : List Output) (more : Bool)
    → (output.panel == panel) ≡ own → list_any (asks_among values number) (outputs_of panel rest) ≡ more
    → list_any (asks_among values number) (outputs_of panel (output ∷ rest)) ≡ (asks panel values number output || more)
among_one values number panel output true rest more is others = rw (is, others) refl
among_one values number panel output false rest more is others = rw is others

among_own : (values : ℕ → Bool) (number panel : ℕ) (outputs : List Output)
    → list_any (asks_among values number) (outputs_of panel outputs) ≡ list_any (asks panel values number) outputs
among_own values number panel [] = refl
among_own values number panel (output ∷ rest) =
    among_one values number panel output (output.panel == panel) rest _ refl (among_own values number panel rest)

pub asked_own : (values : ℕ → Bool) (panel : ℕ) (outputs : List Output) → asked_among values (outputs_of panel outputs) ≡ asked panel values outputs
asked_own values panel outputs =
    mask_same 32 (λ bit. list_any (asks_among values (bit + 1)) (outputs_of panel outputs)) (λ bit. list_any (asks panel values (bit + 1)) outputs)
    (λ bit small. among_own values (bit + 1) panel outputs)

-- the mask of all bits that are known
pub asked_known : (values : ℕ → Bool) (outputs : List Output) (mask count : ℕ) → mask < 2 ^ 32 → length outputs ≤ count
    → ((bit : ℕ) → bit < 32 → has_bit mask bit ≡ list_any (asks_among values (bit + 1)) (take count outputs))
    → mask ≡ asked_among values outputs
asked_known values outputs mask count fits whole known =
    mask_from_bits 32 mask (λ bit. list_any (asks_among values (bit + 1)) outputs) fits
    (λ bit small. known bit small ∙ ap (list_any (asks_among values (bit + 1))) (take_all count outputs whole))

not_asked : (own value more : Bool) → value ≡ false → more ≡ false → ((own && value) || more) ≡ false
not_asked true value more none others = rw (none, others) refl
not_asked false value more none others = others

-- where no marker is true no output is asked for
none_asked : (values : ℕ → Bool) → ((marker : ℕ) → values marker ≡ false) → (number : ℕ) (outputs : List Output)
    → list_any (asks_among values number) outputs ≡ false
none_asked values none number [] = refl
none_asked values none number (output ∷ rest) =
    not_asked (output.number == number) (values output.marker) (list_any (asks_among values number) rest) (none output.marker)
    (none_asked values none number rest)

pub no_marker_asks : (values : ℕ → Bool) (outputs : List Output) → ((marker : ℕ) → values marker ≡ false) → 0 ≡ asked_among values outputs
no_marker_asks values outputs none =
    asked_known values outputs 0 (length outputs) (lit< tt) (omega (arith))
    (λ bit small. has_bit-zero bit ∙ sym (none_asked values none (bit + 1) (take (length outputs) outputs)))

-- outside the panels of a site there is no output
pub none_beyond : (panel : ℕ) (outputs : List Output) → ((k : ℕ) (output : Output) → slice_get outputs k ≡ Some output → output.panel ≡ panel → ⊥)
    → outputs_of panel outputs ≡ []
none_beyond panel [] apart = refl
none_beyond panel (output ∷ rest) apart =
    let other : (output.panel == panel) ≡ false = ne_eqb output.panel panel (apart 0 output refl) in
    rw other (none_beyond panel rest (λ k. apart (suc k)))

pub all_panels : (site : Site) → IsValid site → (lists items : List (List Output)) (count : ℕ) → lists ≡ items → 9 ≤ count → length items ≡ count
    → ((panel : ℕ) → panel < count → slice_index_or items panel [] ≡ outputs_of panel site.outputs)
    → (panel : ℕ) → slice_index_or lists panel [] ≡ outputs_of panel site.outputs
all_panels site valid lists items count is all size known panel = ap (λ xs. slice_index_or xs panel []) is ∙ elim (cases_lt panel count) [
  | inl small ↦ known panel small
  | inr beyond ↦ (let past : length items ≤ panel = omega (arith, size, beyond) in
      get_or_past items panel [] past
      ∙ sym (none_beyond panel site.outputs (λ k output at of_panel.
      let low = (output_numbers site valid k output at).1 in omega (arith, low, of_panel, beyond, all))))
]

pub requests_same : (asked asks_for manual by_hand : ℕ) → asked ≡ asks_for → manual ≡ by_hand
    → ◌≡◌ {A = Requests} (record { asked = asked; manual = manual }) (record { asked = asks_for; manual = by_hand })
requests_same asked asks_for manual by_hand one other = rw (one, other) refl
