use Rattle.std.proofs.Common.{◌≡◌, ◌∙◌, ◌+◌, ◌<◌, ◌==◌, ℕ, List, [], ◌∷◌, Some, true, length, slice_get, ap, arith, inl, inr, refl, subst, sym}
use Rattle.std.specs.Prelude.{slice_index, slice_index_or}
use Rattle.std.proofs.lemmas.Bool.{eqb-true}
use Rattle.std.proofs.lemmas.Bool.Decides.{eqb_tells}
use Rattle.std.proofs.lemmas.Option.{slice_get-get_or, slice_get_within}
use Rattle.panel_conditions.specs.Changes.{ShowsAs}
use Rattle.panel_conditions.specs.Shown.{entries_after}
use Rattle.panel_conditions.specs.Stands.{HoldsFor}
use Rattle.panel_parts.specs.declared.parts.Parts.{Parts}
use Rattle.panel_core.proofs.system.System.has_kept_all.Goals as goal

-- one panel more
kept_more : (panels : List Parts) (entries : List ℕ) (here : ℕ) (own : Parts) (count : ℕ) → slice_get panels here ≡ Some own
    → ShowsAs own.hold count entries_after → count ≡ slice_index entries here
    → ((place : ℕ) (parts : Parts) → slice_get panels place ≡ Some parts → place < here → ShowsAs parts.hold (slice_index entries place) entries_after)
    → (place : ℕ) (parts : Parts) → slice_get panels place ≡ Some parts → place < here + 1
    → ShowsAs parts.hold (slice_index entries place) entries_after
kept_more panels entries here own count is shows same told place parts there less site kept panel done turns holds =
    elim (eqb_tells place here) [
      | inl t ↦ (
          let one : Some parts ≡ Some own = sym there ∙ ap (slice_get panels) t.1 ∙ is in
          let e : own ≡ parts = cc in
          ap (slice_index entries) t.1 ∙ sym same
          ∙ shows site kept panel done turns (subst (λ (p : Parts). HoldsFor site kept panel done turns p.hold) (sym e) holds))
      | inr t ↦ (
          let apart = t.1 in
          told place parts there (omega (arith, less, apart)) site kept panel done turns holds)
    ]

-- nothing stands in a list of no length
none_stand : {X : Type 0} (xs : List X) → (length xs == 0) ≡ true → xs ≡ []
none_stand [] e = refl
none_stand (x ∷ xs) e = absurd (let none = eqb-true (length (x ∷ xs)) 0 e in omega (arith, none))

pub loop-place-preserved : goal.loop-place-preserved
loop-place-preserved c =
    let panels = c.as_slice-panels.result.now in
    let place = c.loop-place.place in
    let test = c.loop-place-test.true in
    let own = slice_index_or panels place c.index-panels-place.result in
    kept_more c.args.self.now.panels.items c.args.self.now.counts.entries place own c.counter_entries.result
    (subst (λ ps. slice_get ps place ≡ Some own) c.as_slice-panels.ensures.value (slice_get-get_or panels place c.index-panels-place.result test))
    c.counter_entries.ensures c.if-counter_entries-self.false c.loop-place.invariant

pub returns : goal.returns
returns c e = record {
  entries = λ place parts is.
      let within = slice_get_within c.args.self.now.panels.items place parts is in
      let test = c.loop-place-test.false in
      let count = ap (λ (ps : List Parts). length ps) c.as_slice-panels.ensures.value in
      c.loop-place.invariant place parts is (omega (arith, within, test, count));
  waits = sym c.waiting.ensures ∙ none_stand c.waiting.result.now (sym c.is_empty.ensures ∙ e);
}
