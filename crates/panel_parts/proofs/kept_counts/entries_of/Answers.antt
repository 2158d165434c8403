use Rattle.std.proofs.Common.{◌≡◌, ◌∙◌, ◌+◌, ◌<◌, ℕ, List, Some, length, slice_get, ap, arith, inl, inr, subst, sym}
use Rattle.std.specs.Prelude.{slice_index, slice_index_or, slice_set}
use Rattle.std.proofs.lemmas.Bool.Decides.{eqb_tells}
use Rattle.std.proofs.lemmas.Grind.{get_or-set_at}
use Rattle.std.proofs.lemmas.List.{get_or-set_other}
use Rattle.std.proofs.lemmas.Option.{slice_get-get_or, slice_get_within}
use Rattle.std.proofs.Math.ListN.{length-set}
use Rattle.panel_conditions.specs.Changes.{ShowsAs}
use Rattle.panel_conditions.specs.Shown.{entries_after}
use Rattle.panel_conditions.specs.Stands.{HoldsFor}
use Rattle.panel_parts.specs.declared.parts.Parts.{Parts}
use Rattle.panel_parts.proofs.kept_counts.entries_of.Goals as goal

-- one panel more
told_more : (panels : List Parts) (entries : List ℕ) (here : ℕ) (own : Parts) (count : ℕ) → here < length entries → slice_get panels here ≡ Some own
    → ShowsAs own.hold count entries_after
    → ((place : ℕ) (parts : Parts) → slice_get panels place ≡ Some parts → place < here → ShowsAs parts.hold (slice_index entries place) entries_after)
    → (place : ℕ) (parts : Parts) → slice_get panels place ≡ Some parts → place < here + 1
    → ShowsAs parts.hold (slice_index (slice_set entries here count) place) entries_after
told_more panels entries here own count fits is shows told place parts there less site kept panel done turns holds =
    elim (eqb_tells place here) [
      | inl t ↦ (
          let same : Some parts ≡ Some own = sym there ∙ ap (slice_get panels) t.1 ∙ is in
          let e : own ≡ parts = cc in
          get_or-set_at entries here place count 0 t.1 fits
          ∙ shows site kept panel done turns (subst (λ (p : Parts). HoldsFor site kept panel done turns p.hold) (sym e) holds))
      | inr t ↦ (
          let apart = t.1 in
          get_or-set_other entries here place count 0 apart
          ∙ told place parts there (omega (arith, less, apart)) site kept panel done turns holds)
    ]

pub loop-place-preserved : goal.loop-place-preserved
loop-place-preserved c =
    let inv = c.loop-place.invariant in
    let place = c.loop-place.place in
    let test = c.loop-place-test.true in
    let few = c.requires in
    let size = inv.size in
    let own = slice_index_or c.args.panels.now place c.index-panels-place.result in
    record {
      size = length-set c.loop-place.entries place c.counter_entries.result ∙ inv.size;
      told = told_more c.args.panels.now c.loop-place.entries place own c.counter_entries.result (omega (arith, test, few, size))
          (slice_get-get_or c.args.panels.now place c.index-panels-place.result test) c.counter_entries.ensures inv.told;
    }

pub returns-clause-told : goal.returns-clause-told
returns-clause-told c place parts is site kept panel done turns holds =
    let within = slice_get_within c.args.panels.now place parts is in
    let test = c.loop-place-test.false in
    c.loop-place.invariant.told place parts is (omega (arith, within, test)) site kept panel done turns holds
