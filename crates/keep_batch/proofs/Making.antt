-- What is made is the batch of the rules, in every run of a valid site.
use Rattle.std.proofs.Common.{◌≡◌, ℕ, zero, suc, ◌+◌, ◌-◌, ◌≤◌, List, [], ◌∷◌, ◌++◌, length, inl, inr, refl, sym, ◌∙◌, ap, subst, arith}
use Rattle.std.specs.Prelude.{slice_index}
use Rattle.std.specs.List.{flat_map, range_with_len}
use Rattle.std.proofs.lemmas.Bool.Decides.{eqb_tells}
use Rattle.site_types.specs.declared.retained.Retained.{Retained}
use Rattle.site_types.specs.declared.site.Site.{Site}
use Rattle.site_types.specs.Done.{Done}
use Rattle.panel_rules.specs.Moments.{Moment, IsPanel}
use Rattle.panel_rules.specs.Batches.{changes_of, count_of, counts, new_entries}
use Rattle.panel_rules.specs.Operations.{operations}
use Rattle.panel_laws.proofs.BatchesFit.{batches_fit}
use Rattle.operation_desk.specs.Requests.{requests_from}
use Rattle.keep_batch.specs.Making.{count_from}
use Rattle.keep_batch.specs.MakingLaws.{BatchIs, BatchMayBeMade}
use Rattle.keep_batch.proofs.NewEntries.{few_entries_are_new}

count_is : (site : Site) (kept : Retained) (done : List Done) (panel : ℕ) (ticks : List ℕ) → count_from panel (length ticks)
    ≡ count_of site kept done panel ticks
count_is site kept done panel [] = refl
count_is site kept done panel (tick ∷ ticks) =
    elim (eqb_tells (length (tick ∷ ticks)) 0) [ inl h ↦ (let none = h.1 in absurd (omega (arith, none))) | inr h ↦ rw h.0 refl ]

module _ (site : Site) (kept : Retained) (done : List Done) (before : List Moment) (entries : List ℕ) (entered : (panel : ℕ)
    → IsPanel site.panels panel → slice_index entries (panel - 1) ≡ length (new_entries site kept done panel before)) where
  counts_alike : (first many : ℕ) → 1 ≤ first → first + many ≤ site.panels + 1
      → flat_map (λ panel. count_from panel (slice_index entries (panel - 1))) (range_with_len first many)
      ≡ flat_map (λ panel. count_of site kept done panel (new_entries site kept done panel before)) (range_with_len first many)
  counts_alike first zero one few = refl
  counts_alike first (suc many) one few =
      let own = ap (count_from first) (entered first (one, omega (arith, few)))
      ∙ count_is site kept done first (new_entries site kept done first before) in
      let ih = counts_alike (first + 1) many (omega (arith, one)) (omega (arith, few)) in
      ap (λ xs. xs ++ flat_map (λ panel. count_from panel (slice_index entries (panel - 1))) (range_with_len (first + 1) many)) own
      ∙ ap (λ xs. count_of site kept done first (new_entries site kept done first before) ++ xs) ih

pub batch_is : BatchIs
batch_is site kept before entries waiting left =
    let done = (operations site kept before).done in
    ap (λ xs. xs ++ changes_of site (requests_from waiting))
    (counts_alike site kept done before entries left.entered 1 site.panels (omega arith) (omega arith))
    ∙ ap (λ xs. counts site kept done before ++ xs) (ap (changes_of site) left.waits)

pub batch_may_be_made : BatchMayBeMade
batch_may_be_made site kept before entries waiting valid run of in_time left = record {
  panels = valid.forms.panels.1;
  counts =
      λ panel p. (let is = left.entered panel p in
      let few = few_entries_are_new site kept (operations site kept before).done panel before run in omega (arith, is, few, in_time));
  few = subst (λ xs. length xs ≤ 72) (sym (batch_is site kept before entries waiting left)) (batches_fit site kept before valid run of).0;
}
