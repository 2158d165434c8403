-- Keep may commit the batch of the rules.
use Rattle.std.proofs.Common.{◌≡◌, ℕ, ◌≤◌, ◌==◌, List, [], ◌∷◌, inl, inr, true, arith}
use Rattle.std.specs.List.{list_all}
use Rattle.std.proofs.lemmas.Bool.Decides.{eqb_tells}
use Rattle.site_types.specs.declared.change.Change.{Change}
use Rattle.site_types.specs.declared.change.Change.TheVariants.{Point, Zone, Output, Delays, Count, Clear, Test}
use Rattle.site_types.specs.declared.site.Site.{Site}
use Rattle.site_types.specs.Profile.{last_address_of}
use Rattle.site_types.specs.Valid.{IsValid}
use Rattle.retained_journal.specs.Batches.{CanKeepAll, HasAddress}
use Rattle.retained_journal.specs.Cells.{greatest_address}
use Rattle.panel_rules.specs.Batches.{batch}
use Rattle.panel_rules.proofs.Bools.{parts}
use Rattle.panel_laws.specs.BatchFits.{IsWithinLoops, is_change_of}
use Rattle.panel_laws.proofs.BatchesFit.{batches_fit, changes_have_places}
use Rattle.keep_batch.specs.MakingLaws.{BatchMayBeCommitted, is_wide}

wide_enough : (format address : ℕ) → 1 ≤ format → format ≤ 2 → address ≤ last_address_of format → address ≤ greatest_address (format == 2)
wide_enough format address low high within =
    elim (eqb_tells format 2) [
      | inl h ↦ rw h.0 (let same = h.1 in omega (arith, same, within))
      | inr h ↦ rw h.0 (let apart = h.1 in let one : format ≡ 1 = omega (arith, low, high, apart) in omega (arith, one, within))
    ]

has_address : (site : Site) (change : Change) → IsValid site → IsWithinLoops site change → HasAddress (is_wide site) change
has_address site (Point panel line address off) valid h = wide_enough site.format address valid.forms.format.0 valid.forms.format.1 h
has_address site (Zone panel number off) valid h = tt
has_address site (Output panel number off) valid h = tt
has_address site (Delays panel off) valid h = tt
has_address site (Count panel entries) valid h = tt
has_address site (Clear panel) valid h = tt
has_address site (Test panel number on) valid h = tt

keeps_all : (site : Site) (changes : List Change) → IsValid site → list_all (is_change_of site) changes ≡ true → CanKeepAll (is_wide site) changes
keeps_all site [] valid all = tt
keeps_all site (change ∷ changes) valid all =
    let p = parts (is_change_of site change) (list_all (is_change_of site) changes) all in
    let place = changes_have_places site change valid p.0 in
    ((place.0, has_address site change valid place.1), keeps_all site changes valid p.1)

pub batch_may_be_committed : BatchMayBeCommitted
batch_may_be_committed site kept before valid run of =
    let fit = batches_fit site kept before valid run of in
    record { few = fit.0; keeps = keeps_all site (batch site kept before) valid fit.1 }
