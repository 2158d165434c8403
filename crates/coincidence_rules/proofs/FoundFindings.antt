-- What the findings of answers tell of a zone is what all answers tell.
use Rattle.std.proofs.Common.{◌≡◌, ℕ, ◌-◌, Bool, List, [], ◌∷◌, ◌++◌, Some, slice_get, ◌&&◌, ◌||◌, refl, ◌∙◌, ap}
use Rattle.std.specs.List.{list_any}
use Rattle.site_types.specs.declared.site.Site.{Site}
use Rattle.site_types.specs.declared.zone.Zone.{Zone}
use Rattle.site_types.specs.declared.answer.Answer.{Answer}
use Rattle.site_types.specs.declared.retained.Retained.{Retained}
use Rattle.site_types.specs.Bits.{has_bit}
use Rattle.site_types.specs.Done.{Done}
use Rattle.coincidence_rules.specs.declared.finding.Finding.{Finding}
use Rattle.coincidence_rules.specs.Places.{is_of}
use Rattle.coincidence_rules.specs.Counted.{is_counted}
use Rattle.coincidence_rules.specs.Confirmed.{confirms}
use Rattle.coincidence_rules.specs.Alarm.{calls, releases}
use Rattle.coincidence_rules.specs.Findings.{finding_among, findings_after, findings_of}
use Rattle.coincidence_rules.proofs.Found.{any_found}
use Rattle.coincidence_rules.specs.InOrder.{AreInOrder}
use Rattle.coincidence_rules.specs.Wired.{IsWired}
use Rattle.coincidence_rules.proofs.FoundZones.{found_is, confirms_is_found, releases_is_found}
use Rattle.coincidence_rules.proofs.ZoneMasks.{has_bit-zone}

module _ (site : Site) (kept : Retained) (panel : ℕ) (done : List Done) where
  any_findings : (bit : Finding → Bool) (test : List Answer → Answer → Bool) (stamps : ℕ → Bool)
      → ((all : List Answer) (a : Answer) → bit (finding_among site kept panel done all a) ≡ test all a) → (before xs : List Answer)
      → list_any (λ f. stamps f.stamp.0 && bit f) (findings_after site kept panel done before xs)
      ≡ any_found (λ all a. stamps a.stamp.0 && test all a) before xs
  any_findings bit test stamps tells before [] = refl
  any_findings bit test stamps tells before (x ∷ xs) =
      ap (λ b. (stamps x.stamp.0 && b) || list_any (λ f. stamps f.stamp.0 && bit f) (findings_after site kept panel done (before ++ x ∷ []) xs))
      (tells (before ++ x ∷ []) x)
      ∙ ap (λ b. (stamps x.stamp.0 && test (before ++ x ∷ []) x) || b) (any_findings bit test stamps tells (before ++ x ∷ []) xs)

  -- a test of the answer alone
  found_alone : (test : Answer → Bool) (before xs : List Answer) → any_found (λ all a. test a) before xs ≡ list_any test xs
  found_alone test before [] = refl
  found_alone test before (x ∷ xs) = ap (λ b. test x || b) (found_alone test (before ++ x ∷ []) xs)

module _ (site : Site) (kept : Retained) (done : List Done) (answers : List Answer) (place : ℕ) (zone : Zone) (stamps : ℕ → Bool) (wired :
    IsWired site) (is : slice_get site.zones place ≡ Some zone) where
  pub confirmed_tells : AreInOrder answers
      → list_any (λ f. stamps f.stamp.0 && has_bit f.confirmed (zone.number - 1)) (findings_of site kept zone.panel done answers)
      ≡ list_any (λ a. stamps a.stamp.0 && confirms site kept done answers place a) answers
  confirmed_tells order =
      any_findings site kept zone.panel done (λ f. has_bit f.confirmed (zone.number - 1)) (λ all a. confirms site kept done all place a) stamps
      (λ all a. has_bit-zone site (λ z. confirms site kept done all z a) place zone wired is) [] answers
      ∙ found_is (λ all a. confirms site kept done all place a) answers stamps (confirms_is_found site kept done answers order place)

  pub released_tells : AreInOrder answers
      → list_any (λ f. stamps f.stamp.0 && has_bit f.released (zone.number - 1)) (findings_of site kept zone.panel done answers)
      ≡ list_any (λ a. stamps a.stamp.0 && releases site kept done answers place a) answers
  released_tells order =
      any_findings site kept zone.panel done (λ f. has_bit f.released (zone.number - 1)) (λ all a. releases site kept done all place a) stamps
      (λ all a. has_bit-zone site (λ z. releases site kept done all z a) place zone wired is) [] answers
      ∙ found_is (λ all a. releases site kept done all place a) answers stamps (releases_is_found site kept done answers order place)

  pub manual_tells : list_any (λ f. stamps f.stamp.0 && has_bit f.manual (zone.number - 1)) (findings_of site kept zone.panel done answers)
      ≡ list_any (λ a. stamps a.stamp.0 && calls site kept done place a) answers
  manual_tells =
      any_findings site kept zone.panel done (λ f. has_bit f.manual (zone.number - 1)) (λ all a. calls site kept done place a) stamps
      (λ all a. has_bit-zone site (λ z. calls site kept done z a) place zone wired is) [] answers
      ∙ found_alone site kept zone.panel done (λ a. stamps a.stamp.0 && calls site kept done place a) [] answers

  pub counted_tells : list_any (λ f. stamps f.stamp.0 && has_bit f.counted (zone.number - 1)) (findings_of site kept zone.panel done answers)
      ≡ list_any (λ a. stamps a.stamp.0 && (is_counted site kept done a && is_of site place a.point)) answers
  counted_tells =
      any_findings site kept zone.panel done (λ f. has_bit f.counted (zone.number - 1)) (λ all a. is_counted site kept done a
      && is_of site place a.point) stamps (λ all a. has_bit-zone site (λ z. is_counted site kept done a && is_of site z a.point) place zone wired
      is) [] answers
      ∙ found_alone site kept zone.panel done (λ a. stamps a.stamp.0 && (is_counted site kept done a && is_of site place a.point)) [] answers
