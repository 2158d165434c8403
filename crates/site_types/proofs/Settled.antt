-- What is kept over a power cut is what was in force.
use Rattle.std.proofs.Common.{◌≡◌, ℕ, ◌<◌, false, List, [], ◌∷◌, Some, if◌then◌else◌, refl, sym, ◌∙◌, ap, arith}
use Rattle.site_types.specs.declared.site.Site.{Site}
use Rattle.site_types.specs.declared.retained.Retained.{Retained}
use Rattle.site_types.specs.declared.change.Change.{Change}
use Rattle.site_types.specs.declared.change.Change.TheVariants.{Count}
use Rattle.site_types.specs.Done.{Done, Setting, is_setting, is_on, value_set, in_force, AreBy, is_kept_operation}
use Rattle.site_types.specs.Changes.{IsPanelNumber, changed, IsSized, HasOwnPlaces}
use Rattle.site_types.proofs.Keeping.{KeepsInForce, change_of}
use Rattle.site_types.proofs.Changes.{kept-change, counted-setting, not_kept}
use Rattle.site_types.proofs.Done.{in_force-then}

-- after the last operation a setting stays as it is
pub in_force-settled : (site : Site) (kept : Retained) (setting : Setting) (tick x y : ℕ) (done : List Done) → AreBy tick done → tick < x → tick < y
    → in_force site kept setting x done ≡ in_force site kept setting y done
in_force-settled site kept setting tick x y [] by before before' = refl
in_force-settled site kept setting tick x y (d ∷ ds) by before before' =
    in_force-then site kept setting x d ds (let le = by.0 in omega (arith, le, before))
    ∙ ap (λ b. if is_on setting d then value_set d.operation else b) (in_force-settled site kept setting tick x y ds by.1 before before')
    ∙ sym (in_force-then site kept setting y d ds (let le = by.0 in omega (arith, le, before')))

-- at first nothing was done
pub keeps-none : (site : Site) (kept : Retained) (x : ℕ) → KeepsInForce site kept [] x kept
keeps-none site kept x setting here = refl

-- a kept operation is done
pub keeps-change : (site : Site) (opened : Retained) (done : List Done) (x : ℕ) (kept : Retained) (d : Done) (change : Change) → HasOwnPlaces site
    → IsSized kept → IsPanelNumber d.panel → d.tick < x → change_of site d ≡ Some change
    → KeepsInForce site opened done x kept → KeepsInForce site opened (d ∷ done) x (changed change kept)
keeps-change site opened done x kept d change own sized panel before is keeps setting here =
    kept-change site kept d change own sized panel is setting here
    ∙ ap (λ b. if is_on setting d then value_set d.operation else b) (keeps setting here)
    ∙ sym (in_force-then site opened setting x d done before)

-- another operation is done
pub keeps-other : (site : Site) (opened : Retained) (done : List Done) (x : ℕ) (kept : Retained) (d : Done) → d.tick < x
    → is_kept_operation d.operation ≡ false → KeepsInForce site opened done x kept → KeepsInForce site opened (d ∷ done) x kept
keeps-other site opened done x kept d before other keeps setting here =
    keeps setting here
    ∙ sym
    (in_force-then site opened setting x d done before
    ∙ ap (λ o. if is_setting setting o then value_set d.operation else in_force site opened setting x done) (not_kept site d.panel d.operation other).0)

-- an entry into the fire alarm condition is counted
pub keeps-count : (site : Site) (opened : Retained) (done : List Done) (x : ℕ) (kept : Retained) (panel entries : ℕ)
    → KeepsInForce site opened done x kept → KeepsInForce site opened done x (changed (Count panel entries) kept)
keeps-count site opened done x kept panel entries keeps setting here = counted-setting site kept panel entries setting ∙ keeps setting here

-- later nothing was done besides
pub keeps-later : (site : Site) (opened : Retained) (done : List Done) (tick x y : ℕ) (kept : Retained) → AreBy tick done → tick < x → tick < y
    → KeepsInForce site opened done x kept → KeepsInForce site opened done y kept
keeps-later site opened done tick x y kept by before before' keeps setting here =
    keeps setting here ∙ in_force-settled site opened setting tick x y done by before before'
