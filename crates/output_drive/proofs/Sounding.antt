-- The sounders of a panel by their numbers and by their places, and the outputs of a panel before any tick.
use Rattle.std.proofs.Common.{◌≡◌, ◌+◌, ℕ, Bool, false, Option, sym, ◌∙◌, ap, arith}
use Rattle.site_types.specs.declared.output.Output.{Output}
use Rattle.site_types.specs.declared.site.Site.{Site}
use Rattle.site_types.specs.Bits.{mask_of}
use Rattle.site_types.specs.Valid.{IsValid}
use Rattle.site_types.proofs.Masks.{has_bit-mask, has_bit-zero, mask_below}
use Rattle.panel_rules.specs.Outputs.{is_sounder, is_sounder_kind, on_output, outputs_where}
use Rattle.output_calls.proofs.Numbers.{none_found, numbered_is}
use Rattle.output_drive.specs.Sounders.{is_numbered_sounder}
use Rattle.output_drive.proofs.OutputBits.{IsFound, mask_where}

abbrev is_sounder_plan : Option Output → Bool
is_sounder_plan plan = on_output (λ o. is_sounder_kind o.kind) plan

pub sounders_are : (site : Site) → IsValid site → (panel : ℕ) → mask_of 32 (λ k. is_numbered_sounder site panel (k + 1)) ≡ outputs_where site panel (is_sounder site)
sounders_are site valid panel =
    mask_where site panel (mask_of 32 (λ k. is_numbered_sounder site panel (k + 1))) (is_sounder site)
    (mask_below 32 (λ k. is_numbered_sounder site panel (k + 1)))
    (λ k small none.
    has_bit-mask 32 (λ j. is_numbered_sounder site panel (j + 1)) k small ∙ ap is_sounder_plan (none_found site valid panel (k + 1) none))
    (λ k output small at found. has_bit-mask 32 (λ j. is_numbered_sounder site panel (j + 1)) k small ∙ one k output found)
  where
    one : (k output : ℕ) (found : IsFound site panel k output) → is_numbered_sounder site panel (k + 1) ≡ is_sounder site output
    one k output found =
        ap (λ p. is_numbered_sounder site p (k + 1)) (sym found.at_panel) ∙ ap (λ n. is_numbered_sounder site found.plan.panel n) (sym found.at_number)
        ∙ ap is_sounder_plan (numbered_is site valid output found.plan found.is) ∙ sym (ap is_sounder_plan found.is)

-- no output
pub none_where : (site : Site) (panel : ℕ) → 0 ≡ outputs_where site panel (λ output. false)
none_where site panel =
    mask_where site panel 0 (λ output. false) (omega arith) (λ k small none. has_bit-zero k) (λ k output small at found. has_bit-zero k)
