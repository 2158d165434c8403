-- Bits of masks of a panel's outputs.
use Rattle.std.proofs.Common.{◌≡◌, ◌<◌, ◌+◌, ◌^◌, ◌==◌, ◌&&◌, ℕ, Bool, false, Option, Some, None, slice_get, refl, ◌∙◌, ap}
use Rattle.site_types.specs.declared.output.Output.{Output}
use Rattle.site_types.specs.declared.site.Site.{Site}
use Rattle.site_types.specs.Bits.{has_bit}
use Rattle.site_types.proofs.Masks.{has_bit-mask, mask_from_bits, mask_same}
use Rattle.panel_rules.specs.Outputs.{on_place, output_numbered, outputs_where, panel_of_output, panel_of_plan}
use Rattle.panel_rules.proofs.AnswersTell.{position_got}
use Rattle.panel_rules.proofs.Bools.{parts}
use Rattle.panel_laws.proofs.AnswerLaws.{eq_is}

-- an output that is found by its number is one of the panel
pub record IsFound (site : Site) (panel k output : ℕ) : Type 0 where
  pub plan : Output
  pub is : slice_get site.outputs output ≡ Some plan
  pub at_panel : plan.panel ≡ panel
  pub at_number : plan.number ≡ k + 1

found_at : (site : Site) (panel k output : ℕ) → output_numbered site panel (k + 1) ≡ Some output → IsFound site panel k output
found_at site panel k output is =
    let found = position_got (λ (o : Output). (o.panel == panel) && (o.number == k + 1)) site.outputs output is in
    let same = parts (found.item.panel == panel) (found.item.number == k + 1) found.passes in
    record {
      plan = found.item;
      is = found.is;
      at_panel = eq_is found.item.panel panel same.0;
      at_number = eq_is found.item.number (k + 1) same.1;
    }

-- an output of a plan is of the panel of that plan
pub of_plan : (site : Site) (panel output : ℕ) (plan : Output) → slice_get site.outputs output ≡ Some plan → plan.panel ≡ panel
    → panel_of_output site output ≡ panel
of_plan site panel output plan is same = ap panel_of_plan is ∙ same

-- each bit of a mask is the test of the output with that number
pub bit_where : (site : Site) (panel : ℕ) (test : ℕ → Bool) (k : ℕ) → k < 32
    → has_bit (outputs_where site panel test) k ≡ on_place test (output_numbered site panel (k + 1))
unfolding outputs_where
bit_where site panel test k small = has_bit-mask 32 (λ j. on_place test (output_numbered site panel (j + 1))) k small

-- a number is the mask of the outputs that pass a test, where each bit of an output is its test and no other bit is set
pub mask_where : (site : Site) (panel mask : ℕ) (test : ℕ → Bool) → mask < 2 ^ 32
    → ((k : ℕ) → k < 32 → output_numbered site panel (k + 1) ≡ None → has_bit mask k ≡ false)
    → ((k output : ℕ) → k < 32 → output_numbered site panel (k + 1) ≡ Some output → IsFound site panel k output → has_bit mask k ≡ test output)
    → mask ≡ outputs_where site panel test
unfolding outputs_where
mask_where site panel mask test below none some =
    mask_from_bits 32 mask (λ k. on_place test (output_numbered site panel (k + 1))) below
    (λ k small. at k small (output_numbered site panel (k + 1)) refl)
  where
    at : (k : ℕ) → k < 32 → (o : Option ℕ) → output_numbered site panel (k + 1) ≡ o → has_bit mask k ≡ on_place test o
    at k small None is = none k small is
    at k small (Some output) is = some k output small is (found_at site panel k output is)

-- tests that agree on the outputs of the panel make one mask
pub where_same : (site : Site) (panel : ℕ) (p q : ℕ → Bool) → ((output : ℕ) → panel_of_output site output ≡ panel → p output ≡ q output)
    → outputs_where site panel p ≡ outputs_where site panel q
unfolding outputs_where
where_same site panel p q same =
    mask_same 32 (λ k. on_place p (output_numbered site panel (k + 1))) (λ k. on_place q (output_numbered site panel (k + 1)))
    (λ k small. at k (output_numbered site panel (k + 1)) refl)
  where
    at : (k : ℕ) (o : Option ℕ) → output_numbered site panel (k + 1) ≡ o → on_place p o ≡ on_place q o
    at k None is = refl
    at k (Some output) is = let found = found_at site panel k output is in same output (of_plan site panel output found.plan found.is found.at_panel)
