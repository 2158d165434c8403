-- Masks of outputs go by the outputs that there are.
use mathlib.Core.Path.{fun_ext}
use Rattle.std.proofs.Common.{◌≡◌, ◌<◌, ◌+◌, ◌==◌, ◌&&◌, ℕ, Bool, Option, Some, None, ap, length, refl}
use Rattle.std.proofs.lemmas.Option.{slice_get_within}
use Rattle.site_types.specs.declared.output.Output.{Output}
use Rattle.site_types.specs.declared.site.Site.{Site}
use Rattle.site_types.specs.Bits.{mask_of}
use Rattle.panel_rules.specs.Outputs.{on_place, output_numbered, outputs_where}
use Rattle.panel_rules.proofs.AnswersTell.{position_got}

module _ (site : Site) (panel : ℕ) (test other : ℕ → Bool) (same : (place : ℕ) → place < length site.outputs → test place ≡ other place) where
  same_place : (number : ℕ) (o : Option ℕ) → output_numbered site panel number ≡ o → on_place test o ≡ on_place other o
  same_place number None at = refl
  same_place number (Some place) at =
      let got = position_got (λ (o : Output). (o.panel == panel) && (o.number == number)) site.outputs place at in
      same place (slice_get_within site.outputs place got.item got.is)

  pub same_outputs : outputs_where site panel test ≡ outputs_where site panel other
  unfolding outputs_where
  same_outputs = ap (mask_of 32) (fun_ext (λ k. same_place (k + 1) (output_numbered site panel (k + 1)) refl))
