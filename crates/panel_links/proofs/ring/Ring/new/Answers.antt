use Rattle.std.proofs.Common.{◌-◌, ap, refl, arith}
use Rattle.std.specs.Prelude.{not}
use Rattle.site_types.proofs.Masks.{has_bit-zero}
use Rattle.panel_links.proofs.FactsTold.{eight_first, no_word, none_beyond_first, none_kept, told_first}
use Rattle.panel_links.proofs.ring.Ring.new.Goals as goal

pub invariant_of-result-clause-none_beyond : goal.invariant_of-result-clause-none_beyond
invariant_of-result-clause-none_beyond c = none_beyond_first c.args.panels c.default.result (no_word c.default.result c.default.ensures) c.requires.1

pub invariant_of-result-clause-told : goal.invariant_of-result-clause-told
invariant_of-result-clause-told c =
    told_first c.args.panels c.default.result _ (no_word c.default.result c.default.ensures) refl refl refl c.requires.1

pub invariant_of-result-clause-eight : goal.invariant_of-result-clause-eight
invariant_of-result-clause-eight c = eight_first c.args.panels _ c.requires.1 (record { zones = refl; manual = refl; faults = omega arith })

pub returns-clause-stands : goal.returns-clause-stands
returns-clause-stands c =
    let few = c.requires.1 in
    record {
      size = refl;
      words = λ at from ha hf. none_kept c.default.result (no_word c.default.result c.default.ensures) at from ha.0 (omega (arith, ha.1, few));
      links = λ link low high. ap not (has_bit-zero (link - 1));
    }
