use Rattle.std.proofs.Common.{◌-◌, slice_index_or, subst, arith}
use Rattle.site_types.specs.declared.word.Word.{Word}
use Rattle.panel_links.specs.Told.{TellWord, empty_facts}
use Rattle.panel_links.proofs.ring.Ring.facts.Goals as goal

pub returns : goal.returns
returns c =
    let ring = c.args.self.now in
    let few = ring.few in
    record {
      eight = ring.eight c.args.panel c.requires;
      each = λ of ho. ring.told c.args.panel of c.requires (ho.0, omega (arith, ho.1, few));
      none =
          λ of far high. subst (λ (w : Word). TellWord of w (slice_index_or ring.facts (c.args.panel - 1) empty_facts)) (ring.none_beyond c.args.panel of c.requires (far, high))
          (ring.told c.args.panel of c.requires (omega (arith, far), high));
    }
