use Rattle.std.proofs.Common.{refl, sym, ◌∙◌, ap, slice_get}
use Rattle.std.proofs.lemmas.Option.{slice_get_read}
use Rattle.std.specs.Cmp.Lexicographic.{same_text}
use Rattle.coincidence.proofs.known_zones.KnownZones.numbered.Goals as goal

pub returns-then-eq : goal.returns-then-eq
returns-then-eq c =
    let look = c.in_ok-block.ensures.lookup in
    let block = c.in_ok-block.block.now in
    let number = c.args.number in
    record {
      number = number;
      is =
          ap (λ xs. slice_get xs number) (sym c.deref.ensures.value)
          ∙ slice_get_read c.deref.result.now _ number block refl look.3.0 look.1;
      of = same_text block.firsts c.args.firsts.now (sym c.if-eq.true ∙ c.eq.ensures);
    }
