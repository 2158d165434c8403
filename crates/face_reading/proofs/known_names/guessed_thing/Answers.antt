use Rattle.std.proofs.Common.{◌≡◌, ◌∙◌, true, sym, ap}
use Rattle.std.specs.Prelude.{bytes_eq}
use Rattle.face_reading.proofs.KnownNames.{stands_at, thing_is, when_so}
use Rattle.face_reading.proofs.known_names.guessed_thing.Goals as goal

pub returns : goal.returns
returns c =
    let named = c.in_ok-named.named.now in
    let there = c.in_ok-named.ensures.lookup in
    let at = stands_at c.as_slice.result.now c.args.site.now.names c.name.result named c.as_slice.ensures there.3.0 (there.3.1 named) in
    when_so _ named.thing c.then_some.result _ c.then_some.ensures
    (λ so.
    let same : bytes_eq named.name.bytes c.args.name.now ≡ true =
    ap (λ b. bytes_eq b c.args.name.now) (sym (c.as_bytes.ensures.value ∙ c.as_str.ensures.value)) ∙ sym c.is_word.ensures ∙ so in
    thing_is c.args.site.now c.requires c.args.name.now c.name.result named at same)
