use Rattle.std.proofs.Common.{◌≡◌, ◌∙◌, ◌==◌, Some, ap, arith, drop, sym}
use Rattle.std.specs.Prelude.{option_map}
use Rattle.std.specs.List.{find}
use Rattle.site_types.specs.declared.zone.Zone.{Zone}
use Rattle.face_text.proofs.NextNames.{found_behind, found_beyond, found_first, found_none, has_number}
use Rattle.face_text.proofs.next_names.next_zone.Goals as goal

pub returns-in_default-clause-name : goal.returns-in_default-clause-name
returns-in_default-clause-name c =
    let key = λ (x : Zone). x.panel == c.args.panel in
    let number_of = λ (x : Zone). x.number in
    let left : drop c.args.passed.now c.args.site.now.zones ≡ c.left_of-left.result.now =
    ap (drop c.args.passed.now) (sym c.as_slice.ensures) ∙ sym c.left_of-left.ensures in
    ap (option_map (λ (x : Zone). x.name.bytes))
    (sym (found_none key number_of c.left_of-left.result.now c.args.number (sym c.first_zone.ensures ∙ c.in_default.is)))
    ∙ ap (λ xs. option_map (λ (x : Zone). x.name.bytes) (find (has_number key number_of c.args.number) xs)) (sym left)
    ∙ c.requires c.args.number (omega arith)

pub returns-then-zone-number-clause-name : goal.returns-then-zone-number-clause-name
returns-then-zone-number-clause-name c =
    let key = λ (x : Zone). x.panel == c.args.panel in
    let number_of = λ (x : Zone). x.number in
    let left : drop c.args.passed.now c.args.site.now.zones ≡ c.left_of-left.result.now =
    ap (drop c.args.passed.now) (sym c.as_slice.ensures) ∙ sym c.left_of-left.ensures in
    ap (λ (x : Zone). Some x.name.bytes) c.index-left-skipped.is
    ∙ ap (option_map (λ (x : Zone). x.name.bytes))
    (sym (found_first key number_of c.left_of-left.result.now c.in-Some.skipped c.args.number c.index-left-skipped.result (sym c.first_zone.ensures ∙ c.in-Some.is)
    (ap number_of (sym c.index-left-skipped.is) ∙ c.if-zone-number.true)))
    ∙ ap (λ xs. option_map (λ (x : Zone). x.name.bytes) (find (has_number key number_of c.args.number) xs)) (sym left)
    ∙ c.requires c.args.number (omega arith)

pub returns-then-zone-number-clause-passed : goal.returns-then-zone-number-clause-passed
returns-then-zone-number-clause-passed c number low =
    let key = λ (x : Zone). x.panel == c.args.panel in
    let number_of = λ (x : Zone). x.number in
    let left : drop c.args.passed.now c.args.site.now.zones ≡ c.left_of-left.result.now =
    ap (drop c.args.passed.now) (sym c.as_slice.ensures) ∙ sym c.left_of-left.ensures in
    ap (option_map (λ (x : Zone). x.name.bytes))
    (found_beyond key number_of c.args.site.now.zones c.left_of-left.result.now c.args.passed.now c.in-Some.skipped c.args.number number
    c.index-left-skipped.result left (sym c.first_zone.ensures ∙ c.in-Some.is)
    (ap number_of (sym c.index-left-skipped.is) ∙ c.if-zone-number.true) (omega (arith, low)))
    ∙ c.requires number (omega (arith, low))

pub returns-clause-passed : goal.returns-clause-passed
returns-clause-passed c number low =
    let key = λ (x : Zone). x.panel == c.args.panel in
    let number_of = λ (x : Zone). x.number in
    let left : drop c.args.passed.now c.args.site.now.zones ≡ c.left_of-left.result.now =
    ap (drop c.args.passed.now) (sym c.as_slice.ensures) ∙ sym c.left_of-left.ensures in
    ap (option_map (λ (x : Zone). x.name.bytes))
    (found_behind key number_of c.args.site.now.zones c.left_of-left.result.now c.args.passed.now c.in-Some.skipped c.args.number number left
    (sym c.first_zone.ensures ∙ c.in-Some.is) (omega (arith, low)))
    ∙ c.requires number (omega (arith, low))

pub returns-in_default-clause-passed : goal.returns-in_default-clause-passed
returns-in_default-clause-passed c number low = c.requires number (omega (arith, low))
