use Rattle.std.proofs.Common.{◌≡◌, ◌∙◌, ◌&&◌, ◌==◌, Some, ap, arith, drop, sym}
use Rattle.std.specs.Prelude.{option_map}
use Rattle.std.specs.List.{find}
use Rattle.site_types.specs.declared.point.Point.{Point}
use Rattle.face_text.proofs.NextNames.{found_behind, found_beyond, found_first, found_none, has_number}
use Rattle.face_text.proofs.next_names.next_point.Goals as goal

pub returns-in_default-clause-name : goal.returns-in_default-clause-name
returns-in_default-clause-name c =
    let key = λ (x : Point). (x.panel == c.args.panel) && (x.line == c.args.line) in
    let number_of = λ (x : Point). x.address in
    let left : drop c.args.passed.now c.args.site.now.points ≡ c.left_of-left.result.now =
    ap (drop c.args.passed.now) (sym c.as_slice.ensures) ∙ sym c.left_of-left.ensures in
    ap (option_map (λ (x : Point). x.name.bytes))
    (sym (found_none key number_of c.left_of-left.result.now c.args.address (sym c.first_point.ensures ∙ c.in_default.is)))
    ∙ ap (λ xs. option_map (λ (x : Point). x.name.bytes) (find (has_number key number_of c.args.address) xs)) (sym left)
    ∙ c.requires c.args.address (omega arith)

pub returns-then-point-address-clause-name : goal.returns-then-point-address-clause-name
returns-then-point-address-clause-name c =
    let key = λ (x : Point). (x.panel == c.args.panel) && (x.line == c.args.line) in
    let number_of = λ (x : Point). x.address in
    let left : drop c.args.passed.now c.args.site.now.points ≡ c.left_of-left.result.now =
    ap (drop c.args.passed.now) (sym c.as_slice.ensures) ∙ sym c.left_of-left.ensures in
    ap (λ (x : Point). Some x.name.bytes) c.index-left-skipped.is
    ∙ ap (option_map (λ (x : Point). x.name.bytes))
    (sym (found_first key number_of c.left_of-left.result.now c.in-Some.skipped c.args.address c.index-left-skipped.result (sym c.first_point.ensures ∙ c.in-Some.is)
    (ap number_of (sym c.index-left-skipped.is) ∙ c.if-point-address.true)))
    ∙ ap (λ xs. option_map (λ (x : Point). x.name.bytes) (find (has_number key number_of c.args.address) xs)) (sym left)
    ∙ c.requires c.args.address (omega arith)

pub returns-then-point-address-clause-passed : goal.returns-then-point-address-clause-passed
returns-then-point-address-clause-passed c number low =
    let key = λ (x : Point). (x.panel == c.args.panel) && (x.line == c.args.line) in
    let number_of = λ (x : Point). x.address in
    let left : drop c.args.passed.now c.args.site.now.points ≡ c.left_of-left.result.now =
    ap (drop c.args.passed.now) (sym c.as_slice.ensures) ∙ sym c.left_of-left.ensures in
    ap (option_map (λ (x : Point). x.name.bytes))
    (found_beyond key number_of c.args.site.now.points c.left_of-left.result.now c.args.passed.now c.in-Some.skipped c.args.address number
    c.index-left-skipped.result left (sym c.first_point.ensures ∙ c.in-Some.is)
    (ap number_of (sym c.index-left-skipped.is) ∙ c.if-point-address.true) (omega (arith, low)))
    ∙ c.requires number (omega (arith, low))

pub returns-clause-passed : goal.returns-clause-passed
returns-clause-passed c number low =
    let key = λ (x : Point). (x.panel == c.args.panel) && (x.line == c.args.line) in
    let number_of = λ (x : Point). x.address in
    let left : drop c.args.passed.now c.args.site.now.points ≡ c.left_of-left.result.now =
    ap (drop c.args.passed.now) (sym c.as_slice.ensures) ∙ sym c.left_of-left.ensures in
    ap (option_map (λ (x : Point). x.name.bytes))
    (found_behind key number_of c.args.site.now.points c.left_of-left.result.now c.args.passed.now c.in-Some.skipped c.args.address number left
    (sym c.first_point.ensures ∙ c.in-Some.is) (omega (arith, low)))
    ∙ c.requires number (omega (arith, low))

pub returns-in_default-clause-passed : goal.returns-in_default-clause-passed
returns-in_default-clause-passed c number low = c.requires number (omega (arith, low))
