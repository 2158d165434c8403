use Rattle.std.proofs.Common.{◌≡◌, ◌∙◌, Bool, ℕ, ◌<◌, drop, take, length, refl, sym, true, ap, arith}
use Rattle.std.specs.List.{list_all}
use Rattle.std.proofs.lemmas.List.{drop-drop, length-drop, take_rest}
use Rattle.record_lines.specs.Lines.{is_printable}
use Rattle.record_lines.proofs.Fronts.{front_behind, one_more}
use Rattle.record_lines.proofs.reader.printable_eights.Goals as goal

pub loop-rest-preserved : goal.loop-rest-preserved
loop-rest-preserved c =
    let text = c.args.text.now in
    let rest = c.loop-rest.rest.now in
    let count = c.loop-rest.count in
    let long = c.in-len8-up.len_at_least in
    let is = c.loop-rest.invariant.behind in
    let whole = c.loop-rest.invariant.whole in
    let more = λ (place : ℕ) (front passes : Bool) (within : place < 8). one_more is_printable rest place front passes (omega (arith, within, long)) in
    let one = more 0 true _ (omega arith) refl c.is_printable.ensures in
    let two = more 1 _ _ (omega arith) one c.is_printable-in-len8-up.ensures in
    let three = more 2 _ _ (omega arith) two c.is_printable-in-len8-up-2.ensures in
    let four = more 3 _ _ (omega arith) three c.is_printable-in-len8-up-3.ensures in
    let five = more 4 _ _ (omega arith) four c.is_printable-in-len8-up-4.ensures in
    let six = more 5 _ _ (omega arith) five c.is_printable-in-len8-up-5.ensures in
    let seven = more 6 _ _ (omega arith) six c.is_printable-in-len8-up-6.ensures in
    let eight = more 7 _ _ (omega arith) seven c.is_printable-in-len8-up-7.ensures in
    let front : list_all is_printable (take 8 rest) ≡ true = sym eight ∙ c.if-not-are_printable.false in
    let behind = take_rest rest 8 in
    let short = length-drop 8 rest in
    record {
      printable = front_behind is_printable text count 8 c.loop-rest.invariant.printable (ap (λ r. list_all is_printable (take 8 r)) (sym is) ∙ front);
      behind = behind ∙ ap (drop 8) is ∙ drop-drop 8 count text;
      whole = omega (arith, ap length behind, short, long, whole);
    }
