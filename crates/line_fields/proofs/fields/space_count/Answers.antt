use Rattle.std.proofs.Common.{◌<◌, ℕ, ap, arith, drop, length}
use Rattle.std.proofs.lemmas.List.{length-drop, take_rest}
use Rattle.line_fields.specs.Fields.{space_count}
use Rattle.line_fields.proofs.Spaces.{counted_behind, counted_more}
use Rattle.line_fields.proofs.fields.space_count.Goals as goal

pub loop-rest-preserved : goal.loop-rest-preserved
loop-rest-preserved c =
    let rest = c.loop-rest.rest.now in
    let whole = space_count c.args.text.now in
    let long = c.in-len8-up.len_at_least in
    let more = λ (place so_far one : ℕ) (within : place < 8). counted_more rest place so_far one whole (omega (arith, within, long)) in
    let one = more 0 _ _ (omega arith) c.one_if_space.ensures.count c.loop-rest.invariant.counted in
    let two = more 1 _ _ (omega arith) c.one_if_space-in-len8-up.ensures.count one in
    let three = more 2 _ _ (omega arith) c.one_if_space-in-len8-up-2.ensures.count two in
    let four = more 3 _ _ (omega arith) c.one_if_space-in-len8-up-3.ensures.count three in
    let five = more 4 _ _ (omega arith) c.one_if_space-in-len8-up-4.ensures.count four in
    let six = more 5 _ _ (omega arith) c.one_if_space-in-len8-up-5.ensures.count five in
    let seven = more 6 _ _ (omega arith) c.one_if_space-in-len8-up-6.ensures.count six in
    let eight = more 7 _ _ (omega arith) c.one_if_space-in-len8-up-7.ensures.count seven in
    let behind = take_rest rest 8 in
    let cut = length-drop 8 rest in
    let parts = ap length behind in
    record {
      counted = counted_behind _ whole _ (drop 8 rest) behind eight;
      few =
          omega (
            arith,
            parts,
            cut,
            long,
            c.loop-rest.invariant.few,
            c.one_if_space.ensures.few,
            c.one_if_space-in-len8-up.ensures.few,
            c.one_if_space-in-len8-up-2.ensures.few,
            c.one_if_space-in-len8-up-3.ensures.few,
            c.one_if_space-in-len8-up-4.ensures.few,
            c.one_if_space-in-len8-up-5.ensures.few,
            c.one_if_space-in-len8-up-6.ensures.few,
            c.one_if_space-in-len8-up-7.ensures.few,
          );
    }
