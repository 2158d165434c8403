use Rattle.std.proofs.Common.{◌<◌, ◌≡◌, ◌-◌, arith, get_or, length, refl, subst}
use Rattle.std.proofs.lemmas.Option.{slice_get-get_or, slice_get_read}
use Rattle.site_types.proofs.ValidSites.{output_at}
use Rattle.due_outputs.proofs.Places.{runs_all, runs_more}
use Rattle.due_outputs.proofs.due_outputs.take_runs.Goals as goal

pub loop-place-preserved : goal.loop-place-preserved
loop-place-preserved c =
    let site = c.args.site.now in
    let place = c.loop-place.place in
    let output = c.index-as_slice-place.result in
    let test = c.loop-place-test.true in
    let least = c.min-count.ensures in
    let size = c.len.ensures in
    let taken = c.loop-place.invariant in
    let long = taken.size in
    let within : place < length site.outputs = omega (arith, test, least, size) in
    let inside : place < length c.loop-place.runs = omega (arith, test, least, long) in
    let is =
    slice_get_read site.outputs (length site.outputs) place output refl within
    (subst (λ outputs. output ≡ get_or outputs place output) c.as_slice.ensures c.index-as_slice-place.is) in
    let panel = (output_at site c.requires place output is).panel in
    let low = panel.0 in
    let high = panel.1 in
    let most = c.requires.forms.panels.1 in
    let eight = c.told-panels in
    runs_more site c.args.panels.now c.args.now place c.args.runs.now c.loop-place.runs _ c.with.result
    (slice_get-get_or c.loop-place.runs place _ inside) inside
    (record {
      output = output;
      is = is;
      markers = _;
      at_panel = slice_get-get_or c.args.panels.now (output.panel - 1) _ (omega (arith, low, high, most, eight));
      asked = c.asks-asked.result;
      tells_asked = c.asks-asked.ensures;
      by_hand = c.asks_by_hand-by_hand.result;
      tells_by_hand = c.asks_by_hand-by_hand.ensures;
      goes_on = c.with.ensures;
    }) taken

pub returns : goal.returns
returns c same =
    let test = c.loop-place-test.false in
    let least = c.min-count.ensures in
    let size = c.len.ensures in
    runs_all c.args.site.now c.args.panels.now c.args.now c.loop-place.place c.args.runs.now c.loop-place.runs (omega (arith, test, least, size, same))
    c.loop-place.invariant
