use Rattle.std.proofs.Common.{◌≡◌, ◌∙◌, ◌++◌, ap, ℕ, List}
use Rattle.site_types.specs.declared.retained.Retained.{Retained}
use Rattle.site_types.specs.Carry.{point_changes, zone_changes, output_changes, test_changes, carried_delays}
use Rattle.site_types.specs.Changes.{changed_by, nothing_retained}
use Rattle.site_types.proofs.Carried.{changed_in_turn}
use Rattle.site_types.proofs.carry_over.carry.Goals as goal

pub returns : goal.returns
returns c =
    let old = c.args.old.now in
    let new = c.args.new.now in
    let state = c.args.state.now in
    let points = point_changes old new state in
    let zones = zone_changes old new state in
    let outputs = output_changes old new state in
    let tests = test_changes old new state in
    let all : c.carry_tests.new.kept ≡ changed_by (points ++ zones ++ outputs ++ tests) nothing_retained =
    changed_in_turn points zones outputs tests nothing_retained c.carry_points.new.kept c.carry_zones.new.kept c.carry_outputs.new.kept
    c.carry_tests.new.kept
    (c.carry_points.ensures ∙ ap (changed_by points) c.empty-kept.ensures) c.carry_zones.ensures c.carry_outputs.ensures c.carry_tests.ensures in
    ap (λ (k : Retained). record k { delays_off = c.carry_delays.result; counters = c.carry_counters-kept.result }) all
    ∙ ap (λ (d : ℕ). record (changed_by (points ++ zones ++ outputs ++ tests) nothing_retained) {
      delays_off = d;
      counters =
          c.carry_counters-kept.result;
    }) c.carry_delays.ensures
    ∙ ap (λ (n : List ℕ). record (changed_by (points ++ zones ++ outputs ++ tests) nothing_retained) {
      delays_off =
          carried_delays new.panels state.delays_off;
      counters = n;
    }) c.carry_counters-kept.ensures
