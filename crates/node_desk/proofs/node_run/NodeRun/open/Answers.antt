use Rattle.std.proofs.Common.{[], refl, subst, lit≤, ◌≤◌}
use Rattle.tick_units.specs.Ticks.{last_tick}
use Rattle.panel_node.specs.Stands.{NodeStandsFor}
use Rattle.node_desk.proofs.node_run.NodeRun.open.Goals as goal

pub returns-clause-stands : goal.returns-clause-stands
returns-clause-stands c =
    let site = c.args.site in
    let kept = c.args.journal.kept in
    let stands = subst (λ k. NodeStandsFor site c.args.panel k [] c.in-Ok.node) c.kept-2.ensures c.in-Ok.ensures.stands in
    record {
      node = stands;
      own = refl;
      member = c.requires.member;
      befell = refl;
      ordered = tt;
      keeps = c.requires.journal.keeps;
      tried = c.requires.journal.tried;
      shown = c.face-shown.ensures.shown site c.args.panel kept [] stands tt;
      failed = refl;
      few = (let start : 0 ≤ last_tick = lit≤ tt in start);
      starts = c.of-starts.ensures;
    }
