use Rattle.panel_rules.specs.Run.{facts_of}
use Rattle.plain_panel.proofs.site_state.SiteState.new.Goals as goal

pub returns : goal.returns
returns c =
    λ kept done.
    record {
      panels = c.in_ok-all_new.ensures kept done;
      network = c.new.ensures.stands kept done;
      driving = c.new-2.ensures c.args.site.now (facts_of c.args.site.now kept done);
    }
