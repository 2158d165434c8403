use Rattle.std.proofs.Common.{◌∙◌, ap}
use Rattle.tick_units.specs.declared.task.Task.TheVariants.{Hold}
use Rattle.site_types.specs.declared.site.Site.{Site}
use Rattle.site_types.specs.Profile.{silent_of}
use Rattle.node_rules.specs.Histories.{befallen}
use Rattle.panel_parts.specs.Applied.{applied}
use Rattle.panel_parts.proofs.Applied.{applied_past}
use Rattle.panel_node.specs.Told.{arrived, told_by_frames}
use Rattle.panel_node.proofs.Elsewhere.{links_told, silent_told}
use Rattle.panel_node.proofs.Next.{stands_turned}
use Rattle.panel_node.proofs.OwnTurns.{parts_may_turn}
use Rattle.panel_node.proofs.node.Node.hold_turn.Goals as goal

pub hold_turn-requires : goal.hold_turn-requires
hold_turn-requires c = parts_may_turn Hold c.args.self.now c.requires

pub returns-clause-turn : goal.returns-clause-turn
returns-clause-turn c site panel kept history h run =
    let before = befallen history in
    let done = applied site kept before in
    let came = arrived site kept done panel history in
    let now = c.args.self.now.tick.0 in
    let limit = c.silent-limit.ensures ∙ ap silent_of c.profile.ensures ∙ ap (λ (s : Site). silent_of s.format) h.same in
    stands_turned site panel kept history c.args.self.now h Hold c.hold_turn.new.self (λ e. cc) (λ e. cc)
    (c.hold_turn.ensures.turn site kept done (told_by_frames site kept done panel history) panel before h.parts (applied_past site kept before) h.tick run
    (silent_told site kept done panel history c.silent-silent.result now c.silent-limit.result h.tick limit (c.silent-silent.ensures site.panels panel came h.words))
    (links_told site kept done panel history c.links_down-links.result now c.silent-limit.result h.tick limit
    (c.links_down-links.ensures site.panels panel came h.words)))
