use Rattle.std.proofs.Common.{◌∙◌, ◌+◌, ◌≤◌, ap, arith}
use Rattle.site_types.specs.Bits.{mask_of}
use Rattle.site_types.specs.Profile.{silent_of}
use Rattle.panel_links.specs.Stands.{is_silent}
use Rattle.panel_rules.specs.Moments.{IsPanel}
use Rattle.panel_rules.specs.Faults.{silent_panels}
use Rattle.panel_rules.specs.Kept.{heard}
use Rattle.panel_rules.specs.Run.{tells_fault}
use Rattle.panel_rules.specs.Words.{ring_calls}
use Rattle.plain_history.specs.Histories.{history}
use Rattle.panel_bridges.proofs.RingStates.{down_same, outside_same, silent_same}
use Rattle.plain_panel.proofs.network.Network.outside.Goals as goal

pub returns : goal.returns
returns c kept done stands tick =
    let size = stands.size in
    let few = c.args.self.now.few in
    let site = c.args.site.now in
    let before = history c.args.before.now in
    let told = tells_fault site kept done in
    let calls = ring_calls site kept done told before in
    let p : IsPanel site.panels c.args.panel = (c.requires.0, omega (arith, size, c.requires.1)) in
    let low : site.panels ≤ 8 = omega (arith, size, few) in
    let limit = c.silent.ensures ∙ ap silent_of c.profile.ensures in
    let silent =
    c.silent-2.ensures site.panels calls stands.ring
    ∙ ap (λ n. mask_of 8 (λ k. is_silent site.panels c.args.panel calls c.args.now.0 n (k + 1))) limit
    ∙ silent_same site kept done told low c.args.panel p before c.args.now.0
    ∙ ap (silent_panels site (λ source. heard site.panels c.args.panel source before)) tick in
    let links = c.links_down.ensures site.panels calls stands.ring ∙ down_same site kept done told low c.args.panel p before in
    outside_same _ _ _ _ _ c.args.unconfirmed _ _ _ _ _ c.shown_supplies.ensures c.broken_loops.ensures c.shorted_loops.ensures silent links
