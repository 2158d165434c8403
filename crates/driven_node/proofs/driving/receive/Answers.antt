use Rattle.std.proofs.Common.{subst, sym}
use Rattle.site_types.specs.Changes.{nothing_retained}
use Rattle.site_types.specs.Valid.{IsPanel, IsValid}
use Rattle.node_inputs.specs.Inputs.{IsOwnInput}
use Rattle.panel_frames.specs.Grammar.{IsFrame}
use Rattle.driven_node.proofs.Driven.{may_receive, receives}
use Rattle.driven_node.proofs.driving.receive.Goals as goal

pub read_input-requires-clause-site : goal.read_input-requires-clause-site
read_input-requires-clause-site c =
    let own = c.args.own.now in
    let h = c.requires in
    subst IsValid (sym (c.site.ensures h.site own.panel nothing_retained h.history h.stands)) h.stands.valid

pub read_input-requires-clause-panel : goal.read_input-requires-clause-panel
read_input-requires-clause-panel c =
    let own = c.args.own.now in
    let h = c.requires in
    subst (λ s. IsPanel s own.panel) (sym (c.site.ensures h.site own.panel nothing_retained h.history h.stands)) h.member

pub receive-requires : goal.receive-requires
receive-requires c =
    let own = c.args.own.now in
    let h = c.requires in
    let framed = subst (IsOwnInput c.site.result.now own.panel) c.in-Framed.is c.read_input.ensures.grammar in
    may_receive own c.in-Framed.frame h
    (subst (λ s. IsFrame s own.panel c.in-Framed.frame) (c.site.ensures h.site own.panel nothing_retained h.history h.stands) framed)

pub returns-in-Framed : goal.returns-in-Framed
returns-in-Framed c =
    let own = c.args.own.now in
    let h = c.requires in
    receives own _ c.in-Framed.frame h (c.receive.ensures.takes h.site own.panel nothing_retained h.history h.stands)
