use Rattle.std.proofs.Common.{◌∙◌, Some, None, sym, ap}
use Rattle.node_inputs.specs.OwnBlocks.{own_refusal_behind}
use Rattle.desk_ticks.proofs.First.{first_fits}
use Rattle.node_inputs.proofs.FirstLine.{own_named_first, own_refused_first}
use Rattle.node_inputs.proofs.blocks.own_tick_of_block.Goals as goal

pub split_at-requires : goal.split_at-requires
split_at-requires c = first_fits _ _ _ _ (c.feed-fed.ensures.feeds _ (c.new.ensures c.args.site.now))

pub returns-in-Err : goal.returns-in-Err
returns-in-Err c =
    let feeds = c.feed-fed.ensures.feeds _ (c.new.ensures c.args.site.now) in
    sym (own_refused_first _ _ _ _ feeds c.args.panel c.in-Err.number (sym c.named_tick.ensures ∙ c.in-Err.is))

pub returns-in-Some : goal.returns-in-Some
returns-in-Some c =
    let feeds = c.feed-fed.ensures.feeds _ (c.new.ensures c.args.site.now) in
    let behind = sym c.in-Some.is ∙ c.own_refusal_behind.ensures ∙ ap (own_refusal_behind c.args.site.now c.args.panel) c.split_at.ensures.back in
    sym (own_named_first _ _ _ _ feeds c.args.panel c.in-Ok.tick (Some c.in-Some.refusal) (sym c.named_tick.ensures ∙ c.in-Ok.is) behind)

pub returns-in-None : goal.returns-in-None
returns-in-None c =
    let feeds = c.feed-fed.ensures.feeds _ (c.new.ensures c.args.site.now) in
    let behind = sym c.in-None.is ∙ c.own_refusal_behind.ensures ∙ ap (own_refusal_behind c.args.site.now c.args.panel) c.split_at.ensures.back in
    sym (own_named_first _ _ _ _ feeds c.args.panel c.in-Ok.tick None (sym c.named_tick.ensures ∙ c.in-Ok.is) behind)
