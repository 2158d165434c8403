use Rattle.std.proofs.Common.{◌∙◌, Some, None, sym, ap}
use Rattle.desk_ticks.specs.Blocks.{refusal_behind}
use Rattle.desk_ticks.proofs.First.{first_fits, named_first, refused_first}
use Rattle.desk_ticks.proofs.checking.tick_of_block.Goals as goal

pub split_at-requires : goal.split_at-requires
split_at-requires c = first_fits _ _ _ _ (c.feed-fed.ensures.feeds _ (c.new.ensures c.args.site.now))

pub returns-in-Err : goal.returns-in-Err
returns-in-Err c =
    let feeds = c.feed-fed.ensures.feeds _ (c.new.ensures c.args.site.now) in
    sym (refused_first _ _ _ _ feeds c.in-Err.number (sym c.named_tick.ensures ∙ c.in-Err.is))

pub returns-in-Some : goal.returns-in-Some
returns-in-Some c =
    let feeds = c.feed-fed.ensures.feeds _ (c.new.ensures c.args.site.now) in
    let behind = sym c.in-Some.is ∙ c.refusal_behind.ensures ∙ ap (refusal_behind c.args.site.now) c.split_at.ensures.back in
    sym (named_first _ _ _ _ feeds c.in-Ok.tick (Some c.in-Some.refusal) (sym c.named_tick.ensures ∙ c.in-Ok.is) behind)

pub returns-in-None : goal.returns-in-None
returns-in-None c =
    let feeds = c.feed-fed.ensures.feeds _ (c.new.ensures c.args.site.now) in
    let behind = sym c.in-None.is ∙ c.refusal_behind.ensures ∙ ap (refusal_behind c.args.site.now) c.split_at.ensures.back in
    sym (named_first _ _ _ _ feeds c.in-Ok.tick None (sym c.named_tick.ensures ∙ c.in-Ok.is) behind)
