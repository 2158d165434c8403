use Rattle.std.proofs.Common.{◌∙◌, ◌+◌, sym, subst, arith}
use Rattle.desk_ticks.proofs.Behind.{IsRead, goes_here, none_read, some_left, stops_here, used_fits, used_some}
use Rattle.desk_ticks.proofs.checking.refusal_behind.Goals as goal

pub loop-left-init : goal.loop-left-init
loop-left-init c =
    let reader = c.reader_behind_tick-reader in
    none_read c.args.site.now c.args.rest.now reader.result reader.ensures.stands reader.ensures.reads

pub returns-in-Some : goal.returns-in-Some
returns-in-Some c =
    let h = c.loop-left.invariant in
    let some = some_left _ (sym c.is_empty.ensures ∙ c.loop-left-test.true) in
    sym (stops_here _ _ _ _ _ _ _ h some (c.feed-fed.ensures.feeds _ h.reads) c.in-Some.refusal (sym c.stop_at.ensures ∙ c.in-Some.is))

pub split_at-requires : goal.split_at-requires
split_at-requires c =
    let h = c.loop-left.invariant in
    let some = some_left _ (sym c.is_empty.ensures ∙ c.loop-left-test.true) in
    used_fits _ _ _ _ _ _ _ h some (c.feed-fed.ensures.feeds _ h.reads)

pub loop-left-smaller : goal.loop-left-smaller
loop-left-smaller c =
    let h = c.loop-left.invariant in
    let some = some_left _ (sym c.is_empty.ensures ∙ c.loop-left-test.true) in
    let feeds = c.feed-fed.ensures.feeds _ h.reads in
    let fits = used_fits _ _ _ _ _ _ _ h some feeds in
    let more = used_some _ _ _ _ _ _ _ h some feeds in
    let back = c.split_at.ensures.back_len in
    omega (arith, more, fits, back)

pub loop-left-preserved : goal.loop-left-preserved
loop-left-preserved c =
    let h = c.loop-left.invariant in
    let some = some_left _ (sym c.is_empty.ensures ∙ c.loop-left-test.true) in
    subst (λ xs. IsRead c.args.site.now c.args.rest.now xs c.feed-fed.new.self (c.loop-left.number + 1)) (sym c.split_at.ensures.back)
    (goes_here _ _ _ _ _ _ _ h some (c.feed-fed.ensures.feeds _ h.reads) (sym c.stop_at.ensures ∙ c.in-None.is))
