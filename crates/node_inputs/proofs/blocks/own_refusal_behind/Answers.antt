use Rattle.std.proofs.Common.{◌∙◌, ◌+◌, sym, subst, arith}
use Rattle.desk_ticks.proofs.Behind.{some_left, used_fits, used_some}
use Rattle.node_inputs.proofs.OwnLines.{IsOwnRead, none_left, nothing_own, own_all_read, own_goes, own_stops}
use Rattle.node_inputs.proofs.blocks.own_refusal_behind.Goals as goal

pub loop-left-init : goal.loop-left-init
loop-left-init c =
    let reader = c.reader_behind_tick-reader in
    nothing_own c.args.site.now c.args.panel c.args.rest.now reader.result reader.ensures.stands reader.ensures.reads

pub returns-in-Some : goal.returns-in-Some
returns-in-Some c =
    let h = c.loop-left.invariant in
    let some = some_left _ (sym c.is_empty.ensures ∙ c.loop-left-test.true) in
    sym (own_stops _ _ _ _ _ _ _ _ h some (c.feed-fed.ensures.feeds _ h.read.reads) c.in-Some.refusal (sym c.own_stop_at.ensures ∙ c.in-Some.is))

pub split_at-requires : goal.split_at-requires
split_at-requires c =
    let read = c.loop-left.invariant.read in
    let some = some_left _ (sym c.is_empty.ensures ∙ c.loop-left-test.true) in
    used_fits _ _ _ _ _ _ _ read some (c.feed-fed.ensures.feeds _ read.reads)

pub loop-left-smaller : goal.loop-left-smaller
loop-left-smaller c =
    let back = c.split_at.ensures.back_len in
    let read = c.loop-left.invariant.read in
    let some = some_left _ (sym c.is_empty.ensures ∙ c.loop-left-test.true) in
    let feeds = c.feed-fed.ensures.feeds _ read.reads in
    let fits = used_fits _ _ _ _ _ _ _ read some feeds in
    let more = used_some _ _ _ _ _ _ _ read some feeds in
    omega (arith, more, fits, back)

pub loop-left-preserved : goal.loop-left-preserved
loop-left-preserved c =
    let h = c.loop-left.invariant in
    let some = some_left _ (sym c.is_empty.ensures ∙ c.loop-left-test.true) in
    subst (λ xs. IsOwnRead c.args.site.now c.args.panel c.args.rest.now xs c.feed-fed.new.self (c.loop-left.number + 1)) (sym c.split_at.ensures.back)
    (own_goes _ _ _ _ _ _ _ _ h some (c.feed-fed.ensures.feeds _ h.read.reads) (sym c.own_stop_at.ensures ∙ c.in-None.is))

pub returns : goal.returns
returns c =
    sym
    (own_all_read c.args.site.now c.args.panel c.args.rest.now c.loop-left.reader c.loop-left.number c.loop-left.left.now
    (none_left c.loop-left.left.now (sym c.is_empty.ensures ∙ c.loop-left-test.false)) c.loop-left.invariant)
