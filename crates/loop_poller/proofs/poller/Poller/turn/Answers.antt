use Rattle.std.proofs.Common.{◌≡◌, ◌%◌, ap, subst, ◌∙◌, get_or}
use Rattle.std.proofs.lemmas.Option.{slice_get-get_or}
use Rattle.tick_units.specs.Lane.{with_put}
use Rattle.site_types.specs.Profile.{round_of}
use Rattle.loop_poller.specs.Stands.{IsSoundBlock}
use Rattle.loop_poller.proofs.AskedBlocks.{block_asked, groups_within}
use Rattle.loop_poller.proofs.poller.Poller.turn.Goals as goal

pub put_block-requires-clause-within : goal.put_block-requires-clause-within
put_block-requires-clause-within c k d below =
    let some = c.requires.stands in
    let groups = c.in-Some.groups.now in
    let round : c.round.result ≡ round_of some.site.format = c.round.ensures ∙ ap round_of some.asks.format in
    let block = subst (λ r. IsSoundBlock c.args.self.now (c.args.now.0 % r) groups) round c.in-Some.ensures in
    groups_within some.site some.panel some.calls c.args.self.now c.args.now.0 groups some.asks block k (get_or groups k d)
    (slice_get-get_or groups k d below)

pub returns-in-Some-clause-asked : goal.returns-in-Some-clause-asked
returns-in-Some-clause-asked c site panel calls stands =
    let groups = c.in-Some.groups.now in
    let round : c.round.result ≡ round_of site.format = c.round.ensures ∙ ap round_of stands.asks.format in
    let block = subst (λ r. IsSoundBlock c.args.self.now (c.args.now.0 % r) groups) round c.in-Some.ensures in
    c.put_block.ensures.put ∙ ap (with_put c.args.answers.now)
    (block_asked site panel calls c.args.self.now c.args.now.0 groups stands.asks block stands.faults)
