use Rattle.std.proofs.Common.{◌≡◌, ◌-◌, [], length, slice_index_or, arith}
use Rattle.panel_links.proofs.FactsTold.{eight_then, none_beyond_then, none_older_then, told_by_word, wide_then}
use Rattle.panel_links.proofs.Places.{table_set}
use Rattle.panel_links.proofs.ring.Ring.replace_telling.Goals as goal

pub invariant_of-self-clause-none_older : goal.invariant_of-self-clause-none_older
invariant_of-self-clause-none_older c =
    let ring = c.args.self.now in
    let at = c.requires.at in
    let of = c.requires.from in
    let few = ring.few in
    let wide : length (slice_index_or ring.words (c.args.at - 1) []) ≡ 8 = ring.wide (c.args.at - 1) (omega (arith, at.0, at.1, few)) in
    none_older_then ring.words c.args.at c.args.of c.args.word (omega arith) wide at.0 (omega (arith, at.1, few)) of.0 (omega (arith, of.1, few))
    ring.panels ring.oldest c.requires.late ring.none_older

pub invariant_of-self-clause-none_beyond : goal.invariant_of-self-clause-none_beyond
invariant_of-self-clause-none_beyond c =
    let ring = c.args.self.now in
    let at = c.requires.at in
    let of = c.requires.from in
    let few = ring.few in
    let wide : length (slice_index_or ring.words (c.args.at - 1) []) ≡ 8 = ring.wide (c.args.at - 1) (omega (arith, at.0, at.1, few)) in
    none_beyond_then ring.words c.args.at c.args.of c.args.word (omega arith) wide at.0 (omega (arith, at.1, few)) of.0 (omega (arith, of.1, few))
    ring.panels of.1 ring.none_beyond

pub invariant_of-self-clause-told : goal.invariant_of-self-clause-told
invariant_of-self-clause-told c =
    let ring = c.args.self.now in
    let at = c.requires.at in
    let of = c.requires.from in
    let few = ring.few in
    let wide : length (slice_index_or ring.words (c.args.at - 1) []) ≡ 8 = ring.wide (c.args.at - 1) (omega (arith, at.0, at.1, few)) in
    told_by_word ring.words c.args.at c.args.of c.args.word (omega arith) wide at.0 (omega (arith, at.1, few)) of.0 (omega (arith, of.1, few))
    ring.panels ring.facts c.tell.new.facts (omega arith) c.tell.ensures.this c.tell.ensures.others ring.told

pub invariant_of-self-clause-wide : goal.invariant_of-self-clause-wide
invariant_of-self-clause-wide c =
    let ring = c.args.self.now in
    let at = c.requires.at in
    let of = c.requires.from in
    let few = ring.few in
    let wide : length (slice_index_or ring.words (c.args.at - 1) []) ≡ 8 = ring.wide (c.args.at - 1) (omega (arith, at.0, at.1, few)) in
    wide_then ring.words c.args.at c.args.of c.args.word (omega arith) wide at.0 (omega (arith, at.1, few)) of.0 (omega (arith, of.1, few))
    ring.wide

pub invariant_of-self-clause-eight : goal.invariant_of-self-clause-eight
invariant_of-self-clause-eight c =
    let ring = c.args.self.now in
    let at = c.requires.at in
    let few = ring.few in
    eight_then ring.panels c.args.at ring.facts c.tell.new.facts (omega arith) at.0 (omega (arith, at.1, few)) c.tell.ensures.eight ring.eight

pub returns-clause-words : goal.returns-clause-words
returns-clause-words c a o ha ho =
    let ring = c.args.self.now in
    let at = c.requires.at in
    let of = c.requires.from in
    let few = ring.few in
    let wide : length (slice_index_or ring.words (c.args.at - 1) []) ≡ 8 = ring.wide (c.args.at - 1) (omega (arith, at.0, at.1, few)) in
    table_set ring.words c.args.at c.args.of a o c.args.word (omega arith) wide at.0 (omega (arith, at.1, few)) of.0 (omega (arith, of.1, few)) ha.0 ho.0
