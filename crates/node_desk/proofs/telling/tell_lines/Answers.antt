use Rattle.std.proofs.Common.{◌≡◌, ◌∙◌, refl, sym, subst, arith}
use Rattle.desk_runs.proofs.Telling.{none_left}
use Rattle.desk_ticks.specs.Blocks.{first_line, tick_one}
use Rattle.desk_ticks.proofs.Behind.{some_left}
use Rattle.record_lines.specs.Lines.{accepted, at_start, reading_of}
use Rattle.record_lines.specs.Stands.{StandsFor}
use Rattle.site_types.specs.Valid.{IsValid}
use Rattle.node_desk.proofs.LinesTold.{SoFar, all_told, fed_here, fits, may_tell_fed, nothing_told, told_more, uses}
use Rattle.node_desk.proofs.telling.tell_lines.Goals as goal

pub reader_behind_tick-reader-requires : goal.reader_behind_tick-reader-requires
reader_behind_tick-reader-requires c =
    let r = c.requires.may in
    subst IsValid (sym (c.site.ensures r.site r.panel r.kept _ r.with.stands)) r.with.stands.valid

pub loop-left-init : goal.loop-left-init
loop-left-init c =
    let reader = c.reader_behind_tick-reader in
    record {
      told = λ site panel kept history ticks may.
          let same = c.site.ensures site panel kept _ may.stands in
          nothing_told site panel kept history c.args.rest.now c.args.node.now reader.result
          (subst (λ s. StandsFor s (first_line s) reader.result) same reader.ensures.stands)
          (subst (λ s. reading_of s (first_line s) ≡ accepted at_start tick_one) same reader.ensures.reads) may.stands;
      digest = refl;
    }

pub feed-fed-requires : goal.feed-fed-requires
feed-fed-requires c =
    let r = c.requires.may in
    let h = c.loop-left.invariant.told r.site r.panel r.kept r.history r.ticks r.with in
    subst IsValid (sym (c.site-in-loop-left.ensures r.site r.panel r.kept _ h.stands)) h.stands.valid

pub tell_step-requires : goal.tell_step-requires
tell_step-requires c =
    let r = c.requires.may in
    let left = c.loop-left.left.now in
    let fed = c.feed-fed in
    let h = c.loop-left.invariant.told r.site r.panel r.kept r.history r.ticks r.with in
    let here = fed_here h (c.site-in-loop-left.ensures r.site r.panel r.kept _ h.stands) fed.ensures.feeds fed.ensures.belongs in
    record {
      may =
          may_tell_fed r.site r.panel r.kept r.history r.ticks c.args.rest.now left c.loop-left.reader fed.new.self fed.result c.args.node.now c.loop-left.node r.with h
          (some_left left (sym c.is_empty.ensures ∙ c.loop-left-test.true)) here.feeds here.belongs;
    }

pub split_at-requires : goal.split_at-requires
split_at-requires c =
    let r = c.requires.may in
    let left = c.loop-left.left.now in
    let fed = c.feed-fed in
    let h = c.loop-left.invariant.told r.site r.panel r.kept r.history r.ticks r.with in
    let here = fed_here h (c.site-in-loop-left.ensures r.site r.panel r.kept _ h.stands) fed.ensures.feeds fed.ensures.belongs in
    fits r.site r.panel r.kept r.history r.ticks c.args.rest.now left c.loop-left.reader fed.new.self fed.result c.args.node.now c.loop-left.node r.with h
    (some_left left (sym c.is_empty.ensures ∙ c.loop-left-test.true)) here.feeds here.belongs

pub loop-left-smaller : goal.loop-left-smaller
loop-left-smaller c =
    let r = c.requires.may in
    let left = c.loop-left.left.now in
    let fed = c.feed-fed in
    let h = c.loop-left.invariant.told r.site r.panel r.kept r.history r.ticks r.with in
    let here = fed_here h (c.site-in-loop-left.ensures r.site r.panel r.kept _ h.stands) fed.ensures.feeds fed.ensures.belongs in
    let some = some_left left (sym c.is_empty.ensures ∙ c.loop-left-test.true) in
    let fit =
    fits r.site r.panel r.kept r.history r.ticks c.args.rest.now left c.loop-left.reader fed.new.self fed.result c.args.node.now c.loop-left.node r.with h
    some here.feeds here.belongs in
    let more =
    uses r.site r.panel r.kept r.history r.ticks c.args.rest.now left c.loop-left.reader fed.new.self fed.result c.args.node.now c.loop-left.node r.with h
    some here.feeds here.belongs in
    let back = c.split_at.ensures.back_len in
    omega (arith, more, fit, back)

pub loop-left-preserved : goal.loop-left-preserved
loop-left-preserved c =
    let left = c.loop-left.left.now in
    let fed = c.feed-fed in
    let inv = c.loop-left.invariant in
    let some = some_left left (sym c.is_empty.ensures ∙ c.loop-left-test.true) in
    record {
      told = λ site panel kept history ticks may.
          let h = inv.told site panel kept history ticks may in
          let here = fed_here h (c.site-in-loop-left.ensures site panel kept _ h.stands) fed.ensures.feeds fed.ensures.belongs in
          subst (λ xs. SoFar site panel kept history c.args.rest.now xs fed.new.self c.tell_step.new.node) (sym c.split_at.ensures.back)
          (told_more site panel kept history ticks c.args.rest.now left c.loop-left.reader fed.new.self fed.result c.args.node.now c.loop-left.node may h some
          here.feeds here.belongs c.tell_step.new.node c.tell_step.ensures.tells);
      digest = c.tell_step.ensures.digest ∙ inv.digest;
    }

pub returns-clause-tells : goal.returns-clause-tells
returns-clause-tells c site panel kept history ticks may =
    all_told site panel kept history c.args.rest.now c.loop-left.left.now c.loop-left.reader c.loop-left.node
    (none_left c.loop-left.left.now (sym c.is_empty.ensures ∙ c.loop-left-test.false)) (c.loop-left.invariant.told site panel kept history ticks may)
