use Rattle.std.proofs.Common.{subst}
use Rattle.site_types.specs.declared.site.Site.{Site}
use Rattle.panel_core.specs.OrderForms.{HasForm}
use Rattle.panel_core.proofs.AllTurns.{all_counted, all_marked, all_turned, front_then, fronts_then, may_begin, may_keep, may_rest, same_site}
use Rattle.panel_core.proofs.system.System.turns.Goals as goal

pub first_turns-place-requires-clause-may : goal.first_turns-place-requires-clause-may
first_turns-place-requires-clause-may g c = may_begin c.args.order.now c.args.journal.now c.args.self.now c.requires.may

pub keep-store-requires-clause-may : goal.keep-store-requires-clause-may
keep-store-requires-clause-may g c =
    let may = c.requires.may in may_keep may c.first_turns-place.ensures.turns may.stands may.keeps may.run may.few

pub last_turns-requires-clause-may : goal.last_turns-requires-clause-may
last_turns-requires-clause-may g c =
    let may = c.requires.may in
    let keep = c.keep-store in
    may_rest may c.first_turns-place.ensures.turns may.stands may.keeps may.run may.few keep.result keep.new.journal keep.new.self keep.ensures.kept

pub last_turns-requires-clause-form : goal.last_turns-requires-clause-form
last_turns-requires-clause-form g c =
    let may = c.requires.may in
    let keep = c.keep-store in
    subst (λ (s : Site). HasForm c.args.form s.panels c.args.order.now)
    (same_site may c.first_turns-place.ensures.turns may.stands may.keeps may.run may.few keep.result keep.new.journal keep.new.self keep.ensures.kept)
    c.requires.form

pub returns-clause-turns : goal.returns-clause-turns
returns-clause-turns g c site kept before h keeps run few =
    let keep = c.keep-store in
    all_turned c.requires.may c.first_turns-place.ensures.turns h keeps run few keep.result keep.new.journal keep.new.self keep.ensures.kept
    c.last_turns.ensures.turns

pub returns-clause-steps : goal.returns-clause-steps
returns-clause-steps g c site kept before h keeps run few =
    let keep = c.keep-store in
    let front = c.first_turns-place in
    all_counted c.requires.may front.ensures.turns h keeps run few keep.result keep.new.journal keep.new.self keep.ensures.kept c.last_turns.ensures.turns
    c.args.steps.now front.new.steps c.last_turns.new.steps front.ensures.steps c.last_turns.ensures.steps

pub returns-clause-cut : goal.returns-clause-cut
returns-clause-cut g c honest room site kept before file h keeps run few left =
    let keep = c.keep-store in
    front_then c.requires.may c.first_turns-place.ensures.turns h keeps run few keep.result keep.new.journal keep.new.self keep.ensures.kept
    c.last_turns.ensures.turns keep.ensures.leaves.same.digest file (keep.ensures.leaves.left honest room file left)

pub returns-clause-moments : goal.returns-clause-moments
returns-clause-moments g c honest site kept before h keeps run few room =
    let keep = c.keep-store in
    fronts_then c.requires.may c.first_turns-place.ensures.turns h keeps run few keep.result keep.new.journal keep.new.self keep.ensures.kept
    c.last_turns.ensures.turns g.D.Disk.moment g.D.Disk.left_since c.args.disk.now keep.new.disk (keep.ensures.moments honest) room

pub returns-clause-marks : goal.returns-clause-marks
returns-clause-marks g c site kept before h keeps run few marked =
    let keep = c.keep-store in
    let front = c.first_turns-place in
    all_marked c.requires.may front.ensures.turns h keeps run few keep.result keep.new.journal keep.new.self keep.ensures.kept c.last_turns.ensures.turns
    front.ensures.marks keep.ensures.marks c.last_turns.ensures.marks marked
