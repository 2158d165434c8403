use Rattle.std.proofs.Common.{sym}
use Rattle.face_text.proofs.Holding.{moves_more, moves_none, puts_as, puts_broken, puts_more}
use Rattle.face_text.proofs.PageParts.{before_fourth, before_second, before_third, faults_have, firsts_have, no_faults}
use Rattle.face_text.proofs.PageParts.{no_firsts, no_others, no_zones, others_have, zones_have}
use Rattle.face_text.proofs.face_pair.FacePair.push_groups.Goals as goal

pub push_section-requires-clause-places : goal.push_section-requires-clause-places
push_section-requires-clause-places g c = rw c.page-page.ensures zones_have

pub push_section-requires-clause-same : goal.push_section-requires-clause-same
push_section-requires-clause-same g c =
    λ same. rw c.page-page.ensures
    (no_zones c.args.self.now.site.now c.args.self.now.before.now c.args.self.now.after.now (c.has_same_zones.ensures same))

pub push_section-requires-2-clause-places : goal.push_section-requires-2-clause-places
push_section-requires-2-clause-places g c = rw c.page-page.ensures firsts_have

pub push_section-requires-2-clause-same : goal.push_section-requires-2-clause-same
push_section-requires-2-clause-same g c =
    λ same. rw c.page-page.ensures
    (no_firsts c.args.self.now.site.now c.args.self.now.before.now c.args.self.now.after.now (c.has_same_firsts.ensures same))

pub push_section-requires-3-clause-places : goal.push_section-requires-3-clause-places
push_section-requires-3-clause-places g c = rw c.page-page.ensures faults_have

pub push_section-requires-3-clause-same : goal.push_section-requires-3-clause-same
push_section-requires-3-clause-same g c =
    λ same. rw c.page-page.ensures
    (no_faults c.args.self.now.site.now c.args.self.now.before.now c.args.self.now.after.now (c.has_same_faults.ensures same))

pub push_section-requires-4-clause-places : goal.push_section-requires-4-clause-places
push_section-requires-4-clause-places g c = rw c.page-page.ensures others_have

pub push_section-requires-4-clause-same : goal.push_section-requires-4-clause-same
push_section-requires-4-clause-same g c =
    λ same. let all = c.has_same_rest.ensures same in rw c.page-page.ensures
    (no_others c.args.self.now.site.now c.args.self.now.before.now c.args.self.now.after.now all.0 all.1 all.2 all.3 all.4 all.5)

pub returns-in_err-push_section-clause-text : goal.returns-in_err-push_section-clause-text
returns-in_err-push_section-clause-text g c =
    puts_broken c.args.held.now c.args.held.now c.push_section.new.held _ _ _ _ _ _ _ c.from_residual.result c.from_residual.ensures.0
    (before_second c.args.self.now.site.now c.args.self.now.before.now c.args.self.now.after.now c.page-page.result.now c.page-page.ensures)
    (moves_none c.args.held.now (g.K.Stream.written c.args.out.now)) c.in_err-push_section.ensures.text.err

pub returns-in_err-push_section-2-clause-text : goal.returns-in_err-push_section-2-clause-text
returns-in_err-push_section-2-clause-text g c =
    puts_broken c.args.held.now c.push_section.new.held c.push_section-2.new.held _ _ _ _ _ _ _ c.from_residual-in_err-push_section-2.result
    c.from_residual-in_err-push_section-2.ensures.0
    (before_third c.args.self.now.site.now c.args.self.now.before.now c.args.self.now.after.now c.page-page.result.now c.page-page.ensures)
    c.in_ok-push_section.ensures.text.ok c.in_err-push_section-2.ensures.text.err

pub returns-in_err-push_section-3-clause-text : goal.returns-in_err-push_section-3-clause-text
returns-in_err-push_section-3-clause-text g c =
    puts_broken c.args.held.now c.push_section-2.new.held c.push_section-3.new.held _ _ _ _ _ _ _ c.from_residual-in_err-push_section-3.result
    c.from_residual-in_err-push_section-3.ensures.0
    (before_fourth c.args.self.now.site.now c.args.self.now.before.now c.args.self.now.after.now c.page-page.result.now c.page-page.ensures)
    (moves_more c.args.held.now c.push_section.new.held c.push_section-2.new.held _ _ _ _ _ c.in_ok-push_section.ensures.text.ok
    c.in_ok-push_section-2.ensures.text.ok)
    c.in_err-push_section-3.ensures.text.err

pub returns-clause-text : goal.returns-clause-text
returns-clause-text g c =
    let two = moves_more c.args.held.now c.push_section.new.held c.push_section-2.new.held _ _ _ _ _ c.in_ok-push_section.ensures.text.ok
    c.in_ok-push_section-2.ensures.text.ok in
    let three = moves_more c.args.held.now c.push_section-2.new.held c.push_section-3.new.held _ _ _ _ _ two c.in_ok-push_section-3.ensures.text.ok in
    puts_as c.args.held.now c.push_section-4.new.held _ _ _ _ c.push_section-4.result
    (sym (before_fourth c.args.self.now.site.now c.args.self.now.before.now c.args.self.now.after.now c.page-page.result.now c.page-page.ensures))
    (puts_more c.args.held.now c.push_section-3.new.held c.push_section-4.new.held _ _ _ _ _ c.push_section-4.result three c.push_section-4.ensures.text)
