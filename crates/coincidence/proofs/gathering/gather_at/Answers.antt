use Rattle.std.proofs.Common.{◌≡◌, ◌+◌, ◌++◌, ◌∷◌, ◌==◌, [], if◌then◌else◌, inl, sym, ◌∙◌, ap, subst, arith}
use Rattle.answer_lanes.specs.Groups.{CanHave}
use Rattle.answer_lanes.specs.Points.{finding_at}
use Rattle.answer_lanes.specs.Runs.{items_of}
use Rattle.answer_lanes.proofs.FindingRuns.{one_more}
use Rattle.answer_lanes.proofs.Moving.{length_run}
use Rattle.tick_units.specs.Lane.{HasRoom, with_put}
use Rattle.coincidence.proofs.Turned.{put_both}
use Rattle.coincidence.proofs.gathering.gather_at.Goals.{then-not-can_have, else-not-can_have}
use Rattle.coincidence.proofs.gathering.gather_at.Goals as goal

pub put_eight-requires-clause-room : goal.put_eight-requires-clause-room
put_eight-requires-clause-room c = subst (HasRoom c.args.findings.now) (length_run finding_at c.args.found.now) c.requires.room

pub set-requires : goal.set-requires
set-requires c =
    let found = c.args.found.now in
    let place = found.taken + found.count in
    elim c.if-not-can_have.branch [
      | then-not-can_have w ↦ subst (CanHave place c.args.finding.now) (sym (ap (λ r. r.first) w.found-is)) (record {
        within = c.requires.place;
        stamp = c.requires.own.stamp ∙ sym (ap (λ f. f.stamp) (w.plain_group.ensures.plain place));
        point = c.requires.own.point ∙ sym (ap (λ f. f.point) (w.plain_group.ensures.plain place));
        told = inl w.plain_group.ensures.none;
      })
      | else-not-can_have w ↦ subst (CanHave place c.args.finding.now) (sym (ap (λ r. r.first) w.found-is)) (c.can_have.ensures.can w.if-not-can_have.false)
    ]

pub returns-clause-put : goal.returns-clause-put
returns-clause-put c =
    let old = c.args.found.now in
    let lane = c.args.findings.now in
    let found = c.if-not-can_have.found in
    let finding = c.args.finding.now in
    let at : old.taken + old.count ≡ found.taken + found.count =
    elim c.if-not-can_have.branch [
      | then-not-can_have w ↦ (let is = w.found-is in let taken = ap (λ r. r.taken) is in let count = ap (λ r. r.count) is in omega (arith, taken, count))
      | else-not-can_have w ↦ (let is = w.found-is in ap (λ r. r.taken + r.count) (sym is))
    ] in
    ap (with_put c.if-not-can_have.findings)
    (one_more found c.set.new.self finding
    (λ k. c.set.ensures k ∙ ap (λ n. if k == n then finding else finding_at found.first k) at))
    ∙ elim c.if-not-can_have.branch [
      | then-not-can_have w ↦ ap (λ r. with_put c.if-not-can_have.findings (items_of finding_at r ++ finding ∷ [])) w.found-is
          ∙ ap (λ l. with_put l (finding ∷ [])) (w.findings-is ∙ w.put_eight.ensures) ∙ put_both lane (items_of finding_at old) (finding ∷ [])
      | else-not-can_have w ↦ ap (λ r. with_put c.if-not-can_have.findings (items_of finding_at r ++ finding ∷ [])) w.found-is
          ∙ ap (λ l. with_put l (items_of finding_at old ++ finding ∷ [])) w.findings-is
    ]
