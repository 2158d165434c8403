use Rattle.std.proofs.Common.{◌≡◌, ◌&&◌, ◌||◌, Bool, true, false, not, slice_get, refl, ◌∙◌, ap, subst}
use Rattle.coincidence.specs.declared.point_watch.PointWatch.{PointWatch}
use Rattle.coincidence.specs.Places.{GoesOnFrom}
use Rattle.coincidence.proofs.Marked.{steady_from}
use Rattle.coincidence.proofs.Watched.{point_small, read_is}
use Rattle.coincidence.proofs.decide.Decide.is_steady.Goals as goal

pub at-point-requires : goal.at-point-requires
at-point-requires c =
    let q = c.requires.can in
    point_small q.stands c.args.answer.now.point (q.may.own 0 c.args.answer.now refl)

all_hold : (stays settled blocked off manual : Bool) → (((stays && settled) && not (blocked || off)) && not manual) ≡ true
    → (stays ≡ true) × (settled ≡ true) × (blocked ≡ false) × (off ≡ false) × (manual ≡ false)
all_hold true true false false false is = (refl, refl, refl, refl, refl)
all_hold true true false false true is = absurd (cc)
all_hold true true false true manual is = absurd (cc)
all_hold true true true off manual is = absurd (cc)
all_hold true false blocked off manual is = absurd (cc)
all_hold false settled blocked off manual is = absurd (cc)

pub returns : goal.returns
returns c is point zone there zone_there =
    let decide = c.args.self.now in
    let x = c.args.answer.now.stamp.0 in
    let watch = c.at-point.result.now in
    let said = c.args.zone.now in
    let same : watch ≡ point = read_is decide.points c.args.answer.now.point watch point c.at-point.ensures there in
    let own = c.requires.zone.own watch c.at-point.ensures ∙ ap (λ (o : PointWatch). o.zone) same in
    let holds = all_hold c.stays_at-stays.result said.settled said.blocked watch.off.now watch.manual is in
    subst (λ o. GoesOnFrom x decide.reset o zone) same
    (steady_from x decide.reset said watch zone (c.requires.zone.known zone (ap (slice_get decide.zones.items) own ∙ zone_there)) holds.1 holds.2
    c.if-point-answer.false holds.3 holds.4 (c.stays_at-stays.ensures holds.0))
