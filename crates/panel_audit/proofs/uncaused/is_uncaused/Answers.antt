use Rattle.std.proofs.Common.{◌∙◌, sym, ap}
use Rattle.std.proofs.lemmas.Option.{get_or_from_slice_get}
use Rattle.panel_audit.specs.Lowest.{is_in_masks}
use Rattle.panel_audit.proofs.ZoneCauses.{in_site, no_cause, not_shown}
use Rattle.panel_audit.proofs.uncaused.is_uncaused.Goals as goal

pub returns-then-is_in : goal.returns-then-is_in
returns-then-is_in c kept operations timeline ticks thing numbers stand joins is =
    let zones = c.args.zones.now in
    let place = c.args.place in
    let same = c.in-Some.ensures.lookup.1 ∙ get_or_from_slice_get zones place thing c.in-Some.zone.now is in
    let bit = c.is_in.ensures ∙ ap (is_in_masks c.args.shown.now) same in
    no_cause (is_in_masks c.args.shown.now thing) c.can_be_shown.result _ (sym bit ∙ c.if-is_in.true)
    (c.can_be_shown.ensures kept operations timeline ticks (in_site c.args.site.now zones place thing numbers is) stand joins)

pub returns-else-is_in : goal.returns-else-is_in
returns-else-is_in c kept operations timeline ticks thing numbers stand joins is =
    let same = c.in-Some.ensures.lookup.1 ∙ get_or_from_slice_get c.args.zones.now c.args.place thing c.in-Some.zone.now is in
    let bit = c.is_in.ensures ∙ ap (is_in_masks c.args.shown.now) same in
    not_shown (is_in_masks c.args.shown.now thing) c.is_in.result _ bit (sym bit ∙ c.if-is_in.false)
