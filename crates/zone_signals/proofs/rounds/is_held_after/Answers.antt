use Rattle.std.proofs.Common.{◌≡◌, ◌∙◌, true, sym}
use Rattle.panel_rules.proofs.Floors.{lt_from, lt_to}
use Rattle.zone_signals.specs.Kinds.{fits_kind}
use Rattle.zone_signals.proofs.HeldRounds.{after_held, held_after}
use Rattle.zone_signals.proofs.rounds.is_held_after.Goals as goal

pub returns : goal.returns
returns c kept done moments runs within =
    let fits : fits_kind c.args.kind c.args.site.now c.args.place ≡ true = sym (c.fits.ensures within) ∙ c.if-not-fits.false in
    let last = c.last_held.ensures kept done moments runs within in
    let first = c.last_held.result in (
      λ late. held_after c.args.site.now kept done moments c.args.kind c.args.place c.args.after c.args.now first fits last (lt_from c.args.after first late),
      λ held. lt_to c.args.after first (after_held c.args.site.now kept done moments c.args.kind c.args.place c.args.after c.args.now first last held),
    )
