use Rattle.std.proofs.Common.{rules, ◌∙◌, ap, option_map, arith}
use Rattle.tick_units.specs.declared.order_fault.BadOrder.TheVariants.{Missing}
use Rattle.tick_units.proofs.Faults.{told_all, told_at_end}
use Rattle.tick_units.proofs.Sound.{length_sound}
use Rattle.tick_units.proofs.order.Order.new.Goals as goal

pub returns-in_err-check_seats : goal.returns-in_err-check_seats
returns-in_err-check_seats c = told_all c.args.panels c.args.seats.now _ (search rules) (search rules)

pub returns-in-Some : goal.returns-in-Some
returns-in-Some c =
    told_all c.args.panels c.args.seats.now _ tt
    (told_at_end c.args.panels c.args.seats.now _ c.in_ok-check_seats.ensures.ok c.missing_seat.ensures ∙ ap (option_map Missing) c.in-Some.is)

pub of_seats-requires : goal.of_seats-requires
of_seats-requires c = omega (arith, c.requires.1, length_sound c.args.panels c.args.seats.now c.in_ok-check_seats.ensures.ok)

pub returns-in-None : goal.returns-in-None
returns-in-None c =
    told_all c.args.panels c.args.seats.now _ c.of_seats.ensures
    (told_at_end c.args.panels c.args.seats.now _ c.in_ok-check_seats.ensures.ok c.missing_seat.ensures ∙ ap (option_map Missing) c.in-None.is)
