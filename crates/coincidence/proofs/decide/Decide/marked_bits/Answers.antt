use Rattle.std.proofs.Common.{◌≡◌, ◌+◌, ◌<◌, if◌then◌else◌, sym, ◌∙◌, ap, arith}
use Rattle.site_types.specs.declared.heard.Heard.TheVariants.{Alarm, Quiet, Silent}
use Rattle.site_types.specs.Bits.{has_bit}
use Rattle.site_types.proofs.Masks.{has_bit-and}
use Rattle.answer_lanes.specs.Places.{has_place}
use Rattle.coincidence_rules.proofs.Lists.{and_both}
use Rattle.coincidence.proofs.GoingOn.{point_of}
use Rattle.coincidence.proofs.decide.Decide.marked_bits.Goals as goal

pub returns : goal.returns
returns c k small is =
    let run = c.args.run.now in
    let going = c.eight_from-going.result in
    let alarms = c.alarms_from.result in
    let places = c.requires.places in
    let place = run.taken + k in
    let eight : place < 8 = omega (arith, places, small) in
    let here : 0 + place ≡ place = omega arith in
    let both = and_both (has_bit going place) (has_bit alarms place) (sym (c.bits_from.ensures k ∙ has_bit-and going alarms place) ∙ is) in
    record {
      alarm = ap (λ b. if b then Alarm else if has_bit run.first.silents place then Silent else Quiet)
          (sym (c.alarms_from.ensures place eight ∙ ap (has_bit run.first.alarms) here) ∙ both.1);
      has = ap (has_place c.args.self.now.going_on) (point_of run k c.requires small) ∙ sym (c.eight_from-going.ensures place eight) ∙ both.0;
    }
