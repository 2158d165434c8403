use Rattle.std.proofs.Common.{◌∙◌, ◌++◌, [], append_assoc, refl, sym}
use Rattle.face_text.specs.Changes.{change_of}
use Rattle.face_text.specs.Slots.{Delays, Sounding, Count}
use Rattle.face_text.proofs.Holding.{broke_as, moves_as, moves_more, moves_none, puts_as, puts_broken, puts_more}
use Rattle.face_text.proofs.Listing.{three_lines}
use Rattle.face_text.proofs.face_pair.FacePair.push_rest.Goals as goal

pub returns-in_err-push-clause-text : goal.returns-in_err-push-clause-text
returns-in_err-push-clause-text g c =
    let pair = c.args.self.now in
    let line = change_of pair.site.now pair.before.now pair.after.now in
    let one = c.as_bytes.ensures.value ∙ c.as_str.ensures.value ∙ c.delays_change.ensures.text in
    puts_broken c.args.held.now c.args.held.now c.push.new.self _ _ _ [] (line Delays) (line Sounding ++ (line Count ++ [])) _
    c.from_residual.result
    c.from_residual.ensures.0 refl (moves_none c.args.held.now _) (broke_as c.args.held.now _ _ _ _ one c.in_err-push.ensures.text.err)

pub returns-in_err-push-2-clause-text : goal.returns-in_err-push-2-clause-text
returns-in_err-push-2-clause-text g c =
    let pair = c.args.self.now in
    let line = change_of pair.site.now pair.before.now pair.after.now in
    let one = c.as_bytes.ensures.value ∙ c.as_str.ensures.value ∙ c.delays_change.ensures.text in
    let two = c.as_bytes-2.ensures.value ∙ c.as_str-2.ensures.value ∙ c.buzzer_change.ensures.text in
    puts_broken c.args.held.now c.push.new.self c.push-2.new.self _ _ _ (line Delays) (line Sounding) (line Count ++ []) _
    c.from_residual-in_err-push-2.result
    c.from_residual-in_err-push-2.ensures.0 (sym (append_assoc (line Delays) (line Sounding) (line Count ++ [])))
    (moves_as c.args.held.now c.push.new.self _ _ _ _ one c.in_ok-push.ensures.text.ok)
    (broke_as c.push.new.self _ _ _ _ two c.in_err-push-2.ensures.text.err)

pub returns-clause-text : goal.returns-clause-text
returns-clause-text g c =
    let pair = c.args.self.now in
    let line = change_of pair.site.now pair.before.now pair.after.now in
    let one = c.as_bytes.ensures.value ∙ c.as_str.ensures.value ∙ c.delays_change.ensures.text in
    let two = c.as_bytes-2.ensures.value ∙ c.as_str-2.ensures.value ∙ c.buzzer_change.ensures.text in
    let three = c.as_bytes-3.ensures.value ∙ c.as_str-3.ensures.value ∙ c.counter_change.ensures.text in
    let first = moves_as c.args.held.now c.push.new.self _ _ _ _ one c.in_ok-push.ensures.text.ok in
    let second = moves_as c.push.new.self c.push-2.new.self _ _ _ _ two c.in_ok-push-2.ensures.text.ok in
    puts_as c.args.held.now c.push-3.new.self _ _ _ _ c.push-3.result (sym (three_lines line))
    (puts_more c.args.held.now c.push-2.new.self c.push-3.new.self _ _ _ (line Delays ++ line Sounding) (line Count) c.push-3.result
    (moves_more c.args.held.now c.push.new.self c.push-2.new.self _ _ _ (line Delays) (line Sounding) first second)
    (puts_as c.push-2.new.self c.push-3.new.self _ _ _ _ c.push-3.result three c.push-3.ensures.text))
