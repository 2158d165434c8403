use Rattle.std.proofs.Common.{◌∙◌, Bool, ap}
use Rattle.settings_shown.specs.OnFaces.{with_masks}
use Rattle.settings_shown.proofs.InForce.{face_shows, in_force_shown}
use Rattle.settings_shown.proofs.showing.show_settings.Goals as goal

pub returns-clause-in_force : goal.returns-clause-in_force
returns-clause-in_force c site kept tick done own force words faults on confirmed buzzer counter =
    let settings = c.args.settings.now in
    let panel = c.args.panel in
    ap (λ (off : Bool). record (with_masks settings panel c.args.face.now) { delays_off = off }) c.has_bit_8-face.ensures
    ∙ face_shows site kept tick done panel settings c.args.face.now words faults on confirmed buzzer counter
    (in_force_shown site kept tick done panel settings c.requires own force)
