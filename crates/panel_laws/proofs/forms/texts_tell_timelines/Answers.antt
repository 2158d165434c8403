use Rattle.face_reading.proofs.SameTexts.{texts_are_their_own}
use Rattle.panel_rules.specs.Timeline.{timeline_of}
use Rattle.panel_laws.proofs.TimelineForms.{in_form}
use Rattle.panel_laws.proofs.forms.texts_tell_timelines.Goals as goal

pub returns : goal.returns
returns c site kept other_kept moments others told other same =
    texts_are_their_own site told.valid (timeline_of site kept moments) (timeline_of site other_kept others)
    (in_form site kept moments told) (in_form site other_kept others other) same
