use Rattle.std.proofs.Common.{refl}
use Rattle.face_text.specs.Slots.{page as page_of_panel}
use Rattle.face_text.proofs.page.page.Goals as goal

pub returns : goal.returns
unfolding page_of_panel
returns c = refl
