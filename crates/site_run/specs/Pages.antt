-- What is written of a tick, by the faces before and after it and by what was answered in it.
use Rattle.std.specs.Prelude.{◌≡◌, ℕ, ◌==◌, ◌||◌, not, Bool, List, [], ◌++◌, length, if◌then◌else◌}
use Rattle.std.specs.List.{list_any}
use Rattle.site_types.specs.declared.site.Site.{Site}
use Rattle.face_text.specs.declared.answers.Answers.{Answers}
use Rattle.face_text.specs.declared.face.Face.{Face}
use Rattle.face_text.specs.Answers.{answers_text}
use Rattle.face_text.specs.Faces.{has_some, same_faces}
use Rattle.face_text.specs.Starts.{ArePassed}
use Rattle.face_text.specs.Timelines.{faces_text, tick_line}
use Rattle.site_run.specs.declared.tick_faces.TickFaces.{TickFaces}
use Rattle.site_run.specs.AlikeFaces.{ShowAlike}

-- both lists have a face of each panel, and what is known of them is so: which are alike, and where names begin
pub record AreTellable (faces : TickFaces) : Type 0 where
  pub room : length faces.before.now ≡ length faces.after.now
  pub alike : ShowAlike faces.alike.now faces.before.now faces.after.now
  pub passed : ArePassed faces.site.now faces.starts.now

-- something was answered, an operation found its panel busy, or Keep's turn failed
abbrev pub has_answers : Answers → Bool
has_answers answers = not (length answers.ops == 0) || (list_any has_some answers.busy || answers.failed)

-- there is something to tell
abbrev pub is_told : List Face → List Face → Answers → Bool
is_told before after answers = not (same_faces after before) || has_answers answers

-- the lines of a tick
abbrev pub page_text : Site → ℕ → List Face → List Face → Answers → List ℕ
page_text site tick before after answers = tick_line tick ++ faces_text site before after ++ answers_text answers

-- what is written of it
abbrev pub written_text : Site → ℕ → List Face → List Face → Answers → List ℕ
written_text site tick before after answers =
    if is_told before after answers then page_text site tick before after answers else []
