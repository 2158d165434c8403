-- The face of a panel in JSON.
use Rattle.std.specs.Prelude.{◌++◌, ℕ, Bool, false, List, [], ◌∷◌, codes, decimal, if◌then◌else◌}
use Rattle.site_types.specs.declared.buzzer.Buzzer.{Buzzer}
use Rattle.site_types.specs.declared.buzzer.Buzzer.TheVariants.{Off, Fault, Fire}
use Rattle.site_types.specs.declared.site.Site.{Site}
use Rattle.face_text.specs.Faces.{conditions_of}
use Rattle.face_text.specs.Lists.{list_text, listed}
use Rattle.face_text.specs.declared.conditions.Conditions.{Conditions}
use Rattle.face_text.specs.declared.face.Face.{Face}
use Rattle.face_text.specs.declared.face_list.FaceList.TheVariants.{Zones, Firsts, Faults, Outputs, Disabled, Tests}
use Rattle.desk_answers.specs.Objects.{number_behind}

abbrev pub buzzer_said : Buzzer → List ℕ
buzzer_said Off = codes "off"
buzzer_said Fault = codes "fault"
buzzer_said Fire = codes "fire"

abbrev pub delays_said : Bool → List ℕ
delays_said off = if off then codes "off" else codes "on"

abbrev pub word_if : Bool → List ℕ → List (List ℕ)
word_if holds word = if holds then word ∷ [] else []

-- the words of the conditions that hold, in their order
abbrev pub condition_words : Conditions → List (List ℕ)
condition_words conditions =
    word_if conditions.fire (codes "fire") ++ word_if conditions.fault (codes "fault")
    ++ word_if conditions.disabled (codes "disabled") ++ word_if conditions.test (codes "test")

abbrev pub conditions_text : Conditions → List ℕ
conditions_text conditions = codes "[" ++ listed false (condition_words conditions) ++ codes "]"

-- what stands in front of the first list of a face
abbrev pub face_front : Face → List ℕ
face_front face =
    codes "{\"buzzer\":\"" ++ buzzer_said face.buzzer ++ codes "\",\"conditions\":"
    ++ conditions_text (conditions_of face) ++ codes ",\"counter\":" ++ decimal face.counter
    ++ codes ",\"delays\":\"" ++ delays_said face.delays_off ++ codes "\",\"disabled\":"

abbrev pub panel_part : ℕ → List ℕ
panel_part panel = number_behind (codes ",\"panel\":") panel ++ codes ",\"test\":"

abbrev pub tick_part : ℕ → List ℕ
tick_part tick = number_behind (codes ",\"tick\":") tick ++ codes ",\"zones\":"

-- the lists of a face, with what stands between them and behind them
abbrev pub face_lists : Site → Face → ℕ → List ℕ
face_lists site face tick =
    list_text site face Disabled ++ codes ",\"faults\":" ++ list_text site face Faults ++ codes ",\"first\":"
    ++ list_text site face Firsts ++ codes ",\"outputs\":" ++ list_text site face Outputs ++ panel_part face.panel
    ++ list_text site face Tests ++ tick_part tick ++ list_text site face Zones ++ codes "}\n"

-- the face of a panel at the end of a tick, with its line end
abbrev pub face_object : Site → Face → ℕ → List ℕ
face_object site face tick = face_front face ++ face_lists site face tick
