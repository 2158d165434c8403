-- The words that name sites and files.
use Rattle.std.proofs.Common.{◌≡◌, ◌&&◌, ℕ, Bool, true, false, List, [], ◌∷◌, Option, Some, None, get_or, refl, nat_le, if◌then◌else◌}
use Rattle.std.specs.Prelude.{String, string_bytes, map, codes}
use Rattle.std.specs.Str.{bytes_eq}
use Rattle.std.specs.declared.alloc.Global.{Global}
use Rattle.panel_program.specs.declared.command.Command.TheVariants.{Usage, Check, Run, Matrix, Drill, Move, Audit, Import}
use Rattle.panel_program.specs.declared.command.Command.{Command}
use Rattle.panel_program.specs.Commands.{file_word, new_site_word, site_word, text_word}
use Rattle.panel_program.specs.Words.{command_of, drill_by}
use Rattle.panel_drill.specs.Running.{most_ticks}
use Rattle.site_types.specs.Numbers.{number_of}

-- words of a command have a second one
pub site_word_is : (words : List (String Global)) (name : String Global) → (command_of (map string_bytes words) ≡ Usage → ⊥)
    → site_word (map string_bytes words) ≡ string_bytes (get_or words 1 name)
site_word_is [] name h = absurd (h refl)
site_word_is (word ∷ []) name h = absurd (h refl)
site_word_is (word ∷ site ∷ []) name h = refl
site_word_is (word ∷ site ∷ rest) name h = refl

-- two words are no move
no_move : (check matrix : Bool) → (if check then Check else (if matrix then Matrix else Usage)) ≡ Move → ⊥
no_move true matrix is = cc
no_move false true is = cc
no_move false false is = cc

-- the words of a move have a third one
pub new_site_word_is : (words : List (String Global)) (name : String Global) → command_of (map string_bytes words) ≡ Move
    → new_site_word (map string_bytes words) ≡ string_bytes (get_or words 2 name)
new_site_word_is [] name is = cc
new_site_word_is (word ∷ []) name is = cc
new_site_word_is (word ∷ site ∷ []) name is =
    absurd (no_move (bytes_eq (string_bytes word) (codes "check")) (bytes_eq (string_bytes word) (codes "matrix")) is)
new_site_word_is (word ∷ old ∷ new ∷ rest) name is = refl

no_import : (check matrix : Bool) → (if check then Check else (if matrix then Matrix else Usage)) ≡ Import → ⊥
no_import true matrix is = cc
no_import false true is = cc
no_import false false is = cc

-- the words of an import have a third one
pub file_word_is : (words : List (String Global)) (name : String Global) → command_of (map string_bytes words) ≡ Import
    → file_word (map string_bytes words) ≡ string_bytes (get_or words 2 name)
file_word_is [] name is = cc
file_word_is (word ∷ []) name is = cc
file_word_is (word ∷ site ∷ []) name is =
    absurd (no_import (bytes_eq (string_bytes word) (codes "check")) (bytes_eq (string_bytes word) (codes "matrix")) is)
file_word_is (word ∷ site ∷ file ∷ rest) name is = refl

-- two words are no audit
no_audit : (check matrix : Bool) → (if check then Check else (if matrix then Matrix else Usage)) ≡ Audit → ⊥
no_audit true matrix is = cc
no_audit false true is = cc
no_audit false false is = cc

-- the words of an audit have a third one
pub lines_word_is : (words : List (String Global)) (name : String Global) → command_of (map string_bytes words) ≡ Audit
    → file_word (map string_bytes words) ≡ string_bytes (get_or words 2 name)
lines_word_is [] name is = cc
lines_word_is (word ∷ []) name is = cc
lines_word_is (word ∷ site ∷ []) name is =
    absurd (no_audit (bytes_eq (string_bytes word) (codes "check")) (bytes_eq (string_bytes word) (codes "matrix")) is)
lines_word_is (word ∷ site ∷ lines ∷ rest) name is = refl

no_drill : (some : Bool) (seed ticks : ℕ) → (if some then Drill seed ticks else Usage) ≡ Audit → ⊥
no_drill true seed ticks is = cc
no_drill false seed ticks is = cc

drill_is_no_audit : (seed ticks : Option ℕ) → drill_by seed ticks ≡ Audit → ⊥
drill_is_no_audit None ticks is = cc
drill_is_no_audit (Some seed) None is = cc
drill_is_no_audit (Some seed) (Some ticks) is = no_drill (nat_le 1 ticks && nat_le ticks most_ticks) seed ticks is

-- nor are three
no_audit_of_three : (run drill : Bool) (drilled : Command) → (drilled ≡ Audit → ⊥)
    → (if run then Run else (if drill then drilled else Usage)) ≡ Audit → ⊥
no_audit_of_three true drill drilled never is = cc
no_audit_of_three false true drilled never is = never is
no_audit_of_three false false drilled never is = cc

-- and a fourth one
pub text_word_is : (words : List (String Global)) (name : String Global) → command_of (map string_bytes words) ≡ Audit
    → text_word (map string_bytes words) ≡ string_bytes (get_or words 3 name)
text_word_is [] name is = cc
text_word_is (word ∷ []) name is = cc
text_word_is (word ∷ site ∷ []) name is =
    absurd (no_audit (bytes_eq (string_bytes word) (codes "check")) (bytes_eq (string_bytes word) (codes "matrix")) is)
text_word_is (word ∷ second ∷ third ∷ []) name is =
    absurd (no_audit_of_three (bytes_eq (string_bytes word) (codes "run")) (bytes_eq (string_bytes word) (codes "drill"))
    (drill_by (number_of (string_bytes second)) (number_of (string_bytes third)))
    (drill_is_no_audit (number_of (string_bytes second)) (number_of (string_bytes third))) is)
text_word_is (word ∷ site ∷ lines ∷ text ∷ rest) name is = refl
