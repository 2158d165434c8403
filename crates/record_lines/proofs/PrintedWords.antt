-- Each fixed word that is printed is short and plain, and is read as what it was printed for.
use Rattle.std.proofs.Common.{◌≡◌, ℕ, Option, Bool, true, false, List, Some, refl}
use Rattle.site_types.specs.declared.point_state.PointState.{PointState}
use Rattle.site_types.specs.declared.point_state.PointState.TheVariants.{Quiet, Alarm, Gone}
use Rattle.site_types.specs.declared.piece_state.PieceState.{PieceState}
use Rattle.site_types.specs.declared.piece_state.PieceState.TheVariants.{Sound, Open, Short}
use Rattle.site_types.specs.declared.supply_kind.SupplyKind.{SupplyKind}
use Rattle.site_types.specs.declared.supply_kind.SupplyKind.TheVariants.{Mains, Standby, Voltage, Charger}
use Rattle.record_lines.specs.Printed.{bad_word, on_word, piece_state_word, point_state_word, supply_word, up_word}
use Rattle.record_lines.specs.Words.{is_bad_of, is_up_of, piece_state_of, point_state_of, supply_kind_of}
use Rattle.line_fields.specs.Words.{truth_of}
use Rattle.line_fields.proofs.PlainFields.{is_fit}

-- a word is short and plain, and is read back
pub record IsWord {A : Type 0} (read : List ℕ → Option A) (word : List ℕ) (meaning : A) : Type 0 where
  pub fit : is_fit 20 word ≡ true
  pub back : read word ≡ Some meaning

pub point_word : (state : PointState) → IsWord point_state_of (point_state_word state) state
point_word Quiet = record { fit = refl; back = refl }
point_word Alarm = record { fit = refl; back = refl }
point_word Gone = record { fit = refl; back = refl }

pub piece_word : (state : PieceState) → IsWord piece_state_of (piece_state_word state) state
piece_word Sound = record { fit = refl; back = refl }
piece_word Open = record { fit = refl; back = refl }
piece_word Short = record { fit = refl; back = refl }

pub kind_word : (kind : SupplyKind) → IsWord supply_kind_of (supply_word kind) kind
kind_word Mains = record { fit = refl; back = refl }
kind_word Standby = record { fit = refl; back = refl }
kind_word Voltage = record { fit = refl; back = refl }
kind_word Charger = record { fit = refl; back = refl }

pub word_of_bad : (bad : Bool) → IsWord is_bad_of (bad_word bad) bad
word_of_bad true = record { fit = refl; back = refl }
word_of_bad false = record { fit = refl; back = refl }

pub word_of_up : (up : Bool) → IsWord is_up_of (up_word up) up
word_of_up true = record { fit = refl; back = refl }
word_of_up false = record { fit = refl; back = refl }

pub word_of_on : (on : Bool) → IsWord truth_of (on_word on) on
word_of_on true = record { fit = refl; back = refl }
word_of_on false = record { fit = refl; back = refl }
