-- The printed line of a piece of cable.
use Rattle.std.proofs.Common.{◌≡◌, ◌∙◌, ◌&&◌, ◌+◌, ◌<◌, ◌≤◌, inl, inr, ℕ, suc, Bool, true, List, [], ◌∷◌, Some, None, refl, ap, arith}
use Rattle.std.specs.Prelude.{codes, decimal, nat_le, option_map, slice_get, ◌==◌}
use Rattle.std.specs.List.{list_any}
use Rattle.std.specs.Option.{option_and_then}
use Rattle.std.proofs.lemmas.Bool.{and_from, and_parts, eqb-true, leb-true, or_cases}
use Rattle.site_types.specs.Events.{has_event, has_piece}
use Rattle.site_types.specs.Valid.{IsLoop, IsValid}
use Rattle.site_types.specs.declared.site.Site.{Site}
use Rattle.site_types.specs.declared.loop_plan.LoopPlan.{LoopPlan}
use Rattle.site_types.specs.declared.event.Event.TheVariants.{Cable}
use Rattle.site_types.specs.declared.piece_state.PieceState.{PieceState}
use Rattle.record_lines.specs.Events.{cable_of, has_event_numbers}
use Rattle.line_fields.specs.Numbers.{is_number, number_below}
use Rattle.line_fields.specs.Fields.{field_count}
use Rattle.site_types.specs.Fields.{field}
use Rattle.record_lines.specs.Forms.{event_form_of}
use Rattle.record_lines.specs.Printed.{event_text, joined, piece_state_word}
use Rattle.record_lines.specs.Words.{piece_state_of}
use Rattle.record_lines.specs.declared.form.EventForm.TheVariants.{Cable as CableForm}
use Rattle.record_lines.specs.declared.line.Line.TheVariants.{Event as EventLine}
use Rattle.record_lines.specs.declared.ticks_so_far.TicksSoFar.{TicksSoFar}
use Rattle.line_fields.proofs.Joined.{HasFields}
use Rattle.record_lines.proofs.Joins.{fields_of, fit_more, joined_text}
use Rattle.line_fields.proofs.PlainFields.{are_fit, number_fit, octet_small}
use Rattle.record_lines.proofs.PrintedNames.{at_place}
use Rattle.record_lines.proofs.PrintedWords.{piece_word}
use Rattle.record_lines.proofs.Rows.{cable_row}
use Rattle.record_lines.proofs.Verdicts.{IsTextOf, begun, counted, event_from, judged_event, number_there, octet_back}

-- ---- the numbers of a piece that the site has

any_there : {X : Type 0} (test : X → Bool) (xs : List X) → list_any test xs ≡ true → (place : ℕ) × (x : X) × (slice_get xs place ≡ Some x)
    × (test x ≡ true)
any_there test [] passes = cc
any_there test (x ∷ xs) passes =
    elim (or_cases (test x) (list_any test xs) passes) [
      | inl here ↦ (0, x, refl, here)
      | inr later ↦ (let there = any_there test xs later in (suc there.0, there.1, there.2, there.3))
    ]

record AreOctets (panel line piece : ℕ) : Type 0 where
  panel_is : panel < 256
  line_is : line < 256
  piece_is : piece < 256

numbers_of_plan : (site : Site) → IsValid site → (plan : LoopPlan) → IsLoop site plan → (panel line piece : ℕ)
    → ((plan.panel == panel) && (plan.line == line) && nat_le piece plan.last) ≡ true → AreOctets panel line piece
numbers_of_plan site valid plan is panel line piece passes =
    let front = and_parts ((plan.panel == panel) && (plan.line == line)) (nat_le piece plan.last) passes in
    let both = and_parts (plan.panel == panel) (plan.line == line) front.0 in
    let same_panel = eqb-true plan.panel panel both.0 in
    let same_line = eqb-true plan.line line both.1 in
    let within = leb-true piece plan.last front.1 in
    let panel_high = is.panel.1 in
    let panels_high = valid.forms.panels.1 in
    let line_high = is.line.1 in
    let last_high = is.last.1 in
    let format_high = valid.forms.format.1 in
    record {
      panel_is = omega (arith, same_panel, panel_high, panels_high);
      line_is = omega (arith, same_line, line_high);
      piece_is = omega (arith, within, last_high, format_high);
    }

octets_of : (site : Site) → IsValid site → (panel line piece : ℕ) → has_piece site panel line piece ≡ true → AreOctets panel line piece
octets_of site valid panel line piece has =
    let there = any_there (λ (plan : LoopPlan). (plan.panel == panel) && (plan.line == line) && nat_le piece plan.last) site.loops has in
    numbers_of_plan site valid there.1 (at_place (IsLoop site) site.loops there.0 there.1 valid.forms.loops there.2) panel line piece there.3

-- ---- the line

abbrev cable_fields : ℕ → ℕ → ℕ → PieceState → List (List ℕ)
cable_fields panel line piece state = decimal panel ∷ decimal line ∷ decimal piece ∷ piece_state_word state ∷ []

cable_fit : (panel line piece : ℕ) (state : PieceState) → AreOctets panel line piece → are_fit 20 (cable_fields panel line piece state) ≡ true
cable_fit panel line piece state are =
    let last = fit_more 20 (piece_state_word state) [] (piece_word state).fit refl in
    let third = fit_more 20 (decimal piece) (piece_state_word state ∷ []) (number_fit piece (octet_small piece are.piece_is)) last in
    let second = fit_more 20 (decimal line) (decimal piece ∷ piece_state_word state ∷ []) (number_fit line (octet_small line are.line_is)) third in
    fit_more 20 (decimal panel) (decimal line ∷ decimal piece ∷ piece_state_word state ∷ []) (number_fit panel (octet_small panel are.panel_is))
    second

cable_form_is : (text : List ℕ) (panel line piece : ℕ) (state : PieceState) → HasFields text (codes "cable") (cable_fields panel line piece state)
    → event_form_of text ≡ Some (CableForm state)
cable_form_is text panel line piece state has =
    cable_row text (has.at 0) ∙ counted (field_count text) 5 (option_map (λ s. CableForm s) (piece_state_of (field 4 text))) None
    (ap (λ n. n + 1) has.count)
    ∙ ap (λ word. option_map (λ s. CableForm s) (piece_state_of word)) (has.at 4) ∙ ap (option_map (λ s. CableForm s)) (piece_word state).back

cable_numbers : (text : List ℕ) (panel line piece : ℕ) (state : PieceState) → AreOctets panel line piece
    → HasFields text (codes "cable") (cable_fields panel line piece state) →
    has_event_numbers (CableForm state) text ≡ true
cable_numbers text panel line piece state are has =
    let first = number_there (field 1 text) panel (has.at 1) (octet_small panel are.panel_is) in
    let second = number_there (field 2 text) line (has.at 2) (octet_small line are.line_is) in
    let third = number_there (field 3 text) piece (has.at 3) (octet_small piece are.piece_is) in
    and_from (is_number (field 1 text) && is_number (field 2 text)) (is_number (field 3 text))
    (and_from (is_number (field 1 text)) (is_number (field 2 text)) first second) third

cable_back : (text : List ℕ) (panel line piece : ℕ) (state : PieceState) → AreOctets panel line piece
    → HasFields text (codes "cable") (cable_fields panel line piece state) →
    cable_of state text ≡ Some (Cable panel line piece state)
cable_back text panel line piece state are has =
    ap (option_and_then (λ p. option_and_then (λ l. option_map (λ n. Cable p l n state) (number_below 256 (field 3 text))) (number_below 256 (field 2 text))))
    (octet_back (field 1 text) panel (has.at 1) are.panel_is)
    ∙ ap (option_and_then (λ l. option_map (λ n. Cable panel l n state) (number_below 256 (field 3 text))))
    (octet_back (field 2 text) line (has.at 2) are.line_is)
    ∙ ap (option_map (λ n. Cable panel line n state)) (octet_back (field 3 text) piece (has.at 3) are.piece_is)

pub cable_printed : (site : Site) → IsValid site → (so_far : TicksSoFar) → 1 ≤ so_far.ticks → (panel line piece : ℕ) (state : PieceState)
    → has_event site (Cable panel line piece state) ≡ true →
    IsTextOf site so_far (EventLine (Cable panel line piece state)) (event_text site (Cable panel line piece state))
cable_printed site valid so_far due panel line piece state there =
    let are = octets_of site valid panel line piece there in
    let fields = cable_fields panel line piece state in
    let text = joined (codes "cable") fields in
    let fit = cable_fit panel line piece state are in
    let has = fields_of 20 (codes "cable") fields refl fit in
    record {
      bytes = joined_text 20 (codes "cable") fields refl fit (omega arith);
      says =
          judged_event site so_far text (codes "cable") (CableForm state) (EventLine (Cable panel line piece state)) (has.at 0) refl (cable_form_is text panel line piece state has)
          (begun so_far due)
          (cable_numbers text panel line piece state are has)
          (event_from site (CableForm state) text (Cable panel line piece state) (cable_back text panel line piece state are has) there);
    }
