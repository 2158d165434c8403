-- The printed line of a tick, and that of the end.
use Rattle.std.proofs.Common.{◌≡◌, ◌∙◌, ◌+◌, ◌<◌, ◌≤◌, ◌^◌, ℕ, [], ◌∷◌, Some, None, Ok, Err, refl, ap, arith}
use Rattle.std.specs.Prelude.{◌==◌, codes, decimal, nat_le, if◌then◌else◌}
use Rattle.std.proofs.lemmas.Bool.{cond-false, lt-leb}
use Rattle.site_types.specs.declared.site.Site.{Site}
use Rattle.tick_units.specs.Ticks.{last_tick}
use Rattle.tick_units.specs.declared.tick.Tick.{Tick}
use Rattle.site_types.specs.Fields.{field}
use Rattle.line_fields.specs.Fields.{field_count}
use Rattle.record_lines.specs.Judged.{tick_as}
use Rattle.record_lines.specs.Printed.{joined, line_text}
use Rattle.record_lines.specs.Forms.{TickForm}
use Rattle.record_lines.specs.declared.line.Line.TheVariants.{Tick as TickLine, End}
use Rattle.record_lines.specs.declared.ticks_so_far.TicksSoFar.{TicksSoFar}
use Rattle.record_lines.specs.declared.why.Why.TheVariants.{BadTick, TickLimit}
use Rattle.record_lines.proofs.Joins.{fields_of, fit_more, joined_text}
use Rattle.line_fields.proofs.PlainFields.{number_fit}
use Rattle.record_lines.proofs.Rows.{tick_row}
use Rattle.record_lines.proofs.Verdicts.{IsTextOf, counted, judged_from, number_back, number_there}

-- the tick whose turn it is
tick_next : (ticks : ℕ) (tick : Tick) → tick.0 ≤ last_tick → tick.0 ≡ ticks + 1 → tick_as ticks (Some tick.0) ≡ Ok (TickLine tick)
tick_next ticks tick high due =
    let other = if tick.0 == ticks + 1 then Ok (TickLine tick) else Err (BadTick (ticks + 1) tick.0) in
    let more : ticks < last_tick = omega (arith, high, due) in
    cond-false (nat_le last_tick ticks) (Err TickLimit) other (lt-leb last_tick ticks more) ∙ counted tick.0 (ticks + 1) (Ok (TickLine tick))
    (Err (BadTick (ticks + 1) tick.0)) due

pub tick_printed : (site : Site) (so_far : TicksSoFar) (tick : Tick) → tick.0 ≤ last_tick → tick.0 ≡ so_far.ticks + 1
    → IsTextOf site so_far (TickLine tick) (line_text site (TickLine tick))
tick_printed site so_far tick high due =
    let small : tick.0 < 2 ^ 64 = omega (arith, high) in
    let fields = decimal tick.0 ∷ [] in
    let text = joined (codes "tick") fields in
    let fit = fit_more 20 (decimal tick.0) [] (number_fit tick.0 small) refl in
    let has = fields_of 20 (codes "tick") fields refl fit in
    let row = tick_row text (has.at 0) ∙ counted (field_count text) 2 (Some TickForm) None (ap (λ n. n + 1) has.count) in
    let number = number_back (field 1 text) tick.0 (has.at 1) small in
    record {
      bytes = joined_text 20 (codes "tick") fields refl fit (omega arith);
      says =
          judged_from site so_far text TickForm (TickLine tick) row refl (number_there (field 1 text) tick.0 (has.at 1) small)
          (ap (tick_as so_far.ticks) number ∙ tick_next so_far.ticks tick high due);
    }

pub end_printed : (site : Site) (so_far : TicksSoFar) → IsTextOf site so_far End (line_text site End)
end_printed site so_far = record { bytes = joined_text 20 (codes "end") [] refl refl (omega arith); says = refl }
