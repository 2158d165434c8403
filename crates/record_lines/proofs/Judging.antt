-- What a line that begins with `tick` is judged to be.
use Rattle.std.proofs.Common.{◌≡◌, ◌∙◌, ℕ, Bool, true, false, List, [], ◌∷◌, Some, None, is_some, refl, sym, ap, subst}
use Rattle.std.specs.Prelude.{◌==◌, ◌+◌, codes, decimal, nat_le, Result, Ok, Err, ◌++◌, if◌then◌else◌}
use Rattle.site_types.specs.Numbers.{begins_as_number, number_of}
use Rattle.site_types.specs.declared.site.Site.{Site}
use Rattle.site_types.proofs.Spelling.{decimal-number_of, number_parts}
use Rattle.tick_units.specs.Ticks.{last_tick}
use Rattle.line_fields.specs.Fields.{field_count, space_count}
use Rattle.line_fields.specs.Numbers.{is_number}
use Rattle.line_fields.proofs.PlainFields.{number_fit}
use Rattle.line_fields.proofs.Spaces.{parted_text, two_fields}
use Rattle.site_types.specs.Fields.{after_space, field}
use Rattle.record_lines.specs.Forms.{Form, TickForm, form_of}
use Rattle.record_lines.specs.Judged.{IsVerdict, judged, judged_as, tick_as}
use Rattle.record_lines.specs.Printed.{joined}
use Rattle.record_lines.specs.declared.line.Line.{Line}
use Rattle.record_lines.specs.declared.line.Line.TheVariants.{Tick}
use Rattle.record_lines.specs.declared.ticks_so_far.TicksSoFar.{TicksSoFar}
use Rattle.record_lines.specs.declared.why.Why.{Why}
use Rattle.record_lines.specs.declared.why.Why.TheVariants.{BadNumber, BadTick, BadWord, TickLimit}
use Rattle.record_lines.proofs.Joins.{fields_of, fit_more}
use Rattle.record_lines.proofs.Rows.{tick_row}
use Rattle.record_lines.proofs.Verdicts.{counted, number_back}

-- a row that is there where a test passes
row_if : (site : Site) (so_far : TicksSoFar) (text : List ℕ) (test : Bool) (form : Form) →
    judged_as site so_far text (if test then Some form else None) ≡ (if test then judged_as site so_far text (Some form) else Err BadWord)
row_if site so_far text true form = refl
row_if site so_far text false form = refl

-- ---- ticks

-- a text spells the tick of this number
pub record SpellsTick (text : List ℕ) (number : ℕ) : Type 0 where
  pub row : form_of text ≡ Some TickForm
  pub numbered : number_of (field 1 text) ≡ Some number

tick_joined : (number : ℕ) → number_of (decimal number) ≡ Some number → SpellsTick (joined (codes "tick") (decimal number ∷ [])) number
tick_joined number is =
    let small = (number_parts (decimal number) number is).3 in
    let text = joined (codes "tick") (decimal number ∷ []) in
    let has = fields_of 20 (codes "tick") (decimal number ∷ []) refl (fit_more 20 (decimal number) [] (number_fit number small) refl) in
    record {
      row = tick_row text (has.at 0) ∙ counted (field_count text) 2 (Some TickForm) None (ap (λ n. n + 1) has.count);
      numbered = number_back (field 1 text) number (has.at 1) small;
    }

tick_spelled : (text rest : List ℕ) (number : ℕ) → text ≡ 116 ∷ 105 ∷ 99 ∷ 107 ∷ 32 ∷ rest → number_of rest ≡ Some number → SpellsTick text number
tick_spelled text rest number is numbered =
    let digits = decimal-number_of rest number numbered in
    subst (λ t. SpellsTick t number) (sym (is ∙ ap (λ r. 116 ∷ 105 ∷ 99 ∷ 107 ∷ 32 ∷ r) digits))
    (tick_joined number (ap number_of (sym digits) ∙ numbered))

some_number : (fields : List ℕ) (number : ℕ) → number_of fields ≡ Some number → fields ≡ [] → ⊥
some_number fields number is none = let none_begins = ap begins_as_number (sym none) ∙ (number_parts fields number is).0 in cc

pub tick_here : (text fields : List ℕ) (number : ℕ) → field 0 text ≡ codes "tick" → fields ≡ after_space text → Some number ≡ number_of fields
    → SpellsTick text number
tick_here text fields number word behind is =
    let there = ap number_of (sym behind) ∙ sym is in
    tick_spelled text (after_space text) number
    (parted_text text (some_number (after_space text) number there) ∙ ap (λ w. w ++ 32 ∷ after_space text) word) there

judged_tick : (site : Site) (so_far : TicksSoFar) (text : List ℕ) (number : ℕ) → SpellsTick text number
    → judged site so_far text ≡ tick_as so_far.ticks (Some number)
judged_tick site so_far text number spelled =
    ap (judged_as site so_far text) spelled.row ∙ ap (λ o. if is_some o then tick_as so_far.ticks o else Err BadNumber) spelled.numbered

-- a line that begins with `tick`, by its number of fields and its number
tick_by : (site : Site) (so_far : TicksSoFar) (text : List ℕ) → field 0 text ≡ codes "tick" →
    judged site so_far text ≡ (if field_count text == 2 then (if is_number (field 1 text) then tick_as so_far.ticks (number_of (field 1 text))
    else Err BadNumber) else Err BadWord)
tick_by site so_far text word = ap (judged_as site so_far text) (tick_row text word) ∙ row_if site so_far text (field_count text == 2) TickForm

pub tick_unnumbered : (site : Site) (so_far : TicksSoFar) (text fields : List ℕ) → field 0 text ≡ codes "tick" → fields ≡ after_space text
    → None ≡ number_of fields → space_count text ≡ 1 → judged site so_far text ≡ Err BadNumber
tick_unnumbered site so_far text fields word behind none one =
    tick_by site so_far text word ∙ counted (field_count text) 2 _ (Err BadWord) (ap (λ n. n + 1) one)
    ∙ ap (λ o. if is_some o then tick_as so_far.ticks o else Err BadNumber) (ap number_of (two_fields text one ∙ sym behind) ∙ sym none)

-- ---- what is answered of them

tick_says : (b c : Bool) (ticks number : ℕ) (is : Result Line Why)
    → is ≡ (if b then Err TickLimit else (if c then Ok (Tick (record { 0 = number })) else Err (BadTick (ticks + 1) number))) →
    IsVerdict is (if b then Err TickLimit else (if c then Ok (Tick (record { 0 = number })) else Err (BadTick (ticks + 1) number)))
tick_says true c ticks number is e = e
tick_says false true ticks number is e = e
tick_says false false ticks number is e = e

pub tick_told : (site : Site) (so_far : TicksSoFar) (text : List ℕ) (number : ℕ) (result : Result Line Why) → SpellsTick text number
    → result ≡ tick_as so_far.ticks (Some number) → IsVerdict (judged site so_far text) result
tick_told site so_far text number result spelled is =
    subst (IsVerdict (judged site so_far text)) (sym is) (tick_says (nat_le last_tick so_far.ticks) (number == so_far.ticks + 1) so_far.ticks
    number (judged site so_far text) (judged_tick site so_far text number spelled))
