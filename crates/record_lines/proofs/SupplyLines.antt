-- The printed line of a supply's input, and that of a link.
use Rattle.std.proofs.Common.{◌≡◌, ◌∙◌, ◌&&◌, ◌+◌, ◌<◌, ◌≤◌, ℕ, Bool, true, List, [], ◌∷◌, Some, None, refl, ap, arith}
use Rattle.std.specs.Prelude.{codes, decimal, nat_le, option_map}
use Rattle.std.specs.Option.{option_and_then}
use Rattle.std.proofs.lemmas.Bool.{and_parts, leb-true}
use Rattle.site_types.specs.Events.{has_event, is_link, is_panel}
use Rattle.site_types.specs.Valid.{IsValid}
use Rattle.site_types.specs.declared.site.Site.{Site}
use Rattle.site_types.specs.declared.event.Event.TheVariants.{Supply, Link}
use Rattle.site_types.specs.declared.supply_kind.SupplyKind.{SupplyKind}
use Rattle.record_lines.specs.Events.{link_of, supply_of}
use Rattle.line_fields.specs.Fields.{field_count}
use Rattle.site_types.specs.Fields.{field}
use Rattle.record_lines.specs.Forms.{event_form_of}
use Rattle.record_lines.specs.Printed.{bad_word, event_text, joined, supply_word, up_word}
use Rattle.record_lines.specs.Words.{is_bad_of, is_up_of, supply_kind_of}
use Rattle.record_lines.specs.declared.form.EventForm.TheVariants.{Supply as SupplyForm, Link as LinkForm}
use Rattle.record_lines.specs.declared.line.Line.TheVariants.{Event as EventLine}
use Rattle.record_lines.specs.declared.ticks_so_far.TicksSoFar.{TicksSoFar}
use Rattle.line_fields.proofs.Joined.{HasFields}
use Rattle.record_lines.proofs.Joins.{fields_of, fit_more, joined_text}
use Rattle.line_fields.proofs.PlainFields.{number_fit, octet_small}
use Rattle.record_lines.proofs.PrintedWords.{kind_word, word_of_bad, word_of_up}
use Rattle.record_lines.proofs.Rows.{link_row, supply_row}
use Rattle.record_lines.proofs.Verdicts.{IsTextOf, begun, counted, event_from, judged_event, number_there, octet_back}

-- ---- a number of a panel and of a link

pub panel_octet : (site : Site) → IsValid site → (panel : ℕ) → is_panel site panel ≡ true → panel < 256
panel_octet site valid panel is =
    let high = leb-true panel site.panels (and_parts (nat_le 1 panel) (nat_le panel site.panels) is).1 in
    let panels_high = valid.forms.panels.1 in
    omega (arith, high, panels_high)

link_octet : (site : Site) → IsValid site → (link : ℕ) → is_link site link ≡ true → link < 256
link_octet site valid link is =
    let high = leb-true link site.panels (and_parts (nat_le 2 site.panels && nat_le 1 link) (nat_le link site.panels) is).1 in
    let panels_high = valid.forms.panels.1 in
    omega (arith, high, panels_high)

-- ---- supplies

supply_form_is : (text : List ℕ) (panel : ℕ) (kind : SupplyKind) (bad : Bool)
    → HasFields text (codes "supply") (decimal panel ∷ supply_word kind ∷ bad_word bad ∷ []) →
    event_form_of text ≡ Some (SupplyForm kind bad)
supply_form_is text panel kind bad has =
    let read = option_and_then (λ k. option_map (λ b. SupplyForm k b) (is_bad_of (field 3 text))) in
    supply_row text (has.at 0) ∙ counted (field_count text) 4 (read (supply_kind_of (field 2 text))) None (ap (λ n. n + 1) has.count)
    ∙ ap (λ word. read (supply_kind_of word)) (has.at 2) ∙ ap read (kind_word kind).back
    ∙ ap (λ word. option_map (λ b. SupplyForm kind b) (is_bad_of word)) (has.at 3) ∙ ap (option_map (λ b. SupplyForm kind b)) (word_of_bad bad).back

pub supply_printed : (site : Site) → IsValid site → (so_far : TicksSoFar) → 1 ≤ so_far.ticks → (panel : ℕ) (kind : SupplyKind) (bad : Bool)
    → has_event site (Supply panel kind bad) ≡ true →
    IsTextOf site so_far (EventLine (Supply panel kind bad)) (event_text site (Supply panel kind bad))
supply_printed site valid so_far due panel kind bad there =
    let below = panel_octet site valid panel there in
    let fields = decimal panel ∷ supply_word kind ∷ bad_word bad ∷ [] in
    let text = joined (codes "supply") fields in
    let last = fit_more 20 (bad_word bad) [] (word_of_bad bad).fit refl in
    let fit =
    fit_more 20 (decimal panel) (supply_word kind ∷ bad_word bad ∷ []) (number_fit panel (octet_small panel below))
    (fit_more 20 (supply_word kind) (bad_word bad ∷ []) (kind_word kind).fit last) in
    let has = fields_of 20 (codes "supply") fields refl fit in
    let is : supply_of kind bad text ≡ Some (Supply panel kind bad) =
    ap (option_map (λ p. Supply p kind bad)) (octet_back (field 1 text) panel (has.at 1) below) in
    record {
      bytes = joined_text 20 (codes "supply") fields refl fit (omega arith);
      says = judged_event site so_far text (codes "supply") (SupplyForm kind bad) (EventLine (Supply panel kind bad)) (has.at 0) refl (supply_form_is text panel kind bad has)
          (begun so_far due)
          (number_there (field 1 text) panel (has.at 1) (octet_small panel below))
          (event_from site (SupplyForm kind bad) text (Supply panel kind bad) is there);
    }

-- ---- links

link_form_is : (text : List ℕ) (link : ℕ) (up : Bool) → HasFields text (codes "link") (decimal link ∷ up_word up ∷ [])
    → event_form_of text ≡ Some (LinkForm up)
link_form_is text link up has =
    link_row text (has.at 0) ∙ counted (field_count text) 3 (option_map (λ u. LinkForm u) (is_up_of (field 2 text))) None (ap (λ n. n + 1) has.count)
    ∙ ap (λ word. option_map (λ u. LinkForm u) (is_up_of word)) (has.at 2) ∙ ap (option_map (λ u. LinkForm u)) (word_of_up up).back

pub link_printed : (site : Site) → IsValid site → (so_far : TicksSoFar) → 1 ≤ so_far.ticks → (link : ℕ) (up : Bool)
    → has_event site (Link link up) ≡ true →
    IsTextOf site so_far (EventLine (Link link up)) (event_text site (Link link up))
link_printed site valid so_far due link up there =
    let below = link_octet site valid link there in
    let fields = decimal link ∷ up_word up ∷ [] in
    let text = joined (codes "link") fields in
    let fit =
    fit_more 20 (decimal link) (up_word up ∷ []) (number_fit link (octet_small link below)) (fit_more 20 (up_word up) [] (word_of_up up).fit refl)
    in
    let has = fields_of 20 (codes "link") fields refl fit in
    let is : link_of up text ≡ Some (Link link up) = ap (option_map (λ l. Link l up)) (octet_back (field 1 text) link (has.at 1) below) in
    record {
      bytes = joined_text 20 (codes "link") fields refl fit (omega arith);
      says = judged_event site so_far text (codes "link") (LinkForm up) (EventLine (Link link up)) (has.at 0) refl (link_form_is text link up has) (begun so_far due)
          (number_there (field 1 text) link (has.at 1) (octet_small link below)) (event_from site (LinkForm up) text (Link link up) is there);
    }
