-- The loops and markers of a draft whose document is clean, and what its table of the whole file says.
use Rattle.std.proofs.Common.{◌≡◌, ◌≤◌, ◌<◌, ℕ, ℤ, pos, negsuc, ◌+◌, List, ◌++◌, Bool, true, false, nat_lt, nat_le}
use Rattle.std.proofs.Common.{Option, Some, None, is_some, IsTrue, length, option_to_list, refl, arith, if◌then◌else◌}
use Rattle.std.proofs.lemmas.Bool.{and_parts, leb-true, ltb-true}
use Rattle.toml.specs.Data.{Data, Items, no_items, item, Members, as_integer, as_str}
use Rattle.site_types.specs.Limits.{most_panels, most_loops, most_codes, most_terms, most_markers}
use Rattle.site_types.specs.Names.{is_name}
use Rattle.site_types.specs.Numbers.{number_of}
use Rattle.site_types.specs.Profile.{last_address_of, greatest_mains_wait_of, greatest_standby_wait_of, greatest_voltage_wait_of, greatest_charger_wait_of}
use Rattle.site_types.specs.Valid.{AreIsolators, AreWaits, IsCombine}
use Rattle.site_types.specs.declared.loop_plan.LoopPlan.{LoopPlan}
use Rattle.site_document.specs.declared.draft_marker.DraftMarker.{DraftMarker}
use Rattle.site_document.specs.declared.form.Form.TheVariants as form
use Rattle.site_document.specs.declared.key.Key.{Key}
use Rattle.site_document.specs.declared.key.Key.TheVariants as key
use Rattle.site_document.specs.declared.place.Place.{Place}
use Rattle.site_document.specs.declared.ranges.Range.{Range}
use Rattle.site_document.specs.declared.row_kind.RowKind.TheVariants as kind
use Rattle.site_document.specs.declared.terms.TermKind.{TermKind}
use Rattle.site_document.specs.declared.terms.TermKind.TheVariants as term
use Rattle.site_document.specs.declared.words.MarkerKind.{MarkerKind}
use Rattle.site_document.specs.declared.words.MarkerKind.TheVariants as marker
use Rattle.site_document.specs.Drafts.{byte_at, byte_of, collected, combine_as, fault_term, isolator_from}
use Rattle.site_document.specs.Drafts.{isolator_in, loop_of, marker_of, name_at, short_of, term_from, term_in}
use Rattle.site_document.specs.Drafts.{term_of_parts, waits_of}
use Rattle.site_document.specs.Needs.{is_at_least, is_needed}
use Rattle.site_document.specs.Ranges.{contains, fall_at, first_fall, from_to, is_between, length_out, length_range, next_before, out_at, range_of}
use Rattle.site_document.specs.Refusals.{Refusal, out_of_range, wrong_kind}
use Rattle.site_document.specs.Rules.{form_of, keys_of}
use Rattle.site_document.specs.Tables.{count_of, format_at, items_at, items_in, marker_kind_at, natural_at, value_at}
use Rattle.site_document.specs.Terms.{is_split_term, is_term, split_term}
use Rattle.site_document.specs.Texts.{item_text, key_text, key_word}
use Rattle.site_document.specs.Walk.{whole}
use Rattle.site_document.specs.WrongKind.{first_misfit, fits, item_fits, text_passes, wrong_at, wrong_item, wrong_value}
use Rattle.site_config.proofs.DraftForms.{HasPanels, byte_in, byte_small, format_small, last_in, panel_clean, short_small}
use Rattle.site_config.proofs.CleanRows.{IsClean, missing_keys, out_keys, place_of, wrong_keys}
use Rattle.site_config.proofs.CleanKeys.{InRange, name_clean, none_first, none_later, number_clean, number_most, passed}

-- ---- isolators

isolators_step : (place : Place) (before end n : ℕ) (o : Option ℤ) (rest : List ℕ) → end < 256 → fall_at place before end n o ≡ None
    → AreIsolators (next_before before o) end rest → AreIsolators before end (option_to_list (isolator_in o) ++ rest)
isolators_step place before end n None rest small fall are = are
isolators_step place before end n (Some (pos m)) rest small fall are =
    let parts = and_parts (nat_lt before m) (nat_lt m end)
    (passed (is_between before end (pos m)) None (out_of_range (item_text place (key_word key.Isolators) n) (pos m)) fall) in
    let above : before < m = ltb-true before m parts.0 in
    let below : m < end = ltb-true m end parts.1 in
    rw (byte_small m (omega arith)) (above, below, are)
isolators_step place before end n (Some (negsuc m)) rest small fall are =
    absurd (cc (passed (is_between before end (negsuc m)) None (out_of_range (item_text place (key_word key.Isolators) n) (negsuc m)) fall))

isolators_clean : (place : Place) (before end n : ℕ) (items : Items) → end < 256 → first_fall place before end n items ≡ None
    → AreIsolators before end (collected isolator_from items)
unfolding isolator_from
isolators_clean place before end n no_items small e = tt
isolators_clean place before end n (item value items) small e =
    isolators_step place before end n (as_integer value) (collected isolator_from items) small
    (none_first (fall_at place before end n (as_integer value)) _ e)
    (isolators_clean place (next_before before (as_integer value)) end (n + 1) items small
    (none_later (fall_at place before end n (as_integer value)) _ e))

pub record IsDraftLoop (format panels : ℕ) (plan : LoopPlan) : Type 0 where
  pub panel : (1 ≤ plan.panel) × (plan.panel ≤ panels)
  pub line : (1 ≤ plan.line) × (plan.line ≤ most_loops)
  pub last : (1 ≤ plan.last) × (plan.last ≤ last_address_of format)
  pub isolators : AreIsolators 0 plan.last plan.isolators

falls_at : (place : Place) (top row : Members) → out_at place top row key.Isolators ≡ None
    → first_fall place 0 (natural_at key.Last row) 1 (items_at key.Isolators row) ≡ None
unfolding out_at form_of
falls_at place top row e = e

within_last : (place : Place) (format n : ℕ) (items : Items) → format ≤ 2 → InRange (from_to 1 (last_address_of format)) n
    → first_fall place 0 n 1 items ≡ None
    → AreIsolators 0 (byte_of n) (collected isolator_from items)
within_last place format n items few is e =
    let high : n ≤ last_address_of format = is.high in
    rw (byte_small n (omega arith)) (isolators_clean place 0 n 1 items (omega arith) e)

pub loop_clean : (top : Members) → HasPanels top → (n : ℕ) (row : Members) → IsClean top (place_of kind.Loop n) row
    → IsDraftLoop (format_at top) (byte_at key.Panels top) (loop_of row)
unfolding loop_of keys_of form_of is_needed range_of
loop_clean top panels n row clean =
    let place = place_of kind.Loop n in
    let m = missing_keys top place row clean in
    let w = wrong_keys top place row clean in
    let o = out_keys top place row clean in
    let last = number_clean place top row key.Last refl refl m.1.0 w.1.0 o.1.0 in record {
      panel = panel_clean top row _ panels (number_clean place top row key.Panel refl refl m.1.1.1.0 w.1.1.1.0 o.1.1.1.0);
      line = byte_in 1 most_loops _ (number_clean place top row key.Loop refl refl m.1.1.0 w.1.1.0 o.1.1.0) (omega arith);
      last = last_in (format_at top) _ (format_small top).1 last;
      isolators =
          within_last place (format_at top) (natural_at key.Last row) (items_at key.Isolators row) (format_small top).1 last
          (falls_at place top row o.0);
    }

-- ---- lengths of lists

at_most_one : {X : Type 0} (o : Option X) (rest : List X) → length (option_to_list o ++ rest) ≤ length rest + 1
at_most_one None rest = omega arith
at_most_one (Some x) rest = omega arith

pub collected_most : {X : Type 0} (read : Data → Option X) (items : Items) → length (collected read items) ≤ count_of items
collected_most read no_items = omega arith
collected_most read (item value items) = omega (arith, at_most_one (read value) (collected read items), collected_most read items)

length_clean : (range : Range) (text : List ℕ) (n : ℕ) → length_out (Some range) text n ≡ None → InRange range n
length_clean range text n e =
    let parts = and_parts (nat_le range.least n) (nat_le n range.greatest) (passed (contains range (pos n)) None (out_of_range text (pos n)) e) in
    record { low = leb-true range.least n parts.0; high = leb-true n range.greatest parts.1 }

-- ---- terms

chosen : (b : Bool) (x : Option Refusal) (r : Refusal) → (if b then x else Some r) ≡ None → x ≡ None
chosen true x r e = e
chosen false x r e = absurd (cc e)

no_item : (place : Place) (k : Key) (o : Option ℕ) → wrong_item place k o ≡ None → o ≡ None
no_item place k None e = refl
no_item place k (Some n) e = absurd (cc e)

no_misfit : (place : Place) (k : Key) (v : Option Data) → wrong_value place k v ≡ None → first_misfit (form_of k) 1 (items_in v) ≡ None
no_misfit place k None e = refl
no_misfit place k (Some value) e = no_item place k _ (chosen (fits (form_of k) value) _ (wrong_kind (key_text place (key_word k))) e)

items_fit : (place : Place) (row : Members) → wrong_at place row key.Terms ≡ None → first_misfit form.Terms 1 (items_at key.Terms row) ≡ None
unfolding wrong_at items_at form_of
items_fit place row e = no_misfit place key.Terms (value_at key.Terms row) e

fits_here : (b : Bool) (x : Option ℕ) (n : ℕ) → (if b then x else Some n) ≡ None → (b ≡ true) × (x ≡ None)
fits_here true x n e = (refl, e)
fits_here false x n e = absurd (cc e)

fault_there : (o : Option ℕ) → is_some o ≡ true → is_some (fault_term o) ≡ true
fault_there None e = absurd (cc e)
fault_there (Some n) e = refl

parts_there : (parts : Option (TermKind × List ℕ)) → is_split_term parts ≡ true → is_some (term_of_parts parts) ≡ true
parts_there None e = absurd (cc e)
parts_there (Some (term.Zone, rest)) e = refl
parts_there (Some (term.Manual, rest)) e = refl
parts_there (Some (term.Fault, rest)) e = fault_there (number_of rest) e
parts_there (Some (term.Marker, rest)) e = refl

text_term : (o : Option (List ℕ)) → text_passes is_term o ≡ true → is_some (term_in o) ≡ true
unfolding is_term
text_term None e = absurd (cc e)
text_term (Some text) e = parts_there (split_term text) e

term_there : (value : Data) → item_fits form.Terms value ≡ true → is_some (term_from value) ≡ true
unfolding item_fits term_from
term_there value e = text_term (as_str value) e

one_there : {X : Type 0} (o : Option X) (rest : List X) → is_some o ≡ true → length (option_to_list o ++ rest) ≡ length rest + 1
one_there None rest e = absurd (cc e)
one_there (Some x) rest e = omega arith

all_terms : (n : ℕ) (items : Items) → first_misfit form.Terms n items ≡ None → length (collected term_from items) ≡ count_of items
all_terms n no_items e = refl
all_terms n (item value items) e =
    let here = fits_here (item_fits form.Terms value) (first_misfit form.Terms (n + 1) items) n e in
    omega (arith, one_there (term_from value) (collected term_from items) (term_there value here.0), all_terms (n + 1) items here.1)

pub record IsDraftMarker (m : DraftMarker) : Type 0 where
  pub name : IsTrue (is_name m.name)
  pub terms : (1 ≤ length m.terms) × (length m.terms ≤ most_terms)
  pub combine : IsCombine (length m.terms) m.combine

combine_clean : (k : MarkerKind) (count terms : ℕ) → terms ≤ most_terms → (is_at_least k ≡ true → InRange (from_to 1 terms) count)
    → IsCombine terms (combine_as k (byte_of count))
combine_clean marker.All count terms few is = tt
combine_clean marker.Any count terms few is = tt
combine_clean marker.AtLeast count terms few is = byte_in 1 terms count (is refl) (omega arith)

terms_at : (place : Place) (top row : Members) → out_at place top row key.Terms ≡ None
    → InRange (from_to 1 most_terms) (count_of (items_at key.Terms row))
unfolding out_at form_of length_range
terms_at place top row e = length_clean (from_to 1 most_terms) (key_text place (key_word key.Terms)) _ e

sized : (count terms : ℕ) → terms ≡ count → InRange (from_to 1 most_terms) count → (1 ≤ terms) × (terms ≤ most_terms)
sized count terms e is = rw e (is.low, is.high)

pub marker_clean : (top : Members) (n : ℕ) (row : Members) → IsClean top (place_of kind.Marker n) row → IsDraftMarker (marker_of row)
unfolding marker_of keys_of form_of is_needed range_of
marker_clean top n row clean =
    let place = place_of kind.Marker n in
    let m = missing_keys top place row clean in
    let w = wrong_keys top place row clean in
    let o = out_keys top place row clean in
    let many : length (collected term_from (items_at key.Terms row)) ≡ count_of (items_at key.Terms row) =
    all_terms 1 (items_at key.Terms row) (items_fit place row w.1.1.1.0) in
    let size = sized _ _ many (terms_at place top row o.1.1.1.0) in record {
      name = name_clean place row key.Name refl refl m.1.1.0 w.1.1.0;
      terms = size;
      combine =
          combine_clean (marker_kind_at row) (natural_at key.Count row) _ size.1
          (λ a. rw many (number_clean place top row key.Count refl a m.0 w.0 o.0));
    }

-- ---- the table of the whole file

pub record IsDraftTop (top : Members) : Type 0 where
  pub name : IsTrue (is_name (name_at key.Site top))
  pub panels : (1 ≤ byte_at key.Panels top) × (byte_at key.Panels top ≤ most_panels)
  pub waits : AreWaits (format_at top) (waits_of top)
  pub second : count_of (items_at key.Level2 top) ≤ most_codes
  pub third : count_of (items_at key.Level3 top) ≤ most_codes
  pub fourth : count_of (items_at key.Level4 top) ≤ most_codes
  pub markers : count_of (items_at key.Markers top) ≤ most_markers

short_most : (n most : ℕ) → n ≤ most → most < 65536 → short_of n ≤ most
short_most n most high small = rw (short_small n (omega arith)) high

second_at : (place : Place) (top row : Members) → out_at place top row key.Level2 ≡ None → count_of (items_at key.Level2 row) ≤ most_codes
unfolding out_at form_of length_range
second_at place top row e = (length_clean (from_to 0 most_codes) (key_text place (key_word key.Level2)) _ e).high

third_at : (place : Place) (top row : Members) → out_at place top row key.Level3 ≡ None → count_of (items_at key.Level3 row) ≤ most_codes
unfolding out_at form_of length_range
third_at place top row e = (length_clean (from_to 0 most_codes) (key_text place (key_word key.Level3)) _ e).high

fourth_at : (place : Place) (top row : Members) → out_at place top row key.Level4 ≡ None → count_of (items_at key.Level4 row) ≤ most_codes
unfolding out_at form_of length_range
fourth_at place top row e = (length_clean (from_to 0 most_codes) (key_text place (key_word key.Level4)) _ e).high

markers_at : (place : Place) (top row : Members) → out_at place top row key.Markers ≡ None → count_of (items_at key.Markers row) ≤ most_markers
unfolding out_at form_of length_range
markers_at place top row e = (length_clean (from_to 0 most_markers) (key_text place (key_word key.Markers)) _ e).high

pub panels_clean : (top : Members) → IsClean top whole top → HasPanels top
unfolding keys_of form_of is_needed range_of
panels_clean top clean =
    let m = missing_keys top whole top clean in
    let w = wrong_keys top whole top clean in
    let o = out_keys top whole top clean in record {
      few = number_clean whole top top key.Panels refl refl m.1.1.1.1.1.1.1.1.1.0 w.1.1.1.1.1.1.1.1.1.0 o.1.1.1.1.1.1.1.1.1.0;
    }

pub top_clean : (top : Members) → IsClean top whole top → IsDraftTop top
unfolding keys_of form_of is_needed range_of waits_of
top_clean top clean =
    let m = missing_keys top whole top clean in
    let w = wrong_keys top whole top clean in
    let o = out_keys top whole top clean in
    let few = (format_small top).1 in record {
      name = name_clean whole top key.Site refl refl m.1.1.1.1.1.1.1.1.1.1.1.0 w.1.1.1.1.1.1.1.1.1.1.1.0;
      panels = byte_in 1 most_panels _ (panels_clean top clean).few (omega arith);
      waits = record {
        mains = short_most _ (greatest_mains_wait_of (format_at top)) (number_most whole top top key.MainsWait refl o.1.1.1.1.1.1.0) (omega arith);
        standby = short_most _ (greatest_standby_wait_of (format_at top)) (number_most whole top top key.StandbyWait refl o.1.1.1.1.1.1.1.1.1.1.1.1.0)
            (omega arith);
        voltage =
            short_most _ (greatest_voltage_wait_of (format_at top)) (number_most whole top top key.VoltageWait refl o.1.1.1.1.1.1.1.1.1.1.1.1.1.0)
            (omega arith);
        charger = short_most _ (greatest_charger_wait_of (format_at top)) (number_most whole top top key.ChargerWait refl o.0) (omega arith);
      };
      second = second_at whole top top o.1.1.0;
      third = third_at whole top top o.1.1.1.0;
      fourth = fourth_at whole top top o.1.1.1.1.0;
      markers = markers_at whole top top o.1.1.1.1.1.1.1.0;
    }
