-- The forms and ranges of the records of a draft whose document is clean.
use Rattle.std.proofs.Common.{◌≡◌, ◌≤◌, ◌<◌, ℕ, List, Bool, true, false, ◌||◌, ◌==◌, Option, Some, None, is_some, IsTrue, nat_lt, refl, arith, if◌then◌else◌}
use Rattle.std.proofs.lemmas.Bool.{lt-ltb}
use Rattle.toml.specs.Data.{Data, Members, get_member}
use Rattle.site_types.specs.Limits.{most_panels, most_loops, most_zones, most_outputs}
use Rattle.site_types.specs.Names.{is_name}
use Rattle.site_types.specs.Profile.{greatest_delay_of, least_verify_of, greatest_verify_of, least_within_a_of, least_within_b_of, greatest_within_of, last_address_of}
use Rattle.site_types.specs.Valid.{IsRule, may_have_partner}
use Rattle.site_document.specs.declared.draft_output.DraftOutput.{DraftOutput}
use Rattle.site_document.specs.declared.draft_point.DraftPoint.{DraftPoint}
use Rattle.site_document.specs.declared.draft_zone.DraftZone.{DraftZone}
use Rattle.site_document.specs.declared.key.Key.TheVariants as key
use Rattle.site_document.specs.declared.row_kind.RowKind.TheVariants as kind
use Rattle.site_document.specs.declared.words.ZoneType.{ZoneType}
use Rattle.site_document.specs.declared.words.ZoneType.TheVariants as zone
use Rattle.site_document.specs.Drafts.{byte_at, byte_of, output_of, point_of, rule_as, short_of, zone_of}
use Rattle.site_document.specs.Needs.{is_a, is_a_or_b, is_b_or_c, is_allowed, is_needed}
use Rattle.site_document.specs.Ranges.{from_to, range_of, within_range}
use Rattle.site_document.specs.Rules.{form_of, keys_of}
use Rattle.site_document.specs.Tables.{format_at, natural_at, text_at, text_in, type_at, value_at}
use Rattle.site_document.specs.Texts.{key_word}
use Rattle.site_document.specs.Unknown.{is_known}
use Rattle.site_config.proofs.CleanRows.{IsClean, known_at, missing_keys, out_keys, place_of, wrong_keys}
use Rattle.site_config.proofs.CleanKeys.{InRange, name_clean, number_clean, number_most}

pick_small : (b : Bool) (n : ℕ) → b ≡ true → (if b then n else 0) ≡ n
pick_small true n e = refl
pick_small false n e = absurd (cc e)

pub byte_small : (n : ℕ) → n < 256 → byte_of n ≡ n
byte_small n small = pick_small (nat_lt n 256) n (lt-ltb n 256 small)

pub short_small : (n : ℕ) → n < 65536 → short_of n ≡ n
short_small n small = pick_small (nat_lt n 65536) n (lt-ltb n 65536 small)

-- a number within a range that a byte holds
pub byte_in : (least greatest n : ℕ) → InRange (from_to least greatest) n → greatest < 256 → (least ≤ byte_of n) × (byte_of n ≤ greatest)
byte_in least greatest n is small =
    let low : least ≤ n = is.low in
    let high : n ≤ greatest = is.high in
    rw (byte_small n (omega arith)) (low, high)

either : (b : Bool) → (1 ≤ (if b then 2 else 1)) × ((if b then 2 else 1) ≤ 2)
either true = (omega arith, omega arith)
either false = (omega arith, omega arith)

pub format_small : (top : Members) → (1 ≤ format_at top) × (format_at top ≤ 2)
unfolding format_at
format_small top = either (natural_at key.Format top == 2)

-- what the table of the whole file says of the panels
pub record HasPanels (top : Members) : Type 0 where
  pub few : InRange (from_to 1 most_panels) (natural_at key.Panels top)

-- ---- zones

rule_clean : (t : ZoneType) (format v w : ℕ) → (is_a t ≡ true → InRange (from_to (least_verify_of format) (greatest_verify_of format)) v)
    → (is_a_or_b t ≡ true → InRange (within_range t format v) w) → format ≤ 2 → IsRule format (rule_as t (short_of v) (short_of w))
rule_clean zone.Plain format v w verify apart few = tt
rule_clean zone.A format v w verify apart few =
    let one : InRange (from_to (least_verify_of format) (greatest_verify_of format)) v = verify refl in
    let two : InRange (from_to (least_within_a_of format v) (greatest_within_of format)) w = apart refl in
    let low : least_verify_of format ≤ v = one.low in
    let high : v ≤ greatest_verify_of format = one.high in
    let near : least_within_a_of format v ≤ w = two.low in
    let far : w ≤ greatest_within_of format = two.high in
    rw (short_small v (omega arith), short_small w (omega arith)) (low, high, near, far)
rule_clean zone.B format v w verify apart few =
    let two : InRange (from_to (least_within_b_of format) (greatest_within_of format)) w = apart refl in
    let near : least_within_b_of format ≤ w = two.low in
    let far : w ≤ greatest_within_of format = two.high in
    rw (short_small w (omega arith)) (near, far)
rule_clean zone.C format v w verify apart few = tt

may_have : (t : ZoneType) (v w : ℕ) → is_b_or_c t ≡ true → IsTrue (may_have_partner (rule_as t v w))
may_have zone.Plain v w e = absurd (cc e)
may_have zone.A v w e = absurd (cc e)
may_have zone.B v w e = refl
may_have zone.C v w e = refl

or_false : (b : Bool) → (b || false) ≡ true → b ≡ true
or_false true e = refl
or_false false e = absurd (cc e)

pub record IsDraftZone (format panels : ℕ) (z : DraftZone) : Type 0 where
  pub name : IsTrue (is_name z.name)
  pub panel : (1 ≤ z.panel) × (z.panel ≤ panels)
  pub number : (1 ≤ z.number) × (z.number ≤ most_zones)
  pub rule : IsRule format z.rule
  pub partner : (name : List ℕ) → z.partner ≡ Some name → IsTrue (may_have_partner z.rule)

text_there : (v : Option Data) (t : List ℕ) → text_in v ≡ Some t → is_some v ≡ true
text_there None t e = absurd (cc e)
text_there (Some d) t e = refl

partner_there : (row : Members) (name : List ℕ) → text_at key.Partner row ≡ Some name → is_some (get_member (key_word key.Partner) row) ≡ true
unfolding text_at
partner_there row name e = text_there (value_at key.Partner row) name e

partner_allowed : (row : Members) → is_known kind.Zone row (key_word key.Partner) ≡ true → is_b_or_c (type_at row) ≡ true
unfolding is_known keys_of key_word is_allowed
partner_allowed row e = or_false (is_b_or_c (type_at row)) e

pub panel_clean : (top row : Members) (n : ℕ) → HasPanels top → InRange (from_to 1 (natural_at key.Panels top)) n
    → (1 ≤ byte_of n) × (byte_of n ≤ byte_at key.Panels top)
panel_clean top row n panels is =
    let few : natural_at key.Panels top ≤ most_panels = panels.few.high in
    let low : 1 ≤ n = is.low in
    let high : n ≤ natural_at key.Panels top = is.high in
    rw (byte_small n (omega arith), byte_small (natural_at key.Panels top) (omega arith)) (low, high)

pub zone_clean : (top : Members) → HasPanels top → (n : ℕ) (row : Members) → IsClean top (place_of kind.Zone n) row
    → IsDraftZone (format_at top) (byte_at key.Panels top) (zone_of row)
unfolding zone_of keys_of form_of is_needed range_of
zone_clean top panels n row clean =
    let place = place_of kind.Zone n in
    let m = missing_keys top place row clean in
    let w = wrong_keys top place row clean in
    let o = out_keys top place row clean in record {
      name = name_clean place row key.Name refl refl m.0 w.0;
      panel = panel_clean top row _ panels (number_clean place top row key.Panel refl refl m.1.1.0 w.1.1.0 o.1.1.0);
      number = byte_in 1 most_zones _ (number_clean place top row key.Number refl refl m.1.0 w.1.0 o.1.0) (omega arith);
      rule = rule_clean (type_at row) (format_at top) (natural_at key.Verify row) (natural_at key.Within row)
          (λ a. number_clean place top row key.Verify refl a m.1.1.1.1.1.0 w.1.1.1.1.1.0 o.1.1.1.1.1.0)
          (λ ab. number_clean place top row key.Within refl ab m.1.1.1.1.1.1.0 w.1.1.1.1.1.1.0 o.1.1.1.1.1.1.0) (format_small top).1;
      partner =
          λ name is.
          may_have (type_at row) _ _ (partner_allowed row (known_at top place row (key_word key.Partner) clean (partner_there row name is)));
    }

-- ---- points and outputs

pub record IsDraftPoint (format panels : ℕ) (p : DraftPoint) : Type 0 where
  pub name : IsTrue (is_name p.name)
  pub panel : (1 ≤ p.panel) × (p.panel ≤ panels)
  pub line : (1 ≤ p.line) × (p.line ≤ most_loops)
  pub address : (1 ≤ p.address) × (p.address ≤ last_address_of format)

pub last_in : (format n : ℕ) → format ≤ 2 → InRange (from_to 1 (last_address_of format)) n → (1 ≤ byte_of n) × (byte_of n ≤ last_address_of format)
last_in format n few is =
    let low : 1 ≤ n = is.low in
    let high : n ≤ last_address_of format = is.high in
    rw (byte_small n (omega arith)) (low, high)

pub point_clean : (top : Members) → HasPanels top → (n : ℕ) (row : Members) → IsClean top (place_of kind.Point n) row
    → IsDraftPoint (format_at top) (byte_at key.Panels top) (point_of row)
unfolding point_of keys_of form_of is_needed range_of
point_clean top panels n row clean =
    let place = place_of kind.Point n in
    let m = missing_keys top place row clean in
    let w = wrong_keys top place row clean in
    let o = out_keys top place row clean in record {
      name = name_clean place row key.Name refl refl m.1.1.1.0 w.1.1.1.0;
      panel = panel_clean top row _ panels (number_clean place top row key.Panel refl refl m.1.1.1.1.0 w.1.1.1.1.0 o.1.1.1.1.0);
      line = byte_in 1 most_loops _ (number_clean place top row key.Loop refl refl m.1.1.0 w.1.1.0 o.1.1.0) (omega arith);
      address = last_in (format_at top) _ (format_small top).1 (number_clean place top row key.Address refl refl m.0 w.0 o.0);
    }

pub record IsDraftOutput (format panels : ℕ) (o : DraftOutput) : Type 0 where
  pub name : IsTrue (is_name o.name)
  pub panel : (1 ≤ o.panel) × (o.panel ≤ panels)
  pub number : (1 ≤ o.number) × (o.number ≤ most_outputs)
  pub delay : o.delay ≤ greatest_delay_of format

delay_in : (format n : ℕ) → format ≤ 2 → n ≤ greatest_delay_of format → short_of n ≤ greatest_delay_of format
delay_in format n few high = rw (short_small n (omega arith)) high

pub output_clean : (top : Members) → HasPanels top → (n : ℕ) (row : Members) → IsClean top (place_of kind.Output n) row
    → IsDraftOutput (format_at top) (byte_at key.Panels top) (output_of row)
unfolding output_of keys_of form_of is_needed range_of
output_clean top panels n row clean =
    let place = place_of kind.Output n in
    let m = missing_keys top place row clean in
    let w = wrong_keys top place row clean in
    let o = out_keys top place row clean in record {
      name = name_clean place row key.Name refl refl m.1.1.0 w.1.1.0;
      panel = panel_clean top row _ panels (number_clean place top row key.Panel refl refl m.1.1.1.1.0 w.1.1.1.1.0 o.1.1.1.1.0);
      number = byte_in 1 most_zones _ (number_clean place top row key.Number refl refl m.1.1.1.0 w.1.1.1.0 o.1.1.1.0) (omega arith);
      delay = delay_in (format_at top) _ (format_small top).1 (number_most place top row key.Delay refl o.0);
    }
