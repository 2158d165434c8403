-- Zones of which is told plainly.
use Rattle.std.proofs.Common.{◌≡◌, ℕ, ◌<◌, ◌^◌, Bool, true, false, ◌&&◌, ◌||◌, bit_and, bit_or, refl, sym, ◌∙◌, ap}
use Rattle.std.specs.Int.Bits.{or_self, or_zero_l, or_zero_r}
use Rattle.std.proofs.lemmas.Nat.{or_lt}
use Rattle.site_types.specs.Bits.{has_bit}
use Rattle.site_types.proofs.Masks.{has_bit-and, has_bit-or, has_bit-zero, same_mask}
use Rattle.tick_units.specs.declared.tick.Tick.{Tick}
use Rattle.answer_lanes.specs.declared.told.Told.{Told}
use Rattle.panel_conditions.specs.declared.signs.Signs.{Signs}
use Rattle.panel_conditions.specs.Parts.{IsPlain, IsShown, TellsPlainly, told_finding, plain_told, told_by}

-- what is told plainly is that of the zones confirmed
pub told_plainly : (told : Told) → IsPlain told → told ≡ plain_told told.confirmed
told_plainly told plain = rw (plain.counted, plain.released, plain.manual) refl

-- the zones of which is told plainly are those that are confirmed
pub plain_by : (stamp : Tick) (zones : ℕ) → told_by (told_finding stamp (plain_told zones)) ≡ zones
plain_by stamp zones =
    ap (λ m. bit_or m zones) (or_zero_r (bit_or zones zones) ∙ or_self zones) ∙ or_self zones

pub plain_at : (stamp : Tick) (zones k : ℕ) → has_bit zones k ≡ true → TellsPlainly k (told_finding stamp (plain_told zones))
plain_at stamp zones k on = record { counted = on; confirmed = on; released = on; manual = has_bit-zero k }

in_both : (c a r : Bool) → ((c && a) && r) ≡ c → ((c || a) ≡ a) × ((c || r) ≡ r)
in_both false a r h = (refl, refl)
in_both true true true h = (refl, refl)
in_both true true false h = absurd (cc)
in_both true false r h = absurd (cc)

-- nothing is told plainly but what is shown, where each zone is shown in alarm and released
pub plain_shown : (stamp : Tick) (zones : ℕ) (signs : Signs) → zones < 2 ^ 32 → signs.alarm < 2 ^ 32 → signs.released < 2 ^ 32
    → bit_and (bit_and zones signs.alarm) signs.released ≡ zones → IsShown (told_finding stamp (plain_told zones)) signs
plain_shown stamp zones signs below alarm released is = record {
  alarm =
      ap (λ m. bit_or m signs.alarm) (or_self zones)
      ∙ same_mask 32 (bit_or zones signs.alarm) signs.alarm (or_lt 32 zones signs.alarm below alarm) alarm
      (λ k small. has_bit-or zones signs.alarm k ∙ (shown k).0);
  manual = or_zero_l signs.manual;
  released =
      same_mask 32 (bit_or zones signs.released) signs.released (or_lt 32 zones signs.released below released) released
      (λ k small. has_bit-or zones signs.released k ∙ (shown k).1);
}
  where
    shown : (k : ℕ) → ((has_bit zones k || has_bit signs.alarm k) ≡ has_bit signs.alarm k)
        × ((has_bit zones k || has_bit signs.released k) ≡ has_bit signs.released k)
    shown k =
        in_both (has_bit zones k) (has_bit signs.alarm k) (has_bit signs.released k)
        (ap (λ b. b && has_bit signs.released k) (sym (has_bit-and zones signs.alarm k))
        ∙ sym (has_bit-and (bit_and zones signs.alarm) signs.released k) ∙ ap (λ m. has_bit m k) is)
