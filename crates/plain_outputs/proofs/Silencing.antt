-- Sets of zones, the end of a tick, and what holds of the turns of Drive since.
use Rattle.std.proofs.Common.{◌≡◌, ◌<◌, ◌≤◌, ◌+◌, ◌&&◌, not, ℕ, zero, suc, Bool, true, false, List, [], ◌∷◌, ◌++◌, length, take, if◌then◌else◌, refl, sym, ◌∙◌, ap, subst, arith}
use Rattle.std.specs.Prelude.{nat_le, slice_get}
use Rattle.std.specs.List.{list_any, range_with_len}
use Rattle.std.proofs.Math.Seq.{take-length}
use Rattle.site_types.specs.declared.site.Site.{Site}
use Rattle.marker_table.specs.Equations.{zone_bit}
use Rattle.panel_rules.specs.Markers.{Facts}
use Rattle.panel_rules.specs.Moments.{Moment as MomentOf, tick_of, up_to}
use Rattle.panel_rules.specs.Outputs.{is_within, some_zone}
use Rattle.plain_outputs.specs.declared.seen.Seen.{Seen}
use Rattle.plain_outputs.specs.Drives.{AreSeen}
use Rattle.panel_bridges.specs.FactMasks.{AreZones}
use Rattle.plain_history.specs.Histories.{moment_of}
use Rattle.plain_outputs.proofs.Looking.{last_of}

-- tests that agree on the numbers from one on find the same
any_range : (f g : ℕ → Bool) (from count : ℕ) → ((k : ℕ) → from ≤ k → k < from + count → f k ≡ g k)
    → list_any f (range_with_len from count) ≡ list_any g (range_with_len from count)
any_range f g from zero same = refl
any_range f g from (suc count) same =
    let first : f from ≡ g from = same from (omega arith) (omega arith) in
    let rest = any_range f g (from + 1) count (λ k low high. same k (omega (arith, low)) (omega (arith, high))) in
    rw (first, rest) refl

any_zone : (site : Site) (f g : ℕ → Bool) → ((zone : ℕ) → zone < length site.zones → f zone ≡ g zone) → some_zone site f ≡ some_zone site g
any_zone site f g same = any_range f g 0 (length site.zones) (λ k low high. same k (omega (arith, high)))

pub within_same : (site : Site) (zones others : List ℕ) (test other : ℕ → Bool) → AreZones site test zones → AreZones site other others →
    is_within site (λ zone. zone_bit zones (slice_get site.zones zone)) (λ zone. zone_bit others (slice_get site.zones zone))
    ≡ is_within site test other
within_same site zones others test other are are_others =
    let some = any_zone site (λ zone. zone_bit zones (slice_get site.zones zone)) test are in
    let without =
    any_zone site (λ zone. zone_bit zones (slice_get site.zones zone) && not (zone_bit others (slice_get site.zones zone))) (λ zone. test zone
    && not (other zone))
    (λ zone h. let a = are zone h in let b = are_others zone h in rw (a, b) refl) in
    rw (some, without) refl

pub both_then : (x y a b : Bool) → x ≡ a → y ≡ b → x ≡ true → not y ≡ (a && not b)
both_then x y true b p q h = ap not q
both_then x y false b p q h = cc

pub both_else : (x a b : Bool) → x ≡ a → x ≡ false → x ≡ (a && not b)
both_else x true b p h = cc
both_else x false b p h = p

module _ (site : Site) (facts : ℕ → List MomentOf → Facts) where
  -- the whole, where its newest moment came by the tick
  pub whole_by : (tick : ℕ) (xs earlier : List Seen) (last : Seen) → xs ≡ earlier ++ last ∷ []
      → ((past : List MomentOf) → last.tick.0 ≡ tick_of past → true ≡ nat_le (tick_of (moment_of last.moment ∷ past)) tick) →
      (history : List MomentOf) → AreSeen site facts xs history → AreSeen site facts (take (length xs) xs) (up_to tick history)
  whole_by tick xs earlier last is by history are =
      let h = last_of site facts xs earlier last is history are in
      let came : true ≡ nat_le (tick_of (h.moment ∷ h.past)) tick =
      by h.past h.seen.tick ∙ ap (λ (m : MomentOf). nat_le (tick_of (m ∷ h.past)) tick) h.seen.is in
      let ends : up_to tick history ≡ history =
      ap (up_to tick) h.is ∙ ap (λ (b : Bool). if b then h.moment ∷ h.past else up_to tick h.past) (sym came) ∙ sym h.is in
      subst (λ (seen : List Seen). AreSeen site facts seen (up_to tick history)) (sym (take-length xs))
      (subst (λ (m : List MomentOf). AreSeen site facts xs m) (sym ends) are)
