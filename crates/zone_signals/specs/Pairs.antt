-- Pairs of points for a zone, and the ticks after which they have to be held.
use Rattle.std.specs.Prelude.{◌≡◌, ◌⊎◌, ℕ, List, Option, Some, None, max, slice_get}
use Rattle.site_types.specs.declared.retained.Retained.{Retained}
use Rattle.site_types.specs.declared.site.Site.{Site}
use Rattle.site_types.specs.Done.{Done}
use Rattle.coincidence_rules.specs.Places.{partner_of}
use Rattle.panel_rules.specs.Moments.{Moment}
use Rattle.zone_signals.specs.declared.kind.Kind.{Kind}
use Rattle.zone_signals.specs.Rounds.{HasHeldAfter}

-- for a pair of the zone alone, and for one with its partner, the tick after which both points are held
pub record ArePairBars (site : Site) (zone : ℕ) (partner : Option ℕ) (bar : ℕ → ℕ) (own both : ℕ) : Type 0 where
  pub is_partner : partner_of (slice_get site.zones zone) ≡ partner
  pub alone : own ≡ bar zone
  pub across : (other : ℕ) → partner ≡ Some other → both ≡ max (bar zone) (bar other)

module _ (site : Site) (kept : Retained) (done : List Done) (moments : List Moment) where
  -- a point of one zone is held for a round after a tick, and one of another after a later tick
  pub record HasOneOfEach (kind : Kind) (zone other after later now : ℕ) : Type 0 where
    pub one : HasHeldAfter site kept done moments kind None zone after now
    pub two : HasHeldAfter site kept done moments kind None other later now

  -- a point of the zone and one of its partner, whichever comes first
  pub record HasPairAcross (kind : Kind) (zone : ℕ) (partner : Option ℕ) (both later now : ℕ) : Type 0 where
    pub other : ℕ
    pub is : partner ≡ Some other
    pub found : HasOneOfEach kind zone other both later now ⊎ HasOneOfEach kind other zone both later now
