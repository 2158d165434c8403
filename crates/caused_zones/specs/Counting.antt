-- Which answers of points count: those of points that are asked while they signal.
use Rattle.std.specs.Prelude.{◌≡◌, ℕ, ◌≤◌, true, List, Some, slice_get}
use Rattle.site_types.specs.declared.point.Point.{Point}
use Rattle.site_types.specs.declared.retained.Retained.{Retained}
use Rattle.site_types.specs.declared.site.Site.{Site}
use Rattle.site_types.specs.Done.{Done}
use Rattle.loop_poller.specs.Asked.{is_asked}
use Rattle.panel_rules.specs.Due.{SignalsAt}
use Rattle.panel_rules.specs.Moments.{Moment, tick_of}

-- the point is asked in a tick
pub record IsAskedAt (site : Site) (point tick : ℕ) : Type 0 where
  pub plan : Point
  pub is : slice_get site.points point ≡ Some plan
  pub asked : is_asked site.format plan.address tick ≡ true

module _ (site : Site) (kept : Retained) (done : List Done) (moments : List Moment) where
  -- the answer of a point in a tick counts
  pub record CountsAt (point tick : ℕ) : Type 0 where
    pub begins : 1 ≤ tick
    pub past : tick ≤ tick_of moments
    pub asked : IsAskedAt site point tick
    pub signals : SignalsAt site kept done moments point tick

  -- each answer of a point counts from a tick in which the point is asked through the same or a later tick
  pub record CountsThrough (point first last : ℕ) : Type 0 where
    pub begins : CountsAt point first
    pub rising : first ≤ last
    pub each : (tick : ℕ) → first ≤ tick → tick ≤ last → IsAskedAt site point tick → CountsAt point tick
