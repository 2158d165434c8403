use Rattle.std.proofs.Common.{◌≡◌, ◌-◌, ◌++◌, ◌≤◌, ℕ, List, false, map}
use Rattle.std.specs.List.{range_with_len}
use Rattle.site_types.specs.declared.site.Site.{Site}
use Rattle.site_types.specs.declared.retained.Retained.{Retained}
use Rattle.site_types.specs.Done.{Done}
use Rattle.coincidence_rules.specs.declared.finding.Finding.{Finding}
use Rattle.answer_lanes.specs.Points.{finding_at}
use Rattle.panel_conditions.specs.Stands.{WatchesPoints}
use Rattle.panel_conditions.proofs.points.Points.take_run.Given as goal

abbrev pub invariant-loop-place : goal.invariant-loop-place
invariant-loop-place l = record {
  from : l.run.taken ≤ l.place;
  watches : (site : Site) (kept : Retained) (panel : ℕ) (done : List Done) (taken : List Finding)
      → WatchesPoints site kept panel done taken l.initial.self →
      WatchesPoints site kept panel done (taken ++ map (finding_at l.run.first) (range_with_len l.run.taken (l.place - l.run.taken))) l.self;
  missing : l.self.changed ≡ false → (l.initial.self.changed ≡ false) × (l.self.missing ≡ l.initial.self.missing);
  off : (l.self.off ≡ l.initial.self.off) × (l.self.zone_off ≡ l.initial.self.zone_off);
}
