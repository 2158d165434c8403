use Rattle.std.proofs.Common.{◌≡◌, ℕ, ◌-◌, ◌≤◌, length, take, None, slice_index_or}
use Rattle.std.specs.List.{position}
use Rattle.site_types.specs.Profile.{last_address_of}
use Rattle.loop_poller.proofs.Lines.{is_at}
use Rattle.loop_poller.proofs.points.points_of.Given as goal

abbrev pub invariant-loop-place : goal.invariant-loop-place
invariant-loop-place l = record {
  size : length l.points.items ≡ last_address_of l.site.format;
  each : (address : ℕ) → 1 ≤ address → address ≤ last_address_of l.site.format
      → slice_index_or l.points.items (address - 1) None ≡ position (is_at l.panel l.line address) (take l.place l.site.points);
}
