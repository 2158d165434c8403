-- How many things of each list of a site stand before those of a panel, and of its points before those of a loop.
use Rattle.std.specs.Prelude.{◌≡◌, ◌-◌, ◌&&◌, ◌==◌, ℕ, List, [], false, if◌then◌else◌, length, nat_le, slice_index}
use Rattle.std.specs.Prelude.{slice_index_or, take}
use Rattle.std.specs.List.{list_any}
use Rattle.site_types.specs.declared.output.Output.{Output}
use Rattle.site_types.specs.declared.point.Point.{Point}
use Rattle.site_types.specs.declared.site.Site.{Site}
use Rattle.site_types.specs.declared.zone.Zone.{Zone}
use Rattle.face_text.specs.declared.starts.Starts.{Starts}

-- what stands for a number in a list, the first for 1; nothing is passed for one that the list hasn't
abbrev pub start_in : List ℕ → ℕ → ℕ
start_in starts number =
    if nat_le 1 number && nat_le number (length starts) then slice_index starts (number - 1) else 0

-- what stands for a loop of a panel; nothing is passed for a panel that no site has
abbrev pub start_on : List (List ℕ) → ℕ → ℕ → ℕ
start_on starts panel line =
    if nat_le 1 panel && nat_le panel 8 then start_in (slice_index_or starts (panel - 1) []) line else 0

-- none of the things that are passed for a panel is the panel's, and no point that is passed for a loop is the loop's
pub record ArePassed (site : Site) (starts : Starts) : Type 0 where
  pub zones : (panel : ℕ)
      → list_any (λ (zone : Zone). zone.panel == panel) (take (start_in starts.zones panel) site.zones) ≡ false
  pub points : (panel line : ℕ)
      → list_any (λ (point : Point). (point.panel == panel) && (point.line == line))
      (take (start_on starts.points panel line) site.points)
      ≡ false
  pub outputs : (panel : ℕ)
      → list_any (λ (output : Output). output.panel == panel)
      (take (start_in starts.outputs panel) site.outputs) ≡ false
