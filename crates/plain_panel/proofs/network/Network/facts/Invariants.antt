use Rattle.std.proofs.Common.{◌≡◌, ◌-◌, ◌<◌, ◌≤◌, ℕ, false, length, slice_index_or}
use Rattle.panel_links.specs.Stands.{kept_in}
use Rattle.plain_panel.proofs.network.Network.facts.Given as goal

abbrev pub invariant-loop-source : goal.invariant-loop-source
invariant-loop-source l = record {
  zones_wide : length l.facts.zones ≡ 8;
  manual_wide : length l.facts.manual ≡ 8;
  faulty_wide : length l.faulty ≡ 8;
  zones : (q : ℕ) → 1 ≤ q → q < l.source → slice_index_or l.facts.zones (q - 1) 0 ≡ (kept_in l.self.ring l.panel q).released;
  manual : (q : ℕ) → 1 ≤ q → q < l.source → slice_index_or l.facts.manual (q - 1) 0 ≡ (kept_in l.self.ring l.panel q).manual;
  faulty : (q : ℕ) → 1 ≤ q → q < l.source → slice_index_or l.faulty (q - 1) false ≡ (kept_in l.self.ring l.panel q).fault;
}
