use Rattle.std.proofs.Common.{◌≡◌, ◌+◌, ◌*◌, List, ℕ}
use Rattle.std.specs.List.{flat_map, range_with_len}
use Rattle.tick_units.specs.Lane.{HasRoom, with_put}
use Rattle.site_types.specs.declared.site.Site.{Site as SiteOf}
use Rattle.loop_poller.specs.Asked.{asked_on}
use Rattle.loop_poller.specs.Calls.{Call, told_cable, told_point}
use Rattle.loop_poller.specs.Stands.{AsksFor}
use Rattle.loop_poller.proofs.poller.Poller.ask_lines.Given as goal

abbrev pub invariant-loop-line : goal.invariant-loop-line
invariant-loop-line l = record {
  room : (n : ℕ) → HasRoom l.fn.answers (n + 8 * l.line-index) → HasRoom l.answers n;
  put : (site : SiteOf) (panel : ℕ) (calls : List Call) → AsksFor site panel calls l.self
      → l.answers
      ≡ with_put l.fn.answers (flat_map (asked_on site panel (told_point calls) (told_cable calls) l.now.0) (range_with_len 1 l.line-index));
}
