-- Whether an output of a panel that runs by itself may be on.
use Rattle.std.specs.Prelude.{◌≡◌, ◌&&◌, ℕ, Bool, false, List}
use Rattle.site_types.specs.declared.retained.Retained.{Retained}
use Rattle.site_types.specs.declared.site.Site.{Site}
use Rattle.site_types.specs.Done.{OutputOff, in_force}
use Rattle.panel_rules.specs.Moments.{tick_of}
use Rattle.panel_rules.specs.Outputs.{is_quiet, is_sounder}
use Rattle.node_rules.specs.Handed.{handed_facts}
use Rattle.node_rules.specs.Histories.{NodeMoment, befallen}
use Rattle.node_rules.specs.Nodes.{node_done, node_up, node_words}

-- the sounders of the panel are quiet: a silence holds, by the zones that were released in the words that it kept
abbrev pub is_node_quiet : Site → ℕ → Retained → List NodeMoment → Bool
is_node_quiet site panel kept history =
    is_quiet site
    (handed_facts site kept (node_done site panel history kept) panel (node_words site panel history)
    (node_up site panel history)) kept (node_done site panel history kept) panel (befallen history)

-- the output is not disabled and not a quiet sounder
pub record MayBeOn (site : Site) (panel : ℕ) (kept : Retained) (history : List NodeMoment) (output : ℕ) : Type 0 where
  pub enabled :
      in_force site kept (OutputOff output) (tick_of (befallen history)) (node_done site panel history kept) ≡ false
  pub heard : (is_sounder site output && is_node_quiet site panel kept history) ≡ false
