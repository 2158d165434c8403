-- What a ring tells its panels, and the words that they keep, stay as more is done, in this tick or later.
use Rattle.std.proofs.Common.{◌≤◌, ◌++◌, ℕ, List, [], ◌∷◌, arith, refl, sym}
use Rattle.site_types.specs.declared.retained.Retained.{Retained}
use Rattle.site_types.specs.declared.site.Site.{Site}
use Rattle.site_types.specs.Done.{Done}
use Rattle.site_types.proofs.LaterDone.{AreFrom}
use Rattle.hold_calls.specs.Told.{told_in_ring}
use Rattle.later_operations.specs.Later.{AreDoneFrom}
use Rattle.later_operations.proofs.Laws.{facts, ring as ring_stays}
use Rattle.panel_links.specs.declared.ring.Ring.{Ring}
use Rattle.panel_rules.specs.Moments.{Moment, tick_of}
use Rattle.panel_rules.proofs.Turns.{tick_rises}
use Rattle.panel_parts.specs.Stands.{AgreeBefore}
use Rattle.panel_parts.proofs.Later.{past_tail}
use Rattle.panel_core.specs.Stands.{KeepsWords}

pub done_from_tick : (tick : ℕ) (ds : List Done) → AreFrom tick ds → AreDoneFrom tick ds
done_from_tick tick [] from = tt
done_from_tick tick (d ∷ ds) from = (from.0, done_from_tick tick ds from.1)

module _ (site : Site) (kept : Retained) (done new : List Done) (before : List Moment) (tick : ℕ) (from : AreDoneFrom tick new) (late : tick_of before ≤ tick) where
  -- a panel is told the same at the turns that were made
  pub ring_agrees : (panel : ℕ) → AgreeBefore before (told_in_ring site kept done panel) (told_in_ring site kept (new ++ done) panel)
  ring_agrees panel = record {
    facts = λ at moment past h.
        sym (facts site kept at tick new done past from (let rises = tick_rises past before (past_tail moment past before h) in omega (arith, rises, late)));
    stamps = λ moment past h. refl;
    up = λ moment past h. refl;
  }

  -- so do the words that panels keep
  pub words_later : (ring : Ring) → KeepsWords site kept done before ring → KeepsWords site kept (new ++ done) before ring
  words_later ring h = rw (ring_stays site kept tick new done before from late) h
