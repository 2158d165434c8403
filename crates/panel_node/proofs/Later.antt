-- What is done in a tick or later changes nothing of what the turns up to it were told, nor of the word that the panel keeps of itself.
use Rattle.std.proofs.Common.{◌≡◌, ◌≤◌, ◌==◌, ◌++◌, ℕ, List, [], ◌∷◌, if◌then◌else◌, refl, sym, ap, arith}
use Rattle.std.proofs.Math.Path.{fun_ext}
use Rattle.tick_units.specs.declared.task.Task.TheVariants.{Link}
use Rattle.site_types.specs.declared.retained.Retained.{Retained}
use Rattle.site_types.specs.declared.site.Site.{Site}
use Rattle.site_types.specs.declared.word.Word.{Word}
use Rattle.site_types.specs.Done.{Done}
use Rattle.site_types.proofs.LaterDone.{AreFrom}
use Rattle.later_operations.specs.Later.{AreDoneFrom}
use Rattle.node_rules.specs.Histories.{NodeMoment}
use Rattle.node_rules.specs.Nodes.{node_up, node_words}
use Rattle.node_rules.proofs.LaterHanded.{handed_stays}
use Rattle.panel_parts.specs.Stands.{AgreeBefore}
use Rattle.panel_parts.proofs.Later.{past_tail}
use Rattle.panel_rules.specs.Moments.{Moment, IsPast, before_turn, tick_of}
use Rattle.panel_rules.proofs.Turns.{before_past, tick_rises}
use Rattle.panel_node.specs.Told.{word_of_itself, told_by_frames, words_by_frames}

pub done_from_tick : (tick : ℕ) (ds : List Done) → AreFrom tick ds → AreDoneFrom tick ds
done_from_tick tick [] from = tt
done_from_tick tick (d ∷ ds) from = (from.0, done_from_tick tick ds from.1)

module _ (site : Site) (kept : Retained) (panel : ℕ) (history : List NodeMoment) (new old : List Done) (tick : ℕ) (from : AreDoneFrom tick new) where
  pub own_later : (b : List Moment) → tick_of b ≤ tick → word_of_itself site kept (new ++ old) panel history b ≡ word_of_itself site kept old panel history b
  own_later b by =
      (handed_stays site kept panel (node_words site panel history) (node_up site panel history)).word tick new old (before_turn panel Link b) from
      (let rises = tick_rises (before_turn panel Link b) b (before_past panel Link b) in omega (arith, rises, by))

  words_later : (b : List Moment) → tick_of b ≤ tick → words_by_frames site kept (new ++ old) panel history b ≡ words_by_frames site kept old panel history b
  words_later b by = fun_ext (λ source. ap (λ own. if source == panel then own else node_words site panel history b source) (own_later b by))

  -- the turns that were made are told the same
  pub agree_later : (before : List Moment) → tick_of before ≤ tick
      → AgreeBefore before (told_by_frames site kept old panel history) (told_by_frames site kept (new ++ old) panel history)
  agree_later before by = record {
    facts = λ q moment past p.
        sym ((handed_stays site kept panel (node_words site panel history) (node_up site panel history)).facts q tick new old past from (early moment past p));
    stamps = λ moment past p. sym (ap (λ (w : ℕ → Word). λ source. (w source).stamp.0) (words_later past (early moment past p)));
    up = λ moment past p. refl;
  }
    where
      early : (moment : Moment) (past : List Moment) → IsPast (moment ∷ past) before → tick_of past ≤ tick
      early moment past p = let rises = tick_rises past before (past_tail moment past before p) in omega (arith, rises, by)
