-- What a turn of a panel by itself is told of the others: the facts that words tell, who is silent, which links are down.
use Rattle.std.proofs.Common.{◌≡◌, ◌∙◌, ◌+◌, ◌-◌, ◌^◌, ◌≤◌, ◌<◌, ◌==◌, ◌&&◌, not, ℕ, Bool, true, false, List, nat_le, nat_lt, if◌then◌else◌}
use Rattle.std.proofs.Common.{inl, inr, refl, sym, ap, subst, arith, lit<}
use Rattle.std.proofs.Math.Path.{fun_ext}
use Rattle.std.proofs.lemmas.Bool.Decides.{eqb_tells, leb_tells}
use Rattle.tick_units.specs.declared.task.Task.TheVariants.{Link}
use Rattle.tick_units.specs.Ticks.{last_tick}
use Rattle.site_types.specs.declared.retained.Retained.{Retained}
use Rattle.site_types.specs.declared.site.Site.{Site}
use Rattle.site_types.specs.declared.word.Word.{Word}
use Rattle.site_types.specs.Bits.{mask_of}
use Rattle.site_types.specs.Done.{Done}
use Rattle.site_types.specs.Profile.{silent_of}
use Rattle.site_types.proofs.Done.{lt_false, lt_true}
use Rattle.site_types.proofs.Masks.{mask_same}
use Rattle.kept_words.specs.Arrivals.{counts_as_down, is_silent_from, last_from, joined_by, word_kept}
use Rattle.kept_facts.specs.KeptFacts.{AreWordsOf}
use Rattle.marker_table.specs.declared.facts.Facts.{Facts as Masks}
use Rattle.node_rules.specs.Handed.{facts_of_words, own_tells}
use Rattle.node_rules.specs.Histories.{NodeMoment, befallen, frames_in}
use Rattle.node_rules.specs.NodeLaws.{AreFramesTo}
use Rattle.node_rules.specs.Nodes.{node_up, node_words}
use Rattle.node_rules.proofs.OwnFrames.{came_ok, made_ok}
use Rattle.node_rules.proofs.Parts.{part_whole}
use Rattle.panel_effects.specs.Masks.{AreMasksOf}
use Rattle.panel_frames.specs.Grammar.{IsWord}
use Rattle.panel_links.specs.Stands.{is_link_of}
use Rattle.panel_rules.specs.Faults.{links_down, silent_panels}
use Rattle.panel_rules.specs.Kept.{made_at}
use Rattle.panel_rules.specs.Moments.{Moment, IsPanel, IsRun, before_turn, tick_of}
use Rattle.panel_rules.proofs.KeptWords.{made_is}
use Rattle.panel_rules.proofs.Turns.{before_past, past_on, run_tail, tick_rises}
use Rattle.panel_node.specs.Told.{arrived, word_of_itself, told_by_frames, words_by_frames}

-- ticks are told apart by sums and by differences alike
later : (limit now stamp : ℕ) → nat_lt limit (now - stamp) ≡ nat_lt (stamp + limit) now
later limit now stamp =
    elim (leb_tells (stamp + limit + 1) now) [
      | inl t ↦ (let l = t.1 in lt_true limit (now - stamp) (omega (arith, l)) ∙ sym (lt_true (stamp + limit) now (omega (arith, l))))
      | inr t ↦ (let l = t.1 in lt_false limit (now - stamp) (omega (arith, l)) ∙ sym (lt_false (stamp + limit) now (omega (arith, l))))
    ]

module _ (site : Site) (kept : Retained) (done : List Done) (panel : ℕ) (history : List NodeMoment) where
  abbrev before : List Moment
  before = befallen history

  -- the words that are kept are those that a turn made now goes by
  word_arrived : (source : ℕ) → word_kept panel source (arrived site kept done panel history) ≡ words_by_frames site kept done panel history before source
  word_arrived source =
      ap (λ part. if source == panel then word_of_itself site kept done panel history before else word_kept panel source (frames_in part)) (sym (part_whole history))

  -- ---- Effect

  own_past : (site_run : IsRun site.panels before) → IsRun site.panels (made_at panel (before_turn panel Link before))
  own_past run =
      run_tail site.panels (made_at panel (before_turn panel Link before)) before
      (past_on (made_at panel (before_turn panel Link before)) (before_turn panel Link before) before (made_is panel (before_turn panel Link before)).past
      (before_past panel Link before)) run

  own_early : tick_of (made_at panel (before_turn panel Link before)) ≤ tick_of before
  own_early =
      tick_rises (made_at panel (before_turn panel Link before)) before
      (past_on (made_at panel (before_turn panel Link before)) (before_turn panel Link before) before (made_is panel (before_turn panel Link before)).past
      (before_past panel Link before))

  pub words_framed : IsPanel site.panels panel → IsRun site.panels before → tick_of before ≤ last_tick → AreFramesTo site panel history
      → AreWordsOf site panel (arrived site kept done panel history)
  words_framed member run few framed source p =
      elim (eqb_tells source panel) [
        | inl t ↦ rw t.0 (subst (λ q. IsWord site q (word_of_itself site kept done panel history before)) (sym t.1) own_ok)
        | inr t ↦ rw t.0 (came_ok site panel source p.0 history framed)
      ]
    where
      small : last_tick < 2 ^ 64
      small = lit< tt

      own_ok : IsWord site panel (word_of_itself site kept done panel history before)
      own_ok =
          made_ok site kept done (λ source. own_tells site kept done panel (node_words site panel history) (node_up site panel history)) panel member
          (made_at panel (before_turn panel Link before)) (own_past run) (let early = own_early in let few' = small in omega (arith, early, few, few'))

  pub facts_told : (masks : Masks) → AreMasksOf site (facts_of_words site (λ source. word_kept panel source (arrived site kept done panel history))) masks
      → AreMasksOf site ((told_by_frames site kept done panel history).facts panel before) masks
  facts_told masks are = subst (λ (words : ℕ → Word). AreMasksOf site (facts_of_words site words) masks) (fun_ext word_arrived) are

  -- ---- Hold

  silent_at : (k : ℕ) → is_silent_from site.panels panel (arrived site kept done panel history) (tick_of before) (silent_of site.format) (k + 1)
      ≡ (nat_lt k site.panels && nat_lt ((words_by_frames site kept done panel history before (k + 1)).stamp.0 + silent_of site.format) (tick_of before))
  silent_at k =
      ap (λ (w : Word). nat_le (k + 1) site.panels && nat_lt (silent_of site.format) (tick_of before - w.stamp.0)) (word_arrived (k + 1))
      ∙ ap (λ b. nat_le (k + 1) site.panels && b) (later (silent_of site.format) (tick_of before) (words_by_frames site kept done panel history before (k + 1)).stamp.0)
      ∙ ap (λ b. b && nat_lt ((words_by_frames site kept done panel history before (k + 1)).stamp.0 + silent_of site.format) (tick_of before)) within
    where
      within : nat_le (k + 1) site.panels ≡ nat_lt k site.panels
      within = elim (leb_tells (k + 1) site.panels) [
        | inl t ↦ (let l = t.1 in t.0 ∙ sym (lt_true k site.panels (omega (arith, l))))
        | inr t ↦ (let l = t.1 in t.0 ∙ sym (lt_false k site.panels (omega (arith, l))))
      ]

  pub silent_told : (silent now limit : ℕ) → now ≡ tick_of before → limit ≡ silent_of site.format
      → silent ≡ mask_of 8 (λ k. is_silent_from site.panels panel (arrived site kept done panel history) now limit (k + 1))
      → silent ≡ silent_panels site ((told_by_frames site kept done panel history).stamps before) (tick_of before)
  silent_told silent now limit tick is told =
      told
      ∙ ap (λ t. mask_of 8 (λ k. is_silent_from site.panels panel (arrived site kept done panel history) t limit (k + 1))) tick
      ∙ ap (λ l. mask_of 8 (λ k. is_silent_from site.panels panel (arrived site kept done panel history) (tick_of before) l (k + 1))) is
      ∙ mask_same 8 _ _ (λ k small. silent_at k)

  down_at : (k : ℕ) → counts_as_down site.panels panel (arrived site kept done panel history) (tick_of before) (silent_of site.format) (k + 1)
      ≡ (is_link_of site.panels panel (k + 1) && not (node_up site panel history before (k + 1)))
  down_at k =
      ap (λ part. is_link_of site.panels panel (k + 1)
      && nat_lt (silent_of site.format) (tick_of before - last_from (joined_by site.panels panel (k + 1)) (frames_in part))) (sym (part_whole history))
      ∙ twice (is_link_of site.panels panel (k + 1)) _
    where
      twice : (a b : Bool) → (a && b) ≡ (a && not (not (a && b)))
      twice true true = refl
      twice true false = refl
      twice false b = refl

  pub links_told : (links now limit : ℕ) → now ≡ tick_of before → limit ≡ silent_of site.format
      → links ≡ mask_of 8 (λ k. counts_as_down site.panels panel (arrived site kept done panel history) now limit (k + 1))
      → links ≡ links_down site panel ((told_by_frames site kept done panel history).up before)
  links_told links now limit tick is told =
      told
      ∙ ap (λ t. mask_of 8 (λ k. counts_as_down site.panels panel (arrived site kept done panel history) t limit (k + 1))) tick
      ∙ ap (λ l. mask_of 8 (λ k. counts_as_down site.panels panel (arrived site kept done panel history) (tick_of before) l (k + 1))) is
      ∙ mask_same 8 _ _ (λ k small. down_at k)
