-- What a turn of Hold leaves of what panels show.
use Rattle.std.proofs.Common.{◌≡◌, ◌≢◌, ℕ, zero, suc, ◌-◌, ◌≤◌, ◌<◌, ◌==◌, ◌&&◌, List, [], ◌∷◌, length}
use Rattle.std.proofs.Common.{slice_index_or, slice_set, inl, inr, Bool, true, false, if◌then◌else◌, refl, sym, ◌∙◌}
use Rattle.std.proofs.Common.{ap, subst, arith}
use Rattle.std.specs.Prelude.{nat_lt, replicate}
use Rattle.std.proofs.lemmas.Bool.Decides.{eqb_tells}
use Rattle.std.proofs.lemmas.Grind.{get_or-set_at}
use Rattle.std.proofs.lemmas.List.{get_or-replicate, get_or-set_other}
use Rattle.tick_units.specs.declared.task.Task.TheVariants.{Hold}
use Rattle.tick_units.specs.declared.tick.Tick.{Tick}
use Rattle.site_types.specs.declared.fault_set.FaultSet.{FaultSet}
use Rattle.site_types.specs.declared.retained.Retained.{Retained}
use Rattle.site_types.specs.declared.site.Site.{Site}
use Rattle.site_types.specs.declared.word.Word.{Word}
use Rattle.site_types.specs.Done.{Done}
use Rattle.panel_conditions.specs.Shown.{is_news, sounds}
use Rattle.panel_rules.specs.Moments.{Moment, Turned, tick_of, IsPanel}
use Rattle.panel_rules.specs.Kept.{made_at}
use Rattle.panel_rules.specs.Words.{latest_word, word_made}
use Rattle.panel_rules.specs.Run.{faults_of, faults_with, tells_fault}
use Rattle.panel_rules.specs.Faces.{last_news, shows_news}
use Rattle.panel_rules.proofs.AnswersTell.{eq_true}
use Rattle.plain_panel.specs.declared.indications.Indications.{Indications}
use Rattle.plain_panel.specs.Network.{no_indications, indications_then}

-- what a panel shows in a list of all
abbrev pub own_at : List Indications → ℕ → Indications
own_at own panel = slice_index_or own (panel - 1) no_indications

-- what is shown of each panel is that of a history
pub record AreShown (site : Site) (kept : Retained) (done : List Done) (before : List Moment) (own : List Indications) : Type 0 where
  pub words : (panel : ℕ) → IsPanel site.panels panel → (own_at own panel).word ≡ latest_word site kept done (tells_fault site kept done) panel before
  pub faults : (panel : ℕ) → IsPanel site.panels panel → (own_at own panel).faults ≡ faults_of site kept done panel before
  pub news : (panel : ℕ) → IsPanel site.panels panel → (own_at own panel).news.0 ≡ last_news site kept done panel before

module _ (site : Site) (kept : Retained) (done : List Done) (before : List Moment) (own : List Indications) (shown : AreShown site kept done before own)
    (wide : length own ≡ 8) (few : site.panels ≤ 8) (panel : ℕ) (p : IsPanel site.panels panel)
    (now : Tick) (word : Word) (faults : FaultSet) (tick_is : now.0 ≡ tick_of before)
    (faults_is : faults ≡ faults_with site kept done (tells_fault site kept done) panel (Turned panel Hold ∷ before))
    (word_is : word ≡ word_made site kept done (tells_fault site kept done) panel (Turned panel Hold ∷ before)) where
  same : (panel == panel) ≡ true
  same = eq_true panel panel refl

  abbrev own_now : Indications
  own_now = indications_then (own_at own panel) now word faults

  abbrev all_now : List Indications
  all_now = slice_set own (panel - 1) own_now

  here : own_at all_now panel ≡ own_now
  here = get_or-set_at own (panel - 1) (panel - 1) own_now no_indications refl (omega (arith, wide, few, p.0, p.1))

  other_is : (q : ℕ) → IsPanel site.panels q → panel ≢ q → own_at all_now q ≡ own_at own q
  other_is q iq apart = get_or-set_other own (panel - 1) (q - 1) own_now no_indications (λ e. apart (omega (arith, e, p.0, iq.0)))

  word_here : word ≡ latest_word site kept done (tells_fault site kept done) panel (Turned panel Hold ∷ before)
  word_here =
      word_is ∙ sym
      (ap (λ b. word_made site kept done (tells_fault site kept done) panel (if b then Turned panel Hold ∷ before else made_at panel before)) same)

  faults_here : faults ≡ faults_of site kept done panel (Turned panel Hold ∷ before)
  faults_here =
      faults_is ∙ sym
      (ap (λ b. faults_with site kept done (tells_fault site kept done) panel (if b then Turned panel Hold ∷ before else made_at panel before)) same)

  is_new : is_news word faults (own_at own panel).word (own_at own panel).faults ≡ ((panel == panel) && shows_news site kept done panel before)
  is_new =
      ap (λ w. is_news w faults (own_at own panel).word (own_at own panel).faults) word_here
      ∙ ap (λ f. is_news (latest_word site kept done (tells_fault site kept done) panel (Turned panel Hold ∷ before)) f (own_at own panel).word
      (own_at own panel).faults) faults_here
      ∙ ap (λ w. is_news (latest_word site kept done (tells_fault site kept done) panel (Turned panel Hold ∷ before))
      (faults_of site kept done panel (Turned panel Hold ∷ before)) w (own_at own panel).faults) (shown.words panel p)
      ∙ ap (λ f. is_news (latest_word site kept done (tells_fault site kept done) panel (Turned panel Hold ∷ before))
      (faults_of site kept done panel (Turned panel Hold ∷ before)) (latest_word site kept done (tells_fault site kept done) panel before) f)
      (shown.faults panel p)
      ∙ sym (ap (λ b. b && shows_news site kept done panel before) same)

  news_here : own_now.news.0 ≡ last_news site kept done panel (Turned panel Hold ∷ before)
  news_here =
      ap (λ b. (if b then now else (own_at own panel).news).0) is_new
      ∙ either ((panel == panel) && shows_news site kept done panel before)
    where
      either : (b : Bool) → (if b then now else (own_at own panel).news).0 ≡ (if b then tick_of before else last_news site kept done panel before)
      either true = tick_is
      either false = shown.news panel p

  pub shown_now : AreShown site kept done (Turned panel Hold ∷ before) (slice_set own (panel - 1) (indications_then (own_at own panel) now word faults))
  shown_now = record {
    words = λ q iq.
        elim (eqb_tells panel q) [
          | inl e ↦ subst (λ k. (own_at all_now k).word ≡ latest_word site kept done (tells_fault site kept done) k (Turned panel Hold ∷ before)) e.1
              (ap (λ (o : Indications). o.word) here ∙ word_here)
          | inr e ↦
              ap (λ (o : Indications). o.word) (other_is q iq e.1) ∙ shown.words q iq
              ∙ sym (ap (λ b. word_made site kept done (tells_fault site kept done) q (if b then Turned panel Hold ∷ before else made_at q before))
              e.0)
        ];
    faults = λ q iq.
        elim (eqb_tells panel q) [
          | inl e ↦ subst (λ k. (own_at all_now k).faults ≡ faults_of site kept done k (Turned panel Hold ∷ before)) e.1
              (ap (λ (o : Indications). o.faults) here ∙ faults_here)
          | inr e ↦
              ap (λ (o : Indications). o.faults) (other_is q iq e.1) ∙ shown.faults q iq
              ∙ sym (ap (λ b. faults_with site kept done (tells_fault site kept done) q (if b then Turned panel Hold ∷ before else made_at q before))
              e.0)
        ];
    news = λ q iq.
        elim (eqb_tells panel q) [
          | inl e ↦ subst (λ k. (own_at all_now k).news.0 ≡ last_news site kept done k (Turned panel Hold ∷ before)) e.1
              (ap (λ (o : Indications). o.news.0) here ∙ news_here)
          | inr e ↦
              ap (λ (o : Indications). o.news.0) (other_is q iq e.1) ∙ shown.news q iq
              ∙ sym (ap (λ b. if b && shows_news site kept done q before then tick_of before else last_news site kept done q before) e.0)
        ];
  }

-- what sounds goes by the word and two ticks
pub sounds_same : (w v : Word) (a b c d : ℕ) → w ≡ v → a ≡ b → c ≡ d → sounds w (nat_lt a c) ≡ sounds v (nat_lt b d)
sounds_same w v a b c d e f g = ap (λ x. sounds x (nat_lt a c)) e ∙ ap (λ x. sounds v (nat_lt x c)) f ∙ ap (λ x. sounds v (nat_lt b x)) g

-- within a list what is read doesn't go by what would be read past it
read_same : (own : List Indications) (k : ℕ) (d e : Indications) → k < length own → slice_index_or own k d ≡ slice_index_or own k e
read_same [] k d e l = absurd (omega (arith, l))
read_same (o ∷ own) zero d e l = refl
read_same (o ∷ own) (suc k) d e l = read_same own k d e (omega (arith, l))

pub own_read : (own : List Indications) (panel : ℕ) (d : Indications) → length own ≡ 8 → 1 ≤ panel → panel ≤ 8 → slice_index_or own (panel - 1) d ≡ own_at own panel
own_read own panel d wide one few = read_same own (panel - 1) d no_indications (omega (arith, wide, one, few))

-- at first nothing is shown
pub none_shown : (own : Indications) (panel : ℕ) → own ≡ no_indications → 1 ≤ panel → panel ≤ 8 → own_at (replicate 8 own) panel ≡ no_indications
none_shown own panel e one few = get_or-replicate 8 (panel - 1) own no_indications (omega (arith, one, few)) ∙ e
