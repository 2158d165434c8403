-- An output that is due to be on for the zones of its own panel is on.
use Rattle.std.proofs.Common.{◌≡◌, ◌∙◌, ◌≤◌, ◌<◌, ◌&&◌, ◌⊎◌, ℕ, Bool, true, false, List, length, inl, inr, refl, sym, ap, subst, arith, if◌then◌else◌}
use Rattle.std.proofs.lemmas.Bool.Decides.{eqb_tells, leb_tells}
use Rattle.tick_units.specs.declared.task.Task.TheVariants.{Link}
use Rattle.site_types.specs.declared.retained.Retained.{Retained}
use Rattle.site_types.specs.declared.site.Site.{Site}
use Rattle.site_types.specs.declared.word.Word.{Word}
use Rattle.site_types.specs.Done.{Done, OutputOff, in_force}
use Rattle.site_types.specs.Valid.{IsValid}
use Rattle.site_types.proofs.ValidSites.{output_at}
use Rattle.panel_rules.specs.CausedOutputs.{before_effect}
use Rattle.panel_rules.specs.Due.{IsDueByHand, IsDueOut}
use Rattle.panel_rules.specs.DueOutputs.{AreDue, AreDueByHand, IsDueAsked, IsDueAskedByHand, IsDueThrough}
use Rattle.panel_rules.specs.Kept.{kept_at, made_at}
use Rattle.panel_rules.specs.Markers.{Facts, hand_facts}
use Rattle.panel_rules.specs.Moments.{Moment, IsPanel, IsRun, HaveAllTurned, before_turn, tick_of, up_to}
use Rattle.panel_rules.specs.Outputs.{is_on, is_quiet, is_sounder, panel_of_output, panel_of_plan}
use Rattle.panel_rules.specs.Words.{word_made}
use Rattle.panel_rules.specs.Zones.{holds_by_hand, holds_released}
use Rattle.panel_rules.proofs.AnswersTell.{eq_true}
use Rattle.panel_rules.proofs.KeptWords.{made_is}
use Rattle.panel_rules.proofs.Stays.{up_to_here}
use Rattle.panel_laws.proofs.DriveTurns.{HasEnded, ended_at}
use Rattle.panel_laws.proofs.DueOn.{hand_due, late_enough, zone_panel}
use Rattle.panel_laws.proofs.EffectWords.{hand_in_facts, out_in_facts}
use Rattle.panel_laws.proofs.FacesShow.{output_bit}
use Rattle.panel_laws.proofs.Monotony.{Grow, output_grows}
use Rattle.node_rules.specs.Handed.{handed_facts, own_tells, words_held}
use Rattle.node_rules.specs.Histories.{befallen}
use Rattle.node_rules.specs.Nodes.{node_done, node_up, node_words}
use Rattle.node_rules.proofs.OwnWords.{own_at}
use Rattle.node_laws.specs.DueOutputs.{AreOthersQuiet, DueAtNodeIsOn, IsDueAtNode}
use Rattle.node_laws.proofs.AnyFacts.{IsAsked, IsAskedByHand, IsFree, asked, asked_by_hand, on_by_hand, on_through}
use Rattle.node_laws.proofs.OwnFacts.{by_hand_in, released_in}
use Rattle.node_laws.proofs.QuietOthers.{others_up_to, own_hand, own_out}

-- a run up to the end of a tick
pub ended_by : (panels t : ℕ) (m : List Moment) → IsRun panels m → HaveAllTurned panels m → t ≤ tick_of m → HasEnded panels t (up_to t m)
ended_by panels t m run ended l =
    elim (eqb_tells t (tick_of m)) [
      | inl h ↦ (let e = h.1 in let here : up_to t m ≡ m = ap (λ x. up_to x m) e ∙ up_to_here m in
          subst (HasEnded panels t) (sym here) (record { run = run; ended = ended; tick = sym e }))
      | inr h ↦ ended_at panels t m run (strictly t (tick_of m) l h.1)
    ]
  where
    strictly : (a b : ℕ) → a ≤ b → (a ≡ b → ⊥) → a < b
    strictly a b l apart = elim (leb_tells b a) [ inl h ↦ (let k = h.1 in absurd (apart (omega (arith, k, l)))) | inr h ↦ h.1 ]

module _ (site : Site) (kept : Retained) (done : List Done) (output : ℕ) (handed : List Moment → ℕ → Word) (up : List Moment → ℕ → Bool)
    (valid : IsValid site) (p : IsPanel site.panels (panel_of_output site output)) where
  abbrev panel : ℕ
  panel = panel_of_output site output

  abbrev facts : ℕ → List Moment → Facts
  facts = handed_facts site kept done (panel_of_output site output) handed up

  module _ (m : List Moment) (run : IsRun site.panels m) (ended : HaveAllTurned site.panels m) (quiet : AreOthersQuiet site panel m) where
    abbrev effect : List Moment
    effect = before_effect site kept done m (panel_of_output site output)

    abbrev word : List Moment
    word = made_at panel (before_turn panel Link effect)

    abbrev held : ℕ → Word
    held = words_held site kept done panel handed up (own_tells site kept done panel handed up) effect

    own_word : held panel ≡ word_made site kept done (λ source. own_tells site kept done panel handed up) panel word
    own_word =
        ap (λ b. if b then word_made site kept done (λ source. own_tells site kept done panel handed up) panel word else handed effect panel)
        (eq_true panel panel refl)

    released_held : (zone : ℕ) → zone < length site.zones → IsDueOut site kept done m zone panel → (facts panel effect).released zone ≡ true
    released_held zone within due =
        let of = own_out site valid kept done m panel quiet zone panel due in
        released_in site kept done (λ source. own_tells site kept done panel handed up) valid panel held word
        (made_is panel (before_turn panel Link effect)).made own_word zone within of
        (ap (λ w. holds_released site kept done panel w zone) (sym (own_at site.panels panel effect))
        ∙ subst (λ q. holds_released site kept done q (kept_at site.panels panel q effect) zone ≡ true) of
        (out_in_facts site kept done m valid run ended panel p zone (zone_panel site valid zone within) due))

    by_hand_held : (zone : ℕ) → zone < length site.zones → IsDueByHand site kept done m zone panel → (facts panel effect).by_hand zone ≡ true
    by_hand_held zone within due =
        let of = own_hand site valid kept done m panel quiet zone panel due in
        by_hand_in site kept done (λ source. own_tells site kept done panel handed up) valid panel held word
        (made_is panel (before_turn panel Link effect)).made own_word zone within of
        (ap (λ w. holds_by_hand site kept done panel w zone) (sym (own_at site.panels panel effect))
        ∙ subst (λ q. holds_by_hand site kept done q (kept_at site.panels panel q effect) zone ≡ true) of
        (hand_in_facts site kept done m valid run ended panel p zone (zone_panel site valid zone within) due))

    -- what is due is among the facts of the turn of Effect
    due_grows : (given : Facts) → AreDue site kept done m panel given → Grow site given (facts panel effect)
    due_grows given due = record {
      released = λ zone l t. released_held zone l (due.released zone t);
      by_hand = λ zone l t. by_hand_held zone l (due.by_hand zone t);
      faulty = λ source within t. absurd (let e = due.faults source in let x = sym e ∙ t in cc);
    }

    hand_grows : (given : Facts) → AreDueByHand site kept done m panel given → Grow site given (hand_facts (facts panel effect))
    hand_grows given due = record {
      released = λ zone l t. by_hand_held zone l (due.released zone t);
      by_hand = λ zone l t. by_hand_held zone l (due.by_hand zone t);
      faulty = λ source within t. absurd (let e = due.faults source in let x = sym e ∙ t in cc);
    }

    due_asked : IsDueAsked site kept done m output → IsAsked site kept done facts output valid p m
    due_asked h =
        asked site kept done facts output valid p m run ended (let l = late_enough site kept done output valid p m h in omega (arith, l))
        (output_grows site valid h.facts (facts panel effect) (due_grows h.facts h.due) output h.asks)

    due_by_hand : IsDueAskedByHand site kept done m output → IsAskedByHand site kept done facts output valid p m
    due_by_hand h =
        asked_by_hand site kept done facts output valid p m run ended
        (let l = late_enough site kept done output valid p m (hand_due site kept done output valid p m h) in omega (arith, l))
        (output_grows site valid h.facts (hand_facts (facts panel effect)) (hand_grows h.facts h.due) output h.asks)

  module _ (m : List Moment) (run : IsRun site.panels m) (ended : HaveAllTurned site.panels m) (quiet : AreOthersQuiet site panel m)
      (one : 1 ≤ tick_of m) (free : IsFree site kept done facts output valid p m run ended one) where
    by_hand_on : IsDueAskedByHand site kept done m output → is_on site facts kept done output m ≡ true
    by_hand_on h =
        on_by_hand site kept done facts output valid p m run ended one free
        (due_asked m run ended quiet (hand_due site kept done output valid p m h)) (due_by_hand m run ended quiet h)

    through_on : IsDueThrough site kept done m output → is_on site facts kept done output m ≡ true
    through_on h =
        on_through site kept done facts output valid p m run ended one free h.begins (λ t c d.
        (let past = ended_by site.panels t m run ended d in
        due_asked (up_to t m) past.run past.ended (others_up_to site panel t m quiet) (h.each t c d)))

  pub due_is_on : (m : List Moment) → IsRun site.panels m → HaveAllTurned site.panels m → AreOthersQuiet site panel m
      → in_force site kept (OutputOff output) (tick_of m) done ≡ false
      → (is_sounder site output && is_quiet site facts kept done panel m) ≡ false
      → IsDueAskedByHand site kept done m output ⊎ IsDueThrough site kept done m output
      → is_on site facts kept done output m ≡ true
  due_is_on m run ended quiet enabled heard asked =
      elim asked [
        | inl h ↦ (let l = late_enough site kept done output valid p m (hand_due site kept done output valid p m h) in
            by_hand_on m run ended quiet (omega (arith, l)) (record { enabled = enabled; heard = heard }) h)
        | inr h ↦ (let l = h.begins in through_on m run ended quiet (omega (arith, l)) (record { enabled = enabled; heard = heard }) h)
      ]

pub due_on : DueAtNodeIsOn
due_on site kept history output plan after quiet is due =
    output_bit site after.valid output plan is
    (λ o. is_on site (handed_facts site kept (node_done site plan.panel history kept) plan.panel (node_words site plan.panel history)
    (node_up site plan.panel history)) kept (node_done site plan.panel history kept) o (befallen history))
    ∙ subst (λ q. AreOthersQuiet site q (befallen history) → IsDueAtNode site q kept history output
    → is_on site (handed_facts site kept (node_done site q history kept) q (node_words site q history) (node_up site q history)) kept
    (node_done site q history kept) output (befallen history) ≡ true) (ap panel_of_plan is) own quiet due
  where
    own : AreOthersQuiet site (panel_of_output site output) (befallen history) → IsDueAtNode site (panel_of_output site output) kept history output
        → is_on site
        (handed_facts site kept (node_done site (panel_of_output site output) history kept) (panel_of_output site output)
        (node_words site (panel_of_output site output) history) (node_up site (panel_of_output site output) history)) kept
        (node_done site (panel_of_output site output) history kept) output (befallen history) ≡ true
    own quiet due =
        due_is_on site kept (node_done site (panel_of_output site output) history kept) output (node_words site (panel_of_output site output) history)
        (node_up site (panel_of_output site output) history) after.valid
        (subst (λ o. IsPanel site.panels (panel_of_plan o)) (sym is) (output_at site after.valid output plan is).panel) (befallen history) after.run
        after.ended quiet due.free.enabled due.free.heard due.asked
