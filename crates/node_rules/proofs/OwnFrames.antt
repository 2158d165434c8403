-- What a panel sends is in the grammar where what came to it was.
use Rattle.std.proofs.Common.{◌≡◌, ◌∙◌, ◌+◌, ◌-◌, ◌*◌, ◌/◌, ◌%◌, ◌^◌, ◌≤◌, ◌<◌, ◌==◌, ◌||◌, ℕ, zero, suc, Bool, true, false, List, [], ◌∷◌, Option, Some, None}
use Rattle.std.proofs.Common.{nat_le, nat_lt, slice_get, slice_index_or, if◌then◌else◌, inl, inr, refl, sym, ap, subst, arith, lit<}
use Rattle.std.specs.List.{list_any}
use Rattle.std.proofs.lemmas.Bool.{cases_Bool, eq-eqb, eqb-true}
use Rattle.std.proofs.lemmas.Bool.Decides.{eqb_tells}
use Rattle.tick_units.specs.declared.task.Task.TheVariants.{Hold, Link}
use Rattle.site_types.specs.declared.retained.Retained.{Retained}
use Rattle.site_types.specs.declared.site.Site.{Site}
use Rattle.site_types.specs.declared.word.Word.{Word}
use Rattle.site_types.specs.Done.{Done}
use Rattle.site_types.specs.Words.{empty_word}
use Rattle.site_types.proofs.Masks.{has_bit-zero, mask_below}
use Rattle.coincidence_rules.specs.Places.{numbered, on_zone, zones_where}
use Rattle.coincidence_rules.proofs.ZoneMasks.{has_bit-zones, of_numbered}
use Rattle.panel_links.specs.declared.frame.Frame.{Frame}
use Rattle.panel_links.specs.Frames.{group_words, word_in}
use Rattle.panel_links.specs.Kept.{newest}
use Rattle.panel_links.specs.Words.{group_of}
use Rattle.panel_frames.specs.Grammar.{IsFrame, IsWord, NamesZones, is_panel_zone}
use Rattle.panel_rules.specs.Kept.{made_at}
use Rattle.panel_rules.specs.Moments.{Moment, Began, Happened, Turned, Kept, IsPanel, IsPast, IsRun, before_turn, tick_of}
use Rattle.panel_rules.specs.Words.{word_made}
use Rattle.panel_rules.proofs.KeptWords.{kept_is, latest_by}
use Rattle.panel_rules.proofs.Turns.{run_tail}
use Rattle.kept_words.specs.Arrivals.{framed_word, has_word_of, word_kept}
use Rattle.node_rules.specs.Histories.{Befell, FrameCame, NodeMoment, befallen, frames_in}
use Rattle.node_rules.specs.Nodes.{node_done, node_up, node_word, node_words}
use Rattle.node_rules.specs.Handed.{own_tells}
use Rattle.node_rules.specs.NodeLaws.{AreFramesTo, FramesStayInGrammar}
use Rattle.node_rules.proofs.OwnWords.{own_at}

-- ---- words

no_zones : (site : Site) (panel : ℕ) → NamesZones site panel 0
no_zones site panel = (lit< tt, λ bit small has. absurd (let none = has_bit-zero bit in let no_way : false ≡ true = sym none ∙ has in cc))

no_word : (site : Site) (panel : ℕ) → IsWord site panel empty_word
no_word site panel = record {
  absent = λ beyond. refl;
  unstamped = λ none. refl;
  stamp = lit< tt;
  alarm = no_zones site panel;
  manual = no_zones site panel;
  released = no_zones site panel;
  first = no_zones site panel;
}

any_there : {X : Type 0} (test : X → Bool) (xs : List X) (k : ℕ) (x : X) → slice_get xs k ≡ Some x → test x ≡ true → list_any test xs ≡ true
any_there test [] k x is passes = cc
any_there test (y ∷ xs) zero x is passes = (let same : y ≡ x = cc in rw (ap test same ∙ passes) refl)
any_there test (y ∷ xs) (suc k) x is passes = or_true (test y) (list_any test xs) (any_there test xs k x is passes)
  where
    or_true : (a b : Bool) → b ≡ true → (a || b) ≡ true
    or_true true b e = refl
    or_true false b e = e

zones_below : (site : Site) (panel : ℕ) (test : ℕ → Bool) → zones_where site panel test < 2 ^ 32
unfolding zones_where
zones_below site panel test = mask_below 32 (λ k. on_zone test (numbered site panel (k + 1)))

-- a mask of zones of a panel names zones of it
own_zones : (site : Site) (panel : ℕ) (test : ℕ → Bool) → NamesZones site panel (zones_where site panel test)
own_zones site panel test = (zones_below site panel test, λ bit small has. there bit (numbered site panel (bit + 1)) refl (sym (has_bit-zones site panel test bit small) ∙ has))
  where
    there : (bit : ℕ) (o : Option ℕ) → numbered site panel (bit + 1) ≡ o → on_zone test o ≡ true
        → list_any (is_panel_zone panel (bit + 1)) site.zones ≡ true
    there bit None is passes = absurd (let no_way : false ≡ true = passes in cc)
    there bit (Some place) is passes =
        let zone = of_numbered site panel (bit + 1) place is in
        any_there (is_panel_zone panel (bit + 1)) site.zones place zone.zone zone.is
        (rw (eq-eqb zone.zone.panel panel zone.panel_is, eq-eqb zone.zone.number (bit + 1) zone.number_is) refl)

-- a run in which something befell has begun a tick
begun : (panels : ℕ) (moment : Moment) (before : List Moment) → IsRun panels (moment ∷ before) → 1 ≤ tick_of (moment ∷ before)
begun panels Began before run = omega arith
begun panels (Happened event) [] run = absurd (let fresh = run.1 in cc)
begun panels (Happened event) (moment ∷ before) run = begun panels moment before run.0
begun panels (Turned panel task) [] run = absurd (let owed = run.1 in cc)
begun panels (Turned panel task) (moment ∷ before) run = begun panels moment before run.0
begun panels (Kept failed) [] run = absurd (let owed = run.1 in cc)
begun panels (Kept failed) (moment ∷ before) run = begun panels moment before run.0

module _ (site : Site) (kept : Retained) (done : List Done) (told : ℕ → List Moment → Bool) (panel : ℕ) (member : IsPanel site.panels panel) where
  -- a word that the panel made
  pub made_ok : (word : List Moment) → IsRun site.panels word → tick_of word < 2 ^ 64 → IsWord site panel (word_made site kept done told panel word)
  made_ok [] run few = no_word site panel
  made_ok (turn ∷ before) run few = record {
    absent = λ beyond. absurd (omega (arith, beyond, member.1));
    unstamped = λ none. absurd (let one = begun site.panels turn before run in omega (arith, one, none));
    stamp = few;
    alarm = own_zones site panel _;
    manual = own_zones site panel _;
    released = own_zones site panel _;
    first = own_zones site panel _;
  }

-- ---- words that came

newest_ok : (site : Site) (panel : ℕ) (kept word : Word) → IsWord site panel kept → IsWord site panel word → IsWord site panel (newest kept word)
newest_ok site panel kept word h g =
    elim (nat_lt kept.stamp.0 word.stamp.0) as (λ b. IsWord site panel (if b then word else kept)) [ true ↦ g | false ↦ h ]

module _ (site : Site) (panel source : ℕ) (first : 1 ≤ source) where
  framed_ok : (frame : Frame) → IsFrame site panel frame → has_word_of source frame ≡ true → IsWord site source (framed_word source frame)
  framed_ok frame h has =
      let group : (source - 1) / 4 ≡ frame.group = eqb-true ((source - 1) / 4) frame.group has in
      let at : 4 * frame.group + 1 + (source - 1) % 4 ≡ source = omega (arith, group, first) in
      subst (λ n. IsWord site n (framed_word source frame)) at (h.words ((source - 1) % 4) (omega arith))

  pub came_ok : (history : List NodeMoment) → AreFramesTo site panel history → IsWord site source (word_kept panel source (frames_in history))
  came_ok [] all = no_word site source
  came_ok (Befell moment ∷ before) all = came_ok before all
  came_ok (FrameCame frame ∷ before) all =
      elim (source == panel) as (λ b. IsWord site source (if b then word_kept panel source (frames_in before)
      else if has_word_of source frame then newest (word_kept panel source (frames_in before)) (framed_word source frame)
      else word_kept panel source (frames_in before))) [
        | true ↦ came_ok before all.1
        | false ↦ elim (cases_Bool (has_word_of source frame)) [
          | inl has ↦ rw has (newest_ok site source (word_kept panel source (frames_in before)) (framed_word source frame) (came_ok before all.1) (framed_ok frame all.0 has))
          | inr hasnt ↦ rw hasnt (came_ok before all.1)
        ]
      ]

-- ---- the frame

group_fits : (b : Bool) (tick : ℕ) → (if b then 0 else (tick + 1) % 2) ≤ (if b then 0 else 1)
group_fits true tick = omega arith
group_fits false tick = omega arith

module _ (site : Site) (kept : Retained) (panel : ℕ) (history : List NodeMoment) (member : IsPanel site.panels panel) (run : IsRun site.panels (befallen history))
    (few : tick_of (befallen history) < 2 ^ 64) (framed : AreFramesTo site panel history) where
  word_ok : (source : ℕ) → 1 ≤ source → IsWord site source (node_word site panel history kept source)
  word_ok source first =
      elim (eqb_tells source panel) [
        | inl t ↦ rw t.0 (subst (λ p. IsWord site p (word_made site kept (node_done site panel history kept)
            (λ source. own_tells site kept (node_done site panel history kept) panel (node_words site panel history) (node_up site panel history)) panel own_word)) (sym t.1) own_ok)
        | inr t ↦ rw t.0 (came_ok site panel source first history framed)
      ]
    where
      moments : List Moment
      moments = befallen history

      own_word : List Moment
      own_word = made_at panel (before_turn panel Link moments)

      past : IsPast own_word moments
      past = subst (λ word. IsPast word moments) (own_at site.panels panel moments) (kept_is site.panels panel panel moments).past

      by : tick_of own_word ≤ tick_of moments
      by =
          let same = ap tick_of (own_at site.panels panel moments) in
          let late = (kept_is site.panels panel panel moments).latest in
          let last = latest_by panel Hold moments in
          omega (arith, same, late, last)

      own_ok : IsWord site panel (word_made site kept (node_done site panel history kept)
          (λ source. own_tells site kept (node_done site panel history kept) panel (node_words site panel history) (node_up site panel history)) panel own_word)
      own_ok =
          made_ok site kept (node_done site panel history kept)
          (λ source. own_tells site kept (node_done site panel history kept) panel (node_words site panel history) (node_up site panel history))
          panel member own_word (run_tail site.panels own_word moments past run) (omega (arith, by, few))

  place_ok : (group place : ℕ) → IsWord site (4 * group + 1 + place) (word_in site.panels group (node_word site panel history kept) place)
  place_ok group place =
      let at : 4 * group + place + 1 ≡ 4 * group + 1 + place = omega arith in
      subst (λ n. IsWord site n (word_in site.panels group (node_word site panel history kept) place)) at
      (elim (nat_le (4 * group + place + 1) site.panels) as (λ b. IsWord site (4 * group + place + 1) (if b then node_word site panel history kept (4 * group + place + 1) else empty_word)) [
        | true ↦ word_ok (4 * group + place + 1) (omega arith)
        | false ↦ no_word site (4 * group + place + 1)
      ])

  each_ok : (group place : ℕ) → place < 4 → IsWord site (4 * group + 1 + place) (slice_index_or (group_words site.panels group (node_word site panel history kept)) place empty_word)
  each_ok group zero small = place_ok group 0
  each_ok group (suc zero) small = place_ok group 1
  each_ok group (suc (suc zero)) small = place_ok group 2
  each_ok group (suc (suc (suc zero))) small = place_ok group 3
  each_ok group (suc (suc (suc (suc place)))) small = absurd (omega arith)

pub own_frames : FramesStayInGrammar
own_frames site kept panel at history valid member run few framed next = record {
  neighbour = next;
  group = group_fits (nat_le site.panels 4) (tick_of (befallen history));
  four = refl;
  words = λ place small. each_ok site kept panel history member run few framed (group_of site.panels (tick_of (befallen history))) place small;
}
