-- A history one moment or one frame later: what turns before were told stays.
use Rattle.std.proofs.Common.{◌≡◌, ◌≤◌, ◌<◌, ℕ, not, List, ◌∷◌, length, nat_le, inl, inr, refl, sym, ap, arith}
use Rattle.std.proofs.lemmas.Bool.{cases_Bool, leb-true}
use Rattle.site_types.specs.declared.retained.Retained.{Retained}
use Rattle.site_types.specs.declared.site.Site.{Site}
use Rattle.site_types.specs.declared.word.Word.{Word}
use Rattle.site_types.specs.Done.{Done}
use Rattle.site_types.specs.Profile.{silent_of}
use Rattle.kept_words.specs.Arrivals.{counts_as_down, word_kept}
use Rattle.node_rules.specs.Handed.{facts_of_words, own_tells}
use Rattle.node_rules.specs.Histories.{Befell, FrameCame, NodeMoment, befallen, frames_in, part_until}
use Rattle.node_rules.specs.Nodes.{node_up, node_words}
use Rattle.panel_links.specs.declared.frame.Frame.{Frame}
use Rattle.panel_rules.specs.Moments.{Moment, IsPast, tick_of}
use Rattle.panel_rules.specs.Words.{word_made}
use Rattle.panel_rules.proofs.FaultsTold.{past_short}
use Rattle.panel_parts.specs.Stands.{AgreeBefore}
use Rattle.panel_node.specs.Told.{word_of_itself, told_by_frames, words_by_frames}
use Rattle.panel_node.proofs.WhatCame.{IsBelow, own_came, word_came, words_came}

-- one more is cut off
pub cut_one : (moment : NodeMoment) (history : List NodeMoment) (count : ℕ) → count < length (befallen (moment ∷ history))
    → part_until count (moment ∷ history) ≡ part_until count history
cut_one moment history count more =
    elim (cases_Bool (nat_le (length (befallen (moment ∷ history))) count)) [
      | inl is ↦ absurd (let l = leb-true (length (befallen (moment ∷ history))) count is in omega (arith, l, more))
      | inr isnt ↦ rw isnt refl
    ]

module _ (site : Site) (panel : ℕ) (history other : List NodeMoment) (count : ℕ)
    (cut : (few : ℕ) → few < count → part_until few history ≡ part_until few other) where
  words_cut : (b : List Moment) → IsBelow count b → node_words site panel history b ≡ node_words site panel other b
  words_cut b below = ap (λ part. λ source. word_kept panel source (frames_in part)) (cut (length b) below)

  links_cut : (b : List Moment) → IsBelow count b → node_up site panel history b ≡ node_up site panel other b
  links_cut b below =
      ap (λ part. λ link. not (counts_as_down site.panels panel (frames_in part) (tick_of b) (silent_of site.format) link)) (cut (length b) below)

  module _ (kept : Retained) (done : List Done) where
    told_cut : (b : List Moment) → IsBelow count b → words_by_frames site kept done panel history b ≡ words_by_frames site kept done panel other b
    told_cut b below =
        words_came site kept done panel (node_words site panel history) (node_words site panel other) (node_up site panel history) (node_up site panel other)
        count words_cut links_cut b below

    -- what is told to the turns that were made is the same
    pub agree_cut : (before : List Moment) → length before ≤ count
        → AgreeBefore before (told_by_frames site kept done panel history) (told_by_frames site kept done panel other)
    agree_cut before few = record {
      facts = λ q moment past p. ap (facts_of_words site) (told_cut past (earlier moment past p));
      stamps = λ moment past p. ap (λ (w : ℕ → Word). λ source. (w source).stamp.0) (told_cut past (earlier moment past p));
      up = λ moment past p. links_cut past (earlier moment past p);
    }
      where
        earlier : (moment : Moment) (past : List Moment) → IsPast (moment ∷ past) before → IsBelow count past
        earlier moment past p = let short = past_short (moment ∷ past) before p in omega (arith, short, few)

    -- so is the word that it keeps of itself
    pub own_cut : (before : List Moment) → length before ≤ count → word_of_itself site kept done panel history before ≡ word_of_itself site kept done panel other before
    own_cut before few =
        own_came site kept done panel (node_words site panel history) (node_words site panel other) (node_up site panel history) (node_up site panel other)
        count words_cut links_cut before few

    -- and a word that it made
    pub word_cut : (word : List Moment) → length word ≤ count
        → word_made site kept done (λ source. own_tells site kept done panel (node_words site panel history) (node_up site panel history)) panel word
        ≡ word_made site kept done (λ source. own_tells site kept done panel (node_words site panel other) (node_up site panel other)) panel word
    word_cut word few =
        word_came site kept done panel (node_words site panel history) (node_words site panel other) (node_up site panel history) (node_up site panel other)
        count words_cut links_cut word few

-- ---- one moment more

module _ (site : Site) (kept : Retained) (done : List Done) (panel : ℕ) (moment : Moment) (history : List NodeMoment) where
  cut_moment : (few : ℕ) → few < length (befallen (Befell moment ∷ history)) → part_until few history ≡ part_until few (Befell moment ∷ history)
  cut_moment few less = sym (cut_one (Befell moment) history few less)

  pub agree_moment : AgreeBefore (moment ∷ befallen history) (told_by_frames site kept done panel history) (told_by_frames site kept done panel (Befell moment
      ∷ history))
  agree_moment =
      agree_cut site panel history (Befell moment ∷ history) (length (befallen (Befell moment ∷ history))) cut_moment kept done (moment ∷ befallen history)
      (omega arith)

  pub own_moment : word_of_itself site kept done panel history (befallen history) ≡ word_of_itself site kept done panel (Befell moment ∷ history) (befallen history)
  own_moment =
      own_cut site panel history (Befell moment ∷ history) (length (befallen (Befell moment ∷ history))) cut_moment kept done (befallen history) (omega arith)

  pub word_moment : (word : List Moment) → length word ≤ length (befallen history)
      → word_made site kept done (λ source. own_tells site kept done panel (node_words site panel history) (node_up site panel history)) panel word
      ≡ word_made site kept done (λ source. own_tells site kept done panel (node_words site panel (Befell moment ∷ history)) (node_up site panel (Befell moment
      ∷ history))) panel word
  word_moment word few =
      word_cut site panel history (Befell moment ∷ history) (length (befallen (Befell moment ∷ history))) cut_moment kept done word (omega (arith, few))

-- ---- one frame more

module _ (site : Site) (kept : Retained) (done : List Done) (panel : ℕ) (frame : Frame) (history : List NodeMoment) where
  cut_frame : (few : ℕ) → few < length (befallen history) → part_until few history ≡ part_until few (FrameCame frame ∷ history)
  cut_frame few less = sym (cut_one (FrameCame frame) history few less)

  pub agree_frame : AgreeBefore (befallen history) (told_by_frames site kept done panel history) (told_by_frames site kept done panel (FrameCame frame ∷ history))
  agree_frame =
      agree_cut site panel history (FrameCame frame ∷ history) (length (befallen history)) cut_frame kept done (befallen history) (omega arith)

  pub own_frame : word_of_itself site kept done panel history (befallen history) ≡ word_of_itself site kept done panel (FrameCame frame ∷ history) (befallen history)
  own_frame = own_cut site panel history (FrameCame frame ∷ history) (length (befallen history)) cut_frame kept done (befallen history) (omega arith)
