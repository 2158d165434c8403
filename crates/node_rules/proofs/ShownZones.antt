-- The zones of another panel are those of the newest word that came.
use Rattle.std.proofs.Common.{◌≡◌, ◌≢◌, ◌∙◌, ◌+◌, ◌-◌, ◌&&◌, ◌≤◌, ◌<◌, ℕ, zero, suc, Bool, true, false, List, ◌∷◌, map, slice_index, if◌then◌else◌, nat_lt, refl, sym, ap, arith}
use Rattle.std.specs.List.{range_with_len}
use Rattle.std.proofs.lemmas.Bool.{ne_eqb}
use Rattle.site_types.specs.declared.retained.Retained.{Retained}
use Rattle.site_types.specs.declared.site.Site.{Site}
use Rattle.site_types.specs.declared.word.Word.{Word}
use Rattle.panel_links.specs.Kept.{newest}
use Rattle.kept_words.specs.Arrivals.{framed_word, has_word_of, word_kept}
use Rattle.node_rules.specs.Histories.{Befell, FrameCame, NodeMoment, frames_in, befallen}
use Rattle.node_rules.specs.Nodes.{node_done, node_face, node_up, node_words}
use Rattle.node_rules.specs.Shown.{word_on_face}
use Rattle.node_rules.specs.NodeLaws.{FramesAreShown, ZonesStayShown, is_newer}

-- an item of a list that goes by numbers
item_of : (f : ℕ → ℕ) (from count k : ℕ) → k < count → slice_index (map f (range_with_len from count)) k ≡ f (from + k)
item_of f from zero k l = absurd (omega (arith, l))
item_of f from (suc count) zero l = let e : from ≡ from + 0 = omega arith in ap f e
item_of f from (suc count) (suc k) l = item_of f (from + 1) count k (omega (arith, l)) ∙ (let e : from + 1 + k ≡ from + suc k = omega arith in ap f e)

-- those of a panel on a face
shown_of : (site : Site) (panel : ℕ) (kept : Retained) (history : List NodeMoment) (source : ℕ) → 1 ≤ source → source ≤ 8 → source ≢ panel
    → slice_index (node_face site panel history kept).zones (source - 1) ≡ (word_kept panel source (frames_in history)).alarm
shown_of site panel kept history source first last apart =
    item_of on_face 1 8 (source - 1) (omega (arith, first, last))
    ∙ (let at : 1 + (source - 1) ≡ source = omega (arith, first) in ap on_face at)
    ∙ rw (ne_eqb source panel apart) refl
  where
    on_face : ℕ → ℕ
    on_face s =
        (word_on_face site kept (node_done site panel history kept) panel (node_words site panel history) (node_up site panel history)
        (λ q. word_kept panel q (frames_in history)) (befallen history) s).alarm

newer_alarm : (has : Bool) (kept word : Word) → (if has then newest kept word else kept).alarm ≡ (if has && is_newer word kept then word.alarm else kept.alarm)
newer_alarm false kept word = refl
newer_alarm true kept word = either (nat_lt kept.stamp.0 word.stamp.0)
  where
    either : (b : Bool) → (if b then word else kept).alarm ≡ (if b then word.alarm else kept.alarm)
    either true = refl
    either false = refl

pub frames_shown : FramesAreShown
frames_shown site panel kept history frame source first last apart =
    let word = framed_word source frame in
    let now = word_kept panel source (frames_in history) in
    shown_of site panel kept (FrameCame frame ∷ history) source first last apart
    ∙ rw (ne_eqb source panel apart)
    (newer_alarm (has_word_of source frame) now word
    ∙ ap (λ n. if has_word_of source frame && is_newer word now then word.alarm else n) (sym (shown_of site panel kept history source first last apart)))

pub zones_stay : ZonesStayShown
zones_stay site panel kept history moment source first last apart =
    shown_of site panel kept (Befell moment ∷ history) source first last apart ∙ sym (shown_of site panel kept history source first last apart)
