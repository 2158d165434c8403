-- A frame in the grammar, printed, is read as itself.
use Rattle.std.proofs.Common.{◌≡◌, ◌+◌, ◌*◌, ◌<◌, ◌++◌, ◌∙◌, ℕ, Bool, true, false, List, [], ◌∷◌, length, slice_index, take, drop, refl, sym, ap, subst, arith, if◌then◌else◌, zero, suc}
use Rattle.std.specs.Prelude.{◌==◌, nat_lt, not, bytes_eq, Option, Some, None, option_map, Ok, slice_index_or}
use Rattle.std.proofs.lemmas.Bool.{eq-eqb, le-ltb}
use Rattle.std.proofs.lemmas.List.{length-append, get_or-drop, drop-drop, drop_at, take-append-le, take_all}
use Rattle.std.proofs.lemmas.Slice.Eq.{bytes_eq-Decides}
use Rattle.site_types.specs.declared.site.Site.{Site}
use Rattle.site_types.specs.declared.word.Word.{Word}
use Rattle.site_types.specs.Words.{empty_word}
use Rattle.panel_links.specs.declared.frame.Frame.{Frame}
use Rattle.panel_frames.specs.declared.frame_refusal.FrameRefusal.{FrameRefusal}
use Rattle.panel_frames.specs.declared.frame_refusal.FrameRefusal.TheVariants.{BadLength, BadMagic, OtherSite, NotNeighbour, BadGroup, BadWord}
use Rattle.panel_frames.specs.Bytes.{frame_bytes, frame_in, frame_mark, word_bytes, word_spelled, words_bytes}
use Rattle.panel_frames.specs.Grammar.{IsFrame, IsWord, fullest_at, fullest_words, is_neighbour, last_group}
use Rattle.panel_frames.specs.Refusals.{first_beyond, frame_or, frame_read, refusal_at}
use Rattle.panel_frames.proofs.Fitting.{AllFit, fit_none, fit_together, word_fit}
use Rattle.panel_frames.proofs.MostWords.{within_fullest}
use Rattle.panel_frames.proofs.WordBytes.{FitsWidths, read_back}

pass : (b : Bool) (r : FrameRefusal) (rest : Option FrameRefusal) → b ≡ true → rest ≡ None → (if not b then Some r else rest) ≡ None
pass b r rest e none = rw (e, none) refl

fail : (b : Bool) (r : FrameRefusal) (rest : Option FrameRefusal) → b ≡ false → rest ≡ None → (if b then Some r else rest) ≡ None
fail b r rest e none = rw (e, none) refl

equal_list : (xs ys : List ℕ) → xs ≡ ys → bytes_eq xs ys ≡ true
equal_list xs ys e = (bytes_eq-Decides xs ys).1 e

pub word_size : (w : Word) → length (word_bytes w) ≡ 25
unfolding word_bytes
word_size w = refl

fits_of : (site : Site) (panel : ℕ) (w : Word) → IsWord site panel w → FitsWidths w
fits_of site panel w is =
    record { stamp = is.stamp; alarm = is.alarm.0; manual = is.manual.0; released = is.released.0; first = is.first.0 }

-- four words in the grammar fit the fullest ones
words_fit_most : (ws ms : List Word) → length ws ≡ length ms
    → ((k : ℕ) → k < length ws → AllFit (word_bytes (slice_index_or ws k empty_word)) (word_bytes (slice_index_or ms k empty_word)))
    → AllFit (words_bytes ws) (words_bytes ms)
words_fit_most [] ms same each = tt
words_fit_most (w ∷ ws) [] same each = absurd (omega (arith, same))
words_fit_most (w ∷ ws) (m ∷ ms) same each =
    fit_together (word_bytes w) (word_bytes m) (words_bytes ws) (words_bytes ms) (word_size w ∙ sym (word_size m)) (each 0 (omega arith))
    (words_fit_most ws ms (omega (arith, same)) (λ k less. each (suc k) (omega (arith, less))))

words_size : (ws : List Word) → length (words_bytes ws) ≡ 25 * length ws
words_size [] = refl
words_size (w ∷ ws) =
    let e = length-append (word_bytes w) (words_bytes ws) in let s = word_size w in let more = words_size ws in omega (arith, e, s, more)

abbrev frame_with : ℕ → ℕ → Word → Word → Word → Word → Frame
frame_with from group a b c d = record { from = from; group = group; words = a ∷ b ∷ c ∷ d ∷ [] }

abbrev printed : List ℕ → ℕ → ℕ → Word → Word → Word → Word → List ℕ
printed digest from group a b c d = frame_bytes digest (frame_with from group a b c d)

behind_digest : (digest : List ℕ) (from group : ℕ) (a b c d : Word) → length digest ≡ 32
    → drop 34 (printed digest from group a b c d) ≡ from ∷ group ∷ words_bytes (a ∷ b ∷ c ∷ d ∷ [])
behind_digest digest from group a b c d size = drop_at digest (from ∷ group ∷ words_bytes (a ∷ b ∷ c ∷ d ∷ [])) 32 size

after_word : (w : Word) (rest : List ℕ) → drop 25 (word_bytes w ++ rest) ≡ rest
after_word w rest = drop_at (word_bytes w) rest 25 (word_size w)

pub spelled : (digest : List ℕ) (from group : ℕ) (a b c d : Word) → length digest ≡ 32 → FitsWidths a → FitsWidths b → FitsWidths c → FitsWidths d
    → frame_in (printed digest from group a b c d) ≡ frame_with from group a b c d
spelled digest from group a b c d size fa fb fc fd =
    let bytes = printed digest from group a b c d in
    let behind = behind_digest digest from group a b c d size in
    let sender : slice_index bytes 34 ≡ from = sym (get_or-drop 34 bytes 0 0) ∙ ap (λ (ys : List ℕ). slice_index ys 0) behind in
    let group' : slice_index bytes 35 ≡ group = sym (get_or-drop 34 bytes 1 0) ∙ ap (λ (ys : List ℕ). slice_index ys 1) behind in
    let at_0 : drop 36 bytes ≡ words_bytes (a ∷ b ∷ c ∷ d ∷ []) = sym (drop-drop 2 34 bytes) ∙ ap (drop 2) behind in
    let at_1 : drop 61 bytes ≡ words_bytes (b ∷ c ∷ d ∷ []) = sym (drop-drop 25 36 bytes) ∙ ap (drop 25) at_0 ∙ after_word a (words_bytes (b ∷ c ∷ d ∷ [])) in
    let at_2 : drop 86 bytes ≡ words_bytes (c ∷ d ∷ []) = sym (drop-drop 25 61 bytes) ∙ ap (drop 25) at_1 ∙ after_word b (words_bytes (c ∷ d ∷ [])) in
    let at_3 : drop 111 bytes ≡ words_bytes (d ∷ []) = sym (drop-drop 25 86 bytes) ∙ ap (drop 25) at_2 ∙ after_word c (words_bytes (d ∷ [])) in
    let wa : word_spelled (drop 36 bytes) ≡ a = ap word_spelled at_0 ∙ read_back a (words_bytes (b ∷ c ∷ d ∷ [])) fa in
    let wb : word_spelled (drop 61 bytes) ≡ b = ap word_spelled at_1 ∙ read_back b (words_bytes (c ∷ d ∷ [])) fb in
    let wc : word_spelled (drop 86 bytes) ≡ c = ap word_spelled at_2 ∙ read_back c (words_bytes (d ∷ [])) fc in
    let wd : word_spelled (drop 111 bytes) ≡ d = ap word_spelled at_3 ∙ read_back d [] fd in
    same_frame sender group' wa wb wc wd
  where
    same_frame : {f g f' g' : ℕ} {p q r s p' q' r' s' : Word} → f ≡ f' → g ≡ g' → p ≡ p' → q ≡ q' → r ≡ r' → s ≡ s'
        → frame_with f g p q r s ≡ frame_with f' g' p' q' r' s'
    same_frame one two three four' five six = rw (one, two, three, four', five, six) refl

fit_at : (site : Site) (at : ℕ) (frame : Frame) → IsFrame site at frame → (k : ℕ) → k < 4
    → AllFit (word_bytes (slice_index_or frame.words k empty_word)) (word_bytes (fullest_at site frame k))
fit_at site at frame is k less =
    let word = slice_index_or frame.words k empty_word in
    word_fit word (fullest_at site frame k) (within_fullest site (4 * frame.group + 1 + k) word (is.words k less))

accepted : (site : Site) (digest : List ℕ) (at from group : ℕ) (a b c d : Word) → length digest ≡ 32
    → IsFrame site at (frame_with from group a b c d)
    → refusal_at site digest at (printed digest from group a b c d) ≡ None
accepted site digest at from group a b c d size is =
    let frame = frame_with from group a b c d in
    let bytes = printed digest from group a b c d in
    let words = a ∷ b ∷ c ∷ d ∷ [] in
    let same : frame_in bytes ≡ frame =
    spelled digest from group a b c d size (fits_of site _ a (is.words 0 (omega arith))) (fits_of site _ b (is.words 1 (omega arith)))
    (fits_of site _ c (is.words 2 (omega arith))) (fits_of site _ d (is.words 3 (omega arith))) in
    let behind = behind_digest digest from group a b c d size in
    let at_0 : drop 36 bytes ≡ words_bytes words = sym (drop-drop 2 34 bytes) ∙ ap (drop 2) behind in
    let long : length bytes ≡ 136 = let l = length-append digest (from ∷ group ∷ words_bytes words) in let w = words_size words in omega (arith, l, w, size) in
    let told : take 32 (digest ++ (from ∷ group ∷ words_bytes words)) ≡ digest =
    take-append-le 32 digest (from ∷ group ∷ words_bytes words) (omega (arith, size)) ∙ take_all 32 digest (omega (arith, size)) in
    let most = fullest_words site frame in
    let fit : AllFit (words_bytes words) (words_bytes most) = words_fit_most words most refl (each site at frame is) in
    let none : first_beyond (words_bytes words) (words_bytes most) ≡ None =
    fit_none (words_bytes words) (words_bytes most) (words_size words ∙ sym (words_size most)) fit in
    let none' : first_beyond (drop 36 bytes) (words_bytes (fullest_words site (frame_in bytes))) ≡ None =
    ap (λ (xs : List ℕ). first_beyond xs (words_bytes (fullest_words site (frame_in bytes)))) at_0
    ∙ ap (λ (f : Frame). first_beyond (words_bytes words) (words_bytes (fullest_words site f))) same ∙ none in
    pass (length bytes == 136) BadLength _ (eq-eqb (length bytes) 136 long)
    (pass (bytes_eq (take 2 bytes) frame_mark) BadMagic _ refl
    (pass (bytes_eq (take 32 (drop 2 bytes)) digest) OtherSite _ (equal_list (take 32 (drop 2 bytes)) digest told)
    (pass (is_neighbour site.panels at (slice_index bytes 34)) (NotNeighbour (slice_index bytes 34)) _
    (ap (λ (f : Frame). is_neighbour site.panels at f.from) same ∙ is.neighbour)
    (fail (nat_lt (last_group site.panels) (slice_index bytes 35)) (BadGroup (slice_index bytes 35)) _
    (ap (λ (f : Frame). nat_lt (last_group site.panels) f.group) same ∙ le-ltb (last_group site.panels) group is.group)
    (ap (option_map (λ place. BadWord (place + 36))) none')))))
  where
    each : (site : Site) (at : ℕ) (frame : Frame) → IsFrame site at frame
        → (k : ℕ) → k < 4 → AllFit (word_bytes (slice_index_or frame.words k empty_word)) (word_bytes (slice_index_or (fullest_words site frame) k empty_word))
    each site at frame is zero less = fit_at site at frame is 0 (omega arith)
    each site at frame is (suc zero) less = fit_at site at frame is 1 (omega arith)
    each site at frame is (suc (suc zero)) less = fit_at site at frame is 2 (omega arith)
    each site at frame is (suc (suc (suc zero))) less = fit_at site at frame is 3 (omega arith)
    each site at frame is (suc (suc (suc (suc k)))) less = absurd (omega (arith, less))

four_of : (words : List Word) → length words ≡ 4 → (a : Word) × (b : Word) × (c : Word) × (d : Word) × (words ≡ a ∷ b ∷ c ∷ d ∷ [])
four_of [] size = absurd (omega (arith, size))
four_of (a ∷ []) size = absurd (omega (arith, size))
four_of (a ∷ b ∷ []) size = absurd (omega (arith, size))
four_of (a ∷ b ∷ c ∷ []) size = absurd (omega (arith, size))
four_of (a ∷ b ∷ c ∷ d ∷ []) size = (a, b, c, d, refl)
four_of (a ∷ b ∷ c ∷ d ∷ e ∷ rest) size = absurd (omega (arith, size))

in_parts : (site : Site) (digest : List ℕ) (at from group : ℕ) (a b c d : Word) → length digest ≡ 32
    → IsFrame site at (frame_with from group a b c d)
    → frame_read site digest at (printed digest from group a b c d) ≡ Ok (frame_with from group a b c d)
in_parts site digest at from group a b c d size is =
    let bytes = printed digest from group a b c d in
    ap (λ (r : Option FrameRefusal). frame_or r (frame_in bytes)) (accepted site digest at from group a b c d size is)
    ∙ ap (λ (f : Frame). Ok f)
    (spelled digest from group a b c d size (fits_of site _ a (is.words 0 (omega arith))) (fits_of site _ b (is.words 1 (omega arith)))
    (fits_of site _ c (is.words 2 (omega arith))) (fits_of site _ d (is.words 3 (omega arith))))

pub printed_frames_again : (site : Site) (digest : List ℕ) (at : ℕ) (frame : Frame) → length digest ≡ 32 → IsFrame site at frame
    → frame_read site digest at (frame_bytes digest frame) ≡ Ok frame
printed_frames_again site digest at frame size is =
    let parts = four_of frame.words is.four in
    let a = parts.0 in
    let b = parts.1 in
    let c = parts.2 in
    let d = parts.3 in
    let e : frame ≡ frame_with frame.from frame.group a b c d =
    ap (λ (words : List Word). record { from = frame.from; group = frame.group; words = words }) parts.4 in
    subst (λ (f : Frame). frame_read site digest at (frame_bytes digest f) ≡ Ok f) (sym e)
    (in_parts site digest at frame.from frame.group a b c d size (subst (λ (f : Frame). IsFrame site at f) e is))
