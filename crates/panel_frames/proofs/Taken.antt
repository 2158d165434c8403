-- What holds of bytes that are read as a frame.
use Rattle.std.proofs.Common.{◌≡◌, ◌+◌, ◌<◌, ◌≤◌, ◌++◌, ◌∙◌, ℕ, Bool, true, false, List, [], ◌∷◌, length, slice_index, take, drop, refl, sym, ap, subst, arith, if◌then◌else◌}
use Rattle.std.specs.Prelude.{◌==◌, nat_lt, not, bytes_eq, Option, Some, None, option_map, Ok}
use Rattle.std.proofs.lemmas.Bool.{eqb-true}
use Rattle.std.proofs.lemmas.List.{length-drop, length-take-le, get_or-take, drop-drop, drop_more, drop_all, take-append-drop}
use Rattle.std.proofs.lemmas.Nat.{and_le_r}
use Rattle.std.proofs.lemmas.Slice.Eq.{bytes_eq-Decides}
use Rattle.site_types.specs.declared.site.Site.{Site}
use Rattle.site_types.specs.declared.word.Word.{Word}
use Rattle.panel_links.specs.declared.frame.Frame.{Frame}
use Rattle.panel_frames.specs.declared.frame_refusal.FrameRefusal.{FrameRefusal}
use Rattle.panel_frames.specs.declared.frame_refusal.FrameRefusal.TheVariants.{BadLength, BadMagic, OtherSite, NotNeighbour, BadGroup, BadWord}
use Rattle.panel_frames.specs.Bytes.{frame_bytes, frame_in, frame_mark, word_bytes, word_spelled, words_bytes}
use Rattle.panel_frames.specs.Grammar.{fullest_at, fullest_words, is_neighbour, last_group}
use Rattle.panel_frames.specs.Refusals.{first_beyond, frame_or, frame_read}
use Rattle.panel_frames.proofs.Beyond.{none_beyond, stays_there}
use Rattle.panel_frames.proofs.Fitting.{AllFit, fit_behind, fit_each, fit_front, fit_place}
use Rattle.panel_frames.proofs.WordBytes.{AreOctets, octets_behind, printed_back}

ok_only : (r : Option FrameRefusal) (f g : Frame) → frame_or r f ≡ Ok g → (r ≡ None) × (g ≡ f)
ok_only None f g e = (refl, cc)
ok_only (Some x) f g e = absurd (cc)

passed : (b : Bool) (r : FrameRefusal) (rest : Option FrameRefusal) → (if not b then Some r else rest) ≡ None → (b ≡ true) × (rest ≡ None)
passed true r rest e = (refl, e)
passed false r rest e = absurd (cc)

failed : (b : Bool) (r : FrameRefusal) (rest : Option FrameRefusal) → (if b then Some r else rest) ≡ None → (b ≡ false) × (rest ≡ None)
failed true r rest e = absurd (cc)
failed false r rest e = (refl, e)

none_mapped : (found : Option ℕ) → option_map (λ place. BadWord (place + 36)) found ≡ None → found ≡ None
none_mapped None e = refl
none_mapped (Some x) e = absurd (cc)

pub record IsTaken (site : Site) (digest : List ℕ) (at : ℕ) (bytes : List ℕ) : Type 0 where
  pub size : length bytes ≡ 136
  pub mark : take 2 bytes ≡ frame_mark
  pub site_digest : take 32 (drop 2 bytes) ≡ digest
  pub neighbour : is_neighbour site.panels at (slice_index bytes 34) ≡ true
  pub group : nat_lt (last_group site.panels) (slice_index bytes 35) ≡ false
  pub words : first_beyond (drop 36 bytes) (words_bytes (fullest_words site (frame_in bytes))) ≡ None

same_list : (xs ys : List ℕ) → bytes_eq xs ys ≡ true → xs ≡ ys
same_list xs ys e = (bytes_eq-Decides xs ys).0 e

pub taken : (site : Site) (digest : List ℕ) (at : ℕ) (bytes : List ℕ) (frame : Frame) → frame_read site digest at bytes ≡ Ok frame
    → IsTaken site digest at bytes × (frame ≡ frame_in bytes)
taken site digest at bytes frame ok =
    let only = ok_only _ (frame_in bytes) frame ok in
    let one = passed (length bytes == 136) BadLength _ only.0 in
    let two = passed (bytes_eq (take 2 bytes) frame_mark) BadMagic _ one.1 in
    let three = passed (bytes_eq (take 32 (drop 2 bytes)) digest) OtherSite _ two.1 in
    let four = passed (is_neighbour site.panels at (slice_index bytes 34)) (NotNeighbour (slice_index bytes 34)) _ three.1 in
    let five = failed (nat_lt (last_group site.panels) (slice_index bytes 35)) (BadGroup (slice_index bytes 35)) _ four.1 in (
      record {
        size = eqb-true (length bytes) 136 one.0;
        mark = same_list (take 2 bytes) frame_mark two.0;
        site_digest = same_list (take 32 (drop 2 bytes)) digest three.0;
        neighbour = four.0;
        group = five.0;
        words = none_mapped _ five.1;
      },
      only.1,
    )

-- four words, each of which fits another
fit_words : (xs : List ℕ) (a b c d : Word) → AllFit xs (words_bytes (a ∷ b ∷ c ∷ d ∷ []))
    → AllFit (take 25 xs) (word_bytes a) × (AllFit (take 25 (drop 25 xs)) (word_bytes b) × (AllFit (take 25 (drop 25 (drop 25 xs))) (word_bytes c)
    × AllFit (take 25 (drop 25 (drop 25 (drop 25 xs)))) (word_bytes d)))
unfolding word_bytes
fit_words xs a b c d fit =
    let one = fit_behind xs (word_bytes a) (words_bytes (b ∷ c ∷ d ∷ [])) fit in
    let two = fit_behind (drop 25 xs) (word_bytes b) (words_bytes (c ∷ d ∷ [])) one in
    let three = fit_behind (drop 25 (drop 25 xs)) (word_bytes c) (words_bytes (d ∷ [])) two in (
      fit_front xs (word_bytes a) (words_bytes (b ∷ c ∷ d ∷ [])) fit,
      (
        fit_front (drop 25 xs) (word_bytes b) (words_bytes (c ∷ d ∷ [])) one,
        (fit_front (drop 25 (drop 25 xs)) (word_bytes c) (words_bytes (d ∷ [])) two, fit_front (drop 25 (drop 25 (drop 25 xs))) (word_bytes d) [] three),
      ),
    )

hundred : (a b c d : Word) → length (words_bytes (a ∷ b ∷ c ∷ d ∷ [])) ≡ 100
unfolding word_bytes
hundred a b c d = refl

-- each word of bytes that are read fits the fullest one of its place
pub record AllWordsFit (site : Site) (bytes : List ℕ) : Type 0 where
  pub at_0 : AllFit (take 25 (drop 36 bytes)) (word_bytes (fullest_at site (frame_in bytes) 0))
  pub at_1 : AllFit (take 25 (drop 61 bytes)) (word_bytes (fullest_at site (frame_in bytes) 1))
  pub at_2 : AllFit (take 25 (drop 86 bytes)) (word_bytes (fullest_at site (frame_in bytes) 2))
  pub at_3 : AllFit (take 25 (drop 111 bytes)) (word_bytes (fullest_at site (frame_in bytes) 3))

pub words_fit : (site : Site) (digest : List ℕ) (at : ℕ) (bytes : List ℕ) → IsTaken site digest at bytes → AllWordsFit site bytes
words_fit site digest at bytes is =
    let frame = frame_in bytes in
    let m0 = fullest_at site frame 0 in
    let m1 = fullest_at site frame 1 in
    let m2 = fullest_at site frame 2 in
    let m3 = fullest_at site frame 3 in
    let xs = drop 36 bytes in
    let most = words_bytes (m0 ∷ m1 ∷ m2 ∷ m3 ∷ []) in
    let same : length xs ≡ length most = let l = length-drop 36 bytes in let h = hundred m0 m1 m2 m3 in let s = is.size in omega (arith, l, h, s) in
    let below = none_beyond xs most same is.words in
    let all = fit_each xs most same (λ k less. stays_there (slice_index xs k) (slice_index most k) (below k less)) in
    let each = fit_words xs m0 m1 m2 m3 all in
    let second : drop 25 xs ≡ drop 61 bytes = drop-drop 25 36 bytes in
    let third : drop 25 (drop 25 xs) ≡ drop 86 bytes = ap (drop 25) second ∙ drop-drop 25 61 bytes in
    let fourth : drop 25 (drop 25 (drop 25 xs)) ≡ drop 111 bytes = ap (drop 25) third ∙ drop-drop 25 86 bytes in
    record {
      at_0 = each.0;
      at_1 = subst (λ (ys : List ℕ). AllFit (take 25 ys) (word_bytes m1)) second each.1.0;
      at_2 = subst (λ (ys : List ℕ). AllFit (take 25 ys) (word_bytes m2)) third each.1.1.0;
      at_3 = subst (λ (ys : List ℕ). AllFit (take 25 ys) (word_bytes m3)) fourth each.1.1.1;
    }

flag_few : (b : Bool) → (if b then 1 else 0) ≤ 1
flag_few true = omega arith
flag_few false = omega arith

last_of : (w : Word) → slice_index (word_bytes w) 24 ≡ (if w.fault then 1 else 0)
unfolding word_bytes
last_of w = refl

size_25 : (xs : List ℕ) → 25 ≤ length xs → 24 < length (take 25 xs)
size_25 xs long = let e = length-take-le 25 xs long in omega (arith, e)

fault_few : (xs : List ℕ) (most : Word) → 25 ≤ length xs → AllFit (take 25 xs) (word_bytes most) → slice_index xs 24 ≤ 1
fault_few xs most long fit =
    let b = slice_index (take 25 xs) 24 in
    let same = fit_place (take 25 xs) (word_bytes most) fit 24 (size_25 xs long) in
    let less = and_le_r b (slice_index (word_bytes most) 24) in
    let flag = flag_few most.fault in
    let last = last_of most in
    let here : b ≡ slice_index xs 24 = get_or-take 25 xs 24 0 (omega arith) in
    omega (arith, same, less, flag, last, here)

pub word_again : (bytes : List ℕ) (at : ℕ) (most : Word) → AreOctets bytes → at + 25 ≤ length bytes → AllFit (take 25 (drop at bytes)) (word_bytes most)
    → word_bytes (word_spelled (drop at bytes)) ≡ take 25 (drop at bytes)
word_again bytes at most are long fit =
    let size = length-drop at bytes in
    let enough : 25 ≤ length (drop at bytes) = omega (arith, size, long) in
    printed_back (drop at bytes) (octets_behind at bytes are) enough (fault_few (drop at bytes) most enough fit)

next : (n m : ℕ) (bytes : List ℕ) → take n (drop m bytes) ++ drop (m + n) bytes ≡ drop m bytes
next n m bytes = sym (ap (λ (ys : List ℕ). take n (drop m bytes) ++ ys) (drop-drop n m bytes)) ∙ take-append-drop n (drop m bytes)

-- the words of bytes that are read, put together again
words_again : (site : Site) (bytes : List ℕ) → AreOctets bytes → length bytes ≡ 136 → AllWordsFit site bytes
    → words_bytes (frame_in bytes).words ≡ drop 36 bytes
words_again site bytes are size fit =
    let frame = frame_in bytes in
    let a = word_again bytes 36 (fullest_at site frame 0) are (omega (arith, size)) fit.at_0 in
    let b = word_again bytes 61 (fullest_at site frame 1) are (omega (arith, size)) fit.at_1 in
    let c = word_again bytes 86 (fullest_at site frame 2) are (omega (arith, size)) fit.at_2 in
    let d = word_again bytes 111 (fullest_at site frame 3) are (omega (arith, size)) fit.at_3 in
    let end : drop 136 bytes ≡ [] = drop_all 136 bytes (omega (arith, size)) in
    let d' : word_bytes (word_spelled (drop 111 bytes)) ++ [] ≡ drop 111 bytes =
    ap (λ (ys : List ℕ). ys ++ []) d ∙ ap (λ (ys : List ℕ). take 25 (drop 111 bytes) ++ ys) (sym end) ∙ next 25 111 bytes in
    let c' : word_bytes (word_spelled (drop 86 bytes)) ++ (word_bytes (word_spelled (drop 111 bytes)) ++ []) ≡ drop 86 bytes =
    ap (λ (ys : List ℕ). word_bytes (word_spelled (drop 86 bytes)) ++ ys) d' ∙ ap (λ (ys : List ℕ). ys ++ drop 111 bytes) c ∙ next 25 86 bytes in
    let b' : word_bytes (word_spelled (drop 61 bytes)) ++ (word_bytes (word_spelled (drop 86 bytes)) ++ (word_bytes (word_spelled (drop 111 bytes)) ++ [])) ≡ drop 61 bytes =
    ap (λ (ys : List ℕ). word_bytes (word_spelled (drop 61 bytes)) ++ ys) c' ∙ ap (λ (ys : List ℕ). ys ++ drop 86 bytes) b ∙ next 25 61 bytes in
    ap (λ (ys : List ℕ). word_bytes (word_spelled (drop 36 bytes)) ++ ys) b' ∙ ap (λ (ys : List ℕ). ys ++ drop 61 bytes) a ∙ next 25 36 bytes

frame_again : (site : Site) (digest : List ℕ) (at : ℕ) (bytes : List ℕ) → AreOctets bytes → IsTaken site digest at bytes
    → frame_bytes digest (frame_in bytes) ≡ bytes
frame_again site digest at bytes are is =
    let size = is.size in
    let words = words_again site bytes are size (words_fit site digest at bytes is) in
    let group : slice_index bytes 35 ∷ words_bytes (frame_in bytes).words ≡ drop 35 bytes =
    ap (λ (ys : List ℕ). slice_index bytes 35 ∷ ys) words ∙ sym (drop_more bytes 35 0 (omega (arith, size))) in
    let from : slice_index bytes 34 ∷ slice_index bytes 35 ∷ words_bytes (frame_in bytes).words ≡ drop 34 bytes =
    ap (λ (ys : List ℕ). slice_index bytes 34 ∷ ys) group ∙ sym (drop_more bytes 34 0 (omega (arith, size))) in
    let behind : digest ++ (slice_index bytes 34 ∷ slice_index bytes 35 ∷ words_bytes (frame_in bytes).words) ≡ drop 2 bytes =
    ap (λ (ys : List ℕ). digest ++ ys) from ∙ ap (λ (ys : List ℕ). ys ++ drop 34 bytes) (sym is.site_digest) ∙ next 32 2 bytes in
    ap (λ (ys : List ℕ). frame_mark ++ ys) behind ∙ ap (λ (ys : List ℕ). ys ++ drop 2 bytes) (sym is.mark) ∙ take-append-drop 2 bytes

pub read_bytes_again : (site : Site) (digest : List ℕ) (at : ℕ) (bytes : List ℕ) (frame : Frame) → AreOctets bytes
    → frame_read site digest at bytes ≡ Ok frame → frame_bytes digest frame ≡ bytes
read_bytes_again site digest at bytes frame are ok =
    let both = taken site digest at bytes frame ok in
    ap (frame_bytes digest) both.1 ∙ frame_again site digest at bytes are both.0
