-- The answers of a tick are those from its 32 places.
use Rattle.std.proofs.Common.{◌≡◌, ℕ, zero, suc, ◌+◌, ◌*◌, ◌%◌, ◌<◌, ◌≤◌, [], ◌∷◌, ◌++◌, length, Option, refl, sym, ◌∙◌, ap, arith, append-nil}
use Rattle.std.proofs.lemmas.List.Concat.{flat_map-append}
use Rattle.std.proofs.lemmas.List.Elements.{filter_map-append}
use Rattle.std.specs.List.{cons_option, filter_map, flat_map, range_with_len}
use Rattle.std.specs.Prelude.{List, option_map, ◌/◌}
use Rattle.site_types.specs.declared.answer.Answer.{Answer}
use Rattle.site_types.specs.declared.point_state.PointState.{PointState}
use Rattle.site_types.specs.declared.site.Site.{Site}
use Rattle.site_types.specs.Profile.{round_of}
use Rattle.isolators.specs.Reach.{Cable}
use Rattle.loop_poller.specs.Asked.{answer_from, asked_in, asked_on, answer_of, point_at}
use Rattle.loop_poller.proofs.Windows.{asked_window, found_few, group_of, is_asked_here, length-range, range-more, range-split}

abbrev pub line_at : ℕ → ℕ
line_at place = place / 8 + 1

abbrev pub address_at : ℕ → ℕ → ℕ → ℕ
address_at format tick place = 8 * (tick % round_of format) + place % 8 + 1

-- the answer from a place of a tick, where there is a point
abbrev pub answer_at : Site → ℕ → (ℕ → PointState) → (ℕ → Cable) → ℕ → ℕ → Option Answer
answer_at site panel points cables tick place =
    let line = line_at place in
    let address = address_at site.format tick place in
    option_map (answer_of site panel points cables tick line address) (point_at site panel line address)

unfoldable pub places : List ℕ
places = range_with_len 0 32

-- two stretches of numbers that give the same one by one
shifted : {X : Type 0} (f g : ℕ → Option X) (a b n : ℕ) → ((i : ℕ) → i < n → g (a + i) ≡ f (b + i))
    → filter_map g (range_with_len a n) ≡ filter_map f (range_with_len b n)
shifted f g a b zero same = refl
shifted f g a b (suc n) same =
    let at_a : a ≡ a + 0 = omega arith in
    let at_b : b + 0 ≡ b = omega arith in
    let here : g a ≡ f b = ap g at_a ∙ same 0 (omega arith) ∙ ap f at_b in
    let rest : filter_map g (range_with_len (a + 1) n) ≡ filter_map f (range_with_len (b + 1) n) =
    shifted f g (a + 1) (b + 1) n (λ i small. ap g (omega arith) ∙ same (i + 1) (omega arith) ∙ ap f (omega arith)) in
    ap (λ o. cons_option o (filter_map g (range_with_len (a + 1) n))) here ∙ ap (cons_option (f b)) rest

module _ (site : Site) (panel : ℕ) (points : ℕ → PointState) (cables : ℕ → Cable) (tick : ℕ) (known : 1 ≤ site.format) where
  line_answers : (k : ℕ) → filter_map (answer_at site panel points cables tick) (range_with_len (8 * k) 8) ≡ asked_on site panel points cables tick
      (k + 1)
  line_answers k =
      shifted (answer_from site panel points cables tick (k + 1)) (answer_at site panel points cables tick) (8 * k)
      (8 * (tick % round_of site.format) + 1) 8
      (λ i small.
      let line : line_at (8 * k + i) ≡ k + 1 = omega arith in
      let address : address_at site.format tick (8 * k + i) ≡ 8 * (tick % round_of site.format) + 1 + i = omega arith in
      rw (line, address)
      (sym (is_asked_here site panel points cables tick (k + 1) (8 * (tick % round_of site.format) + 1 + i)
      (group_of (tick % round_of site.format) (8 * (tick % round_of site.format) + 1) (8 * (tick % round_of site.format) + 1 + i) refl
      (omega arith) (omega arith)))))
      ∙ sym (asked_window site panel points cables tick (k + 1) known)

  lines_answers : (k : ℕ)
      → filter_map (answer_at site panel points cables tick) (range_with_len 0 (8 * k)) ≡ flat_map (asked_on site panel points cables tick)
      (range_with_len 1 k)
  lines_answers zero = refl
  lines_answers (suc k) =
      let count : 8 * suc k ≡ 8 * k + 8 = omega arith in
      let start : 0 + 8 * k ≡ 8 * k = omega arith in
      let next : 1 + k ≡ k + 1 = omega arith in
      let more : suc k ≡ k + 1 = omega arith in
      ap (λ n. filter_map (answer_at site panel points cables tick) (range_with_len 0 n)) count
      ∙ ap (filter_map (answer_at site panel points cables tick))
      (range-split 0 (8 * k) 8 ∙ ap (λ n. range_with_len 0 (8 * k) ++ range_with_len n 8) start)
      ∙ filter_map-append (answer_at site panel points cables tick) (range_with_len 0 (8 * k)) (range_with_len (8 * k) 8)
      ∙ ap (λ xs. xs ++ filter_map (answer_at site panel points cables tick) (range_with_len (8 * k) 8)) (lines_answers k)
      ∙ ap (λ xs. flat_map (asked_on site panel points cables tick) (range_with_len 1 k) ++ xs)
      (line_answers k ∙ ap (asked_on site panel points cables tick) (sym next) ∙ sym
      (append-nil (asked_on site panel points cables tick (1 + k))))
      ∙ sym (flat_map-append (asked_on site panel points cables tick) (range_with_len 1 k) ((1 + k) ∷ []))
      ∙ ap (flat_map (asked_on site panel points cables tick)) (sym (ap (range_with_len 1) more ∙ range-more 1 k))

  -- the answers of a tick, by its places
  pub asked_in_places : asked_in site panel points cables tick ≡ filter_map (answer_at site panel points cables tick) places
  unfolding asked_in places
  asked_in_places = sym (lines_answers 4)

  -- they are at most 32
  pub asked_few : length (asked_in site panel points cables tick) ≤ 32
  unfolding places
  asked_few = omega (arith, ap length asked_in_places, found_few (answer_at site panel points cables tick) (range_with_len 0 32), length-range 0 32)
