-- The text of busy panels, panel by panel.
use Rattle.std.proofs.Common.{◌≡◌, ◌∙◌, ◌++◌, ◌+◌, ◌-◌, ◌<◌, ℕ, List, refl, sym, ap, slice_index, arith}
use Rattle.std.specs.List.{flat_map, range_with_len}
use Rattle.face_text.specs.Answers.{busy_line, busy_text}
use Rattle.face_text.proofs.Listing.{range_front, range_more}

abbrev pub line_at : List ℕ → ℕ → List ℕ
line_at busy panel = busy_line panel (slice_index busy (panel - 1))

pub busy_is : (busy : List ℕ) → busy_text busy ≡ flat_map (line_at busy) (range_with_len 1 8)
unfolding busy_text
busy_is busy = refl

pub busy_next : (busy : List ℕ) (place : ℕ) (text : List ℕ) → text ≡ busy_line (place + 1) (slice_index busy place) →
    flat_map (line_at busy) (range_with_len 1 (place + 1)) ≡ flat_map (line_at busy) (range_with_len 1 place) ++ text
busy_next busy place text is =
    let same : place + 1 - 1 ≡ place = omega arith in
    range_more (line_at busy) place ∙ ap (λ xs. flat_map (line_at busy) (range_with_len 1 place) ++ xs)
    (ap (λ k. busy_line (place + 1) (slice_index busy k)) same ∙ sym is)

pub busy_front : (busy : List ℕ) (place : ℕ) (text : List ℕ) → place < 8 → text ≡ busy_line (place + 1) (slice_index busy place) →
    (rest : List ℕ) × (busy_text busy ≡ (flat_map (line_at busy) (range_with_len 1 place) ++ text) ++ rest)
busy_front busy place text within is =
    let front = range_front (line_at busy) 8 (place + 1) (omega (arith, within)) in
    (front.0, busy_is busy ∙ front.1 ∙ ap (λ xs. xs ++ front.0) (busy_next busy place text is))
