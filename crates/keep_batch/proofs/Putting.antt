-- Counts and changes that are put one after another.
use Rattle.std.proofs.Common.{◌≡◌, ℕ, zero, suc, ◌+◌, ◌-◌, ◌≤◌, ◌<◌, List, [], ◌∷◌, ◌++◌, length, take, drop, get_or, sym, ◌∙◌, ap, arith}
use Rattle.std.proofs.Common.{length-append}
use Rattle.std.specs.Prelude.{Option, slice_index}
use Rattle.std.specs.List.{cons_option, flat_map, range_with_len}
use Rattle.std.proofs.lemmas.Grind.{flat_map-append}
use Rattle.std.proofs.lemmas.List.{append-nil, append_assoc, map-append, take-append-drop, take_more}
use Rattle.std.proofs.lemmas.List.Elements.{filter_map-append}
use Rattle.site_types.specs.declared.change.Change.{Change}
use Rattle.site_types.specs.declared.site.Site.{Site}
use Rattle.operation_desk.specs.declared.request.Request.{Request}
use Rattle.operation_desk.specs.Requests.{request_from, requests_from}
use Rattle.panel_rules.specs.Operations.{Request as RequestOf}
use Rattle.panel_rules.specs.Batches.{changes_of}
use Rattle.site_types.specs.Changes.{operation_change}
use Rattle.keep_batch.specs.Making.{count_from, counts_from}

-- ---- counts

-- one number more
range_more : (first many : ℕ) → range_with_len first (many + 1) ≡ range_with_len first many ++ (first + many) ∷ []
range_more first zero = let same : first ≡ first + 0 = omega arith in ap (λ n. n ∷ []) same
range_more first (suc many) =
    let further : suc many + 1 ≡ suc (many + 1) = omega arith in
    let next : first + 1 + many ≡ first + suc many = omega arith in
    ap (range_with_len first) further ∙ ap (λ ns. first ∷ ns) (range_more (first + 1) many)
    ∙ ap (λ n. first ∷ (range_with_len (first + 1) many ++ n ∷ [])) next

module _ (entries : List ℕ) where
  abbrev counts_at : ℕ → List Change
  counts_at panel = count_from panel (slice_index entries (panel - 1))

  -- the count of one panel more
  pub counts_more : (panels : ℕ) → counts_from (panels + 1) entries ≡ counts_from panels entries
      ++ count_from (panels + 1) (slice_index entries panels)
  counts_more panels =
      let next : 1 + panels ≡ panels + 1 = omega arith in
      let own : panels + 1 - 1 ≡ panels = omega arith in
      ap (flat_map counts_at) (range_more 1 panels) ∙ flat_map-append counts_at (range_with_len 1 panels) ((1 + panels) ∷ [])
      ∙ ap (λ xs. counts_from panels entries ++ xs) (append-nil (counts_at (1 + panels)))
      ∙ ap (λ n. counts_from panels entries ++ counts_at n) next
      ∙ ap (λ n. counts_from panels entries ++ count_from (panels + 1) (slice_index entries n)) own

  counts_grow : (panels more : ℕ) → length (counts_from panels entries) ≤ length (counts_from (panels + more) entries)
  counts_grow panels zero =
      let same : panels + 0 ≡ panels = omega arith in let all = ap (λ n. length (counts_from n entries)) same in omega (arith, all)
  counts_grow panels (suc more) =
      let ih = counts_grow panels more in
      let further : panels + suc more ≡ panels + more + 1 = omega arith in
      let whole = ap (λ n. length (counts_from n entries)) further ∙ ap length (counts_more (panels + more))
      ∙ length-append (counts_from (panels + more) entries) (count_from (panels + more + 1) (slice_index entries (panels + more))) in
      omega (arith, ih, whole)

  -- there is room for the next one
  pub count_fits : (old now : List Change) (panels before most : ℕ) → before < panels → now ≡ old ++ counts_from before entries
      → length (old ++ counts_from panels entries) ≤ most
      → length (now ++ count_from (before + 1) (slice_index entries before)) ≤ most
  count_fits old now panels before most within is room =
      let so_far = counts_grow (before + 1) (panels - (before + 1)) in
      let all : before + 1 + (panels - (before + 1)) ≡ panels = omega (arith, within) in
      let up_to = ap (λ n. length (counts_from n entries)) all in
      let next = ap length (counts_more before) ∙ length-append (counts_from before entries) (count_from (before + 1) (slice_index entries before)) in
      let both = ap (λ xs. length (xs ++ count_from (before + 1) (slice_index entries before))) is
      ∙ length-append (old ++ counts_from before entries) (count_from (before + 1) (slice_index entries before)) in
      let first = length-append old (counts_from before entries) in
      let last = length-append old (counts_from panels entries) in
      omega (arith, so_far, up_to, next, both, first, last, room)

  -- and it is put behind those before
  pub count_put : (old now new : List Change) (before : ℕ) → now ≡ old ++ counts_from before entries
      → new ≡ now ++ count_from (before + 1) (slice_index entries before) → new ≡ old ++ counts_from (before + 1) entries
  count_put old now new before is put =
      put ∙ ap (λ xs. xs ++ count_from (before + 1) (slice_index entries before)) is
      ∙ append_assoc old (counts_from before entries) (count_from (before + 1) (slice_index entries before))
      ∙ ap (λ xs. old ++ xs) (sym (counts_more before))

-- ---- changes

module _ (site : Site) (waiting : List Request) where
  abbrev change_at : Request → Option Change
  change_at r = operation_change site r.panel r.operation

  abbrev changes_from : List Request → List Change
  changes_from requests = changes_of site (requests_from requests)

  changes-append : (xs ys : List Request) → changes_from (xs ++ ys) ≡ changes_from xs ++ changes_from ys
  changes-append xs ys =
      ap (changes_of site) (map-append request_from xs ys)
      ∙ filter_map-append (λ (r : RequestOf). operation_change site r.panel r.operation) (requests_from xs) (requests_from ys)

  -- the change of one operation more
  changes_more : (k : ℕ) (d : Request) → k < length waiting
      → changes_from (take (k + 1) waiting) ≡ changes_from (take k waiting) ++ cons_option (change_at (get_or waiting k d)) []
  changes_more k d within =
      ap changes_from (take_more waiting k d within) ∙ changes-append (take k waiting) (get_or waiting k d ∷ [])

  changes_short : (k : ℕ) → length (changes_from (take k waiting)) ≤ length (changes_from waiting)
  changes_short k =
      let whole = ap (λ rs. length (changes_from rs)) (take-append-drop k waiting) in
      let split = ap length (changes-append (take k waiting) (drop k waiting))
      ∙ length-append (changes_from (take k waiting)) (changes_from (drop k waiting)) in
      omega (arith, whole, split)

  -- there is room for the next one
  pub change_fits : (old now : List Change) (k most : ℕ) (d : Request) → k < length waiting → now ≡ old ++ changes_from (take k waiting)
      → length (old ++ changes_from waiting) ≤ most → length (now ++ cons_option (change_at (get_or waiting k d)) []) ≤ most
  change_fits old now k most d within is room =
      let so_far = changes_short (k + 1) in
      let next = ap length (changes_more k d within)
      ∙ length-append (changes_from (take k waiting)) (cons_option (change_at (get_or waiting k d)) []) in
      let both = ap (λ xs. length (xs ++ cons_option (change_at (get_or waiting k d)) [])) is
      ∙ length-append (old ++ changes_from (take k waiting)) (cons_option (change_at (get_or waiting k d)) []) in
      let first = length-append old (changes_from (take k waiting)) in
      let last = length-append old (changes_from waiting) in
      omega (arith, so_far, next, both, first, last, room)

  -- and it is put behind those before
  pub change_put : (old now new : List Change) (k : ℕ) (d : Request) → k < length waiting → now ≡ old ++ changes_from (take k waiting)
      → new ≡ now ++ cons_option (change_at (get_or waiting k d)) [] → new ≡ old ++ changes_from (take (k + 1) waiting)
  change_put old now new k d within is put =
      put ∙ ap (λ xs. xs ++ cons_option (change_at (get_or waiting k d)) []) is
      ∙ append_assoc old (changes_from (take k waiting)) (cons_option (change_at (get_or waiting k d)) [])
      ∙ ap (λ xs. old ++ xs) (sym (changes_more k d within))
