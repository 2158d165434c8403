-- The tables of a list in which no pass finds anything.
use Rattle.std.proofs.Common.{◌≡◌, ℕ, ◌+◌, List, [], ◌∷◌, true, Option, Some, None, is_some, ◌⊎◌, inl, inr, Ordering, Less, Equal, Greater, refl, ap, sym, subst, ◌∙◌, if◌then◌else◌}
use Rattle.std.proofs.lemmas.Map.Text.{is_eq-slice_cmp}
use Rattle.std.proofs.lemmas.Slice.Eq.{bytes_eq-Decides}
use Rattle.std.specs.Cmp.Lexicographic.{slice_cmp}
use Rattle.std.specs.List.{AllByRecursion}
use Rattle.std.specs.Ordering.{nat_cmp, is_eq, match_ordering}
use Rattle.toml.specs.Data.{Data, string, integer, float, boolean, datetime, array, table, Items, no_items, item, Members, no_members, member, get_member}
use Rattle.site_document.specs.declared.key.Key.TheVariants as key
use Rattle.site_document.specs.declared.place.Place.{Place}
use Rattle.site_document.specs.declared.row_kind.RowKind.{RowKind}
use Rattle.site_document.specs.declared.row_kind.RowKind.TheVariants as kind
use Rattle.site_document.specs.declared.pass.Pass.{Pass}
use Rattle.site_document.specs.declared.pass.Pass.TheVariants as pass
use Rattle.site_document.specs.Drafts.{collected, from_table}
use Rattle.site_document.specs.Missing.{missing_at}
use Rattle.site_document.specs.Ranges.{out_at}
use Rattle.site_document.specs.Refusals.{or_later, unknown}
use Rattle.site_document.specs.Rules.{keys_of}
use Rattle.site_document.specs.Tables.{items_at}
use Rattle.site_document.specs.Texts.{key_text}
use Rattle.site_document.specs.Unknown.{is_known, unknown_among, unknown_in}
use Rattle.site_document.specs.Walk.{finding, found_at, found_by, found_in, found_in_list, found_in_row, found_in_rows, whole}
use Rattle.site_document.specs.WrongKind.{wrong_at}
use Rattle.site_config.proofs.CleanKeys.{all_none, none_first, none_later, passed}

abbrev pub place_of : RowKind → ℕ → Place
place_of kind n = record { kind = kind; number = n }

-- no pass finds anything in a table
pub record IsClean (top : Members) (place : Place) (row : Members) : Type 0 where
  pub missing : found_in pass.Missing place top row ≡ None
  pub wrong : found_in pass.WrongKind place top row ≡ None
  pub unknown : found_in pass.Unknown place top row ≡ None
  pub out : found_in pass.OutOfRange place top row ≡ None

-- nor in the items of a list
pub record AreClean (top : Members) (kind : RowKind) (n : ℕ) (items : Items) : Type 0 where
  pub missing : found_in_rows pass.Missing kind top n items ≡ None
  pub wrong : found_in_rows pass.WrongKind kind top n items ≡ None
  pub unknown : found_in_rows pass.Unknown kind top n items ≡ None
  pub out : found_in_rows pass.OutOfRange kind top n items ≡ None

tail_clean : (top : Members) (kind : RowKind) (n : ℕ) (value : Data) (items : Items) → AreClean top kind n (item value items)
    → AreClean top kind (n + 1) items
tail_clean top kind n value items clean = record {
  missing = none_later (found_in_row pass.Missing (place_of kind n) top value) (found_in_rows pass.Missing kind top (n + 1) items) clean.missing;
  wrong = none_later (found_in_row pass.WrongKind (place_of kind n) top value) (found_in_rows pass.WrongKind kind top (n + 1) items) clean.wrong;
  unknown = none_later (found_in_row pass.Unknown (place_of kind n) top value) (found_in_rows pass.Unknown kind top (n + 1) items) clean.unknown;
  out = none_later (found_in_row pass.OutOfRange (place_of kind n) top value) (found_in_rows pass.OutOfRange kind top (n + 1) items) clean.out;
}

head_clean : (top : Members) (kind : RowKind) (n : ℕ) (row : Members) (items : Items) → AreClean top kind n (item (table row) items)
    → IsClean top (place_of kind n) row
unfolding found_in_row
head_clean top kind n row items clean = record {
  missing = none_first (found_in pass.Missing (place_of kind n) top row) (found_in_rows pass.Missing kind top (n + 1) items) clean.missing;
  wrong = none_first (found_in pass.WrongKind (place_of kind n) top row) (found_in_rows pass.WrongKind kind top (n + 1) items) clean.wrong;
  unknown = none_first (found_in pass.Unknown (place_of kind n) top row) (found_in_rows pass.Unknown kind top (n + 1) items) clean.unknown;
  out = none_first (found_in pass.OutOfRange (place_of kind n) top row) (found_in_rows pass.OutOfRange kind top (n + 1) items) clean.out;
}

-- what holds of each clean table's record holds of all records of a clean list
pub rows_all : {X : Type 0} (read : Members → X) (P : X → Type 0) (top : Members) (kind : RowKind) →
    ((n : ℕ) (row : Members) → IsClean top (place_of kind n) row → P (read row)) → (n : ℕ) (items : Items) → AreClean top kind n items
    → AllByRecursion P (collected (from_table read) items)
rows_all read P top kind each n no_items clean = tt
rows_all read P top kind each n (item (table row) items) clean =
    (each n row (head_clean top kind n row items clean), rows_all read P top kind each (n + 1) items (tail_clean top kind n (table row) items clean))
rows_all read P top kind each n (item (string x) items) clean =
    rows_all read P top kind each (n + 1) items (tail_clean top kind n (string x) items clean)
rows_all read P top kind each n (item (integer x) items) clean =
    rows_all read P top kind each (n + 1) items (tail_clean top kind n (integer x) items clean)
rows_all read P top kind each n (item (float x) items) clean =
    rows_all read P top kind each (n + 1) items (tail_clean top kind n (float x) items clean)
rows_all read P top kind each n (item (boolean x) items) clean =
    rows_all read P top kind each (n + 1) items (tail_clean top kind n (boolean x) items clean)
rows_all read P top kind each n (item (datetime x) items) clean =
    rows_all read P top kind each (n + 1) items (tail_clean top kind n (datetime x) items clean)
rows_all read P top kind each n (item (array x) items) clean =
    rows_all read P top kind each (n + 1) items (tail_clean top kind n (array x) items clean)

-- ---- what each pass says at the keys of a table

pub missing_keys : (top : Members) (place : Place) (row : Members) → IsClean top place row
    → AllByRecursion (λ k. missing_at place row k ≡ None) (keys_of place.kind)
unfolding found_in found_at
missing_keys top place row clean = all_none (missing_at place row) (keys_of place.kind) clean.missing

pub wrong_keys : (top : Members) (place : Place) (row : Members) → IsClean top place row
    → AllByRecursion (λ k. wrong_at place row k ≡ None) (keys_of place.kind)
unfolding found_in found_at
wrong_keys top place row clean = all_none (wrong_at place row) (keys_of place.kind) clean.wrong

pub out_keys : (top : Members) (place : Place) (row : Members) → IsClean top place row
    → AllByRecursion (λ k. out_at place top row k ≡ None) (keys_of place.kind)
unfolding found_in found_at
out_keys top place row clean = all_none (out_at place top row) (keys_of place.kind) clean.out

-- ---- a key that is there is known

same_by : (name l : List ℕ) → slice_cmp nat_cmp name l ≡ Equal → name ≡ l
same_by name l e = (bytes_eq-Decides name l).0 (sym (is_eq-slice_cmp name l) ∙ ap is_eq e)

here_or_later : (o : Ordering) (d : Data) (rest : Option Data) → is_some (match_ordering o rest (Some d) rest) ≡ true
    → (o ≡ Equal) ⊎ (is_some rest ≡ true)
here_or_later Less d rest e = inr e
here_or_later Equal d rest e = inl refl
here_or_later Greater d rest e = inr e

known_by : (place : Place) (row rest : Members) (name l : List ℕ)
    → or_later (if is_known place.kind row l then None else Some (unknown (key_text place l))) (unknown_among place row rest) ≡ None
    → (slice_cmp nat_cmp name l ≡ Equal) ⊎ (is_some (get_member name rest) ≡ true)
    → (is_some (get_member name rest) ≡ true → is_known place.kind row name ≡ true)
    → is_known place.kind row name ≡ true
known_by place row rest name l e (inl same) later =
    let P : List ℕ → Type 0 = λ n. is_known place.kind row n ≡ true in
    subst P (sym (same_by name l same))
    (passed (is_known place.kind row l) None (unknown (key_text place l))
    (none_first (if is_known place.kind row l then None else Some (unknown (key_text place l))) (unknown_among place row rest) e))
known_by place row rest name l e (inr more) later = later more

known_among : (place : Place) (row ms : Members) (name : List ℕ) → unknown_among place row ms ≡ None → is_some (get_member name ms) ≡ true
    → is_known place.kind row name ≡ true
known_among place row no_members name e there = absurd (cc there)
known_among place row (member l d rest) name e there =
    known_by place row rest name l e (here_or_later (slice_cmp nat_cmp name l) d (get_member name rest) there)
    (λ more. known_among place row rest name
    (none_later (if is_known place.kind row l then None else Some (unknown (key_text place l))) (unknown_among place row rest) e) more)

pub known_at : (top : Members) (place : Place) (row : Members) (name : List ℕ) → IsClean top place row → is_some (get_member name row) ≡ true
    → is_known place.kind row name ≡ true
unfolding found_in unknown_in
known_at top place row name clean there = known_among place row row name clean.unknown there

-- ---- the whole document

pub clean_top : (top : Members) → finding top ≡ None → IsClean top whole top
unfolding finding found_by
clean_top top e =
    let all = all_none (found_by top) (pass.Missing ∷ pass.WrongKind ∷ pass.Unknown ∷ pass.OutOfRange ∷ []) e in record {
      missing = none_first (found_in pass.Missing whole top top) _ all.0;
      wrong = none_first (found_in pass.WrongKind whole top top) _ all.1.0;
      unknown = none_first (found_in pass.Unknown whole top top) _ all.1.1.0;
      out = none_first (found_in pass.OutOfRange whole top top) _ all.1.1.1.0;
    }

lists_of : (top : Members) (p : Pass) → found_by top p ≡ None
    → AllByRecursion (λ k. found_in_list p top k ≡ None) (kind.Loop ∷ kind.Zone ∷ kind.Point ∷ kind.Output ∷ kind.Marker ∷ [])
unfolding found_by
lists_of top p e =
    all_none (found_in_list p top) (kind.Loop ∷ kind.Zone ∷ kind.Point ∷ kind.Output ∷ kind.Marker ∷ []) (none_later (found_in p whole top top) _ e)

pub record ListsAreClean (top : Members) : Type 0 where
  pub loops : AreClean top kind.Loop 1 (items_at key.Loops top)
  pub zones : AreClean top kind.Zone 1 (items_at key.Zones top)
  pub points : AreClean top kind.Point 1 (items_at key.Points top)
  pub outputs : AreClean top kind.Output 1 (items_at key.Outputs top)
  pub markers : AreClean top kind.Marker 1 (items_at key.Markers top)

pub clean_lists : (top : Members) → finding top ≡ None → ListsAreClean top
unfolding finding found_in_list
clean_lists top e =
    let all = all_none (found_by top) (pass.Missing ∷ pass.WrongKind ∷ pass.Unknown ∷ pass.OutOfRange ∷ []) e in
    let m = lists_of top pass.Missing all.0 in
    let w = lists_of top pass.WrongKind all.1.0 in
    let u = lists_of top pass.Unknown all.1.1.0 in
    let o = lists_of top pass.OutOfRange all.1.1.1.0 in record {
      loops = record { missing = m.0; wrong = w.0; unknown = u.0; out = o.0 };
      zones = record { missing = m.1.0; wrong = w.1.0; unknown = u.1.0; out = o.1.0 };
      points = record { missing = m.1.1.0; wrong = w.1.1.0; unknown = u.1.1.0; out = o.1.1.0 };
      outputs = record { missing = m.1.1.1.0; wrong = w.1.1.1.0; unknown = u.1.1.1.0; out = o.1.1.1.0 };
      markers = record { missing = m.1.1.1.1.0; wrong = w.1.1.1.1.0; unknown = u.1.1.1.1.0; out = o.1.1.1.1.0 };
    }
