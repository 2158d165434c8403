-- What the bodies of requests say, in the words of the library that reads JSON.
use Rattle.std.specs.Prelude.{◌≡◌, ◌==◌, ◌^◌, nat_le, nat_lt, ℕ, Bool, false, List, [], ◌∷◌, codes}
use Rattle.std.specs.Prelude.{Option, Some, None, if◌then◌else◌}
use Rattle.std.specs.Option.{option_and_then}
use Rattle.std.specs.Str.{IsUtf8, bytes_eq}
use Rattle.serde_json.specs.Data.{Data, Items, Members, item, no_items}
use Rattle.serde_json.specs.Events.{items_len, members_len}
use Rattle.serde_json.specs.Find.{as_array, as_number, as_object, as_str, as_u64, get}
use Rattle.serde_json.specs.Read.{read}
use Rattle.service_keepers.specs.Tables.{VisitRow}
use Rattle.site_types.specs.Names.{code_of, name_of}
use Rattle.site_types.specs.Things.{thing_named}
use Rattle.site_types.specs.declared.named.Thing.{Thing}
use Rattle.site_types.specs.declared.named.Thing.TheVariants.{Point, Zone, Output, Marker}
use Rattle.site_types.specs.declared.site.Site.{Site}

-- the bytes are the text of this value
abbrev pub IsJson : List ℕ → Data → Type 0
IsJson bytes said = IsUtf8 bytes × (read bytes ≡ Some said)

-- the bytes are the text of a value that says this
abbrev pub SaysBody : {Said : Type 0} → (Data → Option Said) → List ℕ → Said → Type 0
SaysBody of_value bytes said = (value : Data) × IsJson bytes value × (of_value value ≡ Some said)

abbrev pub counts_members : ℕ → Option Members → Bool
counts_members count None = false
counts_members count (Some members) = members_len members == count

-- an object with so many keys
abbrev pub has_members : ℕ → Data → Bool
has_members count value = counts_members count (as_object value)

abbrev pub code_or_none : Option (List ℕ) → Option (Option (List ℕ))
code_or_none None = None
code_or_none (Some code) = Some (Some code)

-- `-` says no code
abbrev pub code_said : List ℕ → Option (Option (List ℕ))
code_said text = if bytes_eq text (codes "-") then Some None else code_or_none (code_of text)

-- the code of an object, or none
abbrev pub code_under : Data → Option (Option (List ℕ))
code_under value = option_and_then code_said (option_and_then as_str (get (codes "code") value))

-- a number below 2 ^ 32
abbrev pub small_count : ℕ → Option ℕ
small_count number = if nat_lt number (2 ^ 32) then Some number else None

abbrev pub number_under : List ℕ → Data → Option ℕ
number_under key value =
    option_and_then small_count (option_and_then as_u64 (option_and_then as_number (get key value)))

abbrev pub engineer_under : Data → Option (List ℕ)
engineer_under value = option_and_then name_of (option_and_then as_str (get (codes "engineer") value))

abbrev pub place_at : Option Thing → Option ℕ
place_at None = None
place_at (Some (Point place)) = Some place
place_at (Some (Zone place)) = None
place_at (Some (Output place)) = None
place_at (Some (Marker place)) = None

-- the place of the point of a site with this name
abbrev pub point_place : Site → List ℕ → Option ℕ
point_place site name = place_at (thing_named site name)

abbrev pub place_said : Site → Data → Option ℕ
place_said site value = option_and_then (point_place site) (as_str value)

abbrev pub with_place : Option ℕ → Option (List ℕ) → Option (List ℕ)
with_place None places = None
with_place (Some place) None = None
with_place (Some place) (Some places) = Some (place ∷ places)

-- the places of the points that a list names
abbrev pub places_of : Site → Items → Option (List ℕ)
places_of site no_items = Some []
places_of site (item value rest) = with_place (place_said site value) (places_of site rest)

-- at most 384 names
abbrev pub few_places : Site → Items → Option (List ℕ)
few_places site names = if nat_le (items_len names) 384 then places_of site names else None

abbrev pub list_under : Data → Option Items
list_under value = option_and_then as_array (get (codes "points") value)

abbrev pub points_in : Site → Data → Option (List ℕ)
points_in site value = option_and_then (few_places site) (list_under value)

-- the code of a stop, an object with that key alone
abbrev pub stop_of : Data → Option (Option (List ℕ))
stop_of value = if has_members 1 value then code_under value else None

-- what a visit says
pub record VisitSaid : Type 0 where
  pub code : Option (List ℕ)
  pub visit : VisitRow
  pub points : List ℕ

-- a visit of these parts, all of which are there
abbrev pub visit_of_parts : Option (Option (List ℕ)) → Option ℕ → Option (List ℕ) → Option ℕ → Option (List ℕ)
    → Option VisitSaid
visit_of_parts (Some code) (Some day) (Some engineer) (Some number) (Some points) =
    Some (record { code = code; visit = record { number = number; day = day; engineer = engineer }; points = points })
visit_of_parts _ _ _ _ _ = None

abbrev pub parts_of : Site → Data → Option VisitSaid
parts_of site value =
    visit_of_parts (code_under value) (number_under (codes "day") value) (engineer_under value)
    (number_under (codes "visit") value) (points_in site value)

-- a visit to a site, an object with exactly these keys
abbrev pub visit_of : Site → Data → Option VisitSaid
visit_of site value =
    if has_members 5 value then parts_of site value else None
