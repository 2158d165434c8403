-- The lists of a face in JSON, from the slots of its page.
use Rattle.std.specs.Prelude.{◌++◌, ℕ, Bool, true, false, List, [], ◌∷◌, Option, Some, None, codes, if◌then◌else◌}
use Rattle.std.specs.List.{flat_map, range_with_len}
use Rattle.site_types.specs.declared.site.Site.{Site}
use Rattle.face_text.specs.declared.face.Face.{Face}
use Rattle.face_text.specs.declared.face_list.FaceList.{FaceList}
use Rattle.face_text.specs.declared.face_list.FaceList.TheVariants.{Zones as ZoneList, Firsts as FirstList}
use Rattle.face_text.specs.declared.face_list.FaceList.TheVariants.{Faults as FaultList, Outputs as OutputList}
use Rattle.face_text.specs.declared.face_list.FaceList.TheVariants.{Disabled as DisabledList, Tests as TestList}
use Rattle.face_text.specs.declared.group.Group.{Group}
use Rattle.face_text.specs.declared.group.Group.TheVariants.{Zones, Firsts, Missing, Broken, Shorted, Supplies}
use Rattle.face_text.specs.declared.group.Group.TheVariants.{Silent, Links, Unconfirmed, Outputs, Confirmed}
use Rattle.face_text.specs.declared.group.Group.TheVariants.{PointsOff, ZonesOff, OutputsOff, Tests}
use Rattle.face_text.specs.Slots.{kind_of, last_of, name_in, page, shows}

abbrev pub is_zones : FaceList → Bool
is_zones ZoneList = true
is_zones _ = false

abbrev pub is_firsts : FaceList → Bool
is_firsts FirstList = true
is_firsts _ = false

abbrev pub is_faults : FaceList → Bool
is_faults FaultList = true
is_faults _ = false

abbrev pub is_outputs : FaceList → Bool
is_outputs OutputList = true
is_outputs _ = false

abbrev pub is_disabled : FaceList → Bool
is_disabled DisabledList = true
is_disabled _ = false

abbrev pub is_tests : FaceList → Bool
is_tests TestList = true
is_tests _ = false

-- the lines of a group belong to a list; those of confirmed outputs belong to none
abbrev pub is_in : FaceList → Group → Bool
is_in list (Zones panel) = is_zones list
is_in list (Firsts panel) = is_firsts list
is_in list (Missing line) = is_faults list
is_in list Broken = is_faults list
is_in list Shorted = is_faults list
is_in list Supplies = is_faults list
is_in list Silent = is_faults list
is_in list Links = is_faults list
is_in list Unconfirmed = is_faults list
is_in list Outputs = is_outputs list
is_in list Confirmed = false
is_in list (PointsOff line) = is_disabled list
is_in list ZonesOff = is_disabled list
is_in list OutputsOff = is_disabled list
is_in list Tests = is_tests list

-- the item of a thing, if the site has it: its name, with the kind of a fault or of what is disabled in front
abbrev pub named_item : Group → Option (List ℕ) → List (List ℕ)
named_item group None = []
named_item group (Some name) = (kind_of group ++ name) ∷ []

-- the item of a number of a group, if the face shows its thing
abbrev pub item_of : Site → Face → Group → ℕ → List (List ℕ)
item_of site face group number =
    if shows face group number then named_item group (name_in site face.panel group number) else []

-- the items of the first numbers of a group
abbrev pub group_items : Site → Face → Group → ℕ → List (List ℕ)
group_items site face group count = flat_map (item_of site face group) (range_with_len 1 count)

-- the items of a group, where it belongs to a list
abbrev pub items_in : Site → Face → FaceList → Group → List (List ℕ)
items_in site face list group = if is_in list group then group_items site face group (last_of group) else []

-- all items of a list, in the order of the page
abbrev pub items_of : Site → Face → FaceList → List (List ℕ)
items_of site face list = flat_map (items_in site face list) page

abbrev pub quoted : List ℕ → List ℕ
quoted item = codes "\"" ++ item ++ codes "\""

abbrev pub comma : Bool → List ℕ
comma begun = if begun then codes "," else []

-- items one after another, a comma in front of each but the first of a list
abbrev pub listed : Bool → List (List ℕ) → List ℕ
listed begun [] = []
listed begun (item ∷ items) = (comma begun ++ quoted item) ++ listed true items

-- a list has begun once it has an item
abbrev pub begun_after : Bool → List (List ℕ) → Bool
begun_after begun [] = begun
begun_after begun (item ∷ items) = true

-- the text of a list
abbrev pub list_text : Site → Face → FaceList → List ℕ
list_text site face list = codes "[" ++ (listed false (items_of site face list) ++ codes "]")
