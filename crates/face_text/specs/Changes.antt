-- The lines that tell how a face changed.
use Rattle.std.specs.Prelude.{◌==◌, ℕ, List, [], if◌then◌else◌}
use Rattle.std.specs.List.{flat_map, range_with_len}
use Rattle.site_types.specs.declared.site.Site.{Site}
use Rattle.face_text.specs.declared.face.Face.{Face}
use Rattle.face_text.specs.declared.group.Group.{Group}
use Rattle.face_text.specs.Slots.{Slot, Thing, line_of, slots, slots_of, value_in}

-- the line of a slot, where its value was another before
abbrev pub change_of : Site → Face → Face → Slot → List ℕ
change_of site before after slot =
    if value_in before slot == value_in after slot then [] else line_of site after.panel slot
    (value_in after slot)

-- the lines of the things of a group with numbers up to this one
abbrev pub numbers_text : Site → Face → Face → Group → ℕ → List ℕ
numbers_text site before after group count =
    flat_map (λ number. change_of site before after (Thing group number)) (range_with_len 1 count)

-- the lines of a group, and of some groups
abbrev pub group_text : Site → Face → Face → Group → List ℕ
group_text site before after group = flat_map (change_of site before after) (slots_of site after.panel group)

abbrev pub groups_text : Site → Face → Face → List Group → List ℕ
groups_text site before after groups = flat_map (group_text site before after) groups

-- the lines of all slots whose value was another before, in the order of the page
abbrev pub changes_text : Site → Face → Face → List ℕ
changes_text site before after = flat_map (change_of site before after) (slots site after.panel)
