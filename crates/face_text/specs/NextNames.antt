-- How far a walk over a list of the site may go while a group's things are named one after another.
use Rattle.std.specs.Prelude.{◌≡◌, ◌≤◌, ℕ, drop}
use Rattle.site_types.specs.declared.site.Site.{Site}
use Rattle.face_text.specs.declared.group.Group.{Group}
use Rattle.face_text.specs.Slots.{name_in}

-- a site without the first things of each list
abbrev pub without_first : ℕ → Site → Site
without_first count site = record site {
  zones = drop count site.zones;
  points = drop count site.points;
  outputs = drop count site.outputs;
}

-- the names of a group's things from a number on are found behind so many things of a list
abbrev pub AreNamedBehind : ℕ → Site → ℕ → Group → ℕ → Type 0
AreNamedBehind count site panel group from =
    (number : ℕ) → from ≤ number
    → name_in (without_first count site) panel group number ≡ name_in site panel group number
