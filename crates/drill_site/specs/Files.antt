-- The site file of a drill, line by line.
use Rattle.std.specs.Prelude.{◌+◌, ◌-◌, ◌*◌, ◌/◌, ℕ, zero, suc, List, [], ◌++◌, codes, decimal}
use Rattle.drill_site.specs.declared.part.Part.{Part}
use Rattle.drill_site.specs.declared.part.Part.TheVariants.{Loops, Zones, Points, Outputs, Markers}

-- what stands for each of the numbers 1 to n, one behind another
unfoldable pub for_each : (ℕ → List ℕ) → ℕ → List ℕ
for_each text zero = []
for_each text (suc n) = for_each text n ++ text (suc n)

-- ---- names

-- the zone of an address: each loop has eight, of twelve addresses each
abbrev pub zone_number : ℕ → ℕ → ℕ
zone_number line address = 8 * (line - 1) + (address - 1) / 12 + 1

abbrev pub zone_label : ℕ → ℕ → List ℕ
zone_label panel number = codes "z" ++ decimal panel ++ codes "-" ++ decimal number

abbrev pub point_label : ℕ → ℕ → ℕ → List ℕ
point_label panel line address =
    codes "p" ++ decimal panel ++ codes "-l" ++ decimal line ++ codes "-a" ++ decimal address

-- ---- lines

abbrev pub loop_line : ℕ → ℕ → List ℕ
loop_line panel line =
    codes "  { panel = " ++ decimal panel ++ codes ", loop = " ++ decimal line
    ++ codes ", last = 96, isolators = [12, 24, 36, 48, 60, 72, 84] },\n"

abbrev pub zone_line : ℕ → ℕ → List ℕ
zone_line panel number =
    codes "  { name = \"" ++ zone_label panel number ++ codes "\", panel = " ++ decimal panel
    ++ codes ", number = " ++ decimal number ++ codes " },\n"

abbrev pub point_line : ℕ → ℕ → ℕ → List ℕ
point_line panel line address =
    codes "  { name = \"" ++ point_label panel line address ++ codes "\", panel = " ++ decimal panel
    ++ codes ", loop = " ++ decimal line ++ codes ", address = " ++ decimal address
    ++ codes ", zone = \"" ++ zone_label panel (zone_number line address) ++ codes "\" },\n"

abbrev pub output_line : ℕ → List ℕ
output_line panel =
    codes "  { name = \"bells-" ++ decimal panel ++ codes "\", panel = " ++ decimal panel
    ++ codes ", number = 1, kind = \"sounder\", when = \"any-" ++ decimal panel ++ codes "\" },\n"

abbrev pub term_text : ℕ → ℕ → List ℕ
term_text panel number = codes "\"zone:" ++ zone_label panel number ++ codes "\", "

abbrev pub marker_head : ℕ → List ℕ
marker_head panel = codes "  { name = \"any-" ++ decimal panel ++ codes "\", kind = \"any\", terms = ["

-- any of the panel's zones
unfoldable pub marker_line : ℕ → List ℕ
marker_line panel = marker_head panel ++ for_each (term_text panel) 32 ++ codes "] },\n"

-- ---- lists, in order of panel, loop and address

unfoldable pub loops_of_panel : ℕ → List ℕ
loops_of_panel panel = for_each (loop_line panel) 4

unfoldable pub zones_of_panel : ℕ → List ℕ
zones_of_panel panel = for_each (zone_line panel) 32

unfoldable pub points_of_loop : ℕ → ℕ → List ℕ
points_of_loop panel line = for_each (point_line panel line) 96

unfoldable pub points_of_panel : ℕ → List ℕ
points_of_panel panel = for_each (points_of_loop panel) 4

-- ---- the file

-- how each list of the site file of a drill begins: with its key
abbrev pub list_head : Part → List ℕ
list_head Loops = codes "loop = [\n"
list_head Zones = codes "zone = [\n"
list_head Points = codes "point = [\n"
list_head Outputs = codes "output = [\n"
list_head Markers = codes "marker = [\n"

-- what stands in a list for a panel
abbrev pub text_of_panel : Part → ℕ → List ℕ
text_of_panel Loops panel = loops_of_panel panel
text_of_panel Zones panel = zones_of_panel panel
text_of_panel Points panel = points_of_panel panel
text_of_panel Outputs panel = output_line panel
text_of_panel Markers panel = marker_line panel

-- a list, with all eight panels
unfoldable pub part_text : Part → List ℕ
part_text part = list_head part ++ for_each (text_of_panel part) 8 ++ codes "]\n"

abbrev pub head_text : List ℕ
head_text = codes "format = 1\nsite = \"drill\"\npanels = 8\n"

unfoldable pub drill_file : List ℕ
drill_file =
    head_text ++ part_text Loops ++ part_text Zones ++ part_text Points ++ part_text Outputs ++ part_text Markers
