-- The line of an accepted site.
use Rattle.std.specs.Prelude.{ℕ, List, ◌++◌, length, codes, decimal}
use Rattle.site_types.specs.declared.site.Site.{Site}

-- the counts of an accepted site
abbrev pub counts_line : Site → List ℕ
counts_line site =
    codes "ok panels " ++ decimal site.panels ++ codes " points " ++ decimal (length site.points)
    ++ codes " zones " ++ decimal (length site.zones)
    ++ codes " outputs " ++ decimal (length site.outputs) ++ codes " markers "
    ++ decimal (length site.markers) ++ codes "\n"
