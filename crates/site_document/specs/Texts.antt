-- How keys of a site file are written in a refusal.
use Rattle.std.specs.Prelude.{ℕ, List, [], ◌++◌, codes, if◌then◌else◌, ◌==◌}
use Rattle.std.specs.Fmt.{decimal}
use Rattle.site_document.specs.declared.key.Key.{Key}
use Rattle.site_document.specs.declared.key.Key.TheVariants as key
use Rattle.site_document.specs.declared.row_kind.RowKind.{RowKind}
use Rattle.site_document.specs.declared.row_kind.RowKind.TheVariants as kind
use Rattle.site_document.specs.declared.place.Place.{Place}

-- a key as it stands in the file
unfoldable pub key_word : Key → List ℕ
key_word key.Address = codes "address"
key_word key.ChargerWait = codes "charger_wait"
key_word key.Count = codes "count"
key_word key.Delay = codes "delay"
key_word key.Format = codes "format"
key_word key.Isolators = codes "isolators"
key_word key.Last = codes "last"
key_word key.Level2 = codes "level2"
key_word key.Level3 = codes "level3"
key_word key.Level4 = codes "level4"
key_word key.Loop = codes "loop"
key_word key.Loops = codes "loop"
key_word key.MainsWait = codes "mains_wait"
key_word key.MarkerKind = codes "kind"
key_word key.Markers = codes "marker"
key_word key.Name = codes "name"
key_word key.Number = codes "number"
key_word key.OutputKind = codes "kind"
key_word key.Outputs = codes "output"
key_word key.Panel = codes "panel"
key_word key.Panels = codes "panels"
key_word key.Partner = codes "partner"
key_word key.PointKind = codes "kind"
key_word key.Points = codes "point"
key_word key.Site = codes "site"
key_word key.StandbyWait = codes "standby_wait"
key_word key.Terms = codes "terms"
key_word key.Type = codes "type"
key_word key.Verify = codes "verify"
key_word key.VoltageWait = codes "voltage_wait"
key_word key.When = codes "when"
key_word key.Within = codes "within"
key_word key.Zone = codes "zone"
key_word key.Zones = codes "zone"

-- the key of the list in which tables of a kind stand
unfoldable pub kind_word : RowKind → List ℕ
kind_word kind.Top = []
kind_word kind.Loop = codes "loop"
kind_word kind.Zone = codes "zone"
kind_word kind.Point = codes "point"
kind_word kind.Output = codes "output"
kind_word kind.Marker = codes "marker"

-- a place in a list, as `[2]`
abbrev pub brackets : ℕ → List ℕ
brackets n = codes "[" ++ decimal n ++ codes "]"

-- a table by its place, as `zone[2]`
unfoldable pub row_text : Place → List ℕ
row_text place = kind_word place.kind ++ brackets place.number

-- a key of a table, as `zone[2].panel`, and of the table of the whole file by its name alone
unfoldable pub key_text : Place → List ℕ → List ℕ
key_text place name = if place.number == 0 then name else row_text place ++ codes "." ++ name

-- an item of the list at a key, as `marker[1].terms[3]`
unfoldable pub item_text : Place → List ℕ → ℕ → List ℕ
item_text place name n = key_text place name ++ brackets n
