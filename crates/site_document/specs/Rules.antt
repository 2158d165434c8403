-- The keys of each kind of table of a site file, in alphabetical order, and what the value of each has to be.
use Rattle.std.specs.Prelude.{List, [], ◌∷◌}
use Rattle.site_document.specs.declared.form.Form.{Form}
use Rattle.site_document.specs.declared.form.Form.TheVariants as form
use Rattle.site_document.specs.declared.key.Key.{Key}
use Rattle.site_document.specs.declared.key.Key.TheVariants as key
use Rattle.site_document.specs.declared.row_kind.RowKind.{RowKind}
use Rattle.site_document.specs.declared.row_kind.RowKind.TheVariants as kind

-- the keys of a table
unfoldable pub keys_of : RowKind → List Key
keys_of kind.Top = key.ChargerWait ∷ key.Format ∷ key.Level2 ∷ key.Level3 ∷ key.Level4 ∷ key.Loops
    ∷ key.MainsWait ∷ key.Markers ∷ key.Outputs ∷ key.Panels ∷ key.Points ∷ key.Site ∷ key.StandbyWait
    ∷ key.VoltageWait ∷ key.Zones ∷ []
keys_of kind.Loop = key.Isolators ∷ key.Last ∷ key.Loop ∷ key.Panel ∷ []
keys_of kind.Zone = key.Name ∷ key.Number ∷ key.Panel ∷ key.Partner ∷ key.Type ∷ key.Verify ∷ key.Within ∷ []
keys_of kind.Point = key.Address ∷ key.PointKind ∷ key.Loop ∷ key.Name ∷ key.Panel ∷ key.Zone ∷ []
keys_of kind.Output = key.Delay ∷ key.OutputKind ∷ key.Name ∷ key.Number ∷ key.Panel ∷ key.When ∷ []
keys_of kind.Marker = key.Count ∷ key.MarkerKind ∷ key.Name ∷ key.Terms ∷ []

-- the lists of tables, in the order in which they are looked at
abbrev pub row_kinds : List RowKind
row_kinds = kind.Loop ∷ kind.Zone ∷ kind.Point ∷ kind.Output ∷ kind.Marker ∷ []

-- what the value of a key has to be
unfoldable pub form_of : Key → Form
form_of key.Address = form.Number
form_of key.ChargerWait = form.Number
form_of key.Count = form.Number
form_of key.Delay = form.Number
form_of key.Format = form.Number
form_of key.Isolators = form.Numbers
form_of key.Last = form.Number
form_of key.Level2 = form.Digests
form_of key.Level3 = form.Digests
form_of key.Level4 = form.Digests
form_of key.Loop = form.Number
form_of key.Loops = form.Tables
form_of key.MainsWait = form.Number
form_of key.MarkerKind = form.MarkerKind
form_of key.Markers = form.Tables
form_of key.Name = form.Name
form_of key.Number = form.Number
form_of key.OutputKind = form.OutputKind
form_of key.Outputs = form.Tables
form_of key.Panel = form.Number
form_of key.Panels = form.Number
form_of key.Partner = form.Name
form_of key.PointKind = form.PointKind
form_of key.Points = form.Tables
form_of key.Site = form.Name
form_of key.StandbyWait = form.Number
form_of key.Terms = form.Terms
form_of key.Type = form.ZoneType
form_of key.Verify = form.Number
form_of key.VoltageWait = form.Number
form_of key.When = form.Name
form_of key.Within = form.Number
form_of key.Zone = form.Name
form_of key.Zones = form.Tables
