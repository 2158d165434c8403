-- Which outputs of a panel are asked for.
use Rattle.std.specs.Prelude.{ℕ, ◌+◌, ◌==◌, ◌&&◌, Bool, List, filter}
use Rattle.std.specs.List.{list_any}
use Rattle.site_types.specs.Bits.{mask_of}
use Rattle.site_types.specs.declared.site.Site.{Site}
use Rattle.site_types.specs.declared.output.Output.{Output}
use Rattle.site_types.specs.declared.requests.Requests.{Requests}

-- an output is the one of a panel with a number, and its marker is true
abbrev pub asks : ℕ → (ℕ → Bool) → ℕ → Output → Bool
asks panel values number output =
    (output.panel == panel) && ((output.number == number) && values output.marker)

-- the outputs of a panel, in the order of the site
abbrev pub outputs_of : ℕ → List Output → List Output
outputs_of panel outputs = filter (λ (output : Output). output.panel == panel) outputs

-- an output, of those of one panel, has a number, and its marker is true
abbrev pub asks_among : (ℕ → Bool) → ℕ → Output → Bool
asks_among values number output = (output.number == number) && values output.marker

-- of the outputs of one panel those whose markers are true, bit `number - 1` each
abbrev pub asked_among : (ℕ → Bool) → List Output → ℕ
asked_among values outputs = mask_of 32 (λ bit. list_any (asks_among values (bit + 1)) outputs)

-- the outputs of a panel whose markers are true, bit `number - 1` each
abbrev pub asked : ℕ → (ℕ → Bool) → List Output → ℕ
asked panel values outputs = mask_of 32 (λ bit. list_any (asks panel values (bit + 1)) outputs)

-- the outputs that are asked for by one solution, and those asked for by hand, by the other
abbrev pub requests_of : Site → ℕ → (ℕ → Bool) → (ℕ → Bool) → Requests
requests_of site panel normal manual =
    record { asked = asked panel normal site.outputs; manual = asked panel manual site.outputs }
