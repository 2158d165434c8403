-- What the words of a call ask for.
use Rattle.std.specs.Prelude.{◌&&◌, ◌≤◌, ℕ, Bool, nat_le, List, [], ◌∷◌, Option, Some, codes, if◌then◌else◌}
use Rattle.std.specs.Str.{bytes_eq}
use Rattle.site_types.specs.Limits.{most_panels}
use Rattle.site_types.specs.Numbers.{number_of}
use Rattle.panel_drill.specs.Running.{most_ticks}
use Rattle.panel_program.specs.declared.command.Command.{Command}
use Rattle.panel_program.specs.declared.command.Command.TheVariants.{Usage, Check, Run, Matrix, Drill, Move}
use Rattle.panel_program.specs.declared.command.Command.TheVariants.{Audit, Import, Serve, Node}

-- the greatest port, and the most connections that may be served
abbrev pub most_port : ℕ
most_port = 65535

abbrev pub most_connections : ℕ
most_connections = 1000000

-- a drill has no more ticks than it may have, and serving as many connections; panels are counted from 1
abbrev pub IsBounded : Command → Type 0
IsBounded (Drill seed ticks) = ticks ≤ most_ticks
IsBounded (Serve port count) = (1 ≤ count) × (count ≤ most_connections)
IsBounded (Node panel port count) = (1 ≤ panel) × (1 ≤ count) × (count ≤ most_connections)
IsBounded _ = Unit {0}

-- a drill from a seed, of 1 to 100,000 ticks
abbrev pub drill_by : Option ℕ → Option ℕ → Command
drill_by (Some seed) (Some ticks) =
    if nat_le 1 ticks && nat_le ticks most_ticks then Drill seed ticks else Usage
drill_by _ _ = Usage

abbrev pub is_serving : ℕ → ℕ → Bool
is_serving port count =
    nat_le 1 port && (nat_le port most_port && (nat_le 1 count && nat_le count most_connections))

-- serving at a port from 1 to 65,535, 1 to 1,000,000 connections
abbrev pub serving_by : Option ℕ → Option ℕ → Command
serving_by (Some port) (Some count) = if is_serving port count then Serve port count else Usage
serving_by _ _ = Usage

-- serving panel 1 to 8 by itself so
abbrev pub node_by : Option ℕ → Option ℕ → Option ℕ → Command
node_by (Some panel) (Some port) (Some count) =
    if nat_le 1 panel && (nat_le panel most_panels && is_serving port count) then Node panel port count else Usage
node_by _ _ _ = Usage

-- `check SITE`, `matrix SITE`, `run SITE JOURNAL`, `drill SEED TICKS`, whose two numbers are decimal without sign or
-- leading zero, `import SITE FILE REGISTER`, `audit SITE RECORD TEXT`, `move OLD NEW JOURNAL TARGET`,
-- `serve SITE JOURNAL PORT COUNT`, whose last two are such numbers too, and `node SITE JOURNAL PANEL PORT COUNT`, whose
-- last three are; all other words are a question for usage
abbrev pub command_of : List (List ℕ) → Command
command_of (word ∷ site ∷ []) =
    if bytes_eq word (codes "check") then Check else
    (if bytes_eq word (codes "matrix") then Matrix else Usage)
command_of (word ∷ second ∷ third ∷ []) =
    if bytes_eq word (codes "run") then Run else
    (if bytes_eq word (codes "drill") then drill_by (number_of second) (number_of third) else Usage)
command_of (word ∷ site ∷ third ∷ fourth ∷ []) =
    if bytes_eq word (codes "import") then Import else
    (if bytes_eq word (codes "audit") then Audit else Usage)
command_of (word ∷ second ∷ third ∷ fourth ∷ fifth ∷ []) =
    if bytes_eq word (codes "move") then Move else
    (if bytes_eq word (codes "serve") then serving_by (number_of fourth) (number_of fifth) else Usage)
command_of (word ∷ second ∷ third ∷ fourth ∷ fifth ∷ sixth ∷ []) =
    if bytes_eq word (codes "node") then node_by (number_of fourth) (number_of fifth) (number_of sixth) else Usage
command_of _ = Usage
