-- The profile's table in JSON.
use Rattle.std.specs.Prelude.{◌++◌, ℕ, List, [], codes}
use Rattle.site_types.specs.Profile.{disablement_of, fault_of, greatest_charger_wait_of, greatest_mains_wait_of}
use Rattle.site_types.specs.Profile.{greatest_standby_wait_of, greatest_voltage_wait_of, missing_askings, network_of}
use Rattle.site_types.specs.Profile.{output_of, reset_of, routing_of, signal_of, silent_of, verify_of}
use Rattle.desk_answers.specs.Objects.{number_behind}

-- the rows up to the greatest wait of the mains, behind what was told
abbrev pub first_rows : List ℕ → ℕ → List ℕ
first_rows told format =
    told ++ number_behind (codes "{\"charger\":") (greatest_charger_wait_of format)
    ++ number_behind (codes ",\"disablement\":") (disablement_of format)
    ++ number_behind (codes ",\"fault\":") (fault_of format)
    ++ number_behind (codes ",\"indication\":") (signal_of format)
    ++ number_behind (codes ",\"mains\":") (greatest_mains_wait_of format)

-- the rows up to those on routing
abbrev pub middle_rows : List ℕ → ℕ → List ℕ
middle_rows told format =
    told ++ number_behind (codes ",\"missing\":") missing_askings
    ++ number_behind (codes ",\"network\":") (network_of format)
    ++ number_behind (codes ",\"output\":") (output_of format)
    ++ number_behind (codes ",\"reset\":") (reset_of format)
    ++ number_behind (codes ",\"routing\":") (routing_of format)

-- the rows behind these
abbrev pub last_rows : List ℕ → ℕ → List ℕ
last_rows told format =
    told ++ number_behind (codes ",\"signal\":") (signal_of format)
    ++ number_behind (codes ",\"silent\":") (silent_of format)
    ++ number_behind (codes ",\"standby\":") (greatest_standby_wait_of format)
    ++ number_behind (codes ",\"verify\":") (verify_of format)
    ++ number_behind (codes ",\"voltage\":") (greatest_voltage_wait_of format)

-- the table of a format, with its line end
abbrev pub table_text : ℕ → List ℕ
table_text format = last_rows (middle_rows (first_rows [] format) format) format ++ codes "}\n"
