-- The numbers of ticks that a site's format, 1 or 2, gives: in format 2 a tick is half as long, so each
-- number is twice as great.
use Rattle.std.specs.Prelude.{ℕ, ◌+◌, ◌*◌}

-- a round of asking: each address is asked once in it
abbrev pub round_of : ℕ → ℕ
round_of format = 12 * format

-- the own panel shows a zone, and its own outputs are on, after the start of a signal that lasts a round
abbrev pub signal_of : ℕ → ℕ
signal_of format = 20 * format

-- own outputs are on after the indication
abbrev pub output_of : ℕ → ℕ
output_of format = 6 * format

-- joined panels show the zone and have their outputs on
abbrev pub network_of : ℕ → ℕ
network_of format = 40 * format

-- of the ticks of `network_of`, those until a zone stands settled in the word of its own panel
abbrev pub settled_of : ℕ → ℕ
settled_of format = 16 * format

-- of the ticks of `network_of`, those until a settled word has come to every joined panel and acts there
abbrev pub spread_of : ℕ → ℕ
spread_of format = 24 * format

-- ticks that are added to a single detector's time in a zone of type A
abbrev pub verify_of : ℕ → ℕ
verify_of format = 12 * format

-- a fault is shown after its condition, its wait apart
abbrev pub fault_of : ℕ → ℕ
fault_of format = 200 * format

-- a disablement is shown after its operation
abbrev pub disablement_of : ℕ → ℕ
disablement_of format = 4 * format

-- what still stands after a reset is shown again
abbrev pub reset_of : ℕ → ℕ
reset_of format = 40 * format

-- silent askings in a row that make a point missing, in either format
abbrev pub missing_askings : ℕ
missing_askings = 3

-- ticks without a newer word after which a panel is silent
abbrev pub silent_of : ℕ → ℕ
silent_of format = 60 * format

-- ticks without confirmation after which an output shows a fault
abbrev pub routing_of : ℕ → ℕ
routing_of format = 200 * format

-- the greatest waits before a supply's fault is shown that a site may set
abbrev pub greatest_mains_wait_of : ℕ → ℕ
greatest_mains_wait_of format = 3600 * format

abbrev pub greatest_standby_wait_of : ℕ → ℕ
greatest_standby_wait_of format = 1800 * format

abbrev pub greatest_voltage_wait_of : ℕ → ℕ
greatest_voltage_wait_of format = 3600 * format

abbrev pub greatest_charger_wait_of : ℕ → ℕ
greatest_charger_wait_of format = 3600 * format

-- the greatest delay of an output
abbrev pub greatest_delay_of : ℕ → ℕ
greatest_delay_of format = 1200 * format

-- how long one detector of a zone of type A has to be in alarm, at least and at most
abbrev pub least_verify_of : ℕ → ℕ
least_verify_of format = 12 * format

abbrev pub greatest_verify_of : ℕ → ℕ
greatest_verify_of format = 120 * format

-- how far apart two detectors may be: for type A at least two rounds more than its verify, for type B this
abbrev pub least_within_a_of : ℕ → ℕ → ℕ
least_within_a_of format verify = verify + 24 * format

abbrev pub least_within_b_of : ℕ → ℕ
least_within_b_of format = 600 * format

abbrev pub greatest_within_of : ℕ → ℕ
greatest_within_of format = 3600 * format

-- the last address that a loop may have
abbrev pub last_address_of : ℕ → ℕ
last_address_of format = 96 * format

-- addresses of a loop that are asked in one tick
abbrev pub asked_at_once : ℕ
asked_at_once = 8
