-- What the doors in memory tell.
use Rattle.std.specs.Prelude.{◌-◌, ℕ, Bool, true, false, List, Some, None, take, drop, map, if◌then◌else◌}
use Rattle.desk_doors.specs.Doors.{ToldConn, conn_told}
use Rattle.desk_doors.specs.declared.memory_conn.MemoryConn.{MemoryConn}
use Rattle.desk_doors.specs.declared.sound_memory_conn.SoundMemoryConn.{SoundMemoryConn}

-- how many of the connections that were given are handed back
abbrev pub handed_count : ℕ → Bool → ℕ
handed_count given true = given - 1
handed_count given false = given

abbrev pub told_conn : MemoryConn → ToldConn
told_conn conn = conn_told (Some (drop conn.input.at conn.input.bytes.items)) (Some conn.output.bytes.items)

abbrev pub told_sound_conn : SoundMemoryConn → ToldConn
told_sound_conn conn =
    conn_told
    (Some (drop conn.input.at conn.input.bytes.items))
    (if conn.output.passed then None else Some conn.output.bytes.items)

-- the connections that were not given yet
abbrev pub not_given : {C : Type 0} → (C → ToldConn) → List C → ℕ → List ToldConn
not_given told conns given = map told (drop given conns)

-- the connections that were given and handed back
abbrev pub given_back : {C : Type 0} → (C → ToldConn) → List C → ℕ → Bool → List ToldConn
given_back told conns given is_out = map told (take (handed_count given is_out) conns)
