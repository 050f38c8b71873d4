-- The names of scripts, by the module that plays them.
use Rattle.std.specs.Prelude.{ℕ, List, Bool, true, false, codes, if◌then◌else◌}
use Rattle.std.specs.Str.{bytes_eq}

-- whether `workers` plays a script of this name
abbrev pub is_worker_script : List ℕ → Bool
is_worker_script name = if bytes_eq name (codes "worker") then true
    else false

-- whether `workers::letters` plays a script of this name
abbrev pub is_letters_script : List ℕ → Bool
is_letters_script name = if bytes_eq name (codes "letters") then true
    else false

-- whether `workers::connection` plays a script of this name
abbrev pub is_connection_script : List ℕ → Bool
is_connection_script name = if bytes_eq name (codes "connection") then true
    else if bytes_eq name (codes "ends") then true
    else false

-- whether `workers::streams` plays a script of this name
abbrev pub is_streams_script : List ℕ → Bool
is_streams_script name = if bytes_eq name (codes "streams") then true
    else false

-- whether `faults::together` plays a script of this name
abbrev pub is_together_script : List ℕ → Bool
is_together_script name = if bytes_eq name (codes "cuts") then true
    else if bytes_eq name (codes "crashes") then true
    else if bytes_eq name (codes "gone") then true
    else if bytes_eq name (codes "schedules") then true
    else if bytes_eq name (codes "settles") then true
    else false

-- whether `outbox` plays a script of this name
abbrev pub is_outbox_script : List ℕ → Bool
is_outbox_script name = if bytes_eq name (codes "outbox") then true
    else if bytes_eq name (codes "poison") then true
    else false

-- whether `producer` plays a script of this name
abbrev pub is_producer_script : List ℕ → Bool
is_producer_script name = if bytes_eq name (codes "producer") then true
    else false

-- whether `faults::both_ends` plays a script of this name
abbrev pub is_both_ends_script : List ℕ → Bool
is_both_ends_script name = if bytes_eq name (codes "both-ends") then true
    else false
