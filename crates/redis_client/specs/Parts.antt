-- The parts of the text after `redis://`: LOGIN@HOST:PORT/DATABASE?SETTINGS, still encoded.
use Rattle.std.specs.Prelude.{ℕ, List, [], ◌∷◌, ◌==◌, if◌then◌else◌, Option, Some, None, option_map, unwrap_or}
use Rattle.redis_client.specs.Cut.{behind, front}

-- after the first question mark
abbrev pub settings_in : List ℕ → Option (List ℕ)
settings_in rest = behind 63 rest

-- after the first slash before that
abbrev pub database_in : List ℕ → Option (List ℕ)
database_in rest = behind 47 (front 63 rest)

-- before both
abbrev pub authority_in : List ℕ → List ℕ
authority_in rest = front 47 (front 63 rest)

-- before the first `@` of it, if there is one
abbrev pub login_in : List ℕ → Option (List ℕ)
login_in rest = option_map (λ _. front 64 (authority_in rest)) (behind 64 (authority_in rest))

-- after that, or all
abbrev pub place_in : List ℕ → List ℕ
place_in rest = unwrap_or (behind 64 (authority_in rest)) (authority_in rest)

-- a host in brackets, and the rest after them: nothing, or a colon and the port
abbrev pub in_brackets : List ℕ → Option (List ℕ) → Option (List ℕ × Option (List ℕ))
in_brackets host None = None
in_brackets host (Some []) = Some (host, None)
in_brackets host (Some (b ∷ port)) = if b == 58 then Some (host, Some port) else None

-- the host, and the port if one is given; the host may be in brackets
abbrev pub host_and_port : List ℕ → Option (List ℕ × Option (List ℕ))
host_and_port [] = Some ([], None)
host_and_port (b ∷ rest) = if b == 91 then in_brackets (front 93 rest) (behind 93 rest)
    else Some (front 58 (b ∷ rest), behind 58 (b ∷ rest))
