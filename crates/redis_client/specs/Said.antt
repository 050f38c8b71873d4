-- What the text of an address means, and why a text is not one.
use Rattle.std.specs.Prelude.{⊤, ◌≡◌, ◌≢◌, ◌<◌, ◌++◌, ◌^◌, ℕ, List, [], ◌∷◌, Option, Some, None, option_map, option_and_then, codes, decimal, if◌then◌else◌}
use Rattle.std.specs.Str.{IsUtf8, bytes_eq}
use Rattle.percent_encoding.specs.Percent.{percent_decode}
use Rattle.redis_client.specs.AddressMeaning.{Meaning}
use Rattle.redis_client.specs.Cut.{behind, front}
use Rattle.redis_client.specs.Parts.{database_in, host_and_port, login_in, place_in, settings_in}
use Rattle.redis_client.specs.declared.address.AddressError.{AddressError}
use Rattle.redis_client.specs.declared.address.AddressError.TheVariants as errors
use Rattle.redis_client.specs.declared.settings.Settings as settings
use Rattle.redis_client.specs.declared.address.Protocol.{Protocol}
use Rattle.redis_client.specs.declared.address.Protocol.TheVariants.{Resp2, Resp3}

-- the port: 6379 if none is given, else a number from 1 to 65,535 in decimal
abbrev pub IsPort : Option (List ℕ) → ℕ → Type 0
IsPort None port = port ≡ 6379
IsPort (Some text) port = (decimal port ≡ text) × (0 < port) × (port < 2 ^ 16)

-- the database: 0 if none is given, else a number up to 65,535 in decimal
abbrev pub IsDatabase : Option (List ℕ) → ℕ → Type 0
IsDatabase None n = n ≡ 0
IsDatabase (Some []) n = n ≡ 0
IsDatabase (Some (b ∷ text)) n = (decimal n ≡ b ∷ text) × (n < 2 ^ 16)

-- the user before the colon and the password after it, both percent-decoded
abbrev pub credentials : List ℕ → Option (List ℕ) → Option (List ℕ × List ℕ)
credentials user None = None
credentials user (Some password) = Some (percent_decode user, percent_decode password)

-- there are no credentials if nothing is given; else the text has a colon
abbrev pub IsLogin : Option (List ℕ) → Option (List ℕ × List ℕ) → Type 0
IsLogin None login = login ≡ None
IsLogin (Some text) login = (login ≢ None) × (credentials (front 58 text) (behind 58 text) ≡ login)

-- a host is not empty, and has no `@`
abbrev pub IsHost : List ℕ → Type 0
IsHost host = (host ≢ []) × (behind 64 host ≡ None)

-- `2` or `3`
abbrev pub protocol_of : List ℕ → Option Protocol
protocol_of text = if bytes_eq text (codes "2") then Some Resp2 else if bytes_eq text (codes "3") then Some Resp3 else None

-- a name, percent-decoded; a `&` in it is refused
abbrev pub name_of : List ℕ → Option (List ℕ) → Option (List ℕ)
name_of text None = Some (percent_decode text)
name_of text (Some more) = None

-- the protocol and the name of a connection, as the settings define them
pub record Chosen : Type 0 where
  pub protocol : Protocol
  pub name : Option (List ℕ)

-- what settings of the code mean
abbrev pub chosen : settings.Settings → Chosen
chosen s = record { protocol = s.protocol; name = option_map (λ n. n.items) s.name }

-- without settings: RESP2 and no name
abbrev pub no_settings : Chosen
no_settings = record { protocol = Resp2; name = None }

-- the settings with the one of this key replaced
abbrev pub with_value : Chosen → List ℕ → List ℕ → Option Chosen
with_value s key text =
    if bytes_eq key (codes "protocol") then option_map (λ p. record s { protocol = p }) (protocol_of text)
    else if bytes_eq key (codes "name") then option_map (λ n. record s { name = Some n }) (name_of text (behind 38 text))
    else None

-- a setting is KEY=VALUE
abbrev pub with_setting : Chosen → List ℕ → Option (List ℕ) → Option Chosen
with_setting s key None = None
with_setting s key (Some text) = with_value s key text

-- one setting, or two with `&` between them
abbrev pub settings_from : List ℕ → Option (List ℕ) → Option Chosen
settings_from first None = with_setting no_settings (front 61 first) (behind 61 first)
settings_from first (Some second) = option_and_then (λ s. with_setting s (front 61 second) (behind 61 second))
    (with_setting no_settings (front 61 first) (behind 61 first))

-- the settings in the text after the question mark
abbrev pub settings_of : Option (List ℕ) → Option Chosen
settings_of None = Some no_settings
settings_of (Some text) = settings_from (front 38 text) (behind 38 text)

-- the meaning of the text of an address: `redis://`, and each part after it
pub record Says (text : List ℕ) (m : Meaning) : Type 0 where
  pub rest : List ℕ
  pub scheme : text ≡ codes "redis://" ++ rest
  pub port_text : Option (List ℕ)
  pub place : host_and_port (place_in rest) ≡ Some (m.host, port_text)
  pub host : IsHost m.host
  pub port : IsPort port_text m.port
  pub database : IsDatabase (database_in rest) m.database
  pub login : IsLogin (login_in rest) m.login
  pub settings : settings_of (settings_in rest) ≡ Some (record { protocol = m.protocol; name = m.name })

-- no host: the brackets are not closed, or the host is invalid
abbrev pub NoHost : Option (List ℕ × Option (List ℕ)) → Type 0
NoHost None = ⊤
NoHost (Some place) = IsUtf8 place.0 → IsHost place.0 → ⊥

-- no port: the text is not a port
abbrev pub NoPort : Option (List ℕ × Option (List ℕ)) → Type 0
NoPort None = ⊥
NoPort (Some place) = (port : ℕ) → IsPort place.1 port → ⊥

-- the error in the text after `redis://`
abbrev pub IsWrong : List ℕ → AddressError → Type 0
IsWrong rest errors.Host = NoHost (host_and_port (place_in rest))
IsWrong rest errors.Port = NoPort (host_and_port (place_in rest))
IsWrong rest errors.Database = (n : ℕ) → IsDatabase (database_in rest) n → ⊥
IsWrong rest errors.Login = (login : Option (List ℕ × List ℕ)) → IsLogin (login_in rest) login → ⊥
IsWrong rest errors.Setting = settings_of (settings_in rest) ≡ None
IsWrong rest errors.Scheme = ⊥
IsWrong rest errors.Tls = ⊥
IsWrong rest errors.Memory = ⊤

-- why a text is not an address; an allocation may fail with any text
abbrev pub IsRefused : List ℕ → AddressError → Type 0
IsRefused text errors.Scheme = (rest : List ℕ) → text ≡ codes "redis://" ++ rest → ⊥
IsRefused text errors.Tls = (rest : List ℕ) × (text ≡ codes "rediss://" ++ rest)
IsRefused text errors.Host = (rest : List ℕ) × (text ≡ codes "redis://" ++ rest) × IsWrong rest errors.Host
IsRefused text errors.Port = (rest : List ℕ) × (text ≡ codes "redis://" ++ rest) × IsWrong rest errors.Port
IsRefused text errors.Database = (rest : List ℕ) × (text ≡ codes "redis://" ++ rest) × IsWrong rest errors.Database
IsRefused text errors.Login = (rest : List ℕ) × (text ≡ codes "redis://" ++ rest) × IsWrong rest errors.Login
IsRefused text errors.Setting = (rest : List ℕ) × (text ≡ codes "redis://" ++ rest) × IsWrong rest errors.Setting
IsRefused text errors.Memory = ⊤
