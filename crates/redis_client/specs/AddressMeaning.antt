-- What an address means.
use Rattle.std.specs.Prelude.{ℕ, List, Option, option_map, string_bytes}
use Rattle.redis_client.specs.declared.address.Address as addresses
use Rattle.redis_client.specs.declared.address.Protocol.{Protocol}

-- a user, who is empty if it is the default one, with a password; the host and the port of the server; the
-- database, the protocol, and the name of the connection
pub record Meaning : Type 0 where
  pub login : Option (List ℕ × List ℕ)
  pub host : List ℕ
  pub port : ℕ
  pub database : ℕ
  pub protocol : Protocol
  pub name : Option (List ℕ)

-- what an address of the code means
abbrev pub meaning_of : addresses.Address → Meaning
meaning_of a = record {
  login = option_map (λ l. (l.user.items, l.password.items)) a.login;
  host = string_bytes a.host;
  port = a.port;
  database = a.database;
  protocol = a.protocol;
  name = option_map (λ n. n.items) a.name;
}
