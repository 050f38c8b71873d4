-- The first commands of a connection.
use Rattle.std.specs.Prelude.{ℕ, zero, suc, List, [], ◌∷◌, ◌++◌, Option, Some, None, codes, decimal}
use Rattle.redis_client.specs.AddressMeaning.{Meaning}
use Rattle.redis_client.specs.declared.address.Protocol.{Protocol}
use Rattle.redis_client.specs.declared.address.Protocol.TheVariants.{Resp2, Resp3}

-- the user, by name also if it is the default one
abbrev pub user_or_default : List ℕ → List ℕ
user_or_default [] = codes "default"
user_or_default (b ∷ user) = b ∷ user

-- the words of HELLO for a user and a password
abbrev pub login_words : Option (List ℕ × List ℕ) → List (List ℕ)
login_words None = []
login_words (Some l) = codes "AUTH" ∷ user_or_default l.0 ∷ l.1 ∷ []

-- and those for a name
abbrev pub name_words : Option (List ℕ) → List (List ℕ)
name_words None = []
name_words (Some name) = codes "SETNAME" ∷ name ∷ []

-- `HELLO 3 AUTH user password SETNAME name`, without the words of settings that are absent
abbrev pub hello : Meaning → List (List ℕ)
hello m = codes "HELLO" ∷ decimal 3 ∷ (login_words m.login ++ name_words m.name)

-- `AUTH user password`, or `AUTH password` for the default user
abbrev pub auth : List ℕ → List ℕ → List (List ℕ)
auth [] password = codes "AUTH" ∷ password ∷ []
auth (b ∷ user) password = codes "AUTH" ∷ (b ∷ user) ∷ password ∷ []

-- that, if there are credentials
abbrev pub login : Option (List ℕ × List ℕ) → List (List (List ℕ))
login None = []
login (Some l) = auth l.0 l.1 ∷ []

-- `CLIENT SETNAME name`, if there is one
abbrev pub naming : Option (List ℕ) → List (List (List ℕ))
naming None = []
naming (Some name) = (codes "CLIENT" ∷ codes "SETNAME" ∷ name ∷ []) ∷ []

-- `SELECT database`, if it is not 0
abbrev pub selection : ℕ → List (List (List ℕ))
selection zero = []
selection (suc n) = (codes "SELECT" ∷ decimal (suc n) ∷ []) ∷ []

-- the first commands for a protocol
abbrev pub beginning : Protocol → Meaning → List (List (List ℕ))
beginning Resp3 m = hello m ∷ []
beginning Resp2 m = login m.login ++ naming m.name

-- all first commands of a connection, in order
abbrev pub greeting : Meaning → List (List (List ℕ))
greeting m = beginning m.protocol m ++ selection m.database
