-- Commands that are sent one after the other.
use Rattle.std.specs.Prelude.{◌≡◌, ◌⊎◌, ℕ, List, [], ◌∷◌, Option, Some}
use Rattle.redis_resp.specs.Tree.{Tree}
use Rattle.redis_resp.specs.Refusal.{RefusesValue}
use Rattle.redis_wire.specs.Reply.{value}
use Rattle.redis_connection.specs.Ask.{Exchanges, HasNoAnswer}
use Rattle.redis_connection.specs.Link.{Link}
use Rattle.redis_connection.specs.declared.error.AskError.{AskError}

-- the command was sent, and its reply is a value
abbrev pub IsAnswered : Link → Link → List (List ℕ) → Type 0
IsAnswered old new args = (t : Tree) × Exchanges old new args (value t)

-- each of the commands got a reply, before the next one was sent
abbrev pub AsksEach : Link → Link → List (List (List ℕ)) → Type 0
AsksEach old new [] = new ≡ old
AsksEach old new (args ∷ more) = (between : Link) × IsAnswered old between args × AsksEach between new more

-- some of the first commands got a reply, and the next one got none, for this cause
abbrev pub BreaksOff : Link → Link → List (List (List ℕ)) → AskError → Type 0
BreaksOff old new [] e = ⊥
BreaksOff old new (args ∷ more) e = HasNoAnswer old new args (λ t. Some t) RefusesValue e
    ⊎ ((between : Link) × IsAnswered old between args × BreaksOff between new more e)
