-- Giving up entries over a connection is a list of moves of the model `model_workers::system`.
use Rattle.std.specs.Prelude.{◌≡◌, ℕ, zero, suc, List, [], ◌∷◌, ◌++◌}
use Rattle.redis_connection.specs.Link.{Link}
use Rattle.worker.specs.Letters.{Entry}
use Rattle.model_server.specs.Group.Group.{Name}
use Rattle.model_workers.specs.Files.Files.{Form}
use Rattle.model_workers.specs.System.System.{System, Move, Posts, new_desk, run}
use Rattle.worker.specs.Letters.{Names}
use Rattle.model_workers.specs.System.Desks.{IsDesk, AreOfDesk, moves_after}
use Rattle.worker.specs.Letters.{Desk, after_letter, letter_asks}
use Rattle.worker.specs.DeadLetters.Dead.{Claimer, Goes, PostsAll, GivesUp}
use Rattle.worker.specs.declared.dead_letters.search.Waiting.{Waiting}

-- the moves that queue the entries `es`. `which k` is the number of the reply that has the first entry
abbrev pub posting : Name → (ℕ → ℕ) → ℕ → List Entry → List Move
posting name which k [] = []
posting name which k (e ∷ es) = Posts name (which k) e ∷ posting name which (suc k) es

-- the queue `d` after this number of valid replies
abbrev pub desk_after : ℕ → Desk → Desk
desk_after zero d = d
desk_after (suc n) d = after_letter (letter_asks (desk_after n d)) (desk_after n d)

-- the moves for this number of valid replies. `which` gives the number of each reply to an XACK
abbrev pub delivering : Name → (ℕ → ℕ) → ℕ → Desk → List Move
delivering name which zero d = []
delivering name which (suc n) d =
    delivering name which n d ++ moves_after name (which n) (letter_asks (desk_after n d))

-- the law: the moves `posting` lead to the queue that the contract of a claim describes
abbrev pub ClaimsAreMoves : Type 0
ClaimsAreMoves = (c : Claimer) (dead : List ℕ) (ws : List Waiting) (es : List Entry) (old new : Link) (desk desk' : Desk)
    → PostsAll c dead ws es old desk new desk' → (form : Form) (s : System) (name : Name) (which : ℕ → ℕ) (k : ℕ)
    → IsDesk dead desk (s.desks name)
    → AreOfDesk name (posting name which k es)
    × IsDesk dead desk' ((run form (posting name which k es) s).desks name)

-- the law: the moves `delivering` lead to the queue after `n` valid replies
abbrev pub DeliveriesAreMoves : Type 0
DeliveriesAreMoves = (names : Names) (n : ℕ) (old new : Link) (desk desk' : Desk) → Goes names n old desk new desk'
    → (form : Form) (s : System) (name : Name) (which : ℕ → ℕ) → IsDesk names.2 desk (s.desks name)
    → AreOfDesk name (delivering name which n desk)
    × IsDesk names.2 desk' ((run form (delivering name which n desk) s).desks name)

-- the law: after all moves of a call that gives up entries, the model's queue is empty
abbrev pub GiveUpsAreMoves : Type 0
GiveUpsAreMoves = (c : Claimer) (names : Names) (ws : List Waiting) (old new : Link) (g : GivesUp c names ws old new)
    (form : Form) (s : System) (name : Name) (claimed answered : ℕ → ℕ) → s.desks name ≡ new_desk
    → (run form (posting name claimed zero g.es ++ delivering name answered g.delivers.0.0 g.desk) s).desks name
    ≡ new_desk
