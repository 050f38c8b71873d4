-- What to do after an error.
use Rattle.std.specs.Prelude.{ℕ, List, Bool, codes, if◌then◌else◌, ◌||◌, ◌==◌}
use Rattle.std.specs.List.{starts_with}
use Rattle.std.specs.Str.{bytes_eq}
use Rattle.redis_connection.specs.declared.error.AskError.{AskError}
use Rattle.redis_connection.specs.declared.error.AskError.TheVariants as ask_errors
use Rattle.redis_connection.specs.declared.error.ConnectionError.{ConnectionError}
use Rattle.redis_connection.specs.declared.error.ConnectionError.TheVariants as errors
use Rattle.redis_wire.specs.Reply.{code_of}
use Rattle.redis_client.specs.declared.next.Next.{Next}
use Rattle.redis_client.specs.declared.next.Next.TheVariants.{Reconnect, Later, GiveUp}

-- the server has become a replica: another one takes the commands
abbrev pub is_moving : List ℕ → Bool
is_moving code = bytes_eq code (codes "READONLY") || bytes_eq code (codes "UNBLOCKED")

-- it is loading, or has lost its master or a part of the cluster
abbrev pub is_starting : List ℕ → Bool
is_starting code = (bytes_eq code (codes "LOADING") || bytes_eq code (codes "MASTERDOWN"))
    || bytes_eq code (codes "CLUSTERDOWN")

-- it is busy for a while
abbrev pub is_working : List ℕ → Bool
is_working code = bytes_eq code (codes "TRYAGAIN") || bytes_eq code (codes "BUSY")

-- it lacks memory, a disk or replicas
abbrev pub is_lacking : List ℕ → Bool
is_lacking code = (bytes_eq code (codes "OOM") || bytes_eq code (codes "MISCONF")) || bytes_eq code (codes "NOREPLICAS")

-- the error is temporary
abbrev pub is_passing : List ℕ → Bool
is_passing code = (is_starting code || is_working code) || is_lacking code

-- what to do after a server's error with this code; after any other one, give up
abbrev pub after_code : List ℕ → Next
after_code code = if is_moving code then Reconnect else if is_passing code then Later else GiveUp

-- the server has reached its limit of connections, and closes this one
abbrev pub is_full : List ℕ → Bool
is_full text = starts_with (λ a b. a == b) text (codes "ERR max number of clients")

-- what to do after the error of a server: its code decides, except for a server that is full
abbrev pub after_server : List ℕ → Next
after_server text = if is_full text then Reconnect else after_code (code_of text)

-- connect again after a connection broke or memory ran out; give up after a missing reply, or with a server that does
-- support the protocol
abbrev pub after_connection : ConnectionError → Next
after_connection (errors.Write e) = Reconnect
after_connection (errors.Read e) = Reconnect
after_connection errors.Closed = Reconnect
after_connection errors.Memory = Reconnect
after_connection errors.TooLong = GiveUp
after_connection errors.NoArguments = GiveUp
after_connection (errors.Fault fault) = GiveUp

-- give up after a reply that does not fit its command
abbrev pub after_answer : AskError → Next
after_answer (ask_errors.Connection e) = after_connection e
after_answer (ask_errors.Server e) = after_server e.text.items
after_answer (ask_errors.Parsing e) = GiveUp
after_answer ask_errors.NotAnAnswer = GiveUp
