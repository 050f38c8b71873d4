-- The reply of a child to an entry.
use Rattle.std.specs.Prelude.{ℕ, List, [], ◌∷◌, ◌==◌, ◌||◌, Bool, Option, Some, None, if◌then◌else◌, codes, length, map, take}
use Rattle.std.specs.Str.{bytes_eq}
use Rattle.worker_jobs.specs.Added.{Added, added_bytes, entries_of_line}
use Rattle.worker_jobs.specs.declared.reply.Reply.{Reply}
use Rattle.worker_jobs.specs.declared.reply.Reply.TheVariants.{Done, Later, Dead, Stop}

-- whether the line begins with `head`
abbrev pub begins : List ℕ → List ℕ → Bool
begins line head = bytes_eq (take (length head) line) head

-- the reply of a line that is not JSON, or `None` if the line is not such a reply
abbrev pub word_of : List ℕ → Option Reply
word_of line =
    if bytes_eq line (codes "done") then Some Done
    else if bytes_eq line (codes "stop") then Some Stop
    else if bytes_eq line (codes "later") || begins line (codes "later ") then Some Later
    else if begins line (codes "dead ") then Some Dead
    else None

-- the reply that is not JSON if there is one, or `Done` if the line is a reply of JSON
abbrev pub either_of : Option Reply → Option (List Added) → Option Reply
either_of (Some reply) entries = Some reply
either_of None (Some entries) = Some Done
either_of None None = None

-- the reply of a line, or `None` if the line is not a reply
abbrev pub verdict_of : List ℕ → Option Reply
verdict_of line = either_of (word_of line) (entries_of_line line)

-- the commands for the entries that a reply adds. Only a reply of JSON adds entries.
abbrev pub commands_of : Option Reply → Option (List Added) → List (List ℕ)
commands_of (Some reply) entries = []
commands_of None (Some entries) = map added_bytes entries
commands_of None None = []

-- the commands for the entries that a line adds
abbrev pub commands_of_line : List ℕ → List (List ℕ)
commands_of_line line = commands_of (word_of line) (entries_of_line line)

-- the text after the first space, or the empty text
abbrev pub text_of : List ℕ → List ℕ
text_of [] = []
text_of (b ∷ line) = if b == 32 then line else text_of line
