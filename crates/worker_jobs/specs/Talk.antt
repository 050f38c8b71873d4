-- The talk between a handler and its child.
use Rattle.std.specs.Prelude.{◌==◌, ℕ, List, [], ◌∷◌, ◌++◌, Bool, true, false, Option, Some, None, if◌then◌else◌, option_map}
use Rattle.std.specs.Io.KnownBytes.{Appends, Consumes, append_known}
use Rattle.model_server.specs.Group.Worker.{Entry, Verdict, done, left_pending, stop}
use Rattle.stream_in_place.specs.Sent.{Pairs}
use Rattle.worker_jobs.specs.LineOf.{line_of}
use Rattle.worker_jobs.specs.Lines.{HasNoEnd}
use Rattle.worker_jobs.specs.VerdictOf.{verdict_of}
use Rattle.worker_jobs.specs.declared.reply.Reply.{Reply}
use Rattle.worker_jobs.specs.declared.reply.Reply.TheVariants.{Done, Later, Dead}

-- the stream of the entries, the bytes sent to the child, and the bytes that the child will send. The bytes are
-- `None` if they are not known.
pub record Pipes : Type 0 where
  pub stream : List ℕ
  pub sent : Option (List ℕ)
  pub coming : Option (List ℕ)

-- `goes_on`: the handler sends entries over these pipes. `over`: the handler returns `Stop` for each entry.
-- `wrong`: no handler has this talk.
pub data Talk : Type 0 where
  goes_on : Pipes → Talk
  over : Talk
  wrong : Talk

-- the talk of a handler that is over, or has these pipes
abbrev pub talk_of : Bool → List ℕ → Option (List ℕ) → Option (List ℕ) → Talk
talk_of true stream sent coming = over
talk_of false stream sent coming = goes_on (record { stream = stream; sent = sent; coming = coming })

-- a line with its line end
abbrev pub ended : List ℕ → List ℕ
ended line = line ++ 10 ∷ []

-- the first line of the bytes, and the bytes after it. `None` if there is no line end.
abbrev pub first_line : List ℕ → Option (List ℕ × List ℕ)
first_line [] = None
first_line (b ∷ bytes) = if b == 10 then Some ([], bytes) else option_map (λ (p : List ℕ × List ℕ). (b ∷ p.0, p.1)) (first_line bytes)

-- the talk after the reply to an entry, or `wrong` if the handler's verdict does not fit the reply
abbrev pub by_reply : Pipes → Option Reply → Verdict → Talk
by_reply p (Some Done) done = goes_on p
by_reply p (Some Later) left_pending = goes_on p
by_reply p (Some Dead) left_pending = goes_on p
by_reply p r v = wrong

-- the talk after a line was received, and the handler returned the verdict `v`
abbrev pub by_line : Pipes → Option (List ℕ × List ℕ) → Verdict → Talk
by_line p None v = wrong
by_line p (Some l) v = by_reply (record p { coming = Some l.1 }) (verdict_of l.0) v

-- the talk after the line of an entry was sent, the reply was received, and the handler returned `v`
abbrev pub replied : Pipes → Option (List ℕ) → Verdict → Talk
replied p None v = goes_on p
replied p (Some bytes) v = by_line p (first_line bytes) v

-- the talk after the entry `e`, for which the handler returned this verdict
abbrev pub talked : Talk → Entry Pairs → Verdict → Talk
talked wrong e v = wrong
talked over e stop = over
talked over e done = wrong
talked over e left_pending = wrong
talked (goes_on p) e stop = over
talked (goes_on p) e done = replied (record p { sent = append_known p.sent (ended (line_of p.stream e)) }) p.coming done
talked (goes_on p) e left_pending =
    replied (record p { sent = append_known p.sent (ended (line_of p.stream e)) }) p.coming left_pending

-- a commit changes nothing
abbrev pub committed : Talk → Talk
committed t = t

-- The line of the entry `e` was sent. Then `line` was received with its line end, and no other byte.
pub record Exchanges (stream : List ℕ) (e : Entry Pairs) (sent sent_then coming coming_then : Option (List ℕ))
    (line : List ℕ) : Type 0 where
  pub went : Appends sent sent_then (ended (line_of stream e))
  pub came : Consumes coming coming_then (ended line)
  pub one_line : HasNoEnd line
