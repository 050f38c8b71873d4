-- Why a consumer does not skip, when they are redelivered, the entries of the last commit of its file, in place of
-- acknowledging them first: after this schedule an id is in its file twice.
use Rattle.std.proofs.Common.{◌≡◌, refl, inl, inr, subst, ℕ, true, not, List, [], ◌∷◌, ◌++◌, map, filter, length, drop}
use Rattle.std.proofs.Common.{codes, None}
use Rattle.std.specs.Fmt.{digits}
use Rattle.model_server.specs.Group.Worker.{Id, Verdict, done, stop, start}
use Rattle.model_server.specs.Group.Group.{listed, ids_of, id_text}
use Rattle.model_server.specs.Once.Consumer.{Consumer, takes, last_lines}
use Rattle.model_server.specs.Once.World.{Setting, World, first_world, Event, Send, Arrive, Hear, Ask, Take, Sync}
use Rattle.model_server.specs.Once.World.{Restart, happens}
use Rattle.model_server.specs.Once.Law.{Once}

-- a world whose consumer skips these
record Skipping : Type 0 where
  world : World ℕ
  known : List Id

abbrev three : Setting ℕ
three = record { records = 7 ∷ 8 ∷ 9 ∷ []; base = 0; name = codes "me" }

-- of the lines that a reply adds it leaves out those of ids that it knows
abbrev skips : List Id → List Verdict → Consumer ℕ → Consumer ℕ
skips known vs r = record (takes vs r.answer r) {
  lines = r.lines
      ++ filter (λ e. not (listed known e.0)) (drop (length r.lines) (takes vs r.answer r).lines);
}

-- it begins with what is pending for it, and knows the ids of the lines of the last commit
abbrev begins : Consumer ℕ → Consumer ℕ
begins r = record r { machine = start 1; answer = None; lines = [] }

abbrev next : Skipping → Event ℕ → Skipping
next w (Take vs) = record w { world = record w.world { consumer = skips w.known vs w.world.consumer } }
next w (Restart every kept more) = record {
  world = record w.world { consumer = begins w.world.consumer };
  known = ids_of (last_lines w.world.consumer.last_commit w.world.consumer.file);
}
next w e = record w { world = happens three w.world e }

abbrev all : List (Event ℕ) → Skipping → Skipping
all [] w = w
all (e ∷ es) w = all es (next w e)

abbrev ask : Event ℕ
ask = Ask 4 (λ id. true) (codes "0-0")

-- three records are added and given, the handler does the first and stops, it is committed; crash; all three come
-- again, the first is skipped, the others are committed; crash; and all three come again
abbrev schedule : List (Event ℕ)
schedule =
    Send 0 ∷ Arrive true ∷ Hear ∷ Send 3 ∷ Arrive true ∷ ask ∷ Take [] ∷ ask ∷ Take [] ∷ ask ∷ Take (done ∷ stop ∷ []) ∷ Sync ∷
    Restart 1 0 0 ∷ ask ∷ Take (done ∷ done ∷ done ∷ []) ∷ Sync ∷
    Restart 1 0 0 ∷ ask ∷ Take (done ∷ done ∷ done ∷ []) ∷ Sync ∷ []

abbrev end : Skipping
end = all schedule (record { world = first_world; known = [] })

pub file_is : ids_of end.world.consumer.file ≡ map id_text ((1, 0) ∷ (2, 0) ∷ (3, 0) ∷ (1, 0) ∷ [])
unfolding digits
file_is = refl

pub twice : Once (ids_of end.world.consumer.file) → ⊥
twice h = (subst Once file_is h).0 (inr (inr (inl refl)))
