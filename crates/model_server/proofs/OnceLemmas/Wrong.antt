-- Schedules that refute the wrong definitions of planted/: a law does not hold after each.
use Rattle.std.proofs.Common.{◌≡◌, refl, inl, ℕ, ◌+◌, true, false, ◌&&◌, List, [], ◌∷◌, ◌++◌, map, take, codes}
use Rattle.std.proofs.Common.{Option, Some, if◌then◌else◌}
use Rattle.std.specs.Fmt.{digits}
use Rattle.std.specs.Option.{is_none}
use Rattle.model_server.specs.Group.Worker.{Id, Entry, done, start, begins_with}
use Rattle.model_server.specs.Group.Group.{ids_of, id_text}
use Rattle.model_server.specs.Once.Feed.{Stage, knows, waits, Answer, executed, refused, learns}
use Rattle.model_server.specs.Once.Producer.{hears, breaks}
use Rattle.model_server.specs.Once.Consumer.{is_empty, last_lines, restarts}
use Rattle.model_server.specs.Once.World.{Setting, World, first_world, Event, Send, Arrive, Hear, Break, Ask, Take, Sync}
use Rattle.model_server.specs.Once.World.{Acknowledge_now, Reconnect, Restart, asked, happens}
use Rattle.model_server.specs.Once.Law.{Once, log}

abbrev two : Setting ℕ
two = record { records = 7 ∷ 8 ∷ []; base = 0; name = codes "me" }

-- a schedule, where an event makes this of the world
abbrev run_by : (World ℕ → Event ℕ → World ℕ) → List (Event ℕ) → World ℕ → World ℕ
run_by next [] w = w
run_by next (e ∷ es) w = run_by next es (next w e)

-- what the producer takes to be in, and what is in
abbrev in_and_log : World ℕ → Stage × List (Entry ℕ)
in_and_log w = (w.producer.stage, log w)

-- a batch that is refused is taken as added
abbrev learns_wrong : Stage → Option Answer → Stage → Stage
learns_wrong (waits known sent) (Some refused) right = knows (known + sent)
learns_wrong stage answer right = right

abbrev refused_is_added : World ℕ → Event ℕ → World ℕ
refused_is_added w Hear = record w {
  producer = record (hears 0 w.producer.answer w.producer) {
    stage = learns_wrong w.producer.stage w.producer.answer (hears 0 w.producer.answer w.producer).stage;
  };
}
refused_is_added w e = happens two w e

pub refused_batch : in_and_log (run_by refused_is_added
    (Send 0 ∷ Arrive true ∷ Hear ∷ Send 2 ∷ Arrive false ∷ Hear ∷ []) first_world) ≡ (knows 2, [])
refused_batch = refl

-- what a break cut off is taken as added
abbrev cut_off_is_added : World ℕ → Event ℕ → World ℕ
cut_off_is_added w Break =
    record w { producer = record (breaks w.producer) { stage = learns 0 w.producer.stage executed } }
cut_off_is_added w e = happens two w e

pub cut_off_batch : in_and_log (run_by cut_off_is_added (Send 0 ∷ Arrive true ∷ Hear ∷ Send 2 ∷ Break ∷ []) first_world)
    ≡ (knows 2, [])
cut_off_batch = refl

abbrev ask : Event ℕ
ask = Ask 4 (λ id. true) (codes "0-0")

-- the first record is added, and given to the consumer, which has nothing of its own and nothing to claim
abbrev given_one : List (Event ℕ) → List (Event ℕ)
given_one more =
    Send 0 ∷ Arrive true ∷ Hear ∷ Send 1 ∷ Arrive true ∷ ask ∷ Take [] ∷ ask ∷ Take [] ∷ ask ∷ Take (done ∷ []) ∷ more

abbrev file_of : World ℕ → List Id
file_of w = ids_of w.consumer.file

abbrev first_twice : List Id
first_twice = map id_text ((1, 0) ∷ (1, 0) ∷ [])

pub is_twice : Once first_twice → ⊥
is_twice h = h.0 (inl refl)

-- a consumer that is started again acknowledges no line of its file
abbrev acknowledges_no_line : World ℕ → Event ℕ → World ℕ
acknowledges_no_line w (Restart every kept more) =
    record w { consumer = record (restarts every kept more w.consumer) { machine = start 1 } }
acknowledges_no_line w e = happens two w e

pub no_line : file_of (run_by acknowledges_no_line
    (given_one (Sync ∷ Restart 1 0 0 ∷ ask ∷ Take (done ∷ []) ∷ Sync ∷ [])) first_world) ≡ first_twice
unfolding digits
no_line = refl

-- lines of a commit that a crash cut off are not acknowledged
abbrev forgets_cut_commit : World ℕ → Event ℕ → World ℕ
forgets_cut_commit w (Restart every kept more) = record w {
  consumer = record (restarts every kept more w.consumer) {
    machine = begins_with every (ids_of (last_lines (w.consumer.last_commit + more) (w.consumer.file ++ take kept w.consumer.lines)));
    last_commit = w.consumer.last_commit;
  };
}
forgets_cut_commit w e = happens two w e

pub cut_commit : file_of (run_by forgets_cut_commit
    (given_one (Restart 1 1 0 ∷ ask ∷ Take (done ∷ []) ∷ Sync ∷ [])) first_world) ≡ first_twice
unfolding digits
cut_commit = refl

-- entries are requested before the acknowledgement
abbrev asks_early : World ℕ → Event ℕ → World ℕ
asks_early w (Ask n pick next) =
    if is_none w.consumer.answer && is_empty w.consumer.machine.to_commit then asked two.name n pick next w else w
asks_early w e = happens two w e

pub early : file_of (run_by asks_early
    (given_one (Sync ∷ Reconnect ∷ ask ∷ Take (done ∷ []) ∷ Acknowledge_now ∷ Take [] ∷ Sync ∷ [])) first_world) ≡ first_twice
unfolding digits
early = refl
