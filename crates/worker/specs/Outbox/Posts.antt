-- A handler whose entries leave commands in an outbox.
use Rattle.std.specs.Prelude.{◌≡◌, ℕ, true, List, [], ◌++◌}
use Rattle.redis_connection.specs.Link.{Link}
use Rattle.model_server.specs.Group.Worker.{Verdict, done, left_pending, stop}
use Rattle.stream_in_place.specs.Sent.{Pairs}
use Rattle.worker.specs.Machine.{commits}
use Rattle.worker.specs.Session.{Standing, Turned, Fails}
use Rattle.worker.specs.declared.error.RunError.{RunError}
use Rattle.worker.specs.declared.state.Asked.{Asked}
use Rattle.worker.specs.declared.state.Settings.{Settings}
use Rattle.worker.specs.declared.worker.Progress.{Progress}
use Rattle.worker.specs.declared.outbox.error.PostError.{PostError}
use Rattle.worker.specs.declared.outbox.error.PostError.TheVariants as causes
use Rattle.worker.specs.Outbox.Sent.{SendsAll, SendsSome}

-- the history of a handler with an outbox: the history of its work, the commands without a reply, and the
-- commands that had no reply at a commit
pub record Posts (H : Type 0) : Type 0 where
  pub work : H
  pub unsent : List (List ℕ)
  pub early : List (List ℕ)

-- the history of a handler whose outbox has `commands`. Nothing was committed early
abbrev pub posts_by : {H : Type 0} → H → List (List ℕ) → Posts H
posts_by h commands = record { work = h; unsent = commands; early = [] }

-- `commands` if the entry is done, and else none
abbrev pub if_done : Verdict → List (List ℕ) → List (List ℕ)
if_done done commands = commands
if_done left_pending commands = []
if_done stop commands = []

module _ {H : Type 0} (with_verdict : H → List ℕ × Pairs → Verdict → H)
    (posts : H → List ℕ × Pairs → Verdict → List (List ℕ)) where
  -- the history after one more entry, with its commands in the outbox
  abbrev pub posted_too : Posts H → List ℕ × Pairs → Verdict → Posts H
  posted_too p e v = record {
    work = with_verdict p.work e v;
    unsent = p.unsent ++ posts p.work e v;
    early = p.early;
  }

-- the history after one more commit. The commands that have no reply then are added to `early`
abbrev pub committed_after : {H : Type 0} → (H → H) → Posts H → Posts H
committed_after with_commit p = record {
  work = with_commit p.work;
  unsent = p.unsent;
  early = p.early ++ p.unsent;
}

-- the state `w`, but with an empty outbox
abbrev pub with_all_sent : {H : Type 0} → Standing (Posts H) → Standing (Posts H)
with_all_sent w = record w { history = record (w.history) { unsent = [] } }

module _ {H : Type 0} (with_verdict : Posts H → List ℕ × Pairs → Verdict → Posts H) (with_commit : Posts H → Posts H)
    (settings : Settings) where
  -- a round was made, and then every command in the outbox was sent and got its reply
  pub record PostsRound (old new : Link) (w x : Standing (Posts H)) (asked : Asked) (p : Progress) : Type 0 where
    pub between : Link
    pub after : Standing (Posts H)
    pub turned : Turned with_verdict with_commit settings old between w after asked p
    pub sends : SendsAll after.history.unsent between new
    pub stands : x ≡ with_all_sent after

  -- a round failed; or the round was made, but not every command in the outbox got its reply
  abbrev pub FailsPosting : Link → Link → Standing (Posts H) → Standing (Posts H) → PostError → Type 0
  FailsPosting old new w x (causes.Round e) = Fails with_verdict with_commit settings old new w x e
  FailsPosting old new w x (causes.Outbox e) = (m : Link) × (u : Standing (Posts H)) × (q : Asked) × (p : Progress)
      × Turned with_verdict with_commit settings old m w u q p
      × SendsSome u.history.unsent x.history.unsent m new
      × (x ≡ record u { history = record (u.history) { unsent = x.history.unsent } })

-- the law: a round that commits begins with an empty outbox. So each command of the entries before it got its reply
-- before the acknowledgement of these entries is sent
abbrev pub NothingIsEarly : {H : Type 0} → (H → List ℕ × Pairs → Verdict → H) → (H → H)
    → (H → List ℕ × Pairs → Verdict → List (List ℕ)) → Type 0
NothingIsEarly {H} with_verdict with_commit posts = (settings : Settings) (old new : Link) (w x : Standing (Posts H))
    (asked : Asked) (p : Progress)
    → Turned (posted_too with_verdict posts) (committed_after with_commit) settings old new w x asked p
    → x.history.early ≡ [] → commits w.machine ≡ true → w.history.unsent ≡ []
