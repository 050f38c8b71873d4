-- The rounds of a worker whose handler has a state of its own, as rounds of a handler that keeps its entries.
use Rattle.std.specs.Prelude.{◌≡◌, ℕ, List}
use Rattle.redis_connection.specs.Link.{Link}
use Rattle.model_server.specs.Group.Worker.{Id, Verdict}
use Rattle.stream_in_place.specs.Sent.{Pairs}
use Rattle.worker.specs.Gathered.{Doings, done_too, committed_too}
use Rattle.worker.specs.Session.{Standing}

-- the state `w`, but with the history `d` of a handler that keeps its entries
abbrev pub with_doings : {H : Type 0} → Standing H → Doings → Standing Doings
with_doings w d = record { machine = w.machine; group = w.group; asked = w.asked; history = d }

-- a relation between two states of a worker over a connection. The list has the ids that were reported as
-- deleted
abbrev pub Way : Type 1
Way = Link → Standing Doings → Link → Standing Doings → List Id → Type 0

-- `shown` gives the state of the handler for a history of its entries. Each verdict and each commit changes
-- both in step
pub record IsPicture {H P : Type 0} (shown : P → Doings → H) (with_verdict : H → List ℕ × Pairs → Verdict → H)
    (with_commit : H → H) : Type 0 where
  pub verdict : (p : P) (d : Doings) (e : List ℕ × Pairs) (v : Verdict)
      → shown p (done_too d e v) ≡ with_verdict (shown p d) e v
  pub commit : (p : P) (d : Doings) → shown p (committed_too d) ≡ with_commit (shown p d)

module _ {H P : Type 0} (shown : P → Doings → H) (way : Way) (old new : Link) (w x : Standing H) where
  -- if `w` shows the history `d`, then `way` leads from it to `x`, which shows the history `doings`
  pub record LeadsSo (p : P) (d : Doings) : Type 0 where
    pub doings : Doings
    pub told : List Id
    pub leads : way old (with_doings w d) new (with_doings x doings) told
    pub drawn : x.history ≡ shown p doings

  -- `LeadsSo` holds for every parameter `p` and every history `d` that `w` shows
  abbrev pub Leads : Type 0
  Leads = (p : P) (d : Doings) → w.history ≡ shown p d → LeadsSo p d
