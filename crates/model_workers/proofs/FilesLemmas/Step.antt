-- What each event does to the stream, the files and the letters.
use Rattle.std.proofs.Common.{◌≡◌, refl, sym, ap, subst, ◌∙◌, ℕ, Bool, true, false, List, [], ◌∷◌, ◌++◌, Option}
use Rattle.std.proofs.Common.{Some, None, if◌then◌else◌, ◌&&◌, append-nil}
use Rattle.std.proofs.lemmas.Slice.Eq.{bytes_eq-Decides}
use Rattle.std.specs.Str.{bytes_eq}
use Rattle.worker_journal.specs.EntryLine.{Entry}
use Rattle.worker_journal.specs.Lines.{StartsWith}
use Rattle.model_server.specs.Group.Worker.{Id, Verdict}
use Rattle.model_server.specs.Group.Group.{Name, Numbers, id_text, is_below, fits, listed, ids_of}
use Rattle.model_server.specs.Group.World.{World, Reply, Append, Delete, Read, Reread, Claim, Claim_ids, Comes, Commit}
use Rattle.model_server.specs.Group.World.{Acknowledge, Ack_comes, Go_back, Crash, item, comes, ack_comes, with_one, log_of}
use Rattle.model_server.specs.Group.World as group
use Rattle.model_workers.specs.Files.Files.{Form, Fields, Files, Event, Goes, Commits, Reopens, commits, crash_of, reopens}
use Rattle.model_workers.specs.Files.Files.{happens, run}

-- the event of the group that an event is
abbrev pub of_goes : Form → Files → group.Event Fields → group.Event Fields
of_goes form f (Crash consumer every keeps ids) = crash_of form f consumer every [] ids
of_goes form f event = event

abbrev pub of_group : Form → Files → Event → group.Event Fields
of_group form f (Goes event) = of_goes form f event
of_group form f (Commits consumer gives_up) = Commit consumer
of_group form f (Reopens consumer every torn ids) = crash_of form f consumer every torn ids

-- the same of a whole schedule
abbrev pub of_all : Form → Files → List Event → List (group.Event Fields)
of_all form f [] = []
of_all form f (e ∷ es) = of_group form f e ∷ of_all form (happens form f e) es

goes_alone : (form : Form) (f : Files) (e : group.Event Fields)
    → (happens form f (Goes e)).stream ≡ group.happens f.stream (of_goes form f e)
goes_alone form f (Append n fields) = refl
goes_alone form f (Delete id) = refl
goes_alone form f (Read c n) = refl
goes_alone form f (Reread c pick) = refl
goes_alone form f (Claim c pick next) = refl
goes_alone form f (Claim_ids c pick) = refl
goes_alone form f (Comes k vs) = refl
goes_alone form f (Commit c) = refl
goes_alone form f (Acknowledge c) = refl
goes_alone form f (Ack_comes k) = refl
goes_alone form f (Go_back c) = refl
goes_alone form f (Crash c every keeps ids) = refl

-- the stream goes on as if there were no files
pub one_alone : (form : Form) (f : Files) (e : Event)
    → (happens form f e).stream ≡ group.happens f.stream (of_group form f e)
one_alone form f (Goes e) = goes_alone form f e
one_alone form f (Commits c g) = refl
one_alone form f (Reopens c every torn ids) = refl

pub alone : (form : Form) (es : List Event) (f : Files)
    → (run form es f).stream ≡ group.run (of_all form f es) f.stream
alone form [] f = refl
alone form (e ∷ es) f =
    alone form es (happens form f e)
    ∙ ap (λ w. group.run (of_all form (happens form f e) es) w) (one_alone form f e)

-- ---- what commits

Same : World Fields → World Fields → Type 0
Same w v = v.committed ≡ w.committed

appends : (w : World Fields) (n : Numbers) (fields : Fields) (b : Bool)
    → (if b then record w { fresh = w.fresh ++ (id_text n, fields) ∷ []; last = n } else w).committed ≡ w.committed
appends w n fields true = refl
appends w n fields false = refl

deletes : (w : World Fields) (id : Id) (b : Bool)
    → (if b then record w { deleted = id ∷ w.deleted } else w).committed ≡ w.committed
deletes w id true = refl
deletes w id false = refl

answers : (w : World Fields) (k : ℕ) (vs : List Verdict) (r : Option (Reply Fields))
    → (comes w k r vs).committed ≡ w.committed
answers w k vs None = refl
answers w k vs (Some r) = refl

acks : (w : World Fields) (a : Option (Name × List Id)) → (ack_comes w a).committed ≡ w.committed
acks w None = refl
acks w (Some a) = refl

-- an event is a commit, or a crash, or one that changes no file, no letter, and nothing that is committed
module _ (form : Form) (f : Files) (P : Files → Type 0)
    (on_commit : (c : Name) (gives_up : Entry → Bool) → P (commits form f c gives_up))
    (on_crash : (c : Name) (every : ℕ) (ids : List Id) → P (reopens form f c every [] ids))
    (other : (e : group.Event Fields) → (group.happens f.stream e).committed ≡ f.stream.committed
    → P (record f { stream = group.happens f.stream e })) where
  pub by_kind : (e : group.Event Fields) → P (happens form f (Goes e))
  by_kind (Append n fields) =
      other (Append n fields) (appends f.stream n fields (is_below f.stream.last n && fits n))
  by_kind (Delete id) = other (Delete id) (deletes f.stream id (listed (ids_of (log_of f.stream)) id))
  by_kind (Read c n) = other (Read c n) refl
  by_kind (Reread c pick) = other (Reread c pick) refl
  by_kind (Claim c pick next) = other (Claim c pick next) refl
  by_kind (Claim_ids c pick) = other (Claim_ids c pick) refl
  by_kind (Comes k vs) = other (Comes k vs) (answers f.stream k vs (item f.stream.replies k))
  by_kind (Commit c) = on_commit c (λ e. false)
  by_kind (Acknowledge c) = other (Acknowledge c) refl
  by_kind (Ack_comes k) = other (Ack_comes k) (acks f.stream (item f.stream.acks k))
  by_kind (Go_back c) = other (Go_back c) refl
  by_kind (Crash c every keeps ids) = on_crash c every ids

-- ---- one of the files

-- what is there for the one
pub at_one : {A : Type 0} (each : Name → A) (name : Name) (a : A) → with_one each name a name ≡ a
at_one each name a =
    ap (λ b. if b then a else each name) ((bytes_eq-Decides name name).1 refl)

-- the statement about each is still true, if it is true of the one
pub at_each : {A : Type 0} (each : Name → A) (name : Name) (a : A) (P : Name → A → Type 0)
    → ((other : Name) → P other (each other)) → P name a → (other : Name) → P other (with_one each name a other)
at_each each name a P old new other =
    let case : (b : Bool) → bytes_eq name other ≡ b → P other (if b then a else each other)
    = λ b. elim b as (λ b. bytes_eq name other ≡ b → P other (if b then a else each other)) [
      | true ↦ λ q. subst (λ n. P n a) ((bytes_eq-Decides name other).0 q) new
      | false ↦ λ q. old other
    ] in
    case (bytes_eq name other) refl

-- if the one begins with what it was, each does
pub each_starts : (each : Name → List ℕ) (name : Name) (a : List ℕ) → StartsWith (each name) a
    → (other : Name) → StartsWith (each other) (with_one each name a other)
each_starts each name a starts other =
    at_each each name a (λ n x. StartsWith (each n) x) (λ n. ([], sym (append-nil (each n)))) starts other
