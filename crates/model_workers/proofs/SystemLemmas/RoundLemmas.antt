-- The rounds of a worker as moves, and its start.
use Rattle.std.proofs.Common.{◌≡◌, ◌≢◌, inl, inr, refl, sym, ap, ◌∙◌, ℕ, Bool, true, false, List, [], ◌∷◌, ◌++◌, Some}
use Rattle.std.proofs.Common.{if◌then◌else◌}
use Rattle.std.proofs.lemmas.Slice.Eq.{bytes_eq-Decides}
use Rattle.std.specs.Str.{bytes_eq}
use Rattle.redis_connection.specs.Link.{Link}
use Rattle.redis_resp.specs.Tree.{Tree}
use Rattle.redis_wire.specs.Reply as wire
use Rattle.model_server.specs.Group.Worker.{Verdict, Machine, begins_again}
use Rattle.model_server.specs.Group.Group.{Name, ids_of}
use Rattle.model_server.specs.Group.World.{with_one, among_ids}
use Rattle.model_workers.specs.Files.Files.{Form}
use Rattle.model_workers.proofs.FilesLemmas.Step.{at_one}
use Rattle.model_workers.proofs.FilesLemmas.Started.{all_read}
use Rattle.worker.specs.Answers.{told, group_after, hears}
use Rattle.worker.specs.Answered.{Failed, WasCut}
use Rattle.worker.specs.Gathered.{Doings, done_too, committed_too}
use Rattle.worker.specs.Requested.{Unasked}
use Rattle.worker.specs.Session.{Standing, standing_of, Breaks, asking, after_failure, having_heard}
use Rattle.worker.specs.declared.error.RequestError.{RequestError}
use Rattle.worker.specs.declared.error.RequestError.TheVariants.{NotCommitted, TooLong, Memory}
use Rattle.worker.specs.declared.error.RunError.{RunError}
use Rattle.worker.specs.declared.error.RunError.TheVariants as causes
use Rattle.worker.specs.declared.error.WorkerError.{WorkerError}
use Rattle.worker.specs.declared.error.WorkerError.TheVariants as faults
use Rattle.worker.specs.declared.state.Asked.{Asked}
use Rattle.worker.specs.declared.state.GroupState.{GroupState}
use Rattle.worker.specs.declared.state.Settings.{Settings}
use Rattle.model_workers.specs.System.System.{System, Move, new_worker, committed, waiting, repaired, filed_then, read_back}
use Rattle.model_workers.specs.System.System.{having, moves, run}
use Rattle.model_workers.specs.System.System as system
use Rattle.model_workers.specs.System.Rounds.{round_of, RoundsAreMoves, AreOf, AreOthers, FailuresAreMoves, OthersChangeNothing}
use Rattle.model_workers.specs.System.Rounds.{StartsAreMoves}

-- two standings that are the same in each part
pub as_parts : (y w : Standing Doings) → y.machine ≡ w.machine → y.group ≡ w.group → y.asked ≡ w.asked
    → y.history ≡ w.history → y ≡ w
as_parts y w m g a h =
    ap (λ (v : Machine). let u : Standing Doings = record y { machine = v } in u) m
    ∙ ap (λ (v : GroupState). let u : Standing Doings = record y { machine = w.machine; group = v } in u) g
    ∙ ap (λ (v : Asked). let u : Standing Doings = record y { machine = w.machine; group = w.group; asked = v } in u) a
    ∙ ap (λ (v : Doings). let u : Standing Doings = record w { history = v } in u) h

-- ---- moves of others

elsewhere : (ws : Name → Standing Doings) (other : Name) (w : Standing Doings) (name : Name) → other ≢ name
    → with_one ws other w name ≡ ws name
elsewhere ws other w name apart =
    let case : (t : Bool) → bytes_eq other name ≡ t → (if t then w else ws name) ≡ ws name
    = λ t. elim t as (λ t. bytes_eq other name ≡ t → (if t then w else ws name) ≡ ws name) [
      | true ↦ λ q. absurd (apart ((bytes_eq-Decides other name).0 q))
      | false ↦ λ q. refl
    ] in
    case (bytes_eq other name) refl

pub others_change_nothing : OthersChangeNothing
others_change_nothing form s name (system.Serves event) h = refl
others_change_nothing form s name (system.Commits other) h = elsewhere s.workers other _ name h
others_change_nothing form s name (system.Sends other settings) h = elsewhere s.workers other _ name h
others_change_nothing form s name (system.Hears other settings which reply vs) h =
    elsewhere s.workers other _ name h
others_change_nothing form s name (system.Breaks other state question) h = elsewhere s.workers other _ name h
others_change_nothing form s name (system.Posts other which e) h = refl
others_change_nothing form s name (system.Adds_letter other) h = refl
others_change_nothing form s name (system.Sends_ack other) h = refl
others_change_nothing form s name (system.Settles other which) h = refl
others_change_nothing form s name (system.Restarts other settings torn ids before) h = elsewhere s.workers other _ name h

others_leave : (form : Form) (name : Name) (ms : List Move) (s : System) → AreOthers name ms
    → (run form ms s).workers name ≡ s.workers name
others_leave form name [] s h = refl
others_leave form name (m ∷ ms) s h =
    others_leave form name ms (moves form s m) h.1 ∙ others_change_nothing form s name m h.0

run_more : (form : Form) (ms : List Move) (last : Move) (s : System)
    → run form (ms ++ last ∷ []) s ≡ moves form (run form ms s) last
run_more form [] last s = refl
run_more form (m ∷ ms) last s = run_more form ms last (moves form s m)

module _ (form : Form) (name : Name) (settings : Settings) where
  -- after it committed
  has_committed : (s : System) → (moves form s (system.Commits name)).workers name ≡ committed (s.workers name)
  has_committed s = at_one s.workers name (committed (s.workers name))

  -- after it sent its command
  has_asked : (s : System) → (run form (system.Commits name ∷ system.Sends name settings ∷ []) s).workers name
      ≡ asking committed_too settings (s.workers name)
  has_asked s =
      let t : System = moves form s (system.Commits name) in
      at_one t.workers name (waiting settings (t.workers name)) ∙ ap (λ w. waiting settings w) (has_committed s)

  -- after it got a reply
  has_heard : (s : System) (others : List Move) (which : ℕ) (reply : wire.Answer) (vs : List Verdict)
      → AreOthers name others
      → (run form (round_of name settings others which (record { answer = reply; verdicts = vs })) s).workers name
      ≡ having settings (asking committed_too settings (s.workers name)) reply vs
  has_heard s others which reply vs h =
      let t : System = run form (system.Commits name ∷ system.Sends name settings ∷ []) s in
      let u : System = run form others t in
      let hears_it : Move = system.Hears name settings which reply vs in
      ap (λ (v : System). v.workers name) (run_more form others hears_it t)
      ∙ at_one u.workers name (having settings (u.workers name) reply vs)
      ∙ ap (λ w. having settings w reply vs) (others_leave form name others t h ∙ has_asked s)

  -- as it starts over
  abbrev again : Standing Doings → Standing Doings
  again y = record y { machine = begins_again y.machine }

  begun_again : (s : System) (y v : Standing Doings) → s.workers name ≡ v → begins_again v.machine ≡ begins_again y.machine
      → v.history ≡ y.history → (moves form s (system.Breaks name y.group y.asked)).workers name ≡ again y
  begun_again s y v is machine history =
      let now : Standing Doings → Standing Doings =
      λ u. record u { machine = begins_again u.machine; group = y.group; asked = y.asked } in
      at_one s.workers name (now (s.workers name)) ∙ ap now is
      ∙ as_parts (now v) (again y) machine refl refl history

  -- ---- a round that fails

  abbrev Led : System → Standing Doings → Type 0
  Led s x = (ms : List Move) × AreOf name settings ms × ((run form ms s).workers name ≡ x)

  module _ (s : System) (y : Standing Doings) where
    abbrev was : Standing Doings
    was = s.workers name

    unasked : (r : RequestError) → Unasked committed_too was.machine y.machine was.history y.history r
        → y.group ≡ was.group → y.asked ≡ was.asked → Led s y
    unasked NotCommitted u g a = ([], tt, sym (as_parts y was u.1 g a u.2))
    unasked TooLong u g a = (
      system.Commits name ∷ [],
      (refl, tt),
      has_committed s ∙ sym (as_parts y (committed was) u.0 g a u.1),
    )
    unasked Memory u g a = (
      system.Commits name ∷ [],
      (refl, tt),
      has_committed s ∙ sym (as_parts y (committed was) u.0 g a u.1),
    )

    abbrev asking_now : Standing Doings
    asking_now = asking committed_too settings was

    -- it sent its request, and then its round failed
    broke_off : begins_again asking_now.machine ≡ begins_again y.machine → asking_now.history ≡ y.history
        → Led s (again y)
    broke_off machine history = (
      system.Commits name ∷ system.Sends name settings ∷ system.Breaks name y.group y.asked ∷ [],
      (refl, ((refl, refl), (refl, tt))),
      begun_again (run form (system.Commits name ∷ system.Sends name settings ∷ []) s) y asking_now (has_asked s)
          machine history,
    )

    -- it sent its request, and no reply arrived
    no_reply : y ≡ asking_now → Led s (again y)
    no_reply is = broke_off (ap (λ (v : Standing Doings). begins_again v.machine) (sym is))
        (ap (λ (v : Standing Doings). v.history) (sym is))

    module _ (which : ℕ) (a : wire.Answer) where
      cut : (t : Tree) → a ≡ wire.value t
          → WasCut done_too settings asking_now.asked t asking_now.machine y.machine asking_now.history y.history
          → Led s (again y)
      cut t is c =
          let told_so : hears settings asking_now.asked a ≡ Some (told c.answer) =
          ap (hears settings asking_now.asked) is ∙ c.said in
          let state : GroupState = group_after settings asking_now.group asking_now.asked a in
          let v : Standing Doings = having settings asking_now a c.took.verdicts in
          let machine : v.machine ≡ y.machine =
          ap (λ o. (having_heard done_too asking_now state o c.took.verdicts).machine) told_so
          ∙ sym c.took.machine in
          let history : v.history ≡ y.history =
          ap (λ o. (having_heard done_too asking_now state o c.took.verdicts).history) told_so
          ∙ sym c.took.history in (
            system.Commits name ∷ system.Sends name settings ∷ system.Hears name settings which a c.took.verdicts
                ∷ system.Breaks name y.group y.asked ∷ [],
            (refl, ((refl, refl), ((refl, refl), (refl, tt)))),
            begun_again (run form (round_of name settings [] which (record { answer = a; verdicts = c.took.verdicts })) s) y v
                (has_heard s [] which a c.took.verdicts tt) (ap begins_again machine) history,
          )

      stays : y.machine ≡ asking_now.machine → y.history ≡ asking_now.history → Led s (again y)
      stays em eh = broke_off (ap begins_again (sym em)) (sym eh)

      starts_over : y.machine ≡ begins_again asking_now.machine → y.history ≡ asking_now.history → Led s (again y)
      starts_over em eh = broke_off (ap begins_again (sym em)) (sym eh)

      refused : (e : WorkerError)
          → Failed done_too settings asking_now.asked a asking_now.machine y.machine asking_now.history y.history e
          → Led s (again y)
      refused faults.NotAsked f = stays f.1 f.2
      refused (faults.Server e) f = stays f.4 f.5
      refused (faults.GroupIsGone e) f = stays f.3 f.4
      refused faults.NotAnAnswer f = stays f.2 f.3
      refused (faults.Parsing e) f = starts_over f.2 f.3
      refused faults.OtherStream f = starts_over f.2 f.3
      refused (faults.NilFields id) f = starts_over f.2 f.3
      refused faults.Memory f = elim f.2 [
        | inl p ↦ starts_over p.0 p.1
        | inr c ↦ cut f.0 f.1 c
      ]

  broken : (s : System) (old new : Link) (y : Standing Doings) (e : RunError)
      → Breaks done_too committed_too settings old new (s.workers name) y e → ℕ → Led s (after_failure e y)
  broken s old new y (causes.Request r) f which = unasked s y r f.1 f.2 f.3
  broken s old new y (causes.Send r) f which = no_reply s y f.0
  broken s old new y (causes.Receive named r) f which = no_reply s y f.0
  broken s old new y (causes.Answer r) f which = refused s y which f.0 r.error f.2

pub rounds_are_moves : RoundsAreMoves
rounds_are_moves form s name settings old new x question p t = (
  t.turn,
  λ others which h.
      has_heard form name settings s others which t.turn.answer t.turn.verdicts h ∙ sym t.stands,
)

pub failures_are_moves : FailuresAreMoves
failures_are_moves form s name settings old new x e f which =
    let led = broken form name settings s old new f.0 e f.1 which in
    (led.0, led.1, led.2 ∙ sym f.2)

pub starts_are_moves : StartsAreMoves
starts_are_moves form s name settings torn es before w there started =
    let mine : among_ids (read_back form s name torn) (ids_of es) ≡ ids_of es =
    all_read form (repaired s name torn) (filed_then form s name torn) es (λ e h. (there e h).0) (λ e h. (there e h).1) in
    at_one s.workers name (new_worker settings.every (among_ids (read_back form s name torn) (ids_of es)) before)
    ∙ ap (λ l. new_worker settings.every l before) mine
    ∙ as_parts (new_worker settings.every (ids_of es) before) (standing_of w (record { loose = []; committed = before }))
    (sym started.machine) (sym started.group) (sym started.asked) refl
