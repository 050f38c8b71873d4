-- Where a worker that looks up may stand, after every schedule.
use Rattle.std.proofs.Common.{◌≡◌, ◌∙◌, refl, ap, Bool, [], Some}
use Rattle.std.proofs.Math.Path.{fun_ext}
use Rattle.redis_connection.specs.Link.{Link}
use Rattle.model_server.specs.Group.Group.{listed}
use Rattle.model_server.specs.Group.Worker.{Id}
use Rattle.worker.specs.Session.{Standing, Turned, Fails}
use Rattle.worker.specs.declared.error.RunError.{RunError}
use Rattle.worker.specs.declared.state.Asked.{Asked}
use Rattle.worker.specs.declared.state.Settings.{Settings}
use Rattle.worker.specs.declared.worker.Progress.{Progress}
use Rattle.worker.specs.declared.worker.Progress.TheVariants.{GoesOn, Stopped}
use Rattle.stream_drain.specs.Once.{NoIdIsTwice, Reaches, StartsLookingUp, begins, crashes, fails, turns}
use Rattle.stream_drain.specs.Written.{Written, committed_with, lines_in, written_too}
use Rattle.stream_drain.specs.Resumed.{ids_in}
use Rattle.stream_drain.proofs.LinesLemmas.{lines_are}
use Rattle.stream_drain.proofs.LivedLemmas.{round_fails, round_goes_on, round_stops}
use Rattle.stream_drain.proofs.OnceLemmas.{Stands, at_first, committed_once, crashed, over_entries}

turned : (json : Bool) (settings : Settings) (w x : Standing Written) (old new : Link) (q : Asked) (p : Progress)
    → Turned written_too committed_with settings old new w x q p → Stands json w.history → Stands json x.history
turned json settings w x old new q GoesOn t s =
    let l = round_goes_on settings old new w x q t (over_entries json s.es) s.doings s.written in
    record { es = s.es; doings = l.doings; once = s.once; written = l.drawn }
turned json settings w x old new q Stopped t s =
    let l = round_stops settings old new w x q t (over_entries json s.es) s.doings s.written in
    record { es = s.es; doings = l.doings; once = s.once; written = l.drawn }

failed : (json : Bool) (settings : Settings) (w x : Standing Written) (old new : Link) (e : RunError)
    → Fails written_too committed_with settings old new w x e → Stands json w.history → Stands json x.history
failed json settings w x old new e f s =
    let l = round_fails settings old new w x e f (over_entries json s.es) s.doings s.written in
    record { es = s.es; doings = l.doings; once = s.once; written = l.drawn }

reached : (json : Bool) (w : Standing Written) → Reaches json w → Stands json w.history
reached json y (begins es x once is) = at_first json x.history es once is
reached json y (turns settings w x old new q p r t) = turned json settings w x old new q p t (reached json w r)
reached json y (fails settings w x old new e r f) = failed json settings w x old new e f (reached json w r)
reached json y (crashes w x kept es r starts left is) =
    at_first json x.history es (crashed json w.history kept es (reached json w r) starts left) is

pub no_id_is_twice : NoIdIsTwice
no_id_is_twice json w r =
    let found = committed_once json w.history (reached json w r) in
    record { es = found.0; committed = found.1; once = found.2 }

pub starts_looking_up : StartsLookingUp
starts_looking_up number settings json known es w knows starts =
    let same : known ≡ listed (ids_in es) = fun_ext (λ id. knows es (lines_are json es) id) in
    ap (λ (x : Standing Written). x.history) (starts es refl)
    ∙ ap (λ (k : Id → Bool). record { json = json; known = Some k; loose = []; committed = Some (lines_in json es) }) same
