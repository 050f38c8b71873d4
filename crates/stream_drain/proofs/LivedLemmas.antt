-- The rounds of a worker whose handler writes lines, as rounds of one that keeps what it did.
use Rattle.std.proofs.Common.{◌≡◌, sym, ap, ℕ, Bool, List, [], Option}
use Rattle.redis_connection.specs.Link.{Link}
use Rattle.model_server.specs.Group.Worker.{Machine}
use Rattle.worker.specs.DeadLetters.Besides.{Besides, BreaksBesides}
use Rattle.model_workers.specs.Loops.Loop.{Loops, Stops}
use Rattle.model_workers.specs.Loops.Shown.{IsPicture}
use Rattle.model_workers.proofs.LoopsLemmas.LivedLemmas.{drains_lived}
use Rattle.model_workers.proofs.LoopsLemmas.ShownLemmas as shown
use Rattle.worker.specs.Gathered.{Doings, committed_too}
use Rattle.worker.specs.Life.{begins}
use Rattle.worker.specs.Machine.{history_at_request}
use Rattle.worker.specs.Pipelined.{FailsPipelined, WentPipelined}
use Rattle.worker.specs.Session.{Standing, Turned, Fails}
use Rattle.worker.specs.declared.error.RunError.{RunError}
use Rattle.worker.specs.declared.state.Asked.{Asked}
use Rattle.worker.specs.declared.state.Settings.{Settings}
use Rattle.worker.specs.declared.worker.Progress.{Progress}
use Rattle.worker.specs.declared.worker.Progress.TheVariants.{GoesOn, Stopped}
use Rattle.stream_drain.specs.Lived.{Leads, RoundsAreLived}
use Rattle.stream_drain.specs.Written.{Beginning, Written, committed_with, written_of, written_too}
use Rattle.stream_drain.proofs.WrittenLemmas.{each_commit, each_verdict, with_none}

-- the lines are a picture of the doings
pub lines_picture : IsPicture written_of written_too committed_with
lines_picture = record { verdict = each_verdict; commit = each_commit }

-- what is written as a worker asks
pub commit_of : (settings : Settings) (first : Beginning) (m : Machine) (d : Doings)
    → history_at_request committed_with m (written_of first d) ≡ written_of first (history_at_request committed_too m d)
commit_of settings first m d =
    shown.commit_of written_too committed_with written_of lines_picture settings first m d

pub leads_both : (settings : Settings) (old m new : Link) (w x y : Standing Written) → Leads (Loops settings) old m w x
    → Leads (Loops settings) m new x y → Leads (Loops settings) old new w y
leads_both settings old m new w x y a b =
    shown.leads_both written_too committed_with written_of lines_picture settings old m new w x y a b

pub leads_stop : (settings : Settings) (old m new : Link) (w x y : Standing Written) → Leads (Loops settings) old m w x
    → Leads (Stops settings) m new x y → Leads (Stops settings) old new w y
leads_stop settings old m new w x y a b =
    shown.leads_stop written_too committed_with written_of lines_picture settings old m new w x y a b

pub leads_same : (settings : Settings) (l : Link) (w : Standing Written) → Leads (Loops settings) l l w w
leads_same settings l w =
    shown.leads_same written_too committed_with written_of lines_picture settings l w

pub leads_besides : (settings : Settings) (old new : Link) (w : Standing Written) → Besides old new
    → Leads (Loops settings) old new w w
leads_besides settings old new w a =
    shown.leads_besides written_too committed_with written_of lines_picture settings old new w a

pub leads_breaks : (settings : Settings) (old new : Link) (w : Standing Written) → BreaksBesides old new
    → Leads (Stops settings) old new w w
leads_breaks settings old new w a =
    shown.leads_breaks written_too committed_with written_of lines_picture settings old new w a

pub leads_end : (settings : Settings) (old new : Link) (w x : Standing Written) → Leads (Loops settings) old new w x
    → Leads (Stops settings) old new w x
leads_end settings old new w x a =
    shown.leads_end written_too committed_with written_of lines_picture settings old new w x a

pub round_goes_on : (settings : Settings) (old new : Link) (w x : Standing Written) (asked : Asked)
    → Turned written_too committed_with settings old new w x asked GoesOn → Leads (Loops settings) old new w x
round_goes_on settings old new w x asked a =
    shown.round_goes_on written_too committed_with written_of lines_picture settings old new w x asked a

pub round_stops : (settings : Settings) (old new : Link) (w x : Standing Written) (asked : Asked)
    → Turned written_too committed_with settings old new w x asked Stopped → Leads (Stops settings) old new w x
round_stops settings old new w x asked a =
    shown.round_stops written_too committed_with written_of lines_picture settings old new w x asked a

pub round_fails : (settings : Settings) (old new : Link) (w x : Standing Written) (e : RunError)
    → Fails written_too committed_with settings old new w x e → Leads (Stops settings) old new w x
round_fails settings old new w x e a =
    shown.round_fails written_too committed_with written_of lines_picture settings old new w x e a

pub round_ok : (settings : Settings) (old new : Link) (w x : Standing Written) (asked : Asked) (p : Progress)
    → p ≡ GoesOn → Turned written_too committed_with settings old new w x asked p → Leads (Loops settings) old new w x
round_ok settings old new w x asked p a b =
    shown.round_ok written_too committed_with written_of lines_picture settings old new w x asked p a b

pub round_stopped : (settings : Settings) (old new : Link) (w x : Standing Written) (asked : Asked) (p : Progress)
    → p ≡ Stopped → Turned written_too committed_with settings old new w x asked p → Leads (Stops settings) old new w x
round_stopped settings old new w x asked p a b =
    shown.round_stopped written_too committed_with written_of lines_picture settings old new w x asked p a b

pub pipelined_ok : (settings : Settings) (old new : Link) (w x : Standing Written) (both : Bool) (asked : Asked)
    (p : Progress) → p ≡ GoesOn → WentPipelined written_too committed_with settings old new w x both asked p
    → Leads (Loops settings) old new w x
pipelined_ok settings old new w x both asked p a b =
    shown.pipelined_ok written_too committed_with written_of lines_picture settings old new w x both asked p a b

pub pipelined_stopped : (settings : Settings) (old new : Link) (w x : Standing Written) (both : Bool) (asked : Asked)
    (p : Progress) → p ≡ Stopped → WentPipelined written_too committed_with settings old new w x both asked p
    → Leads (Stops settings) old new w x
pipelined_stopped settings old new w x both asked p a b =
    shown.pipelined_stopped written_too committed_with written_of lines_picture settings old new w x both asked p a b

pub pipelined_fails : (settings : Settings) (old new : Link) (w x : Standing Written) (e : RunError)
    → FailsPipelined written_too committed_with settings old new w x e → Leads (Stops settings) old new w x
pipelined_fails settings old new w x e a =
    shown.pipelined_fails written_too committed_with written_of lines_picture settings old new w x e a

pub lived : RoundsAreLived
lived = record {
  begins = λ settings first. record {
    doings = record { loose = []; committed = [] };
    lives = begins;
    written = ap (λ (c : Option (List ℕ)). record { json = first.json; known = first.known; loose = []; committed = c })
        (sym (with_none first.first));
  };
  goes_on = round_goes_on;
  stops = round_stops;
  fails = round_fails;
  lives = drains_lived;
}
