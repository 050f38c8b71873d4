-- The rounds of a worker whose handler keeps rows, as rounds of one that keeps what it did.
use Rattle.std.proofs.Common.{◌≡◌, sym, ap, Bool, List, [], Option}
use Rattle.redis_connection.specs.Link.{Link}
use Rattle.worker_table.specs.RowTable.Rows.{Row}
use Rattle.model_server.specs.Group.Worker.{Machine}
use Rattle.model_workers.specs.Loops.Loop.{Loops, Stops}
use Rattle.model_workers.specs.Loops.Shown.{IsPicture}
use Rattle.model_workers.proofs.LoopsLemmas.LivedLemmas.{drains_lived}
use Rattle.model_workers.proofs.LoopsLemmas.ShownLemmas as shown
use Rattle.worker.specs.Gathered.{Doings, committed_too}
use Rattle.worker.specs.Life.{begins}
use Rattle.worker.specs.Machine.{history_at_request}
use Rattle.worker.specs.Pipelined.{FailsPipelined, WentPipelined}
use Rattle.worker.specs.Session.{Standing}
use Rattle.worker.specs.declared.error.RunError.{RunError}
use Rattle.worker.specs.declared.state.Asked.{Asked}
use Rattle.worker.specs.declared.state.Settings.{Settings}
use Rattle.worker.specs.declared.worker.Progress.{Progress}
use Rattle.worker.specs.declared.worker.Progress.TheVariants.{GoesOn, Stopped}
use Rattle.worker_table.specs.Kept.{Beginning, Kept, committed_with, kept_of, kept_too}
use Rattle.worker_table.specs.Lived.{Leads, RoundsAreLived}
use Rattle.worker_table.proofs.KeptLemmas.{each_commit, each_verdict, with_none}

-- the rows are a picture of the doings
pub rows_picture : IsPicture kept_of kept_too committed_with
rows_picture = record { verdict = each_verdict; commit = each_commit }

-- the rows that are kept once a worker's request is made
pub commit_of : (settings : Settings) (first : Beginning) (m : Machine) (d : Doings)
    → history_at_request committed_with m (kept_of first d) ≡ kept_of first (history_at_request committed_too m d)
commit_of settings first m d = shown.commit_of kept_too committed_with kept_of rows_picture settings first m d

pub leads_both : (settings : Settings) (old m new : Link) (w x y : Standing Kept) → Leads (Loops settings) old m w x
    → Leads (Loops settings) m new x y → Leads (Loops settings) old new w y
leads_both settings old m new w x y a b =
    shown.leads_both kept_too committed_with kept_of rows_picture settings old m new w x y a b

pub leads_stop : (settings : Settings) (old m new : Link) (w x y : Standing Kept) → Leads (Loops settings) old m w x
    → Leads (Stops settings) m new x y → Leads (Stops settings) old new w y
leads_stop settings old m new w x y a b =
    shown.leads_stop kept_too committed_with kept_of rows_picture settings old m new w x y a b

pub leads_same : (settings : Settings) (l : Link) (w : Standing Kept) → Leads (Loops settings) l l w w
leads_same settings l w = shown.leads_same kept_too committed_with kept_of rows_picture settings l w

pub leads_end : (settings : Settings) (old new : Link) (w x : Standing Kept) → Leads (Loops settings) old new w x
    → Leads (Stops settings) old new w x
leads_end settings old new w x a = shown.leads_end kept_too committed_with kept_of rows_picture settings old new w x a

pub pipelined_ok : (settings : Settings) (old new : Link) (w x : Standing Kept) (both : Bool) (asked : Asked)
    (p : Progress) → p ≡ GoesOn → WentPipelined kept_too committed_with settings old new w x both asked p
    → Leads (Loops settings) old new w x
pipelined_ok settings old new w x both asked p a b =
    shown.pipelined_ok kept_too committed_with kept_of rows_picture settings old new w x both asked p a b

pub pipelined_stopped : (settings : Settings) (old new : Link) (w x : Standing Kept) (both : Bool) (asked : Asked)
    (p : Progress) → p ≡ Stopped → WentPipelined kept_too committed_with settings old new w x both asked p
    → Leads (Stops settings) old new w x
pipelined_stopped settings old new w x both asked p a b =
    shown.pipelined_stopped kept_too committed_with kept_of rows_picture settings old new w x both asked p a b

pub pipelined_fails : (settings : Settings) (old new : Link) (w x : Standing Kept) (e : RunError)
    → FailsPipelined kept_too committed_with settings old new w x e → Leads (Stops settings) old new w x
pipelined_fails settings old new w x e a =
    shown.pipelined_fails kept_too committed_with kept_of rows_picture settings old new w x e a

pub lived : RoundsAreLived
lived = record {
  begins = λ settings first. record {
    doings = record { loose = []; committed = [] };
    lives = begins;
    kept = ap (λ (c : Option (List Row)). record { columns = first.0; loose = []; committed = c })
        (sym (with_none first.1));
  };
  goes_on = λ settings old new w x asked a.
      shown.round_goes_on kept_too committed_with kept_of rows_picture settings old new w x asked a;
  stops = λ settings old new w x asked a.
      shown.round_stops kept_too committed_with kept_of rows_picture settings old new w x asked a;
  fails = λ settings old new w x e a.
      shown.round_fails kept_too committed_with kept_of rows_picture settings old new w x e a;
  lives = drains_lived;
}
