-- Rounds, and what goes out between them.
use Rattle.std.proofs.Common.{◌≡◌, sym, subst, inl, inr, Option, Result, Ok, Err, OnErr, OnOk}
use Rattle.redis_connection.specs.Link.{Link}
use Rattle.worker_table.specs.RowTable.Posts.{Stored, rows_known}
use Rattle.model_workers.specs.Loops.Loop.{Loops, Stops}
use Rattle.worker_table.specs.Forwarded.{HasSent}
use Rattle.worker_table.specs.Kept.{Kept, committed_with, kept_too}
use Rattle.worker_table.specs.Lived.{Leads}
use Rattle.worker_table.specs.declared.sending.SendError.{SendError}
use Rattle.worker_table.proofs.LivedLemmas.{lived}
use Rattle.worker.specs.Session.{Standing, Turned}
use Rattle.worker.specs.declared.state.Asked.{Asked}
use Rattle.worker.specs.declared.state.Settings.{Settings}
use Rattle.worker.specs.declared.worker.Progress.{Progress}
use Rattle.worker.specs.declared.worker.Progress.TheVariants.{GoesOn, Stopped}
use Rattle.stream_sqlite.specs.Forwards.{AllWent, Ends, Forwards, begins, passes}

-- ---- a round

pub round_goes : (settings : Settings) (old new : Link) (w x : Standing Kept) (asked : Asked) (p : Progress) → p ≡ GoesOn
    → Turned kept_too committed_with settings old new w x asked p → Leads (Loops settings) old new w x
round_goes settings old new w x asked p is turned = lived.goes_on settings old new w x asked
    (subst (λ (q : Progress). Turned kept_too committed_with settings old new w x asked q) is turned)

pub round_stops : (settings : Settings) (old new : Link) (w x : Standing Kept) (asked : Asked) (p : Progress)
    → p ≡ Stopped → Turned kept_too committed_with settings old new w x asked p → Leads (Stops settings) old new w x
round_stops settings old new w x asked p is turned = lived.stops settings old new w x asked
    (subst (λ (q : Progress). Turned kept_too committed_with settings old new w x asked q) is turned)

-- ---- what is sent, and then a round

pub passed : (settings : Settings) (l m n : Link) (s t u : Option Stored) (w x y : Standing Kept) → x ≡ w
    → AllWent l s m t → Leads (Loops settings) m n x y → rows_known u ≡ y.history.committed → Forwards settings l s w n u y
passed settings l m n s t u w x y same went leads rows = passes l l m n s s t u w w y (begins l s w) went
    (subst (λ (z : Standing Kept). Leads (Loops settings) m n z y) same leads) rows

pub passed_not : (settings : Settings) (l m n : Link) (s t : Option Stored) (w x y : Standing Kept) → x ≡ w
    → AllWent l s m t → Leads (Stops settings) m n x y → Ends settings l n s w y
passed_not settings l m n s t w x y same went leads = record {
  between = l;
  known = s;
  stands = w;
  forwards = begins l s w;
  ends = inl (m, t, went, subst (λ (z : Standing Kept). Leads (Stops settings) m n z y) same leads);
}

-- the worker did nothing more
pub stayed : (settings : Settings) (l n : Link) (s : Option Stored) (w x : Standing Kept) → x ≡ w
    → Ends settings l n s w x
stayed settings l n s w x same = record {
  between = l;
  known = s;
  stands = w;
  forwards = begins l s w;
  ends = inr (sym same);
}

-- ---- more of it

pub forwards_both : (settings : Settings) (l m n : Link) (s t u : Option Stored) (w x y : Standing Kept)
    → Forwards settings l s w m t x → Forwards settings m t x n u y → Forwards settings l s w n u y
forwards_both settings l m n s t u w x y a (begins k r v) = a
forwards_both settings l m n s t u w x y a (passes i j k o p q r v b z c f went leads rows) =
    passes l j k o s q r v w z c (forwards_both settings l i j s p q w b z a f) went leads rows

pub forwards_end : (settings : Settings) (l m n : Link) (s t : Option Stored) (w x y : Standing Kept)
    → Forwards settings l s w m t x → Ends settings m n t x y → Ends settings l n s w y
forwards_end settings l m n s t w x y a e = record {
  between = e.between;
  known = e.known;
  stands = e.stands;
  forwards = forwards_both settings l m e.between s t e.known w x e.stands a e.forwards;
  ends = e.ends;
}

pub err_too : {A E P Q : Type 0} (r : Result A E) → OnErr r P → (P → Q) → OnErr r Q
err_too (Ok x) p f = tt
err_too (Err e) p f = f p

-- ---- what is sent

pub all_went : {A : Type 0} (r : Result A SendError) (x : A) (old new : Link) (s t : Option Stored) → r ≡ Ok x
    → OnOk r (HasSent r old s new t) → AllWent old s new t
all_went {A} r x old new s t is sent = subst (λ (q : Result A SendError). OnOk q (HasSent q old s new t)) is sent
