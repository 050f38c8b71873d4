-- Requests and replies, by how many replies are still expected.
use Rattle.std.proofs.Common.{◌≡◌, ℕ, zero, suc, ◌+◌, ◌<◌, List, refl, ap, sym, ◌∙◌, arith, subst, true, Bool}
use Rattle.std.proofs.Common.{Some, None, option_map, if◌then◌else◌}
use Rattle.std.specs.Prelude.{Result, Ok, Err, OnOk, IfErr}
use Rattle.redis_wire.specs.Reply as wire
use Rattle.model_server.specs.Group.Group.{Numbers}
use Rattle.model_server.specs.Once.Feed as feed
use Rattle.model_server.specs.Once.Feed.{asking, waits, learns, last_is, executed}
use Rattle.worker_producer.specs.Learnt.{Learns, TookAt, UntakenAt, Unlearnt, IsOwn}
use Rattle.worker_producer.specs.Machine.{RequestedAt, Sent, Standing, idle, next_batch}
use Rattle.worker_producer.specs.Records.{Fields}
use Rattle.worker_producer.specs.Replies.{last_of, is_executed}
use Rattle.worker_producer.specs.Unheard.{IsCause, IsNoError}
use Rattle.worker_producer.specs.declared.error.FeedError.{FeedError}
use Rattle.worker_producer.specs.declared.error.FeedError.TheVariants as causes
use Rattle.worker_producer.specs.declared.settings.Settings.{Settings}
use Rattle.worker_producer.specs.declared.stage.Asked.{Asked}
use Rattle.worker_producer.specs.declared.stage.Asked.TheVariants as asked

-- replies are still expected, so nothing is requested
pub still_to_come : (n : ℕ) (s : Settings) (all : List Fields) (out : List ℕ) (x : Standing) → 0 < n
    → RequestedAt n s all out out x x asked.Nothing
still_to_come zero s all out x h = absurd (omega arith)
still_to_come (suc k) s all out x h = (refl, refl, refl)

-- none are
pub none_to_come : (n : ℕ) (s : Settings) (all : List Fields) (out more : List ℕ) (old new : Standing) (a : Asked)
    → n ≡ 0 → Sent s (next_batch s all old.stage) out more old.stage new a → RequestedAt n s all out more old new a
none_to_come n s all out more old new a e sent =
    subst (λ (k : ℕ). RequestedAt k s all out more old new a) (sym e) sent

pub not_asked : (n base count : ℕ) (old new : Standing) (a : wire.Answer) (e : FeedError) → n ≡ 0
    → e ≡ causes.NotAsked → new ≡ old → UntakenAt n base count old new a e
not_asked n base count old new a e is cause same =
    subst (λ (k : ℕ). UntakenAt k base count old new a e) (sym is) (cause, same)

pub last_taken : (n base count : ℕ) (old new : Standing) (a : wire.Answer) → n ≡ 1
    → Learns base count old.stage new.stage a → new.coming ≡ 0 → TookAt n base count old new a
last_taken n base count old new a is l none =
    subst (λ (k : ℕ). TookAt k base count old new a) (sym is) (l, none)

pub last_untaken : (n base count : ℕ) (old new : Standing) (a : wire.Answer) (e : FeedError) → n ≡ 1
    → Unlearnt base count old.stage a e → new ≡ idle → UntakenAt n base count old new a e
last_untaken n base count old new a e is u none =
    subst (λ (k : ℕ). UntakenAt k base count old new a e) (sym is) (u, none)

one_fewer : (x : feed.Stage) (m k : ℕ) (new : Standing) → m + 1 ≡ suc (suc k)
    → new ≡ record { stage = x; coming = m } → new ≡ record { stage = x; coming = suc k }
one_fewer x m k new e is =
    let same : m ≡ suc k = omega arith in
    is ∙ ap (λ (j : ℕ). let y : Standing = record { stage = x; coming = j } in y) same

pub more_taken : (n m base count : ℕ) (old new : Standing) (a : wire.Answer) → m + 1 ≡ n → 0 < m
    → IsNoError a → new ≡ record { stage = old.stage; coming = m } → TookAt n base count old new a
more_taken zero m base count old new a e h fine is = absurd (omega arith)
more_taken (suc zero) m base count old new a e h fine is = absurd (omega arith)
more_taken (suc (suc k)) m base count old new a e h fine is = (fine, one_fewer old.stage m k new e is)

more_untaken : (n m base count : ℕ) (old new : Standing) (a : wire.Answer) (x : FeedError) → m + 1 ≡ n → 0 < m
    → IsCause a x → new ≡ record { stage = old.stage; coming = m } → UntakenAt n base count old new a x
more_untaken zero m base count old new a x e h cause is = absurd (omega arith)
more_untaken (suc zero) m base count old new a x e h cause is = absurd (omega arith)
more_untaken (suc (suc k)) m base count old new a x e h cause is = (cause, one_fewer old.stage m k new e is)

-- the same of what is returned of a reply before the last
pub queued_ok : {A : Type 0} (r : Result A FeedError) (n m base count : ℕ) (old new : Standing) (a : wire.Answer)
    → m + 1 ≡ n → 0 < m → new ≡ record { stage = old.stage; coming = m } → OnOk r (IsNoError a)
    → OnOk r (TookAt n base count old new a)
queued_ok (Ok x) n m base count old new a e h is fine = more_taken n m base count old new a e h fine is
queued_ok (Err x) n m base count old new a e h is fine = tt

pub queued_err : {A : Type 0} (r : Result A FeedError) (n m base count : ℕ) (old new : Standing) (a : wire.Answer)
    → m + 1 ≡ n → 0 < m → new ≡ record { stage = old.stage; coming = m } → IfErr r (IsCause a)
    → IfErr r (UntakenAt n base count old new a)
queued_err (Ok x) n m base count old new a e h is cause = tt
queued_err (Err x) n m base count old new a e h is cause = more_untaken n m base count old new a x e h cause is

-- the last id is known
pub learnt_last : (base count : ℕ) (a : wire.Answer) (last : Numbers) (new : feed.Stage) → last_of a ≡ Some last
    → IsOwn base count (last_is last) → new ≡ learns base asking (last_is last) → Learns base count asking new a
learnt_last base count a last new said own is = record {
  hears = last_is last;
  is = ap (option_map last_is) said;
  own = own;
  knows = is;
}

-- a batch is in the stream
pub learnt_executed : (base count m n : ℕ) (a : wire.Answer) (new : feed.Stage) → is_executed n a ≡ true
    → new ≡ learns base (waits m n) executed → Learns base count (waits m n) new a
learnt_executed base count m n a new said is = record {
  hears = executed;
  is = ap (λ (b : Bool). if b then Some executed else None) said;
  own = tt;
  knows = is;
}

-- replies that are taken
pub ruleset taken = (not_asked, last_taken, last_untaken, queued_ok, queued_err)
