-- Rounds without a WAIT.
use Rattle.std.proofs.Common.{sym, subst, ℕ, zero, suc, List, Option, None}
use Rattle.redis_connection.specs.Link.{Link}
use Rattle.worker_producer.specs.Confirmed.{ConfirmedRounds, IsConfirmedRound}
use Rattle.worker_producer.specs.Confirmed.{UnconfirmedAreRounds, UnconfirmedBreakOff, NoneIsUnconfirmed}
use Rattle.worker_producer.specs.Machine.{Standing, idle}
use Rattle.worker_producer.specs.Records.{Fields}
use Rattle.worker_producer.specs.Session.{IsRound, Rounds}
use Rattle.worker_producer.specs.declared.settings.Settings.{Settings}
use Rattle.worker_producer.specs.declared.stage.Asked.{Asked}
use Rattle.worker_producer.specs.declared.stage.Asked.TheVariants as asked

module _ (s : Settings) (known : Option (List Fields)) (count : ℕ) where
  round_is : (old new : Link) (v x : Standing) (a : Asked) → IsConfirmedRound None s known count old new v x a
      → IsRound s known count old new v x a
  round_is old new v x a r = subst (λ (l : Link). IsRound s known count old l v x a) (sym r.confirms) r.round

  rounds_are : (n : ℕ) (old new : Link) (v x : Standing) → ConfirmedRounds None s known count n old new v x
      → Rounds s known count n old new v x
  rounds_are zero old new v x r = r
  rounds_are (suc n) old new v x r =
      (r.0, r.1, r.2, rounds_are n old r.0 v r.1 r.3, round_is r.0 new r.1 x r.2 r.4)

pub unconfirmed_are_rounds : UnconfirmedAreRounds
unconfirmed_are_rounds s known count old new f = record {
  count_of = f.count_of;
  link = f.link;
  standing = f.standing;
  ends = f.ends;
  rounds = rounds_are s known count f.count_of old f.link idle f.standing f.rounds;
  last = round_is s known count f.link new f.standing f.ends asked.Nothing f.last;
}

pub unconfirmed_break_off : UnconfirmedBreakOff
unconfirmed_break_off s known count old new e b = record {
  count_of = b.count_of;
  link = b.link;
  standing = b.standing;
  rounds = rounds_are s known count b.count_of old b.link idle b.standing b.rounds;
  breaks = b.breaks;
}

pub none_is_unconfirmed : NoneIsUnconfirmed
none_is_unconfirmed s known count old new e b = b.breaks.confirms_not
