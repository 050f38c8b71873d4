use Rattle.std.proofs.Common.{refl, ◌≡◌, ◌∙◌, map, ap}
use Rattle.redis_args.specs.declared.writer.WriteError.TheVariants.{Memory}
use Rattle.redis_args.proofs.WriterLemmas.{stops_at_once, wrote_at_exit}
use Rattle.redis_args.proofs.writer.VecVecU8RedisWrite.write_arg.Goals as goal

pub returns-in_err-make_room-clause-wrote : goal.returns-in_err-make_room-clause-wrote
returns-in_err-make_room-clause-wrote c =
    wrote_at_exit {may_refuse = λ _ e. e ≡ Memory} _ c.from_residual.ensures.1
    (stops_at_once (ap (map (λ a. a.items)) c.make_room.ensures.items) refl)

pub returns-in_err-copy-clause-wrote : goal.returns-in_err-copy-clause-wrote
returns-in_err-copy-clause-wrote c =
    wrote_at_exit {may_refuse = λ _ e. e ≡ Memory} _ c.from_residual-in_err-copy.ensures.1
    (stops_at_once (ap (map (λ a. a.items)) c.make_room.ensures.items) refl)

pub returns-in_err-push-clause-wrote : goal.returns-in_err-push-clause-wrote
returns-in_err-push-clause-wrote c =
    wrote_at_exit {may_refuse = λ _ e. e ≡ Memory} _ c.from_residual-in_err-push.ensures.1
    (stops_at_once (ap (map (λ a. a.items)) (c.in_err-push.ensures.items ∙ c.make_room.ensures.items)) refl)
