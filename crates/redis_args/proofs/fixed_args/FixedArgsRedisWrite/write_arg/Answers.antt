use Rattle.std.proofs.Common.{refl, arith}
use Rattle.redis_args.proofs.WriterLemmas.{stops_at_once}
use Rattle.redis_args.proofs.FixedArgsLemmas.{facts}
use Rattle.redis_args.proofs.fixed_args.FixedArgsRedisWrite.write_arg.Goals as goal

pub returns-then-is_full-clause-wrote : goal.returns-then-is_full-clause-wrote
returns-then-is_full-clause-wrote g c = stops_at_once refl (refl, grind (arith, facts))
