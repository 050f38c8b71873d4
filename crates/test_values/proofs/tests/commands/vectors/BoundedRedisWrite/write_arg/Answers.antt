use Rattle.std.proofs.Common.{refl}
use Rattle.redis_args.proofs.WriterLemmas.{stops_at_once}
use Rattle.test_values.proofs.tests.commands.vectors.BoundedRedisWrite.write_arg.Goals as goal

pub returns-then-self-eq0-clause-wrote : goal.returns-then-self-eq0-clause-wrote
returns-then-self-eq0-clause-wrote c = stops_at_once refl tt
