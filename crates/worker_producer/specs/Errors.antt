-- How errors of the libraries below become a producer's errors.
use Rattle.redis_args.specs.declared.writer.WriteError.{WriteError}
use Rattle.redis_args.specs.declared.writer.WriteError.TheVariants as writing
use Rattle.worker_producer.specs.declared.error.RequestError.{RequestError}
use Rattle.worker_producer.specs.declared.error.RequestError.TheVariants as requests

-- a command that was not written
abbrev pub request_error : WriteError → RequestError
request_error writing.Memory = requests.Memory
request_error writing.Full = requests.TooLong
