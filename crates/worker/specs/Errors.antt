-- How errors of the libraries below become a worker's errors.
use Rattle.std.specs.Prelude.{Result, Ok, Err}
use Rattle.redis_args.specs.declared.writer.WriteError.{WriteError}
use Rattle.redis_args.specs.declared.writer.WriteError.TheVariants as writing
use Rattle.redis_connection.specs.declared.error.ConnectionError.{ConnectionError}
use Rattle.redis_resp.specs.declared.value.error.ParsingError.{ParsingError}
use Rattle.redis_resp.specs.declared.value.error.ParsingError.TheVariants as parsing
use Rattle.worker.specs.declared.error.RequestError.{RequestError}
use Rattle.worker.specs.declared.error.RequestError.TheVariants as requests
use Rattle.worker.specs.declared.error.RunError.{RunError}
use Rattle.worker.specs.declared.error.RunError.TheVariants as runs
use Rattle.worker.specs.declared.error.WorkerError.{WorkerError}
use Rattle.worker.specs.declared.error.WorkerError.TheVariants as causes
use Rattle.worker.specs.declared.state.Asked.{Asked}

-- the error for a command that was not written
abbrev pub request_error : WriteError → RequestError
request_error writing.Memory = requests.Memory
request_error writing.Full = requests.TooLong

-- the error for a value that was not decoded
abbrev pub read_error : ParsingError → WorkerError
read_error parsing.Memory = causes.Memory
read_error error = causes.Parsing error

-- a result of the connection as a result of the worker. An error names the command that waits for its reply
abbrev pub received_for : {A : Type 0} → Asked → Result A ConnectionError → Result A RunError
received_for asked (Ok a) = Ok a
received_for asked (Err e) = Err (runs.Receive asked e)
