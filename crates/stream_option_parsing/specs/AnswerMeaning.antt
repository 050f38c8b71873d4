-- What the Rust values of the replies mean.
use Rattle.std.specs.Prelude.{ℕ, Result, Ok, Err}
use Rattle.stream_option_parsing.specs.Answer as mathematics
use Rattle.stream_option_parsing.specs.declared.answer.Reply.{Reply}
use Rattle.stream_option_parsing.specs.declared.answer.Reply.TheVariants.{Unknown, No, Count}
use Rattle.stream_option_parsing.specs.declared.error.SentenceError.{SentenceError}
use Rattle.stream_option_parsing.specs.declared.error.SentenceError.TheVariants as sentence
use Rattle.stream_option_parsing.specs.declared.run_error.RunError.{RunError}
use Rattle.stream_option_parsing.specs.declared.run_error.RunError.TheVariants as running

-- the reply of a value
abbrev pub reply_of : Reply → mathematics.Reply
reply_of Unknown = mathematics.unknown
reply_of No = mathematics.no
reply_of (Count k) = mathematics.ok k

-- the reply for the result of a reader
abbrev pub verdict_of : {T : Type 0} → Result (T × ℕ) SentenceError → Result Reply RunError
verdict_of (Ok x) = Ok (Count x.1)
verdict_of (Err sentence.NotASentence) = Ok No
verdict_of (Err sentence.Memory) = Err running.Memory
