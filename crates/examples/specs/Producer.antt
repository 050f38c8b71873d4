-- Why a producer stays at its entry.
use Rattle.std.specs.Prelude.{◌≡◌, ◌^◌, ℕ, suc}
use Rattle.redis.specs.Words.{Refuses, RefusesText, Tree, text_reading}
use Rattle.examples.specs.declared.producer.ProducerError.{ProducerError}
use Rattle.examples.specs.declared.producer.ProducerError.TheVariants.{Answer, LastNumber}

-- the reply `t` is not an id, or the number of the entry is the largest `u64`
abbrev pub Stays : ℕ → Tree → ProducerError → Type 0
Stays number t (Answer error) = Refuses text_reading RefusesText t error
Stays number t LastNumber = suc number ≡ 2 ^ 64
