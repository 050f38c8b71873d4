-- The commands of a producer.
use Rattle.std.specs.Prelude.{ℕ, List, [], ◌∷◌, ◌++◌, codes, option_map, string_bytes}
use Rattle.redis_args.specs.Clause.{clause}
use Rattle.redis_wire.specs.Packed.{command_bytes}
use Rattle.model_server.specs.Group.Group.{id_text}
use Rattle.model_server.specs.Once.Feed.{Numbered}
use Rattle.stream_options.specs.Trim.{strategy_sentence}
use Rattle.stream_options.specs.View.{strategy_of}
use Rattle.worker_producer.specs.Records.{Fields, arguments_of}
use Rattle.worker_producer.specs.declared.settings.Settings.{Settings}

-- `XINFO STREAM key`, as bytes
abbrev pub ask_bytes : List ℕ → List ℕ
ask_bytes key = command_bytes (codes "XINFO" ∷ codes "STREAM" ∷ key ∷ [])

-- the id of the record with this number after the base
abbrev pub own_id : ℕ → List ℕ
own_id number = id_text (number, 0)

-- the arguments of XADD before the id: the key, and `MAXLEN mode n` or `MINID mode id` if it trims
abbrev pub head_of : Settings → List (List ℕ)
head_of s = string_bytes s.key ∷ clause strategy_sentence (option_map strategy_of s.trim)

-- `XADD key [trimming] id field value ..`
abbrev pub add_sentence : List (List ℕ) → Numbered Fields → List (List ℕ)
add_sentence head r = codes "XADD" ∷ (head ++ id_text r.0 ∷ arguments_of r.1)

-- XADD of each record, as bytes
abbrev pub adds_bytes : List (List ℕ) → List (Numbered Fields) → List ℕ
adds_bytes head [] = []
adds_bytes head (r ∷ rs) = command_bytes (add_sentence head r) ++ adds_bytes head rs

-- a batch, as bytes
abbrev pub batch_bytes : List (List ℕ) → List (Numbered Fields) → List ℕ
batch_bytes head b =
    command_bytes (codes "MULTI" ∷ []) ++ (adds_bytes head b ++ command_bytes (codes "EXEC" ∷ []))
