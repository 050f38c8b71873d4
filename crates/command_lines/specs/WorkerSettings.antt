-- The settings of a worker, in terms of the arguments that clap found.
use Rattle.std.specs.Prelude.{◌≡◌, ◌≢◌, ◌<◌, ◌-◌, ◌^◌, ◌∷◌, [], ℕ, Bool, IfSome, List, None, Option, Some, String, codes, false, option_map}
use Rattle.std.specs.Prelude.{string_bytes, true, unwrap_or}
use Rattle.std.specs.declared.alloc.Global.{Global}
use Rattle.clap.specs.Words.{first_value, matched_of, one_text, raw_values}
use Rattle.clap.specs.declared.parser.matches.Found.{Found}
use Rattle.command_lines.specs.Numbers.{IsNumberIn, number_of}
use Rattle.redis_connection.specs.declared.wait.Wait.{Wait}
use Rattle.worker.specs.declared.dead_letters.search.GiveUp.{GiveUp}
use Rattle.worker.specs.declared.state.MakeGroup.{MakeGroup}
use Rattle.worker.specs.declared.state.MakeGroup.TheVariants.{FromNow, FromTheFirst, Never}
use Rattle.worker.specs.declared.state.Settings.{Settings}

-- the value of the argument `id`, or the empty text if it is absent
abbrev pub word_in : Found → List ℕ → List ℕ
word_in found id = unwrap_or (first_value found id) []

-- `text` is the value of the argument `id`, or empty if it is absent
abbrev pub IsWord : Found → List ℕ → String Global → Type 0
IsWord found id text = string_bytes text ≡ word_in found id

-- if the text of the option `id` is a number from `least` to `most`, `number` is the value of this text
abbrev pub IsNumber : Found → List ℕ → ℕ → ℕ → ℕ → Type 0
IsNumber found id least most number = (text : List ℕ) → one_text found id ≡ Some text
    → IsNumberIn least most text → number ≡ number_of text

-- the largest number of 64 bits
abbrev pub largest : ℕ
largest = 2 ^ 64 - 1

-- `--from 0` creates a group with all entries. `--from $` creates a group with the entries added from then on.
-- Any other value creates no group.
pub record MakesGroup (word : List ℕ) (makes : MakeGroup) : Type 0 where
  pub first : word ≡ codes "0" → makes ≡ FromTheFirst
  pub now : word ≡ codes "$" → makes ≡ FromNow
  pub never : word ≢ codes "0" → word ≢ codes "$" → makes ≡ Never

-- `s` has the names KEY, GROUP and CONSUMER, the numbers of `--block`, `--idle` and `--every`, and the group of
-- `--from`. The option `count` gives the largest number of entries that one command requests.
pub record AreSettings (count : List ℕ) (least most : ℕ) (found : Found) (s : Settings) : Type 0 where
  pub key : IsWord found (codes "KEY") s.key
  pub group : IsWord found (codes "GROUP") s.group
  pub consumer : IsWord found (codes "CONSUMER") s.consumer
  pub at_once : IsNumber found count least most s.count
  pub block : IsNumber found (codes "block") 0 largest s.block
  pub idle : IsNumber found (codes "idle") 0 largest s.min_idle
  pub every : IsNumber found (codes "every") 0 largest s.every
  pub make_group : MakesGroup (word_in found (codes "from")) s.make_group

-- the number of deliveries, and the name of the stream
abbrev pub parts_of : GiveUp → ℕ × List ℕ
parts_of to = (to.deliveries, string_bytes to.stream)

-- `to` is the value of `--dead TIMES STREAM`: entries delivered at least TIMES times are moved to STREAM. TIMES
-- is at least 1, and STREAM is not KEY. Without the option no entry is moved.
pub record GivesUp (found : Found) (to : Option GiveUp) : Type 0 where
  pub given : (times stream : List ℕ) → option_map raw_values (matched_of found (codes "dead")) ≡ Some (times ∷ stream ∷ [])
      → option_map parts_of to ≡ Some (number_of times, stream)
  pub left_out : matched_of found (codes "dead") ≡ None → to ≡ None
  pub some : IfSome to (λ g. (0 < g.deliveries) × (string_bytes g.stream ≢ word_in found (codes "KEY")))

-- the number of replicas, and the number of milliseconds
abbrev pub wait_parts : Wait → ℕ × ℕ
wait_parts wait = (wait.replicas, wait.milliseconds)

-- `wait` is the value of `--wait REPLICAS MS`: the worker waits at most MS milliseconds for REPLICAS replicas.
-- Without the option the worker does not wait.
pub record Waits (found : Found) (wait : Option Wait) : Type 0 where
  pub given : (replicas milliseconds : List ℕ)
      → option_map raw_values (matched_of found (codes "wait")) ≡ Some (replicas ∷ milliseconds ∷ [])
      → option_map wait_parts wait ≡ Some (number_of replicas, number_of milliseconds)
  pub left_out : matched_of found (codes "wait") ≡ None → wait ≡ None

-- `is_there` is whether the option `id` is present. The option has no value.
pub record IsFlag (found : Found) (id : List ℕ) (is_there : Bool) : Type 0 where
  pub given : one_text found id ≡ Some (codes "true") → is_there ≡ true
  pub other : one_text found id ≡ Some (codes "false") → is_there ≡ false
  pub left_out : one_text found id ≡ None → is_there ≡ false
