-- The arguments of commands, by the parts that C passes.
use Rattle.std.specs.Prelude.{ℕ, Bool, List, [], ◌∷◌, ◌++◌, codes, decimal, Some, if◌then◌else◌}
use Rattle.std.specs.List.{flat_map}
use Rattle.redis_args.specs.Clause.{clause, word_number}
use Rattle.stream_options.specs.Add.{Add}
use Rattle.stream_options.specs.Claim.{Claim}
use Rattle.stream_options.specs.Trim.{exact, approx, Trim}
use Rattle.stream_options.specs.Maxlen.{maxlen_sentence}
use Rattle.stream_options.specs.Read.{Read, default_read, group_with}
use Rattle.stream_commands.specs.WholeCommands.{add_list, trim_list, read_list, claim_list, autoclaim_list, ReadParts}
use Rattle.redis_c.specs.declared.commands.ReadSettings.{ReadSettings}
use Rattle.redis_c.specs.declared.settings.AutoClaimSettings.{AutoClaimSettings}
use Rattle.redis_c.specs.declared.settings.PendingSettings.{PendingSettings}
use Rattle.redis_c.specs.Settings.{if_set, autoclaim_of}

-- how long a read blocks and how much it reads
abbrev pub reading_of : ReadSettings → Read
reading_of s = record default_read { block = if_set s.has_block s.block; count = if_set s.has_count s.count }

-- the settings of a read for this consumer of this group
abbrev pub read_of : ReadSettings → List ℕ → List ℕ → Read
read_of s group consumer = record {
  group = Some (group_with (group ∷ []) (consumer ∷ []));
  block = if_set s.has_block s.block;
  count = if_set s.has_count s.count;
  noack = s.noack;
  claim = if_set s.has_claim s.claim;
}

-- a read of one stream
abbrev pub read_parts : ReadSettings → List ℕ → List ℕ → List ℕ → List ℕ → ReadParts
read_parts s group consumer key id = record { options = read_of s group consumer; streams = (key, id) ∷ [] }

-- `XACK key group id ..`
abbrev pub ack_args : List ℕ → List ℕ → List (List ℕ) → List (List ℕ)
ack_args key group ids = codes "XACK" ∷ key ∷ group ∷ ids

-- `XCLAIM key group consumer min-idle id ..`
abbrev pub claim_args : List ℕ → List ℕ → List ℕ → ℕ → List (List ℕ) → List (List ℕ)
claim_args key group consumer min_idle ids = codes "XCLAIM" ∷ key ∷ group ∷ consumer ∷ decimal min_idle ∷ ids

-- `XADD key id name value ..`
abbrev pub add_args : List ℕ → List ℕ → List (List ℕ × List ℕ) → List (List ℕ)
add_args key id fields = codes "XADD" ∷ key ∷ id ∷ flat_map (λ field. field.0 ∷ field.1 ∷ []) fields

-- `XAUTOCLAIM key group consumer min-idle start COUNT count`
abbrev pub autoclaim_args : List ℕ → List ℕ → List ℕ → ℕ → List ℕ → ℕ → List (List ℕ)
autoclaim_args key group consumer min_idle start count =
    codes "XAUTOCLAIM" ∷ key ∷ group ∷ consumer ∷ decimal min_idle ∷ start ∷ codes "COUNT" ∷ decimal count ∷ []

-- `XPENDING key group start end count`
abbrev pub pending_args : List ℕ → List ℕ → List ℕ → List ℕ → ℕ → List (List ℕ)
pending_args key group start end count = codes "XPENDING" ∷ key ∷ group ∷ start ∷ end ∷ decimal count ∷ []

-- `XTRIM key MAXLEN = n`, or with `~` instead of `=`, if more entries may remain
abbrev pub trim_args : List ℕ → Bool → ℕ → List (List ℕ)
trim_args key approximate n =
    codes "XTRIM" ∷ key ∷ maxlen_sentence (record { mode = if approximate then approx else exact; count = n })

-- ---- with options

-- `XADD key [options] id name value ..`
abbrev pub add_options_args : List ℕ → List ℕ → Add → List (List ℕ × List ℕ) → List (List ℕ)
add_options_args key id options fields =
    add_list
    (record { key = key; options = options; id = id; fields = flat_map (λ field. field.0 ∷ field.1 ∷ []) fields })

-- `XTRIM key options`
abbrev pub trim_options_args : List ℕ → Trim → List (List ℕ)
trim_options_args key options = trim_list (record { key = key; options = options })

-- `XCLAIM key group consumer min-idle id .. [options]`
abbrev pub claim_options_args : List ℕ → List ℕ → List ℕ → ℕ → Claim → List (List ℕ) → List (List ℕ)
claim_options_args key group consumer min_idle options ids =
    claim_list
    (record {
      key = key;
      group = group;
      consumer = consumer;
      min_idle = min_idle;
      ids = ids;
      options = options;
    })

-- `XAUTOCLAIM key group consumer min-idle start [options]`
abbrev pub autoclaim_options_args : List ℕ → List ℕ → List ℕ → ℕ → List ℕ → AutoClaimSettings → List (List ℕ)
autoclaim_options_args key group consumer min_idle start settings =
    autoclaim_list
    (record {
      key = key;
      group = group;
      consumer = consumer;
      min_idle = min_idle;
      start = start;
      options = autoclaim_of settings;
    })

-- `XREAD [BLOCK n] [COUNT n] STREAMS key .. id ..`
abbrev pub read_streams_args : ReadSettings → List (List ℕ × List ℕ) → List (List ℕ)
read_streams_args s streams = read_list (record { options = reading_of s; streams = streams })

-- `XREADGROUP GROUP group consumer [BLOCK n] [COUNT n] [NOACK] [CLAIM n] STREAMS key .. id ..`
abbrev pub read_group_args : ReadSettings → List ℕ → List ℕ → List (List ℕ × List ℕ) → List (List ℕ)
read_group_args s group consumer streams =
    read_list (record { options = read_of s group consumer; streams = streams })

-- `XPENDING key group [IDLE n] start end count [consumer]`
abbrev pub pending_options_args : List ℕ → List ℕ → PendingSettings → List ℕ → List ℕ → ℕ → List ℕ → List (List ℕ)
pending_options_args key group s start end count consumer =
    codes "XPENDING" ∷ key ∷ group
    ∷ (clause (word_number (codes "IDLE")) (if_set s.has_idle s.idle)
    ++ start ∷ end ∷ decimal count ∷ (if s.has_consumer then consumer ∷ [] else []))

-- ---- ranges, groups, and reports on a stream

-- `XLEN key`
abbrev pub len_args : List ℕ → List (List ℕ)
len_args key = codes "XLEN" ∷ key ∷ []

-- `XRANGE key start end`
abbrev pub range_args : List ℕ → List ℕ → List ℕ → List (List ℕ)
range_args key start end = codes "XRANGE" ∷ key ∷ start ∷ end ∷ []

-- `XRANGE key start end COUNT n`
abbrev pub range_count_args : List ℕ → List ℕ → List ℕ → ℕ → List (List ℕ)
range_count_args key start end n = codes "XRANGE" ∷ key ∷ start ∷ end ∷ codes "COUNT" ∷ decimal n ∷ []

-- `XREVRANGE key end start`
abbrev pub revrange_args : List ℕ → List ℕ → List ℕ → List (List ℕ)
revrange_args key end start = codes "XREVRANGE" ∷ key ∷ end ∷ start ∷ []

-- `XREVRANGE key end start COUNT n`
abbrev pub revrange_count_args : List ℕ → List ℕ → List ℕ → ℕ → List (List ℕ)
revrange_count_args key end start n =
    codes "XREVRANGE" ∷ key ∷ end ∷ start ∷ codes "COUNT" ∷ decimal n ∷ []

-- `XDEL key id ..`
abbrev pub del_args : List ℕ → List (List ℕ) → List (List ℕ)
del_args key ids = codes "XDEL" ∷ key ∷ ids

-- `XGROUP CREATE key group id`, with `MKSTREAM` if the stream is created
abbrev pub create_args : List ℕ → List ℕ → List ℕ → Bool → List (List ℕ)
create_args key group id mkstream =
    codes "XGROUP" ∷ codes "CREATE" ∷ key ∷ group ∷ id ∷ (if mkstream then codes "MKSTREAM" ∷ [] else [])

-- `XGROUP SETID key group id`
abbrev pub setid_args : List ℕ → List ℕ → List ℕ → List (List ℕ)
setid_args key group id = codes "XGROUP" ∷ codes "SETID" ∷ key ∷ group ∷ id ∷ []

-- `XGROUP DESTROY key group`
abbrev pub destroy_args : List ℕ → List ℕ → List (List ℕ)
destroy_args key group = codes "XGROUP" ∷ codes "DESTROY" ∷ key ∷ group ∷ []

-- `XINFO STREAM key`
abbrev pub info_stream_args : List ℕ → List (List ℕ)
info_stream_args key = codes "XINFO" ∷ codes "STREAM" ∷ key ∷ []

-- `XINFO GROUPS key`
abbrev pub info_groups_args : List ℕ → List (List ℕ)
info_groups_args key = codes "XINFO" ∷ codes "GROUPS" ∷ key ∷ []

-- `XINFO CONSUMERS key group`
abbrev pub info_consumers_args : List ℕ → List ℕ → List (List ℕ)
info_consumers_args key group = codes "XINFO" ∷ codes "CONSUMERS" ∷ key ∷ group ∷ []

-- `XPENDING key group`
abbrev pub pending_summary_args : List ℕ → List ℕ → List (List ℕ)
pending_summary_args key group = codes "XPENDING" ∷ key ∷ group ∷ []
