-- What the settings mean that are given one by one.
use Rattle.std.specs.Prelude.{string_bytes}
use Rattle.std.specs.Option.{option_map}
use Rattle.stream_options.specs.Add.{Add}
use Rattle.stream_options.specs.AutoClaim.{AutoClaim}
use Rattle.stream_options.specs.Claim.{Claim}
use Rattle.stream_options.specs.Read.{Group, Read}
use Rattle.stream_options.specs.ReadBack.{single_group}
use Rattle.stream_options.specs.Trim.{Trim}
use Rattle.stream_options.specs.View.{strategy_of, policy_of, idempotency_of}
use Rattle.stream_option_parsing.specs.declared.add.AddParts.{AddParts}
use Rattle.stream_option_parsing.specs.declared.autoclaim.AutoClaimParts.{AutoClaimParts}
use Rattle.stream_option_parsing.specs.declared.claim.ClaimParts.{ClaimParts}
use Rattle.stream_option_parsing.specs.declared.read.GroupNames.{GroupNames}
use Rattle.stream_option_parsing.specs.declared.read.ReadParts.{ReadParts}
use Rattle.stream_option_parsing.specs.declared.trim.TrimParts.{TrimParts}

-- the settings of `XADD`
abbrev pub add_of : AddParts → Add
add_of p = record {
  nomkstream = p.nomkstream;
  policy = option_map policy_of p.policy;
  idempotency = option_map idempotency_of p.idempotency;
  trim = option_map strategy_of p.strategy;
}

-- the settings of `XTRIM`
abbrev pub trim_of : TrimParts → Trim
trim_of p = record { strategy = strategy_of p.strategy; policy = option_map policy_of p.policy }

-- the settings of `XCLAIM`
abbrev pub claim_of : ClaimParts → Claim
claim_of p = record {
  idle = p.idle;
  time = p.time;
  retry = p.retry;
  force = p.force;
  justid = p.justid;
  lastid = option_map string_bytes p.lastid;
}

-- the settings of `XAUTOCLAIM`
abbrev pub autoclaim_of : AutoClaimParts → AutoClaim
autoclaim_of p = record { count = p.count; justid = p.justid }

-- the group and the consumer of these names
abbrev pub group_of : GroupNames → Group
group_of names = single_group names.group.now names.consumer.now

-- the settings of `XREAD` and `XREADGROUP`
abbrev pub read_of : ReadParts → Read
read_of p = record {
  group = option_map group_of p.group;
  block = p.block;
  count = p.count;
  noack = p.noack;
  claim = p.claim;
}
