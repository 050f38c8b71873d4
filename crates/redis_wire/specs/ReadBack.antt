-- Which replies are read back from the bytes that they are written as.
use Rattle.std.specs.Prelude.{◌≡◌, ◌≤◌, ◌<◌, ◌^◌, ℕ, zero, suc, pos, negsuc, List, length, codes, true, false}
use Rattle.std.specs.List.{list_all}
use Rattle.std.specs.Str.{is_utf8, bytes_eq}
use Rattle.redis_resp.specs.Tree.{Tree, nil, int, bulk, array, simple, okay, map_of_pairs, Trees, no_trees, more_trees}
use Rattle.redis_resp.specs.Tree.{Pairs, no_pairs, more_pairs}
use Rattle.redis_wire.specs.declared.limits.Limits.{Limits}
use Rattle.redis_wire.specs.declared.written.Protocol.{Protocol}
use Rattle.redis_wire.specs.declared.written.Protocol.TheVariants.{Resp2, Resp3}
use Rattle.redis_wire.specs.Reading.{is_inner}
use Rattle.redis_wire.specs.Reply.{Answer, value, refused}
use Rattle.redis_wire.specs.Count.{value_count}
use Rattle.redis_wire.specs.Grammar.{IsReply}
use Rattle.redis_wire.specs.Written.{tree_count, pair_count}
use Rattle.redis_wire.specs.WrittenReply.{answer_bytes}

-- a text that fits a line within the limits
pub record FitsLine (limits : Limits) (text : List ℕ) : Type 0 where
  pub inner : list_all is_inner text ≡ true
  pub within : length text ≤ limits.line

-- a UTF-8 text other than `OK`, which is a value of its own
pub record IsStatus (limits : Limits) (text : List ℕ) : Type 0 where
  pub fits : FitsLine limits text
  pub is_text : is_utf8 text ≡ true
  pub other : bytes_eq text (codes "OK") ≡ false

abbrev mutual
  -- A value of the kinds that replies are made of, within the limits and of at most this depth: a null,
  -- a 64-bit integer, a simple string, a bulk string, an array, and in RESP3 a map.
  pub IsWritable : Protocol → Limits → ℕ → Tree → Type 0
  IsWritable p limits zero t = ⊥
  IsWritable p limits (suc d) nil = Unit {0}
  IsWritable p limits (suc d) (int (pos n)) = n < 2 ^ 63
  IsWritable p limits (suc d) (int (negsuc n)) = n < 2 ^ 63
  IsWritable p limits (suc d) (bulk bytes) = length bytes ≤ limits.length
  IsWritable p limits (suc d) (array ts) = (tree_count ts ≤ limits.length) × AreWritable p limits d ts
  IsWritable p limits (suc d) (simple text) = IsStatus limits text
  IsWritable p limits (suc d) okay = Unit {0}
  IsWritable Resp2 limits (suc d) (map_of_pairs ps) = ⊥
  IsWritable Resp3 limits (suc d) (map_of_pairs ps) =
      (pair_count ps ≤ limits.length) × ArePairsWritable Resp3 limits d ps
  IsWritable p limits (suc d) t = ⊥

  -- such values
  pub AreWritable : Protocol → Limits → ℕ → Trees → Type 0
  AreWritable p limits d no_trees = Unit {0}
  AreWritable p limits d (more_trees t ts) = IsWritable p limits d t × AreWritable p limits d ts

  -- such keys and values
  pub ArePairsWritable : Protocol → Limits → ℕ → Pairs → Type 0
  ArePairsWritable p limits d no_pairs = Unit {0}
  ArePairsWritable p limits d (more_pairs k x ps) =
      IsWritable p limits d k × IsWritable p limits d x × ArePairsWritable p limits d ps

-- such a value, or an error that fits a line
abbrev pub IsSendable : Protocol → Limits → Answer → Type 0
IsSendable p limits (value t) = IsWritable p limits limits.depth t
IsSendable p limits (refused text) = (0 < limits.depth) × FitsLine limits text
IsSendable p limits a = ⊥

-- if lines of 20 bytes are allowed and the values are within the limit, the bytes of such a reply are
-- that reply, and nothing else
abbrev pub AnswersAreRead : Type 0
AnswersAreRead = (p : Protocol) (limits : Limits) (a : Answer) → limits.length < 2 ^ 32 → 20 ≤ limits.line
    → IsSendable p limits a → value_count a ≤ limits.values → IsReply limits (answer_bytes p a) a
