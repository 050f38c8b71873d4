-- The options of a read, as settings and as arguments.
use Rattle.std.specs.Prelude.{◌≡◌, ℕ, Bool, false, List, [], ◌∷◌, ◌++◌, codes, length, Option, None, is_some, IfSome}
use Rattle.std.specs.Prelude.{true, if◌then◌else◌}
use Rattle.redis_args.specs.Clause.{clause, word_number, flag}
use Rattle.stream_options.specs.Words.{IsUsize}

-- the arguments of the name of a group and those of the name of a consumer
pub record Group : Type 0 where
  pub group : List (List ℕ)
  pub consumer : List (List ℕ)

-- the group and the consumer with these arguments
abbrev pub group_with : List (List ℕ) → List (List ℕ) → Group
group_with group consumer = record { group = group; consumer = consumer }

-- `GROUP g.. c..`
abbrev pub group_sentence : Group → List (List ℕ)
group_sentence g = codes "GROUP" ∷ (g.group ++ g.consumer)

-- the settings of `XREAD` and, if a group is set, of `XREADGROUP`; `block` and `claim` in
-- milliseconds
pub record Read : Type 0 where
  pub group : Option Group
  pub block : Option ℕ
  pub count : Option ℕ
  pub noack : Bool
  pub claim : Option ℕ

-- no setting
abbrev pub default_read : Read
default_read = record { group = None; block = None; count = None; noack = false; claim = None }

-- `[GROUP g.. c..] [BLOCK n] [COUNT n]`, and then only if a group is set `[NOACK] [CLAIM n]`
abbrev pub read_sentence : Read → List (List ℕ)
read_sentence r =
    clause group_sentence r.group
    ++ (clause (word_number (codes "BLOCK")) r.block
    ++ (clause (word_number (codes "COUNT")) r.count
    ++ (if is_some r.group
    then flag (codes "NOACK") r.noack ++ clause (word_number (codes "CLAIM")) r.claim
    else [])))

-- the fixed words
abbrev pub read_words : List (List ℕ)
read_words = codes "GROUP" ∷ codes "BLOCK" ∷ codes "COUNT" ∷ codes "NOACK" ∷ codes "CLAIM" ∷ []

-- single names: each writes exactly one argument
abbrev pub IsSingle : Group → Type 0
IsSingle g = (length g.group ≡ 1) × (length g.consumer ≡ 1)

-- numbers are in their ranges, and each name is single
pub record ReadFits (r : Read) : Type 0 where
  pub group : IfSome r.group IsSingle
  pub block : IfSome r.block IsUsize
  pub count : IfSome r.count IsUsize
  pub claim : IfSome r.claim IsUsize

-- the settings that count are equal
pub record CountAlike (a b : Read) : Type 0 where
  pub group : a.group ≡ b.group
  pub block : a.block ≡ b.block
  pub count : a.count ≡ b.count
  pub noack : is_some a.group ≡ true → a.noack ≡ b.noack
  pub claim : is_some a.group ≡ true → a.claim ≡ b.claim
