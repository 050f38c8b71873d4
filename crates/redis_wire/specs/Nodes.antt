-- Replies in place, as a flat list of their values: each value is before its members.
use Rattle.std.specs.Prelude.{◌≡◌, ◌≤◌, ◌+◌, ◌⊎◌, ℕ, zero, suc, List, [], ◌∷◌, length, take, drop, Option, Some, None}
use Rattle.std.specs.Prelude.{Result, Ok, Err}
use Rattle.redis_wire.specs.declared.limits.Limits.{Limits}
use Rattle.redis_wire.specs.declared.kind.Kind.{Kind}
use Rattle.redis_wire.specs.declared.kind.Kind.TheVariants as kinds
use Rattle.redis_wire.specs.declared.kind.GroupKind.{GroupKind}
use Rattle.redis_wire.specs.declared.fault.WireError.{WireError}
use Rattle.redis_wire.specs.declared.nodes.Node.{Node}
use Rattle.redis_wire.specs.declared.nodes.Found.{Found}
use Rattle.redis_wire.specs.declared.nodes.Found.TheVariants.{Whole, NoRoom, Incomplete}
use Rattle.redis_wire.specs.Kind.{kind_of}
use Rattle.redis_wire.specs.declared.fault.Fault.TheVariants.{UnknownType, TooDeep}
use Rattle.redis_wire.specs.Reading.{Halt, short, bad, ◌>>=◌, blob_at}
use Rattle.redis_wire.specs.Reply.{Answer, Answers, values, join, one}
use Rattle.redis_wire.specs.Scalar.{line_answer, blob_answer}
use Rattle.redis_wire.specs.Group.{member_count, group_answer}
use Rattle.redis_wire.specs.Grammar.{IsReply}
use Rattle.redis_wire.specs.Next.{LenIs}
use Rattle.redis_wire.specs.Place.{IsHeadAt, IsLineAt, IsSpan, text_in}

-- the node of a null of length -1
abbrev pub IsNull : Node → Type 0
IsNull node = (node.kind ≡ 95) × (node.text.len ≡ 0) × (node.members ≡ 0)

module _ (limits : Limits) (bytes : List ℕ) (at first : ℕ) (node : Node) (after : ℕ) where
  -- the node of a line that ends at offset `after`
  pub record IsLineNode : Type 0 where
    pub line : IsLineAt limits bytes at first (text_in bytes node.text) after
    pub within : IsSpan bytes node.text
    pub kind : node.kind ≡ first
    pub members : node.members ≡ 0

  -- the node of length-prefixed bytes
  pub record IsBlobNode : Type 0 where
    pub head : IsHeadAt limits bytes at first (Some node.text.len) node.text.start
    pub blob : blob_at node.text.len (drop node.text.start bytes) ≡ Ok (text_in bytes node.text, drop after bytes)
    pub within : IsSpan bytes node.text
    pub end : after ≤ length bytes
    pub kind : node.kind ≡ first
    pub members : node.members ≡ 0

  -- the node of a group, whose members begin at offset `after`
  pub record IsGroupNode (k : GroupKind) : Type 0 where
    pub count : ℕ
    pub head : IsHeadAt limits bytes at first (Some count) after
    pub kind : node.kind ≡ first
    pub none : node.text.len ≡ 0
    pub members : node.members ≡ member_count k count

  -- the node after a first byte of this kind
  abbrev pub IsNodeOf : Option Kind → Type 0
  IsNodeOf None = ⊥
  IsNodeOf (Some (kinds.Line k)) = IsLineNode
  IsNodeOf (Some (kinds.Blob k)) = IsBlobNode ⊎ (IsHeadAt limits bytes at first None after × IsNull node)
  IsNodeOf (Some (kinds.Group k)) = IsGroupNode k ⊎ (IsHeadAt limits bytes at first None after × IsNull node)

-- the node of the value at offset `at`, which ends before its members at offset `after`
pub record IsNodeAt (limits : Limits) (bytes : List ℕ) (at : ℕ) (node : Node) (after : ℕ) : Type 0 where
  pub first : ℕ
  pub is : IsNodeOf limits bytes at first node after (kind_of first)
  pub end : after ≤ length bytes

-- The nodes of the values from offset `at` to offset `end`. At `at` the number of expected values is
-- `asked`, and at `end` it is `left`. Each value is one of those expected, and expects its members.
abbrev pub Leads : Limits → List ℕ → ℕ → ℕ → List Node → ℕ → ℕ → Type 0
Leads limits bytes at asked [] end left = (at ≡ end) × (asked ≡ left)
Leads limits bytes at zero (n ∷ ns) end left = ⊥
Leads limits bytes at (suc asked) (n ∷ ns) end left =
    (after : ℕ) × IsNodeAt limits bytes at n after × Leads limits bytes after (n.members + asked) ns end left

-- the message after `>`, whose members are its kind and the values sent with it
pub record IsPushNode (limits : Limits) (bytes : List ℕ) (node : Node) (after : ℕ) : Type 0 where
  pub head : IsHeadAt limits bytes 0 62 (Some node.members) after
  pub kind : node.kind ≡ 62
  pub none : node.text.len ≡ 0

-- the first node of a reply
abbrev pub Begins : Limits → List ℕ → Node → ℕ → Type 0
Begins limits bytes node after = IsNodeAt limits bytes 0 node after ⊎ IsPushNode limits bytes node after

-- the nodes of a reply up to offset `end`, where `left` of its values are still expected
abbrev pub AreNodes : Limits → List ℕ → List Node → ℕ → ℕ → Type 0
AreNodes limits bytes [] end left = ⊥
AreNodes limits bytes (n ∷ ns) end left =
    (after : ℕ) × Begins limits bytes n after × Leads limits bytes after n.members ns end left

-- what is read from nodes, and the rest of the nodes
abbrev pub Listed : Type 0 → Type 0
Listed A = Result (A × List Node) Halt

-- this number of values, one after the other, each read by inner
unfoldable pub each_said : (List Node → Listed Answer) → ℕ → List Node → Listed Answers
each_said inner zero ns = Ok (values [], ns)
each_said inner (suc n) ns = inner ns >>= λ x. each_said inner n x.1 >>= λ y. Ok (join (one x.0) y.0, y.1)

-- the value of a node of this kind, whose members are the nodes after it, each read by inner
unfoldable pub said_by : List ℕ → (List Node → Listed Answer) → Node → Option Kind → List Node → Listed Answer
said_by bytes inner node None ns = Err (bad UnknownType)
said_by bytes inner node (Some (kinds.Line k)) ns =
    line_answer k (text_in bytes node.text) >>= λ a. Ok (a, ns)
said_by bytes inner node (Some (kinds.Blob k)) ns =
    blob_answer k (text_in bytes node.text) >>= λ a. Ok (a, ns)
said_by bytes inner node (Some (kinds.Group k)) ns =
    each_said inner node.members ns >>= λ x. group_answer k x.0 >>= λ a. Ok (a, x.1)

-- the value of the first node, whose members, if any, are read by inner
unfoldable pub first_said : List ℕ → (List Node → Listed Answer) → List Node → Listed Answer
first_said bytes inner [] = Err short
first_said bytes inner (n ∷ ns) = said_by bytes inner n (kind_of n.kind) ns

-- the value of the first node with its members, if it has at most this number of levels
unfoldable pub said : List ℕ → ℕ → List Node → Listed Answer
said bytes zero = λ ns. Err (bad TooDeep)
said bytes (suc d) = first_said bytes (said bytes d)

-- the nodes are exactly those of this reply; or the first one is a message
abbrev pub Say : Limits → List ℕ → List Node → Answer → Type 0
Say limits bytes [] a = ⊥
Say limits bytes (n ∷ ns) a = (n.kind ≡ 62) ⊎ (said bytes limits.depth (n ∷ ns) ≡ Ok (a, []))

-- a node without its end
abbrev pub plain : Node → Node
plain node = record node { end = 0 }

-- the number of nodes of this number of values with all of their members
abbrev pub taken : ℕ → List Node → ℕ
taken zero ns = 0
taken (suc k) [] = 0
taken (suc k) (n ∷ ns) = suc (taken (n.members + k) ns)

-- the end of each is the index of the node after its members, where the first one has this index
abbrev pub AreEnds : ℕ → List Node → Type 0
AreEnds i [] = Unit {0}
AreEnds i (n ∷ ns) = (n.end ≡ i + 1 + taken n.members ns) × AreEnds (i + 1) ns

-- the result for the bytes: if they begin with a reply, the nodes are those of that reply
abbrev pub Finds : Limits → List ℕ → List Node → Result Found WireError → Type 0
Finds limits bytes nodes (Ok (Whole len count)) = (len ≤ length bytes) × (count ≤ length nodes)
    × AreNodes limits (take len bytes) (take count nodes) len 0 × AreEnds 0 (take count nodes)
    × ((a : Answer) × IsReply limits (take len bytes) a × Say limits (take len bytes) (take count nodes) a)
Finds limits bytes nodes (Ok (NoRoom len)) = LenIs limits bytes (Ok (Some len))
Finds limits bytes nodes (Ok Incomplete) = LenIs limits bytes (Ok None)
Finds limits bytes nodes (Err e) = LenIs limits bytes (Err e)
