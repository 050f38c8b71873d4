-- Short items are passed as any others are.
use Rattle.std.proofs.Common.{◌≡◌, ◌+◌, ◌-◌, ℕ, suc, List, Some, Ok, refl, arith}
use Rattle.redis_wire.specs.declared.limits.Limits.{Limits}
use Rattle.redis_wire.specs.Reading.{blob_at}
use Rattle.redis_wire.specs.Scalar.{blob_answer}
use Rattle.redis_wire.specs.Item.{item_at, item_of, blob_passed, body_passed, count_behind}
use Rattle.redis_wire.specs.Place.{BeginsWithHead}
use Rattle.redis_wire.specs.Scan.{ArePassed}
use Rattle.redis_wire.proofs.ScanLemmas.{walk_on}

-- a whole bulk string
pub bulk_is : (limits : Limits) (bytes body text rest : List ℕ) (n : ℕ) → BeginsWithHead limits bytes 36 (Some n) body
    → blob_at n body ≡ Ok (text, rest) → item_at limits bytes ≡ Ok (0, rest)
unfolding item_at item_of blob_passed body_passed blob_answer
bulk_is limits bytes body text rest n h reads = rw (h.is, h.len, reads) refl

-- the header of an array
pub array_is : (limits : Limits) (bytes rest : List ℕ) (n : ℕ) → BeginsWithHead limits bytes 42 (Some n) rest
    → item_at limits bytes ≡ Ok (n, rest)
unfolding item_at item_of count_behind
array_is limits bytes rest n h = rw (h.is, h.len) refl

pub none_passed : (limits : Limits) (left : List ℕ) → ArePassed limits left 0 left
none_passed limits left count inner outer bytes fits few deep w =
    let same : count + 0 ≡ count = omega arith in
    let all : inner.left - 0 ≡ inner.left = omega arith in
    rw (same, all) w

-- one item more
pub one_passed_more : (limits : Limits) (left rest after : List ℕ) (n : ℕ) → ArePassed limits left n rest
    → item_at limits rest ≡ Ok (0, after) → ArePassed limits left (n + 1) after
one_passed_more limits left rest after n passed read count inner outer bytes fits few deep w =
    let before = passed count inner outer bytes (omega (arith, fits)) (omega (arith, few)) deep w in
    let next = walk_on limits (count + n) (record { depth = inner.depth; left = inner.left - n }) outer bytes rest before
    (omega (arith, few)) deep (omega (arith, fits)) 0 after refl read in
    let more : count + (n + 1) ≡ suc (count + n) = omega arith in
    let fewer : inner.left - (n + 1) ≡ inner.left - n - 1 = omega arith in
    rw (more, fewer) next
