use Rattle.std.proofs.Common.{◌≡◌, ◌<◌, ◌^◌, true, false, rules, sym, ◌∙◌, subst, None, Some, decimal}
use Rattle.std.proofs.lemmas.Option.{none-some}
use Rattle.redis_client.specs.Cluster.Split.{split_first, IsSplitAtLast, Lacks}
use Rattle.redis_client.proofs.ClusterLemmas.PlaceLemmas.{slot_parts, behind_is, node_parts, node_has_colon, slot_fits, joined, only_place}
use Rattle.redis_client.specs.Cluster.Sentence.{IsPlace}
use Rattle.redis_client.proofs.cluster.reading.parse_place.Goals as goal

pub returns-in_err-slot : goal.returns-in_err-slot
returns-in_err-slot c =
    let none : split_first 32 c.args.bytes.now ≡ None = search rules in
    rw c.from_residual.ensures (λ p is same. none-some _ (sym none ∙ slot_parts c.args.bytes.now p is same))

pub returns-in_err-host : goal.returns-in_err-host
returns-in_err-host c =
    let slot = c.in_ok-slot.slot.now in
    let behind = c.in_ok-slot.behind.now in
    let split : split_first 32 c.args.bytes.now ≡ Some (slot, behind) = search rules in
    let lacks : Lacks 58 behind = c.in_err-host.ensures in
    rw c.from_residual-in_err-host.ensures (λ p is same.
    node_has_colon behind p (behind_is c.args.bytes.now slot behind p is same split).1 lacks)

pub returns-in_err-slot-2 : goal.returns-in_err-slot-2
returns-in_err-slot-2 c =
    let slot = c.in_ok-slot.slot.now in
    let behind = c.in_ok-slot.behind.now in
    let split : split_first 32 c.args.bytes.now ≡ Some (slot, behind) = search rules in
    rw c.from_residual-in_err-slot-2.ensures (λ p is same.
    c.in_err-slot-2.ensures p.slot (slot_fits p.slot is.0)
    (sym (behind_is c.args.bytes.now slot behind p is same split).0))

pub returns-in_err-port : goal.returns-in_err-port
returns-in_err-port c =
    let slot = c.in_ok-slot.slot.now in
    let behind = c.in_ok-slot.behind.now in
    let host = c.in_ok-host.host.now in
    let port = c.in_ok-host.port.now in
    let split : split_first 32 c.args.bytes.now ≡ Some (slot, behind) = search rules in
    let last : IsSplitAtLast 58 behind (Some (host, port)) = search rules in
    rw c.from_residual-in_err-port.ensures (λ p is same.
    let node = node_parts behind host port p is (behind_is c.args.bytes.now slot behind p is same split).1 last in
    c.in_err-port.ensures p.port is.2 (sym node.port_is))

pub returns-then-is_place : goal.returns-then-is_place
returns-then-is_place c =
    let slot = c.in_ok-slot.slot.now in
    let behind = c.in_ok-slot.behind.now in
    let host = c.in_ok-host.host.now in
    let port = c.in_ok-host.port.now in
    let s = c.in_ok-slot-2.slot in
    let q = c.in_ok-port.port in
    let split : split_first 32 c.args.bytes.now ≡ Some (slot, behind) = search rules in
    let last : IsSplitAtLast 58 behind (Some (host, port)) = search rules in
    let es : decimal s ≡ slot = search rules in
    let eq : decimal q ≡ port = search rules in
    let is : IsPlace (record { slot = s; host = host; port = q }) = search rules in
    (is, joined c.args.bytes.now slot behind host port s q split last es eq)

pub returns-else-is_place : goal.returns-else-is_place
returns-else-is_place c = λ p is same.
    let slot = c.in_ok-slot.slot.now in
    let behind = c.in_ok-slot.behind.now in
    let host = c.in_ok-host.host.now in
    let port = c.in_ok-host.port.now in
    let s = c.in_ok-slot-2.slot in
    let q = c.in_ok-port.port in
    let split : split_first 32 c.args.bytes.now ≡ Some (slot, behind) = search rules in
    let last : IsSplitAtLast 58 behind (Some (host, port)) = search rules in
    let es : decimal s ≡ slot = search rules in
    let eq : decimal q ≡ port = search rules in
    let s_small : s < 2 ^ 16 = search rules in
    let q_small : q < 2 ^ 16 = search rules in
    let this = only_place c.args.bytes.now slot behind host port s q p s_small q_small is same split last es eq in
    let yes : c.is_place.result ≡ true = c.is_place.ensures.1 (subst IsPlace this is) in
    let both : true ≡ false = sym yes ∙ c.if-is_place.false in absurd cc
