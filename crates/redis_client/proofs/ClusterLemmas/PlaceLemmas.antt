-- The place that a text names.
use Rattle.std.proofs.Common.{◌≡◌, ◌≢◌, ◌<◌, ◌%◌, ◌^◌, ℕ, ◌+◌, List, [], ◌∷◌, ◌++◌, refl, sym, ◌∙◌, ap, subst, arith}
use Rattle.std.proofs.Common.{Option, Some, None, decimal}
use Rattle.std.proofs.lemmas.Fmt.{decimal_by_steps, decimal_injective}
use Rattle.std.proofs.lemmas.Option.{some_pair_parts}
use Rattle.redis_client.specs.Cluster.Split.{split_first, Lacks, IsSplitAtLast}
use Rattle.redis_client.specs.Cluster.Sentence.{Place, IsPlace, place_text}
use Rattle.redis_client.proofs.ClusterLemmas.SplitLemmas.{behind_front, not_lacking, one_last, parts}

-- ---- digits

module _ (byte : ℕ) (out : (d : ℕ) → d < 10 → 48 + d ≢ byte) where
  lacks_join : (xs ys : List ℕ) → Lacks byte xs → Lacks byte ys → Lacks byte (xs ++ ys)
  lacks_join [] ys lx ly = ly
  lacks_join (x ∷ xs) ys lx ly = (lx.0, lacks_join xs ys lx.1 ly)

  abbrev DigitsLack : ℕ → List ℕ → Type 0
  DigitsLack n ds = Lacks byte ds

  pub digits_lack : (n : ℕ) → n < 2 ^ 64 → Lacks byte (decimal n)
  digits_lack n small = decimal_by_steps DigitsLack
      (λ d lt. (out d lt, tt))
      (λ m ds le lacks. lacks_join ds ((48 + m % 10) ∷ []) lacks (out (m % 10) (grind arith), tt))
      n small

no_blank : (d : ℕ) → d < 10 → 48 + d ≢ 32
no_blank d lt = omega arith

no_colon : (d : ℕ) → d < 10 → 48 + d ≢ 58
no_colon d lt = omega arith

pub number_fits : (n : ℕ) → n < 2 ^ 16 → n < 2 ^ 64
number_fits n small = omega arith

pub slot_fits : (n : ℕ) → n < 16384 → n < 2 ^ 16
slot_fits n small = omega arith

pub slot_lacks_blank : (n : ℕ) → n < 16384 → Lacks 32 (decimal n)
slot_lacks_blank n small = digits_lack 32 no_blank n (number_fits n (slot_fits n small))

pub port_lacks_colon : (n : ℕ) → n < 2 ^ 16 → Lacks 58 (decimal n)
port_lacks_colon n small = digits_lack 58 no_colon n (number_fits n small)

-- ---- a place is parted as it was joined

-- what is after the slot of a place
abbrev pub node_text : Place → List ℕ
node_text p = p.host ++ 58 ∷ decimal p.port

pub slot_parts : (bytes : List ℕ) (p : Place) → IsPlace p → bytes ≡ place_text p
    → split_first 32 bytes ≡ Some (decimal p.slot, node_text p)
slot_parts bytes p is same =
    ap (split_first 32) same ∙ behind_front 32 (decimal p.slot) (node_text p) (slot_lacks_blank p.slot is.0)

pub record IsNode (host port : List ℕ) (p : Place) : Type 0 where
  pub host_is : host ≡ p.host
  pub port_is : port ≡ decimal p.port

pub node_parts : (bytes host port : List ℕ) (p : Place) → IsPlace p → bytes ≡ node_text p
    → IsSplitAtLast 58 bytes (Some (host, port)) → IsNode host port p
node_parts bytes host port p is same split =
    let two = one_last 58 host port p.host (decimal p.port) split.1 (port_lacks_colon p.port is.2)
    (sym split.0 ∙ same) in
    record { host_is = two.before; port_is = two.behind }

pub node_has_colon : (bytes : List ℕ) (p : Place) → bytes ≡ node_text p → IsSplitAtLast 58 bytes None → ⊥
node_has_colon bytes p same lacks = not_lacking 58 p.host (decimal p.port) (subst (Lacks 58) same lacks)

-- ---- what is parted, as it is read

pub behind_is : (bytes slot behind : List ℕ) (p : Place) → IsPlace p → bytes ≡ place_text p
    → split_first 32 bytes ≡ Some (slot, behind) → (slot ≡ decimal p.slot) × (behind ≡ node_text p)
behind_is bytes slot behind p is same split =
    some_pair_parts slot (decimal p.slot) behind (node_text p) (sym split ∙ slot_parts bytes p is same)

pub joined : (bytes slot behind host port : List ℕ) (s q : ℕ) → split_first 32 bytes ≡ Some (slot, behind)
    → IsSplitAtLast 58 behind (Some (host, port)) → decimal s ≡ slot → decimal q ≡ port
    → bytes ≡ decimal s ++ 32 ∷ (host ++ 58 ∷ decimal q)
joined bytes slot behind host port s q split last es eq =
    (parts 32 bytes slot behind split).is
    ∙ ap (λ b. slot ++ 32 ∷ b) last.0
    ∙ ap (λ x. x ++ 32 ∷ (host ++ 58 ∷ port)) (sym es)
    ∙ ap (λ x. decimal s ++ 32 ∷ (host ++ 58 ∷ x)) (sym eq)

-- the numbers and the host that were parted are those of any place with this text
pub only_place : (bytes slot behind host port : List ℕ) (s q : ℕ) (p : Place) → s < 2 ^ 16 → q < 2 ^ 16 → IsPlace p
    → bytes ≡ place_text p → split_first 32 bytes ≡ Some (slot, behind) → IsSplitAtLast 58 behind (Some (host, port))
    → decimal s ≡ slot → decimal q ≡ port → p ≡ record { slot = s; host = host; port = q }
only_place bytes slot behind host port s q p s_small q_small is same split last es eq =
    let two = behind_is bytes slot behind p is same split in
    let node = node_parts behind host port p is two.1 last in
    let slots : s ≡ p.slot = decimal_injective s p.slot (number_fits s s_small)
    (number_fits p.slot (slot_fits p.slot is.0)) (es ∙ two.0) in
    let ports : q ≡ p.port = decimal_injective q p.port (number_fits q q_small) (number_fits p.port is.2)
    (eq ∙ node.port_is) in
    ap (λ n. record { slot = n; host = p.host; port = p.port }) (sym slots)
    ∙ ap (λ h. record { slot = s; host = h; port = p.port }) (sym node.host_is)
    ∙ ap (λ n. record { slot = s; host = host; port = n }) (sym ports)

-- ---- two places with the same text

pub same_place : (p q : Place) → IsPlace p → IsPlace q → place_text p ≡ place_text q → p ≡ q
same_place p q ip iq same =
    let parts : ◌≡◌ {A = Option (List ℕ × List ℕ)} (Some (decimal p.slot, node_text p)) (Some (decimal q.slot, node_text q)) =
    sym (slot_parts (place_text p) p ip refl) ∙ slot_parts (place_text p) q iq same in
    let two = some_pair_parts (decimal p.slot) (decimal q.slot) (node_text p) (node_text q) parts in
    let node = node_parts (node_text p) p.host (decimal p.port) q iq two.1 (refl, port_lacks_colon p.port ip.2) in
    let slots : p.slot ≡ q.slot = decimal_injective p.slot q.slot (number_fits p.slot (slot_fits p.slot ip.0))
    (number_fits q.slot (slot_fits q.slot iq.0)) two.0 in
    let ports : p.port ≡ q.port = decimal_injective p.port q.port (number_fits p.port ip.2)
    (number_fits q.port iq.2) node.port_is in
    ap (λ n. record { slot = n; host = p.host; port = p.port }) slots
    ∙ ap (λ h. record { slot = q.slot; host = h; port = p.port }) node.host_is
    ∙ ap (λ n. record { slot = q.slot; host = q.host; port = n }) ports
