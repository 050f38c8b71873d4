-- A list of nodes that grows, and where their members end.
use Rattle.std.proofs.Common.{◌≡◌, ◌≤◌, ◌<◌, ◌+◌, ◌-◌, ◌∙◌, inl, inr, ℕ, zero, suc, List, [], ◌∷◌, ◌++◌, length}
use Rattle.std.proofs.Common.{take, drop, Option, Some, None, Ok, refl, sym, ap, subst, arith, append_assoc}
use Rattle.std.specs.Prelude.{map, set, get_or}
use Rattle.std.proofs.lemmas.List.{length-append, length-drop, take_at, drop-drop, drop-set, take_more_set}
use Rattle.std.proofs.lemmas.List.{length-set, length-map, length-take-le, nil_from_length}
use Rattle.std.proofs.Math.Seq.{map-set_same}
use Rattle.redis_wire.specs.declared.limits.Limits.{Limits}
use Rattle.redis_wire.specs.declared.kind.Kind.{Kind}
use Rattle.redis_wire.specs.declared.kind.Kind.TheVariants as kinds
use Rattle.redis_wire.specs.declared.nodes.Node.{Node}
use Rattle.redis_wire.specs.Grammar.{IsBlob, IsReply}
use Rattle.redis_wire.specs.Next.{LenIs}
use Rattle.redis_wire.specs.Reply.{Answer}
use Rattle.redis_wire.specs.declared.nodes.Found.TheVariants.{Whole}
use Rattle.redis_wire.specs.Packed.{crlf}
use Rattle.redis_wire.specs.Reading.{blob_at}
use Rattle.redis_wire.specs.Scan.{IsEnd}
use Rattle.redis_wire.specs.Place.{IsHeadAt, IsLineAt}
use Rattle.redis_wire.proofs.FitsLemmas.{line_fits, blob_fits}
use Rattle.redis_wire.proofs.ItemLemmas.{fits_end}
use Rattle.redis_wire.proofs.PlaceLemmas.{end_is, end_within, end_of_end, end_of_drop}
use Rattle.redis_wire.specs.Nodes.{IsLineNode, IsBlobNode, IsNodeOf, IsNodeAt, Leads, Begins, AreNodes, AreEnds, taken, plain}
use Rattle.redis_wire.specs.Nodes.{Say, Finds}

-- ---- lines and length-prefixed bytes

module _ (limits : Limits) (bytes : List ℕ) (at first after : ℕ) (line : List ℕ)
    (h : IsLineAt limits bytes at first line after) where
  pub line_node : IsLineNode limits bytes at first
      (record { kind = first; text = record { start = at + 1; len = length line }; members = 0; end = 0 }) after
  line_node =
      let t = (line_fits limits.line).takes h.behind (line, drop after bytes) h.reads in
      let two : length crlf ≡ 2 = refl in
      let one : length (drop at bytes) ≡ suc (length h.behind) = ap length h.is in
      let size : length h.behind ≡ length line + 2 + length (drop after bytes) =
      omega (
        arith,
        ap length t.is,
        length-append t.text (drop after bytes),
        ap length t.said.is,
        length-append line crlf,
        two,
      ) in
      let behind : drop (at + 1) bytes ≡ h.behind = sym (drop-drop 1 at bytes) ∙ ap (drop 1) h.is in
      let same : line ≡ take (length line) (drop (at + 1) bytes) =
      sym (ap (take (length line)) (behind ∙ t.is ∙ ap (λ (xs : List ℕ). xs ++ drop after bytes) t.said.is
      ∙ append_assoc line crlf (drop after bytes)) ∙ take_at line (crlf ++ drop after bytes) (length line) refl) in
      record {
        line = subst (λ (l : List ℕ). IsLineAt limits bytes at first l after) same h;
        within = omega (arith, one, size, length-drop at bytes);
        kind = refl;
        members = refl;
      }

module _ (limits : Limits) (bytes text left : List ℕ) (at first n start : ℕ)
    (head : IsHeadAt limits bytes at first (Some n) start) (blob : blob_at n (drop start bytes) ≡ Ok (text, left)) where
  left_end : IsEnd left bytes
  left_end = end_of_end bytes (drop start bytes) left (end_of_drop start bytes)
      (fits_end (blob_at n) (IsBlob n) (blob_fits n) (drop start bytes) (text, left) blob)

  pub blob_le : length left ≤ length bytes
  blob_le = end_within bytes left left_end

  pub blob_node : IsBlobNode limits bytes at first
      (record { kind = first; text = record { start = start; len = n }; members = 0; end = 0 })
      (length bytes - length left)
  blob_node =
      let t = (blob_fits n).takes (drop start bytes) (text, left) blob in
      let two : length crlf ≡ 2 = refl in
      let size : length (drop start bytes) ≡ n + 2 + length left =
      omega (
        arith,
        ap length t.is,
        length-append t.text left,
        ap length t.said.is,
        length-append text crlf,
        t.said.len,
        two,
      ) in
      let same : text ≡ take n (drop start bytes) =
      sym (ap (take n) (t.is ∙ ap (λ (xs : List ℕ). xs ++ left) t.said.is ∙ append_assoc text crlf left)
      ∙ take_at text (crlf ++ left) n t.said.len) in
      record {
        head = head;
        blob = blob ∙ ap (λ (x : List ℕ). Ok (x, left)) same
            ∙ ap (λ (x : List ℕ). Ok (take n (drop start bytes), x)) (end_is bytes left left_end);
        within = omega (arith, head.end, size, length-drop start bytes);
        end = omega arith;
        kind = refl;
        members = refl;
      }

-- ---- one more node

module _ (limits : Limits) (bytes : List ℕ) where
  leads_on : (ns : List Node) (at asked mid k after : ℕ) (n : Node) → Leads limits bytes at asked ns mid (suc k)
      → IsNodeAt limits bytes mid n after → Leads limits bytes at asked (ns ++ n ∷ []) after (n.members + k)
  leads_on [] at zero mid k after n p is = absurd (omega (arith, p.1))
  leads_on [] at (suc a) mid k after n p is =
      (after, subst (λ m. IsNodeAt limits bytes m n after) (sym p.0) is, (refl, omega (arith, p.1)))
  leads_on (m ∷ ns) at zero mid k after n p is = absurd p
  leads_on (m ∷ ns) at (suc a) mid k after n p is = (p.0, p.1, leads_on ns p.0 (m.members + a) mid k after n p.2 is)

  pub nodes_on : (ns : List Node) (mid k after : ℕ) (n : Node) → AreNodes limits bytes ns mid (suc k)
      → IsNodeAt limits bytes mid n after → AreNodes limits bytes (ns ++ n ∷ []) after (n.members + k)
  nodes_on [] mid k after n p is = absurd p
  nodes_on (m ∷ ns) mid k after n p is = (p.0, p.1, leads_on ns p.0 m.members mid k after n p.2 is)

  -- ---- whatever the ends are

  module _ (at first after : ℕ) (n : Node) where
    of_plain : (k : Option Kind) → IsNodeOf limits bytes at first n after k
        → IsNodeOf limits bytes at first (plain n) after k
    of_plain None p = absurd p
    of_plain (Some (kinds.Line k)) p =
        record { line = p.line; within = p.within; kind = p.kind; members = p.members }
    of_plain (Some (kinds.Blob k)) (inl p) = inl (record {
      head = p.head;
      blob = p.blob;
      within = p.within;
      end = p.end;
      kind = p.kind;
      members = p.members;
    })
    of_plain (Some (kinds.Blob k)) (inr p) = inr p
    of_plain (Some (kinds.Group k)) (inl p) =
        inl (record { count = p.count; head = p.head; kind = p.kind; none = p.none; members = p.members })
    of_plain (Some (kinds.Group k)) (inr p) = inr p

    plain_of : (k : Option Kind) → IsNodeOf limits bytes at first (plain n) after k
        → IsNodeOf limits bytes at first n after k
    plain_of None p = absurd p
    plain_of (Some (kinds.Line k)) p =
        record { line = p.line; within = p.within; kind = p.kind; members = p.members }
    plain_of (Some (kinds.Blob k)) (inl p) = inl (record {
      head = p.head;
      blob = p.blob;
      within = p.within;
      end = p.end;
      kind = p.kind;
      members = p.members;
    })
    plain_of (Some (kinds.Blob k)) (inr p) = inr p
    plain_of (Some (kinds.Group k)) (inl p) =
        inl (record { count = p.count; head = p.head; kind = p.kind; none = p.none; members = p.members })
    plain_of (Some (kinds.Group k)) (inr p) = inr p

  node_same : (at after : ℕ) (n m : Node) → plain n ≡ plain m → IsNodeAt limits bytes at n after
      → IsNodeAt limits bytes at m after
  node_same at after n m same x =
      let y : IsNodeAt limits bytes at (plain m) after =
      subst (λ (z : Node). IsNodeAt limits bytes at z after) same
      (record { first = x.first; is = of_plain at x.first after n _ x.is; end = x.end }) in
      record { first = y.first; is = plain_of at y.first after m _ y.is; end = y.end }

  begins_same : (after : ℕ) (n m : Node) → plain n ≡ plain m → Begins limits bytes n after → Begins limits bytes m after
  begins_same after n m same (inl x) = inl (node_same 0 after n m same x)
  begins_same after n m same (inr x) =
      let kind : n.kind ≡ m.kind = ap (λ (z : Node). z.kind) same in
      let none : n.text.len ≡ m.text.len = ap (λ (z : Node). z.text.len) same in
      let members : n.members ≡ m.members = ap (λ (z : Node). z.members) same in
      inr (record { head = rw (← members) x.head; kind = sym kind ∙ x.kind; none = sym none ∙ x.none })

  leads_same : (ns ms : List Node) (at asked end left : ℕ) → map plain ns ≡ map plain ms
      → Leads limits bytes at asked ns end left → Leads limits bytes at asked ms end left
  leads_same [] [] at asked end left same p = p
  leads_same [] (m ∷ ms) at asked end left same p = absurd cc
  leads_same (n ∷ ns) [] at asked end left same p = absurd cc
  leads_same (n ∷ ns) (m ∷ ms) at zero end left same p = absurd p
  leads_same (n ∷ ns) (m ∷ ms) at (suc a) end left same p =
      let one : plain n ≡ plain m = cc in
      let others : map plain ns ≡ map plain ms = cc in
      let members : n.members ≡ m.members = ap (λ (z : Node). z.members) one in (
        p.0,
        node_same at p.0 n m one p.1,
        subst (λ k. Leads limits bytes p.0 (k + a) ms end left) members
            (leads_same ns ms p.0 (n.members + a) end left others p.2),
      )

  pub nodes_same : (ns ms : List Node) (end left : ℕ) → map plain ns ≡ map plain ms
      → AreNodes limits bytes ns end left → AreNodes limits bytes ms end left
  nodes_same [] ms end left same p = absurd p
  nodes_same (n ∷ ns) [] end left same p = absurd cc
  nodes_same (n ∷ ns) (m ∷ ms) end left same p =
      let one : plain n ≡ plain m = cc in
      let others : map plain ns ≡ map plain ms = cc in
      let members : n.members ≡ m.members = ap (λ (z : Node). z.members) one in (
        p.0,
        begins_same p.0 n m one p.1,
        subst (λ k. Leads limits bytes p.0 k ms end left) members
            (leads_same ns ms p.0 n.members end left others p.2),
      )

-- ---- the number of nodes of values

taken_none : (b : ℕ) → taken b [] ≡ 0
taken_none zero = refl
taken_none (suc b) = refl

taken_add : (ns : List Node) (a b : ℕ) → taken (a + b) ns ≡ taken a ns + taken b (drop (taken a ns) ns)
taken_add ns zero b = ap (λ k. taken k ns) (none b) ∙ sym (none (taken b ns))
  where
    none : (n : ℕ) → 0 + n ≡ n
    none n = omega arith
taken_add [] (suc a) b =
    let is : taken (suc a + b) [] ≡ 0 + taken b [] = omega (arith, taken_none (suc a + b), taken_none b) in is
taken_add (n ∷ ns) (suc a) b =
    let same : suc a + b ≡ suc (a + b) = omega arith in
    let others : n.members + (a + b) ≡ (n.members + a) + b = omega arith in
    let step : taken (suc a + b) (n ∷ ns) ≡ suc (taken (n.members + (a + b)) ns) = ap (λ k. taken k (n ∷ ns)) same in
    let last : suc (taken (n.members + (a + b)) ns)
    ≡ suc (taken (n.members + a) ns) + taken b (drop (taken (n.members + a) ns) ns) =
    omega (arith, taken_add ns (n.members + a) b, ap (λ k. taken k ns) others) in
    step ∙ last

ends_at : (ns ms : List Node) (i j : ℕ) (m : Node) → AreEnds i ns → drop j ns ≡ m ∷ ms
    → m.end ≡ i + j + 1 + taken m.members ms
ends_at [] ms i zero m e is = absurd cc
ends_at [] ms i (suc j) m e is = absurd cc
ends_at (n ∷ ns) ms i zero m e is =
    let one : n ≡ m = cc in
    let others : ns ≡ ms = cc in
    sym (ap (λ (z : Node). z.end) one) ∙ e.0
    ∙ ap (λ (z : Node). i + 1 + taken z.members ns) one
    ∙ ap (λ (l : List Node). i + 1 + taken m.members l) others
    ∙ none i (taken m.members ms)
  where
    none : (a b : ℕ) → a + 1 + b ≡ a + 0 + 1 + b
    none a b = omega arith
ends_at (n ∷ ns) ms i (suc j) m e is = ends_at ns ms (i + 1) j m e.1 is ∙ next i j (taken m.members ms)
  where
    next : (a b c : ℕ) → (a + 1) + b + 1 + c ≡ a + suc b + 1 + c
    next a b c = omega arith

-- one more value of a table was passed
pub ends_on : (nodes ms : List Node) (from k end : ℕ) (m : Node) → AreEnds from (drop from nodes)
    → end ≡ from + taken k (drop from nodes) → drop end nodes ≡ m ∷ ms → m.end ≡ from + taken (k + 1) (drop from nodes)
ends_on nodes ms from k end m ends is here =
    let rest = drop from nodes in
    let behind : drop (taken k rest) rest ≡ m ∷ ms =
    drop-drop (taken k rest) from nodes ∙ ap (λ n. drop n nodes) (sym is) ∙ here in
    let all : m.end ≡ from + taken k rest + 1 + taken m.members ms =
    ends_at rest ms from (taken k rest) m ends behind in
    let more : taken (k + 1) rest ≡ taken k rest + taken 1 (drop (taken k rest) rest) = taken_add rest k 1 in
    let one : taken 1 (drop (taken k rest) rest) ≡ suc (taken (m.members + 0) ms) = ap (taken 1) behind in
    let members : taken (m.members + 0) ms ≡ taken m.members ms = ap (λ n. taken n ms) (no_more m.members) in
    omega (arith, all, more, one, members)
  where
    no_more : (n : ℕ) → n + 0 ≡ n
    no_more n = omega arith

pub ends_all : (nodes : List Node) (from k all end : ℕ) → end ≡ from + taken k (drop from nodes)
    → length nodes ≤ end → k ≤ all → end ≡ from + taken all (drop from nodes)
ends_all nodes from k all end is over le =
    let rest = drop from nodes in
    let more : taken all rest ≡ taken k rest + taken (all - k) (drop (taken k rest) rest) =
    ap (λ n. taken n rest) (split k all le) ∙ taken_add rest k (all - k) in
    let none : drop (taken k rest) rest ≡ [] = nil_from_length (drop (taken k rest) rest)
    (omega (arith, is, over, length-drop from nodes, length-drop (taken k rest) rest)) in
    let zero_more : taken (all - k) (drop (taken k rest) rest) ≡ 0 =
    ap (taken (all - k)) none ∙ taken_none (all - k) in
    omega (arith, is, more, zero_more)
  where
    split : (a b : ℕ) → a ≤ b → b ≡ a + (b - a)
    split a b le = omega (arith, le)

-- one more end is set
module _ (nodes olds : List Node) (at end : ℕ) (d : Node) (some : 0 < at) (within : at ≤ length nodes)
    (ends : AreEnds at (drop at nodes)) (same : map plain nodes ≡ map plain olds)
    (is : end ≡ at + taken (get_or nodes (at - 1) d).members (drop at nodes)) where
  abbrev pub said : Node
  said = record (get_or nodes (at - 1) d) { end = end }

  pub set_on : (at - 1 ≤ length (set nodes (at - 1) said)) × (map plain (set nodes (at - 1) said) ≡ map plain olds)
      × AreEnds (at - 1) (drop (at - 1) (set nodes (at - 1) said))
  set_on =
      let i = at - 1 in
      let e : at ≡ i + 1 = omega (arith, some) in
      let lt : i < length nodes = omega (arith, some, within) in
      let here : end ≡ i + 1 + taken (get_or nodes i d).members (drop (i + 1) nodes) =
      is ∙ ap (λ n. n + taken (get_or nodes i d).members (drop n nodes)) e in
      let behind : AreEnds (i + 1) (drop (i + 1) nodes) = subst (λ n. AreEnds n (drop n nodes)) e ends in (
        omega (arith, lt, length-set nodes i said),
        map-set_same plain nodes i said d refl ∙ same,
        subst (AreEnds i) (sym (drop-set nodes i said lt)) (here, behind),
      )

-- the first node of a table is set
pub fills_first : (limits : Limits) (bytes : List ℕ) (nodes : List Node) (first : Node) (after : ℕ)
    → Begins limits bytes first after → 0 < length nodes
    → AreNodes limits bytes (take 1 (set nodes 0 first)) after first.members
fills_first limits bytes nodes first after begins some =
    subst (λ ns. AreNodes limits bytes ns after first.members) (sym (take_more_set nodes 0 first some))
    (after, begins, (refl, refl))

pub fills_more : (limits : Limits) (bytes : List ℕ) (nodes : List Node) (count at left after more : ℕ) (n : Node)
    → AreNodes limits bytes (take count nodes) at left → 0 < left → count < length nodes
    → IsNodeAt limits bytes at n after → more ≡ n.members + (left - 1)
    → AreNodes limits bytes (take (count + 1) (set nodes count n)) after more
fills_more limits bytes nodes count at left after more n are some lt is e =
    let one : left ≡ suc (left - 1) = omega (arith, some) in
    rw (take_more_set nodes count n lt, e)
    (nodes_on limits bytes (take count nodes) at (left - 1) after n
    (subst (λ k. AreNodes limits bytes (take count nodes) at k) one are) is)

pub filled : (limits : Limits) (bytes : List ℕ) (nodes ends : List Node) (count end : ℕ) → count ≤ length nodes
    → map plain ends ≡ map plain (take count nodes) → AreNodes limits bytes (take count nodes) end 0
    → AreNodes limits bytes (take count (ends ++ drop count nodes)) end 0
filled limits bytes nodes ends count end few same are =
    let len : length ends ≡ count =
    omega (
      arith,
      ap length same,
      length-map ends plain,
      length-map (take count nodes) plain,
      length-take-le count nodes few,
    ) in
    subst (λ ns. AreNodes limits bytes ns end 0) (sym (take_at ends (drop count nodes) count len))
    (nodes_same limits bytes (take count nodes) ends end 0 (sym same) are)

-- the nodes of a text that is the first `len` bytes
of_front : (limits : Limits) (bytes text : List ℕ) (nodes : List Node) (len : ℕ) → text ≡ take len bytes
    → len ≤ length bytes → AreNodes limits text nodes (length text) 0 → AreNodes limits (take len bytes) nodes len 0
of_front limits bytes text nodes len is le are =
    let size : length text ≡ len = ap length is ∙ length-take-le len bytes le in
    subst (λ n. AreNodes limits (take len bytes) nodes n 0) size
    (subst (λ t. AreNodes limits t nodes (length text) 0) is are)

-- the result of a search that found a reply
pub found : (limits : Limits) (bytes text : List ℕ) (nodes : List Node) (len count : ℕ) → text ≡ take len bytes
    → LenIs limits bytes (Ok (Some len)) → count ≤ length nodes
    → AreNodes limits text (take count nodes) (length text) 0 → AreEnds 0 (take count nodes)
    → ((a : Answer) → IsReply limits text a → Say limits text (take count nodes) a)
    → Finds limits bytes nodes (Ok (Whole len count))
found limits bytes text nodes len count is l few are ends say = (
  l.0,
  few,
  of_front limits bytes text (take count nodes) len is l.0 are,
  ends,
  (
    l.1.0,
    l.1.1,
    subst (λ t. Say limits t (take count nodes) l.1.0) is
        (say l.1.0 (subst (λ t. IsReply limits t l.1.0) (sym is) l.1.1)),
  ),
)
