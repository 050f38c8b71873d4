-- The nodes of a reply have the value of the reply.
use Rattle.std.proofs.Common.{◌≡◌, ◌==◌, ◌+◌, ◌∙◌, inl, inr, Bool, true, false, ℕ, zero, suc, List, [], ◌∷◌}
use Rattle.std.proofs.Common.{length, take, drop, Option, Some, None, Result, Ok, cond, refl, sym, ap, subst, arith, append-nil}
use Rattle.std.proofs.lemmas.Bool.{eqb-true}
use Rattle.redis_resp.specs.Tree.{nil}
use Rattle.redis_wire.specs.declared.limits.Limits.{Limits}
use Rattle.redis_wire.specs.declared.kind.Kind.{Kind}
use Rattle.redis_wire.specs.declared.kind.Kind.TheVariants as kinds
use Rattle.redis_wire.specs.declared.kind.LineKind.TheVariants as lines
use Rattle.redis_wire.specs.declared.kind.BlobKind.{BlobKind}
use Rattle.redis_wire.specs.declared.kind.BlobKind.TheVariants as blobs
use Rattle.redis_wire.specs.declared.kind.GroupKind.{GroupKind}
use Rattle.redis_wire.specs.declared.kind.GroupKind.TheVariants as groups
use Rattle.redis_wire.specs.declared.nodes.Node.{Node}
use Rattle.redis_wire.specs.Kind.{kind_of}
use Rattle.redis_wire.specs.Reading.{Halt, Read, ◌>>=◌}
use Rattle.redis_wire.specs.Reply.{Answer, value, Answers, values, join, one}
use Rattle.redis_wire.specs.Scalar.{line_answer, blob_answer, no_blob_answer}
use Rattle.redis_wire.specs.Group.{member_count, many, group_answer, no_group_answer}
use Rattle.redis_wire.specs.Level.{by_kind, level, line_value_at, blob_value_at, blob_body_at, group_value_at}
use Rattle.redis_wire.specs.Level.{group_body_at, value_at}
use Rattle.redis_wire.specs.Push.{push_at, reply_at}
use Rattle.redis_wire.specs.Grammar.{IsReply}
use Rattle.redis_wire.specs.Place.{text_in}
use Rattle.redis_wire.specs.Nodes.{IsNull, IsNodeOf, Leads, Begins, AreNodes, Listed, each_said, said_by, first_said}
use Rattle.redis_wire.specs.Nodes.{said, Say}
use Rattle.redis_wire.proofs.FitsLemmas.{bind_ok, reply_fits}
use Rattle.redis_wire.proofs.LevelLemmas.{no_level}

level_is : (limits : Limits) (d first : ℕ) (behind : List ℕ)
    → value_at limits (suc d) (first ∷ behind) ≡ by_kind limits (value_at limits d) (kind_of first) behind
unfolding value_at level
level_is limits d first behind = refl

said_is : (bytes : List ℕ) (d : ℕ) (n : Node) (ns : List Node)
    → said bytes (suc d) (n ∷ ns) ≡ said_by bytes (said bytes d) n (kind_of n.kind) ns
unfolding said first_said
said_is bytes d n ns = refl

null_kind : kind_of 95 ≡ Some (kinds.Line lines.Null)
null_kind = refl

null_said : (line : List ℕ) → length line ≡ 0 → line_answer lines.Null line ≡ Ok (value nil)
unfolding line_answer
null_said line none = rw none refl

module _ (limits : Limits) (bytes : List ℕ) where
  -- what was read from the nodes, and the position of the nodes after it
  abbrev Behind : {A : Type 0} → Listed A → A → List ℕ → ℕ → ℕ → Type 0
  Behind l a rest k end = (ms : List Node) × (after : ℕ) × (l ≡ Ok (a, ms)) × (rest ≡ drop after bytes)
      × Leads limits bytes after k ms end 0

  abbrev Step : ℕ → Type 0
  Step d = (at k end : ℕ) (ns : List Node) (x : Answer × List ℕ) → value_at limits d (drop at bytes) ≡ Ok x
      → Leads limits bytes at (suc k) ns end 0 → Behind (said bytes d ns) x.0 x.1 k end

  many_step : (d : ℕ) → Step d → (j at k end : ℕ) (ns : List Node) (x : Answers × List ℕ)
      → many (value_at limits d) j (drop at bytes) ≡ Ok x → Leads limits bytes at (j + k) ns end 0
      → Behind (each_said (said bytes d) j ns) x.0 x.1 k end
  unfolding many each_said
  many_step d step zero at k end ns x e p =
      let same : (values [], drop at bytes) ≡ x = cc in
      let none : 0 + k ≡ k = omega arith in (
        ns,
        at,
        ap (λ (y : Answers × List ℕ). Ok (y.0, ns)) same,
        sym (ap (λ (y : Answers × List ℕ). y.1) same),
        subst (λ n. Leads limits bytes at n ns end 0) none p,
      )
  many_step d step (suc j) at k end ns x e p =
      let inner = value_at limits d in
      let a = bind_ok (inner (drop at bytes)) (λ y. many inner j y.1 >>= λ z. Ok (join (one y.0) z.0, z.1)) x e in
      let asked : suc j + k ≡ suc (j + k) = omega arith in
      let v = step at (j + k) end ns a.0 a.1 (subst (λ n. Leads limits bytes at n ns end 0) asked p) in
      let b = bind_ok (many inner j a.0.1) (λ z. Ok (join (one a.0.0) z.0, z.1)) x a.2 in
      let m = many_step d step j v.1 k end v.0 b.0 (ap (many inner j) (sym v.3) ∙ b.1) v.4 in
      let same : (join (one a.0.0) b.0.0, b.0.1) ≡ x = cc in (
        m.0,
        m.1,
        ap (λ (r : Listed Answer). r >>= λ y. each_said (said bytes d) j y.1 >>= λ z. Ok (join (one y.0) z.0, z.1)) v.2
            ∙ ap (λ (r : Listed Answers). r >>= λ z. Ok (join (one a.0.0) z.0, z.1)) m.2
            ∙ ap (λ (y : Answers × List ℕ). Ok (y.0, m.0)) same,
        sym (ap (λ (y : Answers × List ℕ). y.1) same) ∙ m.3,
        m.4,
      )

  module _ (d : ℕ) (step : Step d) (at first after k end : ℕ) (n : Node) (ns : List Node) (x : Answer × List ℕ)
      (e : value_at limits (suc d) (drop at bytes) ≡ Ok x) (p : Leads limits bytes after (n.members + k) ns end 0) where
    read_by : (behind : List ℕ) (o : Option Kind) → drop at bytes ≡ first ∷ behind → kind_of first ≡ o
        → by_kind limits (value_at limits d) o behind ≡ Ok x
    read_by behind o is kind = sym (ap (value_at limits (suc d)) is ∙ level_is limits d first behind
        ∙ ap (λ (o : Option Kind). by_kind limits (value_at limits d) o behind) kind) ∙ e

    said_of : (o : Option Kind) → kind_of n.kind ≡ o
        → said bytes (suc d) (n ∷ ns) ≡ said_by bytes (said bytes d) n o ns
    said_of o kind = said_is bytes d n ns ∙ ap (λ (o : Option Kind). said_by bytes (said bytes d) n o ns) kind

    -- a value with no members
    leaf : (r : Result Answer Halt) → (r >>= λ a. Ok (a, drop after bytes)) ≡ Ok x
        → said bytes (suc d) (n ∷ ns) ≡ (r >>= λ a. Ok (a, ns)) → n.members ≡ 0
        → Behind (said bytes (suc d) (n ∷ ns)) x.0 x.1 k end
    leaf r read says none =
        let b = bind_ok r (λ a. Ok (a, drop after bytes)) x read in
        let same : (b.0, drop after bytes) ≡ x = cc in
        let left : n.members + k ≡ k = omega (arith, none) in (
          ns,
          after,
          says ∙ ap (λ (s : Result Answer Halt). s >>= λ a. Ok (a, ns)) b.1
              ∙ ap (λ (y : Answer × List ℕ). Ok (y.0, ns)) same,
          sym (ap (λ (y : Answer × List ℕ). y.1) same),
          subst (λ m. Leads limits bytes after m ns end 0) left p,
        )

    says_null : IsNull n → said bytes (suc d) (n ∷ ns) ≡ Ok (value nil, ns)
    unfolding said_by
    says_null null =
        let none : length (text_in bytes n.text) ≡ 0 = no_text n.text.len (drop n.text.start bytes) null.1 in
        said_of (Some (kinds.Line lines.Null)) (ap kind_of null.0 ∙ null_kind)
        ∙ ap (λ (r : Result Answer Halt). r >>= λ a. Ok (a, ns)) (null_said (text_in bytes n.text) none)
      where
        no_text : (m : ℕ) (bs : List ℕ) → m ≡ 0 → length (take m bs) ≡ 0
        no_text m bs none = rw none refl

    null_leaf : (r : Result Answer Halt) → (r >>= λ a. Ok (a, drop after bytes)) ≡ Ok x → r ≡ Ok (value nil) → IsNull n
        → Behind (said bytes (suc d) (n ∷ ns)) x.0 x.1 k end
    null_leaf r read is null = leaf (Ok (value nil))
        (ap (λ (s : Result Answer Halt). s >>= λ a. Ok (a, drop after bytes)) (sym is) ∙ read) (says_null null) null.2

    null_blob : (b : BlobKind) → (no_blob_answer b >>= λ a. Ok (a, drop after bytes)) ≡ Ok x
        → no_blob_answer b ≡ Ok (value nil)
    unfolding no_blob_answer
    null_blob blobs.Bulk read = refl
    null_blob blobs.BlobError read = absurd cc
    null_blob blobs.Verbatim read = absurd cc

    null_group : (g : GroupKind) → (no_group_answer g >>= λ a. Ok (a, drop after bytes)) ≡ Ok x
        → no_group_answer g ≡ Ok (value nil)
    unfolding no_group_answer
    null_group groups.Array read = refl
    null_group groups.Set read = absurd cc
    null_group groups.Map read = absurd cc
    null_group groups.Attribute read = absurd cc

    of_kind : (o : Option Kind) → kind_of first ≡ o → IsNodeOf limits bytes at first n after o
        → Behind (said bytes (suc d) (n ∷ ns)) x.0 x.1 k end
    unfolding by_kind line_value_at blob_value_at blob_body_at group_value_at group_body_at said_by
    of_kind None kind q = absurd q
    of_kind (Some (kinds.Line l)) kind q =
        let r = read_by q.line.behind (Some (kinds.Line l)) q.line.is kind in
        leaf (line_answer l (text_in bytes n.text))
        (sym (ap (λ (s : Read (List ℕ)). s >>= λ y. line_answer l y.0 >>= λ a. Ok (a, y.1)) q.line.reads) ∙ r)
        (said_of (Some (kinds.Line l)) (ap kind_of q.kind ∙ kind)) q.members
    of_kind (Some (kinds.Blob b)) kind (inl q) =
        let r = read_by q.head.behind (Some (kinds.Blob b)) q.head.is kind in
        leaf (blob_answer b (text_in bytes n.text))
        (sym (ap (λ (s : Read (List ℕ)). s >>= λ y. blob_answer b y.0 >>= λ a. Ok (a, y.1)) q.blob)
        ∙ sym (ap (λ (s : Read (Option ℕ)). s >>= λ y. blob_body_at b y.0 y.1) q.head.len) ∙ r)
        (said_of (Some (kinds.Blob b)) (ap kind_of q.kind ∙ kind)) q.members
    of_kind (Some (kinds.Blob b)) kind (inr q) =
        let r = read_by q.0.behind (Some (kinds.Blob b)) q.0.is kind in
        let read : (no_blob_answer b >>= λ a. Ok (a, drop after bytes)) ≡ Ok x =
        sym (ap (λ (s : Read (Option ℕ)). s >>= λ y. blob_body_at b y.0 y.1) q.0.len) ∙ r in
        null_leaf (no_blob_answer b) read (null_blob b read) q.1
    of_kind (Some (kinds.Group g)) kind (inr q) =
        let r = read_by q.0.behind (Some (kinds.Group g)) q.0.is kind in
        let read : (no_group_answer g >>= λ a. Ok (a, drop after bytes)) ≡ Ok x =
        sym (ap (λ (s : Read (Option ℕ)). s >>= λ y. group_body_at (value_at limits d) g y.0 y.1) q.0.len) ∙ r in
        null_leaf (no_group_answer g) read (null_group g read) q.1
    of_kind (Some (kinds.Group g)) kind (inl q) =
        let inner = value_at limits d in
        let r = read_by q.head.behind (Some (kinds.Group g)) q.head.is kind in
        let read : (many inner (member_count g q.count) (drop after bytes)
        >>= λ y. group_answer g y.0 >>= λ a. Ok (a, y.1)) ≡ Ok x =
        sym (ap (λ (s : Read (Option ℕ)). s >>= λ y. group_body_at inner g y.0 y.1) q.head.len) ∙ r in
        let b = bind_ok (many inner (member_count g q.count) (drop after bytes))
        (λ y. group_answer g y.0 >>= λ a. Ok (a, y.1)) x read in
        let c = bind_ok (group_answer g b.0.0) (λ a. Ok (a, b.0.1)) x b.2 in
        let same : (c.0, b.0.1) ≡ x = cc in
        let m = many_step d step n.members after k end ns b.0
        (ap (λ j. many inner j (drop after bytes)) q.members ∙ b.1) p in (
          m.0,
          m.1,
          said_of (Some (kinds.Group g)) (ap kind_of q.kind ∙ kind)
              ∙ ap (λ (s : Listed Answers). s >>= λ y. group_answer g y.0 >>= λ a. Ok (a, y.1)) m.2
              ∙ ap (λ (s : Result Answer Halt). s >>= λ a. Ok (a, m.0)) c.1
              ∙ ap (λ (y : Answer × List ℕ). Ok (y.0, m.0)) same,
          sym (ap (λ (y : Answer × List ℕ). y.1) same) ∙ m.3,
          m.4,
        )

  each_step : (d : ℕ) → Step d
  each_step zero at k end ns x e p = let none = no_level limits 0 (drop at bytes) refl in absurd cc
  each_step (suc d) at k end [] x e p = absurd (omega (arith, p.1))
  each_step (suc d) at k end (n ∷ ns) x e p =
      of_kind d (each_step d) at p.1.first p.0 k end n ns x e p.2 (kind_of p.1.first) refl p.1.is

  -- ---- a whole reply

  begins_with : (at first after : ℕ) (n : Node) (o : Option Kind) → IsNodeOf limits bytes at first n after o
      → (behind : List ℕ) × (drop at bytes ≡ first ∷ behind)
  begins_with at first after n None q = absurd q
  begins_with at first after n (Some (kinds.Line k)) q = (q.line.behind, q.line.is)
  begins_with at first after n (Some (kinds.Blob k)) (inl q) = (q.head.behind, q.head.is)
  begins_with at first after n (Some (kinds.Blob k)) (inr q) = (q.0.behind, q.0.is)
  begins_with at first after n (Some (kinds.Group k)) (inl q) = (q.head.behind, q.head.is)
  begins_with at first after n (Some (kinds.Group k)) (inr q) = (q.0.behind, q.0.is)

  -- no value begins with the first byte of a message
  no_push : (at first after : ℕ) (n : Node) (c : Bool) → (first == 62) ≡ c
      → IsNodeOf limits bytes at first n after (kind_of first) → (first == 62) ≡ false
  no_push at first after n false is q = is
  no_push at first after n true is q =
      absurd (subst (λ (b : ℕ). IsNodeOf limits bytes at first n after (kind_of b)) (eqb-true first 62 is) q)

  value_read : (first : ℕ) (behind : List ℕ) (x : Answer × List ℕ) → (first == 62) ≡ false
      → reply_at limits (first ∷ behind) ≡ Ok x → value_at limits limits.depth (first ∷ behind) ≡ Ok x
  unfolding reply_at
  value_read first behind x is e =
      subst (λ (c : Bool). cond c (push_at limits behind) (value_at limits limits.depth (first ∷ behind)) ≡ Ok x) is e

  no_more : (ms : List Node) (at end : ℕ) → Leads limits bytes at 0 ms end 0 → ms ≡ []
  no_more [] at end p = refl
  no_more (m ∷ ms) at end p = absurd p

  say_by : (n : Node) (ns : List Node) (a : Answer) (after end : ℕ) → Begins limits bytes n after
      → Leads limits bytes after n.members ns end 0 → reply_at limits bytes ≡ Ok (a, []) → Say limits bytes (n ∷ ns) a
  say_by n ns a after end (inr q) p e = inl q.kind
  say_by n ns a after end (inl q) p e =
      let w = begins_with 0 q.first after n (kind_of q.first) q.is in
      let read : value_at limits limits.depth (drop 0 bytes) ≡ Ok (a, []) =
      ap (value_at limits limits.depth) w.1
      ∙ value_read q.first w.0 (a, []) (no_push 0 q.first after n (q.first == 62) refl q.is)
      (ap (reply_at limits) (sym w.1) ∙ e) in
      let none : n.members ≡ n.members + 0 = omega arith in
      let m = each_step limits.depth 0 0 end (n ∷ ns) (a, []) read
      (after, q, subst (λ k. Leads limits bytes after k ns end 0) none p) in
      inr (m.2 ∙ ap (λ (ms : List Node). Ok (a, ms)) (no_more m.0 m.1 end m.4))

  -- the nodes of a reply have its value
  pub say : (ns : List Node) (a : Answer) (end : ℕ) → AreNodes limits bytes ns end 0 → IsReply limits bytes a
      → Say limits bytes ns a
  say [] a end p s = absurd p
  say (n ∷ ns) a end p s =
      let again : reply_at limits bytes ≡ Ok (a, []) =
      ap (reply_at limits) (sym (append-nil bytes)) ∙ (reply_fits limits).again bytes [] a s.reply in
      say_by n ns a p.0 end p.1 p.2 again
