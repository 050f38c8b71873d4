-- Lemmas on the bytes received and held.
use Rattle.std.proofs.Common.{◌≡◌, ◌-◌, ◌≤◌, inl, inr, ℕ, List, [], ◌++◌, length, take, drop}
use Rattle.std.proofs.Common.{Option, Some, None, Result, Ok, Err, IfOk, OnErr, refl, sym, ◌∙◌, ap, subst, arith, append_assoc, append-nil}
use Rattle.std.proofs.KnownBytes.{Consumes-nil, Consumes-trans, Consumes-kept}
use Rattle.std.proofs.Math.Seq.{take-append_seam}
use Rattle.std.proofs.lemmas.List.{length-append, length-drop, take-append-drop, take-append-le, drop-append-le}
use Rattle.std.proofs.lemmas.Grind.{common_steps}
use Rattle.std.specs.Io.KnownBytes.{Consumes, Keeps, IsAtEnd}
use Rattle.redis_wire.specs.Decoded.{NoReply, IsFirstFault}
use Rattle.redis_wire.specs.Grammar.{IsReply}
use Rattle.redis_wire.specs.Next.{Held, NextIs, LenIs, IsRefused}
use Rattle.redis_wire.specs.Reply.{Answer, answer}
use Rattle.redis_wire.specs.declared.fault.Fault.TheVariants.{Overfull}
use Rattle.redis_wire.specs.declared.fault.WireError.{WireError}
use Rattle.redis_wire.specs.declared.fault.WireError.TheVariants as wire_errors
use Rattle.redis_wire.specs.declared.reply.Reply.{Reply}
use Rattle.redis_connection.specs.Cause.{failure_of}
use Rattle.redis_connection.specs.Link.{Link, Waits, Receives, Stands, IsInPlace, GivesOut, IsFaulty, IsEnded}
use Rattle.redis_connection.specs.Seen.{seen}
use Rattle.redis_connection.specs.declared.error.ConnectionError.TheVariants as errors

pub waits_start : (link : Link) → Waits link link
waits_start link = (
  [],
  record {
    consumes = Consumes-nil link.coming;
    bytes = sym (append-nil link.held.bytes);
    limits = refl;
    written = refl;
    passed = refl;
  },
)

-- more bytes were received after the others
pub waits_on : (a b c : Link) → Waits a b → Waits b c → Waits a c
waits_on a b c p q = (
  p.0 ++ q.0,
  record {
    consumes = Consumes-trans a.coming b.coming c.coming p.0 q.0 p.1.consumes q.1.consumes;
    bytes = q.1.bytes ∙ ap (λ bs. bs ++ q.0) p.1.bytes ∙ append_assoc a.held.bytes p.0 q.0;
    limits = q.1.limits ∙ p.1.limits;
    written = q.1.written ∙ p.1.written;
    passed = q.1.passed ∙ p.1.passed;
  },
)

next_err_same : (h h' : Held) (e : WireError) → NextIs h (Err e) h' → h' ≡ h
next_err_same h h' wire_errors.Memory n = n
next_err_same h h' (wire_errors.Fault f) n = n.0

module _ (old : Link) (coming : Option (List ℕ)) (h : Held) (piece : List ℕ) (unfed : ℕ)
    (w : Waits old (seen 0 None coming h piece unfed)) where
  -- a stream that is unchanged
  pub waits_same : (h' : Held) → h' ≡ h → Waits old (seen 0 None coming h' piece unfed)
  waits_same h' is = subst (λ (x : Held). Waits old (seen 0 None coming x piece unfed)) (sym is) w

  pub waits_err : (h' : Held) (e : WireError) → NextIs h (Err e) h' → Waits old (seen 0 None coming h' piece unfed)
  waits_err h' e n = waits_same h' (next_err_same h h' e n)

  pub reply_given : (h' : Held) (reply : Reply) → NextIs h (Ok (Some reply)) h'
      → Receives old (seen 0 None coming h' piece unfed) (answer reply)
  reply_given h' reply n = record {
    taken = w.0;
    text = n.0;
    consumes = w.1.consumes;
    bytes = sym w.1.bytes ∙ ap (λ b. b ++ take unfed piece) n.2 ∙ append_assoc n.0 n.1 (take unfed piece)
        ∙ ap (λ (x : Held). n.0 ++ (x.bytes ++ take unfed piece)) (sym n.4);
    reply = subst (λ l. IsReply l n.0 (answer reply)) w.1.limits n.3;
    limits = ap (λ (x : Held). x.limits) n.4 ∙ w.1.limits;
    written = w.1.written;
    passed = w.1.passed;
  }

  -- a reply is at the start of the bytes that the stream holds
  stands_here : (len : ℕ) (a : Answer) → len ≤ length h.bytes → IsReply h.limits (take len h.bytes) a
      → Stands old (seen 0 None coming h piece unfed) len a
  stands_here len a le r = record {
    taken = w.0;
    takes = w.1;
    within = le;
    whole = omega (arith, le, length-append h.bytes (take unfed piece));
    reply = subst (λ l. IsReply l (take len (h.bytes ++ take unfed piece)) a) w.1.limits
        (subst (λ t. IsReply h.limits t a) (sym (take-append-le len h.bytes (take unfed piece) le)) r);
  }

  pub reply_stands : (h' : Held) (len : ℕ) → h' ≡ h → LenIs h.limits h.bytes (Ok (Some len))
      → IsInPlace old (seen 0 None coming h' piece unfed) len
  reply_stands h' len is r = subst (λ (x : Held). IsInPlace old (seen 0 None coming x piece unfed) len) (sym is)
      (r.1.0, stands_here len r.1.0 r.0 r.1.1)

  -- nothing of the piece was left, and more was read
  pub read_more : (coming' : Option (List ℕ)) (piece' : List ℕ) (len : ℕ) → unfed ≡ 0
      → Consumes coming coming' (take len piece') → Waits old (seen 0 None coming' h piece' len)
  read_more coming' piece' len none more =
      let bytes : h.bytes ≡ old.held.bytes ++ w.0 =
      sym (append-nil h.bytes) ∙ ap (λ n. h.bytes ++ take n piece) (sym none) ∙ w.1.bytes in (
        w.0 ++ take len piece',
        record {
          consumes = Consumes-trans old.coming coming coming' w.0 (take len piece') w.1.consumes more;
          bytes = ap (λ b. b ++ take len piece') bytes ∙ append_assoc old.held.bytes w.0 (take len piece');
          limits = w.1.limits;
          written = w.1.written;
          passed = w.1.passed;
        },
      )

  pub read_none : (coming' : Option (List ℕ)) (piece' : List ℕ) → unfed ≡ 0 → Keeps coming coming'
      → Waits old (seen 0 None coming' h piece' unfed)
  read_none coming' piece' none kept =
      subst (λ n. Waits old (seen 0 None coming' h piece' n)) (sym none)
      (read_more coming' piece' 0 none (Consumes-kept coming coming coming' [] (Consumes-nil coming) kept))

  pub read_end : (coming' : Option (List ℕ)) (piece' : List ℕ) → unfed ≡ 0 → Consumes coming coming' []
      → Waits old (seen 0 None coming' h piece' unfed)
  read_end coming' piece' none more = subst (λ n. Waits old (seen 0 None coming' h piece' n)) (sym none)
      (read_more coming' piece' 0 none more)

  pub waits_fed : (h' : Held) → h' ≡ record h { bytes = h.bytes ++ take unfed piece }
      → Waits old (seen 0 None coming h' piece 0)
  waits_fed h' is = (
    w.0,
    record {
      consumes = w.1.consumes;
      bytes = append-nil h'.bytes ∙ ap (λ (x : Held). x.bytes) is ∙ w.1.bytes;
      limits = ap (λ (x : Held). x.limits) is ∙ w.1.limits;
      written = w.1.written;
      passed = w.1.passed;
    },
  )

pub faulty_next : (coming : Option (List ℕ)) (h h' : Held) (piece : List ℕ) (unfed : ℕ) (e : WireError)
    → NextIs h (Err e) h' → IsFaulty (seen 0 None coming h' piece unfed).held (failure_of e)
faulty_next coming h h' piece unfed wire_errors.Memory n = tt
faulty_next coming h h' piece unfed (wire_errors.Fault f) n =
    let u = take unfed piece in
    subst (λ (x : Held). IsFaulty (seen 0 None coming x piece unfed).held (errors.Fault f)) (sym n.0) (inl (
      λ more. subst (NoReply h.limits) (sym (append_assoc h.bytes u more)) (n.1 (u ++ more)),
      (
        length h.bytes,
        subst (λ b. IsFirstFault h.limits b (wire_errors.Fault f))
            (sym (take-append_seam h.bytes u)) n.2,
      ),
    ))

pub faulty_len : (coming : Option (List ℕ)) (h h' : Held) (piece : List ℕ) (unfed : ℕ) (e : WireError) → h' ≡ h
    → LenIs h.limits h.bytes (Err e) → IsFaulty (seen 0 None coming h' piece unfed).held (failure_of e)
faulty_len coming h h' piece unfed wire_errors.Memory same r = tt
faulty_len coming h h' piece unfed (wire_errors.Fault f) same r =
    faulty_next coming h h' piece unfed (wire_errors.Fault f) (same, r.0, r.1)

pub ended_never : (link : Link) (e : WireError) → IsEnded link (failure_of e)
ended_never link wire_errors.Memory = tt
ended_never link (wire_errors.Fault f) = tt

pub ended_closed : (coming : Option (List ℕ)) (h : Held) (piece : List ℕ) (unfed : ℕ) → unfed ≡ 0 → IsAtEnd coming
    → NoReply h.limits h.bytes → IsEnded (seen 0 None coming h piece unfed) errors.Closed
ended_closed coming h piece unfed none end nothing =
    (end, subst (NoReply h.limits) (sym (append-nil h.bytes) ∙ ap (λ n. h.bytes ++ take n piece) (sym none)) nothing)

pub faulty_feed : (coming : Option (List ℕ)) (h h' : Held) (piece : List ℕ) (unfed : ℕ) (e : WireError) → h' ≡ h
    → IsRefused h (take unfed piece) e → IsFaulty (seen 0 None coming h' piece unfed).held (failure_of e)
faulty_feed coming h h' piece unfed wire_errors.Memory same r = tt
faulty_feed coming h h' piece unfed (wire_errors.Fault f) same (inl other) = absurd (cc other)
faulty_feed coming h h' piece unfed (wire_errors.Fault f) same (inr full) =
    let is : f ≡ Overfull = cc in
    subst (λ (x : Held). IsFaulty (seen 0 None coming x piece unfed).held (errors.Fault f)) (sym same)
    (inr (is, omega (arith, full.1, length-append h.bytes (take unfed piece))))

-- ---- bytes that are consumed

pub gives_out : (passed : ℕ) (written coming : Option (List ℕ)) (h : Held) (piece : List ℕ) (unfed len : ℕ)
    → GivesOut (seen passed written coming h piece unfed)
    (seen passed written coming (record h { bytes = drop len h.bytes }) piece unfed) len
gives_out passed written coming h piece unfed len =
    let given = length h.bytes - length (drop len h.bytes) in
    let le : given ≤ length h.bytes = omega arith in
    let is : given ≡ length h.bytes - (length h.bytes - len) = ap (λ n. length h.bytes - n) (length-drop len h.bytes) in
    let same : drop (length h.bytes - (length h.bytes - len)) h.bytes ≡ drop len h.bytes =
    grind (arith, common_steps) in
    record {
      in_place = length-drop len h.bytes;
      bytes = ap (λ b. b ++ take unfed piece) (sym same ∙ ap (λ n. drop n h.bytes) (sym is))
          ∙ sym (drop-append-le given h.bytes (take unfed piece) le);
      limits = refl;
      coming = refl;
      written = refl;
      passed = refl;
    }

-- the reply that was found in place was received
given_received : (old new : Link) (len : ℕ) → GivesOut old new len → (before : Link) (a : Answer)
    → Stands before old len a → Receives before new a
given_received old new len g before a s =
    let n : old.in_place - new.in_place ≡ len = omega (arith, g.in_place, s.within) in
    record {
      taken = s.taken;
      text = take len old.held.bytes;
      consumes = subst (λ c. Consumes before.coming c s.taken) (sym g.coming) s.takes.consumes;
      bytes = sym s.takes.bytes ∙ sym (take-append-drop len old.held.bytes)
          ∙ ap (λ b. take len old.held.bytes ++ b) (ap (λ k. drop k old.held.bytes) (sym n) ∙ sym g.bytes);
      reply = s.reply;
      limits = g.limits ∙ s.takes.limits;
      written = g.written ∙ s.takes.written;
      passed = g.passed ∙ s.takes.passed;
    }

pub reply_given_out : (passed : ℕ) (written coming : Option (List ℕ)) (h h' : Held) (piece : List ℕ) (unfed len : ℕ) (old : Link)
    → seen passed written coming h piece unfed ≡ old → h' ≡ record h { bytes = drop len h.bytes }
    → (before : Link) (a : Answer) → Stands before old len a → Receives before (seen passed written coming h' piece unfed) a
reply_given_out passed written coming h h' piece unfed len old is given before a s =
    let new = seen passed written coming h' piece unfed in
    let g : GivesOut old new len =
    subst (λ l. GivesOut l new len) is
    (subst (λ (x : Held). GivesOut (seen passed written coming h piece unfed) (seen passed written coming x piece unfed) len)
    (sym given) (gives_out passed written coming h piece unfed len)) in
    given_received old new len g before a s

-- ---- a connection with a writer, to which nothing was written

module _ (passed : ℕ) (written : Option (List ℕ)) (coming coming' : Option (List ℕ)) (h h' : Held) (piece piece' : List ℕ)
    (unfed unfed' : ℕ) (old : Link) (is : seen passed written coming h piece unfed ≡ old) where
  received_one : (a : Answer) → Receives (seen 0 None coming h piece unfed) (seen 0 None coming' h' piece' unfed') a
      → Receives old (seen passed written coming' h' piece' unfed') a
  received_one a r = subst (λ (l : Link). Receives l (seen passed written coming' h' piece' unfed') a) is
      (record {
        taken = r.taken;
        text = r.text;
        consumes = r.consumes;
        bytes = r.bytes;
        reply = r.reply;
        limits = r.limits;
        written = refl;
        passed = refl;
      })

  stood_one : (len : ℕ) → IsInPlace (seen 0 None coming h piece unfed) (seen 0 None coming' h' piece' unfed') len
      → IsInPlace old (seen passed written coming' h' piece' unfed') len
  stood_one len s = subst (λ (l : Link). IsInPlace l (seen passed written coming' h' piece' unfed') len) is (
    s.0,
    record {
      taken = s.1.taken;
      takes = record {
        consumes = s.1.takes.consumes;
        bytes = s.1.takes.bytes;
        limits = s.1.takes.limits;
        written = refl;
        passed = refl;
      };
      within = s.1.within;
      whole = s.1.whole;
      reply = s.1.reply;
    },
  )

  pub stood : {E : Type 0} (r : Result ℕ E)
      → IfOk r (IsInPlace (seen 0 None coming h piece unfed) (seen 0 None coming' h' piece' unfed'))
      → IfOk r (IsInPlace old (seen passed written coming' h' piece' unfed'))
  stood (Ok len) p = stood_one len p
  stood (Err e) p = tt

  pub received : {E : Type 0} (r : Result Reply E)
      → IfOk r (λ reply. Receives (seen 0 None coming h piece unfed) (seen 0 None coming' h' piece' unfed') (answer reply))
      → IfOk r (λ reply. Receives old (seen passed written coming' h' piece' unfed') (answer reply))
  received (Ok reply) p = received_one (answer reply) p
  received (Err e) p = tt

  pub waited : {A E : Type 0} (r : Result A E)
      → OnErr r (Waits (seen 0 None coming h piece unfed) (seen 0 None coming' h' piece' unfed'))
      → OnErr r (Waits old (seen passed written coming' h' piece' unfed'))
  waited (Ok x) p = tt
  waited (Err e) p = subst (λ (l : Link). Waits l (seen passed written coming' h' piece' unfed')) is
      (p.0, record { consumes = p.1.consumes; bytes = p.1.bytes; limits = p.1.limits; written = refl; passed = refl })
