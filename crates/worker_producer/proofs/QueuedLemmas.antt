-- `+QUEUED` at the start of the bytes received.
use Rattle.std.proofs.Common.{◌≡◌, ◌<◌, ◌≤◌, ◌-◌, ℕ, suc, List, [], ◌∷◌, ◌++◌, length, take, inl, inr}
use Rattle.std.proofs.Common.{Ok, refl, sym, ◌∙◌, ap, subst, append-nil, arith}
use Rattle.std.proofs.KnownBytes.{Consumes-nil}
use Rattle.std.proofs.lemmas.Bool.{cases_Bool, cases_lt}
use Rattle.std.proofs.lemmas.List.{length-take}
use Rattle.std.specs.Prelude.{codes}
use Rattle.std.specs.Str.{is_utf8}
use Rattle.redis_resp.specs.Tree.{bulk, simple}
use Rattle.redis_wire.specs.Count.{value_count}
use Rattle.redis_wire.specs.Grammar.{IsAnyReply, IsReply, IsValue}
use Rattle.redis_wire.specs.Packed.{crlf}
use Rattle.redis_wire.specs.Reply as wire
use Rattle.redis_wire.specs.Scalar.{line_answer, text_answer}
use Rattle.redis_wire.specs.declared.limits.Limits.{Limits}
use Rattle.redis_connection.specs.Link.{Link}
use Rattle.redis_connection.specs.Passing.{IsAnswerInPlace, IsMessage}

abbrev queued : List ℕ
queued = 43 ∷ (codes "QUEUED" ++ crlf)

queued_value : (limits : Limits) (d : ℕ) (a : wire.Answer) → text_answer (codes "QUEUED") ≡ Ok a → 6 ≤ limits.line
    → IsValue limits (suc d) queued a
unfolding IsValue line_answer
queued_value limits d a made line = record {
  first = codes "QUEUED" ++ crlf;
  second = [];
  a = codes "QUEUED";
  is = refl;
  at_first = record { is = refl; inner = refl; within = line };
  at_second = record { is = refl; made = made };
}

queued_reply : (limits : Limits) (a : wire.Answer) → text_answer (codes "QUEUED") ≡ Ok a → value_count a ≡ 1
    → 0 < limits.depth → 6 ≤ limits.line → 1 ≤ limits.values → IsReply limits queued a
unfolding IsAnyReply
queued_reply limits a made one depth line values =
    let d : ℕ = limits.depth - 1 in
    let e : suc d ≡ limits.depth = omega (arith, depth) in record {
      reply = subst (λ (n : ℕ). IsValue limits n queued a) e (queued_value limits d a made line);
      few = omega (arith, one, values);
    }

-- it is a reply in place
module _ (link : Link) (bytes : List ℕ) (front : 9 ≤ link.in_place → bytes ≡ take 9 link.held.bytes)
    (all : link.in_place ≤ 9 → bytes ≡ take link.in_place link.held.bytes) (is : bytes ≡ queued)
    (depth : 0 < link.held.limits.depth) (line : 6 ≤ link.held.limits.line) (values : 1 ≤ link.held.limits.values) where
  len : length bytes ≡ 9
  len = ap length is

  within : 9 ≤ link.in_place
  within = elim (cases_lt link.in_place 9) [
    | inr le ↦ le
    | inl lt ↦
        let l : length bytes ≡ length (take link.in_place link.held.bytes) = ap length (all (omega (arith, lt))) in
        absurd (omega (arith, lt, len, l, length-take link.in_place link.held.bytes))
  ]

  first : take 9 link.held.bytes ≡ queued
  first = sym (front within) ∙ is

  whole : 9 ≤ length link.held.bytes
  whole = let l : length (take 9 link.held.bytes) ≡ 9 = ap length first in
      omega (arith, l, length-take 9 link.held.bytes)

  answer_there : (a : wire.Answer) → text_answer (codes "QUEUED") ≡ Ok a → value_count a ≡ 1 → (IsMessage a → ⊥)
      → IsAnswerInPlace link link 9
  answer_there a made one fine = (
    a,
    record {
      count = 0;
      between = link;
      passes = refl;
      stands = record {
        taken = [];
        takes = record {
          consumes = Consumes-nil link.coming;
          bytes = sym (append-nil link.held.bytes);
          limits = refl;
          written = refl;
          passed = refl;
        };
        within = within;
        whole = whole;
        reply = subst (λ (text : List ℕ). IsReply link.held.limits text a) (sym first)
            (queued_reply link.held.limits a made one depth line values);
      };
      is_answer = fine;
    },
  )

  pub queued_there : IsAnswerInPlace link link 9
  queued_there = elim (cases_Bool (is_utf8 (codes "QUEUED"))) [
    | inl text ↦ answer_there (wire.value (simple (codes "QUEUED"))) (rw text refl) refl (λ x. x)
    | inr other ↦ answer_there (wire.value (bulk (codes "QUEUED"))) (rw other refl) refl (λ x. x)
  ]
