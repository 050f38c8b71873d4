-- The result returned for the values of a reply determines the outcome.
use Rattle.std.proofs.Common.{◌≡◌, ◌≤◌, ◌⊎◌, ◌∙◌, ℕ, List, [], ◌++◌, length, take, drop, Result, Ok, Err}
use Rattle.std.proofs.Common.{refl, sym, ap, arith, subst, inl, inr}
use Rattle.std.proofs.lemmas.List.{length-append, length-drop, take-append-drop, append-nil}
use Rattle.redis_wire.specs.declared.fault.WireError.{WireError}
use Rattle.redis_wire.specs.declared.fault.WireError.TheVariants as errors
use Rattle.redis_wire.specs.declared.nodes.Found.{Found}
use Rattle.redis_wire.specs.declared.nodes.Found.TheVariants.{Whole, NoRoom, Incomplete}
use Rattle.redis_wire.specs.declared.nodes.Node.{Node}
use Rattle.redis_wire.specs.Grammar.{IsReply}
use Rattle.redis_wire.specs.Limits.{default_limits}
use Rattle.redis_wire.specs.Nodes.{Finds}
use Rattle.redis_wire.specs.Reply.{Answer}
use Rattle.redis_wire.proofs.DecodeLemmas.{fault_whole}
use Rattle.redis_c.specs.Nodes.{TellsNodes, nodes_code, nodes_len}
use Rattle.redis_c.specs.Outcome.{code_of_fault}
use Rattle.redis_c.proofs.TellLemmas.{any_form, is_whole, none_there, none_later}

module _ (bytes : List ℕ) (len : ℕ) (a : Answer) (within : len ≤ length bytes)
    (there : IsReply default_limits (take len bytes) a) where
  -- another reply at the head is as long
  as_long : (text rest : List ℕ) (b : Answer) → IsReply default_limits text b → bytes ≡ text ++ rest
      → len ≡ length text
  as_long text rest b s is =
      let left = (any_form (take len bytes) text (drop len bytes) rest a b there.reply s.reply
      (take-append-drop len bytes ∙ is)).1 in
      omega (arith, within, ap length left, length-drop len bytes, ap length is, length-append text rest)

  -- the result returned for a reply
  reply_told : (n : ℕ) → (n ≡ 0) ⊎ (n ≡ 1) → TellsNodes bytes n len
  reply_told n is_told = record {
    early = λ more b some s. absurd (is_whole bytes len a there.reply more b some s);
    whole = λ text rest b s is. inr (is_told, as_long text rest b s is);
    fault = λ f first.
        absurd (fault_whole default_limits bytes f first (take len bytes) (drop len bytes) a there
        (sym (take-append-drop len bytes)));
  }

found_told : (bytes : List ℕ) (nodes : List Node) (found : Result Found WireError)
    → Finds default_limits bytes nodes found → TellsNodes bytes (nodes_code found) (nodes_len found)
found_told bytes nodes (Ok (Whole len count)) u =
    reply_told bytes len u.4.0 u.0 u.4.1 0 (inl refl)
found_told bytes nodes (Ok (NoRoom len)) u = reply_told bytes len u.1.0 u.0 u.1.1 1 (inr refl)
found_told bytes nodes (Ok Incomplete) u = record {
  early = λ more a some s. inl refl;
  whole = λ text rest a s is. absurd (none_there bytes text rest a u.0 s is);
  fault = λ f first. let e = u.1 in absurd cc;
}
found_told bytes nodes (Err errors.Memory) u = record {
  early = λ more a some s. inr refl;
  whole = λ text rest a s is. inl refl;
  fault = λ f first. inr refl;
}
found_told bytes nodes (Err (errors.Fault g)) u = record {
  early = λ more a some s. absurd (none_later bytes more a (u.0 more) s);
  whole = λ text rest a s is. absurd (none_there (bytes ++ []) text rest a (u.0 []) s (append-nil bytes ∙ is));
  fault = λ f first. let e = u.1 in let same : g ≡ f = cc in inl (ap code_of_fault same);
}

-- which outcome is returned for which bytes
pub nodes_tell : (bytes : List ℕ) (nodes : List Node) (found : Result Found WireError) (n len : ℕ)
    → n ≡ nodes_code found → len ≡ nodes_len found → Finds default_limits bytes nodes found → TellsNodes bytes n len
nodes_tell bytes nodes found n len number long is =
    subst (λ (k : ℕ). TellsNodes bytes k len) (sym number)
    (subst (λ (k : ℕ). TellsNodes bytes (nodes_code found) k) (sym long) (found_told bytes nodes found is))
