use Rattle.std.proofs.Common.{◌≡◌, ℕ, ◌+◌, ◌<◌, List, [], ◌∷◌, ◌++◌, ◌∙◌, arith, cond, get_or, length, map, subst, sym, take, rules}
use Rattle.std.proofs.lemmas.Grind.{common_steps}
use Rattle.std.specs.List.{list_any}
use Rattle.stream_top.specs.declared.figures.StreamFigures.{StreamFigures}
use Rattle.stream_top.specs.declared.options.Key.{Key}
use Rattle.stream_top.specs.Asked.{MeasuresEach, first_keys, with_key}
use Rattle.stream_top.specs.Measured.{each_once, is_of, key_of, name_of, with_name}
use Rattle.stream_top.specs.Options.{key_bytes}
use Rattle.stream_top.proofs.AskedLemmas.{any-key_of, asked_before, asked_now, names_once}
use Rattle.stream_top.proofs.measure.Goals as goal
use Rattle.stream_top.proofs.measure.Goals.{then-not-is_measured+in_ok-measure_one+in_ok-push, else-not-is_measured}

-- one more key
once_more : (keys : List Key) (i : ℕ) (k : Key) → i < length keys → k ≡ get_or keys i k
    → each_once (map name_of (take (i + 1) keys)) ≡ with_name (each_once (map name_of (take i keys))) (name_of k)
once_more keys i k within is = grind (arith, common_steps)

one_more : (keys : List Key) (i : ℕ) (k : Key) → i < length keys → k ≡ get_or keys i k
    → first_keys (take (i + 1) keys) ≡ with_key (first_keys (take i keys)) k
one_more keys i k within is = grind (arith, common_steps)

-- a step of the loop
one_step : (keys : List Key) (i : ℕ) (k : Key) (old new : List StreamFigures) → i < length keys
    → k ≡ get_or keys i k
    → map key_of old ≡ each_once (map name_of (take i keys))
    → map key_of new ≡ cond (list_any (is_of (name_of k)) old) (map key_of old) (map key_of old ++ name_of k ∷ [])
    → map key_of new ≡ each_once (map name_of (take (i + 1) keys))
one_step keys i k old new within is so_far one =
    rw (once_more keys i k within is, ← so_far, any-key_of (name_of k) old) one

pub loop-key-preserved : goal.loop-key-preserved
loop-key-preserved g c =
    let i = c.loop-key.key-index in
    let keys = c.args.keys.now in
    let k = c.key-item.result in
    let so_far = c.loop-key.invariant in
    let within : i < length keys = omega arith in
    let same : map key_of c.loop-key.streams.items ≡ map name_of (first_keys (take i keys)) =
    so_far.once ∙ sym (names_once (take i keys)) in
    record {
      once = one_step keys i k c.loop-key.streams.items c.if-not-is_measured.streams.items within c.key-item.is so_far.once
          (elim c.if-not-is_measured.branch [
            | then-not-is_measured+in_ok-measure_one+in_ok-push w ↦ grind (arith, common_steps)
            | else-not-is_measured w ↦ grind (arith, common_steps)
          ]);
      asked = subst (λ (ks : List Key). MeasuresEach (map key_bytes ks) c.args.connection.now c.if-not-is_measured.connection)
          (sym (one_more keys i k within c.key-item.is))
          (elim c.if-not-is_measured.branch [
            | then-not-is_measured+in_ok-measure_one+in_ok-push w ↦
                asked_now (first_keys (take i keys)) k c.loop-key.streams.items c.args.connection.now
                c.loop-key.connection c.if-not-is_measured.connection same so_far.asked (search rules) (search rules)
            | else-not-is_measured w ↦
                asked_before (first_keys (take i keys)) k c.loop-key.streams.items c.args.connection.now
                c.loop-key.connection c.if-not-is_measured.connection same so_far.asked (search rules) (search rules)
          ]);
    }
