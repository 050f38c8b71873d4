-- Records that are numbered, and what is written of them.
use Rattle.std.proofs.Common.{◌≡◌, ◌≢◌, ℕ, zero, suc, ◌+◌, ◌<◌, ◌≤◌, ◌^◌, List, [], ◌∷◌, ◌++◌, length, map, take, drop}
use Rattle.std.proofs.Common.{◌⊎◌, inl, inr, Option, Some, None, refl, ap, sym, ◌∙◌, arith, get_or, append_assoc, append-nil, add-one, subst}
use Rattle.std.proofs.Math.Seq.{drop-cons}
use Rattle.std.proofs.lemmas.Grind.{flat_map-append}
use Rattle.std.proofs.lemmas.List.{length-append, take_all}
use Rattle.std.specs.Prelude.{string_bytes, Result, Ok, Err, OnOk, IfOk, IfErr, IfSome}
use Rattle.std.specs.Prelude.{Vec, ◌*◌, codes}
use Rattle.std.specs.List.{flat_map}
use Rattle.std.specs.declared.alloc.Global.{Global}
use Rattle.redis_wire.specs.Packed.{bulk_bytes, command_bytes, head_bytes}
use Rattle.model_server.specs.Once.Feed as feed
use Rattle.model_server.specs.Once.Feed.{Numbered, numbered, asking, knows, waits}
use Rattle.worker_producer.specs.Machine.{Asks, AsksNone, RequestedAt, Sends, Sent, Standing, Unrequested, Unsent, next_batch}
use Rattle.worker_producer.specs.Machine.{stage_of, standing_of}
use Rattle.worker_producer.specs.Records.{AreAll, Fields, arguments_of, field_of}
use Rattle.worker_producer.specs.Sentences.{add_sentence, adds_bytes, ask_bytes, batch_bytes, head_of, own_id}
use Rattle.worker_producer.specs.declared.error.RequestError.{RequestError}
use Rattle.worker_producer.specs.declared.error.RequestError.TheVariants as causes
use Rattle.worker_producer.specs.declared.producer.Producer.{Producer}
use Rattle.worker_producer.specs.declared.settings.Settings.{Settings}
use Rattle.worker_producer.specs.declared.stage.Asked.{Asked}
use Rattle.worker_producer.specs.declared.stage.Asked.TheVariants as asked
use Rattle.worker_producer.proofs.TakenLemmas.{none_to_come}

-- one more record is written
pub written : {A : Type 0} (f : A → Fields) (head : List (List ℕ)) (n i : ℕ) (xs : List A) (x : A) (out new all : List ℕ)
    → i < length xs → x ≡ get_or xs i x → new ≡ out ++ command_bytes (add_sentence head ((n + 1, 0), f x))
    → out ++ adds_bytes head (numbered n (map f (drop i xs))) ≡ all
    → new ++ adds_bytes head (numbered (n + 1) (map f (drop (i + 1) xs))) ≡ all
written f head n i xs x out new all h e b inv =
    let d : drop i xs ≡ x ∷ drop (i + 1) xs =
    drop-cons xs i x h ∙ (ap (λ y. y ∷ drop (suc i) xs) (sym e) ∙ ap (λ (j : ℕ). x ∷ drop j xs) (sym (add-one i))) in
    let r : List ℕ = adds_bytes head (numbered (n + 1) (map f (drop (i + 1) xs))) in
    ap (λ o. o ++ r) b
    ∙ (append_assoc out (command_bytes (add_sentence head ((n + 1, 0), f x))) r
    ∙ (ap (λ ys. out ++ adds_bytes head (numbered n (map f ys))) (sym d) ∙ inv))

-- one more argument is written
pub argument_written : (i : ℕ) (words : List (Vec ℕ Global)) (word : Vec ℕ Global) (out new all : List ℕ)
    → i < length words → word ≡ get_or words i word → new ≡ out ++ bulk_bytes word.items
    → out ++ flat_map bulk_bytes (map (λ w. w.items) (drop i words)) ≡ all
    → new ++ flat_map bulk_bytes (map (λ w. w.items) (drop (i + 1) words)) ≡ all
argument_written i words word out new all h e b inv =
    let d : drop i words ≡ word ∷ drop (i + 1) words =
    drop-cons words i word h
    ∙ (ap (λ y. y ∷ drop (suc i) words) (sym e) ∙ ap (λ (j : ℕ). word ∷ drop j words) (sym (add-one i))) in
    let r : List ℕ = flat_map bulk_bytes (map (λ w. w.items) (drop (i + 1) words)) in
    ap (λ o. o ++ r) b
    ∙ (append_assoc out (bulk_bytes word.items) r
    ∙ (ap (λ ws. out ++ flat_map bulk_bytes (map (λ w. w.items) ws)) (sym d) ∙ inv))

-- the fields of a record are two arguments each
pub arguments_counted : (fs : List (Vec ℕ Global × Vec ℕ Global))
    → length (arguments_of (map field_of fs)) ≡ 2 * length fs
arguments_counted [] = refl
arguments_counted (f ∷ fs) =
    let rest = arguments_counted fs in
    omega (arith, rest)

-- one more field is written
pub field_written : (i : ℕ) (fs : List (Vec ℕ Global × Vec ℕ Global)) (f : Vec ℕ Global × Vec ℕ Global)
    (out new all : List ℕ) → i < length fs → f ≡ get_or fs i f
    → new ≡ out ++ (bulk_bytes f.0.items ++ bulk_bytes f.1.items)
    → out ++ flat_map bulk_bytes (arguments_of (map field_of (drop i fs))) ≡ all
    → new ++ flat_map bulk_bytes (arguments_of (map field_of (drop (i + 1) fs))) ≡ all
field_written i fs f out new all h e b inv =
    let d : drop i fs ≡ f ∷ drop (i + 1) fs =
    drop-cons fs i f h ∙ (ap (λ y. y ∷ drop (suc i) fs) (sym e) ∙ ap (λ (j : ℕ). f ∷ drop j fs) (sym (add-one i))) in
    let r : List ℕ = flat_map bulk_bytes (arguments_of (map field_of (drop (i + 1) fs))) in
    ap (λ o. o ++ r) b
    ∙ (append_assoc out (bulk_bytes f.0.items ++ bulk_bytes f.1.items) r
    ∙ (ap (λ bs. out ++ bs) (append_assoc (bulk_bytes f.0.items) (bulk_bytes f.1.items) r)
    ∙ (ap (λ ys. out ++ flat_map bulk_bytes (arguments_of (map field_of ys))) (sym d) ∙ inv)))

-- a record is written in parts: how many arguments there are, those before the id, the id, and the fields
pub in_parts : (head : List (List ℕ)) (count : ℕ) (front : List ℕ) (n : ℕ) (fields : Fields)
    → count ≡ length (codes "XADD" ∷ head) → front ≡ flat_map bulk_bytes (codes "XADD" ∷ head)
    → head_bytes (count + 1 + length (arguments_of fields))
    ++ (front ++ (bulk_bytes (own_id n) ++ flat_map bulk_bytes (arguments_of fields)))
    ≡ command_bytes (add_sentence head ((n, 0), fields))
unfolding command_bytes
in_parts head count front n fields counted e =
    let args : List (List ℕ) = arguments_of fields in
    let words : List (List ℕ) = codes "XADD" ∷ head in
    let rest : List (List ℕ) = own_id n ∷ args in
    let all : count + 1 + length args ≡ length (words ++ rest) =
    omega (arith, counted, length-append words rest) in
    ap (λ (k : ℕ). head_bytes k ++ (front ++ flat_map bulk_bytes rest)) all
    ∙ ap (λ bs. head_bytes (length (words ++ rest)) ++ bs)
    (ap (λ f. f ++ flat_map bulk_bytes rest) e ∙ sym (flat_map-append bulk_bytes words rest))

-- four parts, one after the other
pub four_parts : (out a b c d p q r s : List ℕ) → a ≡ out ++ p → b ≡ a ++ q → c ≡ b ++ r → d ≡ c ++ s
    → d ≡ out ++ (p ++ (q ++ (r ++ s)))
four_parts out a b c d p q r s e f g h =
    h ∙ ap (λ x. x ++ s) (g ∙ ap (λ x. x ++ r) (f ∙ ap (λ x. x ++ q) e))
    ∙ append_assoc ((out ++ p) ++ q) r s ∙ append_assoc (out ++ p) q (r ++ s) ∙ append_assoc out p (q ++ (r ++ s))

pub numbered_taken : {F : Type 0} (base n : ℕ) (xs : List F) → take n (numbered base xs) ≡ numbered base (take n xs)
numbered_taken base zero xs = refl
numbered_taken base (suc n) [] = refl
numbered_taken base (suc n) (x ∷ xs) = ap (λ ys. ((base + 1, 0), x) ∷ ys) (numbered_taken (base + 1) n xs)

pub numbered_dropped : {F : Type 0} (base m : ℕ) (xs : List F)
    → drop m (numbered base xs) ≡ numbered (base + m) (drop m xs)
numbered_dropped base zero xs =
    let e : base ≡ base + 0 = omega arith in
    ap (λ (b : ℕ). numbered b xs) e
numbered_dropped base (suc m) [] = refl
numbered_dropped base (suc m) (x ∷ xs) =
    let e : base + 1 + m ≡ base + suc m = omega arith in
    numbered_dropped (base + 1) m xs ∙ ap (λ (b : ℕ). numbered b (drop m xs)) e

pub numbered_length : {F : Type 0} (base : ℕ) (xs : List F) → length (numbered base xs) ≡ length xs
numbered_length base [] = refl
numbered_length base (x ∷ xs) = ap suc (numbered_length (base + 1) xs)

-- the next records with their ids
pub numbered_part : {F : Type 0} (base m n : ℕ) (xs : List F)
    → take n (drop m (numbered base xs)) ≡ numbered (base + m) (take n (drop m xs))
numbered_part base m n xs = ap (take n) (numbered_dropped base m xs) ∙ numbered_taken (base + m) n (drop m xs)

pub map_length : {A B : Type 0} (f : A → B) (xs : List A) → length (map f xs) ≡ length xs
map_length f [] = refl
map_length f (x ∷ xs) = ap suc (map_length f xs)

-- the next records are those that were read
pub next_is : {A : Type 0} (base m n : ℕ) (all : List Fields) (f : A → Fields) (xs : List A)
    → map f xs ≡ take n (drop m all) → take n (drop m (numbered base all)) ≡ numbered (base + m) (map f xs)
next_is base m n all f xs e = numbered_part base m n all ∙ ap (numbered (base + m)) (sym e)

pub next_count : {A : Type 0} (base m n : ℕ) (all : List Fields) (f : A → Fields) (xs : List A)
    → map f xs ≡ take n (drop m all) → length (take n (drop m (numbered base all))) ≡ length xs
next_count base m n all f xs e =
    ap length (next_is base m n all f xs e) ∙ (numbered_length (base + m) (map f xs) ∙ map_length f xs)

-- none are sent
pub none_sent : (s : Settings) (m : ℕ) (b : List (Numbered Fields)) (out : List ℕ) (new : Standing)
    → length b ≡ 0 → new ≡ record { stage = knows m; coming = 0 } → Sent s b out out (knows m) new asked.Nothing
none_sent s m [] out new none stands = record {
  bytes = sym (append-nil out);
  asks = refl;
  stands = stands;
  fits = tt;
}
none_sent s m (r ∷ rs) out new none stands = absurd (omega arith)

-- some are
pub some_sent : (s : Settings) (m k : ℕ) (b : List (Numbered Fields)) (out more : List ℕ) (new : Standing) (a : Asked)
    → length b ≡ k → k ≢ 0 → more ≡ out ++ batch_bytes (head_of s) b
    → new ≡ record { stage = waits m k; coming = k + 2 } → a ≡ asked.Records → s.base + m + k < 2 ^ 64
    → Sent s b out more (knows m) new a
some_sent s m k [] out more new a len some e stands is fits = absurd (some (sym len))
some_sent s m k (r ∷ rs) out more new a len some e stands is fits = record {
  bytes = e;
  asks = is;
  stands = stands ∙ ap (λ (n : ℕ). let y : Standing = record { stage = waits m n; coming = n + 2 } in y) (sym len);
  fits = subst (λ (n : ℕ). s.base + m + n < 2 ^ 64) (sym len) fits;
}

-- the same of what is returned
pub sent_ok : (r : Result Asked RequestError) (s : Settings) (m k : ℕ) (b c : List (Numbered Fields))
    (out more : List ℕ) (new : Standing) → b ≡ c → length b ≡ k → k ≢ 0
    → OnOk r (more ≡ out ++ batch_bytes (head_of s) c)
    → OnOk r (new ≡ record { stage = waits m k; coming = k + 2 }) → IfOk r (λ a. a ≡ asked.Records)
    → OnOk r (s.base + m + k < 2 ^ 64) → IfOk r (Sent s b out more (knows m) new)
sent_ok (Ok a) s m k b c out more new same len some e stands is fits =
    some_sent s m k b out more new a len some (e ∙ ap (λ x. out ++ batch_bytes (head_of s) x) (sym same))
    stands is fits
sent_ok (Err e) s m k b c out more new same len some bytes stands is fits = tt

unsent : (s : Settings) (all : List Fields) (m k : ℕ) (e : RequestError)
    → length (next_batch s all (knows m)) ≡ k → Unsent (s.base + m + k) e
    → Unrequested s all (record { stage = knows m; coming = 0 }) e
unsent s all m k causes.NotRead len u = absurd u
unsent s all m k causes.NoIdLeft len u =
    (m, refl, subst (λ (n : ℕ). 2 ^ 64 ≤ s.base + m + n) (sym len) u)
unsent s all m k causes.TooLong len u = refl
unsent s all m k causes.Memory len u = refl

pub sent_err : (r : Result Asked RequestError) (s : Settings) (all : List Fields) (m k : ℕ)
    → length (next_batch s all (knows m)) ≡ k → IfErr r (Unsent (s.base + m + k))
    → IfErr r (Unrequested s all (record { stage = knows m; coming = 0 }))
sent_err (Ok a) s all m k len u = tt
sent_err (Err e) s all m k len u = unsent s all m k e len u

-- this number of records before these
behind_others : {A : Type 0} (m n : ℕ) (xs : List (List A)) → length xs ≤ n
    → (all : List (List A)) × (xs ≡ take n (drop m all))
behind_others zero n xs few = (xs, sym (take_all n xs few))
behind_others (suc m) n xs few =
    let rest = behind_others m n xs few in
    ([] ∷ rest.0, rest.1)

-- what was read is next of all records, where they are known, and else of some
pub all_read : {A : Type 0} (n m : ℕ) (known : Option (List Fields)) (f : A → Fields) (xs : List A)
    → IfSome known (λ all. map f xs ≡ take n (drop m all)) → length xs ≤ n
    → (all : List Fields) × AreAll known all × (map f xs ≡ take n (drop m all))
all_read n m None f xs read few =
    let within : length (map f xs) ≤ n = omega (arith, map_length f xs, few) in
    let all = behind_others m n (map f xs) within in
    (all.0, tt, all.1)
all_read n m (Some all) f xs read few = (all, refl, read)

pub sends_ok : (r : Result Asked RequestError) (s : Settings) (known : Option (List Fields)) (all : List Fields)
    (old : feed.Stage) (out more : List ℕ) (new : Standing) → AreAll known all
    → IfOk r (Sent s (next_batch s all old) out more old new) → IfOk r (Sends s known out more old new)
sends_ok (Ok a) s known all old out more new are sent = (all, are, sent)
sends_ok (Err e) s known all old out more new are sent = tt

pub sends_err : (r : Result Asked RequestError) (s : Settings) (known : Option (List Fields)) (all : List Fields) (m : ℕ)
    → AreAll known all → IfErr r (Unrequested s all (record { stage = knows m; coming = 0 }))
    → IfErr r (AsksNone s known (record { stage = knows m; coming = 0 }))
sends_err (Ok a) s known all m are u = tt
sends_err (Err e) s known all m are u = (all, are, u)

-- some records that all may be
pub some_records : (known : Option (List Fields)) → (all : List Fields) × AreAll known all
some_records None = ([], tt)
some_records (Some all) = (all, refl)

pub not_read : (s : Settings) (known : Option (List Fields)) (m : ℕ)
    → AsksNone s known (record { stage = knows m; coming = 0 }) causes.NotRead
not_read s known m =
    let all = some_records known in
    (all.0, all.1, (m, refl))

-- the last id is requested
asked_last : (s : Settings) (all : List Fields) (st : feed.Stage) (out more : List ℕ) (new : Standing) (a : Asked)
    → st ≡ asking → more ≡ out ++ ask_bytes (string_bytes s.key) → new ≡ record { stage = asking; coming = 1 }
    → a ≡ asked.LastId → Sent s (next_batch s all st) out more st new a
asked_last s all st out more new a is bytes stands asks =
    subst (λ (t : feed.Stage). Sent s (next_batch s all t) out more t new a) (sym is)
    (record { bytes = bytes; asks = asks; stands = stands; fits = tt })

pub asking_ok : (r : Result Asked RequestError) (known : Option (List Fields)) (p q : Producer) (out more : List ℕ)
    → p.coming ≡ 0 → stage_of p.stage ≡ asking
    → OnOk r (more ≡ out ++ ask_bytes (string_bytes p.settings.key)) → OnOk r (q ≡ record p { coming = 1 })
    → IfOk r (λ a. a ≡ asked.LastId) → IfOk r (Asks p.settings known out more (standing_of p) (standing_of q))
asking_ok (Err e) known p q out more none is bytes stands asks = tt
asking_ok (Ok a) known p q out more none is bytes stands asks =
    let all = some_records known in
    let new : standing_of q ≡ record { stage = asking; coming = 1 } =
    ap standing_of stands ∙ ap (λ (t : feed.Stage). let y : Standing = record { stage = t; coming = 1 } in y) is in (
      all.0,
      all.1,
      none_to_come p.coming p.settings all.0 out more (standing_of p) (standing_of q) a none
          (asked_last p.settings all.0 (stage_of p.stage) out more (standing_of q) a is bytes new asks),
    )

short_of : (s : Settings) (all : List Fields) (old : Standing) (e : RequestError) → old.coming ≡ 0
    → (e ≡ causes.TooLong) ⊎ (e ≡ causes.Memory) → Unrequested s all old e
short_of s all old e none is = elim is [
  | inl x ↦ subst (λ (c : RequestError). Unrequested s all old c) (sym x) none
  | inr x ↦ subst (λ (c : RequestError). Unrequested s all old c) (sym x) none
]

pub asking_err : (r : Result Asked RequestError) (s : Settings) (known : Option (List Fields)) (old : Standing)
    → old.coming ≡ 0 → IfErr r (λ e. (e ≡ causes.TooLong) ⊎ (e ≡ causes.Memory)) → IfErr r (AsksNone s known old)
asking_err (Ok a) s known old none is = tt
asking_err (Err e) s known old none is =
    let all = some_records known in
    (all.0, all.1, short_of s all.0 old e none is)

-- it waits, and requests nothing
waits_at : (s : Settings) (all : List Fields) (out : List ℕ) (m n : ℕ)
    → (let y : Standing = record { stage = waits m n; coming = 0 } in RequestedAt 0 s all out out y y asked.Nothing)
waits_at s all out m n = record { bytes = sym (append-nil out); asks = refl; stands = refl; fits = tt }

pub waits_still : (s : Settings) (all : List Fields) (out : List ℕ) (st : feed.Stage) (c m n : ℕ) → c ≡ 0
    → st ≡ waits m n
    → (let y : Standing = record { stage = st; coming = c } in RequestedAt c s all out out y y asked.Nothing)
waits_still s all out st c m n none is =
    subst (λ (k : ℕ). let y : Standing = record { stage = st; coming = k } in RequestedAt k s all out out y y asked.Nothing)
    (sym none)
    (subst (λ (t : feed.Stage). let y : Standing = record { stage = t; coming = 0 } in
    RequestedAt 0 s all out out y y asked.Nothing) (sym is) (waits_at s all out m n))
