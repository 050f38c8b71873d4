-- The tokens of fields tell the fields.
use Rattle.std.proofs.Common.{◌≡◌, ◌<◌, ℕ, zero, suc, Bool, true, false, List, [], ◌∷◌, ◌++◌, flat_map, slice_index, refl, sym}
use Rattle.std.proofs.Common.{◌∙◌, ap, ap₂, arith, append_assoc, if◌then◌else◌}
use Rattle.std.specs.Str.{is_utf8}
use Rattle.std.proofs.lemmas.Bool.{true≢false}
use Rattle.base64.proofs.RoundTrip.{decode-encode}
use Rattle.base64.specs.Decode.{decoded_bytes}
use Rattle.base64.specs.Engines as named
use Rattle.base64.specs.GeneralPurpose.{encode_of}
use Rattle.base64.specs.declared.engine.DecodePaddingMode.TheVariants.{RequireCanonical}
use Rattle.json.specs.Token.{Token, begin_object, end_object, begin_array, end_array}
use Rattle.json.specs.Token.{key, string, number, boolean, null, bad}
use Rattle.json.specs.Lex.{tokens}
use Rattle.json.specs.Print.{print, ArePrintable}
use Rattle.json.proofs.Printed.Tokens.{tokens-print}
use Rattle.worker.specs.EntryJson.{AreBytes, AreOfBytes, are_texts, base64_tokens, bytes_tokens, field_tokens, fields_tokens}

-- ---- the tokens of a line

printable : (ts : List Token) → are_texts ts ≡ true → ArePrintable ts
unfolding ArePrintable
printable [] are = tt
printable (begin_object ∷ ts) are = (tt, printable ts are)
printable (end_object ∷ ts) are = (tt, printable ts are)
printable (begin_array ∷ ts) are = (tt, printable ts are)
printable (end_array ∷ ts) are = (tt, printable ts are)
printable (key s ∷ ts) are = (tt, printable ts are)
printable (string s ∷ ts) are = (tt, printable ts are)
printable (number s ∷ ts) are = absurd (true≢false (sym are))
printable (boolean b ∷ ts) are = absurd (true≢false (sym are))
printable (null ∷ ts) are = absurd (true≢false (sym are))
printable (bad ∷ ts) are = absurd (true≢false (sym are))

-- two lists of such tokens that are printed alike are the same
pub same_tokens : (xs ys : List Token) → are_texts xs ≡ true → are_texts ys ≡ true → print xs ≡ print ys → xs ≡ ys
same_tokens xs ys are-x are-y same =
    sym (tokens-print xs (printable xs are-x)) ∙ (ap tokens same ∙ tokens-print ys (printable ys are-y))

-- ---- Base64

each_byte : (m : List ℕ) → AreBytes m → (i : ℕ) → slice_index m i < 256
each_byte [] are i = omega arith
each_byte (x ∷ xs) are zero = are.0
each_byte (x ∷ xs) are (suc i) = each_byte xs are.1 i

decoded : (m : List ℕ) → AreBytes m → decoded_bytes named.standard.decode_table 61 (encode_of named.standard m) ≡ m
decoded m are =
    (decode-encode named.standard.encode_table named.standard.decode_table m 61 false RequireCanonical true refl (each_byte m are) refl).1

same_bytes : (a b : List ℕ) → AreBytes a → AreBytes b → encode_of named.standard a ≡ encode_of named.standard b → a ≡ b
same_bytes a b are-a are-b same =
    sym (decoded a are-a) ∙ (ap (decoded_bytes named.standard.decode_table 61) same ∙ decoded b are-b)

-- ---- a text, and what comes after it

record Same {A : Type 0} (xs ys : List ℕ) (us vs : List A) : Type 0 where
  front : xs ≡ ys
  after : us ≡ vs

text_once : (a b : List ℕ) (us vs : List Token) → AreBytes a → AreBytes b
    → bytes_tokens a ++ us ≡ bytes_tokens b ++ vs → Same a b us vs
text_once a b us vs are-a are-b same = by (is_utf8 a) (is_utf8 b) same
  where
    by : (p q : Bool)
        → (if p then string a ∷ [] else base64_tokens a) ++ us ≡ (if q then string b ∷ [] else base64_tokens b) ++ vs
        → Same a b us vs
    by true true e = record { front = cc e; after = cc e }
    by true false e = absurd (cc e)
    by false true e = absurd (cc e)
    by false false e = record { front = same_bytes a b are-a are-b (cc e); after = cc e }

-- ---- the fields

joined : (p : List ℕ × List ℕ) (us : List Token)
    → field_tokens p ++ us ≡ begin_array ∷ (bytes_tokens p.0 ++ (bytes_tokens p.1 ++ end_array ∷ us))
joined p us = ap (λ ts. begin_array ∷ ts)
    (append_assoc (bytes_tokens p.0) (bytes_tokens p.1 ++ end_array ∷ []) us
    ∙ ap (λ ts. bytes_tokens p.0 ++ ts) (append_assoc (bytes_tokens p.1) (end_array ∷ []) us))

field_once : (p q : List ℕ × List ℕ) (us vs : List Token) → (AreBytes p.0 × AreBytes p.1) → (AreBytes q.0 × AreBytes q.1)
    → field_tokens p ++ us ≡ field_tokens q ++ vs → (p ≡ q) × (us ≡ vs)
field_once p q us vs are-p are-q same =
    let e : bytes_tokens p.0 ++ (bytes_tokens p.1 ++ end_array ∷ us) ≡ bytes_tokens q.0 ++ (bytes_tokens q.1 ++ end_array ∷ vs) =
    cc (sym (joined p us) ∙ (same ∙ joined q vs)) in
    let name = text_once p.0 q.0 (bytes_tokens p.1 ++ end_array ∷ us) (bytes_tokens q.1 ++ end_array ∷ vs) are-p.0 are-q.0 e in
    let value = text_once p.1 q.1 (end_array ∷ us) (end_array ∷ vs) are-p.1 are-q.1 name.after in
    (ap₂ (λ x y. (x, y)) name.front value.front, cc value.after)

each_once : (ps qs : List (List ℕ × List ℕ)) (us vs : List Token) → AreOfBytes ps → AreOfBytes qs
    → flat_map field_tokens ps ++ end_array ∷ us ≡ flat_map field_tokens qs ++ end_array ∷ vs → (ps ≡ qs) × (us ≡ vs)
each_once [] [] us vs are-p are-q same = (refl, cc same)
each_once [] (q ∷ qs) us vs are-p are-q same = absurd (cc same)
each_once (p ∷ ps) [] us vs are-p are-q same = absurd (cc same)
each_once (p ∷ ps) (q ∷ qs) us vs are-p are-q same =
    let e = sym (append_assoc (field_tokens p) (flat_map field_tokens ps) (end_array ∷ us))
    ∙ (same ∙ append_assoc (field_tokens q) (flat_map field_tokens qs) (end_array ∷ vs)) in
    let one = field_once p q (flat_map field_tokens ps ++ end_array ∷ us) (flat_map field_tokens qs ++ end_array ∷ vs) are-p.0
    are-q.0 e in
    let more = each_once ps qs us vs are-p.1 are-q.1 one.1 in
    (ap₂ (λ x xs. x ∷ xs) one.0 more.0, more.1)

-- the fields, and what comes after them
pub fields_once : (ps qs : List (List ℕ × List ℕ)) (us vs : List Token) → AreOfBytes ps → AreOfBytes qs
    → fields_tokens ps ++ us ≡ fields_tokens qs ++ vs → (ps ≡ qs) × (us ≡ vs)
fields_once ps qs us vs are-p are-q same =
    let e : flat_map field_tokens ps ++ end_array ∷ us ≡ flat_map field_tokens qs ++ end_array ∷ vs =
    sym (append_assoc (flat_map field_tokens ps) (end_array ∷ []) us)
    ∙ (cc same ∙ append_assoc (flat_map field_tokens qs) (end_array ∷ []) vs) in
    each_once ps qs us vs are-p are-q e
