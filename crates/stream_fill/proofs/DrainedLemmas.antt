-- The lines that `stream_drain --json` writes.
use Rattle.std.proofs.Common.{◌≡◌, ◌≢◌, ◌<◌, ◌≤◌, ℕ, zero, suc, Bool, true, false, List, [], ◌∷◌, ◌++◌, slice_index, Some, option_and_then, option_map, refl, ◌∙◌, ap, arith, if◌then◌else◌}
use Rattle.std.specs.List.{AllByRecursion}
use Rattle.std.specs.Prelude.{codes}
use Rattle.std.specs.Result.{result_ok}
use Rattle.std.specs.Str.{IsUtf8, is_utf8}
use Rattle.std.proofs.lemmas.Str.{IsUtf8-append, IsUtf8-from_ascii, IsUtf8-from_is_utf8, IsUtf8-nil}
use Rattle.base64.proofs.EngineFacts.{IsAscii-encode_of, decode_of-encode_of}
use Rattle.base64.specs.Engines as named
use Rattle.base64.specs.GeneralPurpose.{decoded_of, encode_of}
use Rattle.json.specs.Json.{string, object, no_members, member, document}
use Rattle.json.specs.Print.{ends, print_from, separator, token_text}
use Rattle.json.specs.Token.{Token}
use Rattle.json.specs.Tree.{HasNumbers, ItemsHaveNumbers, depth, items_depth, items_tokens, json_tokens}
use Rattle.json.proofs.Printed.Trees.{document-print}
use Rattle.json.proofs.Printed.Utf8.{IsUtf8-are_ascii, IsUtf8-key, IsUtf8-quoted, IsUtf8-separator}
use Rattle.worker_producer.specs.Records.{Fields}
use Rattle.stream_fill.specs.Drained.{AreBytes, DrainedLinesComeBack, drained_line, entry_value, pair_value, pair_values, text_value}
use Rattle.stream_fill.specs.JsonRecord.{field_of_pair, fields_of_pairs, fields_of_value, first_and_rest, one_at_least, text_of}
use Rattle.stream_fill.proofs.JsonLemmas.{value_there}

-- ---- the fields of the value

each_byte : (m : List ℕ) → AreBytes m → (i : ℕ) → slice_index m i < 256
each_byte [] are i = omega arith
each_byte (x ∷ xs) are zero = are.0
each_byte (x ∷ xs) are (suc i) = each_byte xs are.1 i

decoded_back : (m : List ℕ) → AreBytes m → decoded_of named.standard (encode_of named.standard m) ≡ Some m
unfolding decoded_of
decoded_back m are = ap result_ok (decode_of-encode_of named.standard m refl (each_byte m are))

text_back : (bytes : List ℕ) → AreBytes bytes → text_of (text_value bytes) ≡ Some bytes
text_back bytes are = by (is_utf8 bytes)
  where
    by : (b : Bool) → text_of (if b then string bytes
        else object (member (codes "base64") (string (encode_of named.standard bytes)) no_members)) ≡ Some bytes
    by true = refl
    by false = decoded_back bytes are

pair_back : (f : List ℕ × List ℕ) → (AreBytes f.0 × AreBytes f.1) → field_of_pair (pair_value f) ≡ Some f
pair_back f are =
    ap (option_and_then (λ name. option_map (λ text. (name, text)) (text_of (text_value f.1)))) (text_back f.0 are.0)
    ∙ ap (option_map (λ text. (f.0, text))) (text_back f.1 are.1)

pairs_back : (fs : Fields) → AllByRecursion (λ f. AreBytes f.0 × AreBytes f.1) fs
    → fields_of_pairs (pair_values fs) ≡ Some fs
pairs_back [] are = refl
pairs_back (f ∷ fs) are =
    ap (λ o. first_and_rest o (fields_of_pairs (pair_values fs))) (pair_back f are.0)
    ∙ ap (first_and_rest (Some f)) (pairs_back fs are.1)

fields_back : (id : List ℕ) (fs : Fields) → AllByRecursion (λ f. AreBytes f.0 × AreBytes f.1) fs
    → fields_of_value (entry_value id fs) ≡ Some fs
fields_back id fs are = pairs_back fs are

one_there : (fs : Fields) → fs ≢ [] → one_at_least fs ≡ Some fs
one_there [] some = absurd (some refl)
one_there (f ∷ fs) some = refl

-- ---- the value of the line

text_numbers : (bytes : List ℕ) → HasNumbers (text_value bytes)
text_numbers bytes = by (is_utf8 bytes)
  where
    by : (b : Bool) → HasNumbers (if b then string bytes
        else object (member (codes "base64") (string (encode_of named.standard bytes)) no_members))
    by true = tt
    by false = (tt, tt)

pairs_numbers : (fs : Fields) → ItemsHaveNumbers (pair_values fs)
pairs_numbers [] = tt
pairs_numbers (f ∷ fs) = ((text_numbers f.0, (text_numbers f.1, tt)), pairs_numbers fs)

text_depth : (bytes : List ℕ) → depth (text_value bytes) ≤ 1
text_depth bytes = by (is_utf8 bytes)
  where
    by : (b : Bool) → depth (if b then string bytes
        else object (member (codes "base64") (string (encode_of named.standard bytes)) no_members)) ≤ 1
    by true = omega arith
    by false = omega arith

pairs_depth : (fs : Fields) → items_depth (pair_values fs) ≤ 2
pairs_depth [] = omega arith
pairs_depth (f ∷ fs) = omega (arith, text_depth f.0, text_depth f.1, pairs_depth fs)

document_back : (id : List ℕ) (fs : Fields) → document (drained_line id fs) ≡ Some (entry_value id fs)
document_back id fs = document-print (entry_value id fs) (tt, (pairs_numbers fs, tt)) (omega (arith, pairs_depth fs))

-- ---- the line is UTF-8

-- so are the texts of these tokens
abbrev AreUtf8 : List Token → Type 0
AreUtf8 ts = AllByRecursion (λ t. IsUtf8 (token_text t)) ts

printed_utf8 : (after : Bool) (ts : List Token) → AreUtf8 ts → IsUtf8 (print_from after ts)
unfolding print_from
printed_utf8 after [] are = IsUtf8-nil
printed_utf8 after (t ∷ ts) are =
    IsUtf8-append (separator after t) (token_text t ++ print_from (ends t) ts) (IsUtf8-separator after t)
    (IsUtf8-append (token_text t) (print_from (ends t) ts) are.0 (printed_utf8 (ends t) ts are.1))

both_utf8 : (ts us : List Token) → AreUtf8 ts → AreUtf8 us → AreUtf8 (ts ++ us)
both_utf8 [] us p q = q
both_utf8 (t ∷ ts) us p q = (p.0, both_utf8 ts us p.1 q)

text_utf8 : (bytes : List ℕ) → AreUtf8 (json_tokens (text_value bytes))
text_utf8 bytes = by (is_utf8 bytes) refl
  where
    by : (b : Bool) → is_utf8 bytes ≡ b → AreUtf8 (json_tokens (if b then string bytes
        else object (member (codes "base64") (string (encode_of named.standard bytes)) no_members)))
    by true is = (IsUtf8-quoted bytes (IsUtf8-from_is_utf8 bytes is), tt)
    by false is =
        let text = encode_of named.standard bytes in (
          IsUtf8-are_ascii (123 ∷ []) refl,
          (
            IsUtf8-key (codes "base64") (IsUtf8-are_ascii (codes "base64") refl),
            (
              IsUtf8-quoted text (IsUtf8-from_ascii text (IsAscii-encode_of named.standard bytes)),
              (IsUtf8-are_ascii (125 ∷ []) refl, tt),
            ),
          ),
        )

pairs_utf8 : (fs : Fields) → AreUtf8 (items_tokens (pair_values fs))
pairs_utf8 [] = (IsUtf8-are_ascii (93 ∷ []) refl, tt)
pairs_utf8 (f ∷ fs) =
    let end : AreUtf8 (Token.end_array ∷ []) = (IsUtf8-are_ascii (93 ∷ []) refl, tt) in
    both_utf8 (json_tokens (pair_value f)) (items_tokens (pair_values fs)) (
      IsUtf8-are_ascii (91 ∷ []) refl,
      both_utf8 (json_tokens (text_value f.0)) (json_tokens (text_value f.1) ++ Token.end_array ∷ []) (text_utf8 f.0)
          (both_utf8 (json_tokens (text_value f.1)) (Token.end_array ∷ []) (text_utf8 f.1) end),
    ) (pairs_utf8 fs)

line_utf8 : (id : List ℕ) (fs : Fields) → IsUtf8 id → IsUtf8 (drained_line id fs)
line_utf8 id fs text = printed_utf8 false (json_tokens (entry_value id fs)) (
  IsUtf8-are_ascii (123 ∷ []) refl,
  (
    IsUtf8-key (codes "id") (IsUtf8-are_ascii (codes "id") refl),
    (
      IsUtf8-quoted id text,
      (
        IsUtf8-key (codes "fields") (IsUtf8-are_ascii (codes "fields") refl),
        (
          IsUtf8-are_ascii (91 ∷ []) refl,
          both_utf8 (items_tokens (pair_values fs)) (Token.end_object ∷ []) (pairs_utf8 fs)
              (IsUtf8-are_ascii (125 ∷ []) refl, tt),
        ),
      ),
    ),
  ),
)

-- ---- the law

pub drained_lines_come_back : DrainedLinesComeBack
drained_lines_come_back id fs text are some =
    let value = value_there (drained_line id fs) (entry_value id fs) (line_utf8 id fs text) (document_back id fs) in
    ap (λ o. option_and_then one_at_least (option_and_then fields_of_value o)) value
    ∙ ap (option_and_then one_at_least) (fields_back id fs are) ∙ one_there fs some
