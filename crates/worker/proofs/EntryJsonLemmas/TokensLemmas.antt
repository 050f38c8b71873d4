-- What a writer gives for brackets, keys and texts has no end of a line in it.
use Rattle.std.proofs.Common.{◌≡◌, ◌≢◌, ◌+◌, ◌/◌, ◌%◌, inl, inr, ℕ, Bool, true, false, cond, List, [], ◌∷◌, ◌++◌}
use Rattle.std.proofs.Common.{refl, sym, subst, arith, ap, flat_map, if◌then◌else◌}
use Rattle.std.specs.Prelude.{◌||◌, ◌&&◌, ◌==◌, nat_lt}
use Rattle.std.specs.Char.{digit_char}
use Rattle.std.specs.List.{AllByRecursion}
use Rattle.std.proofs.lemmas.Bool.{cases_eq, and_parts, true≢false}
use Rattle.std.proofs.lemmas.List.Folds.{list_all-append}
use Rattle.json.specs.Token.{Token, begin_object, end_object, begin_array, end_array}
use Rattle.json.specs.Token.{key, string, number, boolean, null, bad}
use Rattle.json.specs.Print.{begins, ends, escape, escape_byte, escape_letter, print_from, separator, token_text}
use Rattle.std.specs.Str.{IsUtf8, is_utf8}
use Rattle.std.proofs.lemmas.Str.{IsUtf8-from_is_utf8}
use Rattle.worker.specs.EntryJson.{are_texts, is_text_or_bracket}
use Rattle.worker.specs.EntryJson.{base64_tokens, bytes_tokens, field_tokens, fields_tokens}

-- no line ends in these bytes
abbrev HasNoEnd : List ℕ → Type 0
HasNoEnd bytes = AllByRecursion (λ b. b ≢ 10) bytes

-- what holds of both
either : {A : Type 0} (P : A → Type 0) (b : Bool) (u v : A) → P u → P v → P (cond b u v)
either P true u v p q = p
either P false u v p q = q

both : (xs ys : List ℕ) → HasNoEnd xs → HasNoEnd ys → HasNoEnd (xs ++ ys)
both [] ys p q = q
both (x ∷ xs) ys p q = (p.0, both xs ys p.1 q)

abbrev IsNoEnd : ℕ → Type 0
IsNoEnd b = b ≢ 10

digit : (d : ℕ) → IsNoEnd (digit_char d)
digit d = either IsNoEnd (nat_lt d 10) (48 + d) (87 + d) (λ e. omega arith) (λ e. omega arith)

letter : (x : ℕ) → IsNoEnd x → IsNoEnd (escape_letter x)
letter x n = either IsNoEnd ((x == 34) || (x == 92)) x _ n
    (either IsNoEnd (x == 8) 98 _ (λ e. omega arith)
    (either IsNoEnd (x == 12) 102 _ (λ e. omega arith)
    (either IsNoEnd (x == 10) 110 _ (λ e. omega arith)
    (either IsNoEnd (x == 13) 114 _ (λ e. omega arith)
    (either IsNoEnd (x == 9) 116 0 (λ e. omega arith) (λ e. omega arith))))))

other_byte : (x : ℕ) → IsNoEnd x → HasNoEnd (escape_byte x)
unfolding escape_byte
other_byte x n = either HasNoEnd (nat_lt 0 (escape_letter x)) (92 ∷ escape_letter x ∷ []) _
    (λ e. omega arith, (letter x n, tt))
    (either HasNoEnd (nat_lt x 32) (92 ∷ 117 ∷ 48 ∷ 48 ∷ digit_char (x / 16) ∷ digit_char (x % 16) ∷ []) (x ∷ []) (
      λ e. omega arith,
      (
        λ e. omega arith,
        (
          λ e. omega arith,
          (
            λ e. omega arith,
            (digit (x / 16), (digit (x % 16), tt)),
          ),
        ),
      ),
    )
    (n, tt))

line_feed : HasNoEnd (escape_byte 10)
unfolding escape_byte
line_feed = (λ e. omega arith, (λ e. omega arith, tt))

byte : (x : ℕ) → HasNoEnd (escape_byte x)
byte x = elim (cases_eq x 10) [
  | inl is ↦ subst (λ y. HasNoEnd (escape_byte y)) (sym is) line_feed
  | inr n ↦ other_byte x n
]

text : (s : List ℕ) → HasNoEnd (escape s)
text [] = tt
text (x ∷ xs) = both (escape_byte x) (escape xs) (byte x) (text xs)

quoted_text : (s : List ℕ) → HasNoEnd (34 ∷ (escape s ++ 34 ∷ []))
quoted_text s = (λ e. omega arith, both (escape s) (34 ∷ []) (text s) (λ e. omega arith, tt))

token : (t : Token) → is_text_or_bracket t ≡ true → HasNoEnd (token_text t)
token begin_object is = (λ e. omega arith, tt)
token end_object is = (λ e. omega arith, tt)
token begin_array is = (λ e. omega arith, tt)
token end_array is = (λ e. omega arith, tt)
token (key s) is = both (34 ∷ (escape s ++ 34 ∷ [])) (58 ∷ []) (quoted_text s) (λ e. omega arith, tt)
token (string s) is = quoted_text s
token (number s) is = absurd (true≢false (sym is))
token (boolean b) is = absurd (true≢false (sym is))
token null is = absurd (true≢false (sym is))
token bad is = absurd (true≢false (sym is))

comma : (after : Bool) (t : Token) → HasNoEnd (separator after t)
comma after t = either HasNoEnd (after && begins t) (44 ∷ []) [] (λ e. omega arith, tt) tt

pub no_end : (after : Bool) (ts : List Token) → are_texts ts ≡ true → HasNoEnd (print_from after ts)
unfolding print_from
no_end after [] are = tt
no_end after (t ∷ ts) are =
    let parts = and_parts (is_text_or_bracket t) (are_texts ts) are in
    both (separator after t) (token_text t ++ print_from (ends t) ts) (comma after t)
    (both (token_text t) (print_from (ends t) ts) (token t parts.0) (no_end (ends t) ts parts.1))

-- two lists of such tokens
pub both_texts : (xs ys : List Token) → are_texts xs ≡ true → are_texts ys ≡ true → are_texts (xs ++ ys) ≡ true
both_texts xs ys p q = grind (arith, list_all-append is_text_or_bracket xs ys, p, q)

bytes_texts : (bytes : List ℕ) → are_texts (bytes_tokens bytes) ≡ true
bytes_texts bytes = by (is_utf8 bytes)
  where
    by : (b : Bool) → are_texts (if b then string bytes ∷ [] else base64_tokens bytes) ≡ true
    by true = refl
    by false = refl

field_texts : (p : List ℕ × List ℕ) → are_texts (field_tokens p) ≡ true
field_texts p = both_texts (bytes_tokens p.0) (bytes_tokens p.1 ++ end_array ∷ []) (bytes_texts p.0)
    (both_texts (bytes_tokens p.1) (end_array ∷ []) (bytes_texts p.1) refl)

each_texts : (ps : List (List ℕ × List ℕ)) → are_texts (flat_map field_tokens ps) ≡ true
each_texts [] = refl
each_texts (p ∷ ps) = both_texts (field_tokens p) (flat_map field_tokens ps) (field_texts p) (each_texts ps)

-- the tokens of fields are such
pub fields_texts : (ps : List (List ℕ × List ℕ)) → are_texts (fields_tokens ps) ≡ true
fields_texts ps = both_texts (flat_map field_tokens ps) (end_array ∷ []) (each_texts ps) refl

-- the tokens of a text
pub text_tokens : (bytes : List ℕ) → is_utf8 bytes ≡ true → bytes_tokens bytes ≡ string bytes ∷ []
text_tokens bytes is = ap (λ (b : Bool). if b then string bytes ∷ [] else base64_tokens bytes) is

-- and of bytes that are none
pub other_tokens : (bytes : List ℕ) → (IsUtf8 bytes → ⊥) → bytes_tokens bytes ≡ base64_tokens bytes
other_tokens bytes no_text = by (is_utf8 bytes) refl
  where
    by : (b : Bool) → is_utf8 bytes ≡ b → bytes_tokens bytes ≡ base64_tokens bytes
    by true is = absurd (no_text (IsUtf8-from_is_utf8 bytes is))
    by false is = ap (λ (b : Bool). if b then string bytes ∷ [] else base64_tokens bytes) is
