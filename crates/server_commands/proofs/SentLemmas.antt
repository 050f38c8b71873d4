-- What is written of a reply.
use Rattle.std.proofs.Common.{◌≡◌, ℕ, ◌+◌, ◌<◌, ◌&&◌, suc, Bool, true, false, List, [], ◌∷◌, ◌++◌, length, get_or, take}
use Rattle.std.proofs.Common.{map, Vec, Global, Result, refl, sym, ap, ◌∙◌, append_assoc, append-nil, rules, arith}
use Rattle.std.specs.List.{list_all, flat_map}
use Rattle.std.proofs.lemmas.List.{length-map}
use Rattle.redis_wire.specs.declared.written.Protocol.{Protocol}
use Rattle.redis_wire.specs.declared.written.Protocol.TheVariants.{Resp2}
use Rattle.redis_wire.specs.Reading.{is_inner}
use Rattle.redis_wire.specs.Packed.{bulk_bytes}
use Rattle.redis_wire.specs.Written.{line_bytes, count_bytes, map_head}
use Rattle.redis_wire.specs.WrittenReply.{blank_end, error_bytes}
use Rattle.server_commands.specs.declared.answer.Answer.{Answer, the_lemmas}
use Rattle.server_commands.specs.declared.answer.Answer.TheVariants as a
use Rattle.server_commands.specs.Sent.{Sent, Items, Rows, array_of, rows_of, map_of, item_list, row_list, sent, sent_row}
use Rattle.server_commands.specs.Sent.{item_count, row_count, rows_head, row_head, sent_bytes, items_bytes, rows_bytes}
use Rattle.server_commands.specs.Sent.{turns_bytes, one_line, refused_bytes, outcome_bytes}

-- ---- errors

same_if_inner : (b : ℕ) → is_inner b ≡ true → blank_end b ≡ b
same_if_inner b e = rw e refl

one_line_same : (text : List ℕ) → list_all is_inner text ≡ true → one_line text ≡ text
one_line_same [] e = refl
one_line_same (b ∷ text) e = by (one_line_same text) (is_inner b) refl e
  where
    by : (list_all is_inner text ≡ true → one_line text ≡ text) → (c : Bool) → is_inner b ≡ c
        → (c && list_all is_inner text) ≡ true → one_line (b ∷ text) ≡ b ∷ text
    by same true first rest = rw (same_if_inner b first, same rest) refl
    by same false first rest = grind arith

pub error_is_one_line : (text : List ℕ) → error_bytes Resp2 text ≡ refused_bytes text
unfolding error_bytes
error_is_one_line text = by (list_all is_inner text) refl
  where
    by : (c : Bool) → list_all is_inner text ≡ c → error_bytes Resp2 text ≡ refused_bytes text
    by true e = rw (e, one_line_same text e) refl
    by false e = rw e refl

-- ---- counts

item_count_is : (xs : List Sent) → item_count (item_list xs) ≡ length xs
item_count_is [] = refl
item_count_is (x ∷ xs) = let e = item_count_is xs in omega (arith, e)

row_count_is : (rs : List (Vec ℕ Global × Sent)) → row_count (row_list rs) ≡ length rs
row_count_is [] = refl
row_count_is (r ∷ rs) = let e = row_count_is rs in omega (arith, e)

count_items : (xs : List Answer) (n : ℕ) → n ≡ length xs → n ≡ item_count (item_list (map sent xs))
count_items xs n len = len ∙ sym (length-map xs sent) ∙ sym (item_count_is (map sent xs))

count_rows : (rs : List (Vec ℕ Global × Answer)) (n : ℕ) → n ≡ length rs → n ≡ row_count (row_list (map sent_row rs))
count_rows rs n len = len ∙ sym (length-map rs sent_row) ∙ sym (row_count_is (map sent_row rs))

-- -- one more after others

pub items_push : (p : Protocol) (xs : List Sent) (x : Sent)
    → items_bytes p (item_list (xs ++ x ∷ [])) ≡ items_bytes p (item_list xs) ++ sent_bytes p x
items_push p [] x = append-nil (sent_bytes p x)
items_push p (y ∷ xs) x = ap (λ (z : List ℕ). sent_bytes p y ++ z) (items_push p xs x)
    ∙ sym (append_assoc (sent_bytes p y) (items_bytes p (item_list xs)) (sent_bytes p x))

pub rows_push : (p : Protocol) (rs : List (Vec ℕ Global × Sent)) (r : Vec ℕ Global × Sent)
    → rows_bytes p (row_list (rs ++ r ∷ []))
    ≡ rows_bytes p (row_list rs) ++ (row_head p ++ (bulk_bytes r.0.items ++ sent_bytes p r.1))
rows_push p [] r = append-nil (row_head p ++ (bulk_bytes r.0.items ++ sent_bytes p r.1))
rows_push p (s ∷ rs) r =
    let first = row_head p ++ (bulk_bytes s.0.items ++ sent_bytes p s.1) in
    ap (λ (z : List ℕ). first ++ z) (rows_push p rs r)
    ∙ sym (append_assoc first (rows_bytes p (row_list rs)) (row_head p ++ (bulk_bytes r.0.items ++ sent_bytes p r.1)))

pub turns_push : (p : Protocol) (rs : List (Vec ℕ Global × Sent)) (r : Vec ℕ Global × Sent)
    → turns_bytes p (row_list (rs ++ r ∷ []))
    ≡ turns_bytes p (row_list rs) ++ (bulk_bytes r.0.items ++ sent_bytes p r.1)
turns_push p [] r = append-nil (bulk_bytes r.0.items ++ sent_bytes p r.1)
turns_push p (s ∷ rs) r =
    let first = bulk_bytes s.0.items ++ sent_bytes p s.1 in
    ap (λ (z : List ℕ). first ++ z) (turns_push p rs r)
    ∙ sym (append_assoc first (turns_bytes p (row_list rs)) (bulk_bytes r.0.items ++ sent_bytes p r.1))

-- -- a count, and the bytes after it

sent-Array : (v : Vec Answer Global) → sent (a.Array v) ≡ array_of (item_list (map sent v.items))
sent-Array v = search (rules, the_lemmas)

sent-Rows : (v : Vec (Vec ℕ Global × Answer) Global) → sent (a.Rows v) ≡ rows_of (row_list (map sent_row v.items))
sent-Rows v = search (rules, the_lemmas)

sent-Map : (v : Vec (Vec ℕ Global × Answer) Global) → sent (a.Map v) ≡ map_of (row_list (map sent_row v.items))
sent-Map v = search (rules, the_lemmas)

module _ (p : Protocol) (x : Answer) (n : ℕ) where
  pub array_is : (v : Vec Answer Global) → x ≡ a.Array v → n ≡ length v.items
      → count_bytes 42 n ++ items_bytes p (item_list (map sent v.items)) ≡ sent_bytes p (sent x)
  array_is v is len =
      ap (λ (m : ℕ). count_bytes 42 m ++ items_bytes p (item_list (map sent v.items))) (count_items v.items n len)
      ∙ ap (sent_bytes p) (sym (sent-Array v)) ∙ ap (λ (y : Answer). sent_bytes p (sent y)) (sym is)

  pub rows_is : (v : Vec (Vec ℕ Global × Answer) Global) → x ≡ a.Rows v → n ≡ length v.items
      → rows_head p n ++ rows_bytes p (row_list (map sent_row v.items)) ≡ sent_bytes p (sent x)
  rows_is v is len =
      ap (λ (m : ℕ). rows_head p m ++ rows_bytes p (row_list (map sent_row v.items))) (count_rows v.items n len)
      ∙ ap (sent_bytes p) (sym (sent-Rows v)) ∙ ap (λ (y : Answer). sent_bytes p (sent y)) (sym is)

  pub map_is : (v : Vec (Vec ℕ Global × Answer) Global) → x ≡ a.Map v → n ≡ length v.items
      → map_head p n ++ turns_bytes p (row_list (map sent_row v.items)) ≡ sent_bytes p (sent x)
  map_is v is len =
      ap (λ (m : ℕ). map_head p m ++ turns_bytes p (row_list (map sent_row v.items))) (count_rows v.items n len)
      ∙ ap (sent_bytes p) (sym (sent-Map v)) ∙ ap (λ (y : Answer). sent_bytes p (sent y)) (sym is)
