-- Lemmas on entries that are given up.
use Rattle.std.proofs.Common.{◌≡◌, ◌<◌, ◌-◌, ◌∙◌, refl, sym, ap, subst, arith, inl, inr, true, suc, ℕ, List, [], ◌∷◌, ◌++◌}
use Rattle.std.proofs.Common.{map, flat_map, length, get_or, take, drop, append_assoc, ◌+◌, Result, Ok, Err, OnErr, OnOk}
use Rattle.std.proofs.Common.{Option, Some, None, String, Vec, string_bytes}
use Rattle.std.proofs.lemmas.List.{take_more, take-append-drop}
use Rattle.std.specs.declared.alloc.Global.{Global}
use Rattle.redis_args.specs.declared.raw_bytes.RawBytes.{RawBytes}
use Rattle.redis_connection.specs.Ask.{Asks}
use Rattle.redis_connection.specs.Link.{Link, Sends, SendsFront}
use Rattle.redis_connection.specs.Passing.{AwaitsAnswer, ReceivesAnswer}
use Rattle.redis_wire.specs.Packed.{command_bytes}
use Rattle.redis_wire.specs.Reply.{Answer}
use Rattle.worker.specs.Letters.{Entry}
use Rattle.worker.specs.Letters.{Fields}
use Rattle.redis_resp.specs.Value.{tree}
use Rattle.redis_resp.specs.declared.value.Value.{Value}
use Rattle.worker.specs.DeadLetters.Dead.{pending_of, row_of}
use Rattle.worker.specs.DeadLetters.Dead.{Goes, DeliversSome, Row, rows_of, rows_reading, Claimer, claim_words, BreaksOff}
use Rattle.worker.specs.DeadLetters.Dead.{PostedFields, Posted, PostsAll, PostsSome, GivesUpSome, none_waits}
use Rattle.worker.specs.declared.dead_letters.search.Waiting.{Waiting}
use Rattle.worker.specs.Letters.{Names, words_of}
use Rattle.worker.specs.Letters.{Desk, after_letter, letter_asks, letter_bytes, letter_sentence, serves}
use Rattle.worker.specs.declared.letters.LetterAsked.{LetterAsked}

-- a list has its last item at its end
pub last_split : {A : Type 0} (xs : List A) (x : A) → 0 < length xs → x ≡ get_or xs (length xs - 1) x
    → (before : List A) × (xs ≡ before ++ x ∷ [])
last_split [] x l e = absurd (omega arith)
last_split (y ∷ []) x l e = ([], ap (λ z. z ∷ []) (sym e))
last_split (y ∷ z ∷ zs) x l e =
    let n : length (y ∷ z ∷ zs) - 1 ≡ suc (length (z ∷ zs) - 1) = omega arith in
    let rest = last_split (z ∷ zs) x (omega arith) (e ∙ ap (λ k. get_or (y ∷ z ∷ zs) k x) n) in
    (y ∷ rest.0, ap (λ ws. y ∷ ws) rest.1)

-- once more it asked, and an answer that serves came
pub goes_on : (names names' : Names) (n : ℕ) (old m between new : Link) (desk d d1 d' : Desk) (bytes : List ℕ) (a : Answer)
    (asked : LetterAsked) → Goes names n old desk m d → names' ≡ names → bytes ≡ letter_bytes names' d
    → Sends m between bytes → ReceivesAnswer between new a → asked ≡ letter_asks d → serves asked a ≡ true → d1 ≡ d
    → d' ≡ after_letter asked d1 → (k : ℕ) × Goes names k old desk new d'
goes_on names names' n old m between new desk d d1 d' bytes a asked goes same are sends receives asks serve d1_is d'_is = (
  suc n,
  (
    m,
    d,
    a,
    goes,
    record {
      between = between;
      sends = subst (λ x. Sends m between x) (are ∙ ap (λ x. letter_bytes x d) same) sends;
      receives = receives;
    },
    subst (λ q. serves q a ≡ true) asks serve,
    d'_is ∙ ap (λ q. after_letter q d1) asks ∙ ap (λ x. after_letter (letter_asks d) x) d1_is,
  ),
)

-- the next command was not sent whole
pub breaks_off : (names names' : Names) (n : ℕ) (old m new : Link) (desk d d1 : Desk) (bytes : List ℕ)
    → Goes names n old desk m d → names' ≡ names → bytes ≡ letter_bytes names' d → SendsFront m new bytes → d1 ≡ d
    → DeliversSome names old desk new d1
breaks_off names names' n old m new desk d d1 bytes goes same are sends d1_is =
    subst (λ x. DeliversSome names old desk new x) (sym d1_is)
    (n, m, goes, inr (inl (inl (subst (λ x. SendsFront m new x) (are ∙ ap (λ x. letter_bytes x d) same) sends))))

-- no reply came to it
pub waits_on : (names names' : Names) (n : ℕ) (old m between new : Link) (desk d d1 : Desk) (bytes : List ℕ)
    → Goes names n old desk m d → names' ≡ names → bytes ≡ letter_bytes names' d → Sends m between bytes
    → AwaitsAnswer between new → d1 ≡ d → DeliversSome names old desk new d1
waits_on names names' n old m between new desk d d1 bytes goes same are sends waits d1_is =
    subst (λ x. DeliversSome names old desk new x) (sym d1_is) (
      n,
      m,
      goes,
      inr (inl (inr (
        between,
        subst (λ x. Sends m between x) (are ∙ ap (λ x. letter_bytes x d) same) sends,
        waits,
      ))),
    )

pub on_ok : {A E P : Type 0} (r : Result A E) → P → OnOk r P
on_ok (Ok x) p = p
on_ok (Err e) p = tt

pub on_err : {A E P : Type 0} (r : Result A E) → P → OnErr r P
on_err (Ok x) p = tt
on_err (Err e) p = p

-- ---- what is posted

words_pairs : {P : Type 0} (f g : P → List ℕ) (ps : List P)
    → words_of (map (λ q. (f q, g q)) ps) ≡ flat_map (λ q. f q ∷ g q ∷ []) ps
words_pairs f g [] = refl
words_pairs f g (p ∷ ps) = ap (λ r. f p ∷ g p ∷ r) (words_pairs f g ps)

-- an entry with these pairs, of which there is one at least
pub posted_pairs : {P : Type 0} (f g : P → List ℕ) (dead : List ℕ) (w : Waiting) (p : P) (ps items : List P)
    (texts : List (List ℕ)) (id : List ℕ) (old new : Desk) → p ∷ ps ≡ items
    → flat_map (λ q. f q ∷ g q ∷ []) items ≡ texts → id ≡ string_bytes w.id
    → new ≡ record old {
      waiting = old.waiting ++ (
        id,
        command_bytes
            (letter_sentence dead w.reason.items id w.deliveries (f p ∷ g p ∷ flat_map (λ q. f q ∷ g q ∷ []) ps)),
      ) ∷ [];
    }
    → PostedFields dead w texts old new
posted_pairs f g dead w p ps items texts id old new all are id_is waits =
    let fields : Fields = map (λ q. (f q, g q)) (p ∷ ps) in
    let with_words : List ℕ → List (List ℕ) → Desk = λ i ws. record old {
      waiting = old.waiting ++ (i, command_bytes (letter_sentence dead w.reason.items i w.deliveries ws)) ∷ [];
    } in
    let words : words_of fields ≡ flat_map (λ q. f q ∷ g q ∷ []) (p ∷ ps) = words_pairs f g (p ∷ ps) in
    inl (
      fields,
      sym are ∙ ap (λ xs. flat_map (λ q. f q ∷ g q ∷ []) xs) (sym all) ∙ sym words,
      λ none. absurd (let z : (f p, g p) ∷ map (λ q. (f q, g q)) ps ≡ [] = none in cc),
      waits ∙ ap (λ i. with_words i (flat_map (λ q. f q ∷ g q ∷ []) (p ∷ ps))) id_is
          ∙ ap (λ ws. with_words (string_bytes w.id) ws) (sym words),
    )

no_words : (fields : Fields) → words_of fields ≡ [] → fields ≡ []
no_words [] q = refl
no_words (f ∷ fields) q = absurd (let z : f.0 ∷ f.1 ∷ words_of fields ≡ [] = q in cc)

abbrev texts_in : List Row → List (List ℕ)
texts_in [] = []
texts_in (None ∷ rows) = []
texts_in (Some row ∷ rows) = row.1

-- the one row that came
pub posted_row : (dead : List ℕ) (w : Waiting) (rows : List (Option (String Global × Vec RawBytes Global)))
    (row : String Global × Vec RawBytes Global) (old new : Desk) → rows ≡ Some row ∷ []
    → string_bytes row.0 ≡ string_bytes w.id
    → PostedFields dead w (map (λ (text : RawBytes). text.0.items) row.1.items) old new
    → Posted dead w (rows_of rows) old new
posted_row dead w rows row old new one id (inl f) =
    let texts : List (List ℕ) = map (λ (text : RawBytes). text.0.items) row.1.items in
    inl (
      (string_bytes w.id, f.0),
      record {
        just = ap rows_of one ∙ ap (λ i. let r : List Row = Some (i, texts) ∷ [] in r) id
            ∙ ap (λ ts. let r : List Row = Some (string_bytes w.id, ts) ∷ [] in r) f.1;
        claimed = refl;
        fields = f.2;
        waits = f.3;
      },
    )
posted_row dead w rows row old new one id (inr f) =
    inr (record {
      none = λ e h. no_words e.1 (ap texts_in (sym h ∙ ap rows_of one) ∙ f.0);
      waits = f.1;
    })

-- one more was claimed and posted
pub posts_on : (c : Claimer) (dead : List ℕ) (ws : List Waiting) (w : Waiting) (es : List Entry) (rows : List Row)
    (old m new : Link) (desk d d' : Desk) → PostsAll c dead ws es old desk m d
    → Asks m new (claim_words c (string_bytes w.id)) rows_reading rows → Posted dead w rows d d'
    → (more : List Entry) × PostsAll c dead (ws ++ w ∷ []) more old desk new d'
posts_on c dead [] w es rows old m new desk d d' p asks posted =
    let here : Asks old new (claim_words c (string_bytes w.id)) rows_reading rows =
    subst (λ l. Asks l new (claim_words c (string_bytes w.id)) rows_reading rows) p.1 asks in
    let this : Posted dead w rows desk d' = subst (λ x. Posted dead w rows x d') p.2 posted in
    elim this [
      | inl q ↦ (q.0 ∷ [], (new, d', rows, here, inl (q.0, [], refl, q.1, (refl, refl, refl))))
      | inr q ↦ ([], (new, d', rows, here, inr (q, (refl, refl, refl))))
    ]
posts_on c dead (x ∷ ws) w es rows old m new desk d d' p asks posted =
    elim p.4 [
      | inl q ↦
          (let rest = posts_on c dead ws w q.1 rows p.0 m new p.1 d d' q.4 asks posted in
          (q.0 ∷ rest.0, (p.0, p.1, p.2, p.3, inl (q.0, rest.0, refl, q.3, rest.1))))
      | inr q ↦
          (let rest = posts_on c dead ws w es rows p.0 m new p.1 d d' q.1 asks posted in
          (rest.0, (p.0, p.1, p.2, p.3, inr (q.0, rest.1))))
    ]

-- its claim broke off, or it was not posted
pub posts_break : (c : Claimer) (dead : List ℕ) (ws : List Waiting) (k : ℕ) (w : Waiting) (es : List Entry)
    (old m new : Link) (desk d d' : Desk) → k < length ws → get_or ws k w ≡ w → PostsAll c dead (take k ws) es old desk m d
    → BreaksOff (claim_words c (string_bytes w.id)) m new → d' ≡ d → PostsSome c dead ws old desk new d'
posts_break c dead ws k w es old m new desk d d' within is p breaks same = record {
  before = take k ws;
  next = w;
  rest = drop (k + 1) ws;
  front = sym (take-append-drop (k + 1) ws)
      ∙ ap (λ xs. xs ++ drop (k + 1) ws) (take_more ws k w within ∙ ap (λ x. take k ws ++ x ∷ []) is)
      ∙ append_assoc (take k ws) (w ∷ []) (drop (k + 1) ws);
  es = es;
  between = m;
  posts = subst (λ x. PostsAll c dead (take k ws) es old desk m x) (sym same) p;
  breaks = breaks;
}

pub ok_too : {A E P Q : Type 0} (r : Result A E) → OnOk r P → (P → Q) → OnOk r Q
ok_too (Ok x) p f = f p
ok_too (Err e) p f = tt

pub err_too : {A E P Q : Type 0} (r : Result A E) → OnErr r P → (P → Q) → OnErr r Q
err_too (Ok x) p f = tt
err_too (Err e) p f = f p

-- letters were delivered as far as it came
pub delivered_some : (c : Claimer) (names desks at_last : Names) (ws : List Waiting) (es : List Entry) (old m new : Link)
    (first d d' : Desk) → desks ≡ names → first ≡ none_waits → at_last ≡ desks → PostsAll c desks.2 ws es old first m d
    → DeliversSome at_last m d new d' → GivesUpSome c names ws old new
delivered_some c names desks at_last ws es old m new first d d' same none still posts some =
    inr (inr (
      es,
      m,
      d,
      d',
      subst (λ (n : Names). PostsAll c n.2 ws es old none_waits m d) same
          (subst (λ x. PostsAll c desks.2 ws es old x m d) none posts),
      subst (λ (n : Names). DeliversSome n m d new d') (still ∙ same) some,
    ))

-- ---- a page that was read

-- the entries of decoded rows are those of the rows
pub rows_are : (rows : List (String Global × Value × Value × ℕ))
    → map row_of rows ≡ map pending_of (map (λ r. (string_bytes r.0, tree r.1, tree r.2, r.3)) rows)
rows_are [] = refl
rows_are (r ∷ rows) = ap (λ xs. row_of r ∷ xs) (rows_are rows)
