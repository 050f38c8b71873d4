-- What stands where the line of a known id begins.
use Rattle.std.proofs.Common.{◌≡◌, ◌≢◌, ◌∙◌, ◌≤◌, ◌<◌, ◌+◌, ◌-◌, inl, inr, refl, sym, ap, arith, ℕ, zero, suc, Bool, true, false}
use Rattle.std.proofs.Common.{List, [], ◌∷◌, ◌++◌, length, take, drop, append_assoc, codes, Option, Some, None, IfSome, if◌then◌else◌, Result, Ok, Err, OnOk, IfErr, subst}
use Rattle.std.proofs.Math.Logic.{∥∥₁_elim}
use Rattle.std.proofs.Props.{props}
use Rattle.std.specs.Prelude.{◌==◌, ◌&&◌}
use Rattle.std.specs.Str.{bytes_eq}
use Rattle.std.proofs.lemmas.Bool.{and_parts, cases_eq, true≢false}
use Rattle.std.proofs.lemmas.Bool.Decides.{nat_tests}
use Rattle.std.proofs.lemmas.List.{take-append-drop}
use Rattle.std.proofs.lemmas.Slice.Eq.{bytes_eq-Decides}
use Rattle.worker_journal.specs.Holds.{Holds, IsHeld, committed_in}
use Rattle.worker_journal.specs.Lines.{HasLine, HasNoEnd}
use Rattle.worker_journal.proofs.LastLinesLemmas.{piece_of}
use Rattle.worker_journal.specs.KnownIds.Known.{Place, knows, places_in}
use Rattle.worker_journal.specs.KnownIds.Told.{begins}
use Rattle.worker_journal.specs.declared.known_ids.known.KnownIds.{KnownIds}
use Rattle.worker_journal.specs.EntryLine.{Entry}
use Rattle.model_server.specs.Group.Worker.{Id}
use Rattle.stream_drain.specs.Known.{is_known, known_by}
use Rattle.stream_drain.specs.Line.{line_in}
use Rattle.stream_drain.specs.There.{Explains, HasItsLine, OfAll, Says, Stands, begun, ends, ends_text, found_in, has_id, has_line, there}
use Rattle.stream_drain.specs.declared.lines.Fault.{Fault}
use Rattle.stream_drain.specs.declared.there.There.{There}
use Rattle.stream_drain.specs.declared.there.There.TheVariants.{Same, Other, Neither}
use Rattle.stream_drain.proofs.LinesLemmas.{one_line}

-- ---- the first bytes of a text

none_taken : (n : ℕ) → take {A = ℕ} n [] ≡ []
none_taken zero = refl
none_taken (suc n) = refl

drop_take : (k m : ℕ) (xs : List ℕ) → drop k (take m xs) ≡ take (m - k) (drop k xs)
drop_take zero m xs = let all : m - 0 ≡ m = omega arith in ap (λ (n : ℕ). take n xs) (sym all)
drop_take (suc k) zero xs = let none : 0 - suc k ≡ 0 = omega arith in ap (λ (n : ℕ). take n (drop (suc k) xs)) (sym none)
drop_take (suc k) (suc m) [] = sym (none_taken (suc m - suc k))
drop_take (suc k) (suc m) (x ∷ xs) =
    let less : suc m - suc k ≡ m - k = omega arith in
    drop_take k m xs ∙ ap (λ (n : ℕ). take n (drop k xs)) (sym less)

begins_front : (head text : List ℕ) (m : ℕ) → length head ≤ m → begins head (take m text) ≡ begins head text
begins_front head text m le = ap (λ (xs : List ℕ). bytes_eq xs head) (piece_of m 0 (length head) text (omega (arith, le)))

ends_front : (m : ℕ) (text : List ℕ) → 0 < m → ends (take m text) ≡ ends text
ends_front zero text lt = absurd (omega (arith, lt))
ends_front (suc m) [] lt = refl
ends_front (suc m) (x ∷ xs) lt = refl

ends_text_front : (m : ℕ) (text : List ℕ) → 0 < m → ends_text (take m text) ≡ ends_text text
ends_text_front zero text lt = absurd (omega (arith, lt))
ends_text_front (suc m) [] lt = refl
ends_text_front (suc m) (x ∷ xs) lt = refl

has_line_front : (line text : List ℕ) (m : ℕ) → length line < m → has_line line (take m text) ≡ has_line line text
has_line_front line text m lt =
    let n = length line in
    ap (λ (b : Bool). b && ends (drop n (take m text))) (begins_front line text m (omega (arith, lt)))
    ∙ ap (λ (b : Bool). begins line text && b)
    (ap ends (drop_take n m text) ∙ ends_front (m - n) (drop n text) (omega (arith, lt)))

has_id_front : (json : Bool) (id text : List ℕ) (m : ℕ) → length id + 19 ≤ m → has_id json id (take m text) ≡ has_id json id text
has_id_front true id text m le =
    let n = length id in
    let head = codes "{\"id\":\"" in
    let next = codes "\",\"fields\":[" in
    let first : drop 7 (take m text) ≡ take (m - 7) (drop 7 text) = drop_take 7 m text in
    let second : drop n (drop 7 (take m text)) ≡ take (m - 7 - n) (drop n (drop 7 text)) =
    ap (drop n) first ∙ drop_take n (m - 7) (drop 7 text) in
    ap (λ (b : Bool). b && (begins id (drop 7 (take m text)) && begins next (drop n (drop 7 (take m text)))))
    (begins_front head text m (omega (arith, le)))
    ∙ (ap (λ (b : Bool). begins head text && (b && begins next (drop n (drop 7 (take m text)))))
    (ap (begins id) first ∙ begins_front id (drop 7 text) (m - 7) (omega (arith, le)))
    ∙ ap (λ (b : Bool). begins head text && (begins id (drop 7 text) && b))
    (ap (begins next) second ∙ begins_front next (drop n (drop 7 text)) (m - 7 - n) (omega (arith, le))))
has_id_front false id text m le =
    let n = length id in
    ap (λ (b : Bool). b && ends_text (drop n (take m text))) (begins_front id text m (omega (arith, le)))
    ∙ ap (λ (b : Bool). begins id text && b)
    (ap ends_text (drop_take n m text) ∙ ends_text_front (m - n) (drop n text) (omega (arith, le)))

-- so many of them decide what is found
some_front : (json : Bool) (id : Id) (line text : List ℕ) (m : ℕ) → length line < m → length id + 19 ≤ m
    → found_in json id line (Some (take m text)) ≡ found_in json id line (Some text)
some_front json id line text m lt le =
    ap (λ (b : Bool). let r : There = if b then Same else if has_id json id (take m text) then Other else Neither in r)
    (has_line_front line text m lt)
    ∙ ap (λ (b : Bool). let r : There = if has_line line text then Same else if b then Other else Neither in r)
    (has_id_front json id text m le)

pub front : (json : Bool) (id : Id) (line : List ℕ) (at len : ℕ) (xs : List ℕ) → length line + 2 ≤ len → length id + 21 ≤ len
    → found_in json id line (begun at (take len xs)) ≡ found_in json id line (begun at xs)
front json id line zero len xs le fits = some_front json id line xs len (omega (arith, le)) (omega (arith, fits))
front json id line (suc k) zero xs le fits = absurd (omega (arith, le))
front json id line (suc k) (suc m) [] le fits = refl
front json id line (suc k) (suc m) (b ∷ rest) le fits = by (b == 10)
  where
    by : (c : Bool) → found_in json id line (if c then Some (take m rest) else None)
        ≡ found_in json id line (if c then Some rest else None)
    by true = some_front json id line rest m (omega (arith, le)) (omega (arith, fits))
    by false = refl

-- what the bytes that were read show
pub read_shows : (committed : Option (List ℕ)) (size : ℕ) (batch read : List ℕ) (json : Bool) (id : Id) (line : List ℕ)
    (at from len : ℕ) (found : There) → from ≡ at - 1 → length line + 2 ≤ len → length id + 21 ≤ len
    → found ≡ found_in json id line (begun at read)
    → IfSome committed (λ bytes. size ≡ length bytes → read ≡ take len (drop from (bytes ++ batch)))
    → OfAll committed size batch (λ bytes. found ≡ there json id line bytes at)
read_shows None size batch read json id line at from len found is le fits found_is stands = tt
read_shows (Some bytes) size batch read json id line at from len found is le fits found_is stands = λ whole.
    found_is ∙ (ap (λ (xs : List ℕ). found_in json id line (begun at xs))
    (stands whole ∙ ap (λ (k : ℕ). take len (drop k (bytes ++ batch))) is)
    ∙ front json id line at len (drop (at - 1) (bytes ++ batch)) le fits)

-- ---- the line of an entry that is there

same_text : (json : Bool) (id : Id) (line : List ℕ) (o : Option (List ℕ)) → found_in json id line o ≡ Same
    → (text : List ℕ) × (o ≡ Some text) × (has_line line text ≡ true)
same_text json id line None is = absurd (cc is)
same_text json id line (Some text) is = by (has_line line text) (has_id json id text) refl is
  where
    by : (p q : Bool) → has_line line text ≡ p
        → (let r : There = if p then Same else if q then Other else Neither in r) ≡ Same
        → (other : List ℕ) × (Some text ≡ Some other) × (has_line line other ≡ true)
    by true q holds is = (text, refl, holds)
    by false true holds is = absurd (cc is)
    by false false holds is = absurd (cc is)

ended : (text : List ℕ) → ends text ≡ true → (rest : List ℕ) × (text ≡ 10 ∷ rest)
ended [] is = absurd (true≢false (sym is))
ended (b ∷ rest) is = elim (cases_eq b 10) [
  | inl same ↦ (rest, ap (λ (x : ℕ). x ∷ rest) same)
  | inr other ↦ let no : ends (b ∷ rest) ≡ false = grind (arith, nat_tests, other) in absurd (true≢false (sym is ∙ no))
]

line_split : (line text : List ℕ) → has_line line text ≡ true → (rest : List ℕ) × (text ≡ line ++ 10 ∷ rest)
line_split line text is =
    let parts = and_parts (begins line text) (ends (drop (length line) text)) is in
    let end = ended (drop (length line) text) parts.1 in
    let first : take (length line) text ≡ line = (bytes_eq-Decides (take (length line) text) line).0 parts.0 in (
      end.0,
      sym (take-append-drop (length line) text) ∙ (ap (λ (xs : List ℕ). xs ++ drop (length line) text) first
          ∙ ap (λ (xs : List ℕ). line ++ xs) end.1),
    )

some_is : (a b : List ℕ) → Some a ≡ Some b → a ≡ b
some_is a b same = cc same

line_there : (line bytes text : List ℕ) (at : ℕ) → HasNoEnd line → begun at (drop (at - 1) bytes) ≡ Some text
    → has_line line text ≡ true → HasLine line bytes
line_there line bytes text zero none begins_here is =
    let split = line_split line text is in
    record {
      before = [];
      rest = split.0;
      split = some_is bytes text begins_here ∙ split.1;
      whole = inl refl;
      one_line = none;
    }
line_there line bytes text (suc k) none begins_here is =
    by (drop k bytes) refl (ap (λ (n : ℕ). begun (suc k) (drop n bytes)) back ∙ begins_here)
  where
    back : k ≡ suc k - 1
    back = omega arith

    by : (xs : List ℕ) → drop k bytes ≡ xs → begun (suc k) xs ≡ Some text → HasLine line bytes
    by [] there_is gives = absurd (cc gives)
    by (b ∷ rest) there_is gives = elim (cases_eq b 10) [
      | inl end ↦
          let split = line_split line text is in
          let after : rest ≡ text = some_is rest text (one b end gives) in
          record {
            before = take k bytes ++ 10 ∷ [];
            rest = split.0;
            split = sym (take-append-drop k bytes) ∙ (ap (λ (xs : List ℕ). take k bytes ++ xs) there_is
                ∙ (ap (λ (x : ℕ). take k bytes ++ x ∷ rest) end
                ∙ (ap (λ (xs : List ℕ). take k bytes ++ 10 ∷ xs) (after ∙ split.1)
                ∙ sym (append_assoc (take k bytes) (10 ∷ []) (line ++ 10 ∷ split.0)))));
            whole = inr (take k bytes, refl);
            one_line = none;
          }
      | inr other ↦ absurd (never b rest other gives)
    ]
      where
        one : (x : ℕ) → x ≡ 10 → begun (suc k) (x ∷ rest) ≡ Some text → Some rest ≡ Some text
        one x same holds = sym (ap (λ (y : ℕ). begun (suc k) (y ∷ rest)) same) ∙ holds

        never : (x : ℕ) (ys : List ℕ) → x ≢ 10 → begun (suc k) (x ∷ ys) ≡ Some text → ⊥
        never x ys differs holds =
            let no : begun (suc k) (x ∷ ys) ≡ None = grind (arith, nat_tests, differs) in
            let wrong : None ≡ Some text = sym no ∙ holds in cc wrong

pub it_is_there : (json : Bool) (id : Id) (line bytes : List ℕ) (at : ℕ) → HasNoEnd line → there json id line bytes at ≡ Same
    → HasLine line bytes
it_is_there json id line bytes at none is =
    let found = same_text json id line (begun at (drop (at - 1) bytes)) is in
    line_there line bytes found.0 at none found.1 found.2

-- ---- what is committed

pub held_len : {D : Type 0} (seen : D → Option (List ℕ)) (may_leave : D → List ℕ → Type 0) (is_sound : D → Type 0) (file : D)
    (len : ℕ) (is_broken : Bool) → ∥ IsHeld seen may_leave is_sound file len is_broken ∥₁
    → IfSome (committed_in (seen file) len) (λ bytes. len ≡ length bytes)
held_len seen may_leave is_sound file len is_broken = by (committed_in (seen file) len)
  where
    by : (o : Option (List ℕ)) → ∥ IfSome o (λ lines. Holds seen may_leave is_sound lines file len is_broken) ∥₁
        → IfSome o (λ bytes. len ≡ length bytes)
    by None held = tt
    by (Some bytes) held = ∥∥₁_elim held (search props) (λ h. h.committed)

pub of_all : (committed : Option (List ℕ)) (len : ℕ) (batch : List ℕ) (P : List ℕ → Type 0)
    → IfSome committed (λ bytes. len ≡ length bytes) → OfAll committed len batch P → IfSome committed (λ bytes. P (bytes ++ batch))
of_all None len batch P is all = tt
of_all (Some bytes) len batch P is all = all is

-- ---- an entry whose id is known

pub its_line : (json : Bool) (e : Entry) (places : List Place) (committed : Option (List ℕ)) (len : ℕ) (batch : List ℕ)
    → IfSome committed (λ bytes. len ≡ length bytes) → OfAll committed len batch (Stands Same json e places)
    → HasItsLine json e committed batch
its_line json e places None len batch is all = tt
its_line json e places (Some bytes) len batch is all =
    let s = all is in it_is_there json e.0 (line_in json e) (bytes ++ batch) s.1 (one_line json e) s.4

pub still_held : {D : Type 0} (seen : D → Option (List ℕ)) (may_leave : D → List ℕ → Type 0) (is_sound : D → Type 0)
    (old new : D) (len now : ℕ) (is_broken : Bool) → new ≡ old → now ≡ len
    → ∥ IsHeld seen may_leave is_sound old len is_broken ∥₁
    → IfSome (committed_in (seen new) now) (λ bytes. now ≡ length bytes)
still_held {D = D} seen may_leave is_sound old new len now is_broken file_same len_same held =
    subst (λ (f : D). IfSome (committed_in (seen f) now) (λ bytes. now ≡ length bytes)) (sym file_same)
    (subst (λ (n : ℕ). IfSome (committed_in (seen old) n) (λ bytes. n ≡ length bytes)) (sym len_same)
    (held_len seen may_leave is_sound old len is_broken held))

pub taken : (known : Option KnownIds) (ids : KnownIds) (json : Bool) (e : Entry) (committed : Option (List ℕ)) (len : ℕ)
    (batch : List ℕ) → known ≡ Some ids → IfSome committed (λ bytes. len ≡ length bytes)
    → (knows (places_in ids.ids.items) e.0 ≡ true → OfAll committed len batch (Stands Same json e (places_in ids.ids.items)))
    → is_known (known_by known) e.0 ≡ true → HasItsLine json e committed batch
taken known ids json e committed len batch is whole there known_is =
    its_line json e (places_in ids.ids.items) committed len batch whole
    (there (subst (λ (o : Option KnownIds). is_known (known_by o) e.0 ≡ true) is known_is))

pub explained : (known : Option KnownIds) (ids : KnownIds) (json : Bool) (e : Entry) (committed : Option (List ℕ)) (len : ℕ)
    (batch : List ℕ) → known ≡ Some ids → IfSome committed (λ bytes. len ≡ length bytes) → (fault : Fault)
    → OfAll committed len batch (Says fault json e (places_in ids.ids.items)) → Explains fault json e known committed batch
explained known ids json e committed len batch is whole fault says =
    subst (λ (o : Option KnownIds). Explains fault json e o committed batch) (sym is)
    (of_all committed len batch (Says fault json e (places_in ids.ids.items)) whole says)

pub on_ok : {A E : Type 0} (r : Result A E) {P Q : Type 0} → (P → Q) → OnOk r P → OnOk r Q
on_ok (Ok a) f p = f p
on_ok (Err e) f p = tt

pub if_err : {A E : Type 0} (r : Result A E) {P Q : E → Type 0} → ((e : E) → P e → Q e) → IfErr r P → IfErr r Q
if_err (Ok a) f p = tt
if_err (Err e) f p = f e p
