-- Words that are ids.
use Rattle.std.proofs.Common.{◌≡◌, ◌≤◌, ◌<◌, ◌^◌, ◌+◌, ℕ, zero, suc, List, [], ◌∷◌, ◌++◌, length, take, drop, decimal, get_or, Bool, true, false, refl, sym, ap, ◌∙◌, arith, Result, Ok, Err}
use Rattle.std.specs.Prelude.{IfErr}
use Rattle.std.specs.List.{AllByRecursion, prefix_len}
use Rattle.std.specs.Int.{IsInRange}
use Rattle.std.proofs.lemmas.Bool.Decides.{nat_tests}
use Rattle.std.proofs.Common.{append_assoc, length-append}
use Rattle.std.proofs.lemmas.Fmt.{decimal_nonempty, digits_decimal, length-decimal-le}
use Rattle.std.proofs.lemmas.Str.Parse.{IsDigitsTest, numerals_by_value}
use Rattle.server_store.specs.EntryId.{id_text}
use Rattle.server_store.specs.declared.entry_id.EntryId.{EntryId}
use Rattle.std.specs.Global.{Vec}
use Rattle.std.proofs.Common.{subst, ◌-◌}
use Rattle.std.proofs.lemmas.List.{length-drop, take_all, take_more, get_or-map, length-map}
use Rattle.server_commands.specs.IdWords.{AreFit, AreRead, Fits, IsRead, IsRefusedFor, is_of_part, texts_of, words_of_ids}
use Rattle.std.specs.Result.{IsErrAnd}
use Rattle.server_commands.specs.declared.refusal.Refusal.{Refusal}
use Rattle.server_commands.specs.declared.refusal.Refusal.TheVariants.{Memory}
use Rattle.server_commands.specs.Shown.{is_not_nul, text_before_nul}

-- ---- digits

abbrev AreDigits : List ℕ → Type 0
AreDigits = AllByRecursion (IsInRange 48 57)

tells : IsDigitsTest AreDigits
tells = record { empty = tt; parts = λ c cs all. all; more = λ c cs one all. (one, all) }

pub digits : (n : ℕ) → n < 2 ^ 64 → AreDigits (decimal n)
digits n small = digits_decimal (numerals_by_value AreDigits tells) n small

first_of : (ds : List ℕ) → 0 < length ds → AreDigits ds → 48 ≤ get_or ds 0 0
first_of [] some all = absurd (omega (arith, some))
first_of (d ∷ ds) some all = all.0.0

-- the first digit of a number
pub first_digit : (n : ℕ) (text : List ℕ) → n < 2 ^ 64 → text ≡ decimal n → 48 ≤ get_or text 0 0
first_digit n text small is = rw is (first_of (decimal n) (decimal_nonempty n small) (digits n small))

-- ---- the parts of an id

of_part : (b : ℕ) → IsInRange 48 57 b → is_of_part b ≡ true
of_part b range = grind (arith, nat_tests, range)

not_nul : (b : ℕ) → IsInRange 45 57 b → is_not_nul b ≡ true
not_nul b range = grind (arith, nat_tests, range)

all_of : (P : ℕ → Type 0) (p : ℕ → Bool) → ((b : ℕ) → P b → p b ≡ true) → (xs : List ℕ) → AllByRecursion P xs
    → AllByRecursion (λ b. p b ≡ true) xs
all_of P p f [] all = tt
all_of P p f (x ∷ xs) all = (f x all.0, all_of P p f xs all.1)

all_append : (P : ℕ → Type 0) (xs ys : List ℕ) → AllByRecursion P xs → AllByRecursion P ys → AllByRecursion P (xs ++ ys)
all_append P [] ys a b = b
all_append P (x ∷ xs) ys a b = (a.0, all_append P xs ys a.1 b)

-- one more from the start
front_step : (n x : ℕ) (xs : List ℕ) → (take (1 + n) (x ∷ xs) ≡ x ∷ take n xs) × (drop (1 + n) (x ∷ xs) ≡ drop n xs)
front_step n x xs = let e : 1 + n ≡ suc n = omega arith in rw e (refl, refl)

-- what passes before what does not
split_front : (p : ℕ → Bool) (xs : List ℕ) (y : ℕ) (ys : List ℕ) → AllByRecursion (λ b. p b ≡ true) xs → p y ≡ false
    → (take (prefix_len p (xs ++ y ∷ ys)) (xs ++ y ∷ ys) ≡ xs) × (drop (prefix_len p (xs ++ y ∷ ys)) (xs ++ y ∷ ys) ≡ y ∷ ys)
split_front p [] y ys all stops = rw stops (refl, refl)
split_front p (x ∷ xs) y ys all stops =
    let rest = split_front p xs y ys all.1 stops in
    let front = front_step (prefix_len p (xs ++ y ∷ ys)) x (xs ++ y ∷ ys) in
    rw all.0 (front.0 ∙ ap (λ (t : List ℕ). x ∷ t) rest.0, front.1 ∙ rest.1)

-- all passes
whole : (p : ℕ → Bool) (xs : List ℕ) → AllByRecursion (λ b. p b ≡ true) xs
    → (take (prefix_len p xs) xs ≡ xs) × (drop (prefix_len p xs) xs ≡ [])
whole p [] all = (refl, refl)
whole p (x ∷ xs) all =
    let rest = whole p xs all.1 in
    let front = front_step (prefix_len p xs) x xs in
    rw all.0 (front.0 ∙ ap (λ (t : List ℕ). x ∷ t) rest.0, front.1 ∙ rest.1)

-- the text of an id is its numbers with a dash between them
pub id_is : (id : EntryId) → id_text id ≡ decimal id.milliseconds ++ 45 ∷ decimal id.sequence
id_is id = append_assoc (decimal id.milliseconds) (45 ∷ []) (decimal id.sequence)

-- the parts of an id's text
pub parts_of : (id : EntryId) (text : List ℕ) → Fits id → text ≡ id_text id
    → (take (prefix_len is_of_part text) text ≡ decimal id.milliseconds)
    × (drop (prefix_len is_of_part text) text ≡ 45 ∷ decimal id.sequence)
parts_of id text fit is =
    rw (is ∙ id_is id) (split_front is_of_part (decimal id.milliseconds) 45 (decimal id.sequence)
    (all_of (IsInRange 48 57) is_of_part of_part (decimal id.milliseconds) (digits id.milliseconds fit.0)) refl)

-- a number is one part
pub part_of : (n : ℕ) (text : List ℕ) → n < 2 ^ 64 → text ≡ decimal n
    → (take (prefix_len is_of_part text) text ≡ decimal n) × (drop (prefix_len is_of_part text) text ≡ [])
part_of n text small is =
    rw is (whole is_of_part (decimal n) (all_of (IsInRange 48 57) is_of_part of_part (decimal n) (digits n small)))

wider : (b : ℕ) → IsInRange 48 57 b → IsInRange 45 57 b
wider b range = (omega (arith, range.0), range.1)

all_wider : (xs : List ℕ) → AreDigits xs → AllByRecursion (IsInRange 45 57) xs
all_wider [] all = tt
all_wider (x ∷ xs) all = (wider x all.0, all_wider xs all.1)

id_bytes : (id : EntryId) → Fits id → AllByRecursion (IsInRange 45 57) (id_text id)
id_bytes id fit =
    rw (id_is id) (all_append (IsInRange 45 57) (decimal id.milliseconds) (45 ∷ decimal id.sequence)
    (all_wider (decimal id.milliseconds) (digits id.milliseconds fit.0))
    ((omega arith, omega arith), all_wider (decimal id.sequence) (digits id.sequence fit.1)))

-- no NUL is in them
pub id_whole : (id : EntryId) (text : List ℕ) → Fits id → text ≡ id_text id → text_before_nul text ≡ text
id_whole id text fit is =
    rw is (whole is_not_nul (id_text id) (all_of (IsInRange 45 57) is_not_nul not_nul (id_text id) (id_bytes id fit))).0

pub number_whole : (n : ℕ) (text : List ℕ) → n < 2 ^ 64 → text ≡ decimal n → text_before_nul text ≡ text
number_whole n text small is =
    rw is (whole is_not_nul (decimal n) (all_of (IsInRange 45 57) is_not_nul not_nul (decimal n)
    (all_wider (decimal n) (digits n small)))).0

pub number_short : (n : ℕ) (text : List ℕ) → n < 2 ^ 64 → text ≡ decimal n → length text ≤ 20
number_short n text small is = rw is (length-decimal-le 20 n (omega arith) (omega (arith, small)) small)

pub id_short : (id : EntryId) (text : List ℕ) → Fits id → text ≡ id_text id → length text ≤ 41
id_short id text fit is =
    let first = number_short id.milliseconds (decimal id.milliseconds) fit.0 refl in
    let second = number_short id.sequence (decimal id.sequence) fit.1 refl in
    rw (is ∙ id_is id) (omega (arith, first, second, length-append (decimal id.milliseconds) (45 ∷ decimal id.sequence)))

-- ---- the ids of words

read_snoc : (words : List (Vec ℕ)) (ids : List EntryId) (word : Vec ℕ) (id : EntryId) → AreRead words ids → IsRead word id
    → AreRead (words ++ word ∷ []) (ids ++ id ∷ [])
read_snoc [] [] word id all one = (one, tt)
read_snoc [] (i ∷ ids) word id all one = absurd all
read_snoc (w ∷ words) [] word id all one = absurd all
read_snoc (w ∷ words) (i ∷ ids) word id all one = (all.0, read_snoc words ids word id all.1 one)

-- one word more
pub read_more : (words : List (Vec ℕ)) (i : ℕ) (word : Vec ℕ) (ids : List EntryId) (id : EntryId) → i < length words
    → word ≡ get_or words i word → AreRead (take i words) ids → IsRead word id
    → AreRead (take (i + 1) words) (ids ++ id ∷ [])
read_more words i word ids id lt is so_far one =
    let grown : take (i + 1) words ≡ take i words ++ word ∷ [] =
    take_more words i word lt ∙ ap (λ (w : Vec ℕ). take i words ++ w ∷ []) (sym is) in
    rw grown (read_snoc (take i words) ids word id so_far one)

-- what a call of `id` ensures of its word
pub told_read : {E : Type 0} (text : List ℕ) (word : Vec ℕ) (r : Result EntryId E) (id : EntryId) → text ≡ word.items
    → r ≡ Ok id → ((i : EntryId) → Fits i → text ≡ id_text i → r ≡ Ok i) → IsRead word id
told_read {E} text word r id same was told = λ i fit is.
    let is_ok : Ok id ≡ Ok i = sym was ∙ told i fit (same ∙ is) in
    ap (λ (r : Result EntryId E). elim r [ Ok x ↦ x | Err e ↦ id ]) is_ok

fit_at : (ids : List EntryId) (i : ℕ) (d : EntryId) → i < length ids → AreFit ids → Fits (get_or ids i d)
fit_at [] i d lt fit = absurd (omega (arith, lt))
fit_at (x ∷ ids) zero d lt fit = fit.0
fit_at (x ∷ ids) (suc i) d lt fit = fit_at ids i d (omega (arith, lt)) fit.1

abbrev zero_id : EntryId
zero_id = record { milliseconds = 0; sequence = 0 }

-- a word that is no id's text
pub none_refused : (words : List (Vec ℕ)) (i : ℕ) (word : Vec ℕ) → i < length words → word ≡ get_or words i word
    → ((id : EntryId) → Fits id → word.items ≡ id_text id → ⊥) → (ids : List EntryId) → AreFit ids
    → texts_of words ≡ words_of_ids ids → ⊥
none_refused words i word lt is none ids fit same =
    let long : length ids ≡ length words =
    sym (length-map ids id_text) ∙ sym (ap length same) ∙ length-map words (λ (w : Vec ℕ). w.items) in
    none (get_or ids i zero_id) (fit_at ids i zero_id (omega (arith, lt, long)) fit)
    (ap (λ (w : Vec ℕ). w.items) is
    ∙ sym (get_or-map (λ (w : Vec ℕ). w.items) words i word [] lt)
    ∙ ap (λ (ts : List (List ℕ)). get_or ts i []) same
    ∙ get_or-map id_text ids i zero_id [] (omega (arith, lt, long)))

-- where no word is refused, nothing is
pub not_refused : {T : Type 0} (words : List (Vec ℕ)) (r : Result T Refusal)
    → ((ids : List EntryId) → AreFit ids → texts_of words ≡ words_of_ids ids → ⊥) → IfErr r (IsRefusedFor words)
not_refused words (Ok x) none = tt
not_refused words (Err e) none = λ ids fit same. absurd (none ids fit same)

-- where memory is refused, no word is
pub memory_refused : {T : Type 0} (words : List (Vec ℕ)) (r : Result T Refusal) → IsErrAnd r (λ e. e ≡ Memory)
    → IfErr r (IsRefusedFor words)
memory_refused words (Ok x) is = tt
memory_refused words (Err e) is = λ ids fit same. is

-- the last words, as a slice has them
pub rest_read : (k : ℕ) (words : List (Vec ℕ)) (ids : List EntryId) → AreRead (take (length words - k) (drop k words)) ids
    → AreRead (drop k words) ids
rest_read k words ids read =
    subst (λ (ws : List (Vec ℕ)). AreRead ws ids)
    (take_all (length words - k) (drop k words) (omega (arith, length-drop k words))) read

pub rest_refused : {T : Type 0} (k : ℕ) (words : List (Vec ℕ)) (r : Result T Refusal)
    → IfErr r (IsRefusedFor (take (length words - k) (drop k words))) → IfErr r (IsRefusedFor (drop k words))
rest_refused k words r refused =
    subst (λ (ws : List (Vec ℕ)). IfErr r (IsRefusedFor ws))
    (take_all (length words - k) (drop k words) (omega (arith, length-drop k words))) refused
