-- The lines of entries, and the ids that they tell.
use Rattle.std.proofs.Common.{◌≡◌, ◌∙◌, refl, sym, ap, subst, ℕ, zero, suc, Bool, true, false, List, [], ◌∷◌, ◌++◌}
use Rattle.std.proofs.Common.{map, take, append_assoc, append-nil, Option, Some, None, IfSome, if◌then◌else◌}
use Rattle.worker_journal.specs.EntryLine.{Entry}
use Rattle.worker_journal.specs.Holds.{Holds, committed_in}
use Rattle.worker_journal.specs.LastLines.{before_first, lines_of}
use Rattle.worker_journal.specs.Lines.{HasNoEnd, IsRepaired}
use Rattle.worker_journal.proofs.EntryLineLemmas.{line_whole}
use Rattle.worker_journal.proofs.LastLinesLemmas.{line_before, lines_join, within_line}
use Rattle.worker_journal.specs.KnownIds.Known.{HasOneMore, Place, has, has_at, has_number, knows, places_in}
use Rattle.worker_journal.specs.KnownIds.Number.{number_of}
use Rattle.worker_journal.specs.KnownIds.Told.{told}
use Rattle.worker_journal.specs.declared.known_ids.known.KnownIds.{KnownIds}
use Rattle.model_server.specs.Group.Worker.{Id, done}
use Rattle.stream_drain.specs.Known.{Known, numbers_known}
use Rattle.stream_drain.specs.Line.{entry_tokens, line_in}
use Rattle.stream_drain.specs.Resumed.{KnowsItsFile}
use Rattle.stream_drain.specs.There.{KnowsPlaces}
use Rattle.stream_drain.specs.Written.{Written, line_too, lines_in, written_by, written_too}
use Rattle.stream_drain.proofs.JsonLemmas.{entry_texts}
use Rattle.worker.proofs.EntryJsonLemmas.TokensLemmas.{no_end}
use Rattle.stream_drain.proofs.KnownLemmas.{numbers_more, told_known}

-- the line of an entry has no end in it
pub one_line : (json : Bool) (e : Entry) → HasNoEnd (line_in json e)
one_line true e = no_end false (entry_tokens e) (entry_texts e)
one_line false e = line_whole e

-- the lines of entries
pub lines_are : (json : Bool) (es : List Entry) → lines_of (lines_in json es) ≡ map (line_in json) es
lines_are json [] = refl
lines_are json (e ∷ es) =
    ap lines_of (append_assoc (line_in json e) (10 ∷ []) (lines_in json es))
    ∙ line_before (line_in json e) (one_line json e) (lines_in json es)
    ∙ ap (λ (ls : List (List ℕ)). line_in json e ∷ ls) (lines_are json es)

-- ---- what a file tells

same_known : (ns ms : List Place) → ((n : ℕ) → has ms n ≡ has ns n) → (id : Id) → knows ms id ≡ knows ns id
same_known ns ms same id = by (number_of id)
  where
    by : (o : Option ℕ) → has_number ms o ≡ has_number ns o
    by None = refl
    by (Some n) = same n

-- the ids that the lines of a file tell, in whatever order they are kept
pub file_known : (file : Option (List ℕ)) (json : Bool) (ns ms : List Place) → ((n : ℕ) → has ms n ≡ has ns n)
    → IfSome file (λ bytes. told json 0 (lines_of bytes) ≡ Some ns)
    → IfSome file (λ bytes. KnowsItsFile json bytes (numbers_known ms))
file_known None json ns ms same is = tt
file_known (Some bytes) json ns ms same is = λ es lines id. same_known ns ms same id
    ∙ told_known json 0 es ns (sym (ap (told json 0) lines) ∙ is) id

-- and where they begin
pub places_known : (file : Option (List ℕ)) (json : Bool) (ps : List Place) (ids : KnownIds)
    → ((n at : ℕ) → has_at (places_in ids.ids.items) n at ≡ has_at ps n at)
    → IfSome file (λ bytes. told json 0 (lines_of bytes) ≡ Some ps)
    → IfSome file (λ bytes. KnowsPlaces json bytes (Some ids))
places_known None json ps ids same is = tt
places_known (Some bytes) json ps ids same is = subst
    (λ (o : Option (List Place)). IfSome o (λ places. (n at : ℕ) → has_at (places_in ids.ids.items) n at ≡ has_at places n at))
    (sym is) same

no_line : (line : List ℕ) → HasNoEnd line → lines_of line ≡ []
no_line [] none = refl
no_line (x ∷ xs) none = within_line x xs none.0 ∙ ap (before_first x) (no_line xs none.1)

take_twice : (n : ℕ) (xs : List ℕ) → take n (take n xs) ≡ take n xs
take_twice zero [] = refl
take_twice zero (x ∷ xs) = refl
take_twice (suc n) [] = refl
take_twice (suc n) (x ∷ xs) = ap (λ (ys : List ℕ). x ∷ ys) (take_twice n xs)

same_lines : (json : Bool) (old new : List ℕ) (known : Known) → lines_of new ≡ lines_of old → KnowsItsFile json old known
    → KnowsItsFile json new known
same_lines json old new None same knows = tt
same_lines json old new (Some known) same knows = λ es is. knows es (sym same ∙ is)

-- the lines of a file are those that it has once it is opened
pub opened : {D : Type 0} (seen : D → Option (List ℕ)) (may_leave : D → List ℕ → Type 0) (is_sound : D → Type 0)
    (old : Option (List ℕ)) (file : D) (len : ℕ) (is_broken json : Bool) (known : Known) → IsRepaired old (seen file)
    → is_broken ≡ false → IfSome old (λ bytes. Holds seen may_leave is_sound (take len bytes) file len is_broken)
    → IfSome old (λ bytes. KnowsItsFile json bytes known)
    → IfSome old (λ before. IfSome (committed_in (seen file) len) (λ bytes. KnowsItsFile json bytes known))
opened seen may_leave is_sound None file len is_broken json known repaired works holds knows = tt
opened seen may_leave is_sound (Some bytes) file len is_broken json known repaired works holds knows =
    let all : seen file ≡ Some (take len bytes) = (holds.whole works).all in
    let cut = repaired.2 in
    let lines : repaired.0 ≡ take len bytes = some_is repaired.0 (take len bytes) (sym repaired.3 ∙ all) in
    let torn : lines_of bytes ≡ lines_of repaired.0 = ap lines_of cut.split
    ∙ (lines_join repaired.0 repaired.1 cut.whole
    ∙ (ap (λ (ls : List (List ℕ)). lines_of repaired.0 ++ ls) (no_line repaired.1 cut.torn_line)
    ∙ append-nil (lines_of repaired.0))) in
    let same : lines_of (take len (take len bytes)) ≡ lines_of bytes =
    ap lines_of (take_twice len bytes ∙ sym lines) ∙ sym torn in
    subst (λ (k : Option (List ℕ)). IfSome (committed_in k len) (λ now. KnowsItsFile json now known)) (sym all)
    (same_lines json bytes (take len (take len bytes)) known same knows)
  where
    some_is : (xs ys : List ℕ) → Some xs ≡ Some ys → xs ≡ ys
    some_is xs ys same = cc same

-- ---- a line that is added

pub line_added : (json : Bool) (old new : List Place) (batch more : List ℕ) (before after : Option (List ℕ)) (len now : ℕ) (e : Entry) (n : ℕ)
    → number_of e.0 ≡ Some n → has old n ≡ false → HasOneMore old new n → more ≡ batch ++ (line_in json e ++ 10 ∷ [])
    → after ≡ before → now ≡ len → written_by json (numbers_known new) more after now
    ≡ written_too (written_by json (numbers_known old) batch before len) e done
line_added json old new batch more before after len now e n is not_there one added file_same len_same =
    let w : Written = written_by json (numbers_known old) batch before len in
    let unknown : knows old e.0 ≡ false = ap (has_number old) is ∙ not_there in
    ap (λ (k : Known). written_by json k more after now) (numbers_more old new e.0 n is one)
    ∙ (ap (λ (xs : List ℕ). let r : Written = record (line_too w e) { loose = xs; committed = committed_in after now } in r) added
    ∙ (ap (λ (f : Option (List ℕ)). let r : Written = record (line_too w e) { committed = committed_in f now } in r) file_same
    ∙ (ap (λ (l : ℕ). let r : Written = record (line_too w e) { committed = committed_in before l } in r) len_same
    ∙ ap (λ (b : Bool). if b then w else line_too w e) (sym unknown))))
