-- The lines of doings.
use Rattle.std.proofs.Common.{◌≡◌, ◌∙◌, refl, sym, ap, ap₂, ℕ, Bool, true, false, List, [], ◌∷◌, ◌++◌, append_assoc, append-nil}
use Rattle.std.proofs.Common.{inl, inr, Option, Some, None, if◌then◌else◌}
use Rattle.worker_journal.specs.EntryLine.{Entry}
use Rattle.worker_journal.specs.Holds.{with_more}
use Rattle.model_server.specs.Group.Law.{Among}
use Rattle.model_server.specs.Group.Worker.{Verdict, done, left_pending, stop}
use Rattle.worker.specs.Gathered.{Doings, committed_too, done_too}
use Rattle.stream_drain.specs.Line.{line_in}
use Rattle.stream_drain.specs.Known.{Known, is_known, known_after}
use Rattle.stream_drain.specs.Written.{Beginning, GathersItsLines, Written, committed_with}
use Rattle.stream_drain.specs.Known.{known_too, lines_for}
use Rattle.stream_drain.specs.Written.{line_too, lines_in, written_of, written_too}

-- ---- the entries that get a line

-- of entries and more
pub known_both : (known : Known) (es more : List Entry) → known_after known (es ++ more) ≡ known_after (known_after known es) more
known_both known [] more = refl
known_both known (e ∷ es) more = elim (is_known known e.0)
    as (λ b. (if b then known_after known (es ++ more) else known_after (known_too known e.0) (es ++ more))
    ≡ known_after (if b then known_after known es else known_after (known_too known e.0) es) more) [
      | true ↦ known_both known es more
      | false ↦ known_both (known_too known e.0) es more
    ]

pub for_both : (known : Known) (es more : List Entry)
    → lines_for known (es ++ more) ≡ lines_for known es ++ lines_for (known_after known es) more
for_both known [] more = refl
for_both known (e ∷ es) more = elim (is_known known e.0)
    as (λ b. (if b then lines_for known (es ++ more) else e ∷ lines_for (known_too known e.0) (es ++ more))
    ≡ (if b then lines_for known es else e ∷ lines_for (known_too known e.0) es)
    ++ lines_for (if b then known_after known es else known_after (known_too known e.0) es) more) [
      | true ↦ for_both known es more
      | false ↦ ap (λ (xs : List Entry). e ∷ xs) (for_both (known_too known e.0) es more)
    ]

-- if nothing is looked up, each of them
pub each_line : (es : List Entry) → lines_for None es ≡ es
each_line [] = refl
each_line (e ∷ es) = ap (λ (xs : List Entry). e ∷ xs) (each_line es)

pub none_known : (es : List Entry) → known_after None es ≡ None
none_known [] = refl
none_known (e ∷ es) = none_known es

-- none of them, if all are known
pub no_lines : (known : Known) (es : List Entry) → ((e : Entry) → Among e es → is_known known e.0 ≡ true)
    → lines_for known es ≡ []
no_lines known [] all = refl
no_lines known (e ∷ es) all =
    ap (λ (b : Bool). if b then lines_for known es else e ∷ lines_for (known_too known e.0) es) (all e (inl refl))
    ∙ no_lines known es (λ x among. all x (inr among))

pub none_newer : (known : Known) (es : List Entry) → ((e : Entry) → Among e es → is_known known e.0 ≡ true)
    → known_after known es ≡ known
none_newer known [] all = refl
none_newer known (e ∷ es) all =
    ap (λ (b : Bool). if b then known_after known es else known_after (known_too known e.0) es) (all e (inl refl))
    ∙ none_newer known es (λ x among. all x (inr among))

-- ---- lines

-- the lines of entries and of more
pub lines_both : (json : Bool) (es more : List Entry) → lines_in json (es ++ more) ≡ lines_in json es ++ lines_in json more
lines_both json [] more = refl
lines_both json (d ∷ es) more = ap (λ (ls : List ℕ). (line_in json d ++ 10 ∷ []) ++ ls) (lines_both json es more)
    ∙ sym (append_assoc (line_in json d ++ 10 ∷ []) (lines_in json es) (lines_in json more))

-- so much is known, gathered and committed, as lines of that form
abbrev gathered : Bool → Known → List ℕ → Option (List ℕ) → Written
gathered json known ls c = record { json = json; known = known; loose = ls; committed = c }

-- one entry more
one_more : (json : Bool) (before now : Known) (c : Option (List ℕ)) (ls : List Entry) (e : Entry) (b : Bool)
    → gathered json (if b then now else known_too now e.0)
    (lines_in json (ls ++ (if b then [] else e ∷ []))) c
    ≡ (if b then gathered json now (lines_in json ls) c else line_too (gathered json now (lines_in json ls) c) e)
one_more json before now c ls e true =
    ap (λ (xs : List Entry). gathered json now (lines_in json xs) c) (append-nil ls)
one_more json before now c ls e false =
    ap (λ (xs : List ℕ). gathered json (known_too now e.0) xs c)
    (lines_both json ls (e ∷ []) ∙ ap (λ (xs : List ℕ). lines_in json ls ++ xs) (append-nil (line_in json e ++ 10 ∷ [])))

pub each_verdict : (b : Beginning) (d : Doings) (e : Entry) (v : Verdict)
    → written_of b (done_too d e v) ≡ written_too (written_of b d) e v
each_verdict b d e done =
    let first = known_after b.known d.committed in
    let now = known_after first d.loose in
    let c : Option (List ℕ) = with_more (lines_in b.json (lines_for b.known d.committed)) b.first in
    ap₂ (λ (k : Known) (es : List Entry). gathered b.json k (lines_in b.json es) c)
    (known_both first d.loose (e ∷ [])) (for_both first d.loose (e ∷ []))
    ∙ one_more b.json first now c (lines_for first d.loose) e (is_known now e.0)
each_verdict b d e left_pending = refl
each_verdict b d e stop = refl

-- more lines, and then more
with_both : (json : Bool) (es more : List Entry) (first : Option (List ℕ))
    → with_more (lines_in json (es ++ more)) first ≡ with_more (lines_in json more) (with_more (lines_in json es) first)
with_both json es more None = refl
with_both json es more (Some bytes) = ap Some (ap (λ (ls : List ℕ). bytes ++ ls) (lines_both json es more)
    ∙ sym (append_assoc bytes (lines_in json es) (lines_in json more)))

pub each_commit : (b : Beginning) (d : Doings) → written_of b (committed_too d) ≡ committed_with (written_of b d)
each_commit b d =
    ap₂ (λ (k : Known) (c : Option (List ℕ)). gathered b.json k [] c) (known_both b.known d.committed d.loose)
    (ap (λ (es : List Entry). with_more (lines_in b.json es) b.first) (for_both b.known d.committed d.loose)
    ∙ with_both b.json (lines_for b.known d.committed) (lines_for (known_after b.known d.committed) d.loose) b.first)

-- nothing more
pub with_none : (first : Option (List ℕ)) → with_more [] first ≡ first
with_none None = refl
with_none (Some bytes) = ap Some (append-nil bytes)

pub gathers : GathersItsLines
gathers = record { verdict = each_verdict; commit = each_commit; each = each_line }

-- after a commit, and after one that failed
pub committed_now : (json : Bool) (known : Known) (old new : List ℕ) (before after : Option (List ℕ)) → new ≡ []
    → after ≡ with_more old before → gathered json known new after ≡ committed_with (gathered json known old before)
committed_now json known old new before after none more =
    ap (λ (ls : List ℕ). gathered json known ls after) none ∙ ap (λ (c : Option (List ℕ)). gathered json known [] c) more

pub same_now : (json : Bool) (known : Known) (old new : List ℕ) (before after : Option (List ℕ)) → new ≡ old
    → after ≡ before → gathered json known new after ≡ gathered json known old before
same_now json known old new before after kept same =
    ap (λ (ls : List ℕ). gathered json known ls after) kept ∙ ap (λ (c : Option (List ℕ)). gathered json known old c) same
