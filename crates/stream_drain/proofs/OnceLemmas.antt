-- No id is twice in the file of a handler that looks up.
use Rattle.std.proofs.Common.{◌≡◌, ◌∙◌, inl, inr, refl, sym, ap, ap₂, subst, ℕ, Bool, true, false, List, [], ◌∷◌, ◌++◌, map}
use Rattle.std.proofs.Common.{Some, append_assoc, append-nil}
use Rattle.worker_journal.specs.EntryLine.{Entry}
use Rattle.worker_journal.specs.Holds.{with_more}
use Rattle.worker_journal.specs.LastLines.{lines_of}
use Rattle.worker_journal.specs.Lines.{AreLines, StartsWith}
use Rattle.worker_journal.proofs.EntryLineLemmas.{line_tells}
use Rattle.worker_journal.proofs.LastLinesLemmas.{lines_join}
use Rattle.model_server.specs.Group.Group.{listed}
use Rattle.model_server.specs.Group.Worker.{Id}
use Rattle.model_server.specs.Once.Law.{Once}
use Rattle.model_server.proofs.OnceLemmas.Apart.{ids_both, once_left}
use Rattle.worker.specs.Gathered.{Doings}
use Rattle.stream_drain.specs.Known.{Known, known_after, lines_for}
use Rattle.stream_drain.specs.Line.{line_in}
use Rattle.stream_drain.specs.Once.{over_file}
use Rattle.stream_drain.specs.Resumed.{ids_in}
use Rattle.stream_drain.specs.Written.{Beginning, Written, lines_in, written_of}
use Rattle.stream_drain.proofs.LinesLemmas.{lines_are}
use Rattle.stream_drain.proofs.SameLineLemmas.{same_id}
use Rattle.stream_drain.proofs.UniqueLemmas.{known_then, still_once}
use Rattle.stream_drain.proofs.WrittenLemmas.{lines_both}

-- ---- lines tell ids

line_id : (json : Bool) (a b : Entry) → line_in json a ≡ line_in json b → a.0 ≡ b.0
line_id true a b same = same_id a b same
line_id false a b same = ap (λ (e : Entry). e.0) (line_tells a b same)

heads : (x y : List ℕ) (xs ys : List (List ℕ)) → x ∷ xs ≡ y ∷ ys → x ≡ y
heads x y xs ys same = cc same

tails : (x y : List ℕ) (xs ys : List (List ℕ)) → x ∷ xs ≡ y ∷ ys → xs ≡ ys
tails x y xs ys same = cc same

same_ids : (json : Bool) (a b : List Entry) → map (line_in json) a ≡ map (line_in json) b → ids_in a ≡ ids_in b
same_ids json [] [] same = refl
same_ids json [] (y ∷ b) same = absurd (cc same)
same_ids json (x ∷ a) [] same = absurd (cc same)
same_ids json (x ∷ a) (y ∷ b) same =
    let first = heads (line_in json x) (line_in json y) (map (line_in json) a) (map (line_in json) b) same in
    let rest = tails (line_in json x) (line_in json y) (map (line_in json) a) (map (line_in json) b) same in
    ap₂ (λ (i : Id) (is : List Id). i ∷ is) (line_id json x y first) (same_ids json a b rest)

-- lines at the front have the ids at the front
front_ids : (json : Bool) (kept all : List Entry) (rest : List (List ℕ))
    → map (line_in json) all ≡ map (line_in json) kept ++ rest → (more : List Id) × (ids_in all ≡ ids_in kept ++ more)
front_ids json [] all rest same = (ids_in all, refl)
front_ids json (k ∷ kept) [] rest same = absurd (cc same)
front_ids json (k ∷ kept) (e ∷ all) rest same =
    let first = heads (line_in json e) (line_in json k) (map (line_in json) all) (map (line_in json) kept ++ rest) same in
    let later = tails (line_in json e) (line_in json k) (map (line_in json) all) (map (line_in json) kept ++ rest) same in
    let m = front_ids json kept all rest later in
    (m.0, ap₂ (λ (i : Id) (is : List Id). i ∷ is) (line_id json e k first) m.1)

whole_lines : (json : Bool) (es : List Entry) → AreLines (lines_in json es)
whole_lines json [] = inl refl
whole_lines json (e ∷ es) = elim (whole_lines json es) [
  | inl none ↦ inr (
    line_in json e,
    ap (λ (xs : List ℕ). (line_in json e ++ 10 ∷ []) ++ xs) none
        ∙ append-nil (line_in json e ++ 10 ∷ []),
  )
  | inr ended ↦ inr (
    (line_in json e ++ 10 ∷ []) ++ ended.0,
    ap (λ (xs : List ℕ). (line_in json e ++ 10 ∷ []) ++ xs) ended.1
        ∙ sym (append_assoc (line_in json e ++ 10 ∷ []) ended.0 (10 ∷ [])),
  )
]

-- ---- what is written over a file

-- what there is as a worker begins over the lines of these entries
abbrev pub over_entries : Bool → List Entry → Beginning
over_entries json es = record { json = json; known = Some (listed (ids_in es)); first = Some (lines_in json es) }

-- so much was done since, over a file in which no id is twice
pub record Stands (json : Bool) (h : Written) : Type 0 where
  pub es : List Entry
  pub doings : Doings
  pub once : Once (ids_in es)
  pub written : h ≡ written_of (over_entries json es) doings

-- nothing was done yet
pub at_first : (json : Bool) (h : Written) (es : List Entry) → Once (ids_in es) → h ≡ over_file json es → Stands json h
at_first json h es once is = record {
  es = es;
  doings = record { loose = []; committed = [] };
  once = once;
  written = is ∙ ap (λ (xs : List ℕ). record {
    json = json;
    known = Some (listed (ids_in es));
    loose = [];
    committed = Some xs;
  }) (sym (append-nil (lines_in json es)));
}

module _ (json : Bool) (es : List Entry) (d : Doings) (once : Once (ids_in es)) where
  abbrev known : Known
  known = Some (listed (ids_in es))

  -- the entries that got a line and are committed, and those of which it is gathered
  abbrev filed : List Entry
  filed = lines_for known d.committed

  abbrev gathered : List Entry
  gathered = lines_for (known_after known d.committed) d.loose

  pub filed_once : Once (ids_in es ++ ids_in filed)
  filed_once = still_once (ids_in es) d.committed once

  all_once : Once ((ids_in es ++ ids_in filed) ++ ids_in gathered)
  all_once = subst (λ (k : Known). Once ((ids_in es ++ ids_in filed) ++ ids_in (lines_for k d.loose)))
      (sym (known_then (ids_in es) d.committed)) (still_once (ids_in es ++ ids_in filed) d.loose filed_once)

  -- a crash leaves some of the lines that are gathered
  pub left_once : (kept after : List Entry) → StartsWith (lines_in json kept) (lines_in json gathered)
      → lines_in json after ≡ (lines_in json es ++ lines_in json filed) ++ lines_in json kept → Once (ids_in after)
  left_once kept after starts is =
      let lines : map (line_in json) gathered ≡ map (line_in json) kept ++ lines_of starts.0 =
      sym (lines_are json gathered) ∙ (ap lines_of starts.1
      ∙ (lines_join (lines_in json kept) starts.0 (whole_lines json kept)
      ∙ ap (λ (ls : List (List ℕ)). ls ++ lines_of starts.0) (lines_are json kept))) in
      let m = front_ids json kept gathered (lines_of starts.0) lines in
      let bytes : lines_in json after ≡ lines_in json ((es ++ filed) ++ kept) =
      is ∙ (ap (λ (xs : List ℕ). xs ++ lines_in json kept) (sym (lines_both json es filed))
      ∙ sym (lines_both json (es ++ filed) kept)) in
      let ids : ids_in after ≡ (ids_in es ++ ids_in filed) ++ ids_in kept =
      same_ids json after ((es ++ filed) ++ kept)
      (sym (lines_are json after) ∙ (ap lines_of bytes ∙ lines_are json ((es ++ filed) ++ kept)))
      ∙ (ids_both (es ++ filed) kept ∙ ap (λ (xs : List Id). xs ++ ids_in kept) (ids_both es filed)) in
      subst Once (sym ids) (once_left ((ids_in es ++ ids_in filed) ++ ids_in kept) m.0
      (subst Once (ap (λ (xs : List Id). (ids_in es ++ ids_in filed) ++ xs) m.1
      ∙ sym (append_assoc (ids_in es ++ ids_in filed) (ids_in kept) m.0)) all_once))

-- after a crash
pub crashed : (json : Bool) (h : Written) (kept after : List Entry) → Stands json h
    → StartsWith (lines_in json kept) h.loose → with_more (lines_in json kept) h.committed ≡ Some (lines_in json after)
    → Once (ids_in after)
crashed json h kept after s starts left =
    let b = over_entries json s.es in
    let bytes : Some ((lines_in json s.es ++ lines_in json (lines_for b.known s.doings.committed)) ++ lines_in json kept)
    ≡ Some (lines_in json after) =
    ap (λ (v : Written). with_more (lines_in json kept) v.committed) (sym s.written) ∙ left in
    left_once json s.es s.doings s.once kept after
    (subst (λ (v : Written). StartsWith (lines_in json kept) v.loose) s.written starts) (sym (some_is _ _ bytes))
  where
    some_is : (xs ys : List ℕ) → Some xs ≡ Some ys → xs ≡ ys
    some_is xs ys same = cc same

-- what is committed
pub committed_once : (json : Bool) (h : Written) → Stands json h
    → (es : List Entry) × (h.committed ≡ Some (lines_in json es)) × Once (ids_in es)
committed_once json h s =
    let filed_now : List Entry = lines_for (Some (listed (ids_in s.es))) s.doings.committed in (
      s.es ++ filed_now,
      ap (λ (v : Written). v.committed) s.written ∙ ap Some (sym (lines_both json s.es filed_now)),
      subst Once (sym (ids_both s.es filed_now)) (filed_once json s.es s.doings s.once),
    )
