-- The ids of lines that are taken piece by piece.
use Rattle.std.proofs.Common.{◌≡◌, ◌∙◌, ◌≤◌, ◌+◌, refl, sym, ap, subst, arith, ℕ, zero, suc, Bool, List, [], ◌∷◌, ◌++◌}
use Rattle.std.proofs.Common.{length, take, drop, append_assoc, append-nil, Option, Some, None, option_map, IfSome}
use Rattle.std.proofs.lemmas.Grind.{common_steps}
use Rattle.std.proofs.lemmas.List.{take-append-drop}
use Rattle.std.specs.List.{Contains}
use Rattle.worker_journal.specs.LastLines.{before_first, lines_of}
use Rattle.worker_journal.specs.Lines.{HasNoEnd}
use Rattle.worker_journal.proofs.LastLinesLemmas.{line_before, within_line}
use Rattle.worker_journal.specs.KnownIds.Known.{Place, places_in}
use Rattle.worker_journal.specs.KnownIds.Told.{Took, and_told, line_number, told, told_too}
use Rattle.worker_journal.specs.declared.known_ids.known.KnownId.{KnownId}

-- no end of a line is among these bytes
pub no_end : (xs : List ℕ) → (Contains xs 10 → ⊥) → HasNoEnd xs
no_end [] none = tt
no_end (x ∷ xs) none = (
  λ is. none (0, omega arith, is),
  no_end xs (λ has. none (suc has.0, omega (arith, has.1), has.2)),
)

joined : (xs ys : List ℕ) → HasNoEnd xs → HasNoEnd ys → HasNoEnd (xs ++ ys)
joined [] ys a b = b
joined (x ∷ xs) ys a b = (a.0, joined xs ys a.1 b)

no_line : (line : List ℕ) → HasNoEnd line → lines_of line ≡ []
no_line [] none = refl
no_line (x ∷ xs) none = within_line x xs none.0 ∙ ap (before_first x) (no_line xs none.1)

some_is : (xs ys : List Place) → Some xs ≡ Some ys → xs ≡ ys
some_is xs ys same = cc same

-- the id of a line more
id_more : (old new : List Place) (at : ℕ) (o : Option ℕ) (rest : Option (List Place))
    → option_map (λ n. old ++ (n, at) ∷ []) o ≡ Some new
    → option_map (λ more. old ++ more) (and_told at o rest) ≡ option_map (λ more. new ++ more) rest
id_more old new at None rest is = absurd (cc is)
id_more old new at (Some n) None is = refl
id_more old new at (Some n) (Some more) is = ap Some (sym (append_assoc old ((n, at) ∷ []) more)
    ∙ ap (λ (xs : List Place). xs ++ more) (some_is (old ++ (n, at) ∷ []) new is))

-- a line that ends, and its id
line_ended : (json : Bool) (old new : List Place) (start next : ℕ) (line end after behind : List ℕ) → HasNoEnd line
    → HasNoEnd end → option_map (λ n. old ++ (n, start) ∷ []) (line_number json (line ++ end)) ≡ Some new
    → next ≡ start + suc (length (line ++ end))
    → told_too json old start (line ++ ((end ++ 10 ∷ after) ++ behind)) ≡ told_too json new next (after ++ behind)
line_ended json old new start next line end after behind a b is there =
    let whole : line ++ ((end ++ 10 ∷ after) ++ behind) ≡ (line ++ end) ++ 10 ∷ (after ++ behind) =
    ap (λ (xs : List ℕ). line ++ xs) (append_assoc end (10 ∷ after) behind)
    ∙ sym (append_assoc line end (10 ∷ (after ++ behind))) in
    ap (told_too json old start) whole
    ∙ ap (λ (ls : List (List ℕ)). option_map (λ (more : List Place). old ++ more) (told json start ls))
    (line_before (line ++ end) (joined line end a b) (after ++ behind))
    ∙ id_more old new start (line_number json (line ++ end))
    (told json (start + suc (length (line ++ end))) (lines_of (after ++ behind))) is
    ∙ ap (λ (k : ℕ). told_too json new k (after ++ behind)) (sym there)

-- a step of the loop over a piece
pub one_taken : (json : Bool) (first : List Place) (begin : ℕ) (line piece : List ℕ) (old : List Place) (start : ℕ)
    (begun rest : List ℕ) (new : List Place) (next : ℕ) (end after left : List ℕ)
    → Took json first begin line piece old start begun rest → rest ≡ end ++ 10 ∷ after → (Contains end 10 → ⊥)
    → option_map (λ n. old ++ (n, start) ∷ []) (line_number json (begun ++ end)) ≡ Some new → left ≡ []
    → next ≡ start + suc (length (begun ++ end)) → Took json first begin line piece new next left after
one_taken json first begin line piece old start begun rest new next end after left took is none told_is empty there = record {
  no_end = subst HasNoEnd (sym empty) tt;
  same = λ behind. took.same behind
      ∙ (ap (λ (xs : List ℕ). told_too json old start (begun ++ (xs ++ behind))) is
      ∙ (line_ended json old new start next begun end after behind took.no_end (no_end end none) told_is there
      ∙ ap (λ (xs : List ℕ). told_too json new next (xs ++ (after ++ behind))) (sym empty)));
}

-- and its end
pub rest_taken : (json : Bool) (first : List Place) (begin : ℕ) (line piece : List ℕ) (old : List Place) (start : ℕ)
    (begun rest more : List ℕ) → Took json first begin line piece old start begun rest → (Contains rest 10 → ⊥)
    → more ≡ begun ++ rest → Took json first begin line piece old start more []
rest_taken json first begin line piece old start begun rest more took none is = record {
  no_end = subst HasNoEnd (sym is) (joined begun rest took.no_end (no_end rest none));
  same = λ behind. took.same behind ∙ (ap (told_too json old start) (sym (append_assoc begun rest behind))
      ∙ ap (λ (xs : List ℕ). told_too json old start (xs ++ behind)) (sym is));
}

-- ---- the loop over the file

-- the ids so far, and those of what is left, are all
abbrev pub TookTo : Option (List ℕ) → Bool → List Place → ℕ → List ℕ → ℕ → Type 0
TookTo known json places start line at =
    IfSome known (λ bytes. told json 0 (lines_of bytes) ≡ told_too json places start (line ++ drop at bytes))

told_all : (json : Bool) (bytes : List ℕ) → told json 0 (lines_of bytes) ≡ told_too json [] 0 bytes
told_all json bytes = same (told json 0 (lines_of bytes))
  where
    same : (o : Option (List Place)) → o ≡ option_map (λ more. [] ++ more) o
    same None = refl
    same (Some more) = refl

pub begins_so : (known : Option (List ℕ)) (json : Bool) (ids : List KnownId) (line : List ℕ) → ids ≡ [] → line ≡ []
    → TookTo known json (places_in ids) 0 line 0
begins_so None json ids line n l = tt
begins_so (Some bytes) json ids line n l = told_all json bytes
    ∙ (ap (λ (xs : List KnownId). told_too json (places_in xs) 0 bytes) (sym n)
    ∙ ap (λ (xs : List ℕ). told_too json (places_in ids) 0 (xs ++ bytes)) (sym l))

pub piece_taken : (known : Option (List ℕ)) (json : Bool) (old : List Place) (start : ℕ) (line : List ℕ) (new : List Place)
    (next : ℕ) (begun piece : List ℕ) (at more end : ℕ) → at + more ≡ end
    → IfSome known (λ bytes. piece ≡ take more (drop at bytes)) → Took json old start line piece new next begun []
    → TookTo known json old start line at → TookTo known json new next begun end
piece_taken None json old start line new next begun piece at more end is stands took so_far = tt
piece_taken (Some bytes) json old start line new next begun piece at more end is stands took so_far =
    let behind : drop end bytes ≡ drop more (drop at bytes) = grind (arith, common_steps) in
    let whole : drop at bytes ≡ piece ++ drop end bytes = sym (take-append-drop more (drop at bytes))
    ∙ (ap (λ (xs : List ℕ). xs ++ drop more (drop at bytes)) (sym stands)
    ∙ ap (λ (xs : List ℕ). piece ++ xs) (sym behind)) in
    so_far ∙ (ap (λ (xs : List ℕ). told_too json old start (line ++ xs)) whole ∙ took.same (drop end bytes))

drop_end : (n : ℕ) (xs : List ℕ) → length xs ≤ n → drop n xs ≡ []
drop_end zero [] le = refl
drop_end (suc n) [] le = refl
drop_end zero (x ∷ xs) le = absurd (omega (arith, le))
drop_end (suc n) (x ∷ xs) le = drop_end n xs (omega (arith, le))

pub all_taken : (known : Option (List ℕ)) (json : Bool) (places : List Place) (start : ℕ) (line : List ℕ) (len at : ℕ)
    → HasNoEnd line → IfSome known (λ bytes. len ≡ length bytes) → len ≤ at → TookTo known json places start line at
    → IfSome known (λ bytes. told json 0 (lines_of bytes) ≡ Some places)
all_taken None json places start line len at none is le so_far = tt
all_taken (Some bytes) json places start line len at none is le so_far = so_far
    ∙ (ap (λ (xs : List ℕ). told_too json places start (line ++ xs)) (drop_end at bytes (omega (arith, is, le)))
    ∙ (ap (λ (ls : List (List ℕ)). option_map (λ (more : List Place). places ++ more) (told json start ls))
    (ap lines_of (append-nil line) ∙ no_line line none) ∙ ap Some (append-nil places)))
