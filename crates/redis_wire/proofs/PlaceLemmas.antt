-- The positions of values in bytes.
use Rattle.std.proofs.Common.{◌≡◌, ◌≤◌, ◌+◌, ◌-◌, ◌∙◌, ℕ, suc, List, [], ◌∷◌, ◌++◌, length, take, drop, pos, Option}
use Rattle.std.proofs.Common.{Some, None, Ok, inl, inr, refl, sym, ap, arith, append_assoc}
use Rattle.std.proofs.lemmas.List.{length-append, length-drop, take-append-drop, drop_at, take_at}
use Rattle.redis_resp.specs.Tree.{nil, bulk}
use Rattle.redis_wire.specs.declared.limits.Limits.{Limits}
use Rattle.redis_wire.specs.Reading.{blob_at, line_at}
use Rattle.redis_wire.specs.Reply.{Answer, value}
use Rattle.redis_wire.specs.Scalar.{number_of, line_answer, no_blob_answer}
use Rattle.redis_wire.specs.Group.{no_group_answer}
use Rattle.redis_wire.specs.Grammar.{IsLine, IsLength, IsBlob}
use Rattle.redis_wire.specs.Level.{length_at, line_value_at, blob_body_at, blob_value_at, group_body_at, group_value_at}
use Rattle.redis_wire.specs.Level.{by_kind, level, value_at}
use Rattle.redis_wire.specs.Packed.{crlf}
use Rattle.redis_wire.specs.Scan.{IsEnd}
use Rattle.redis_wire.specs.Place.{IsHeadAt, IsLineAt, IsTextAt, IsArrayAt, IsMapAt, IsNilAt, IsIntAt}
use Rattle.redis_wire.specs.Place.{BeginsWithHead, BeginsWithLine, BeginsWithText, BeginsWithNil}
use Rattle.redis_wire.proofs.FitsLemmas.{line_fits, length_fits, blob_fits}
use Rattle.redis_wire.proofs.ItemLemmas.{fits_end}
use Rattle.redis_wire.proofs.LevelLemmas.{bulk_is, one_level}

-- a suffix of bytes begins after as many bytes as come before it
pub end_is : (bytes left : List ℕ) → IsEnd left bytes → left ≡ drop (length bytes - length left) bytes
end_is bytes left e =
    let n : length bytes - length left ≡ length e.done = omega (arith, ap length e.is, length-append e.done left) in
    rw n (sym (ap (drop (length e.done)) e.is ∙ drop_at e.done left (length e.done) refl))

pub end_within : (bytes left : List ℕ) → IsEnd left bytes → length left ≤ length bytes
end_within bytes left e = omega (arith, ap length e.is, length-append e.done left)

pub end_of_end : (bytes left more : List ℕ) → IsEnd left bytes → IsEnd more left → IsEnd more bytes
end_of_end bytes left more e f = record {
  done = e.done ++ f.done;
  is = e.is ∙ ap (λ (xs : List ℕ). e.done ++ xs) f.is ∙ sym (append_assoc e.done f.done more);
}

pub end_of_drop : (n : ℕ) (bytes : List ℕ) → IsEnd (drop n bytes) bytes
end_of_drop n bytes = record { done = take n bytes; is = sym (take-append-drop n bytes) }

end_behind : (at b : ℕ) (bytes behind left : List ℕ) → drop at bytes ≡ b ∷ behind → IsEnd left behind → IsEnd left bytes
end_behind at b bytes behind left is e =
    end_of_end bytes (drop at bytes) left (end_of_drop at bytes)
    (end_of_end (drop at bytes) behind left (record { done = b ∷ []; is = is }) e)

-- ---- headers and lines

module _ (limits : Limits) (bytes behind left : List ℕ) (at first : ℕ) (n : Option ℕ)
    (is : drop at bytes ≡ first ∷ behind) (len : length_at limits behind ≡ Ok (n, left)) where
  head_end : IsEnd left bytes
  head_end = end_behind at first bytes behind left is
      (fits_end (length_at limits) (IsLength limits) (length_fits limits) behind (n, left) len)

  pub head_le : length left ≤ length bytes
  head_le = end_within bytes left head_end

  pub head_is : IsHeadAt limits bytes at first n (length bytes - length left)
  head_is =
      record {
        behind = behind;
        is = is;
        len = len ∙ ap (λ (xs : List ℕ). Ok (n, xs)) (end_is bytes left head_end);
        end = omega arith;
      }

module _ (limits : Limits) (bytes behind line left : List ℕ) (at first : ℕ) (is : drop at bytes ≡ first ∷ behind)
    (at_line : line_at limits.line behind ≡ Ok (line, left)) where
  line_end : IsEnd left bytes
  line_end = end_behind at first bytes behind left is
      (fits_end (line_at limits.line) (IsLine limits.line) (line_fits limits.line) behind (line, left) at_line)

  pub line_le : length left ≤ length bytes
  line_le = end_within bytes left line_end

  pub line_is : IsLineAt limits bytes at first line (length bytes - length left)
  line_is = record {
    behind = behind;
    is = is;
    reads = at_line
        ∙ ap (λ (xs : List ℕ). Ok (line, xs)) (end_is bytes left line_end);
    end = omega arith;
  }

-- the header that was read is the one that the bytes begin with
pub head_same : (limits : Limits) (bytes : List ℕ) (at first : ℕ) (n : Option ℕ) (after : ℕ)
    → IsHeadAt limits bytes at first n after → (m : Option ℕ) (rest : List ℕ)
    → BeginsWithHead limits (drop at bytes) first m rest → (n ≡ m) × (drop after bytes ≡ rest)
head_same limits bytes at first n after h m rest b =
    let both : first ∷ h.behind ≡ first ∷ b.behind = sym h.is ∙ b.is in
    let behind : h.behind ≡ b.behind = cc in
    let e : Ok (n, drop after bytes) ≡ Ok (m, rest) = sym h.len ∙ ap (length_at limits) behind ∙ b.len in
    let p : (n, drop after bytes) ≡ (m, rest) = cc in
    (ap (λ (x : Option ℕ × List ℕ). x.0) p, ap (λ (x : Option ℕ × List ℕ). x.1) p)

pub line_same : (limits : Limits) (bytes : List ℕ) (at first : ℕ) (line : List ℕ) (after : ℕ)
    → IsLineAt limits bytes at first line after → (other rest : List ℕ)
    → BeginsWithLine limits (drop at bytes) first other rest → (line ≡ other) × (drop after bytes ≡ rest)
line_same limits bytes at first line after h other rest b =
    let both : first ∷ h.behind ≡ first ∷ b.behind = sym h.is ∙ b.is in
    let behind : h.behind ≡ b.behind = cc in
    let e : Ok (line, drop after bytes) ≡ Ok (other, rest) =
    sym h.reads ∙ ap (line_at limits.line) behind ∙ b.reads in
    let p : (line, drop after bytes) ≡ (other, rest) = cc in
    (ap (λ (x : List ℕ × List ℕ). x.0) p, ap (λ (x : List ℕ × List ℕ). x.1) p)

-- ---- texts

module _ (limits : Limits) (bytes text left : List ℕ) (at n start : ℕ)
    (head : IsHeadAt limits bytes at 36 (Some n) start) (blob : blob_at n (drop start bytes) ≡ Ok (text, left)) where
  left_end : IsEnd left bytes
  left_end = end_of_end bytes (drop start bytes) left (end_of_drop start bytes)
      (fits_end (blob_at n) (IsBlob n) (blob_fits n) (drop start bytes) (text, left) blob)

  pub text_le : length left ≤ length bytes
  text_le = end_within bytes left left_end

  text_is : text ≡ take n (drop start bytes)
  text_is =
      let t = (blob_fits n).takes (drop start bytes) (text, left) blob in
      sym (ap (take n) (t.is ∙ ap (λ (xs : List ℕ). xs ++ left) t.said.is ∙ append_assoc text crlf left)
      ∙ take_at text (crlf ++ left) n t.said.len)

  -- the bulk string that was read is the one that the bytes begin with
  pub text_found : (other rest : List ℕ) → BeginsWithText limits (drop at bytes) other rest
      → (take n (drop start bytes) ≡ other) × (drop (length bytes - length left) bytes ≡ rest)
  text_found other rest b =
      let same = head_same limits bytes at 36 (Some n) start head (Some b.len) b.body b.head in
      let len : n ≡ b.len = cc (same.0) in
      let e : Ok (text, left) ≡ Ok (other, rest) =
      sym blob ∙ ap (λ (k : ℕ). blob_at k (drop start bytes)) len ∙ ap (blob_at b.len) same.1 ∙ b.reads in
      let p : (text, left) ≡ (other, rest) = cc in (
        sym text_is ∙ ap (λ (x : List ℕ × List ℕ). x.0) p,
        sym (end_is bytes left left_end) ∙ ap (λ (x : List ℕ × List ℕ). x.1) p,
      )

  pub text_place : IsTextAt limits bytes at (record { start = start; len = n }) (length bytes - length left)
  text_place =
      let t = (blob_fits n).takes (drop start bytes) (text, left) blob in
      let two : length crlf ≡ 2 = refl in
      let size : length (drop start bytes) ≡ n + 2 + length left =
      omega (
        arith,
        ap length t.is,
        length-append t.text left,
        ap length t.said.is,
        length-append text crlf,
        t.said.len,
        two,
      ) in
      let same : text ≡ take n (drop start bytes) =
      sym (ap (take n) (t.is ∙ ap (λ (xs : List ℕ). xs ++ left) t.said.is ∙ append_assoc text crlf left)
      ∙ take_at text (crlf ++ left) n t.said.len) in
      record {
        within = omega (arith, head.end, size, length-drop start bytes);
        end = omega arith;
        reads = λ d. bulk_is limits (suc d) (drop at bytes) head.behind (drop start bytes) text left n
            (omega arith) head.is head.len blob
            ∙ ap (λ (x : List ℕ). Ok (value (bulk x), left)) same
            ∙ ap (λ (x : List ℕ). Ok (value (bulk (take n (drop start bytes))), x)) (end_is bytes left left_end);
      }

-- ---- groups, nil and numbers

module _ (limits : Limits) (bytes : List ℕ) (at after : ℕ) where
  pub array_place : (count : ℕ) → IsHeadAt limits bytes at 42 (Some count) after → IsArrayAt limits bytes at count after
  unfolding level by_kind group_value_at
  array_place count head =
      record {
        end = head.end;
        reads = λ d. let e : suc d - 1 ≡ d =
            omega arith in rw (head.is, one_level limits (suc d) (omega arith), e, head.len) refl;
      }

  pub map_place : (count : ℕ) → IsHeadAt limits bytes at 37 (Some count) after → IsMapAt limits bytes at count after
  unfolding level by_kind group_value_at
  map_place count head =
      record {
        end = head.end;
        reads = λ d. let e : suc d - 1 ≡ d =
            omega arith in rw (head.is, one_level limits (suc d) (omega arith), e, head.len) refl;
      }

  pub no_array_place : IsHeadAt limits bytes at 42 None after → IsNilAt limits bytes at after
  unfolding level by_kind group_value_at group_body_at no_group_answer
  no_array_place head =
      record { end = head.end; reads = λ d. rw (head.is, one_level limits (suc d) (omega arith), head.len) refl }

  pub no_bulk_place : IsHeadAt limits bytes at 36 None after → IsNilAt limits bytes at after
  unfolding level by_kind blob_value_at blob_body_at no_blob_answer
  no_bulk_place head =
      record { end = head.end; reads = λ d. rw (head.is, one_level limits (suc d) (omega arith), head.len) refl }

  pub null_place : (line : List ℕ) → IsLineAt limits bytes at 95 line after → length line ≡ 0
      → IsNilAt limits bytes at after
  unfolding level by_kind line_value_at line_answer
  null_place line h none =
      record { end = h.end; reads = λ d. rw (h.is, one_level limits (suc d) (omega arith), h.reads, none) refl }

  pub int_place : (line : List ℕ) (n : ℕ) → IsLineAt limits bytes at 58 line after → number_of line ≡ Some (pos n)
      → IsIntAt limits bytes at n after
  unfolding level by_kind line_value_at line_answer
  int_place line n h number =
      record { end = h.end; reads = λ d. rw (h.is, one_level limits (suc d) (omega arith), h.reads, number) refl }

-- ---- a nil at the start of the bytes

module _ (limits : Limits) (d : ℕ) (bytes rest : List ℕ) where
  no_array_reads : BeginsWithHead limits bytes 42 None rest → value_at limits (suc d) bytes ≡ Ok (value nil, rest)
  unfolding level by_kind group_value_at group_body_at no_group_answer
  no_array_reads h = rw (h.is, one_level limits (suc d) (omega arith), h.len) refl

  no_bulk_reads : BeginsWithHead limits bytes 36 None rest → value_at limits (suc d) bytes ≡ Ok (value nil, rest)
  unfolding level by_kind blob_value_at blob_body_at no_blob_answer
  no_bulk_reads h = rw (h.is, one_level limits (suc d) (omega arith), h.len) refl

  null_reads : BeginsWithLine limits bytes 95 [] rest → value_at limits (suc d) bytes ≡ Ok (value nil, rest)
  unfolding level by_kind line_value_at line_answer
  null_reads h = rw (h.is, one_level limits (suc d) (omega arith), h.reads) refl

  pub nil_reads : BeginsWithNil limits bytes rest → value_at limits (suc d) bytes ≡ Ok (value nil, rest)
  nil_reads (inl h) = no_array_reads h
  nil_reads (inr (inl h)) = no_bulk_reads h
  nil_reads (inr (inr h)) = null_reads h

pub nil_same : (limits : Limits) (bytes : List ℕ) (at after : ℕ) → IsNilAt limits bytes at after → (rest : List ℕ)
    → BeginsWithNil limits (drop at bytes) rest → drop after bytes ≡ rest
nil_same limits bytes at after h rest b =
    let e : Ok (value nil, drop after bytes) ≡ Ok (value nil, rest) =
    sym (h.reads 0) ∙ nil_reads limits 0 (drop at bytes) rest b in
    let p : (value nil, drop after bytes) ≡ (value nil, rest) = cc in
    ap (λ (x : Answer × List ℕ). x.1) p
