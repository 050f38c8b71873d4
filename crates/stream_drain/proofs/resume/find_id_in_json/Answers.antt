use Rattle.std.proofs.Common.{◌≡◌, ℕ, true, List, ◌∷◌, ◌++◌, codes, take, drop, length, ◌≤◌, ◌∙◌, rules, subst}
use Rattle.std.specs.List.{list_all, slice_range}
use Rattle.stream_drain.specs.Resumed.{is_of_id}
use Rattle.stream_drain.proofs.ResumeLemmas.{from_on}
use Rattle.stream_drain.proofs.TellLemmas.{of_parts}
use Rattle.stream_drain.proofs.resume.find_id_in_json.Goals as goal

pub returns-then-is_next : goal.returns-then-is_next
returns-then-is_next c =
    let line = c.args.line.now in
    let rest = c.in_ok-rest.rest.now in
    let behind = c.in_ok-behind.behind.now in
    let id = c.in_ok-id.id.now in
    let len = c.count_id_bytes-len.result in
    let head : c.in_ok-head.head.now ≡ codes "{\"id\":\"" = search rules in
    let next : c.in_ok-next.next.now ≡ codes "\",\"fields\":[" = search rules in
    let head_is : take 7 line ≡ c.in_ok-head.head.now = search rules in
    let next_is : take 12 behind ≡ c.in_ok-next.next.now = search rules in
    let from_7 : rest ≡ slice_range line 7 (length line) = search rules in
    let has_7 : 7 ≤ length line = search rules in
    let from_len : behind ≡ slice_range rest len (length rest) = search rules in
    let rest_is : rest ≡ drop 7 line = from_7 ∙ from_on line 7 has_7 in
    let behind_is : behind ≡ drop len rest = from_len ∙ from_on rest len c.count_id_bytes-len.ensures.within in
    let id_is : take len rest ≡ id = search rules in
    let all : list_all is_of_id (take len rest) ≡ true = search rules in
    let parts = of_parts line rest behind len (subst (λ (xs : List ℕ). take 7 line ≡ xs) head head_is) rest_is behind_is
    (subst (λ (xs : List ℕ). take 12 behind ≡ xs) next next_is) in (
      parts.0,
      subst (λ (xs : List ℕ). line ≡ codes "{\"id\":\"" ++ (xs ++ 34 ∷ parts.0)) id_is parts.1,
      subst (λ (xs : List ℕ). list_all is_of_id xs ≡ true) id_is all,
    )
