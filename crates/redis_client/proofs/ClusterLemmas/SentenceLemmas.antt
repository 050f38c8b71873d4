-- The texts of errors.
use Rattle.std.proofs.Common.{◌≡◌, ℕ, List, ◌++◌, refl, sym, ◌∙◌, ap, subst, arith, codes, get_or, Option, Some, None, Bool}
use Rattle.std.proofs.lemmas.List.{append_cancel_left}
use Rattle.std.proofs.lemmas.Option.{none-some, same_Some}
use Rattle.redis_client.specs.Cluster.Sentence.{Place, Other, Meaning, moved, ask, other, IsPlace, place_text, code_of, other_of, SentencesTell, IsReadFrom, try_again, cluster_down, loading, master_down, read_only, no_replicas}
use Rattle.redis_client.specs.Cluster.ErrorMeaning.{other_meaning}
use Rattle.std.specs.Prelude.{if◌then◌else◌}
use Rattle.std.specs.Option.{option_map}
use Rattle.std.specs.Str.{bytes_eq}
use Rattle.redis_client.proofs.ClusterLemmas.PlaceLemmas.{same_place}

moved_code : (xs : List ℕ) → other_of (code_of (codes "MOVED " ++ xs)) ≡ None
unfolding other_of
moved_code xs = refl

ask_code : (xs : List ℕ) → other_of (code_of (codes "ASK " ++ xs)) ≡ None
unfolding other_of
ask_code xs = refl

pub moved_is_no_other : (text xs : List ℕ) (o : Other) → text ≡ codes "MOVED " ++ xs → other_of (code_of text) ≡ Some o → ⊥
moved_is_no_other text xs o is says =
    none-some o (sym (moved_code xs) ∙ ap (λ t. other_of (code_of t)) (sym is) ∙ says)

pub ask_is_no_other : (text xs : List ℕ) (o : Other) → text ≡ codes "ASK " ++ xs → other_of (code_of text) ≡ Some o → ⊥
ask_is_no_other text xs o is says =
    none-some o (sym (ask_code xs) ∙ ap (λ t. other_of (code_of t)) (sym is) ∙ says)

pub moved_is_no_ask : (text xs ys : List ℕ) → text ≡ codes "MOVED " ++ xs → text ≡ codes "ASK " ++ ys → ⊥
moved_is_no_ask text xs ys m a = let heads : 77 ≡ 65 = ap (λ t. get_or t 0 0) (sym m ∙ a) in absurd (omega (arith, heads))

pub sentences_tell : SentencesTell
sentences_tell (moved p) (moved q) text a b =
    ap moved (same_place p q a.0 b.0 (append_cancel_left (codes "MOVED ") (place_text p) (place_text q) (sym a.1 ∙ b.1)))
sentences_tell (moved p) (ask q) text a b = absurd (moved_is_no_ask text (place_text p) (place_text q) a.1 b.1)
sentences_tell (moved p) (other o) text a b = absurd (moved_is_no_other text (place_text p) o a.1 b)
sentences_tell (ask p) (moved q) text a b = absurd (moved_is_no_ask text (place_text q) (place_text p) b.1 a.1)
sentences_tell (ask p) (ask q) text a b =
    ap ask (same_place p q a.0 b.0 (append_cancel_left (codes "ASK ") (place_text p) (place_text q) (sym a.1 ∙ b.1)))
sentences_tell (ask p) (other o) text a b = absurd (ask_is_no_other text (place_text p) o a.1 b)
sentences_tell (other n) (moved q) text a b = absurd (moved_is_no_other text (place_text q) n b.1 a)
sentences_tell (other n) (ask q) text a b = absurd (ask_is_no_other text (place_text q) n b.1 a)
sentences_tell (other n) (other o) text a b = ap other (same_Some n o (sym a ∙ b))

-- ---- meanings that a text does not have

-- a text that names no node after `MOVED` has no meaning
pub no_moved : (text rest : List ℕ) → text ≡ codes "MOVED " ++ rest
    → ((p : Place) → IsPlace p → rest ≡ place_text p → ⊥) → IsReadFrom text None
no_moved text rest is none (moved p) says =
    none p says.0 (append_cancel_left (codes "MOVED ") rest (place_text p) (sym is ∙ says.1))
no_moved text rest is none (ask p) says = moved_is_no_ask text rest (place_text p) is says.1
no_moved text rest is none (other o) says = moved_is_no_other text rest o is says

-- nor does one that names no place after `ASK`
pub no_ask : (text rest : List ℕ) → text ≡ codes "ASK " ++ rest
    → ((p : Place) → IsPlace p → rest ≡ place_text p → ⊥) → IsReadFrom text None
no_ask text rest is none (moved p) says = moved_is_no_ask text (place_text p) rest says.1 is
no_ask text rest is none (ask p) says =
    none p says.0 (append_cancel_left (codes "ASK ") rest (place_text p) (sym is ∙ says.1))
no_ask text rest is none (other o) says = ask_is_no_other text rest o is says

nothing : (text : List ℕ) → ((rest : List ℕ) → text ≡ codes "MOVED " ++ rest → ⊥)
    → ((rest : List ℕ) → text ≡ codes "ASK " ++ rest → ⊥) → other_of (code_of text) ≡ None → IsReadFrom text None
nothing text not_moved not_ask code (moved p) says = not_moved (place_text p) says.1
nothing text not_moved not_ask code (ask p) says = not_ask (place_text p) says.1
nothing text not_moved not_ask code (other o) says = none-some o (sym code ∙ says)

-- any other text has the meaning of its code
pub by_code : (text : List ℕ) (r : Option Meaning) → ((rest : List ℕ) → text ≡ codes "MOVED " ++ rest → ⊥)
    → ((rest : List ℕ) → text ≡ codes "ASK " ++ rest → ⊥) → r ≡ option_map other_meaning (other_of (code_of text))
    → IsReadFrom text r
by_code text r not_moved not_ask is = elim (other_of (code_of text)) as (λ o.
    other_of (code_of text) ≡ o → r ≡ option_map other_meaning o → IsReadFrom text r) [
      | None ↦ λ code e. subst (IsReadFrom text) (sym e) (nothing text not_moved not_ask code)
      | Some o ↦ λ code e. subst (IsReadFrom text) (sym e) code
    ] refl is

-- ---- the code by its tests

abbrev picked : Bool → Bool → Bool → Bool → Bool → Bool → Option Other
picked a b c d e f = if a then Some try_again else if b then Some cluster_down else if c then Some loading
    else if d then Some master_down else if e then Some read_only else if f then Some no_replicas else None

pub by_tests : (code : List ℕ) (a b c d e f : Bool) → bytes_eq code (codes "TRYAGAIN") ≡ a
    → bytes_eq code (codes "CLUSTERDOWN") ≡ b → bytes_eq code (codes "LOADING") ≡ c
    → bytes_eq code (codes "MASTERDOWN") ≡ d → bytes_eq code (codes "READONLY") ≡ e
    → bytes_eq code (codes "NOREPLICAS") ≡ f → option_map other_meaning (other_of code) ≡ option_map other_meaning (picked a b c d e f)
unfolding other_of
by_tests code a b c d e f ea eb ec ed ee ef = rw ea (rw eb (rw ec (rw ed (rw ee (rw ef refl)))))

-- a test of the code, made on a slice of the word
pub tested : (code word slice : List ℕ) (r b : Bool) → slice ≡ word → r ≡ bytes_eq code slice → r ≡ b
    → bytes_eq code word ≡ b
tested code word slice r b is test told = ap (bytes_eq code) (sym is) ∙ sym test ∙ told
