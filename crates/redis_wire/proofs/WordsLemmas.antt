-- The words of decoded commands are those that were packed.
use Rattle.std.proofs.Common.{◌≡◌, ℕ, List, [], ◌∷◌, ◌++◌, map, Option, Some, None, option_map, option_and_then, Vec, Global, refl, sym, ap}
use Rattle.std.proofs.Common.{◌∙◌, ◌-◌, suc, subst, arith}
use Rattle.redis_resp.specs.Tree.{Tree, nil, int, bulk, array, simple, okay, map_of_pairs, attribute, set, boolean}
use Rattle.redis_resp.specs.Tree.{verbatim, push, Trees, no_trees, more_trees, trees, list_of_trees}
use Rattle.redis_resp.specs.Reading.{traverse}
use Rattle.redis_resp.specs.Value.{tree}
use Rattle.redis_resp.specs.declared.value.Value.{Value, Array}
use Rattle.redis_resp.proofs.TreeLemmas.{tree-Array, listed_trees}
use Rattle.redis_wire.specs.declared.reply.Reply.{Reply}
use Rattle.redis_wire.specs.declared.reply.Reply.TheVariants as replies
use Rattle.redis_wire.specs.Reply.{Answer, value, refused, group, pushed, answer}
use Rattle.redis_wire.specs.Push.{reply_at}
use Rattle.redis_wire.specs.Packed.{command_bytes, command_tree}
use Rattle.redis_wire.specs.Grammar.{IsValue}
use Rattle.redis_wire.specs.Words.{bulk_text, words_in, AreWordsOf, AreUnpacked}
use Rattle.redis_wire.proofs.ReplyLemmas.{answer-Value}
use Rattle.redis_wire.proofs.FitsLemmas.{reply_fits}
use Rattle.redis_wire.proofs.DecodeLemmas.{same_read}
use Rattle.redis_wire.proofs.CommandLemmas.{command_is}
use Rattle.redis_wire.proofs.ReadBackLemmas.{reply_of_value}

packed_words : (args : List (List ℕ)) → traverse bulk_text (map bulk args) ≡ Some args
packed_words [] = refl
packed_words (a ∷ args) = rw (packed_words args) refl

is_bulk : (t : Tree) (text : List ℕ) → bulk_text t ≡ Some text → t ≡ bulk text
is_bulk (bulk b) text e = let is : b ≡ text = cc in ap bulk is
is_bulk nil text e = absurd cc
is_bulk (int z) text e = absurd cc
is_bulk (array ts) text e = absurd cc
is_bulk (simple s) text e = absurd cc
is_bulk okay text e = absurd cc
is_bulk (map_of_pairs ps) text e = absurd cc
is_bulk (attribute t ps) text e = absurd cc
is_bulk (set ts) text e = absurd cc
is_bulk (boolean b) text e = absurd cc
is_bulk (verbatim f s) text e = absurd cc
is_bulk (push k ts) text e = absurd cc

are_bulks : (ts : Trees) (args : List (List ℕ)) → traverse bulk_text (list_of_trees ts) ≡ Some args
    → ts ≡ trees (map bulk args)
are_bulks no_trees args e = let is : [] ≡ args = cc in ap (λ (xs : List (List ℕ)). trees (map bulk xs)) is
are_bulks (more_trees t ts) args e =
    by (bulk_text t) (traverse bulk_text (list_of_trees ts)) refl e (are_bulks ts)
  where
    by : (o : Option (List ℕ)) (r : Option (List (List ℕ))) → bulk_text t ≡ o
        → option_and_then (λ m. option_map (λ ms. m ∷ ms) r) o ≡ Some args
        → ((more : List (List ℕ)) → r ≡ Some more → ts ≡ trees (map bulk more))
        → more_trees t ts ≡ trees (map bulk args)
    by None r first e others = absurd cc
    by (Some text) None first e others = absurd cc
    by (Some text) (Some more) first e others =
        let is : text ∷ more ≡ args = cc in
        rw (← is, is_bulk t text first, others more refl) refl

words_are : (t : Tree) (args : List (List ℕ)) → words_in (value t) ≡ Some args → t ≡ command_tree args
words_are (array ts) args e = ap array (are_bulks ts args e)
words_are nil args e = absurd cc
words_are (int z) args e = absurd cc
words_are (bulk b) args e = absurd cc
words_are (simple s) args e = absurd cc
words_are okay args e = absurd cc
words_are (map_of_pairs ps) args e = absurd cc
words_are (attribute t ps) args e = absurd cc
words_are (set ts) args e = absurd cc
words_are (boolean b) args e = absurd cc
words_are (verbatim f s) args e = absurd cc
words_are (push k ts) args e = absurd cc

answer_is : (a : Answer) (args : List (List ℕ)) → words_in a ≡ Some args → a ≡ value (command_tree args)
answer_is (value t) args e = ap value (words_are t args e)
answer_is (refused text) args e = absurd cc
answer_is (group k xs) args e = absurd cc
answer_is (pushed k xs) args e = absurd cc

pub are_words : (a : Answer) (words : Option (List (List ℕ))) → words ≡ words_in a → AreWordsOf a words
are_words a words is args = (
  λ e. answer_is a args (sym is ∙ e),
  λ e. is ∙ ap words_in e ∙ ap (traverse bulk_text) (listed_trees (map bulk args)) ∙ packed_words args,
)

-- the words of an array are the bytes of its members
pub words_of_array : (v : Value) (vs : Vec Value Global) → v ≡ Array vs
    → traverse bulk_text (map tree vs.items) ≡ words_in (value (tree v))
words_of_array v vs is =
    ap (traverse bulk_text) (sym (listed_trees (map tree vs.items)))
    ∙ ap (λ (t : Tree). words_in (value t)) (sym (tree-Array vs) ∙ ap tree (sym is))

-- the words of a reply that is a value are those of the value
pub words_of_value : (r : Reply) (v : Value) → r ≡ replies.Value v → words_in (value (tree v)) ≡ words_in (answer r)
words_of_value r v is = ap words_in (sym (answer-Value v)) ∙ ap (λ (x : Reply). words_in (answer x)) (sym is)

-- the bytes of a command are read as the array of its words, and as nothing else
pub are_unpacked : (a : Answer) (words : Option (List (List ℕ))) → AreWordsOf a words → AreUnpacked a words
are_unpacked a words are limits args small line depth le each said =
    let d : ℕ = limits.depth - 2 in
    let e : suc (suc d) ≡ limits.depth = omega (arith, depth) in
    let bytes = command_bytes args in
    let packed : IsValue limits limits.depth bytes (value (command_tree args)) =
    subst (λ n. IsValue limits n bytes (value (command_tree args))) e (command_is limits d args le each small line) in
    let fits = reply_fits limits in
    let same = same_read (reply_at limits (bytes ++ [])) (a, []) (value (command_tree args), [])
    (fits.again bytes [] a said.reply)
    (fits.again bytes [] (value (command_tree args))
    (reply_of_value limits bytes (value (command_tree args)) packed)) in
    (are args).1 same.0
