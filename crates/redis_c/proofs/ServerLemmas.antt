-- The returned settings are the options at the start of the arguments.
use Rattle.std.proofs.Common.{◌≡◌, ◌∙◌, ℕ, List, ◌++◌, drop, Option, Some, None, false, sym, ap}
use Rattle.std.proofs.lemmas.List.{take-append-drop}
use Rattle.std.specs.Prelude.{option_map, is_some}
use Rattle.redis_args.specs.Clause.{clause}
use Rattle.redis_wire.specs.declared.place.Span.{Span}
use Rattle.stream_options.specs.Add.{Add, AddFits, add_sentence, add_words}
use Rattle.stream_options.specs.Claim.{Claim, ClaimFits, claim_sentence, claim_words}
use Rattle.stream_options.specs.Laws.{Any, Equal}
use Rattle.stream_options.specs.Read.{ReadFits, CountAlike, group_sentence, read_sentence, read_words}
use Rattle.stream_options.specs.Trim.{Trim, TrimFits, trim_sentence, trim_words}
use Rattle.stream_option_parsing.specs.Parts.{group_of, read_of}
use Rattle.stream_option_parsing.specs.Split.{IsOneSplit}
use Rattle.stream_option_parsing.specs.declared.read.ReadParts.{ReadParts}
use Rattle.redis_c.specs.Parts.{asked_by, asked_of, group_in, Tells}
use Rattle.redis_c.specs.Placed.{texts_at}
use Rattle.redis_c.specs.Server.{read_in}
use Rattle.redis_c.specs.Settings.{add_in, trim_in, claim_in}
use Rattle.redis_c.specs.declared.commands.ReadSettings.{ReadSettings}
use Rattle.redis_c.specs.declared.server.GroupPlace.{GroupPlace}
use Rattle.redis_c.specs.declared.settings.AddSettings.{AddSettings}
use Rattle.redis_c.specs.declared.settings.ClaimSettings.{ClaimSettings}
use Rattle.redis_c.specs.declared.settings.TrimSettings.{TrimSettings}
use Rattle.redis_c.proofs.PartLemmas.{read_told}

means : {T : Type 0} {Fits : T → Type 0} {sentence : T → List (List ℕ)} {words : List (List ℕ)}
    {Alike : T → T → Type 0} (bytes : List ℕ) (places : List Span) (args : List (List ℕ)) (x : T) (k : ℕ)
    (meant : List ℕ → Option T) → texts_at bytes places ≡ Some args → IsOneSplit Fits sentence words Alike args x k
    → Tells Fits sentence meant x places → meant bytes ≡ Some x
means {sentence = sentence} bytes places args x k meant texts one tells =
    let whole : args ≡ sentence x ++ drop k args =
    sym (take-append-drop k args) ∙ ap (λ (front : List (List ℕ)). front ++ drop k args) one.split.spelled in
    tells bytes (drop k args) (texts ∙ ap (λ (t : List (List ℕ)). Some t) whole) one.split.fits

pub means_add : (bytes : List ℕ) (places : List Span) (args : List (List ℕ)) (x : Add) (k : ℕ) (s : AddSettings)
    → texts_at bytes places ≡ Some args → IsOneSplit AddFits add_sentence add_words Equal args x k
    → Tells AddFits add_sentence (λ bytes. add_in bytes s) x places → add_in bytes s ≡ Some x
means_add bytes places args x k s = means bytes places args x k (λ bytes. add_in bytes s)

pub means_trim : (bytes : List ℕ) (places : List Span) (args : List (List ℕ)) (x : Trim) (k : ℕ) (s : TrimSettings)
    → texts_at bytes places ≡ Some args → IsOneSplit TrimFits trim_sentence trim_words Equal args x k
    → Tells TrimFits trim_sentence (λ bytes. trim_in bytes s) x places → trim_in bytes s ≡ Some x
means_trim bytes places args x k s = means bytes places args x k (λ bytes. trim_in bytes s)

pub means_claim : (bytes : List ℕ) (places : List Span) (args : List (List ℕ)) (x : Claim) (k : ℕ) (s : ClaimSettings)
    → texts_at bytes places ≡ Some args → IsOneSplit ClaimFits claim_sentence claim_words Equal args x k
    → Tells ClaimFits claim_sentence (λ bytes. claim_in bytes s) x places → claim_in bytes s ≡ Some x
means_claim bytes places args x k s = means bytes places args x k (λ bytes. claim_in bytes s)

pub means_read : (bytes : List ℕ) (places : List Span) (args : List (List ℕ)) (p : ReadParts) (k : ℕ) (s : ReadSettings)
    (place : GroupPlace) → texts_at bytes places ≡ Some args
    → IsOneSplit ReadFits read_sentence read_words CountAlike args (read_of p) k
    → asked_by s ≡ asked_of p → (p.group ≡ None → p.noack ≡ false) → (p.group ≡ None → p.claim ≡ None)
    → place.has_group ≡ is_some p.group
    → Tells Any (clause group_sentence) (λ bytes. group_in bytes place) (option_map group_of p.group) places
    → read_in bytes s place ≡ Some (read_of p)
means_read bytes places args p k s place texts one asked noack claim has told =
    means bytes places args (read_of p) k (λ bytes. read_in bytes s place) texts one
    (read_told s place p places asked noack claim has told)
