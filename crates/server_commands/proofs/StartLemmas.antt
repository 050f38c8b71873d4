-- Which id a word of XREADGROUP is.
use Rattle.std.proofs.Common.{◌≡◌, ◌<◌, ◌++◌, ℕ, List, [], ◌∷◌, length, get_or, decimal, sym, ap, ◌∙◌, inl, inr, append-nil, arith}
use Rattle.std.proofs.lemmas.Fmt.{decimal_nonempty}
use Rattle.std.specs.Prelude.{codes}
use Rattle.std.specs.Int.{IsInRange}
use Rattle.std.specs.List.{AllByRecursion}
use Rattle.server_store.specs.EntryId.{id_text}
use Rattle.server_store.specs.declared.entry_id.EntryId.{EntryId}
use Rattle.server_commands.specs.IdWords.{Fits}
use Rattle.server_commands.specs.Rereading.{IsWordOf}
use Rattle.server_commands.specs.declared.commands.read.Start.{Start}
use Rattle.server_commands.specs.declared.commands.read.Start.TheVariants.{Behind}
use Rattle.server_commands.proofs.IdWordLemmas.{digits, id_is}

-- digits do not begin as `>` does
no_sign : (ds rest : List ℕ) → 0 < length ds → AllByRecursion (IsInRange 48 57) ds → ds ++ rest ≡ codes ">" → ⊥
no_sign [] rest some all is = absurd (omega (arith, some))
no_sign (d ∷ ds) rest some all is =
    let first : d ≡ 62 = ap (λ (xs : List ℕ). get_or xs 0 0) is in
    absurd (omega (arith, first, all.0.1))

-- the word of an id is not `>`
pub not_news : (id : EntryId) (text : List ℕ) → Fits id → IsWordOf id text → text ≡ codes ">" → ⊥
not_news id text fit (inl is) news =
    no_sign (decimal id.milliseconds) (45 ∷ decimal id.sequence) (decimal_nonempty id.milliseconds fit.0) (digits id.milliseconds fit.0)
    (sym (is ∙ id_is id) ∙ news)
not_news id text fit (inr (is, alone)) news =
    no_sign (decimal id.milliseconds) [] (decimal_nonempty id.milliseconds fit.0) (digits id.milliseconds fit.0)
    (append-nil (decimal id.milliseconds) ∙ sym is ∙ news)

pub behind_is : (start : Start) (a b : EntryId) → start ≡ Behind a → start ≡ Behind b → a ≡ b
behind_is start a b is so =
    let both : Behind a ≡ Behind b = sym is ∙ so in cc
