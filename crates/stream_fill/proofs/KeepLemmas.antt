-- A file that keeps a base: what was read of it, and what was written.
use Rattle.std.proofs.Common.{◌≡◌, refl, ap, ◌∙◌, subst, ℕ, List, ◌++◌, length, take, drop, Option, Some, None}
use Rattle.std.proofs.Math.Seq.{take-length}
use Rattle.std.specs.Prelude.{IfErr, IfSome, Result, Ok, Err}
use Rattle.std.specs.Io.KnownBytes.{Appends}
use Rattle.worker_journal.specs.Device.{Only}
use Rattle.stream_fill.specs.Base.{IsUnkept, IsUnread, Keeps}
use Rattle.stream_fill.specs.declared.kept_base.BaseError.{BaseError}
use Rattle.stream_fill.specs.declared.kept_base.BaseError.TheVariants as causes

-- ---- all of it was read

whole : (bytes read : List ℕ) (len : ℕ) → len ≡ length bytes → read ≡ take len (drop 0 bytes) → read ≡ bytes
whole bytes read len size is = is ∙ (ap (λ (n : ℕ). take n bytes) size ∙ take-length bytes)

pub whole_kept : (seen : Option (List ℕ)) (len : ℕ) (read key : List ℕ) (found : Option ℕ)
    → IfSome seen (λ bytes. len ≡ length bytes) → IfSome seen (λ bytes. read ≡ take len (drop 0 bytes))
    → Keeps key read found → IfSome seen (λ bytes. Keeps key bytes found)
whole_kept None len read key found size is kept = tt
whole_kept (Some bytes) len read key found size is kept =
    subst (λ (l : List ℕ). Keeps key l found) (whole bytes read len size is) kept

whole_unkept : (seen : Option (List ℕ)) (len : ℕ) (read key : List ℕ) (e : BaseError)
    → IfSome seen (λ bytes. len ≡ length bytes) → IfSome seen (λ bytes. read ≡ take len (drop 0 bytes))
    → IsUnkept key read e → IsUnread seen key e
whole_unkept None len read key causes.OtherFile size is kept = tt
whole_unkept (Some bytes) len read key causes.OtherFile size is kept =
    subst (λ (l : List ℕ). IsUnkept key l causes.OtherFile) (whole bytes read len size is) kept
whole_unkept seen len read key (causes.File e) size is kept = tt
whole_unkept seen len read key (causes.Ask e) size is kept = kept

pub whole_failed : (seen : Option (List ℕ)) (len : ℕ) (read key : List ℕ) (r : Result (Option ℕ) BaseError)
    → IfSome seen (λ bytes. len ≡ length bytes) → IfSome seen (λ bytes. read ≡ take len (drop 0 bytes))
    → IfErr r (IsUnkept key read) → IfErr r (IsUnread seen key)
whole_failed seen len read key (Ok found) size is fails = tt
whole_failed seen len read key (Err e) size is fails = whole_unkept seen len read key e size is fails

-- ---- a line was written in place of what was there

pub line_kept : (seen cut then_seen synced : Option (List ℕ)) (line : List ℕ)
    → IfSome seen (λ bytes. cut ≡ Some (take 0 bytes)) → Appends cut then_seen line → synced ≡ then_seen
    → IfSome seen (λ _. synced ≡ Some line)
line_kept None cut then_seen synced line c a s = tt
line_kept (Some bytes) None then_seen synced line c a s = absurd (let t : None ≡ Some (take 0 bytes) = c in cc)
line_kept (Some bytes) (Some xs) None synced line c a s = absurd a
line_kept (Some bytes) (Some xs) (Some ys) synced line c a s =
    let none : xs ≡ take 0 bytes = (let t : Some xs ≡ Some (take 0 bytes) = c in cc) in
    s ∙ ap Some (a ∙ ap (λ (zs : List ℕ). zs ++ line) none)

pub line_durable : (seen cut then_seen : Option (List ℕ)) (line : List ℕ) (may_leave : List ℕ → Type 0)
    → IfSome seen (λ bytes. cut ≡ Some (take 0 bytes)) → Appends cut then_seen line
    → IfSome then_seen (λ bytes. Only bytes may_leave) → IfSome seen (λ _. Only line may_leave)
line_durable None cut then_seen line may_leave c a only = tt
line_durable (Some bytes) cut None line may_leave c a only =
    let t = line_kept (Some bytes) cut None None line c a refl in absurd cc
line_durable (Some bytes) cut (Some ys) line may_leave c a only =
    let t = line_kept (Some bytes) cut (Some ys) (Some ys) line c a refl in
    let same : ys ≡ line = cc t in subst (λ (zs : List ℕ). Only zs may_leave) same only
