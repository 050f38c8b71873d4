-- The words of XREADGROUP that name one stream.
use Rattle.std.proofs.Common.{◌≡◌, ◌≢◌, ◌<◌, ℕ, false, List, [], ◌∷◌, get_or, length, ap, subst, ◌∙◌, sym, arith}
use Rattle.std.specs.Global.{Vec}
use Rattle.std.specs.Prelude.{IfOk, Result, Ok, Err, codes}
use Rattle.server_store.specs.declared.entry_id.EntryId.{EntryId}
use Rattle.server_store.specs.declared.stream.Stream.{Stream}
use Rattle.server_commands.specs.IdWords.{Fits}
use Rattle.server_commands.specs.ReadGroup.{ReadsGroup, ReadsOne}
use Rattle.server_commands.specs.ReadingOne.{IsReadIn}
use Rattle.server_commands.specs.Rereading.{IsRereadIn, IsWordOf, largest}
use Rattle.server_commands.specs.declared.answer.Answer.{Answer}

module _ (now : ℕ) (old new : List Stream) (words : List (Vec ℕ)) (group consumer key text : Vec ℕ) where
  -- what one stream is read for, as an outcome
  abbrev pub News : ℕ → Answer → Type 0
  News most answer = text.items ≡ codes ">" → IsReadIn key.items consumer.items now most group.items answer old new

  abbrev pub Own : ℕ → Answer → Type 0
  Own most answer = (id : EntryId) → Fits id → id ≢ largest → IsWordOf id text.items
      → IsRereadIn key.items consumer.items now most id group.items answer old new

  is_at : (i : ℕ) (item : Vec ℕ) (others : List (Vec ℕ)) → item ≡ get_or words i item → words ≡ others → item ≡ get_or others i item
  is_at i item others at same = at ∙ ap (λ (ws : List (Vec ℕ)). get_or ws i item) same

  module _ (at_group : group ≡ get_or words 1 group) (at_consumer : consumer ≡ get_or words 2 consumer) where
    pub plain_read : {E : Type 0} (r : Result Answer E) → length words ≡ 6 → key ≡ get_or words 4 key → text ≡ get_or words 5 text
        → IfOk r (News 18446744073709551615) → IfOk r (Own 18446744073709551615)
        → IfOk r (λ answer. ReadsGroup words now answer old new)
    plain_read (Ok answer) six at_key at_text news own = record {
      plain = λ a g c b k t same first second. rw (
        sym (is_at 1 group (a ∷ g ∷ c ∷ b ∷ k ∷ t ∷ []) at_group same),
        sym (is_at 2 consumer (a ∷ g ∷ c ∷ b ∷ k ∷ t ∷ []) at_consumer same),
        sym (is_at 4 key (a ∷ g ∷ c ∷ b ∷ k ∷ t ∷ []) at_key same),
        sym (is_at 5 text (a ∷ g ∷ c ∷ b ∷ k ∷ t ∷ []) at_text same),
      ) (record { news = news; own = own });
      counted = λ a g c b n d k t same first second third. absurd (omega (arith, six, ap length same));
    }
    plain_read (Err e) six at_key at_text news own = tt

    pub counted_read : {E : Type 0} (r : Result Answer E) (most : ℕ) → 0 < most → length words ≡ 8 → key ≡ get_or words 6 key
        → text ≡ get_or words 7 text → IfOk r (News most) → IfOk r (Own most)
        → IfOk r (λ answer. ReadsGroup words now answer old new)
    counted_read (Ok answer) most some eight at_key at_text news own = record {
      plain = λ a g c b k t same first second. absurd (omega (arith, eight, ap length same));
      counted = λ a g c b n d k t same first second third. (
        most,
        some,
        rw (
          sym (is_at 1 group (a ∷ g ∷ c ∷ b ∷ n ∷ d ∷ k ∷ t ∷ []) at_group same),
          sym (is_at 2 consumer (a ∷ g ∷ c ∷ b ∷ n ∷ d ∷ k ∷ t ∷ []) at_consumer same),
          sym (is_at 6 key (a ∷ g ∷ c ∷ b ∷ n ∷ d ∷ k ∷ t ∷ []) at_key same),
          sym (is_at 7 text (a ∷ g ∷ c ∷ b ∷ n ∷ d ∷ k ∷ t ∷ []) at_text same),
        ) (record { news = news; own = own }),
      );
    }
    counted_read (Err e) most some eight at_key at_text news own = tt
