-- A file whose last bytes a crash may damage: the bytes that each crash leaves, and the unsynced bytes.
use Rattle.std.specs.Prelude.{◌≡◌, ◌≤◌, ◌+◌, ◌⊎◌, ℕ, List, [], ◌∷◌, ◌++◌, length, take, drop}
use Rattle.std.proofs.Common.{inl, inr, zero, refl, arith}
use Rattle.worker_journal.specs.declared.torn.Content.{Content}

-- the bytes that a read returns
abbrev pub all_of : Content → List ℕ
all_of content = content.front.items ++ content.waits.items

-- the largest number of unsynced bytes that a crash may leave
abbrev pub room_of : Content → ℕ
room_of content = length content.waits.items + content.extra

-- a crash leaves the synced bytes, and then any prefix of the bytes that were cut off after them. Any other
-- bytes may follow, at most `room_of`
abbrev pub Leaves : Content → List ℕ → Type 0
Leaves content c = (uncut : ℕ) × (behind : List ℕ)
    × (c ≡ content.front.items ++ (take uncut content.cut_off.items ++ behind)) × (length behind ≤ room_of content)

-- all of `bytes` is on the disk. No byte is unsynced, and a crash cannot bring cut-off bytes back
pub record IsSynced (content : Content) (bytes : List ℕ) : Type 0 where
  pub front : content.front.items ≡ bytes
  pub cut_off : content.cut_off.items ≡ []
  pub waits : content.waits.items ≡ []
  pub extra : content.extra ≡ 0

-- `copy` equals `content`
pub record IsCopy (content copy : Content) : Type 0 where
  pub front : copy.front.items ≡ content.front.items
  pub cut_off : copy.cut_off.items ≡ content.cut_off.items
  pub waits : copy.waits.items ≡ content.waits.items
  pub extra : copy.extra ≡ content.extra

-- a crash at one of these moments may have left the bytes `c`
abbrev pub HadLeft : List Content → List ℕ → Type 0
HadLeft [] c = ⊥
HadLeft (content ∷ past) c = Leaves content c ⊎ HadLeft past c

-- a crash since the moment `t` may have left the bytes `c`
abbrev pub LeftSince : List Content → Content → ℕ → List ℕ → Type 0
LeftSince past now t c = Leaves now c ⊎ HadLeft (drop t past) c

-- a crash may leave the bytes that a read returns
pub all_is_left : (content : Content) → Leaves content (all_of content)
all_is_left content = (zero, content.waits.items, refl, omega arith)

none_left : (past : List Content) (c : List ℕ) → HadLeft (drop (length past) past) c → ⊥
none_left [] c had = had
none_left (content ∷ past) c had = none_left past c had

-- since the last of the moments in `past` there was only the current content
pub only_now : (past : List Content) (now : Content) (c : List ℕ) → LeftSince past now (length past) c → Leaves now c
only_now past now c (inl left) = left
only_now past now c (inr had) = absurd (none_left past c had)
