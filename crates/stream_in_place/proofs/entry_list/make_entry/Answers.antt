use Rattle.std.proofs.Common.{rules, ◌≡◌, true}
use Rattle.std.specs.Str.{is_utf8}
use Rattle.std.proofs.lemmas.Str.{IsUtf8-from_is_utf8}
use Rattle.stream_in_place.proofs.entry_list.make_entry.Goals as goal

pub from_utf8_unchecked-id-requires : goal.from_utf8_unchecked-id-requires
from_utf8_unchecked-id-requires c =
    let text : is_utf8 c.text_in.result.now ≡ true = search rules in
    IsUtf8-from_is_utf8 c.text_in.result.now text
