-- Streams that are other ones.
use Rattle.std.proofs.Common.{◌≡◌, ◌≢◌, ◌∙◌, [], IfSome, None, Option, Some, ap, codes, option_map, string_bytes}
use Rattle.std.specs.Prelude.{String}
use Rattle.std.specs.Prelude.{unwrap_or}
use Rattle.std.specs.declared.alloc.Global.{Global}
use Rattle.clap.specs.Words.{first_value}
use Rattle.clap.specs.declared.parser.matches.Found.{Found}
use Rattle.command_lines.specs.WorkerSettings.{word_in}
use Rattle.worker.specs.declared.dead_letters.search.GiveUp.{GiveUp}
use Rattle.stream_sqlite.specs.Options.{AreOptions, IsApart, IsOtherThan}
use Rattle.stream_sqlite.specs.declared.options.Options.{Options}

-- TARGET is not KEY
apart_from_key : (found : Found) (key : String Global) (target : Option (String Global))
    → string_bytes key ≡ word_in found (codes "KEY")
    → IfSome target (λ t. string_bytes t ≢ word_in found (codes "KEY"))
    → IfSome target (λ t. string_bytes t ≢ string_bytes key)
apart_from_key found key None is other = tt
apart_from_key found key (Some t) is other = λ same. other (same ∙ is)

-- the stream of dead letters is not TARGET
apart_from_dead : (found : Found) (target : Option (String Global)) (dead : Option GiveUp)
    → option_map string_bytes target ≡ first_value found (codes "forward") → IsOtherThan found dead
    → IfSome target (λ t. IfSome dead (λ g. string_bytes g.stream ≢ string_bytes t))
apart_from_dead found None dead given other = tt
apart_from_dead found (Some t) None given other = tt
apart_from_dead found (Some t) (Some g) given other = λ same. other (same ∙ ap (λ o. unwrap_or o []) given)

pub are_apart : (found : Found) (o : Options) → AreOptions found o → IsApart o
are_apart found o are = record {
  key = apart_from_key found o.settings.key o.forward are.settings.key are.forward.other;
  dead = apart_from_dead found o.forward o.dead are.forward.given are.other;
}
