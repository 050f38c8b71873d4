-- Commands between the rounds, by which entries are given up.
use Rattle.std.proofs.Common.{◌≡◌, IfSome, None, Option, Some, false}
use Rattle.redis_connection.specs.Link.{Link}
use Rattle.worker.specs.DeadLetters.Besides.{Besides, BreaksBesides}
use Rattle.model_workers.proofs.LoopsLemmas.ShownLemmas as shown
use Rattle.model_workers.specs.Loops.Loop.{Loops, Stops}
use Rattle.worker_table.proofs.LivedLemmas.{leads_both, leads_stop, rows_picture}
use Rattle.worker_table.specs.Kept.{Kept, committed_with, kept_of, kept_too}
use Rattle.worker_table.specs.Lived.{Leads}
use Rattle.stream_sqlite.specs.Program.{SearchesAfter}
use Rattle.worker.specs.Session.{Standing}
use Rattle.worker.specs.declared.dead_letters.search.DeadLetterSearch.{DeadLetterSearch}
use Rattle.worker.specs.declared.state.Asked.{Asked}
use Rattle.worker.specs.declared.state.Settings.{Settings}

leads_besides : (settings : Settings) (old new : Link) (w : Standing Kept) → Besides old new
    → Leads (Loops settings) old new w w
leads_besides settings old new w a =
    shown.leads_besides kept_too committed_with kept_of rows_picture settings old new w a

pub leads_breaks : (settings : Settings) (old new : Link) (w : Standing Kept) → BreaksBesides old new
    → Leads (Stops settings) old new w w
leads_breaks settings old new w a =
    shown.leads_breaks kept_too committed_with kept_of rows_picture settings old new w a

-- it looked, and then a round went on
pub looked_on : (settings : Settings) (old m new : Link) (w x : Standing Kept) → Besides old m
    → Leads (Loops settings) m new w x → Leads (Loops settings) old new w x
looked_on settings old m new w x a b = leads_both settings old m new w w x (leads_besides settings old m w a) b

-- it looked, and then a round stopped
pub looked_stops : (settings : Settings) (old m new : Link) (w x : Standing Kept) → Besides old m
    → Leads (Stops settings) m new w x → Leads (Stops settings) old new w x
looked_stops settings old m new w x a b = leads_stop settings old m new w w x (leads_besides settings old m w a) b

-- a search that is due, if any, and then rounds
pub searched_first : (settings : Settings) (dead : Option DeadLetterSearch) (asked : Asked) (l m n : Link)
    (w x : Standing Kept) → IfSome dead (λ d. d.waits ≡ false → SearchesAfter d asked l m)
    → Leads (Loops settings) m n w x
    → IfSome dead (λ d. d.waits ≡ false → (k : Link) × SearchesAfter d asked l k × Leads (Loops settings) k n w x)
searched_first settings None asked l m n w x searched leads = searched
searched_first settings (Some d) asked l m n w x searched leads = λ waits. (m, searched waits, leads)
