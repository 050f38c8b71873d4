use Rattle.server_commands.proofs.ReadAnswerLemmas.{reading_news_is_the_event}
use Rattle.server_commands.proofs.laws.reading_news_is_the_event.Goals as goal

pub returns : goal.returns
returns c = reading_news_is_the_event
