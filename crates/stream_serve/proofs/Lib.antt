mod CommandLemmas
mod OutputLemmas
mod ServedLemmas
mod WholeLemmas
mod WordsLemmas
