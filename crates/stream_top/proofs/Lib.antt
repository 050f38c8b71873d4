-- Lemmas on what the program asks, on the values that it reads, and on its status.
mod AskedLemmas
mod SaidLemmas
mod ShapeLemmas
mod StatusLemmas
