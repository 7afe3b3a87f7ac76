use Rattle.std.proofs.Common.{◌≡◌, ℕ, ◌<◌, true, get_or}
use Rattle.cs_tables.proofs.word_counts.is_one_word.Given as goal

abbrev pub invariant-loop-word : goal.invariant-loop-word
invariant-loop-word l = l.all ≡ true → (k : ℕ) (d : ℕ) → k < l.word-index → get_or l.words k d ≡ l.first
