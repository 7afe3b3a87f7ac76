-- What is right of the stock of an opened index is right of its file.
--
--   answers_opened   an answer
use Rattle.std.proofs.Common.{ℕ, List, sym, subst}
use Rattle.std.specs.Prelude.{Result}
use Rattle.cs_file.specs.Indexes.{IndexView, IsIndex, StandsFor}
use Rattle.cs_file.specs.declared.fault.FetchFault.{FetchFault}
use Rattle.cs_model.specs.Replies.{Reply}
use Rattle.cs_model.specs.Requests.{Request}
use Rattle.cs_model_index.specs.Sections.{file_corpus}
use Rattle.cs_rows.specs.IndexReading.{stock_of}
use Rattle.cs_rows.specs.Stocked.{corpus_in}
use Rattle.cs_rows.proofs.StockLemmas.{stock_corpus}
use Rattle.cs_engine.specs.Keeping.{AnswersRight, AreGood, AreGoodFor, EngineView}
use Rattle.cs_engine.specs.declared.note.Note.{Note}

pub answers_opened : (b : List ℕ) (i : IndexView) → StandsFor b i → IsIndex i → {r : Request} {old new : EngineView} {a : Result (Reply × Note) FetchFault}
    → (AreGoodFor (corpus_in (stock_of b)) (stock_of b) old → AnswersRight (corpus_in (stock_of b)) (stock_of b) r old a new)
    → AreGood b old → AnswersRight (file_corpus b) (stock_of b) r old a new
answers_opened b i stands is {r} {old} {new} {a} right good =
    let same = stock_corpus b i stands is in
    subst (λ k. AnswersRight k (stock_of b) r old a new) same (right (subst (λ k. AreGoodFor k (stock_of b) old) (sym same) good))
