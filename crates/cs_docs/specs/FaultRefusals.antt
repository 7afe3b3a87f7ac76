-- What a fault says of a collection.
--
--   refusal_of e         the refusal that the reader's fault e names; None for want of memory
--   rows_refusal_of e    the same of a fault of rows
--   words_said n w       the words w, of line n where there is one
--   reason_text r        a reason as it is said
--   IsCauseOf r e        the refusal r, if there is one, is the one that e names; want of memory has no cause
--   refusal_from d n ls  the first refusal of lines that begin at line n, where d documents stand before them
--   front_refusal ls     the refusal of the weights line of lines that begin at line 1
use Rattle.std.specs.Prelude.{◌≡◌, ℕ, List, Option, Some, None, map, MatchOption}
use Rattle.cs_model.specs.Collection.{CollectionRefusal, too_large, not_utf8, line_too_long, bad_weights, words_too_many, bad_facet, bad_name, too_many_docs, too_many_rows, line_refusal, weights_refusal, in_line}
use Rattle.cs_model.specs.First.{first_reason}
use Rattle.cs_docs.specs.declared.fault.DocFault.{DocFault}
use Rattle.cs_docs.specs.declared.fault.DocFault.TheVariants.{TooLarge, NotUtf8, LineTooLong, BadWeights, WordsTooMany, BadFacet, BadName, TooManyDocs, Memory}
use Rattle.cs_docs.specs.declared.fault.RowsFault.{RowsFault}
use Rattle.cs_docs.specs.declared.fault.RowsFault.TheVariants as rows
use Rattle.cs_docs.specs.declared.fault.Reason.{Reason}
use Rattle.cs_docs.specs.LinesRead.{doc_lines_from, weights_lines_of}

abbrev pub refusal_of : DocFault → Option CollectionRefusal
refusal_of TooLarge = Some too_large
refusal_of (NotUtf8 n) = Some (not_utf8 n)
refusal_of (LineTooLong n) = Some (line_too_long n)
refusal_of (BadWeights n) = Some (bad_weights n)
refusal_of (WordsTooMany n) = Some (words_too_many n)
refusal_of (BadFacet n) = Some (bad_facet n)
refusal_of (BadName n) = Some (bad_name n)
refusal_of (TooManyDocs n) = Some (too_many_docs n)
refusal_of Memory = None

abbrev pub rows_refusal_of : RowsFault → Option CollectionRefusal
rows_refusal_of rows.TooManyRows = Some too_many_rows
rows_refusal_of rows.Memory = None

abbrev pub words_said : Option ℕ → List ℕ → List ℕ
words_said None w = w
words_said (Some n) w = in_line n w

abbrev pub reason_text : Reason → List ℕ
reason_text r = words_said r.line r.words.now

-- where e is no want of memory, r is there
abbrev pub IsCauseOf : Option CollectionRefusal → DocFault → Type 0
IsCauseOf r e = MatchOption (refusal_of e) (Unit {0}) (λ x. r ≡ Some x)

-- None where no line is refused
abbrev pub refusal_from : ℕ → ℕ → List (List ℕ) → Option CollectionRefusal
refusal_from d n ls = first_reason (map line_refusal (doc_lines_from d n ls))

-- None where they have no weights line, or one that says weights
abbrev pub front_refusal : List (List ℕ) → Option CollectionRefusal
front_refusal ls = first_reason (map weights_refusal (weights_lines_of ls))
