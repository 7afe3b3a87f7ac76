-- The command line, and how a run ends, on worked texts.
use Rattle.std.proofs.Common.{◌≡◌, [], ◌∷◌, refl}
use Rattle.std.specs.Prelude.{Some, None, codes}
use Rattle.cs_model.specs.Collection.{bad_facet, in_line, too_many_words}
use Rattle.cs_model_sources.specs.SourceRefusals.{of_line, of_lines}
use Rattle.cs_model_sources.specs.declared.flat.Why.TheVariants.{Header, Field}
use Rattle.cs_indexing.specs.CommandLine.{command_of, build, ask, serve, trial, upgrade, merge, live, refused, absent, line_of}
use Rattle.cs_indexing.specs.Import.{of_collection, of_csv, of_jsonl, refused_words}
use Rattle.cs_indexing.specs.declared.words.Form.TheVariants as forms
use Rattle.cs_indexing.specs.declared.words.HitForm.TheVariants as hits

-- the command line's table
words-ask : command_of (codes "ask" ∷ codes "C" ∷ codes "Q" ∷ []) ≡ Some (ask hits.Titled (codes "C") (codes "Q"))
words-ask = refl

-- with excerpts it is asked by another word
words-excerpts : command_of (codes "excerpts" ∷ codes "C" ∷ codes "Q" ∷ []) ≡ Some (ask hits.Excerpted (codes "C") (codes "Q"))
words-excerpts = refl

-- a form's name stands behind `import`
words-import : command_of (codes "import" ∷ codes "csv" ∷ codes "T" ∷ codes "I" ∷ []) ≡ Some (build forms.Csv (codes "T") (codes "I"))
words-import = refl

-- a collection isn't imported
words-form : command_of (codes "import" ∷ codes "tsv" ∷ codes "T" ∷ codes "I" ∷ []) ≡ None
words-form = refl

-- two index files and a third name
words-merge : command_of (codes "merge" ∷ codes "A" ∷ codes "B" ∷ codes "N" ∷ []) ≡ Some (merge (codes "A") (codes "B") (codes "N"))
words-merge = refl

-- documents are added to one and deleted from it while a script is answered
words-live : command_of (codes "live" ∷ codes "I" ∷ codes "Q" ∷ []) ≡ Some (live (codes "I") (codes "Q"))
words-live = refl

-- one is upgraded
words-upgrade : command_of (codes "upgrade" ∷ codes "I" ∷ codes "N" ∷ []) ≡ Some (upgrade (codes "I") (codes "N"))
words-upgrade = refl

-- a word too few
words-few : command_of (codes "ask" ∷ codes "C" ∷ []) ≡ None
words-few = refl

-- a number may have leading zeros
words-trial : command_of (codes "trial" ∷ codes "0010" ∷ []) ≡ Some (trial (codes "0010"))
words-trial = refl

-- the number of a trial is at most a thousand
words-beyond : command_of (codes "trial" ∷ codes "1001" ∷ []) ≡ None
words-beyond = refl

-- the greatest port
words-serve : command_of (codes "serve" ∷ codes "I" ∷ codes "65535" ∷ codes "1" ∷ []) ≡ Some (serve (codes "I") (codes "65535") (codes "1"))
words-serve = refl

-- there is no greater port
words-port : command_of (codes "serve" ∷ codes "I" ∷ codes "65536" ∷ codes "1" ∷ []) ≡ None
words-port = refl

-- what is said
says-words : line_of (refused (of_collection too_many_words)) ≡ codes "collection: too many distinct words\n"
says-words = refl

-- a table's bad line
says-header : refused_words (of_csv (of_line (record { line = 1; why = Header }))) ≡ in_line 1 (codes "bad header")
says-header = refl

-- a record has the number of its line in the translation
says-record : refused_words (of_csv (of_lines (bad_facet 2))) ≡ in_line 2 (codes "bad facet")
says-record = refl

-- a line of JSON has the number of the line before
says-json : refused_words (of_jsonl (of_lines (bad_facet 2))) ≡ in_line 1 (codes "bad facet")
says-json = refl

-- and its own where it isn't translated
says-field : refused_words (of_jsonl (of_line (record { line = 1; why = Field }))) ≡ in_line 1 (codes "bad field")
says-field = refl

-- what isn't there is named
says-absent : line_of (absent (codes "I")) ≡ codes "absent: I\n"
says-absent = refl
