-- The command line: its words, and how a run of it may end: with which status, with which line on standard error, and what a failure owes.
--
--   Command                                  what the words ask for
--   is_number n g w                          w is 1 to n digits whose number is from 1 to g
--   some_if b c                              the command c where b holds, else None
--   two_words, trial_words, import_words, serve_words, three_words      the command of a word of the table and of the words behind it
--   command_of words                         the command; None where the words aren't in the table
--   Ending                                   done, words not in the table, a refused source, a damaged index file, a file that isn't
--                                            held, a failed device, no memory, a refused line of the script, an index file that changed,
--                                            index files that aren't merged
--   status e                                 the exit status
--   line_of e                                the line on standard error; nothing where all was done
--   SaysLine w line                          standard error grew by the line where its count didn't rise, else by a prefix of it
--   CausedBy e before now                    a run ends by a failure only where this count rose; else the count stays as it was
--   Caused e ..                              the same for the counts of files and of out: one of the two rose
--
-- The table: build COLLECTION INDEX, ask COLLECTION SCRIPT, replay INDEX SCRIPT, serve INDEX PORT CONNS, trial N, upgrade INDEX NEW,
-- import csv SOURCE INDEX, import jsonl SOURCE INDEX, excerpts COLLECTION SCRIPT, merge INDEX1 INDEX2 NEW, live INDEX SCRIPT.
use Rattle.std.specs.Prelude.{ℕ, Bool, ◌&&◌, nat_le, nat_lt, if◌then◌else◌, List, [], ◌∷◌, Option, Some, None, codes, ◌≡◌, ◌⊎◌, ◌≤◌, ◌++◌}
use Rattle.std.specs.Str.{bytes_eq}
use Rattle.cs_model.specs.Digits.{has_digits, number_of}
use Rattle.std.specs.Fmt.{decimal}
use Rattle.cs_base.specs.outside.Causes.{Rose}
use Rattle.cs_base.specs.outside.Outside.{Grew, GrewByPrefix}
use Rattle.cs_base.specs.declared.content.limits.TheConstants.{MAX_PORT_DIGITS, MAX_PORT, MAX_CONNECTIONS_DIGITS, MAX_CONNECTIONS, MAX_TRIAL_DIGITS, MAX_TRIAL}
use Rattle.cs_model.specs.Outputs.{ScriptFault, fault_words}
use Rattle.cs_model_merge.specs.Merges.{MergeRefusal, merge_words}
use Rattle.cs_indexing.specs.Import.{Refusal, refused_words}
use Rattle.cs_indexing.specs.Met.{Wrote}
use Rattle.cs_indexing.specs.declared.words.Form.{Form}
use Rattle.cs_indexing.specs.declared.words.Form.TheVariants as forms
use Rattle.cs_indexing.specs.declared.words.HitForm.{HitForm}
use Rattle.cs_indexing.specs.declared.words.HitForm.TheVariants.{Titled, Excerpted}

-- what the words ask for, with the words behind the command's name; `import` builds from a source of another form than a collection, and
-- `excerpts` asks with hits of another form than titled ones
pub data Command : Type 0 where
  build : Form → List ℕ → List ℕ → Command
  ask : HitForm → List ℕ → List ℕ → Command
  replay : List ℕ → List ℕ → Command
  serve : List ℕ → List ℕ → List ℕ → Command
  trial : List ℕ → Command
  upgrade : List ℕ → List ℕ → Command
  merge : List ℕ → List ℕ → List ℕ → Command
  live : List ℕ → List ℕ → Command

-- 1 to n digits, zeros in front included, whose number is from 1 to g; no word without bytes
abbrev pub is_number : ℕ → ℕ → List ℕ → Bool
is_number n g w = has_digits n w && (nat_lt 0 (number_of w) && nat_le (number_of w) g)

-- the command where b holds
abbrev pub some_if : Bool → Command → Option Command
some_if b c = if b then Some c else None

-- a command of two words
abbrev pub two_words : List ℕ → List ℕ → List ℕ → Option Command
two_words c a b =
    if bytes_eq c (codes "build") then Some (build forms.Collection a b)
    else (if bytes_eq c (codes "ask") then Some (ask Titled a b)
    else (if bytes_eq c (codes "replay") then Some (replay a b)
    else (if bytes_eq c (codes "upgrade") then Some (upgrade a b)
    else (if bytes_eq c (codes "excerpts") then Some (ask Excerpted a b)
    else some_if (bytes_eq c (codes "live")) (live a b)))))

-- `trial` with a number from 1 to `MAX_TRIAL`
abbrev pub trial_words : List ℕ → List ℕ → Option Command
trial_words c n = some_if (bytes_eq c (codes "trial") && is_number MAX_TRIAL_DIGITS MAX_TRIAL n) (trial n)

-- `serve` with a port from 1 to `MAX_PORT` and from 1 to `MAX_CONNECTIONS` connections
abbrev pub serve_words : List ℕ → List ℕ → List ℕ → List ℕ → Option Command
serve_words c i p n = some_if (bytes_eq c (codes "serve") && (is_number MAX_PORT_DIGITS MAX_PORT p && is_number MAX_CONNECTIONS_DIGITS MAX_CONNECTIONS n)) (serve i p n)

-- `import` with the name of a form, which no collection has
abbrev pub import_words : List ℕ → List ℕ → List ℕ → Option Command
import_words form s i =
    if bytes_eq form (codes "csv") then Some (build forms.Csv s i)
    else some_if (bytes_eq form (codes "jsonl")) (build forms.JsonLines s i)

-- a command of three words
abbrev pub three_words : List ℕ → List ℕ → List ℕ → List ℕ → Option Command
three_words c a b d =
    if bytes_eq c (codes "import") then import_words a b d
    else (if bytes_eq c (codes "merge") then Some (merge a b d) else serve_words c a b d)

-- the command of the words behind the program's name; None of no words
abbrev pub command_of : List (List ℕ) → Option Command
command_of (c ∷ n ∷ []) = trial_words c n
command_of (c ∷ a ∷ b ∷ []) = two_words c a b
command_of (c ∷ a ∷ b ∷ d ∷ []) = three_words c a b d
command_of _ = None

-- how a run may end; one is done that did all that the words ask for
pub data Ending : Type 0 where
  done : Ending
  usage : Ending
  refused : Refusal → Ending
  damaged : ℕ → ℕ → Ending
  absent : List ℕ → Ending
  failed : Ending
  no_memory : Ending
  script_refused : ScriptFault → Ending
  changed : Ending
  merge_refused : MergeRefusal → Ending

-- the exit status; 0 where all was done
abbrev pub status : Ending → ℕ
status done = 0
status usage = 2
status (refused r) = 3
status (damaged rule at) = 4
status (absent name) = 5
status failed = 6
status no_memory = 7
status (script_refused f) = 8
status changed = 9
status (merge_refused r) = 10

-- the line on standard error, with its ending; no bytes where all was done
abbrev pub line_of : Ending → List ℕ
line_of done = []
line_of usage = codes "usage: complete build COLLECTION INDEX | ask COLLECTION SCRIPT | replay INDEX SCRIPT | serve INDEX PORT CONNS | trial N | upgrade INDEX NEW | import csv SOURCE INDEX | import jsonl SOURCE INDEX | excerpts COLLECTION SCRIPT | merge INDEX1 INDEX2 NEW | live INDEX SCRIPT\n"
line_of (refused r) = codes "collection: " ++ (refused_words r ++ 10 ∷ [])
line_of (damaged rule at) = codes "index: rule " ++ (decimal rule ++ (codes " at " ++ (decimal at ++ 10 ∷ [])))
line_of (absent name) = codes "absent: " ++ name ++ 10 ∷ []
line_of failed = codes "device failed\n"
line_of no_memory = codes "memory\n"
line_of (script_refused f) = codes "script: " ++ (fault_words f ++ 10 ∷ [])
line_of changed = codes "index changed\n"
line_of (merge_refused r) = codes "merge: " ++ (merge_words r ++ 10 ∷ [])

-- standard error grew by the line where its count didn't rise, else by some first bytes of it
pub record SaysLine (w : Wrote) (line : List ℕ) : Type 0 where
  pub whole : ¬ Rose w.before w.now → Grew w.old line w.new
  pub some : GrewByPrefix w.old line w.new

-- a failure comes only where the count rose, and it never falls; else it stays as it was
abbrev pub CausedBy : Ending → ℕ → ℕ → Type 0
CausedBy failed before now = Rose before now × (before ≤ now)
CausedBy e before now = now ≡ before

-- a failure comes only where one of the two counts rose, and neither falls; else both stay as they were
abbrev pub Caused : Ending → ℕ → ℕ → ℕ → ℕ → Type 0
Caused failed files_before files_now out_before out_now = (Rose files_before files_now ⊎ Rose out_before out_now) × (files_before ≤ files_now) × (out_before ≤ out_now)
Caused e files_before files_now out_before out_now = (files_now ≡ files_before) × (out_now ≡ out_before)
