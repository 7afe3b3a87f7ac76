-- The texts of faults and of a reply that has nothing: the definitions computed.
use Rattle.std.proofs.Common.{◌≡◌, [], refl, length, codes}
use Rattle.std.specs.Fmt.{digits}
use Rattle.json.specs.Print.{escape_byte}
use Rattle.cs_base.specs.declared.content.query.Which.TheVariants as limits
use Rattle.cs_model.specs.Faults.{error_text, bad_text, limit_word, limit_text, param_text, changed_text}
use Rattle.cs_model.specs.Replies.{Reply, reply_text}

-- the query is refused at a byte
text-bad : bad_text 2 ≡ codes "{\"at\":2,\"error\":\"bad\"}"
unfolding bad_text escape_byte digits
text-bad = refl

-- a limit refuses it there
text-limit : limit_text 120 (limit_word limits.Word) ≡ codes "{\"at\":120,\"error\":\"limit\",\"which\":\"word\"}"
unfolding limit_text escape_byte digits
text-limit = refl

-- a parameter is refused
text-param : param_text (codes "h") ≡ codes "{\"error\":\"param\",\"param\":\"h\"}"
unfolding param_text escape_byte digits
text-param = refl

-- a read failed
text-read : error_text (codes "read") ≡ codes "{\"error\":\"read\"}"
unfolding error_text escape_byte digits
text-read = refl

-- the index file breaks a rule
text-changed : changed_text 17 103 ≡ codes "{\"at\":103,\"error\":\"changed\",\"rule\":17}"
unfolding changed_text escape_byte digits
text-changed = refl

-- a reply that has nothing
abbrev nothing : Reply
nothing = record { completions = []; facets = []; hits = []; total_completions = 0; total_hits = 0 }

-- its text
text-nothing : reply_text nothing ≡ codes "{\"completions\":[],\"facets\":{},\"hits\":[],\"total\":{\"completions\":0,\"hits\":0}}"
unfolding reply_text escape_byte digits
text-nothing = refl

-- it has 75 bytes
text-nothing_size : length (reply_text nothing) ≡ 75
unfolding reply_text escape_byte digits
text-nothing_size = refl
