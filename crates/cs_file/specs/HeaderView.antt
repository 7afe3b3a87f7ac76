-- The header as the code has it, as the header that the rules speak of.
--
--   seen_header h    its version and numbers
use Rattle.cs_model_index.specs.Layout.{Header}
use Rattle.cs_file.specs.declared.header.Header.{Header as Numbers}

-- all of them
abbrev pub seen_header : Numbers → Header
seen_header h = record {
  two = h.two;
  docs = h.docs;
  words = h.words;
  rows = h.rows;
  blocks = h.blocks;
  target = h.target;
  vocabulary_len = h.vocabulary_len;
  titles_len = h.titles_len;
  blocks_len = h.blocks_len;
  weights = h.weights;
}
