use Rattle.std.proofs.Common.{◌≡◌, ◌<◌, ◌≤◌, ◌^◌, [], true, length, sym, ap, subst, ◌∙◌}
use Rattle.std.specs.Prelude.{OnOk}
use Rattle.std.specs.List.{All}
use Rattle.std.specs.Str.{IsUtf8}
use Rattle.cs_base.specs.content.Orders.{by_row}
use Rattle.cs_base.specs.declared.content.limits.TheConstants.{MAX_LINE_BYTES, MAX_WORDS}
use Rattle.cs_base.proofs.OrdersLemmas.{by_row_total, by_row_exact}
use Rattle.cs_docs.proofs.TextLemmas.{All-members}
use Rattle.cs_model.specs.Corpus.{distinct_words}
use Rattle.cs_model_index.specs.BlockRules.{is_scored}
use Rattle.cs_model_index.specs.FileRules.{is_word}
use Rattle.cs_model_index.specs.Layout.{title_bytes}
use Rattle.cs_model_index.specs.Numbered.{post_of}
use Rattle.cs_model_index.specs.Partitions.{is_facet}
use Rattle.cs_build.proofs.MadeLemmas.{same_words}
use Rattle.cs_build.proofs.building.image.Goals as goal

pub returns-clause-few_words : goal.returns-clause-few_words
returns-clause-few_words c = subst (λ ws. OnOk c.image_of_columns.result (length ws ≤ MAX_WORDS)) (ap distinct_words (c.in_ok-columns.ensures.ok ∙ c.in_ok-rows.ensures.ok) ∙ same_words c.args.rows) c.image_of_columns.ensures.few_words

pub returns-clause-too_many_words : goal.returns-clause-too_many_words
returns-clause-too_many_words c = λ e. subst (λ ws. MAX_WORDS < length ws) (ap distinct_words (c.in_ok-columns.ensures.ok ∙ c.in_ok-rows.ensures.ok) ∙ same_words c.args.rows) (c.image_of_columns.ensures.too_many_words e)

pub returns-clause-limits : goal.returns-clause-limits
returns-clause-limits c = λ k.
    let all = sym (c.in_ok-columns.ensures.ok ∙ c.in_ok-rows.ensures.ok) in
    let titles = sym c.in_ok-titles.ensures.ok in
    c.image_of_columns.ensures.limits (record {
      weights = k.weights;
      texts = subst (All IsUtf8) titles k.texts;
      short = subst (All (λ t. length t ≤ MAX_LINE_BYTES)) titles k.short;
      few_bytes = subst (λ ts. length (title_bytes ts) < 2 ^ 32) titles k.few_bytes;
      words = subst (All (λ r. is_word r.word ≡ true)) all (All-members by_row by_row_total by_row_exact (λ r. is_word r.word ≡ true) c.args.rows k.words);
      scored = subst (All (λ r. is_scored c.args.weights (is_facet r.word) (post_of [] r) ≡ true)) all (All-members by_row by_row_total by_row_exact (λ r. is_scored c.args.weights (is_facet r.word) (post_of [] r) ≡ true) c.args.rows k.scored);
    })
