use Rattle.std.proofs.Common.{List, ℕ, ◌++◌, ap, subst, ◌∙◌}
use Rattle.std.specs.Prelude.{filter}
use Rattle.cs_base.specs.declared.content.doc.Post.{Post}
use Rattle.cs_block.specs.Sought.{is_sought}
use Rattle.cs_model_index.specs.BlockRules.{IsBlock}
use Rattle.cs_file.proofs.SoughtPosts.{decoded_known, decoded_sought}
use Rattle.cs_file.proofs.sought.put_sought.Goals as goal

pub seek_rows-requires : goal.seek_rows-requires
seek_rows-requires c =
    let placed = c.args.placed.now in
    let rows = c.in_ok-rows.rows.posts in
    let bytes = c.deref.ensures.value ∙ c.in_ok-seek_listed.ensures.block.0 in
    let block = subst (IsBlock placed.weights placed.head placed.docs rows) bytes c.in_ok-rows.ensures.ok in
    decoded_known placed.weights placed.head placed.docs c.args.into.now.block.bytes.items c.args.listed.now rows c.requires.listed block

pub returns-clause-ok : goal.returns-clause-ok
returns-clause-ok c =
    let placed = c.args.placed.now in
    let rows = c.in_ok-rows.rows.posts in
    let lo = c.args.words.0 in
    let hi = c.args.words.1 in
    let listed = c.args.listed.now in
    let bytes = c.deref.ensures.value ∙ c.in_ok-seek_listed.ensures.block.0 in
    let block = subst (IsBlock placed.weights placed.head placed.docs rows) bytes c.in_ok-rows.ensures.ok in
    let are = c.in_ok-seek_rows.ensures ∙ ap (λ (x : List Post). x ++ filter (is_sought lo hi listed) rows) c.truncate.ensures.items in
    decoded_sought lo hi listed placed c.args.into.now.block.bytes.items rows c.seek_rows.new.posts.items c.requires.judged block are
