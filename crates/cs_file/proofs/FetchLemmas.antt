-- What a fetched block and a title that was read are.
--
--   block_within        a block's bytes lie within the bytes of all blocks
--   never_broken        over bytes that stand for the index no rule is broken there
--   title_within        a title's bytes lie before the blocks
--   block_at, judged_at, told_within      what is known of a block's place and its head
--   BlockRead, block_read, can_judge      what is known where a block's bytes were read
--   block_of, block_stood      rows of these bytes
--   read_there, fault_unchanged, fault_changed      clauses of a fetch, from that and from what its bytes break
--   fault_along         of one that passes a fault on
--   read_once           what is left of the store by a call that read once
--   TitleRead, TitleSpan, title_span, title_found       the same of a title
--   text_long, text_utf8        its text
--   title_by, title_stood, title_unchanged, title_changed        the clauses of a title, from that and from whether it is text
use Rattle.std.proofs.Common.{◌≡◌, ℕ, ◌+◌, ◌-◌, ◌<◌, ◌≤◌, ◌^◌, true, false, true≢false, List, length, get_or, take}
use Rattle.std.proofs.Common.{Option, Some, None, Result, Ok, Err, refl, sym, ap, subst, ◌∙◌, arith}
use Rattle.std.specs.Option.{ForSome, option_map}
use Rattle.std.specs.Prelude.{IfErr, IfOk, IsErrAnd}
use Rattle.std.specs.Str.{is_utf8}
use Rattle.std.proofs.lemmas.Option.{none-some}
use Rattle.std.specs.List.{sum_by}
use Rattle.std.proofs.lemmas.List.{get_or_default, take_all}
use Rattle.std.proofs.lemmas.List.Sums.{sum_by_more_le}
use Rattle.cs_base.specs.declared.index.block.BlockHead.{BlockHead}
use Rattle.cs_base.specs.declared.index.block.Broken.{Broken}
use Rattle.cs_base.specs.declared.content.scores.Weights.{Weights}
use Rattle.cs_base.specs.outside.Outside.{part}
use Rattle.cs_model.specs.Weights.{AreWeights}
use Rattle.cs_model_index.specs.BlockRules.{judged, IsBlock, broken_at, rows_read}
use Rattle.cs_model_index.specs.FileRules.{in_file}
use Rattle.cs_model_index.specs.Blocks.{IsShaped}
use Rattle.cs_base.specs.declared.content.doc.Post.{Post}
use Rattle.cs_file.specs.CallAnswers.{IsBlockOf, IsChangeOfBlock, IsChangeOfTitle, LeavesStore, is_changed, is_read}
use Rattle.cs_file.specs.Fetching.{CanBeJudged, IsBlockAt, IsFaultAt, IsFaultOf, ReadsText}
use Rattle.cs_file.specs.declared.fault.FetchFault.{FetchFault}
use Rattle.cs_file.specs.declared.fault.FetchFault.TheVariants as fetches
use Rattle.cs_file.specs.declared.fetching.PlacedBlock.{PlacedBlock}
use Rattle.cs_file.specs.Indexes.{CausedReads, HasAllBlocks, IndexView, IsIndex, StandsFor, block_place, block_posts, title_in, title_place, title_len}
use Rattle.cs_file.proofs.HeadsLemmas.{head_shaped}
use Rattle.cs_file.proofs.OffsetsLemmas.{spans}
use Rattle.cs_file.proofs.StoodLemmas.{stood_block}
use Rattle.cs_file.proofs.TitlesLemmas.{stood_title}
use Rattle.cs_file.proofs.HeaderWeightsLemmas.{one_reading}

pub block_within : (i : IndexView) (k : ℕ) (d : BlockHead) → k < length i.heads → block_place i k + (get_or i.heads k d).len ≤ block_place i (length i.heads)
block_within i k d lt =
    let one = sum_by_more_le (λ (h : BlockHead). h.len) i.heads k d lt in
    let all : sum_by (λ h. h.len) (take (length i.heads) i.heads) ≡ sum_by (λ h. h.len) i.heads
    = ap (sum_by (λ h. h.len)) (take_all (length i.heads) i.heads (omega arith)) in
    omega (arith, one, all)

pub never_broken : (b : List ℕ) (i : IndexView) → StandsFor b i → IsIndex i → (k : ℕ) (d : BlockHead) (read : List ℕ) → k < length i.heads
    → length read ≡ (get_or i.heads k d).len → read ≡ part b (block_place i k) (get_or i.heads k d).len → judged i.weights (get_or i.heads k d) i.docs read ≡ None
never_broken b i s is k d read lt len at =
    let h = get_or i.heads k d in
    let few = is.few_docs in
    let small : i.docs < 2 ^ 32 = omega (arith, few) in
    let shaped : IsShaped h (length read) = subst (IsShaped h) (sym len) (head_shaped i is k d lt) in
    let own = subst (IsBlock i.weights h i.docs (block_posts b k)) (sym at) (stood_block b i s is k d lt) in
    (one_reading i.weights is.weights h i.docs (block_posts b k) read small shaped own).0

pub title_within : (i : IndexView) → IsIndex i → (d : ℕ) → d < i.docs → title_place i d + title_len i d ≤ block_place i (length i.heads)
title_within i is d lt =
    let sp = spans i is d lt in
    let a = sp.onward in
    let b = sp.within in
    let c = sp.blocks in
    omega (arith, a, b, c)

-- what a fault says where no rule is broken
unbroken_fault : (at : ℕ) (o : Option Broken) (e : FetchFault) → IsFaultAt at o e → o ≡ None → is_changed {T = Unit {0}} (Err e) ≡ false
unbroken_fault at o (fetches.Changed rule there) h none = absurd (none-some (broken_at rule there) (sym (ap (option_map (in_file at)) none) ∙ h))
unbroken_fault at o fetches.Read h none = refl
unbroken_fault at o fetches.Memory h none = refl

abbrev pub nothing : BlockHead
nothing = record { lo = 0; words = 0; rows = 0; len = 0; facet = false; least = 0; greatest = 0 }

pub block_at : (i own : IndexView) (k : ℕ) (hs : List BlockHead) (at : ℕ) → own ≡ i → IsIndex i → hs ≡ own.heads
    → k < length i.heads → at ≡ block_place i k → IsBlockAt i k (record { head = get_or hs k nothing; docs = own.docs; weights = own.weights; at = at })
block_at i own k hs at seen index same known at_is = record {
  index = index;
  known = known;
  small = (let few = index.small in let within = block_within i k nothing known in omega (arith, few, within, at_is));
  head_is = λ d. ap (λ xs. get_or xs k nothing) (same ∙ ap (λ (v : IndexView). v.heads) seen) ∙ get_or_default i.heads k nothing d known;
  docs_are = ap (λ (v : IndexView). v.docs) seen;
  weights_are = ap (λ (v : IndexView). v.weights) seen;
  at_is = at_is;
}

-- where the bytes of block k were read; of a store that tells, they are its bytes at the block's place
pub record BlockRead (i : IndexView) (told : Option (List ℕ)) (k : ℕ) (placed : PlacedBlock) (read : List ℕ) : Type 0 where
  pub stands : IsBlockAt i k placed
  pub long : length read ≡ placed.head.len
  pub read_is : ForSome told (λ b. read ≡ part b placed.at placed.head.len)

module _ {i : IndexView} {k : ℕ} {placed : PlacedBlock} (stands : IsBlockAt i k placed) where
  pub judged_at : CanBeJudged placed placed.head.len
  judged_at =
      let index = stands.index in
      let most = index.few_docs in
      record {
        shaped = subst (λ (x : BlockHead). IsShaped x x.len) (sym (stands.head_is placed.head)) (head_shaped i index k placed.head stands.known);
        small = stands.small;
        few = omega (arith, most, stands.docs_are);
        weights = subst AreWeights (sym stands.weights_are) index.weights;
      }

  pub block_read : {told : Option (List ℕ)} {read : List ℕ} → length read ≡ placed.head.len → ForSome told (λ b. read ≡ part b placed.at placed.head.len)
      → BlockRead i told k placed read
  block_read long is = record { stands = stands; long = long; read_is = is }

module _ {i : IndexView} {told : Option (List ℕ)} {k : ℕ} {placed : PlacedBlock} (stands : IsBlockAt i k placed) (fits : HasAllBlocks told i) where
  -- a block lies within what a store tells
  pub told_within : ForSome told (λ b. placed.at + placed.head.len ≤ length b)
  told_within b t =
      let all = fits b t in
      let one = block_within i k placed.head stands.known in
      omega (arith, all, one, stands.at_is, ap (λ (x : BlockHead). x.len) (stands.head_is placed.head))

module _ {i : IndexView} {told : Option (List ℕ)} {k : ℕ} {placed : PlacedBlock} {read : List ℕ} (h : BlockRead i told k placed read) where
  -- the same, with the block's head and place themselves
  there : (d : BlockHead) → ForSome told (λ b. read ≡ part b (block_place i k) (get_or i.heads k d).len)
  there d = λ b t. h.read_is b t ∙ ap (λ (n : ℕ). part b n placed.head.len) h.stands.at_is
      ∙ ap (λ (x : BlockHead). part b (block_place i k) x.len) (h.stands.head_is d)

  pub can_judge : CanBeJudged placed (length read)
  can_judge = subst (CanBeJudged placed) (sym h.long) (judged_at h.stands)

  -- the rows that are read of these bytes, whatever keeps them
  pub read_there : (b : List ℕ) → told ≡ Some b → StandsFor b i → rows_read placed.head read ≡ block_posts b k
  read_there b t s =
      let rows = block_posts b k in
      let stood = stood_block b i s h.stands.index k placed.head h.stands.known in
      let own = subst (IsBlock i.weights (get_or i.heads k placed.head) i.docs rows) (sym (there placed.head b t)) stood in
      let here = subst (λ (x : BlockHead). IsBlock i.weights x i.docs rows read) (sym (h.stands.head_is placed.head)) own in
      let known = subst (λ (n : ℕ). IsBlock i.weights placed.head n rows read) (sym h.stands.docs_are) here in
      let block = subst (λ (w : Weights). IsBlock w placed.head placed.docs rows read) (sym h.stands.weights_are) known in
      (one_reading placed.weights can_judge.weights placed.head placed.docs rows read can_judge.few can_judge.shaped block).1

  -- rows that have these bytes are the block, and over bytes that stand for the index the block's posts
  pub block_of : (rows : List Post) → IsBlock placed.weights placed.head placed.docs rows read → IsBlockOf i told k rows
  block_of rows block =
      let own = subst (λ (w : Weights). IsBlock w placed.head placed.docs rows read) h.stands.weights_are block in
      let known = subst (λ (n : ℕ). IsBlock i.weights placed.head n rows read) h.stands.docs_are own in
      record {
        bytes = read;
        shaped = λ d. subst (λ (x : BlockHead). IsShaped x (length read)) (h.stands.head_is d) can_judge.shaped;
        block = λ d. subst (λ (x : BlockHead). IsBlock i.weights x i.docs rows read) (h.stands.head_is d) known;
        read = λ d. there d;
      }

  pub block_stood : (b : List ℕ) → told ≡ Some b → StandsFor b i → (rows : List Post) → IsBlock placed.weights placed.head placed.docs rows read
      → rows ≡ block_posts b k
  block_stood b t s rows block =
      sym (one_reading placed.weights can_judge.weights placed.head placed.docs rows read can_judge.few can_judge.shaped block).1 ∙ read_there b t s

  -- no rule is broken where they are those of the index
  keeps_rules : (b : List ℕ) → told ≡ Some b → StandsFor b i → judged placed.weights placed.head placed.docs read ≡ None
  keeps_rules b t s =
      let long = h.long ∙ ap (λ (x : BlockHead). x.len) (h.stands.head_is placed.head) in
      ap (λ (w : Weights). judged w placed.head placed.docs read) h.stands.weights_are
      ∙ ap (λ (x : BlockHead). judged i.weights x placed.docs read) (h.stands.head_is placed.head)
      ∙ ap (λ (n : ℕ). judged i.weights (get_or i.heads k placed.head) n read) h.stands.docs_are
      ∙ never_broken b i s h.stands.index k placed.head read h.stands.known long (there placed.head b t)

  pub fault_unchanged : (b : List ℕ) (result : Result (Unit {0}) FetchFault) → told ≡ Some b → StandsFor b i → IfErr result (IsFaultOf placed read)
      → is_changed result ≡ false
  fault_unchanged b (Ok u) t s answer = refl
  fault_unchanged b (Err e) t s answer = unbroken_fault placed.at (judged placed.weights placed.head placed.docs read) e answer (keeps_rules b t s)

  pub fault_changed : (result : Result (Unit {0}) FetchFault) → IfErr result (IsFaultOf placed read) → IfErr result (IsChangeOfBlock i told k)
  fault_changed (Ok u) answer = tt
  fault_changed (Err fetches.Read) answer = tt
  fault_changed (Err fetches.Memory) answer = tt
  fault_changed (Err (fetches.Changed rule place)) answer = record {
    bytes = read;
    broken = λ d. ap (λ (n : ℕ). option_map (in_file n) (judged i.weights (get_or i.heads k d) i.docs read)) (sym h.stands.at_is)
        ∙ ap (λ (n : ℕ). option_map (in_file placed.at) (judged i.weights (get_or i.heads k d) n read)) (sym h.stands.docs_are)
        ∙ ap (λ (x : BlockHead). option_map (in_file placed.at) (judged i.weights x placed.docs read)) (sym (h.stands.head_is d))
        ∙ ap (λ (w : Weights). option_map (in_file placed.at) (judged w placed.head placed.docs read)) (sym h.stands.weights_are) ∙ answer;
    read = λ d. there d;
  }

-- a fault that is passed on
pub fault_along : {T : Type 0} (P : FetchFault → Type 0) (e : FetchFault) (r : Result T FetchFault) → P e → IsErrAnd r (λ x. x ≡ e) → IfErr r P
fault_along P e (Ok x) h is = absurd is
fault_along P e (Err x) h is = subst P (sym is) h

-- what is left of the store by a call that read once, and reads nothing behind that
pub read_once : {S L T : Type 0} {tells : S → Option (List ℕ)} {lends : S → L} {fails : S → ℕ} {i : IndexView} {Told : FetchFault → Type 0} {old now : S}
    {r : Result T FetchFault} → ForSome (tells old) (λ b. StandsFor b i → is_changed r ≡ false) → IfErr r Told → is_read r ≡ false → tells now ≡ tells old
    → lends now ≡ lends old → CausedReads false (fails old) (fails now) → LeavesStore tells lends fails i Told old now r
read_once {fails = fails} {old = old} {now = now} unchanged changed unread bytes lent caused = record {
  unchanged = unchanged;
  changed = changed;
  bytes = bytes;
  lent = lent;
  caused = subst (λ failed. CausedReads failed (fails old) (fails now)) (sym unread) caused;
}

-- ---- titles
-- what is known where the title's bytes were read
pub record TitleRead (i : IndexView) (told : Option (List ℕ)) (d at : ℕ) (read : List ℕ) : Type 0 where
  pub index : IsIndex i
  pub known : d < i.docs
  pub at_is : at ≡ title_place i d
  pub read_is : ForSome told (λ b. read ≡ part b (title_place i d) (title_len i d))

-- where it begins and ends, by the offsets as they were read
pub record TitleSpan (i : IndexView) (d at from to : ℕ) : Type 0 where
  pub onward : from ≤ to
  pub at_is : at ≡ title_place i d
  pub len_is : to - from ≡ title_len i d
  pub within : at + (to - from) ≤ block_place i (length i.heads)

pub title_span : {i own : IndexView} {d : ℕ} {os : List ℕ} {from : ℕ} → own ≡ i → IsIndex own → os ≡ own.offsets → d < i.docs → from ≡ get_or os d 0
    → TitleSpan i d (own.titles_at + from) from (get_or os (d + 1) 0)
title_span {i} {own} {d} {os} {from} seen own_is same lt from_is =
    let is = subst IsIndex seen own_is in
    let sp = spans i is d lt in
    let all : os ≡ i.offsets = same ∙ ap (λ (v : IndexView). v.offsets) seen in
    let a : from ≡ get_or i.offsets d 0 = from_is ∙ ap (λ (x : List ℕ). get_or x d 0) all in
    let b : get_or os (d + 1) 0 ≡ get_or i.offsets (d + 1) 0 = ap (λ (x : List ℕ). get_or x (d + 1) 0) all in
    let t : own.titles_at ≡ i.titles_at = ap (λ (v : IndexView). v.titles_at) seen in
    let up = sp.onward in
    let within = title_within i is d lt in
    record { onward = omega (arith, up, a, b); at_is = omega (arith, a, t); len_is = omega (arith, a, b); within = omega (arith, within, a, b, t) }

pub title_found : {i own : IndexView} {told : Option (List ℕ)} {d : ℕ} {os : List ℕ} {from : ℕ} {read : List ℕ} → own ≡ i → IsIndex own → os ≡ own.offsets
    → d < i.docs → from ≡ get_or os d 0 → ForSome told (λ b. read ≡ part b (own.titles_at + from) (get_or os (d + 1) 0 - get_or os d 0))
    → TitleRead i told d (own.titles_at + from) read
title_found {i} {own} {told} {d} {os} {from} seen is same lt from_is found =
    let at = own.titles_at + from in
    let to = get_or os (d + 1) 0 in
    let span = title_span seen is same lt from_is in
    record {
      index = subst IsIndex seen is;
      known = lt;
      at_is = span.at_is;
      read_is = λ b t. found b t ∙ ap (λ (n : ℕ). part b at (to - n)) (sym from_is) ∙ ap (λ (n : ℕ). part b n (to - from)) span.at_is
          ∙ ap (part b (title_place i d)) span.len_is;
    }

-- of a title that was read, its length, and that it is text
pub text_long : (read : List ℕ) (at n : ℕ) (r : Result (List ℕ) FetchFault) → length read ≡ n → ReadsText read at r → IfOk r (λ t. length t ≡ n)
text_long read at n (Ok text) long answer = ap length answer.0 ∙ long
text_long read at n (Err e) long answer = tt

pub text_utf8 : (read : List ℕ) (at : ℕ) (r : Result (List ℕ) FetchFault) → ReadsText read at r → IfOk r (λ t. is_utf8 t ≡ true)
text_utf8 read at (Ok text) answer = ap is_utf8 answer.0 ∙ answer.1
text_utf8 read at (Err e) answer = tt

module _ {i : IndexView} {told : Option (List ℕ)} {d at : ℕ} {read : List ℕ} (h : TitleRead i told d at read) where
  pub title_by : (r : Result (List ℕ) FetchFault) → ReadsText read at r → ForSome told (λ b. IfOk r (λ t. t ≡ part b (title_place i d) (title_len i d)))
  title_by (Ok text) answer = λ b t. answer.0 ∙ h.read_is b t
  title_by (Err e) answer = λ b t. tt

  pub title_changed : (r : Result (List ℕ) FetchFault) → ReadsText read at r → IfErr r (IsChangeOfTitle i told d)
  title_changed (Ok text) answer = tt
  title_changed (Err fetches.Read) answer = tt
  title_changed (Err fetches.Memory) answer = tt
  title_changed (Err (fetches.Changed rule place)) answer = record {
    bytes = read;
    broken = answer.0;
    rule_is = answer.1;
    place = answer.2 ∙ h.at_is;
    read = h.read_is;
  }

  pub title_stood : (b : List ℕ) (r : Result (List ℕ) FetchFault) → told ≡ Some b → StandsFor b i → ReadsText read at r
      → IfOk r (λ t. t ≡ title_in b d)
  title_stood b (Ok text) t s answer = answer.0 ∙ h.read_is b t ∙ sym (stood_title b i s h.index d h.known).bytes
  title_stood b (Err e) t s answer = tt

  pub title_unchanged : (b : List ℕ) (r : Result (List ℕ) FetchFault) → told ≡ Some b → StandsFor b i → ReadsText read at r
      → is_changed r ≡ false
  title_unchanged b (Ok text) t s answer = refl
  title_unchanged b (Err fetches.Read) t s answer = refl
  title_unchanged b (Err fetches.Memory) t s answer = refl
  title_unchanged b (Err (fetches.Changed rule place)) t s answer =
      let same : read ≡ title_in b d = h.read_is b t ∙ sym (stood_title b i s h.index d h.known).bytes in
      absurd (true≢false (sym (ap is_utf8 same ∙ (stood_title b i s h.index d h.known).text) ∙ answer.0))
