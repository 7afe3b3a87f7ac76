-- Walks: what a store and its counts are after some of the blocks of some words, or after some of the members of a list.
--
--   well            the answer of what didn't fail
--   nothing_read, reads_on      what no call leaves of a store, and one call behind another
--   block_fails, read_fails       a fetch that fails: the block that breaks a rule is one of the index; and a call that only reads
--   title_read      what is read of a title
--   fails_behind, hands_on         a call that fails behind others; its fault goes on
--   within_more, within_both    what is read is within more, and of two calls within the sum
--   Walk            after some reads, each at most one: first before them, and k behind them
--   walk_goes_on    after one more
--   walk_reads      what was read so far
--   rest_stops, rest_ends     what was read up to a block
--   walk_stops      what was read where the next block fails
--   walk_ends       what was read of all blocks
--   ListWalk        after the first n members of a list, of which x reads f x blocks at most
--   list_begins     before the first
--   list_goes_on, list_skips     after one more, which was read or not
--   list_stops      what was read where the next one fails
use Rattle.std.proofs.Common.{◌≡◌, ℕ, ◌+◌, ◌-◌, ◌<◌, ◌≤◌, List, length, map, drop, get_or, Option, Result, Ok, Err, refl, sym, ap, subst, ◌∙◌, arith, inl, inr}
use Rattle.std.specs.Prelude.{filter, sum}
use Rattle.std.specs.Result.{IsErrAnd}
use Rattle.std.proofs.lemmas.List.Sums.{sum_by-cons}
use Rattle.cs_base.specs.declared.index.block.BlockHead.{BlockHead}
use Rattle.cs_base.specs.outside.Causes.{ReadsWithin}
use Rattle.cs_file.specs.CallAnswers.{IsChangeOfBlock, IsChangeOfTitle, LeavesStore, is_changed, is_read}
use Rattle.cs_file.specs.Indexes.{AreMet, CausedReads, IndexView, is_met}
use Rattle.cs_file.specs.declared.fault.FetchFault.{FetchFault}
use Rattle.cs_file.specs.declared.fault.FetchFault.TheVariants as fetches
use Rattle.cs_meet.proofs.Passes.{next_is}
use Rattle.cs_rows.specs.IndexReading.{BreaksIndex, IsChangeIn, OnlyReads}
use Rattle.cs_rows.proofs.RowsInRange.{met_count}

-- ---- calls
-- the answer of what didn't fail
abbrev pub well : Result (Unit {0}) FetchFault
well = Ok tt

pub nothing_read : {S L : Type 0} {tells : S → Option (List ℕ)} {lends : S → L} {fails : S → ℕ} {i : IndexView} {old : S}
    → OnlyReads tells lends fails i old old well
nothing_read = record {
  unchanged = λ b is stands. refl;
  changed = tt;
  bytes = refl;
  lent = refl;
  caused = record { later = omega arith; quiet = λ no. refl; failed = λ no. absurd cc };
}

module _ {S L : Type 0} {tells : S → Option (List ℕ)} {lends : S → L} {fails : S → ℕ} {i : IndexView} {old now next : S} where
  pub reads_on : {T : Type 0} {x : T} {Told : FetchFault → Type 0} → OnlyReads tells lends fails i old now well
      → LeavesStore tells lends fails i Told now next (Ok x) → OnlyReads tells lends fails i old next well
  reads_on a b = record {
    unchanged = λ b is stands. refl;
    changed = tt;
    bytes = b.bytes ∙ a.bytes;
    lent = b.lent ∙ a.lent;
    caused = record {
      later = (let x = a.caused.later in let y = b.caused.later in omega (arith, x, y));
      quiet = λ no. b.caused.quiet refl
          ∙ a.caused.quiet refl;
      failed = λ no. absurd cc;
    };
  }

pub within_more : {n m before now : ℕ} → ReadsWithin n before now → n ≤ m → ReadsWithin m before now
within_more few less = record { later = few.later; within = (let w = few.within in omega (arith, w, less)) }

pub within_both : {n m all before mid now : ℕ} → ReadsWithin n before mid → ReadsWithin m mid now → n + m ≤ all → ReadsWithin all before now
within_both a b less = record {
  later = (let x = a.later in let y = b.later in omega (arith, x, y));
  within = (let x = a.within in let y = b.within in omega (arith, x, y, less));
}

-- ---- changes
block_change : (i : IndexView) (told : Option (List ℕ)) (k : ℕ) (e : FetchFault) → k < length i.heads → IsChangeOfBlock i told k e → IsChangeIn i told e
unfolding BreaksIndex
block_change i told k (fetches.Changed rule at) l h = inl (k, l, h)
block_change i told k fetches.Read l h = tt
block_change i told k fetches.Memory l h = tt

title_change : (i : IndexView) (told : Option (List ℕ)) (d : ℕ) (e : FetchFault) → d < i.docs → IsChangeOfTitle i told d e → IsChangeIn i told e
unfolding BreaksIndex
title_change i told d (fetches.Changed rule at) l h = inr (d, l, h)
title_change i told d fetches.Read l h = tt
title_change i told d fetches.Memory l h = tt

module _ {S L T U : Type 0} {tells : S → Option (List ℕ)} {lends : S → L} {fails : S → ℕ} {i : IndexView} {old now : S} {n : ℕ} {e : FetchFault} where
  pub block_fails : n < length i.heads → LeavesStore {T = T} tells lends fails i (IsChangeOfBlock i (tells old) n) old now (Err e)
      → OnlyReads {T = U} tells lends fails i old now (Err e)
  block_fails l h =
      record { unchanged = h.unchanged; changed = block_change i (tells old) n e l h.changed; bytes = h.bytes; lent = h.lent; caused = h.caused }

-- a call that only reads
pub read_fails : {S L T U : Type 0} {tells : S → Option (List ℕ)} {lends : S → L} {fails : S → ℕ} {i : IndexView} {old now : S} {e : FetchFault}
    → OnlyReads {T = T} tells lends fails i old now (Err e) → OnlyReads {T = U} tells lends fails i old now (Err e)
read_fails h = record { unchanged = h.unchanged; changed = h.changed; bytes = h.bytes; lent = h.lent; caused = h.caused }

-- what is read of a title is read of the index
pub title_read : {S L T : Type 0} {tells : S → Option (List ℕ)} {lends : S → L} {fails : S → ℕ} {i : IndexView} {old now : S} {d : ℕ}
    (r : Result T FetchFault) → d < i.docs → LeavesStore tells lends fails i (IsChangeOfTitle i (tells old) d) old now r
    → OnlyReads tells lends fails i old now r
title_read (Ok x) l h = record { unchanged = h.unchanged; changed = tt; bytes = h.bytes; lent = h.lent; caused = h.caused }
title_read {tells = tells} {i = i} {old = old} {d = d} (Err e) l h =
    record { unchanged = h.unchanged; changed = title_change i (tells old) d e l h.changed; bytes = h.bytes; lent = h.lent; caused = h.caused }

-- behind calls that didn't fail, the fault of the next one
module _ {S L T U : Type 0} {tells : S → Option (List ℕ)} {lends : S → L} {fails : S → ℕ} {i : IndexView} {old now next : S} {x : T} {e : FetchFault} where
  pub fails_behind : OnlyReads tells lends fails i old now (Ok x) → OnlyReads {T = U} tells lends fails i now next (Err e)
      → OnlyReads {T = U} tells lends fails i old next (Err e)
  fails_behind a b = record {
    unchanged = λ f is stands. b.unchanged f (a.bytes ∙ is) stands;
    changed = subst (λ t. IsChangeIn i t e) a.bytes b.changed;
    bytes = b.bytes ∙ a.bytes;
    lent = b.lent ∙ a.lent;
    caused = subst (λ n. CausedReads (is_read {T = U} (Err e)) n (fails next)) (a.caused.quiet refl) b.caused;
  }

-- the fault goes on as it is
pub hands_on : {S L U : Type 0} {tells : S → Option (List ℕ)} {lends : S → L} {fails : S → ℕ} {i : IndexView} {old now : S} {e : FetchFault}
    (r : Result U FetchFault) → IsErrAnd r (λ x. x ≡ e) → OnlyReads {T = U} tells lends fails i old now (Err e) → OnlyReads tells lends fails i old now r
hands_on (Ok x) is a = absurd is
hands_on {tells = tells} {lends = lends} {fails = fails} {i = i} {old = old} {now = now} (Err x) is a = record {
  unchanged = λ b told stands. ap (λ y. is_changed {T = Unit {0}} (Err y)) is ∙ a.unchanged b told stands;
  changed = subst (IsChangeIn i (tells old)) (sym is) a.changed;
  bytes = a.bytes;
  lent = a.lent;
  caused = subst (λ y. CausedReads (is_read {T = Unit {0}} (Err y)) (fails old) (fails now)) (sym is) a.caused;
}

-- ---- blocks
-- the store is only read, no read failed, and each step read at most once
pub record Walk {S L : Type 0} (tells : S → Option (List ℕ)) (lends : S → L) (fails counts : S → ℕ) (i : IndexView) (old now : S) (first k : ℕ) : Type 0 where
  pub store : OnlyReads tells lends fails i old now well
  pub later : counts old ≤ counts now
  pub reads : counts now + first ≤ counts old + k

module _ {S L : Type 0} {tells : S → Option (List ℕ)} {lends : S → L} {fails counts : S → ℕ} {i : IndexView} {old now : S} {first k : ℕ}
    (w : Walk tells lends fails counts i old now first k) where
  pub walk_goes_on : {next : S} {T : Type 0} {x : T} {Told : FetchFault → Type 0} → LeavesStore tells lends fails i Told now next (Ok x)
      → ReadsWithin 1 (counts now) (counts next) → Walk tells lends fails counts i old next first (k + 1)
  walk_goes_on store one = record {
    store = reads_on w.store store;
    later = (let l = one.later in omega (arith, l, w.later));
    reads = (let r = one.within in omega (arith, r, w.reads));
  }

  pub walk_reads : ReadsWithin (k - first) (counts old) (counts now)
  walk_reads = record { later = w.later; within = omega (arith, w.reads) }

  pub rest_stops : {next : S} {last : ℕ} → k < last → ReadsWithin 1 (counts now) (counts next) → ReadsWithin (last - first) (counts old) (counts next)
  rest_stops lt one = record { later = (let l = one.later in omega (arith, l, w.later)); within = (let r = one.within in omega (arith, r, w.reads, lt)) }

  pub rest_ends : {last : ℕ} → (first ≤ last → k ≤ last) → first ≤ last → ReadsWithin (last - first) (counts old) (counts now)
  rest_ends end up = record { later = w.later; within = (let le = end up in omega (arith, w.reads, le)) }

  module _ {heads : List BlockHead} {lo hi last : ℕ} (met : AreMet heads lo hi first last) where
    pub walk_stops : {next : S} → k < last → ReadsWithin 1 (counts now) (counts next)
        → ReadsWithin (length (filter (is_met lo hi) heads)) (counts old) (counts next)
    walk_stops lt one =
        let many = met_count heads lo hi first last met in
        record { later = (let l = one.later in omega (arith, l, w.later)); within = (let r = one.within in omega (arith, r, many, w.reads, lt)) }

    pub walk_ends : (first ≤ last → k ≤ last) → ReadsWithin (length (filter (is_met lo hi) heads)) (counts old) (counts now)
    walk_ends end =
        let many = met_count heads lo hi first last met in
        let le = end met.ordered in
        record { later = w.later; within = omega (arith, many, w.reads, le) }

-- ---- lists
-- the store is only read, no read failed, and what is left to be read is within what all may read
pub record ListWalk {S L X : Type 0} (tells : S → Option (List ℕ)) (lends : S → L) (fails counts : S → ℕ) (i : IndexView) (f : X → ℕ) (xs : List X) (all : ℕ)
    (old now : S) (n : ℕ) : Type 0 where
  pub store : OnlyReads tells lends fails i old now well
  pub later : counts old ≤ counts now
  pub reads : counts now + sum (map f (drop n xs)) ≤ counts old + all

pub list_begins : {S L X : Type 0} {tells : S → Option (List ℕ)} {lends : S → L} {fails counts : S → ℕ} {i : IndexView} {f : X → ℕ} {xs ys : List X} {all : ℕ}
    {old : S} → all ≡ sum (map f ys) → xs ≡ ys
    → ListWalk tells lends fails counts i f xs all old old 0
list_begins {f = f} whole are = let met = whole ∙ ap (λ zs. sum (map f zs)) (sym are) in
    record { store = nothing_read; later = omega arith; reads = omega (arith, met) }

next_left : {X : Type 0} (f : X → ℕ) (xs : List X) (i : ℕ) (x : X) → i < length xs → x ≡ get_or xs i x
    → sum (map f (drop i xs)) ≡ f x + sum (map f (drop (i + 1) xs))
next_left f xs i x l is = ap (λ r. sum (map f r)) (next_is xs i x l is) ∙ sum_by-cons (λ n. n) (f x) (map f (drop (i + 1) xs))

module _ {S L X : Type 0} {tells : S → Option (List ℕ)} {lends : S → L} {fails counts : S → ℕ} {i : IndexView} {f : X → ℕ} {xs : List X} {all : ℕ} {old now : S}
    {n : ℕ} (w : ListWalk tells lends fails counts i f xs all old now n)
    (l : n < length xs) {x : X} (is : x ≡ get_or xs n x) where
  pub list_goes_on : {next : S} {T : Type 0} {y : T} → OnlyReads tells lends fails i now next (Ok y) → ReadsWithin (f x) (counts now) (counts next)
      → ListWalk tells lends fails counts i f xs all old next (n + 1)
  list_goes_on store few =
      let left = next_left f xs n x l is in record {
        store = reads_on w.store store;
        later = (let l = few.later in omega (arith, l, w.later));
        reads = (let r = few.within in omega (arith, r, w.reads, left));
      }

  pub list_skips : ListWalk tells lends fails counts i f xs all old now (n + 1)
  list_skips = let left = next_left f xs n x l is in record { store = w.store; later = w.later; reads = omega (arith, w.reads, left) }

  pub list_stops : {next : S} → ReadsWithin (f x) (counts now) (counts next) → ReadsWithin all (counts old) (counts next)
  list_stops few =
      let left = next_left f xs n x l is in
      record { later = (let l = few.later in omega (arith, l, w.later)); within = (let r = few.within in omega (arith, r, w.reads, left)) }
