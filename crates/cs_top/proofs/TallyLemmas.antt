-- How often texts say that a read failed, against how often the files' count rose.
--
--   tally_none, tally_same, tally_more      of no texts, behind a line without bytes, and behind one text more
--   read_first, not_read, not_changed, counts_more     of what came of some lines and of more
--   short_here, short_failed, short_put     of a script that ends early: at a refused line, where a file failed, where a put did
use Rattle.std.proofs.Common.{◌≡◌, ◌≢◌, ◌⊎◌, ℕ, ◌+◌, ◌≤◌, Bool, true, false, List, [], ◌∷◌, ◌++◌, inl, inr, refl, sym, ◌∙◌, subst, arith}
use Rattle.std.specs.Str.{bytes_eq}
use Rattle.std.proofs.lemmas.Slice.Eq.{bytes_eq-Decides}
use Rattle.cs_base.specs.outside.Causes.{Rose}
use Rattle.cs_hub.specs.Streams.{RoseBy}
use Rattle.cs_model.specs.Outputs.{ScriptFault, failed_reads, read_text}
use Rattle.cs_model.proofs.OutputLemmas.{failed_reads-push}
use Rattle.cs_indexing.specs.CommandLine.{failed, script_refused}
use Rattle.cs_indexing.specs.Met.{Wrote}
use Rattle.cs_top.specs.Answering.{CameCounts, Costs, worst}
use Rattle.cs_top.specs.ScriptEndings.{ShortTally, Tally}
use Rattle.cs_top.specs.declared.script.WhatCame.{WhatCame}
use Rattle.cs_top.specs.declared.script.WhatCame.TheVariants.{Answered, Read, Changed}

none_failed : failed_reads [] ≡ 0
unfolding failed_reads
none_failed = refl

-- ---- one text
abbrev counted_one : Bool → ℕ
counted_one true = 1
counted_one false = 0

one_is : (t : List ℕ) (b : Bool) → bytes_eq t read_text ≡ b → failed_reads (t ∷ []) ≡ counted_one b
unfolding failed_reads
one_is t true e = rw e refl
one_is t false e = rw e refl

-- ---- counts
rose_kept : (n b c d : ℕ) → RoseBy n b c → c ≤ d → RoseBy n b d
rose_kept n b c d r l = omega (arith, r, l)

rose_more : (n b c d : ℕ) → RoseBy n b c → Rose c d → RoseBy (n + 1) b d
rose_more n b c d r l = omega (arith, r, l)

rose_text : (b : Bool) (t : List ℕ) (n before count now : ℕ) → bytes_eq t read_text ≡ b → RoseBy n before count → count ≤ now → (t ≡ read_text → Rose count now) → RoseBy (n + failed_reads (t ∷ [])) before now
rose_text true t n before count now e r l read =
    subst (λ x. RoseBy (n + x) before now) (sym (one_is t true e)) (rose_more n before count now r (read ((bytes_eq-Decides t read_text).0 e)))
rose_text false t n before count now e r l read =
    let none : failed_reads (t ∷ []) ≡ 0 = one_is t false e in
    let same : n ≡ n + failed_reads (t ∷ []) = omega (arith, none) in
    subst (λ x. RoseBy x before now) same (rose_kept n before count now r l)

-- ---- what came
pub read_first : (a b : WhatCame) → worst a b ≢ Read → (a ≢ Read) × (b ≢ Read)
read_first Answered b h = ((λ e. cc e), h)
read_first Read b h = absurd (h refl)
read_first Changed Answered h = ((λ e. cc e), λ e. cc e)
read_first Changed Read h = absurd (h refl)
read_first Changed Changed h = ((λ e. cc e), λ e. cc e)

pub not_changed : (a b : WhatCame) → a ≢ Changed → b ≢ Changed → worst a b ≢ Changed
not_changed Answered b x y = y
not_changed Read b x y = λ e. cc e
not_changed Changed b x y = absurd (x refl)

clean_text : (b : Bool) (t : List ℕ) → bytes_eq t read_text ≡ b → t ≢ read_text → failed_reads (t ∷ []) ≡ 0
clean_text true t e other = absurd (other ((bytes_eq-Decides t read_text).0 e))
clean_text false t e other = one_is t false e

pub not_read : (a b : WhatCame) → a ≢ Read → b ≢ Read → worst a b ≢ Read
not_read Answered b x y = y
not_read Read b x y = absurd (x refl)
not_read Changed Answered x y = λ e. cc e
not_read Changed Read x y = absurd (y refl)
not_read Changed Changed x y = λ e. cc e

which_read : (a b : WhatCame) → worst a b ≡ Read → (a ≡ Read) ⊎ (b ≡ Read)
which_read Answered b e = inr e
which_read Read b e = inl refl
which_read Changed Answered e = absurd cc
which_read Changed Read e = inr refl
which_read Changed Changed e = absurd cc

rose_by : (a b : WhatCame) (n m k : ℕ) → CameCounts a n m → CameCounts b m k → (a ≡ Read) ⊎ (b ≡ Read) → Rose n k
rose_by a b n m k x y (inl e) = let r = x.read e in let l = y.later in omega (arith, r, l)
rose_by a b n m k x y (inr e) = let r = y.read e in let l = x.later in omega (arith, r, l)

-- what came of some lines and of more, by the counts
pub counts_more : (a b : WhatCame) (n m k : ℕ) → CameCounts a n m → CameCounts b m k → CameCounts (worst a b) n k
counts_more a b n m k x y = record {
  later = let l = x.later in let r = y.later in omega (arith, l, r);
  read = λ e. rose_by a b n m k x y (which_read a b e);
  quiet = λ h. let both = read_first a b h in y.quiet both.1 ∙ x.quiet both.0;
}

-- ---- tallies
pub tally_none : (n m : ℕ) → m ≡ n → Tally Answered n m []
tally_none n m e = record {
  rose = subst (λ x. RoseBy x n m) (sym none_failed) (omega (arith, e));
  clean = λ h. none_failed;
  unchanged = λ e. cc e;
}

module _ (came met : WhatCame) (before count now : ℕ) (ts : List (List ℕ)) where
  -- behind a line without bytes
  pub tally_same : met ≡ Answered → now ≡ count → Tally came before count ts → Tally (worst came met) before now ts
  tally_same plain calm t = record {
    rose = rose_kept (failed_reads ts) before count now t.rose (omega (arith, calm));
    clean = λ h. t.clean (read_first came met h).0;
    unchanged = not_changed came met t.unchanged (λ e. cc (sym plain ∙ e));
  }

  -- behind one text more
  pub tally_more : (t : List ℕ) → Tally came before count ts → Costs met count now t → Tally (worst came met) before now (ts ++ t ∷ [])
  tally_more t h c = record {
    rose = subst (λ x. RoseBy x before now) (sym (failed_reads-push ts t)) (rose_text (bytes_eq t read_text) t (failed_reads ts) before count now refl h.rose c.later c.read);
    clean = λ low.
        let both = read_first came met low in
        let push = failed_reads-push ts t in
        let first : failed_reads ts ≡ 0 = h.clean both.0 in
        let one : failed_reads (t ∷ []) ≡ 0 = clean_text (bytes_eq t read_text) t refl (c.clean both.1) in
        omega (arith, push, first, one);
    unchanged = not_changed came met h.unchanged c.unchanged;
  }

-- ---- scripts that end early
not_failed : (f : ScriptFault) → script_refused f ≡ failed → ⊥
not_failed f e = cc e

pub short_here : (came : WhatCame) (f : ScriptFault) (w : Wrote) (before count now : ℕ) (ts : List (List ℕ)) → now ≡ count → Tally came before count ts → ShortTally (script_refused f) w before now ts
short_here came f w before count now ts calm t = record {
  rose = rose_kept (failed_reads ts) before count now t.rose (omega (arith, calm));
  more = λ e. absurd (not_failed f e);
}

pub short_failed : (came : WhatCame) (w : Wrote) (before count now : ℕ) (ts : List (List ℕ)) → Tally came before count ts → Rose count now → ShortTally failed w before now ts
short_failed came w before count now ts t rose = record {
  rose = rose_less (failed_reads ts) before now (rose_more (failed_reads ts) before count now t.rose rose);
  more = λ e low. rose_more (failed_reads ts) before count now t.rose rose;
}
  where
    rose_less : (n b c : ℕ) → RoseBy (n + 1) b c → RoseBy n b c
    rose_less n b c r = omega (arith, r)

pub short_put : (came met : WhatCame) (w : Wrote) (before count now : ℕ) (ts : List (List ℕ)) (t : List ℕ) → Rose w.before w.now → Tally came before count ts → Costs met count now t → ShortTally failed w before now (ts ++ t ∷ [])
short_put came met w before count now ts t rose h c = record {
  rose = (tally_more came met before count now ts t h c).rose;
  more = λ e low. absurd (low rose);
}
