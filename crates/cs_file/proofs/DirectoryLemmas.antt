-- Rules 10 to 12: the directory.
--
--   head_here          the head whose entry stands at a place
--   entry_long, entry_within       which has four numbers at least, and lies within the directory
--   heads_start, heads_on, heads_end        heads that are read one by one
--   named_count        as many as there are entries
--   directory_is, heads_are    the stage and the heads, by the section's bytes and the words
--   has_heads          what the rules say of them
use Rattle.std.proofs.Common.{◌≡◌, ℕ, zero, suc, ◌+◌, ◌-◌, ◌*◌, ◌<◌, ◌≤◌, Bool, true, false, List, [], ◌∷◌, ◌++◌, length, take, drop, Option, Some, None, refl, sym}
use Rattle.std.proofs.Common.{ap, subst, map, ◌∙◌, add-one, arith, drop-drop, if◌then◌else◌}
use Rattle.std.proofs.Math.Nat.{mul-suc}
use Rattle.std.specs.Prelude.{All}
use Rattle.std.specs.List.{list_all}
use Rattle.std.specs.Int.{w32, from_be_bytes}
use Rattle.std.proofs.lemmas.Bool.{and_parts, eqb-true, and_from}
use Rattle.std.proofs.lemmas.List.{append-nil, append_assoc}
use Rattle.std.proofs.lemmas.List.Elements.{All-nil, All-cons}
use Rattle.cs_base.specs.declared.index.block.BlockHead.{BlockHead}
use Rattle.cs_base.specs.declared.index.block.Broken.{Broken}
use Rattle.cs_base.specs.outside.Outside.{part}
use Rattle.cs_model.proofs.FirstLemmas.{unless_none}
use Rattle.cs_model.specs.First.{first_reason}
use Rattle.cs_model_index.specs.FileRules.{laid, is_joined, is_of_one_kind, is_sized}
use Rattle.cs_model_index.specs.Layout.{Header, entry_size}
use Rattle.cs_model_index.specs.Numbered.{word_at}
use Rattle.cs_model_index.specs.Partitions.{is_facet}
use Rattle.cs_model_index.specs.Sections.{number_at, header_of, contents_of, offsets_len, directory_len, directory_at}
use Rattle.cs_model_index.specs.declared.limits.TheConstants.{HEADER_BYTES, ENTRY_BYTES}
use Rattle.cs_file.specs.Opening.{IsHeaderOf, HasHeads, bad_joint, bad_size, directory_judged, directory_stage, heads_of, file_words, named_head, named_heads, named_in}
use Rattle.cs_file.specs.Parting.{bare}
use Rattle.cs_file.proofs.BareHeads.{bare_by, judged_alike, own_heads}
use Rattle.cs_file.proofs.LaidLemmas.{all_hold, held_anywhere}
use Rattle.cs_file.proofs.StagesLemmas.{or_parts, tried_none}

-- ---- heads
number_behind : (bytes : List ℕ) (at n : ℕ) → number_at (drop at bytes) n ≡ number_at bytes (at + n)
unfolding number_at
number_behind bytes at n = ap (λ (x : List ℕ). from_be_bytes w32 (take 4 x)) (drop-drop n at bytes)

same_head : (a b c d e f g k l m n o : ℕ) (p q : Bool) → a ≡ b → c ≡ d → e ≡ f → g ≡ k → p ≡ q → l ≡ m → n ≡ o
    → let x : BlockHead = record { lo = a; words = c; rows = e; len = g; facet = p; least = l; greatest = n } in
    let y : BlockHead = record { lo = b; words = d; rows = f; len = k; facet = q; least = m; greatest = o } in
    x ≡ y
same_head a b c d e f g k l m n o p q r s t u v w x = rw (r, s, t, u, v, w, x) refl

pub head_here : (two : Bool) (ws : List (List ℕ)) (bytes : List ℕ) (at : ℕ) (lo words rows len : ℕ) (facet : Bool) (least greatest : ℕ) → lo ≡ number_at bytes at
    → words ≡ number_at bytes (at + 4) → rows ≡ number_at bytes (at + 8) → len ≡ number_at bytes (at + 12) → facet ≡ is_facet (word_at ws lo)
    → least ≡ (if two then number_at bytes (at + 16) else 0) → greatest ≡ (if two then number_at bytes (at + 20) else 0)
    → let x : BlockHead = record { lo = lo; words = words; rows = rows; len = len; facet = facet; least = least; greatest = greatest } in x ≡ named_head two ws (drop at bytes)
head_here two ws bytes at lo words rows len facet least greatest a b c d e f g =
    let zero_on : at + 0 ≡ at = omega arith in
    let first : number_at bytes at ≡ number_at (drop at bytes) 0 = ap (number_at bytes) (sym zero_on) ∙ sym (number_behind bytes at 0) in
    same_head lo (number_at (drop at bytes) 0) words (number_at (drop at bytes) 4) rows (number_at (drop at bytes) 8) len (number_at (drop at bytes) 12)
    least _ greatest _ facet (is_facet (word_at ws (number_at (drop at bytes) 0)))
    (a ∙ first) (b ∙ sym (number_behind bytes at 4)) (c ∙ sym (number_behind bytes at 8)) (d ∙ sym (number_behind bytes at 12))
    (e ∙ ap (λ (n : ℕ). is_facet (word_at ws n)) (a ∙ first))
    (f ∙ ap (λ (n : ℕ). if two then n else 0) (sym (number_behind bytes at 16)))
    (g ∙ ap (λ (n : ℕ). if two then n else 0) (sym (number_behind bytes at 20)))

pub entry_long : (two : Bool) → 16 ≤ entry_size two
unfolding entry_size
entry_long true = omega arith
entry_long false = omega arith

-- an entry lies within as many as there are
pub entry_within : (two : Bool) (i count len : ℕ) → i < count → len ≡ entry_size two * count → entry_size two * i + entry_size two ≤ len
unfolding entry_size
entry_within true i count len lt is = omega arith
entry_within false i count len lt is = omega arith

entry_on : (e i : ℕ) → e * i + e ≡ e * (i + 1)
entry_on e i = sym (ap (λ (n : ℕ). e * n) (add-one i) ∙ mul-suc e i)

first_head : (two : Bool) (ws : List (List ℕ)) (k at : ℕ) (bytes : List ℕ)
    → named_in two ws (suc k) (drop at bytes) ≡ named_head two ws (drop at bytes) ∷ named_in two ws k (drop (at + entry_size two) bytes)
unfolding named_in
first_head two ws k at bytes = ap (λ (x : List ℕ). named_head two ws (drop at bytes) ∷ named_in two ws k x) (drop-drop (entry_size two) at bytes)

pub heads_on : (two : Bool) (ws : List (List ℕ)) (bytes : List ℕ) (count i : ℕ) (x : BlockHead) (hs now : List BlockHead) → i < count
    → x ≡ named_head two ws (drop (entry_size two * i) bytes) → now ≡ hs ++ x ∷ []
    → hs ++ named_in two ws (count - i) (drop (entry_size two * i) bytes) ≡ named_in two ws count bytes
    → now ++ named_in two ws (count - (i + 1)) (drop (entry_size two * (i + 1)) bytes) ≡ named_in two ws count bytes
heads_on two ws bytes count i x hs now lt is added h =
    let e = entry_size two in
    let left : count - i ≡ suc (count - (i + 1)) = omega arith in
    let rest = named_in two ws (count - (i + 1)) (drop (e * (i + 1)) bytes) in
    let here : named_in two ws (count - i) (drop (e * i) bytes) ≡ x ∷ rest =
    ap (λ (k : ℕ). named_in two ws k (drop (e * i) bytes)) left ∙ first_head two ws (count - (i + 1)) (e * i) bytes
    ∙ ap (λ (y : BlockHead). y ∷ named_in two ws (count - (i + 1)) (drop (e * i + e) bytes)) (sym is)
    ∙ ap (λ (n : ℕ). x ∷ named_in two ws (count - (i + 1)) (drop n bytes)) (entry_on e i) in
    ap (λ (y : List BlockHead). y ++ rest) added ∙ append_assoc hs (x ∷ []) rest ∙ ap (λ (y : List BlockHead). hs ++ y) (sym here) ∙ h

no_heads : (two : Bool) (ws : List (List ℕ)) (bytes : List ℕ) → named_in two ws 0 bytes ≡ []
unfolding named_in
no_heads two ws bytes = refl

pub heads_start : (two : Bool) (ws : List (List ℕ)) (bytes : List ℕ) (count : ℕ) → named_in two ws (count - 0) (drop (entry_size two * 0) bytes) ≡ named_in two ws count bytes
heads_start two ws bytes count =
    let none : entry_size two * 0 ≡ 0 = omega arith in
    let all : count - 0 ≡ count = omega arith in
    ap (λ (n : ℕ). named_in two ws (count - 0) (drop n bytes)) none ∙ ap (λ (k : ℕ). named_in two ws k bytes) all

pub heads_end : (two : Bool) (ws : List (List ℕ)) (bytes : List ℕ) (count i : ℕ) (hs : List BlockHead) → count ≤ i
    → hs ++ named_in two ws (count - i) (drop (entry_size two * i) bytes) ≡ named_in two ws count bytes → hs ≡ named_in two ws count bytes
heads_end two ws bytes count i hs le h =
    let none : count - i ≡ 0 = omega arith in
    sym (append-nil hs) ∙ ap (λ (x : List BlockHead). hs ++ x) (sym (no_heads two ws (drop (entry_size two * i) bytes)))
    ∙ ap (λ (k : ℕ). hs ++ named_in two ws k (drop (entry_size two * i) bytes)) (sym none) ∙ h

pub named_count : (two : Bool) (ws : List (List ℕ)) (k : ℕ) (bytes : List ℕ) → length (named_in two ws k bytes) ≡ k
unfolding named_in
named_count two ws zero bytes = refl
named_count two ws (suc k) bytes = ap suc (named_count two ws k (drop (entry_size two) bytes))

-- ---- the stage
own_stage : (b : List ℕ) → directory_stage b ≡ directory_judged (header_of b) (file_words b) (heads_of b)
unfolding directory_stage directory_judged bad_joint bad_size file_words heads_of
own_stage b = refl

pub directory_is : (b : List ℕ) (h : Header) (ws : List (List ℕ)) (hs : List BlockHead) → IsHeaderOf b h → ws ≡ file_words b → hs ≡ named_heads b
    → directory_stage b ≡ directory_judged h ws hs
directory_is b h ws hs is words heads =
    let same : map bare (heads_of b) ≡ map bare hs =
    ap (map bare) (own_heads b) ∙ bare_by (named_heads b) (contents_of b).bytes.blocks ∙ ap (map bare) (sym heads) in
    own_stage b ∙ ap (λ (x : Header). directory_judged x (file_words b) (heads_of b)) is.numbers
    ∙ ap (λ (x : List (List ℕ)). directory_judged h x (heads_of b)) (sym words) ∙ judged_alike h ws (heads_of b) hs same

directory_start : (b : List ℕ) → (contents_of b).bytes.directory ≡ part b (directory_at (header_of b)) (directory_len (header_of b))
directory_start b =
    let h = header_of b in
    let a = drop-drop h.vocabulary_len HEADER_BYTES b in
    let c = drop-drop (offsets_len h) (HEADER_BYTES + h.vocabulary_len) b in
    let e = drop-drop h.titles_len (HEADER_BYTES + h.vocabulary_len + offsets_len h) b in
    ap (λ (x : List ℕ). take (directory_len h) (drop h.titles_len (drop (offsets_len h) x))) a
    ∙ ap (λ (x : List ℕ). take (directory_len h) (drop h.titles_len x)) c ∙ ap (λ (x : List ℕ). take (directory_len h) x) e

own_named : (b : List ℕ) → named_heads b ≡ named_in (header_of b).two (file_words b) (header_of b).blocks (contents_of b).bytes.directory
unfolding named_heads
own_named b = refl

directory_cut : (b bytes : List ℕ) (h : Header) (at size : ℕ) → bytes ≡ part b at (size * h.blocks) → at ≡ directory_at h → size ≡ entry_size h.two
    → bytes ≡ part b (directory_at h) (directory_len h)
directory_cut b bytes h at size read place e =
    read ∙ ap (λ (n : ℕ). part b n (size * h.blocks)) place ∙ ap (λ (n : ℕ). part b (directory_at h) (n * h.blocks)) e

named_are : (b : List ℕ) (h : Header) (ws : List (List ℕ)) (bytes : List ℕ) → IsHeaderOf b h → ws ≡ file_words b
    → bytes ≡ part b (directory_at h) (directory_len h) → named_in h.two ws h.blocks bytes ≡ named_heads b
named_are b h ws bytes is words at =
    sym (own_named b ∙ ap (named_in (header_of b).two (file_words b) (header_of b).blocks) (directory_start b)
    ∙ ap (λ (x : Header). named_in x.two (file_words b) x.blocks (part b (directory_at x) (directory_len x))) is.numbers
    ∙ ap (λ (x : List (List ℕ)). named_in h.two x h.blocks (part b (directory_at h) (directory_len h))) (sym words) ∙ ap (named_in h.two ws h.blocks) (sym at))

pub heads_are : (b : List ℕ) (h : Header) (ws : List (List ℕ)) (hs : List BlockHead) (bytes read : List ℕ) (at size : ℕ) → IsHeaderOf b h → ws ≡ file_words b
    → hs ≡ named_in h.two ws h.blocks bytes → bytes ≡ read → read ≡ part b at (size * h.blocks) → at ≡ directory_at h → size ≡ entry_size h.two
    → hs ≡ named_heads b
heads_are b h ws hs bytes read at size is words heads same cut place e =
    heads ∙ named_are b h ws bytes is words (directory_cut b bytes h at size (same ∙ cut) place e)

-- ---- what the rules say
three_none : (o p q : Option Broken) → first_reason (o ∷ p ∷ q ∷ []) ≡ None → (o ≡ None) × (p ≡ None) × (q ≡ None)
three_none None None None e = (refl, refl, refl)
three_none None None (Some x) e = absurd cc
three_none None (Some x) q e = absurd cc
three_none (Some x) p q e = absurd cc

values_hold : (t : BlockHead → Bool) (e at : ℕ) (last : Option BlockHead) (hs : List BlockHead)
    → list_all (λ i. t i.value) (laid (λ h. e) at last hs) ≡ true → list_all t hs ≡ true
unfolding laid
values_hold t e at last [] all = refl
values_hold t e at last (h ∷ hs) all =
    let p = and_parts (t h) (list_all (λ i. t i.value) (laid (λ h. e) (at + e) (Some h) hs)) all in
    and_from (t h) (list_all t hs) p.0 (values_hold t e (at + e) (Some h) hs p.1)

facets_read : (two : Bool) (ws : List (List ℕ)) (k : ℕ) (bytes : List ℕ) → All (λ h. h.facet ≡ is_facet (word_at ws h.lo)) (named_in two ws k bytes)
unfolding named_in
facets_read two ws zero bytes = All-nil (λ h. h.facet ≡ is_facet (word_at ws h.lo))
facets_read two ws (suc k) bytes =
    All-cons (λ h. h.facet ≡ is_facet (word_at ws h.lo)) (named_head two ws bytes) (named_in two ws k (drop (entry_size two) bytes)) refl
    (facets_read two ws k (drop (entry_size two) bytes))

pub has_heads : (h : Header) (ws : List (List ℕ)) (hs : List BlockHead) (bytes : List ℕ) → hs ≡ named_in h.two ws h.blocks bytes → directory_judged h ws hs ≡ None
    → HasHeads h ws hs
unfolding directory_judged bad_joint bad_size
has_heads h ws hs bytes is fine =
    let items = laid (λ (x : BlockHead). entry_size h.two) (directory_at h) None hs in
    let p = three_none _ _ _ fine in
    let r10 = or_parts _ _ (tried_none 10 _ p.0) in
    let r12 = or_parts _ _ (tried_none 12 _ p.2) in
    let sums = and_parts _ _ (unless_none _ _ r12.1) in
    record {
      count = ap length is ∙ named_count h.two ws h.blocks bytes;
      joined = held_anywhere is_joined (λ x. ENTRY_BYTES) (λ x. entry_size h.two) 0 (directory_at h) None hs ∙ all_hold (λ i. is_joined i.last i.value) items r10.0;
      end = eqb-true _ _ (unless_none _ _ r10.1);
      kinds = values_hold (is_of_one_kind ws) (entry_size h.two) (directory_at h) None hs (all_hold (λ i. is_of_one_kind ws i.value) items (tried_none 11 _ p.1));
      facets = subst (λ (x : List BlockHead). All (λ h. h.facet ≡ is_facet (word_at ws h.lo)) x) (sym is) (facets_read h.two ws h.blocks bytes);
      sized = values_hold is_sized (entry_size h.two) (directory_at h) None hs (all_hold (λ i. is_sized i.value) items r12.0);
      rows = eqb-true _ _ sums.0;
      bytes = eqb-true _ _ sums.1;
    }
