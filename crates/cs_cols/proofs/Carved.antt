-- A block of words comes apart into room for four columns, and a `Vec` of words into those rooms and the way back. Assumes `Logic`.
--
--   rooms_apart    room for a block's words is room for each column, with a way back
--   carve          an empty `Vec` of a block's words is the rooms, and a `WaitingBlock` that waits for them
use Rattle.std.proofs.Common.{◌≡◌, ℕ, ◌+◌, ◌-◌, ◌*◌, ◌<◌, [], ◌∷◌, true, refl, sym, subst, arith, Vec}
use Rattle.std.proofs.lemmas.Bool.{ne_eqb, not_from_false}
use seplogic.Ra.Ura.{Ura}
use mir.Syntax.{Tys, Ty, ty_struct, tcons, tnil}
use mir.Val.{Val}
use base.Logic.{SProp, ent, sep, wand, guard, never, id⊢, apply∗}
use base.Fml.{ftrue, fsep, froom, fwand, feq}
use prog.Memory.{up}
use prog.Model.{rooms_at}
use types.Logic.{Logic, sem}
use types.Kit.{‵, raw, ◌⊛◌, ◌$◌, ◌∵◌, !, qed, move, frame, assume, show, check, split, split3, fsplit, fsplit3, fjoin, fjoin3, feq_i, group, use1, use2, rewrite, done}
use denote.Builtin.{u32}
use denote.RattleType.{RattleType}
use denote.RawPtr.{Ptr, InBlock, block_ptr, in_block, in_a_block}
use Rattle.std.specs.Allocator.{block_with_items}
use Rattle.std_alloc.specs.Vec.Ownership.{owns_if, has_block}
use Rattle.std_alloc.specs.contracts.vec.Vec as V
use Rattle.std.specs.declared.alloc.Global.{Global}
use Rattle.std.specs.contracts.alloc.Global as G
use Rattle.std.specs.contracts.impls.GlobalAllocator.TheImpl.{ghosts}
use Rattle.cs_cols.specs.Block.{number_column, byte_column, block_cells, rooms}
use Rattle.cs_cols.specs.contracts.block.WaitingBlock as WaitingBlock
use Rattle.std_alloc.proofs.vec.Vec.TheLaws as vec_laws
use Rattle.std.proofs.alloc.Global.TheLaws as heap_laws
use denote.Param.Laws.{Laws}
use Rattle.cs_cols.proofs.Lodging.{number}
use Rattle.cs_cols.proofs.Walks.{plainly, one, one_made}

-- the types of the four columns
abbrev columns : ℕ → Tys
columns c = tcons (number_column c) (tcons (number_column c) (tcons (number_column c) (tcons (byte_column c) tnil)))

abbrev second : ℕ → ℕ
second c = up 4 (0 + c * 4)

abbrev third : ℕ → ℕ
third c = up 4 (second c + c * 4)

abbrev fourth : ℕ → ℕ
fourth c = up 1 (third c + c * 4)

second_is : (c : ℕ) → second c ≡ 4 * c
second_is c = omega arith

third_is : (c : ℕ) → third c ≡ 8 * c
third_is c = let e = second_is c in omega arith

fourth_is : (c : ℕ) → fourth c ≡ 12 * c
fourth_is c = let e = third_is c in omega arith

size_is : (c : ℕ) → up 4 (fourth c + c * 1) ≡ block_cells c * 4
size_is c = let e = fourth_is c in omega arith

module _ {M : Type 1} {𝓤 : Ura M} (𝓛 : Logic 𝓤) (b o c : ℕ) where
  open 𝓛 use {H}

  abbrev Rooms : SProp 𝓤
  Rooms = sem 𝓛 (rooms (block_ptr b o) c)

  abbrev whole : Ty
  whole = number_column (block_cells c)

  abbrev fields : Ty
  fields = ty_struct [] (columns c)

  -- room for a block's words is room for each column, with a way back
  pub rooms_apart : ent 𝓤 (H.room whole b o) (sep 𝓤 Rooms (wand 𝓤 Rooms (H.room whole b o)))
  rooms_apart =
      let start : o + 0 ≡ o = omega arith in
      let Outer : SProp 𝓤 = wand 𝓤 (H.room fields b o) (H.room whole b o) in
      let Inner : SProp 𝓤 = wand 𝓤 (rooms_at 𝓤 H (columns c) 0 b o) (H.room fields b o) in
      qed 𝓛 (‵ (froom whole b o) ∷ []) ∵
      use1 𝓛 (‵ (froom fields b o) ⊛ raw Outer) (𝓛.laws.room_as whole fields b o (size_is c) tt) $ split ! $
      use1 𝓛 ((‵ (froom (number_column c) b (o + 0)) ⊛ ‵ (froom (number_column c) b (o + second c)) ⊛ ‵ (froom (number_column c) b (o + third c)) ⊛ ‵ (froom (byte_column c) b (o + fourth c)) ⊛ ‵ ftrue) ⊛ raw Inner)
      (𝓛.laws.room_fields [] (columns c) b o) $ split ! $ split3 ! $ move ! (2 ∷ []) $ split3 ! $
      -- [the positions; the scores; nothing; the documents; the words; the ways back]
      rewrite ! 0 (λ (k : ℕ). ‵ (froom (number_column c) b (o + k))) (third_is c) refl $ rewrite ! 1 (λ (k : ℕ). ‵ (froom (byte_column c) b (o + k))) (fourth_is c) refl $
      rewrite ! 3 (λ (k : ℕ). ‵ (froom (number_column c) b k)) start refl $ rewrite ! 4 (λ (k : ℕ). ‵ (froom (number_column c) b (o + k))) (second_is c) refl $
      fjoin ! $ move ! (2 ∷ 3 ∷ 0 ∷ []) $ fjoin3 ! $ frame ! $ assume ! (‵ (rooms (block_ptr b o) c)) $ fsplit3 ! $ move ! (2 ∷ []) $ fsplit ! $
      -- [the positions; the scores; the documents; the words; nothing; the ways back]
      rewrite ! 0 (λ (k : ℕ). ‵ (froom (number_column c) b (o + k))) (sym (third_is c)) refl $ rewrite ! 1 (λ (k : ℕ). ‵ (froom (byte_column c) b (o + k))) (sym (fourth_is c)) refl $
      rewrite ! 2 (λ (k : ℕ). ‵ (froom (number_column c) b k)) (sym start) refl $ rewrite ! 3 (λ (k : ℕ). ‵ (froom (number_column c) b (o + k))) (sym (second_is c)) refl $
      move ! (2 ∷ 3 ∷ 0 ∷ 1 ∷ []) $ group ! 5 $ use2 𝓛 (‵ (froom fields b o)) (apply∗ 𝓤 (rooms_at 𝓤 H (columns c) 0 b o) (H.room fields b o)) $
      use2 𝓛 (‵ (froom whole b o)) (apply∗ 𝓤 (H.room fields b o) (H.room whole b o)) $ done !

-- a `Vec` of words from the heap, and its laws
abbrev pub Words : RattleType
Words = V.the_row u32 G.the_row ghosts

abbrev pub words-laws : Laws Words
words-laws = vec_laws.the_row_laws u32 G.the_row ghosts number.laws heap_laws.the_row_laws

module _ {M : Type 1} {𝓤 : Ura M} (𝓛 : Logic 𝓤) (v : Vec ℕ Global) (u : Val) (c : ℕ) where
  -- an empty `Vec` of a block's words is the rooms, and a `WaitingBlock` that waits for them
  pub carve : v.len ≡ 0 → v.cap ≡ block_cells c → 0 < c
      → ent 𝓤 (sem 𝓛 (Words.own_val v (u ∷ []))) (guard 𝓤 (InBlock v.ptr) (sep 𝓤 (sem 𝓛 (rooms v.ptr c)) (sem 𝓛 (WaitingBlock.the_own (record { ptr = v.ptr; cap = c }) (one u ∷ [])))))
  carve none full some =
      let live : has_block v.cap ≡ true = not_from_false _ (ne_eqb v.cap 0 (λ e. omega arith)) in
      let t = ghosts.dealloc_token v.alloc in
      let Blk = λ (p : Ptr). block_with_items t u32 p v.len v.cap v.items in
      qed 𝓛 (‵ (Words.own_val v (u ∷ [])) ∷ []) ∵ fsplit ! $ move ! (1 ∷ []) $ fsplit ! $ move ! (1 ∷ []) $
      in_a_block ! v.ptr (λ p. in_block p (owns_if (has_block v.cap) (Blk p))) (id⊢ 𝓤 (never 𝓤)) (λ b o at.
      let p = block_ptr b o in
      let Spare = λ (z : ℕ × ℕ). ‵ (froom (number_column z.0) b z.1) in
      let size : v.cap - v.len ≡ block_cells c = omega (arith, none, full) in
      let start : o + v.len * 4 ≡ o = omega (arith, none) in
      rewrite ! 0 (λ y. ‵ (owns_if y (Blk p))) live refl $ fsplit ! $ move ! (1 ∷ []) $ fsplit ! $
      rewrite ! 0 Spare {x = (block_cells c, o)} (λ i. (size i, start i)) refl $
      use1 𝓛 (‵ (rooms p c) ⊛ raw (wand 𝓤 (sem 𝓛 (rooms p c)) (sem 𝓛 (froom (number_column (block_cells c)) b o)))) (rooms_apart 𝓛 b o c) $ split ! $
      -- [the rooms; the way back; the right to free; no entry; the bound; the fields]
      rewrite ! 0 (λ q. ‵ (rooms q c)) (sym at) refl $ check ! (subst InBlock (sym at) tt) $ frame ! $
      show ! (λ i. sem 𝓛 (fsep (feq (Ptr × ℕ) (i.vec.ptr, i.vec.cap) (v.ptr, block_cells c)) (fwand (rooms v.ptr c) ((plainly (Words ∷ [])).own_val (i.vec, tt) (one u ∷ []))))) (record { vec = v }) $
      feq_i ! (Ptr × ℕ) (v.ptr, v.cap) (v.ptr, block_cells c) (λ i. (v.ptr, full i)) $ frame ! $ assume ! (‵ (rooms v.ptr c)) $
      rewrite ! 0 (λ q. ‵ (rooms q c)) at refl $ use2 𝓛 (‵ (froom (number_column (block_cells c)) b o)) (apply∗ 𝓤 (sem 𝓛 (rooms p c)) (sem 𝓛 (froom (number_column (block_cells c)) b o))) $
      -- [the block's room; the right to free; no entry; the bound; the fields]
      rewrite ! 0 Spare {x = (v.cap - v.len, o + v.len * 4)} (λ i. (sym size i, sym start i)) refl $ fjoin ! $ move ! (1 ∷ 0 ∷ []) $ fjoin ! $
      rewrite ! 0 (λ y. ‵ (owns_if y (Blk p))) (sym live) refl $ rewrite ! 0 (λ q. ‵ (in_block q (owns_if (has_block v.cap) (Blk q)))) (sym at) refl $
      move ! (1 ∷ 0 ∷ []) $ fjoin ! $ move ! (1 ∷ 0 ∷ []) $ fjoin ! $ one_made ! Words v u $ done !)
