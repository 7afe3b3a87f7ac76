-- `whole` hands the rooms to what waits for them. Assumes `Logic`.
use Rattle.std.proofs.Common.{ℕ, ◌*◌, List, [], ◌∷◌, ◌++◌, refl, ap, subst}
use seplogic.Ra.Ura.{Ura}
use mir.Val.{Val}
use base.Logic.{SProp, apply∗, id⊢}
use prog.Memory.{Memory}
use prog.Routine.{Routine}
use prog.Wp.{Calls, Loops, WpFn, Tables}
use contract.Monad.{Fun}
use contract.Running.{tables, tables_of}
use types.Logic.{Logic, sem}
use types.Kit.{‵, prop, ◌$◌, !, move, drop, use2, fsplit, fjoin, fjoin3, fpick, feq_l, regoal, rewrite, suffices, done}
use types.Part.{sub, whole}
use types.Run.{enter, returns, of_opd, fld, stop}
use types.ByLocal.{alloc_all, pass_all, free_all, look_at, get, get_in, sets}
use denote.Exit.{yes}
use denote.Laws.{Typed}
use denote.RawPtr.{Ptr, room_for, ◌+ₚ◌}
use denote.Signature.{plain}
use denote.Steps.{nothing}
use denote.Triple.Walked.{says, Stays, Walks, walk_of, ends_at}
use Rattle.std.proofs.alloc.Calls.{Goes-blank}
use Rattle.cs_cols.specs.Block.{number_column, byte_column, rooms}
use Rattle.cs_cols.specs.Rooms.{LieAt}
use Rattle.cs_cols.specs.contracts.rooms.NumberRoom as NumberRoom
use Rattle.cs_cols.specs.contracts.rooms.ByteRoom as ByteRoom
use Rattle.cs_cols.specs.contracts.block.WaitingBlock as WaitingBlock
use Rattle.cs_cols.proofs.Walks.{plainly, none, one, none_had, one_had, dropped, begins, by_walk}
use Rattle.cs_cols.proofs.Carved.{Words, words-laws}
use Rattle.cs_cols.specs.contracts.block.whole as F
use Rattle.cs_cols.specs.contracts.block.whole.Key.{name as #self}
use Rattle.cs_cols.proofs.block.whole.Statement as stated
use Rattle.cs_cols.proofs.block.whole.Code as code

abbrev stayed : Stays F.ended.signature.params F.ended.kept
stayed = (dropped NumberRoom.the_row, (dropped NumberRoom.the_row, (dropped NumberRoom.the_row, (dropped ByteRoom.the_row, (dropped WaitingBlock.the_row, tt)))))

module _ {M : Type 1} {𝓤 : Ura M} (𝓛 : Logic 𝓤) (at_mem : Memory → SProp 𝓤) (run : Routine → Fun 𝓤) where
  walks : (C : Calls 𝓤 𝓛.H) (Λ : Loops 𝓤 𝓛.H) → Walks 𝓛 F.ended stayed (WpFn 𝓤 𝓛.H C Λ code.function) (F.clauses 𝓛 at_mem run)
  walks C Λ z =
      let vss = z.0.4 in
      let docs = z.0.3.0 in
      let words = z.0.3.1.0 in
      let places = z.0.3.1.1.0 in
      let scores = z.0.3.1.1.1.0 in
      let e = z.0.3.1.1.1.1.0 in
      let us = vss.1.1.1.1.0 in
      let Asked = LieAt e.ptr e.cap docs words places scores in
      let Number = λ (r : Ptr × ℕ). ‵ (room_for (number_column r.1) r.0) in
      let Byte = λ (r : Ptr × ℕ). ‵ (room_for (byte_column r.1) r.0) in
      let held = F.clauses 𝓛 at_mem run in
      let Post = (walk_of 𝓛 F.ended stayed held).post z in
      begins 𝓛 F.ended stayed held z Asked (id⊢ 𝓤 _) (λ asked.
      fsplit ! $ fsplit ! $ none_had ! vss.0 (λ is₀. move ! (1 ∷ []) $ fsplit ! $ fsplit ! $ none_had ! vss.1.0 (λ is₁. move ! (1 ∷ []) $
      fsplit ! $ fsplit ! $ none_had ! vss.1.1.0 (λ is₂. move ! (1 ∷ []) $ fsplit ! $ fsplit ! $ none_had ! vss.1.1.1.0 (λ is₃. move ! (1 ∷ []) $
      -- [the block; the scores; the positions; the words; the documents; the tokens]
      fsplit ! $ fsplit ! $ fpick ! (λ typed. drop ! $ fpick ! (λ v. fsplit ! $ feq_l ! (λ is.
      -- [the way back; nothing; the scores; the positions; the words; the documents; the tokens]
      move ! (5 ∷ 4 ∷ 3 ∷ 2 ∷ []) $
      rewrite ! 0 Number {x = (e.ptr, e.cap)} (λ i. (asked.0.0 i, asked.1.0 i)) refl $ rewrite ! 1 Number {x = (e.ptr +ₚ 4 * e.cap, e.cap)} (λ i. (asked.0.1 i, asked.1.1 i)) refl $
      rewrite ! 2 Number {x = (e.ptr +ₚ 8 * e.cap, e.cap)} (λ i. (asked.0.2 i, asked.1.2 i)) refl $ rewrite ! 3 Byte {x = (e.ptr +ₚ 12 * e.cap, e.cap)} (λ i. (asked.0.3 i, asked.1.3 i)) refl $
      move ! (2 ∷ 3 ∷ []) $ fjoin ! $ move ! (1 ∷ 2 ∷ 0 ∷ []) $ fjoin3 ! $
      use2 𝓛 (‵ ((plainly (Words ∷ [])).own_val (v.vec, tt) us)) (apply∗ 𝓤 (sem 𝓛 (rooms e.ptr e.cap)) (sem 𝓛 ((plainly (Words ∷ [])).own_val (v.vec, tt) us))) $
      one_had ! Words words-laws v.vec us (λ u is₄ good. move ! (1 ∷ []) $ drop ! $
      regoal ! (λ (us : List Val). prop (WpFn 𝓤 𝓛.H C Λ code.function (us ++ (vss.1.0 ++ (vss.1.1.0 ++ (vss.1.1.1.0 ++ (vss.1.1.1.1.0 ++ []))))) Post)) is₀ refl $
      regoal ! (λ (us : List Val). prop (WpFn 𝓤 𝓛.H C Λ code.function ((none ∷ []) ++ (us ++ (vss.1.1.0 ++ (vss.1.1.1.0 ++ (vss.1.1.1.1.0 ++ []))))) Post)) is₁ refl $
      regoal ! (λ (us : List Val). prop (WpFn 𝓤 𝓛.H C Λ code.function ((none ∷ []) ++ ((none ∷ []) ++ (us ++ (vss.1.1.1.0 ++ (vss.1.1.1.1.0 ++ []))))) Post)) is₂ refl $
      regoal ! (λ (us : List Val). prop (WpFn 𝓤 𝓛.H C Λ code.function ((none ∷ []) ++ ((none ∷ []) ++ ((none ∷ []) ++ (us ++ (vss.1.1.1.1.0 ++ []))))) Post)) is₃ refl $
      regoal ! (λ (us : List Val). prop (WpFn 𝓤 𝓛.H C Λ code.function ((none ∷ []) ++ ((none ∷ []) ++ ((none ∷ []) ++ ((none ∷ []) ++ (us ++ []))))) Post)) is₄ refl $
      enter ! C Λ code.function (none ∷ none ∷ none ∷ none ∷ one u ∷ []) Post $
      alloc_all ! (λ l. pass_all ! refl ((tt, tt), ((tt, tt), ((tt, tt), ((tt, tt), ((subst (Typed (WaitingBlock.the_row).mir) is₄ typed).0, tt))))) $
      sets ! (of_opd ! (get_in ! (fld ! refl (stop !)) (sub ! 0 refl (whole !)))) refl good $ sets ! (of_opd ! (get ! refl)) refl good $
      returns ! (look_at ! 0 refl) $ free_all ! refl $
      suffices ! _ (ends_at 𝓛 F.ended stayed held z u v.vec (tt, (tt, (tt, (tt, (tt, tt))))) (tt, (tt, (tt, (tt, (tt, tt)))))) $ says ! (ap (λ t. t.0) is, ap (λ t. t.1) is) $
      nothing ! $ nothing ! $ fjoin ! $ nothing ! $ fjoin ! $ nothing ! $ fjoin ! $ nothing ! $ fjoin ! $ nothing ! $ fjoin ! $ move ! (2 ∷ 0 ∷ 1 ∷ []) $ done !))))))))))

pub whole_spec : {M : Type 1} → stated.statement M
unfolding tables_of
whole_spec 𝓤 𝓛 𝓜 𝓡 wired =
    let 𝓣 : Tables 𝓤 𝓛.H = tables_of 𝓤 𝓛.H 𝓜 (tables 𝓤 𝓛.H 𝓜 𝓡 𝓡.env) in
    let number = Goes-blank 𝓛 0 (plain (λ _. NumberRoom.the_row)) yes (λ κs x f. tt) in
    by_walk 𝓛 F.ended stayed (F.clauses 𝓛 𝓜.mem 𝓡.returns)
    (number, (number, (number, (Goes-blank 𝓛 0 (plain (λ _. ByteRoom.the_row)) yes (λ κs x f. tt), (Goes-blank 𝓛 0 (plain (λ _. WaitingBlock.the_row)) yes (λ κs x f. tt), tt)))))
    #self code.function 𝓣 (code.unfolded 𝓤 𝓛.H 𝓜 𝓡 wired) (walks 𝓛 𝓜.mem 𝓡.returns 𝓣.C 𝓣.Λ)
