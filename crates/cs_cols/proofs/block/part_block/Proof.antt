-- `part_block` takes the rooms out, and leaves the way back. Assumes `Logic`.
use Rattle.std.proofs.Common.{◌≡◌, ◌*◌, ◌<◌, List, [], ◌∷◌, ◌++◌, refl}
use seplogic.Ra.Ura.{Ura}
use mir.Syntax.{w64}
use mir.Val.{Val, vint}
use base.Logic.{SProp, id⊢}
use base.Fml.{ftrue}
use prog.Memory.{Memory}
use prog.Routine.{Routine}
use prog.Wp.{Calls, Loops, WpFn, Tables}
use contract.Monad.{Fun}
use contract.Running.{tables, tables_of}
use types.Logic.{Logic}
use types.Kit.{‵, ◌⊛◌, given, prop, ◌$◌, !, move, drop, use1, split, learn, fsplit, fsplit3, fjoin, fpack, feq_l, flt_l, regoal, suffices, done}
use types.Part.{agg}
use types.Run.{enter, returns, of_opd, and_then, no_more}
use types.ByLocal.{alloc_all, pass_all, free_all, look_at, get, sets}
use denote.Exit.{yes}
use denote.Laws.{Typed}
use denote.RawPtr.{InBlock, ◌+ₚ◌}
use denote.Builtin.{usize}
use denote.Param.{layout}
use denote.Signature.{plain}
use denote.Steps.{nothing}
use denote.Struct.Struct.{as_fields}
use denote.Triple.Walked.{says, Stays, Walks, walk_of, ends_at}
use Rattle.std.proofs.alloc.Calls.{Goes-blank}
use Rattle.cs_cols.specs.Block.{rooms, block_cells}
use Rattle.cs_cols.specs.contracts.rooms.NumberRoom as NumberRoom
use Rattle.cs_cols.specs.contracts.rooms.ByteRoom as ByteRoom
use Rattle.cs_cols.specs.contracts.block.WaitingBlock as WaitingBlock
use Rattle.cs_cols.proofs.Walks.{none, one, five, tells, none_made, five_made, dropped, begins, by_walk}
use Rattle.cs_cols.proofs.Carved.{Words, words-laws, carve}
use Rattle.cs_cols.specs.contracts.block.part_block as F
use Rattle.cs_cols.specs.contracts.block.part_block.Key.{name as #self}
use Rattle.cs_cols.proofs.block.part_block.Statement as stated
use Rattle.cs_cols.proofs.block.part_block.Code as code

abbrev stayed : Stays F.ended.signature.params F.ended.kept
stayed = (dropped Words, (dropped usize, tt))

module _ {M : Type 1} {𝓤 : Ura M} (𝓛 : Logic 𝓤) (at_mem : Memory → SProp 𝓤) (run : Routine → Fun 𝓤) where
  walks : (C : Calls 𝓤 𝓛.H) (Λ : Loops 𝓤 𝓛.H) → Walks 𝓛 F.ended stayed (WpFn 𝓤 𝓛.H C Λ code.function) (F.clauses 𝓛 at_mem run)
  walks C Λ z =
      let v = z.0.3.0 in
      let c = z.0.3.1.0 in
      let p = v.ptr in
      let N = NumberRoom.the_row in
      let S = ByteRoom.the_row in
      let B = WaitingBlock.the_row in
      let Asked = (v.len ≡ 0) × (v.cap ≡ block_cells c) × (0 < c) in
      let docs : N.Denot = record { ptr = p; cap = c } in
      let words : N.Denot = record { ptr = p +ₚ 4 * c; cap = c } in
      let places : N.Denot = record { ptr = p +ₚ 8 * c; cap = c } in
      let scores : S.Denot = record { ptr = p +ₚ 12 * c; cap = c } in
      let block : B.Denot = record { ptr = p; cap = c } in
      let vss = z.0.4 in
      let held = F.clauses 𝓛 at_mem run in
      let Post = (walk_of 𝓛 F.ended stayed held).post z in
      begins 𝓛 F.ended stayed held z Asked (id⊢ 𝓤 _) (λ asked.
      fsplit ! $ tells ! Words words-laws v vss.0 (λ u is good. move ! (1 ∷ []) $ fsplit ! $ fsplit ! $ feq_l ! (λ is₁. flt_l ! (λ fits. drop ! $
      let inner = as_fields (layout Words ∷ []) (u ∷ []) (good, tt) in
      use1 𝓛 (given (InBlock p) (‵ (rooms p c) ⊛ ‵ (WaitingBlock.the_own block (one u ∷ [])))) (carve 𝓛 v u c asked.0 asked.1 asked.2) $ learn ! (λ placed. split ! $
      -- [the rooms; the block; the tokens]
      fsplit3 ! $ move ! (2 ∷ []) $ fsplit ! $ move ! (2 ∷ []) $ none_made ! $ fjoin ! $ move ! (1 ∷ []) $ none_made ! $ fjoin ! $ move ! (2 ∷ []) $ none_made ! $ fjoin ! $ move ! (3 ∷ []) $ none_made ! $ fjoin ! $
      -- [the words; the scores; the positions; the documents; the block; the tokens]
      move ! (4 ∷ []) $ nothing ! $ fpack ! (Typed B.mir (one u ∷ [])) (λ _. ftrue) (inner, tt) $ fjoin ! $ move ! (4 ∷ 1 ∷ 3 ∷ 2 ∷ 0 ∷ []) $
      five_made ! N N N S B docs words places scores block none none none none (one u) $
      regoal ! (λ (us : List Val). prop (WpFn 𝓤 𝓛.H C Λ code.function (us ++ (vss.1.0 ++ [])) Post)) is refl $
      regoal ! (λ (us : List Val). prop (WpFn 𝓤 𝓛.H C Λ code.function ((u ∷ []) ++ (us ++ [])) Post)) is₁ refl $
      enter ! C Λ code.function (u ∷ vint w64 c ∷ []) Post $ alloc_all ! (λ l. pass_all ! refl (good, ((tt, record { fits = fits }), tt)) $
      sets ! (agg ! (no_more !)) refl (tt, tt) $ sets ! (agg ! (no_more !)) refl (tt, tt) $ sets ! (agg ! (no_more !)) refl (tt, tt) $ sets ! (agg ! (no_more !)) refl (tt, tt) $
      sets ! (of_opd ! (get ! refl)) refl good $ sets ! (agg ! (and_then ! (get ! refl) (no_more !))) refl inner $
      sets ! (agg ! (and_then ! (get ! refl) (and_then ! (get ! refl) (and_then ! (get ! refl) (and_then ! (get ! refl) (and_then ! (get ! refl) (no_more !))))))) refl
      (as_fields (layout N ∷ layout N ∷ layout N ∷ layout S ∷ layout B ∷ []) (none ∷ none ∷ none ∷ none ∷ one u ∷ []) ((tt, tt), ((tt, tt), ((tt, tt), ((tt, tt), (inner, tt)))))) $
      returns ! (look_at ! 0 refl) $ free_all ! refl $
      suffices ! _ (ends_at 𝓛 F.ended stayed held z (five none none none none (one u)) (docs, words, places, scores, block) (tt, (tt, tt)) (tt, (tt, tt))) $
      says ! (placed, ((refl, refl, refl, refl), (refl, refl, refl, refl)), refl, refl) $
      nothing ! $ nothing ! $ fjoin ! $ nothing ! $ fjoin ! $ move ! (2 ∷ 0 ∷ 1 ∷ []) $ done !))))))

pub part_block_spec : {M : Type 1} → stated.statement M
unfolding tables_of
part_block_spec 𝓤 𝓛 𝓜 𝓡 wired =
    let 𝓣 : Tables 𝓤 𝓛.H = tables_of 𝓤 𝓛.H 𝓜 (tables 𝓤 𝓛.H 𝓜 𝓡 𝓡.env) in
    by_walk 𝓛 F.ended stayed (F.clauses 𝓛 𝓜.mem 𝓡.returns)
    (Goes-blank 𝓛 0 (plain (λ _. Words)) yes (λ κs x f. tt), (Goes-blank 𝓛 0 (plain (λ _. usize)) yes (λ κs x f. tt), tt))
    #self code.function 𝓣 (code.unfolded 𝓤 𝓛.H 𝓜 𝓡 wired) (walks 𝓛 𝓜.mem 𝓡.returns 𝓣.C 𝓣.Λ)
