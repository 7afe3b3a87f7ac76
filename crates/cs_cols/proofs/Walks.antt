-- Steps that the walks of `src/block.rt` share. Assumes `Logic`.
--
--   Good           a machine value of a row's type
--   plainly        a struct by its fields alone: what it owns does not read its name
--   tells          what is owned is one machine value, of its type
--   none_made, none_had, one_made, one_had, five_made     structs of no field, of one and of five, made and taken apart
--   dropped        nothing is had at exit of a parameter that the function uses up
--   begins         a walk begins with the parameters and, behind them, the tokens; what is asked is known
--   AsCaller       what the walk of a function shows that calls another one, by the contract of that one
--   by_walk        a function meets its contract where its code is walked
use Rattle.std.proofs.Common.{◌≡◌, List, [], ◌∷◌, refl}
use lib.Dec.{T}
use seplogic.Ra.Ura.{Ura}
use mir.Syntax.{Fn, Callee, given as dict_at}
use mir.Val.{Val, vstruct, vcons, vnil, has_ty, WT}
use base.Fml.{ftrue}
use base.Logic.{SProp, ent}
use prog.Wp.{Calls, Closed, Loops, WpFn, Tables}
use contract.Monad.{fact}
use sound.WpLaws.{FmC, WpFn-mono}
use types.Logic.{Logic}
use types.Kit.{Goal, Seq, Step, step, Item, Go, ‵, raw, prop, ◌⊛◌, ◌$◌, ◌∵◌, !, qed, move, drop, use1, split, fsplit, fjoin, fpick, fpack, feq_l, feq_i}
use denote.RattleType.{RattleType, Valss, owns}
use denote.Exit.{yes}
use denote.Signature.{plain, types_at}
use denote.Param.{layout}
use denote.Param.Laws.{Laws}
use denote.Steps.{nothing, heard}
use denote.Struct.Struct.{Struct, within}
use denote.Triple.Clauses.{Clauses, Ended, closing}
use denote.Triple.Entry.{alive}
use denote.Triple.Spec.{triple_of}
use denote.Triple.Statement.{Contract, Triple}
use denote.Triple.Table.{entered}
use denote.Triple.Walked.{Stay, Stays, AllGo, Walks, stay_dropped, walk_of, walk_Meets}
use Rattle.std.proofs.alloc.Calls.{handle_tells}

-- a machine value of the row's type
abbrev pub Good : RattleType → Val → Type 0
Good R v = T (has_ty (layout R) v) × WT v

-- a struct by its fields alone: what it owns does not read its name
abbrev pub plainly : List RattleType → RattleType
plainly Rs = Struct (record { name = []; args = []; types = []; fields = Rs })

abbrev pub none : Val
none = vstruct vnil

abbrev pub one : Val → Val
one u = vstruct (vcons u vnil)

abbrev pub five : Val → Val → Val → Val → Val → Val
five u v w x y = vstruct (vcons u (vcons v (vcons w (vcons x (vcons y vnil)))))

module _ {M : Type 1} {𝓤 : Ura M} {𝓛 : Logic 𝓤} {K : Type 0} {Γ : List (Item 𝓤)} {G : Goal 𝓤 𝓛.H} where
  -- what is owned is one machine value, of its type
  pub tells : K → (R : RattleType) → Laws R → (x : R.Denot) (vs : List Val) → ((v : Val) → vs ≡ v ∷ [] → Good R v → Seq K 𝓛 (‵ (R.own_val x (v ∷ [])) ∷ Γ) G) → Seq K 𝓛 (‵ (R.own_val x vs) ∷ Γ) G
  tells t R L = handle_tells (record { row = R; laws = L; g = record { dealloc_token = λ a τ p. ftrue }; d = dict_at 0; drops = dict_at 0 }) t

  pub none_made : K → Step K 𝓛 (‵ ((plainly []).own_val tt (none ∷ [])) ∷ Γ) G Γ G
  none_made t = step (λ s.
      nothing t $ feq_i t (List Val) (none ∷ []) (none ∷ []) refl $ fjoin t $
      fpack t (Valss []) (within (record { name = []; args = []; types = []; fields = [] }) tt (none ∷ [])) tt $ s)

  pub none_had : K → (vs : List Val) → (vs ≡ none ∷ [] → Seq K 𝓛 Γ G) → Seq K 𝓛 (‵ ((plainly []).own_val tt vs) ∷ Γ) G
  none_had t vs k = fpick t (λ vss. fsplit t $ feq_l t (λ e. drop t $ k e))

  pub one_made : K → (R : RattleType) (x : R.Denot) (u : Val) → Step K 𝓛 (‵ ((plainly (R ∷ [])).own_val (x, tt) (one u ∷ [])) ∷ Γ) G (‵ (R.own_val x (u ∷ [])) ∷ Γ) G
  one_made t R x u = step (λ s.
      nothing t $ move t (1 ∷ 0 ∷ []) $ fjoin t $ feq_i t (List Val) (one u ∷ []) (one u ∷ []) refl $ fjoin t $
      fpack t (Valss (R ∷ [])) (within (record { name = []; args = []; types = []; fields = R ∷ [] }) (x, tt) (one u ∷ [])) (u ∷ [], tt) $ s)

  pub one_had : K → (R : RattleType) → Laws R → (x : R.Denot) (vs : List Val) → ((u : Val) → vs ≡ one u ∷ [] → Good R u → Seq K 𝓛 (‵ (R.own_val x (u ∷ [])) ∷ Γ) G)
      → Seq K 𝓛 (‵ ((plainly (R ∷ [])).own_val (x, tt) vs) ∷ Γ) G
  one_had t R L x vs k =
      fpick t (λ vss. fsplit t $ feq_l t (λ e. fsplit t $ move t (1 ∷ []) $ drop t $ tells t R L x vss.0 (λ u is good.
      k u (rw is at e) good)))

  pub five_made : K → (R S U V W : RattleType) (r : R.Denot) (s : S.Denot) (u : U.Denot) (v : V.Denot) (w : W.Denot) (a b c d e : Val)
      → Step K 𝓛 (‵ ((plainly (R ∷ S ∷ U ∷ V ∷ W ∷ [])).own_val (r, (s, (u, (v, (w, tt))))) (five a b c d e ∷ [])) ∷ Γ) G
      (‵ (R.own_val r (a ∷ [])) ∷ ‵ (S.own_val s (b ∷ [])) ∷ ‵ (U.own_val u (c ∷ [])) ∷ ‵ (V.own_val v (d ∷ [])) ∷ ‵ (W.own_val w (e ∷ [])) ∷ Γ) G
  five_made t R S U V W r s u v w a b c d e = step (λ k.
      nothing t $ move t (5 ∷ 0 ∷ []) $ fjoin t $ move t (4 ∷ 0 ∷ []) $ fjoin t $ move t (3 ∷ 0 ∷ []) $ fjoin t $ move t (2 ∷ 0 ∷ []) $ fjoin t $ move t (1 ∷ 0 ∷ []) $ fjoin t $
      feq_i t (List Val) (five a b c d e ∷ []) (five a b c d e ∷ []) refl $ fjoin t $
      fpack t (Valss (R ∷ S ∷ U ∷ V ∷ W ∷ [])) (within (record { name = []; args = []; types = []; fields = R ∷ S ∷ U ∷ V ∷ W ∷ [] }) (r, (s, (u, (v, (w, tt))))) (five a b c d e ∷ []))
      (a ∷ [], (b ∷ [], (c ∷ [], (d ∷ [], (e ∷ [], tt))))) $ k)

-- nothing is had at exit of a parameter that the function uses up
abbrev pub dropped : (R : RattleType) → Stay {n = 0} (plain (λ _. R)) yes
dropped R = stay_dropped (plain (λ _. R)) yes

module _ {M : Type 1} {𝓤 : Ura M} (𝓛 : Logic 𝓤) (F : Ended) (hs : Stays F.signature.params F.kept) (held : Clauses 𝓤 F) where
  open 𝓛 use {H}

  -- a walk begins with the parameters and, behind them, the tokens; what is asked is known
  pub begins : (z : (walk_of 𝓛 F hs held).Ghost) {P : SProp 𝓤} (Asked : Type 0) → ent 𝓤 ((held z.0.0 z.0.3).requires z.1) (fact 𝓤 Asked)
      → (Asked → Seq (Go {0}) 𝓛 (‵ (owns (types_at F.signature.params z.0.0) z.0.3 z.0.4) ∷ raw (alive 𝓛 F.signature z.0.0 z.0.1) ∷ []) (prop P))
      → ent 𝓤 ((walk_of 𝓛 F hs held).pre z) P
  begins z Asked asks k =
      qed 𝓛 ((raw (alive 𝓛 F.signature z.0.0 z.0.1) ⊛ ‵ (owns (types_at F.signature.params z.0.0) z.0.3 z.0.4)) ∷ raw ((held z.0.0 z.0.3).requires z.1) ∷ []) ∵
      move ! (1 ∷ []) $ use1 𝓛 (raw (fact 𝓤 Asked)) asks $ heard ! Asked (λ asked. split ! $ move ! (1 ∷ []) $ k asked)

  -- what the walk of a function shows that calls another one, by the contract of that one
  abbrev pub AsCaller : Callee → Contract 𝓤 → Fn → Type 2
  AsCaller callee asked code = (C : Calls 𝓤 H) (Λ : Loops 𝓤 H) → FmC 𝓤 H 𝓛.laws C → Triple 𝓤 (C callee) asked → Walks 𝓛 F hs (WpFn 𝓤 H C Λ code) held

  -- a function meets its contract where its code is walked
  pub by_walk : AllGo 𝓛 F.signature.lifetimes F.signature.params F.kept hs → (key : Callee) (code : Fn) (𝓣 : Tables 𝓤 H) → Closed 𝓤 H 𝓣.C 𝓣.Λ key code
      → Walks 𝓛 F hs (WpFn 𝓤 H 𝓣.C 𝓣.Λ code) held → Triple 𝓤 (𝓣.C key) (triple_of 𝓛 F.signature (closing 𝓛 F held))
  by_walk gone key code 𝓣 closed walks =
      entered 𝓤 H (triple_of 𝓛 F.signature (closing 𝓛 F held)) 𝓣.C 𝓣.Λ key code closed
      (walk_Meets 𝓛 F hs gone held (WpFn 𝓤 H 𝓣.C 𝓣.Λ code) (WpFn-mono 𝓤 H 𝓛.laws 𝓣 code) walks)
