-- `none` returns a null pointer, which owns nothing.
use mathlib.Core.Path.{refl, sym, subst}
use mathlib.Core.List.{List, [], ◌∷◌, ◌++◌}
use lib.Dec.{T}
use seplogic.Ra.Ura.{Ura}
use mir.Val.{Val, vstruct, vnil, vcons, has_ty, WT}
use base.Logic.{SProp, ent, emp, id⊢}
use base.Fml.{ftrue}
use prog.Memory.{Memory}
use prog.Routine.{Routine}
use prog.Wp.{WpFn, Tables}
use types.Logic.{Logic}
use contract.Monad.{Fun}
use contract.Running.{tables, tables_of}
use sound.WpLaws.{WpFn-mono}
use types.Kit.{Item, ‵, raw, ◌⊛◌, ◌$◌, ◌∵◌, !, qed, by, move, drop, use1, join, split, fsplit, fjoin, fpack, feq_i}
use types.Kit.{suffices, done}
use types.Part.{agg}
use types.Run.{no_more, and_then, lit, returns, enter}
use types.ByLocal.{alloc_all, pass_all, free_all, look_at, get, sets}
use denote.Exit.{yes}
use denote.RattleType.{Valss, owns}
use denote.RawPtr.{Ptr, RawPtr, block_ptr, null_ptr, ptr_val}
use denote.Signature.{plain}
use denote.Steps.{nothing}
use denote.Struct.Struct.{within}
use denote.Struct.Owning.{shape}
use denote.Triple.Spec.{triple_of}
use denote.Triple.Table.{entered}
use denote.Triple.Walked.{says, Stays, stay_dropped, walk_of, ends_at, Goes-dropped, walk_Meets}
use Rattle.std.proofs.Common.{arith}
use Rattle.std.specs.Prelude.{None}
use Rattle.std.specs.Global.{Global}
use Rattle.std.proofs.alloc.Calls.{α, Fits, handle_tells}
use Rattle.std_alloc.proofs.ResultValues.{and_tt}
use Rattle.std_alloc.proofs.BoxSteps.Form.{box_ty, box_typed}
use Rattle.std_heap.specs.contracts.Global as Heap
use Rattle.hdt_c.proofs.AsBox.{E}
use Rattle.hdt_c.specs.contracts.handle.ResourcePtr as ResourcePtr
use Rattle.hdt_c.specs.contracts.handle.ResourcePtr.none as F
use Rattle.hdt_c.specs.contracts.handle.ResourcePtr.none.Key.{name as #self}
use Rattle.hdt_c.proofs.handle.ResourcePtr.none.Statement as stated
use Rattle.hdt_c.proofs.handle.ResourcePtr.none.Code as code

abbrev stayed : Stays (F.ended).signature.params (F.ended).kept
stayed = (stay_dropped (plain (λ _. Heap.the_row)) yes, tt)

abbrev pair : Ptr → Val → Val
pair p h = vstruct (vcons (ptr_val p) (vcons h vnil))

pair_typed : (p : Ptr) (h : Val) → Fits E.al h → T (has_ty (box_ty E) (pair p h)) × WT (pair p h)
pair_typed (block_ptr b o) h fa = box_typed E h b o fa
pair_typed null_ptr h fa = (and_tt (has_ty (α E.al) h) fa.0, (record { fits = omega arith }, (fa.1, tt)))

module _ {M : Type 1} {𝓤 : Ura M} (𝓛 : Logic 𝓤) (at_mem : Memory → SProp 𝓤) (run : Routine
    → Fun 𝓤) (𝓣 : Tables 𝓤 𝓛.H) where
  open 𝓛 use {H}

  abbrev at_ghost : Global → List Val → (walk_of 𝓛 F.ended stayed (F.clauses 𝓛 at_mem run)).Ghost
  at_ghost a vs = ((tt, tt, tt, (a, tt), (vs, tt)), tt)

  walk : (a : Global) (vs : List Val)
      → ent 𝓤 ((walk_of 𝓛 F.ended stayed (F.clauses 𝓛 at_mem run)).pre (at_ghost a vs))
      (WpFn 𝓤 H 𝓣.C 𝓣.Λ code.function (vs
      ++ []) ((walk_of 𝓛 F.ended stayed (F.clauses 𝓛 at_mem run)).post (at_ghost a vs)))
  walk a vs =
      let z = at_ghost a vs in
      let Post = (walk_of 𝓛 F.ended stayed (F.clauses 𝓛 at_mem run)).post z in
      let made : (ResourcePtr.the_row).Denot = record { at = null_ptr; alloc = a; value = None } in
      qed 𝓛 ((‵ ftrue ⊛ ‵ (owns (Heap.the_row ∷ []) (a, tt) (vs, tt))) ∷ raw (emp 𝓤)
      ∷ []) ∵ split ! $ drop ! $ fsplit ! $
      handle_tells E.al ! a vs (λ hv ea fa. move ! (1 ∷ 2 ∷ []) $ drop ! $ drop ! $
      let w = pair null_ptr hv in
      let Γ : List (Item 𝓤) = ‵ ((Heap.the_row).own_val a (hv ∷ [])) ∷ [] in
      by ! (subst (λ (ws : List Val). ent 𝓤 (types.Kit.⋆ 𝓛 Γ) (WpFn 𝓤 H 𝓣.C 𝓣.Λ code.function (ws ++ []) Post)) (sym ea)
      (qed 𝓛 Γ ∵ enter ! 𝓣.C 𝓣.Λ code.function (hv ∷ []) _ $ alloc_all ! (λ ls. pass_all ! refl (fa, tt) $
      sets ! (agg ! (and_then ! (lit ! tt) (and_then ! (get ! refl) (no_more !)))) refl
      (pair_typed null_ptr hv fa) $ returns ! (look_at ! 0 refl) $ free_all ! refl $
      nothing ! $ nothing ! $ move ! (2 ∷ 0 ∷ []) $ fjoin ! $ feq_i ! (List Val) (ptr_val null_ptr
      ∷ []) (ptr_val null_ptr ∷ []) refl $ fjoin ! $ feq_i ! (List Val) (w ∷ []) (w ∷ []) refl $ fjoin ! $
      fpack ! (Valss (RawPtr ∷ Heap.the_row ∷ []))
      (within (shape ResourcePtr.the_type) (null_ptr, (((tt, tt), tt), tt)) (w ∷ [])) (
        ptr_val null_ptr ∷ [],
        (hv ∷ [], tt),
      ) $ fjoin ! $
      use1 𝓛 (‵ ((ResourcePtr.the_row).own_val made (w ∷ []))) (id⊢ 𝓤 _) $
      suffices ! _ (ends_at 𝓛 F.ended stayed (F.clauses 𝓛 at_mem run) z w made (tt, tt) (tt, tt)) $
      says ! (refl, refl) $ nothing ! $ nothing ! $ fjoin ! $ join ! $ nothing ! $ join ! $ done !))))

pub none_spec : {M : Type 1} → stated.statement M
unfolding tables_of
none_spec 𝓤 𝓛 𝓜 𝓡 wired =
    let 𝓣 : Tables 𝓤 𝓛.H = tables_of 𝓤 𝓛.H 𝓜 (tables 𝓤 𝓛.H 𝓜 𝓡 𝓡.env) in
    entered 𝓤 𝓛.H (triple_of 𝓛 F.signature (F.spec 𝓛 𝓜.mem 𝓡.returns)) 𝓣.C 𝓣.Λ #self code.function
    (code.unfolded 𝓤 𝓛.H 𝓜 𝓡 wired)
    (walk_Meets 𝓛 F.ended stayed (
      Goes-dropped 𝓛 0 (plain (λ _. Heap.the_row)) yes (λ κs x f. refl),
      tt,
    ) (F.clauses 𝓛 𝓜.mem 𝓡.returns) (WpFn 𝓤 𝓛.H 𝓣.C 𝓣.Λ code.function) (WpFn-mono 𝓤 𝓛.H 𝓛.laws 𝓣 code.function)
    (λ z. walk 𝓛 𝓜.mem 𝓡.returns 𝓣 z.0.3.0 z.0.4.0))
