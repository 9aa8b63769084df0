-- `longer` returns a value of no bytes, whose ghost field is that of its argument and one more string.
use Rattle.std.proofs.Common.{◌++◌, [], ◌∷◌, refl}
use Rattle.std.proofs.raw_atomic.Walks.{proved}
use mir.Syntax.{named}
use mir.Val.{Val, vstruct, vcons, vnil}
use base.Fml.{Fml, ftrue, flft}
use types.Kit.{‵, ◌⊛◌, ◌$◌, ◌∵◌, !, qed, move, keep, split, join, fjoin, use0, suffices, done}
use types.Run.{no_more, and_then, returns, enter}
use types.Part.{agg}
use types.ByLocal.{alloc_all, pass_all, free_all, look_at, get, sets}
use denote.Builtin.{RefOf, SliceRefOf, u8}
use denote.Exit.{yes}
use denote.RattleType.{owns}
use denote.Ref.{ShrRef, shr_vals, shr_Tells}
use denote.Slice.{ShrSlice, shr_slice_vals, shr_slice_Tells}
use denote.Shadow.{makes_shadow}
use denote.Signature.{type_at, plain}
use denote.Steps.{nothing}
use denote.Triple.Walked.{says, Stays, stay_dropped, Goes-dropped, walk_of, ends_at}
use Rattle.hdt_build.specs.contracts.ghost_strings.GhostStrings.{the_row as R}
use Rattle.hdt_build.specs.contracts.ghost_strings.GhostStrings.longer as f
use Rattle.hdt_build.proofs.ghost_strings.GhostStrings.longer.Statement.{statement}
use Rattle.hdt_build.proofs.ghost_strings.GhostStrings.longer.Code as code

abbrev stayed : Stays f.ended.signature.params f.ended.kept
stayed = (
  stay_dropped (RefOf (0 ∷ []) tt (plain (λ _. R)) (λ _. tt)) yes,
  (stay_dropped (SliceRefOf (1 ∷ []) tt (plain (λ _. u8)) (λ _. tt)) yes, tt),
)

pub longer_spec : {M : Type 1} → statement M
longer_spec 𝓤 𝓛 𝓜 𝓡 wired =
    let c = f.clauses 𝓛 𝓜.mem 𝓡.returns in
    proved 𝓛 f.ended stayed c 𝓜 𝓡 (
      Goes-dropped 𝓛 2 (RefOf (0 ∷ []) tt (plain (λ _. R)) (λ _. tt)) yes (λ κs x f. refl),
      (Goes-dropped 𝓛 2 (SliceRefOf (1 ∷ []) tt (plain (λ _. u8)) (λ _. tt)) yes (λ κs x f. refl), tt),
    )
    f.Key.name code.function (code.unfolded 𝓤 𝓛.H 𝓜 𝓡 wired)
    (λ κs. (shr_vals, (shr_slice_vals, tt)))
    (λ κs. (shr_Tells (named 0) κs.0 R, (shr_slice_Tells (named 1) κs.1.0 u8, tt))) (λ κs qs bounds a g are.
    let W = walk_of 𝓛 f.ended stayed c in let vs = shr_vals a.0 in let ws = shr_slice_vals a.1.0 in let y : W.Ghost =
    ((κs, qs, bounds, a, (vs, (ws, tt))), g) in
    let v : Val = vstruct (vcons (vstruct vnil) vnil) in let r : denote.Triple.Entry.Res (f.ended).signature κs =
    record { marker = record {}; strings = a.0.now.strings ++ a.1.0.now ∷ [] } in
    let O : Fml = (type_at (f.ended).signature.result κs).own_val r (v ∷ []) in
    let T : Fml = owns (ShrRef (named 0) κs.0 R ∷ ShrSlice (named 1) κs.1.0 u8 ∷ []) a (vs, (ws, tt)) in
    qed 𝓛 (((‵ (flft κs.0 qs.0) ⊛ (‵ (flft κs.1.0 qs.1.0) ⊛ ‵ ftrue)) ⊛ ‵ T) ∷ ‵ ftrue ∷ []) ∵
    split ! $ keep ! (0 ∷ []) $
    enter ! _ _ _ _ _ $
    alloc_all ! (λ l. pass_all ! refl ((tt, tt), ((tt, (tt, (record { fits = are.1.0.0.1.0 }, tt))), tt)) $
    sets ! (agg ! (no_more !)) refl (tt, tt) $ sets ! (agg ! (and_then ! (get ! refl) (no_more !))) refl (
      tt,
      (tt, tt),
    ) $
    returns ! (look_at ! 0 refl) $ free_all ! refl $
    use0 𝓛 (‵ O) (makes_shadow 𝓛 O (
      (λ vss. (tt, ((λ uss. (tt, tt)), tt))),
      tt,
    ) (((vstruct vnil ∷ [], tt), (refl, ((tt, (refl, tt)), tt))), tt)) $
    suffices ! _ (ends_at 𝓛 f.ended stayed c y v r (tt, (tt, tt)) (tt, (tt, tt))) $ says ! refl $
    nothing ! $ nothing ! $ fjoin ! $ nothing ! $ fjoin ! $ join ! $ move ! (1 ∷ 0 ∷ []) $ join ! $ done !))
