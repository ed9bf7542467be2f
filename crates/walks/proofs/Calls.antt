-- A call in a walk, by the callee's contract. `calls_of` takes the tokens and what the arguments own, and gives the tokens back beside the
-- result, the last values and what the contract says. `asks` is the same for a function that takes a message and a number and answers
-- plain data: the message is copied, so the context is as it was, and the result is what the contract says it is, at its machine value.
use mathlib.Core.Path.{◌≡◌, refl, sym, subst, ap}
use Prim.Native.Nat.{ℕ, ◌<◌, ◌^◌}
use mathlib.Core.List.{List, [], ◌∷◌}
use seplogic.Ra.Ura.{Ura}
use mir.Syntax.{Callee, Place, Opd as Operand, Body, seq, call, named, w8, w64}
use mir.Val.{Val, vint}
use base.Logic.{ent, emp, id⊢}
use base.Fml.{Lft, Share, Fml, ftrue, flft}
use prog.Wp.{Env, Calls, Loops}
use types.Logic.{Logic}
use sound.WpLaws.{FmC}
use contract.Monad.{fact}
use types.Kit.{Item, ‵, raw, ◌⊛◌, some, later, mean, Post, runs, lands, Seq, ◌$◌, move, drop, use0, use1, split, join, pick, rewrite, recast, regoal, fjoin, await}
use types.Run.{Opds}
use denote.RattleType.{RattleType, owns}
use denote.Laws.{Is, Tells, shows}
use denote.Plain.{uint_Makes, uint_row_laws}
use denote.Builtin.{u8, usize, SliceRefOf}
use denote.Exit.{yes}
use denote.Ref.{Bor}
use denote.Slice.{ShrSlice, shr_slice_vals, shr_slice_copy}
use denote.Signature.{plain, type_at, types_at}
use denote.Steps.{only, owned, peeks, heard, nothing}
use denote.Triple.Entry.{Res, alive}
use denote.Triple.Statement.{Triple}
use denote.Triple.Call.{calls_at}
use denote.Triple.Clauses.{Clauses, Ended, Lasts, AtExit, at_exit, lasts}
use Rattle.walks.proofs.Contracts.{Asked}

module _ {M : Type 1} {𝓤 : Ura M} {𝓛 : Logic 𝓤} {K : Type 0} {Γ : List (Item 𝓤)} {E : Env 𝓤 𝓛.H} {C : Calls 𝓤 𝓛.H} {Λ : Loops 𝓤 𝓛.H} {p : Post 𝓤 𝓛.H} {d : Place} {rest : Body} where
  -- any call: the tokens stand at the head, then what the arguments own
  open 𝓛 use {H}

  pub calls_of : (T : Ended) (c : Clauses 𝓤 T) (y : (Asked 𝓛 T c).Ghost) → K → {f : Callee} {xs : List Operand} → FmC 𝓤 H 𝓛.laws C → Triple 𝓤 (C f) (Asked 𝓛 T c)
      → (tokens : Item 𝓤) → mean 𝓛 tokens ≡ alive 𝓛 T.signature y.0.0 y.0.1 → ent 𝓤 (emp 𝓤) ((c y.0.0 y.0.3).requires y.1) → Opds K 𝓛 (raw ((Asked 𝓛 T c).pre y) ∷ Γ) E xs ((Asked 𝓛 T c).args y)
      → ((v : Val) (r : Res T.signature y.0.0) (ws : Lasts T y.0.0 y.0.3)
      → Seq K 𝓛 (raw ((c y.0.0 y.0.3).ensures y.1 r (at_exit T y.0.0 y.0.3 ws)) ∷ ‵ (lasts T y.0.0 y.0.3 ws) ∷ tokens ∷ ‵ ((type_at T.signature.result y.0.0).own_val r (v ∷ [])) ∷ Γ) (lands C Λ E d v rest p))
      → Seq K 𝓛 (tokens ∷ ‵ (owns (types_at T.signature.params y.0.0) y.0.3 y.0.4) ∷ Γ) (runs C Λ E (seq (call f xs d) rest) p)
  calls_of T c y t fm known tokens e requires os k =
      let S = T.signature in
      let κs = y.0.0 in
      let a = y.0.3 in
      recast 𝓛 (raw (alive 𝓛 S κs y.0.1)) e $ join t $ use0 𝓛 (raw ((c κs a).requires y.1)) requires $ move t (1 ∷ 0 ∷ []) $ join t $ use1 𝓛 (raw ((Asked 𝓛 T c).pre y)) (id⊢ 𝓤 _) $
      calls_at t fm (Asked 𝓛 T c) known y os (λ v.
      use1 𝓛 (later (some (λ (r : Res S κs). (raw (alive 𝓛 S κs y.0.1) ⊛ ‵ ((type_at S.result κs).own_val r (v ∷ []))) ⊛ some (λ (ws : Lasts T κs a). ‵ (lasts T κs a ws) ⊛ raw ((c κs a).ensures y.1 r (at_exit T κs a ws)))))) (id⊢ 𝓤 _) $
      await t tt $ pick t (λ r. split t $ move t (1 ∷ []) $ pick t (λ ws. split t $ move t (2 ∷ []) $ split t $ recast 𝓛 tokens (sym e) $ move t (3 ∷ 2 ∷ 0 ∷ 1 ∷ []) $ k v r ws)))

  -- what a call gave is plain data that is known: it lands at its machine value
  pub known_as : K → (R : RattleType) (val : R.Denot → Val) → Tells R (Is R) (λ r. val r ∷ []) → {v : Val} {r : R.Denot} (out : R.Denot) → r ≡ out
      → (Is R out (val out ∷ []) → Seq K 𝓛 Γ (lands C Λ E d (val out) rest p)) → Seq K 𝓛 (‵ (R.own_val r (v ∷ [])) ∷ Γ) (lands C Λ E d v rest p)
  known_as t R val tells {v} out e k =
      rewrite t 0 (λ (z : R.Denot). ‵ (R.own_val z (v ∷ []))) e refl $ peeks t R (Is R) (shows 𝓛 R) out (v ∷ []) (λ is.
      regoal t (λ (z : Val). lands C Λ E d z rest p) (ap only (tells out (v ∷ []) is)) refl $ drop t $ k (subst (Is R out) (tells out (v ∷ []) is) is))

-- `fn(&[u8], usize) -> R`
abbrev pub Asking : RattleType → Ended
Asking R = record {
  signature = record { lifetimes = 1; outlives = []; params = SliceRefOf (0 ∷ []) tt (plain (λ κs. u8)) (λ κs. tt) ∷ plain (λ κs. usize) ∷ []; result = plain (λ κs. R) };
  kept = (yes, (yes, tt));
}

-- what the message's type owns
abbrev pub message : Lft → Bor (List ℕ) → Fml
message κ x = (ShrSlice (named 0) κ u8).own_val x (shr_slice_vals x)

-- what the callee's triple binds outside
abbrev pub bound : {M : Type 1} {𝓤 : Ura M} (𝓛 : Logic 𝓤) (R : RattleType) (c : Clauses 𝓤 (Asking R)) (κ : Lft) → Share → (x : Bor (List ℕ)) (i : ℕ) → (c (κ, tt) (x, (i, tt))).ghost → (Asked 𝓛 (Asking R) c).Ghost
bound 𝓛 R c κ q x i g = (((κ, tt), (q, tt), tt, (x, (i, tt)), (shr_slice_vals x, (vint w64 i ∷ [], tt))), g)

module _ {M : Type 1} {𝓤 : Ura M} {𝓛 : Logic 𝓤} (R : RattleType) (val : R.Denot → Val) (tells : Tells R (Is R) (λ r. val r ∷ [])) (c : Clauses 𝓤 (Asking R)) (κ : Lft) (q : Share) (x : Bor (List ℕ)) (i : ℕ) (out : R.Denot) where
  open 𝓛 use {H}

  pub asks : {K : Type 0} {Γ : List (Item 𝓤)} {E : Env 𝓤 H} {C : Calls 𝓤 H} {Λ : Loops 𝓤 H} {p : Post 𝓤 H} {d : Place} {f : Callee} {xs : List Operand} {rest : Body}
      → K → FmC 𝓤 H 𝓛.laws C → Triple 𝓤 (C f) (Asked 𝓛 (Asking R) c) → (g : (c (κ, tt) (x, (i, tt))).ghost) → ent 𝓤 (emp 𝓤) ((c (κ, tt) (x, (i, tt))).requires g)
      → ((r : R.Denot) (e : AtExit (Asking R) (κ, tt)) → ent 𝓤 ((c (κ, tt) (x, (i, tt))).ensures g r e) (fact 𝓤 (r ≡ out))) → i < 2 ^ 64
      → Opds K 𝓛 (raw ((Asked 𝓛 (Asking R) c).pre (bound 𝓛 R c κ q x i g)) ∷ ‵ (message κ x) ∷ Γ) E xs ((Asked 𝓛 (Asking R) c).args (bound 𝓛 R c κ q x i g))
      → (Is R out (val out ∷ []) → Seq K 𝓛 (‵ (flft κ q) ∷ ‵ (message κ x) ∷ Γ) (lands C Λ E d (val out) rest p))
      → Seq K 𝓛 (‵ (flft κ q) ∷ ‵ (message κ x) ∷ Γ) (runs C Λ E (seq (call f xs d) rest) p)
  asks {K} t fm known g requires says fits os k =
      move t (1 ∷ []) $ use1 𝓛 (‵ (message κ x) ⊛ ‵ (message κ x)) ((shr_slice_copy 𝓛 (named 0) κ u8 (uint_row_laws w8)).twice x (shr_slice_vals x)) $ split t $
      nothing t $ owned t usize (Is usize) (uint_Makes 𝓛 w64) i _ (refl, fits) $ fjoin t $ move t (1 ∷ 0 ∷ []) $ fjoin t $ nothing t $ move t (3 ∷ 0 ∷ []) $ join t $
      -- [the token; what the arguments own; the message; ..]
      calls_of (Asking R) c (bound 𝓛 R c κ q x i g) t fm known (‵ (flft κ q) ⊛ ‵ ftrue) refl requires os (λ v r ws.
      use1 𝓛 (raw (fact 𝓤 (r ≡ out))) (says r (at_exit (Asking R) (κ, tt) (x, (i, tt)) ws)) $ heard t (r ≡ out) (λ e. drop t $ split t $ move t (1 ∷ []) $ drop t $ move t (1 ∷ []) $ known_as t R val tells out e (λ is. k is)))
