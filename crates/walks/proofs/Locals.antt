-- A function's locals in a walk: all of them as a context with no type written, one read, set, freed; and the test of a `while`. With n
-- locals, local i stands at 2 · (n − 1 − i), plus what stands before the locals.
use mathlib.Core.Path.{◌≡◌, sym, subst}
use Prim.Native.Nat.{ℕ, zero}
use mathlib.Core.Bool.{Bool, not}
use mathlib.Core.List.{List, [], ◌∷◌}
use mathlib.Core.Option.{Option, some, none}
use seplogic.Ra.Ura.{Ura}
use base.Fraction.{full_share}
use lib.Dec.{T}
use mir.Syntax.{Ty, place, Opd as Operand, copy, Rv as RValue, Body, skip, seq, assign, cond, exit, Local, local}
use mir.Val.{Val, vbool, WT, has_ty}
use base.Logic.{ent, sep, via, mono_l, mono_r}
use base.Fml.{Share, Fml, fat, froom, fdies}
use prog.Wp.{Heap, Env, spot_of, Calls, Loops, exits}
use types.Logic.{Logic}
use types.Kit.{Item, ‵, mean, ⋆, nth, del, put, pull, push, Post, post, Goal, prop, runs, frees, Seq, Step, step, ◌$◌}
use types.Run.{Opd, Rv, look, init, stop, from, load, assigns, first, skips, jumps, branches, free1}

-- what a local holds, or the room for it
abbrev pub cell : Ty → ℕ → Option Val → Fml
cell τ b none = froom τ b zero
cell τ b (some v) = fat full_share τ b zero v

-- all locals, the last one first, each with its block and what it holds
abbrev pub cells : {M : Type 1} {𝓤 : Ura M} → List Local → List (ℕ × Option Val) → List (Item 𝓤) → List (Item 𝓤)
cells [] vs Γ = Γ
cells (local τ h ∷ ls) [] Γ = Γ
cells (local τ h ∷ ls) (v ∷ vs) Γ = cells ls vs (‵ (cell τ v.0 v.1) ∷ ‵ (fdies τ v.0) ∷ Γ)

-- and as the environment in which the code runs
abbrev pub blocks_of : {M : Type 1} (𝓤 : Ura M) (H : Heap 𝓤) → List Local → List (ℕ × Option Val) → Env 𝓤 H
blocks_of 𝓤 H [] vs = []
blocks_of 𝓤 H (local τ h ∷ ls) [] = []
blocks_of 𝓤 H (local τ h ∷ ls) (v ∷ vs) = (τ, v.0) ∷ blocks_of 𝓤 H ls vs

module _ {M : Type 1} {𝓤 : Ura M} {𝓛 : Logic 𝓤} {K : Type 0} {Γ : List (Item 𝓤)} where
  -- the context along an equation
  open 𝓛 use {H}

  pub recontext : K → {G : Goal 𝓤 H} {Δ : List (Item 𝓤)} → Γ ≡ Δ → Step K 𝓛 Δ G Γ G
  recontext t {G} e = step (λ s. subst (λ (Θ : List (Item 𝓤)). Seq K 𝓛 Θ G) (sym e) s)

  module _ {E : Env 𝓤 H} where
    -- a local is read
    pub var : K → (n : ℕ) {i : ℕ} {q : Share} {v : Val} → nth 𝓛 n Γ ≡ ‵ (fat q (spot_of 𝓤 H E i).0 (spot_of 𝓤 H E i).1 (spot_of 𝓤 H E i).2 v) → Opd K 𝓛 Γ E (copy (place i [])) v
    var t n e = load t (from t (stop t)) (look t n e)

    module _ {C : Calls 𝓤 H} {Λ : Loops 𝓤 H} {q : Post 𝓤 H} where
      -- a local is set for the first time
      pub lets : K → (n : ℕ) {i : ℕ} {rv : RValue} {rest : Body} {v : Val} → nth 𝓛 n Γ ≡ ‵ (froom (spot_of 𝓤 H E i).0 (spot_of 𝓤 H E i).1 (spot_of 𝓤 H E i).2) → Rv K 𝓛 Γ E rv v → T (has_ty (spot_of 𝓤 H E i).0 v) × WT v
          → Step K 𝓛 (put 𝓛 n (‵ (fat full_share (spot_of 𝓤 H E i).0 (spot_of 𝓤 H E i).1 (spot_of 𝓤 H E i).2 v)) Γ) (runs C Λ E rest q) Γ (runs C Λ E (seq (assign (place i []) rv) rest) q)
      lets t n e r typed = assigns t r (from t (stop t)) (init t n e typed)

      -- the test of a `while`: the turn goes on, or the loop is left
      pub tests : K → {c : Operand} {n : ℕ} {b : Body} {y : Bool} → Opd K 𝓛 Γ E c (vbool y) → (T y → Seq K 𝓛 Γ (runs C Λ E b q)) → (T (not y) → Seq K 𝓛 Γ (prop (post 𝓤 H q (exits n))))
          → Seq K 𝓛 Γ (runs C Λ E (seq (cond c skip (exit n)) b) q)
      tests t o held failed = first t $ branches t o (λ h. skips t $ record { prf = (held h).prf }) (λ h. jumps t $ record { prf = (failed h).prf })

  -- a local that holds something is freed
  pub free : K → (n : ℕ) {τ : Ty} {b : ℕ} {v : Val} {E : Env 𝓤 H} {g : Goal 𝓤 H} → nth 𝓛 n Γ ≡ ‵ (fat full_share τ b zero v) → nth 𝓛 n (del 𝓛 n Γ) ≡ ‵ (fdies τ b)
      → Step K 𝓛 (del 𝓛 n (del 𝓛 n Γ)) (frees E g) Γ (frees ((τ, b) ∷ E) g)
  free t n {τ} {b} {v} {E} {g} e e' =
      let Θ : List (Item 𝓤) = del 𝓛 n Γ in
      let Φ : List (Item 𝓤) = del 𝓛 n Θ in
      let held = subst (λ (j : Item 𝓤). ent 𝓤 (⋆ 𝓛 Γ) (sep 𝓤 (mean 𝓛 j) (⋆ 𝓛 Θ))) e (pull 𝓛 n Γ) in
      let dies = subst (λ (j : Item 𝓤). ent 𝓤 (⋆ 𝓛 Θ) (sep 𝓤 (mean 𝓛 j) (⋆ 𝓛 Φ))) e' (pull 𝓛 n Θ) in
      step (λ s. record {
        prf =
            via 𝓤 (sep 𝓤 (H.at full_share τ b zero v) (⋆ 𝓛 Θ)) held
            (via 𝓤 (sep 𝓤 (H.at full_share τ b zero v) (sep 𝓤 (H.dies τ b) (⋆ 𝓛 Φ))) (mono_r 𝓤 (H.at full_share τ b zero v) dies)
            (via 𝓤 (sep 𝓤 (H.room τ b zero) (sep 𝓤 (H.dies τ b) (⋆ 𝓛 Φ))) (mono_l 𝓤 (sep 𝓤 (H.dies τ b) (⋆ 𝓛 Φ)) (𝓛.laws.at_room τ b zero v))
            (via 𝓤 (⋆ 𝓛 (‵ (froom τ b zero) ∷ ‵ (fdies τ b) ∷ Φ)) (mono_r 𝓤 (H.room τ b zero) (push 𝓛 (‵ (fdies τ b)) Φ)) (free1 t $ s).prf)));
      })
