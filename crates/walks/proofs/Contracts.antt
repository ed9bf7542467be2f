-- A walk aims at the contract's own triple: it enters with the parameters' machine values written out, and ends at a result and last values
-- that the prover names, with a proof of the `ensures`.
use seplogic.Ra.Ura.{Ura}
use mathlib.Core.List.{[], ◌∷◌}
use mir.Val.{Val}
use base.Logic.{SProp, ent, sep, wand, emp, via, comm∗, mono_l, wand_i, apply∗}
use types.Logic.{Logic, sem}
use contract.Monad.{Fun}
use contract.Lifetimes.{Lfts, Shares, AllOutlive}
use types.Kit.{‵, raw, ◌$◌, ◌∵◌, !, qed, by, show, frame, updating, now as at_once}
use denote.RattleType.{flat}
use denote.Laws.{Are, Ises, Spells, valss, Tellss}
use denote.Signature.{Signature, types_at}
use denote.Steps.{said}
use denote.Triple.Entry.{Args, Vals, Res, on_entry}
use denote.Triple.Statement.{Contract, Triple}
use denote.Triple.Spec.{Back, triple_of}
use denote.Triple.Clauses.{Clauses, Ended, Lasts, at_exit, lasts, ensured, closing}

module _ {M : Type 1} {𝓤 : Ura M} (𝓛 : Logic 𝓤) (T : Ended) (c : Clauses 𝓤 T) where
  abbrev S : Signature
  S = T.signature

  abbrev pub Asked : Contract 𝓤
  Asked = triple_of 𝓛 T.signature (closing 𝓛 T c)

  pub starts_at : (run : Fun 𝓤) (sp : (κs : Lfts S.lifetimes) → Spells (types_at S.params κs)) → ((κs : Lfts S.lifetimes) → Tellss (types_at S.params κs) (Ises (types_at S.params κs)) (sp κs))
      → ((κs : Lfts S.lifetimes) (qs : Shares S.lifetimes) (bounds : AllOutlive S.lifetimes S.outlives κs) (a : Args S κs) (g : (c κs a).ghost)
      → Are (types_at S.params κs) (Ises (types_at S.params κs)) a (valss (types_at S.params κs) (sp κs) a)
      → ent 𝓤 (sep 𝓤 (on_entry 𝓛 S κs qs a (valss (types_at S.params κs) (sp κs) a)) ((c κs a).requires g))
      (run (flat (types_at S.params κs) (valss (types_at S.params κs) (sp κs) a)) (Asked.post ((κs, qs, bounds, a, valss (types_at S.params κs) (sp κs) a), g))))
      → Triple 𝓤 run Asked
  starts_at run sp tl k y =
      let κs : Lfts S.lifetimes = y.0.0 in
      let R : SProp 𝓤 = (c κs y.0.3).requires y.1 in
      let Q : Vals S κs → SProp 𝓤 = λ us. run (flat (types_at S.params κs) us) (Asked.post ((κs, y.0.1, y.0.2, y.0.3, us), y.1)) in
      via 𝓤 (sep 𝓤 R (wand 𝓤 R (Q y.0.4)))
      (via 𝓤 (sep 𝓤 (wand 𝓤 R (Q y.0.4)) R)
      (mono_l 𝓤 R (said 𝓛 S κs y.0.1 (sp κs) (tl κs) y.0.3 (λ us. wand 𝓤 R (Q us)) y.0.4 (λ are. wand_i 𝓤 _ R _ (k κs y.0.1 y.0.2 y.0.3 y.1 are))))
      (comm∗ 𝓤 (wand 𝓤 R (Q y.0.4)) R))
      (apply∗ 𝓤 R (Q y.0.4))

  pub ends : (y : Asked.Ghost) (v : Val) (r : Res S y.0.0) (ws : Lasts T y.0.0 y.0.3) → ent 𝓤 (emp 𝓤) ((c y.0.0 y.0.3).ensures y.1 r (at_exit T y.0.0 y.0.3 ws))
      → ent 𝓤 (sep 𝓤 (Back 𝓛 S y.0 v r) (sem 𝓛 (lasts T y.0.0 y.0.3 ws))) (Asked.post y v)
  ends y v r ws says =
      let Said : Lasts T y.0.0 y.0.3 → SProp 𝓤 = λ us. sep 𝓤 (sem 𝓛 (lasts T y.0.0 y.0.3 us)) ((c y.0.0 y.0.3).ensures y.1 r (at_exit T y.0.0 y.0.3 us)) in
      qed 𝓛 (raw (Back 𝓛 S y.0 v r) ∷ ‵ (lasts T y.0.0 y.0.3 ws) ∷ []) ∵ updating ! $ at_once ! $
      show ! (λ (r' : Res S y.0.0). sep 𝓤 (Back 𝓛 S y.0 v r') (ensured 𝓛 T c y.0.0 y.0.3 y.1 r')) r $ frame ! $ show ! Said ws $ frame ! $ by ! says
