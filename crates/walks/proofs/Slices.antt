-- A lent list of plain data in a walk. Each element's store opens the borrow, takes the element out of the row, puts the new one there and
-- closes the borrow at the changed list.
use mathlib.Core.Path.{◌≡◌, refl}
use Prim.Native.Nat.{ℕ, suc, ◌*◌, ◌≤◌, ◌<◌, ◌^◌}
use native.Mathlib.Nat.{le_of_lt, lt_of_le_of_lt, lt_trans, mul-le-mul_right}
use mathlib.Core.List.{List, [], ◌∷◌}
use lib.Dec.{lit<}
use lib.ListN.{length, get_or, set, length-set}
use seplogic.Ra.Ura.{Ura}
use base.Fraction.{full_share}
use mir.Syntax.{erased, deref, place, Opd as Operand, rv_opd, Body, seq, assign}
use mir.Val.{Val, vptr}
use base.Logic.{ent}
use base.Fml.{Lft, GName, Share, fat, flft, fobs, fauth, fbor, fobor, fres}
use prog.Wp.{Env, Calls, Loops, spot_of}
use types.Logic.{Logic, sem}
use types.Kit.{Item, ‵, nth, Post, runs, Step, step, ◌$◌, ◌∵◌, !, qed, move, drop, use1, done}
use types.Run.{Opd, look, store_raw, stop, hop, from, of_opd, assigns}
use denote.RattleType.{RattleType}
use denote.Laws.{Is, shows}
use denote.Memory.{cell_at, lone, mem, shares}
use denote.Slice.{heres, coded_holeys, Room, finally, res-finally}
use denote.Lend.{Held}
use denote.Index.{place as place_of, others, elem_out, elem_put, opens_slice, closes_slice}
use denote.Steps.{owned}
use denote.Struct.Struct.{Plains}
use denote.Struct.Declared.{Declared, fields, row}
use denote.Struct.Laws as LL

-- a `&mut [R]` at a list: what its ghost name observes, and the borrow
abbrev pub lent : {M : Type 1} {𝓤 : Ura M} → (R : RattleType) → Lft → GName → ℕ → ℕ → List R.Denot → List (Item 𝓤) → List (Item 𝓤)
lent R κ γ b o zs Γ = ‵ (fobs γ ((coded_holeys R).code (heres R zs))) ∷ ‵ (fbor κ (Held R (length zs) b o γ)) ∷ Γ

-- what is left of it where it is not used again: its last list
pub gives_up : {M : Type 1} {𝓤 : Ura M} (𝓛 : Logic 𝓤) → (R : RattleType) (κ : Lft) (γ : GName) (zs : List R.Denot) → ent 𝓤 (sem 𝓛 (fobs γ ((coded_holeys R).code (heres R zs)))) (sem 𝓛 (finally R γ zs))
gives_up 𝓛 R κ γ zs =
    qed 𝓛 (‵ (fobs γ ((coded_holeys R).code (heres R zs))) ∷ []) ∵
    use1 𝓛 (‵ (fres γ ((coded_holeys R).code (heres R zs)))) (𝓛.names.obs-res γ ((coded_holeys R).code (heres R zs))) $ use1 𝓛 (‵ (finally R γ zs)) (res-finally 𝓛 erased κ R γ zs) $ done !

-- what fewer elements than there is room for take, and where one of them lies
pub room_for_fewer : (R : RattleType) (k n : ℕ) → k ≤ n → Room R n → Room R k
room_for_fewer R k n h room = (lt_of_le_of_lt h room.0, lt_of_le_of_lt (mul-le-mul_right (mem R).size h) room.1)

pub offset_fits : (R : RattleType) (k n : ℕ) → k < n → Room R n → k * (mem R).size < 2 ^ 64
offset_fits R k n h room = lt_trans (room_for_fewer R k n (le_of_lt h) room).1 (lit< tt)

-- the list while element i is out: its cell, what it owns, the others; the open borrow, both halves of the ghost name
abbrev pub opened : {M : Type 1} {𝓤 : Ura M} → (R : RattleType) → (R.Denot → List Val) → Lft → Share → GName → ℕ → ℕ → List R.Denot → ℕ → R.Denot → List (Item 𝓤) → List (Item 𝓤)
opened R vals κ q γ b o ys i d Γ =
    ‵ (cell_at full_share R.mir (vals (get_or ys i d)) b (place_of (mem R).size o i)) ∷ ‵ (R.own_val (get_or ys i d) (vals (get_or ys i d))) ∷ ‵ (others (shares R) full_share ys i b o)
    ∷ ‵ (fobor κ q (Held R (length ys) b o γ)) ∷ ‵ (fobs γ ((coded_holeys R).code (heres R ys))) ∷ ‵ (fauth γ ((coded_holeys R).code (heres R ys))) ∷ Γ

-- `*_j = x`, where local j, at place n of the context after the list and its token, points to element i
pub stores : {M : Type 1} {𝓤 : Ura M} {𝓛 : Logic 𝓤} {K : Type 0} {Γ : List (Item 𝓤)} {E : Env 𝓤 𝓛.H} {C : Calls 𝓤 𝓛.H} {Λ : Loops 𝓤 𝓛.H} {p : Post 𝓤 𝓛.H} {κ : Lft} {q s : Share} {γ : GName} {j : ℕ} {x : Operand} {rest : Body}
    (T : Declared) (L : LL.Laws T) → Plains (fields T) → K → (ys : List T.D) (i : ℕ) (y : T.D) (b o : ℕ) → i < length ys → Is (row T) y (LL.vals T L y)
    → (n : ℕ) → nth 𝓛 n Γ ≡ ‵ (fat s (spot_of 𝓤 𝓛.H E j).0 (spot_of 𝓤 𝓛.H E j).1 (spot_of 𝓤 𝓛.H E j).2 (vptr b (place_of (mem (row T)).size o i)))
    → Opd K 𝓛 (opened (row T) (LL.vals T L) κ q γ b o ys i y Γ) E x (LL.val T L y)
    → Step K 𝓛 (lent (row T) κ γ b o (set ys i y) (‵ (flft κ q) ∷ Γ)) (runs C Λ E rest p) (lent (row T) κ γ b o ys (‵ (flft κ q) ∷ Γ)) (runs C Λ E (seq (assign (place j (deref (lone (row T).mir) ∷ [])) (rv_opd x)) rest) p)
stores {M} {𝓤} {𝓛} {K} {Γ} T L pl t ys i y b o within is n e opd = step (λ s.
    opens_slice t tt (row T) ys b o $ elem_out t (row T) (Is (row T)) (shows 𝓛 (row T)) (LL.vals T L) (LL.tells T L) full_share ys i y b o within (λ _.
    assigns t (of_opd t opd) (from t (hop t (look t (suc (suc (suc (suc (suc (suc n)))))) e) (stop t))) (store_raw t 0 refl ((LL.lawful T L 𝓛).typed y (LL.vals T L y) is).0) $
    move t (1 ∷ []) $ drop t $ owned t (row T) (Is (row T)) (LL.makes T pl 𝓛) y (LL.vals T L y) is $ move t (1 ∷ 0 ∷ []) $
    elem_put t (row T) full_share ys i y (LL.vals T L y) b o within $ closes_slice t tt (row T) ys (set ys i y) (length-set ys i y) b o $ s))
