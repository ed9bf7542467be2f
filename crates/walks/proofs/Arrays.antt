-- A local array of plain data in a walk: its cell is its elements side by side, so that a front part of it can be lent as a `&mut` slice
-- while the rest stays, and the whole is a cell again once the lifetime is over, with the lent part's last list at its front.
use mathlib.Core.Path.{◌≡◌, refl, sym, ◌∙◌, subst}
use Prim.Native.Nat.{ℕ, zero, suc, ◌+◌}
use mathlib.Core.List.{List, [], ◌∷◌, ◌++◌, map}
use lib.ListN.{length, replicate, length-replicate, length-map}
use seplogic.Ra.Ura.{Ura}
use base.Fraction.{full_share}
use mir.Syntax.{Lifetime, ty_array}
use mir.Val.{Val}
use base.Logic.{SProp, ent, sep, ex, guard}
use base.Fml.{Lft, GName, Fml, fsep, fat, fdead, flent}
use types.Logic.{Logic, sem}
use types.Kit.{‵, ◌⊛◌, some, later, ◌$◌, ◌∵◌, !, qed, by, move, drop, use1, use2, use3, split, pick, rewrite, check, fsplit, fjoin, fpick, fpack, feq_i, frame, await, updating, now as at_once, show, done}
use types.SemTy.{SemTy, cells, Arr}
use types.Share.{arr_parts}
use denote.RattleType.{RattleType}
use denote.Shadow.{shadow}
use denote.Laws.{Is, shows}
use denote.Array.{Array, each, array_val, Array-Makes, Array-Tells}
use denote.ArrayMemory.{Array-apart, Array-whole}
use denote.Memory.{cell_at, part_at, lone, mem, shares, part_of}
use denote.Slice.{slice_val, MutSlice, Room, finally}
use denote.Lend.{Held, lends_slice, slice_back}
use denote.Index.{place as place_of, row as row_of, whole_out, whole_in}
use denote.Steps.{owned, peeks, nothing}
use denote.Struct.Struct.{Plains, Struct}
use denote.Struct.Declared.{Declared, fields, shape, row}
use denote.Struct.Laws as LL

-- `[x; n]`
each_repeat : (R : RattleType) (x : R.Denot) (u : Val) → Is R x (u ∷ []) → (n : ℕ) → shadow (each R.Denot R.own_val (replicate n x) (replicate n u))
each_repeat R x u is zero = tt
each_repeat R x u is (suc n) = (is, each_repeat R x u is n)

pub is_repeat : (R : RattleType) (x : R.Denot) (u : Val) → Is R x (u ∷ []) → (n : ℕ) → Is (Array R n) (replicate n x) (array_val (replicate n u) ∷ [])
is_repeat R x u is n = (replicate n u, ((refl, length-replicate n x), each_repeat R x u is n))

-- an array of a declared type, as the field of another
each_field : (T : Declared) (xs : List T.D) (us : List Val) → shadow (each T.D (row T).own_val xs us) → shadow (each (Struct (shape T)).Denot (Struct (shape T)).own_val (map T.to xs) us)
each_field T [] [] s = s
each_field T [] (u ∷ us) s = s
each_field T (x ∷ xs) [] s = s
each_field T (x ∷ xs) (u ∷ us) s = (s.0, each_field T xs us s.1)

pub is_field : (T : Declared) (n : ℕ) (xs : List T.D) (vs : List Val) → Is (Array (row T) n) xs vs → Is (Array (Struct (shape T)) n) (map T.to xs) vs
is_field T n xs vs p = (p.0, ((p.1.0.0, length-map xs T.to ∙ p.1.0.1), each_field T xs p.0 p.1.1))

module _ {M : Type 1} {𝓤 : Ura M} (𝓛 : Logic 𝓤) where
  -- elements side by side, in two parts
  open 𝓛 use {H, A}

  cells_apart : (S : SemTy) (xs ys : List S.rep) (b o : ℕ) → ent 𝓤 (sem 𝓛 (cells S (xs ++ ys) b o)) (sep 𝓤 (sem 𝓛 (cells S xs b o)) (sem 𝓛 (cells S ys b (place_of S.size o (length xs)))))
  cells_apart S [] ys b o = qed 𝓛 (‵ (cells S ys b o) ∷ []) ∵ nothing ! $ done !
  cells_apart S (x ∷ xs) ys b o =
      qed 𝓛 (‵ (S.own_at x b o) ∷ ‵ (cells S (xs ++ ys) b (o + S.size)) ∷ []) ∵ move ! (1 ∷ []) $
      use1 𝓛 (‵ (cells S xs b (o + S.size)) ⊛ ‵ (cells S ys b (place_of S.size (o + S.size) (length xs)))) (cells_apart S xs ys b (o + S.size)) $ split ! $ move ! (2 ∷ 0 ∷ []) $ fjoin ! $ done !

  cells_joined : (S : SemTy) (xs ys : List S.rep) (b o : ℕ) → ent 𝓤 (sep 𝓤 (sem 𝓛 (cells S xs b o)) (sem 𝓛 (cells S ys b (place_of S.size o (length xs))))) (sem 𝓛 (cells S (xs ++ ys) b o))
  cells_joined S [] ys b o = qed 𝓛 (‵ (cells S [] b o) ∷ ‵ (cells S ys b o) ∷ []) ∵ drop ! $ done !
  cells_joined S (x ∷ xs) ys b o =
      qed 𝓛 (‵ (cells S (x ∷ xs) b o) ∷ ‵ (cells S ys b (place_of S.size (o + S.size) (length xs))) ∷ []) ∵ fsplit ! $ move ! (1 ∷ 2 ∷ []) $
      use2 𝓛 (‵ (cells S (xs ++ ys) b (o + S.size))) (cells_joined S xs ys b (o + S.size)) $ move ! (1 ∷ 0 ∷ []) $ done !

  module _ (T : Declared) (L : LL.Laws T) (pl : Plains (fields T)) (n : ℕ) where
    -- the array's one machine value, and its cell
    abbrev pub array_of : List T.D → Val
    array_of xs = array_val (map (LL.val T L) xs)

    abbrev pub array_cell : List T.D → ℕ → Fml
    array_cell xs b = fat full_share (ty_array (lone (row T).mir) n) b 0 (array_of xs)

    taken_apart : (xs : List T.D) (b : ℕ) → Is (Array (row T) n) xs (array_of xs ∷ []) → ent 𝓤 (sem 𝓛 (array_cell xs b)) (sem 𝓛 (cells (mem (row T)) xs b 0))
    unfolding part_of
    taken_apart xs b is =
        qed 𝓛 (‵ (array_cell xs b) ∷ []) ∵ use1 𝓛 (‵ (cell_at full_share (Array (row T) n).mir (array_of xs ∷ []) b 0)) (𝓛.laws.at_raw full_share (ty_array (lone (row T).mir) n) b 0 (array_of xs)) $
        owned ! (Array (row T) n) (Is (Array (row T) n)) (Array-Makes 𝓛 (row T) (LL.makes T pl 𝓛) n) xs _ is $ move ! (1 ∷ 0 ∷ []) $ fjoin ! $
        fpack ! (List Val) (λ us. fsep (cell_at full_share (Array (row T) n).mir us b 0) ((Array (row T) n).own_val xs us)) (array_of xs ∷ []) $
        use1 𝓛 (‵ ((arr_parts (shares (row T)) n).part full_share xs b 0)) (Array-apart 𝓛 (row T) full_share tt n xs b 0) $ fsplit ! $ drop ! $ use1 𝓛 (‵ (cells (mem (row T)) xs b 0)) (whole_in 𝓛 (row T) xs b 0) $ done !

    put_together : (xs : List T.D) (b : ℕ) → length xs ≡ n → ent 𝓤 (sem 𝓛 (cells (mem (row T)) xs b 0)) (guard 𝓤 (Is (Array (row T) n) xs (array_of xs ∷ [])) (sem 𝓛 (array_cell xs b)))
    unfolding part_of
    put_together xs b e =
        qed 𝓛 (‵ (cells (mem (row T)) xs b 0) ∷ []) ∵ use1 𝓛 (‵ (row_of (row T) full_share xs b 0)) (whole_out 𝓛 (row T) xs b 0) $ feq_i ! ℕ (length xs) n e $ fjoin ! $
        use1 𝓛 (‵ (part_at (Array (row T) n) full_share xs b 0)) (Array-whole 𝓛 (row T) full_share n xs b 0) $ fpick ! (λ vs. fsplit ! $ move ! (1 ∷ []) $
        peeks ! (Array (row T) n) (Is (Array (row T) n)) (shows 𝓛 (Array (row T) n)) xs vs (λ is. drop ! $
        rewrite ! 0 (λ (us : List Val). ‵ (cell_at full_share (Array (row T) n).mir us b 0)) (Array-Tells (row T) (LL.vals T L) (LL.tells T L) n xs vs is) refl $
        check ! (subst (Is (Array (row T) n) xs) (Array-Tells (row T) (LL.vals T L) (LL.tells T L) n xs vs is) is) $ by ! (𝓛.laws.raw_at full_share (ty_array (lone (row T).mir) n) b 0 (array_of xs))))

    -- what the lender keeps while the front is lent: its part of the borrow, and the rest of the array
    abbrev pub KeptRest : Lft → GName → List T.D → List T.D → ℕ → Fml
    KeptRest κ γ xs ys b = fsep (flent κ (Held (row T) (length xs) b 0 γ)) (cells (mem (row T)) ys b (place_of (mem (row T)).size 0 (length xs)))

    abbrev pub LentFront : Lifetime → Lft → List T.D → List T.D → ℕ → GName → SProp 𝓤
    LentFront ℓ κ xs ys b γ = sep 𝓤 (sem 𝓛 ((MutSlice ℓ κ (row T)).own_val (record { ref_ptr = (b, 0); ghost_name = γ; now = xs }) (slice_val (b, 0) (length xs) ∷ []))) (sem 𝓛 (KeptRest κ γ xs ys b))

    pub lends_front : (ℓ : Lifetime) (κ : Lft) (xs ys : List T.D) (b : ℕ) → Is (Array (row T) n) (xs ++ ys) (array_of (xs ++ ys) ∷ []) → Room (row T) (length xs) → ent 𝓤 (sem 𝓛 (array_cell (xs ++ ys) b)) (H.⇛ (ex 𝓤 (LentFront ℓ κ xs ys b)))
    lends_front ℓ κ xs ys b is room =
        qed 𝓛 (‵ (array_cell (xs ++ ys) b) ∷ []) ∵ updating ! $ use1 𝓛 (‵ (cells (mem (row T)) (xs ++ ys) b 0)) (taken_apart (xs ++ ys) b is) $
        use1 𝓛 (‵ (cells (mem (row T)) xs b 0) ⊛ ‵ (cells (mem (row T)) ys b (place_of (mem (row T)).size 0 (length xs)))) (cells_apart (mem (row T)) xs ys b 0) $ split ! $
        use1 𝓛 (later (some (λ (γ : GName). ‵ ((MutSlice ℓ κ (row T)).own_val (record { ref_ptr = (b, 0); ghost_name = γ; now = xs }) (slice_val (b, 0) (length xs) ∷ [])) ⊛ ‵ (flent κ (Held (row T) (length xs) b 0 γ))))) (lends_slice 𝓛 (row T) ℓ κ xs b 0 room) $
        await ! tt $ pick ! (λ γ. split ! $ at_once ! $ show ! (LentFront ℓ κ xs ys b) γ $ frame ! $ fjoin ! $ done !)

    -- the lifetime is over: the whole array again, with the lent part's last list at its front
    pub front_back : (κ : Lft) (γ : GName) (xs ws ys : List T.D) (b : ℕ) → length ws ≡ length xs → length (ws ++ ys) ≡ n
        → ent 𝓤 (sep 𝓤 (A.dead κ) (sep 𝓤 (sem 𝓛 (KeptRest κ γ xs ys b)) (sem 𝓛 (finally (row T) γ ws)))) (H.⇛ (guard 𝓤 (Is (Array (row T) n) (ws ++ ys) (array_of (ws ++ ys) ∷ [])) (sem 𝓛 (array_cell (ws ++ ys) b))))
    front_back κ γ xs ws ys b e whole =
        qed 𝓛 (‵ (fdead κ) ∷ ‵ (KeptRest κ γ xs ys b) ∷ ‵ (finally (row T) γ ws) ∷ []) ∵ updating ! $ move ! (1 ∷ []) $ fsplit ! $ move ! (2 ∷ 0 ∷ 3 ∷ []) $
        use3 𝓛 (later (‵ ((Arr (mem (row T)) (length xs)).own_at ws b 0))) (slice_back 𝓛 (row T) κ γ ws (length xs) b 0) $ await ! tt $ fsplit ! $ drop ! $
        rewrite ! 1 (λ (m : ℕ). ‵ (cells (mem (row T)) ys b (place_of (mem (row T)).size 0 m))) (sym e) refl $
        use2 𝓛 (‵ (cells (mem (row T)) (ws ++ ys) b 0)) (cells_joined (mem (row T)) ws ys b 0) $ at_once ! $ by ! (put_together (ws ++ ys) b whole)
