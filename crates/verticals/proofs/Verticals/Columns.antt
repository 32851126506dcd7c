-- A column of ends, passed one by one: what is known of those passed so far.
use mathlib.Core.Path.{◌≡◌, refl, sym, ap, subst, ◌∙◌}
use mathlib.Core.List.{List, [], ◌∷◌, ◌++◌}
use mathlib.Core.Logic.{◌⊎◌, inl, inr}
use mathlib.Core.Bool.{true, false}
use Prim.Native.Nat.{ℕ, ◌<◌}
use lib.ListN.{length}
use lib.IntN.{ℤ, pos, neg_ℤ}
use lib.Signed.{◌≤ℤ◌, ◌<ℤ◌, ≤ℤ_refl}
use native.Mathlib.Decide.{dec_lt}
use Rattle.integers.proofs.Booleans.{clash, dec}
use Rattle.integers.proofs.Linear.{ints}
use Rattle.geom.specs.declared.Point.{Point}
use Rattle.lists.specs.Members.{◌∈◌}
use Rattle.segm.specs.Segments.{Drawing, segment_at}
use Rattle.lists.proofs.Members.{cases, in-++, in_left, in_right}
use Rattle.ends.specs.Ends.{end_point}
use Rattle.ends.proofs.Ends.{end_a}
use Rattle.strip.specs.Strip.{is_vertical}
use Rattle.verticals.specs.Verticals.{VerticalStart, Beyond, Unbroken}

pub vertical-start? : (d : Drawing) (v : ℕ) → Dec (VerticalStart d v)
vertical-start? d v = go (dec_lt v (length d)) (dec (is_vertical (segment_at d v)))
  where
    go : Dec (v < length d) → (is_vertical (segment_at d v) ≡ true) ⊎ (is_vertical (segment_at d v) ≡ false) → Dec (VerticalStart d v)
    go (no h) t = no (λ s. h s.inside)
    go (yes h) (inl t) = yes (record { inside = h; vertical = t })
    go (yes h) (inr t) = no (λ s. clash s.vertical t)

module _ (d : Drawing) where
  abbrev height : ℕ → ℤ
  height e = (end_point d e).y

  pub foot_height : {v : ℕ} → VerticalStart d v → height v ≡ (segment_at d v).a.y
  foot_height {v} s = ap (λ (p : Point). p.y) (end_a d v s.inside)

  -- those seen have no end within a vertical one, and the last vertical one goes from foot to top; before the first one foot and top are lower than all
  pub record ColumnPassed (seen : List ℕ) (foot top : ℤ) : Type 0 where
    pub unbroken : Unbroken d seen
    pub order : foot ≤ℤ top
    pub last : (v : ℕ) → v ∈ seen → VerticalStart d v → ((segment_at d v).b.y ≤ℤ foot) ⊎ (((segment_at d v).a.y ≡ foot) × ((segment_at d v).b.y ≡ top))
    pub some : ((foot ≡ neg_ℤ (pos 2147483648)) × (top ≡ neg_ℤ (pos 2147483648))) ⊎ ((w : ℕ) × (w ∈ seen) × VerticalStart d w × ((segment_at d w).a.y ≡ foot) × ((segment_at d w).b.y ≡ top))

  pub none_passed : ColumnPassed [] (neg_ℤ (pos 2147483648)) (neg_ℤ (pos 2147483648))
  none_passed = record {
    unbroken = record { beside = λ v m s e n. absurd m; stack = λ v w m n s t e. absurd m };
    order = ≤ℤ_refl (neg_ℤ (pos 2147483648));
    last = λ v m s. absurd m;
    some = inl (refl, refl);
  }

  -- the next end is no lower than those seen, and no lower than every height
  module _ {seen : List ℕ} {foot top : ℤ} (p : ColumnPassed seen foot top) (e : ℕ) (rises : (f : ℕ) → f ∈ seen → height f ≤ℤ height e) (least : neg_ℤ (pos 2147483648) ≤ℤ height e) where
    pub over_foot : foot ≤ℤ height e
    over_foot = go p.some
      where
        go : ((foot ≡ neg_ℤ (pos 2147483648)) × (top ≡ neg_ℤ (pos 2147483648))) ⊎ ((w : ℕ) × (w ∈ seen) × VerticalStart d w × ((segment_at d w).a.y ≡ foot) × ((segment_at d w).b.y ≡ top)) → foot ≤ℤ height e
        go (inl (f, t)) = let l = least in omega ints
        go (inr (w, m, s, f, t)) = let r = rises w m in let h = foot_height s in omega ints

    -- it does not lie strictly between foot and top
    module _ (out : (height e ≤ℤ foot) ⊎ (top ≤ℤ height e)) where
      beside_seen : (v : ℕ) → v ∈ seen → VerticalStart d v → (height e ≤ℤ (segment_at d v).a.y) ⊎ ((segment_at d v).b.y ≤ℤ height e)
      beside_seen v m s = go (p.last v m s) out
        where
          go : ((segment_at d v).b.y ≤ℤ foot) ⊎ (((segment_at d v).a.y ≡ foot) × ((segment_at d v).b.y ≡ top)) → (height e ≤ℤ foot) ⊎ (top ≤ℤ height e)
              → (height e ≤ℤ (segment_at d v).a.y) ⊎ ((segment_at d v).b.y ≤ℤ height e)
          go (inl l) o = inr (let f = over_foot in omega ints)
          go (inr (f, t)) (inl o) = inl (omega ints)
          go (inr (f, t)) (inr o) = inr (omega ints)

      -- no vertical one starts there
      pub pass_by : (VerticalStart d e → ⊥) → ColumnPassed (seen ++ (e ∷ [])) foot top
      pass_by slanted = record {
        unbroken = record {
          beside = λ v m s f n. beside v f s (in-++ v seen (e ∷ []) m) (in-++ f seen (e ∷ []) n);
          stack = λ v w m n s t ne. stack v w s t ne (in-++ v seen (e ∷ []) m) (in-++ w seen (e ∷ []) n);
        };
        order = p.order;
        last = λ v m s. cases (λ n. p.last v n s) (λ n. absurd (own v n s)) (in-++ v seen (e ∷ []) m);
        some = cases inl (λ r. inr (r.0, in_left r.0 seen (e ∷ []) r.1, r.2, r.3, r.4)) p.some;
      }
        where
          own : (v : ℕ) → v ∈ (e ∷ []) → VerticalStart d v → ⊥
          own v (inl q) s = slanted (subst (VerticalStart d) q s)
          own v (inr q) s = q

          beside : (v f : ℕ) → VerticalStart d v → (v ∈ seen) ⊎ (v ∈ (e ∷ [])) → (f ∈ seen) ⊎ (f ∈ (e ∷ [])) → (height f ≤ℤ (segment_at d v).a.y) ⊎ ((segment_at d v).b.y ≤ℤ height f)
          beside v f s (inr m) n = absurd (own v m s)
          beside v f s (inl m) (inl n) = p.unbroken.beside v m s f n
          beside v f s (inl m) (inr (inl q)) = subst (λ (g : ℕ). (height g ≤ℤ (segment_at d v).a.y) ⊎ ((segment_at d v).b.y ≤ℤ height g)) (sym q) (beside_seen v m s)
          beside v f s (inl m) (inr (inr q)) = absurd q

          stack : (v w : ℕ) → VerticalStart d v → VerticalStart d w → (v ≡ w → ⊥) → (v ∈ seen) ⊎ (v ∈ (e ∷ [])) → (w ∈ seen) ⊎ (w ∈ (e ∷ [])) → ((segment_at d v).b.y ≤ℤ (segment_at d w).a.y) ⊎ ((segment_at d w).b.y ≤ℤ (segment_at d v).a.y)
          stack v w s t ne (inl m) (inl n) = p.unbroken.stack v w m n s t ne
          stack v w s t ne (inr m) n = absurd (own v m s)
          stack v w s t ne (inl m) (inr n) = absurd (own w n t)

      -- a vertical one starts there, no lower than the top
      pub pass_on : (s : VerticalStart d e) → (segment_at d e).a.y ≤ℤ (segment_at d e).b.y → top ≤ℤ height e → ColumnPassed (seen ++ (e ∷ [])) (height e) (segment_at d e).b.y
      pass_on own up on = record {
        unbroken = record {
          beside = λ v m s f n. beside v f s (in-++ v seen (e ∷ []) m) (in-++ f seen (e ∷ []) n);
          stack = λ v w m n s t ne. stack v w s t ne (in-++ v seen (e ∷ []) m) (in-++ w seen (e ∷ []) n);
        };
        order = let h = foot_height own in omega ints;
        last = λ v m s. last v s (in-++ v seen (e ∷ []) m);
        some = inr (e, in_right e seen (e ∷ []) (inl refl), own, sym (foot_height own), refl);
      }
        where
          below : (v : ℕ) → v ∈ seen → VerticalStart d v → (segment_at d v).b.y ≤ℤ height e
          below v m s = cases (λ l. let o = p.order in omega ints) (λ r. let t = r.1 in omega ints) (p.last v m s)

          last : (v : ℕ) → VerticalStart d v → (v ∈ seen) ⊎ (v ∈ (e ∷ [])) → ((segment_at d v).b.y ≤ℤ height e) ⊎ (((segment_at d v).a.y ≡ height e) × ((segment_at d v).b.y ≡ (segment_at d e).b.y))
          last v s (inl m) = inl (below v m s)
          last v s (inr (inl q)) = inr (ap (λ (g : ℕ). (segment_at d g).a.y) q ∙ sym (foot_height own), ap (λ (g : ℕ). (segment_at d g).b.y) q)
          last v s (inr (inr q)) = absurd q

          beside : (v f : ℕ) → VerticalStart d v → (v ∈ seen) ⊎ (v ∈ (e ∷ [])) → (f ∈ seen) ⊎ (f ∈ (e ∷ [])) → (height f ≤ℤ (segment_at d v).a.y) ⊎ ((segment_at d v).b.y ≤ℤ height f)
          beside v f s (inl m) (inl n) = p.unbroken.beside v m s f n
          beside v f s (inl m) (inr (inl q)) = inr (subst (λ (g : ℕ). (segment_at d v).b.y ≤ℤ height g) (sym q) (below v m s))
          beside v f s (inl m) (inr (inr q)) = absurd q
          beside v f s (inr (inl q)) (inl n) = inl (let r = rises f n in let h = ap (λ (g : ℕ). (segment_at d g).a.y) q in let k = foot_height own in omega ints)
          beside v f s (inr (inl q)) (inr (inl r)) = inl (let h = ap (λ (g : ℕ). (segment_at d g).a.y) q in let i = ap height r in let k = foot_height own in omega ints)
          beside v f s (inr (inl q)) (inr (inr r)) = absurd r
          beside v f s (inr (inr q)) n = absurd q

          stack : (v w : ℕ) → VerticalStart d v → VerticalStart d w → (v ≡ w → ⊥) → (v ∈ seen) ⊎ (v ∈ (e ∷ [])) → (w ∈ seen) ⊎ (w ∈ (e ∷ [])) → ((segment_at d v).b.y ≤ℤ (segment_at d w).a.y) ⊎ ((segment_at d w).b.y ≤ℤ (segment_at d v).a.y)
          stack v w s t ne (inl m) (inl n) = p.unbroken.stack v w m n s t ne
          stack v w s t ne (inl m) (inr (inl q)) = inl (let b = below v m s in let h = ap (λ (g : ℕ). (segment_at d g).a.y) q in let k = foot_height own in omega ints)
          stack v w s t ne (inr (inl q)) (inl n) = inr (let b = below w n t in let h = ap (λ (g : ℕ). (segment_at d g).a.y) q in let k = foot_height own in omega ints)
          stack v w s t ne (inr (inl q)) (inr (inl r)) = absurd (ne (q ∙ sym r))
          stack v w s t ne (inl m) (inr (inr q)) = absurd q
          stack v w s t ne (inr (inr q)) n = absurd q
          stack v w s t ne (inr (inl q)) (inr (inr r)) = absurd r

    -- whichever it is
    pub column_passes : {foot' top' : ℤ} → Beyond d e foot top foot' top' → (VerticalStart d e → (segment_at d e).a.y ≤ℤ (segment_at d e).b.y) → Dec (VerticalStart d e) → ColumnPassed (seen ++ (e ∷ [])) foot' top'
    column_passes {foot'} {top'} b up (yes s) = let (t, f, g) = b.on s in subst (λ z. ColumnPassed (seen ++ (e ∷ [])) z top') (sym f) (subst (ColumnPassed (seen ++ (e ∷ [])) (height e)) (sym g) (pass_on b.out s (up s) t))
    column_passes {foot'} {top'} b up (no s) = let (f, g) = b.by s in subst (λ z. ColumnPassed (seen ++ (e ∷ [])) z top') (sym f) (subst (ColumnPassed (seen ++ (e ∷ [])) foot) (sym g) (pass_by b.out s))

    -- ---- where the column is unbroken the tests are passed
    module _ {ends : List ℕ} (u : Unbroken d ends) (within : (f : ℕ) → f ∈ seen → f ∈ ends) (here : e ∈ ends) (new : e ∈ seen → ⊥) where
      pub not_between : foot <ℤ height e → height e <ℤ top → ⊥
      not_between f t = go p.some
        where
          go : ((foot ≡ neg_ℤ (pos 2147483648)) × (top ≡ neg_ℤ (pos 2147483648))) ⊎ ((w : ℕ) × (w ∈ seen) × VerticalStart d w × ((segment_at d w).a.y ≡ foot) × ((segment_at d w).b.y ≡ top)) → ⊥
          go (inl (g, h)) = omega ints
          go (inr (w, m, s, g, h)) = cases (λ k. omega ints) (λ k. omega ints) (u.beside w (within w m) s e here)

      pub not_below : (s : VerticalStart d e) → (segment_at d e).a.y <ℤ (segment_at d e).b.y → height e <ℤ top → ⊥
      not_below own up t = go p.some
        where
          go : ((foot ≡ neg_ℤ (pos 2147483648)) × (top ≡ neg_ℤ (pos 2147483648))) ⊎ ((w : ℕ) × (w ∈ seen) × VerticalStart d w × ((segment_at d w).a.y ≡ foot) × ((segment_at d w).b.y ≡ top)) → ⊥
          go (inl (g, h)) = let l = least in omega ints
          go (inr (w, m, s, g, h)) =
              let k = foot_height own in
              cases (λ l. omega ints) (λ l. let o = over_foot in omega ints) (u.stack w e (within w m) here s own (λ q. new (subst (λ (f : ℕ). f ∈ seen) q m)))
