-- The points taken and those to come: what the loops found and the buffer are after some points.
use mathlib.Core.Path.{◌≡◌, refl, sym, ap, subst, ◌∙◌}
use mathlib.Core.List.{List, [], ◌∷◌, ◌++◌, flatten, append_assoc, append-nil}
use mathlib.Core.Bool.{true}
use Prim.Native.Nat.{ℕ, suc, ◌+◌, ◌<◌, ◌≤◌}
use native.Mathlib.Omega.{arith}
use native.Mathlib.Numerals.{add-one}
use lib.ListN.{length, get_or, drop, drop_of_length-le}
use lib.Seq.{drop-cons}
use lib.IntN.{ℤ}
use Rattle.geom.specs.declared.Point.{Point}
use Rattle.geom.specs.Points.{in_range}
use Rattle.lists.specs.Members.{keep}
use Rattle.lists.specs.Written.{written}
use Rattle.lists.proofs.Members.{keep-++, length_keep}
use Rattle.contour.specs.Points.{coordinates, origin, AllInRange, Writes}
use Rattle.contour.specs.Area.{is_large}
use Rattle.bin_store.specs.Sightings.{Sighting, number_of, sight}
use Rattle.split_loops.specs.declared.buffer.LoopTotals.{LoopTotals}
use Rattle.split_loops.specs.Loops.{Buffered, buffered, buffer_point, buffer_points}
use Rattle.split_loops.specs.Splitting.{loop_totals, Adds}
use Rattle.split_loops.proofs.Splitting.{totals_on, writes_on}
use Rattle.split_loops.proofs.Fits.{Fit, buffer_fit, fit_on, buffer_near, length_flatten_keep}

-- after i points the loops of these are done, and the memory and the buffer decide the others
pub record Taking (least : ℕ) (points : List Point) (out₀ : List ℤ) (lengths₀ : List ℕ) (memory : List Sighting) (buffer : List Point) (out : List ℤ) (lengths : List ℕ) (found : LoopTotals) (i : ℕ) : Type 0 where
  pub done : List (List Point)
  pub all : buffer_points [] [] points ≡ buffered (buffer_points memory buffer (drop i points)).buffer (done ++ (buffer_points memory buffer (drop i points)).loops)
  pub fit : Fit i (buffered buffer done)
  pub near : AllInRange buffer
  pub found_is : found ≡ loop_totals (keep (is_large least) done)
  pub writes : Writes (keep (is_large least) done) out₀ lengths₀ out lengths

pub none-taken : (least : ℕ) (points : List Point) (out : List ℤ) (lengths : List ℕ) → Taking least points out lengths [] [] out lengths (record { loops = 0; points = 0 }) 0
unfolding keep flatten coordinates written
none-taken least points out lengths = record {
  done = [];
  all = refl;
  fit = record { points = omega arith; loops = omega arith };
  near = λ p m. absurd m;
  found_is = refl;
  writes = record { points_are = refl; lengths_are = refl };
}

module _ {least : ℕ} {points : List Point} {out₀ out : List ℤ} {lengths₀ lengths : List ℕ} {memory : List Sighting} {buffer : List Point} {found : LoopTotals} {i : ℕ}
    (t : Taking least points out₀ lengths₀ memory buffer out lengths found i) where
  -- no more than were taken
  pub few_points : found.points + length buffer ≤ i
  few_points = omega (arith, ap (λ (f : LoopTotals). f.points) t.found_is, length_flatten_keep (is_large least) t.done, t.fit.points)

  pub few_loops : found.loops + length buffer ≤ i
  few_loops = omega (arith, ap (λ (f : LoopTotals). f.loops) t.found_is, length_keep (is_large least) t.done, t.fit.points, t.fit.loops)

  -- one point more
  module _ (p : Point) (after : List Sighting) where
    abbrev one : Buffered
    one = buffer_point (number_of after p) buffer p

    next : get_or points i origin ≡ p → i < length points → after ≡ sight memory p (suc (length buffer))
        → buffer_points memory buffer (drop i points) ≡ buffered (buffer_points after one.buffer (drop (i + 1) points)).buffer (one.loops ++ (buffer_points after one.buffer (drop (i + 1) points)).loops)
    unfolding buffer_points
    next e h s =
        let r = drop (i + 1) points in
        let d : drop i points ≡ p ∷ r = drop-cons points i origin h ∙ ap (◌∷ drop (suc i) points) e ∙ ap (λ n. p ∷ drop n points) (sym (add-one i)) in
        ap (buffer_points memory buffer) d
        ∙ ap (λ (m : List Sighting). buffered (buffer_points m (buffer_point (number_of m p) buffer p).buffer r).buffer ((buffer_point (number_of m p) buffer p).loops ++ (buffer_points m (buffer_point (number_of m p) buffer p).buffer r).loops)) (sym s)

    pub taken_more : {out' : List ℤ} {lengths' : List ℕ} {found' : LoopTotals} → get_or points i origin ≡ p → i < length points → in_range p ≡ true → after ≡ sight memory p (suc (length buffer))
        → Adds (keep (is_large least) one.loops) found found' out lengths out' lengths' → Taking least points out₀ lengths₀ after one.buffer out' lengths' found' (i + 1)
    taken_more {out'} {lengths'} e h r s a =
        let later = buffer_points after one.buffer (drop (i + 1) points) in
        let n = next e h s in
        let k = keep-++ (is_large least) t.done one.loops in
        let f : Fit (length buffer + 1) one = subst (λ m. Fit m one) (sym (add-one (length buffer))) (buffer_fit (number_of after p) buffer p) in
        record {
          done = t.done ++ one.loops;
          all = t.all ∙ ap (λ (u : Buffered). buffered u.buffer (t.done ++ u.loops)) n ∙ ap (buffered later.buffer) (sym (append_assoc t.done one.loops later.loops));
          fit = fit_on 1 {done = t.done} {buffer = buffer} {t = one} t.fit f;
          near = (buffer_near (number_of after p) buffer p t.near r).buffer;
          found_is = totals_on (keep (is_large least) t.done) (keep (is_large least) one.loops) t.found_is a ∙ ap loop_totals (sym k);
          writes = subst (λ (d : List (List Point)). Writes d out₀ lengths₀ out' lengths') (sym k) (writes_on (keep (is_large least) t.done) (keep (is_large least) one.loops) t.found_is t.writes a);
        }

  -- all of them
  pub all_taken : length points ≤ i → buffer_points [] [] points ≡ buffered buffer t.done
  unfolding buffer_points
  all_taken h = t.all ∙ ap (λ (l : List Point). buffered (buffer_points memory buffer l).buffer (t.done ++ (buffer_points memory buffer l).loops)) (drop_of_length-le points h) ∙ ap (buffered buffer) (append-nil t.done)
