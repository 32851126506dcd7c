-- One walk: its loops as they were written are read back, and made contours where they stand.
use mathlib.Core.Path.{◌≡◌, sym, ◌∙◌, ap, subst}
use mathlib.Core.List.{List, [], map, flatten, append-nil}
use mathlib.Core.Bool.{Bool}
use Prim.Native.Nat.{ℕ, ◌*◌, ◌≤◌}
use native.Mathlib.Omega.{arith}
use lib.ListN.{length, take, drop, length-map}
use lib.IntN.{ℤ}
use Rattle.geom.specs.declared.Point.{Point}
use Rattle.lists.specs.Sums.{tally}
use Rattle.lists.specs.Written.{written}
use Rattle.lists.proofs.Written.{take_written, length_written, written_over}
use Rattle.contour.specs.Points.{coordinates, pair_up, AllInRange, Writes}
use Rattle.contour.proofs.Points.Coordinates.{length-coordinates, pair_coordinates}
use Rattle.contour.proofs.Points.CutWritten.{cut_written, tally_lengths}
use Rattle.contour.specs.Contour.{contour_of}
use Rattle.slice_cut.specs.Cutting.{roles_of, paths_in, Holds, Stand}
use Rattle.slice_cut.proofs.Cutting.ManyContours.{numbers_of, lengths_stay, numbers_stay}

module _ {loops : List (List Point)} {points₀ : List ℤ} {lengths₀ : List ℕ} {points : List ℤ} {lengths : List ℕ} (w : Writes loops points₀ lengths₀ points lengths) (n : ℕ) (e : n ≡ length loops) where
  lengths_read : take n lengths ≡ map length loops
  lengths_read = ap (take n) w.lengths_are ∙ take_written (map length loops) lengths₀ n (e ∙ sym (length-map loops length))

  loops_read : paths_in points (take n lengths) ≡ loops
  unfolding written
  loops_read =
      rw (lengths_read, length-map loops length, w.points_are, pair_coordinates (flatten loops) (drop (length (coordinates (flatten loops))) points₀), ← append-nil (map length loops))
      (cut_written loops [] (pair_up (drop (length (coordinates (flatten loops))) points₀)))

  pub loops_stand : length (flatten loops) ≤ 2048 → 2 * length (flatten loops) ≤ length points₀ → AllInRange (flatten loops) → Stand points (take n lengths)
  loops_stand few room near =
      let all : tally (λ m. m) (take n lengths) ≡ length (flatten loops) = ap (tally (λ m. m)) lengths_read ∙ tally_lengths loops in
      record {
        inside = omega (arith, all, ap length w.points_are, length_written (coordinates (flatten loops)) points₀ (omega (arith, length-coordinates (flatten loops))));
        few = omega (arith, all);
        near = subst (λ (l : List (List Point)). AllInRange (flatten l)) (sym loops_read) near;
      }

  -- the contours, over the loops that they are made of
  pub contours_hold : (clockwise direction : Bool) (roles₀ : List ℕ) {points' : List ℤ} {roles' : List ℕ}
      → points' ≡ written (numbers_of (map (contour_of clockwise direction) (paths_in points (take n lengths)))) points
      → roles' ≡ written (roles_of (map (contour_of clockwise direction) (paths_in points (take n lengths)))) roles₀
      → Holds (map (contour_of clockwise direction) loops) points₀ lengths₀ roles₀ points' lengths roles'
  contours_hold clockwise direction roles₀ p r =
      let f = contour_of clockwise direction in
      record {
        points_are =
            p
            ∙ ap (λ (l : List (List Point)). written (numbers_of (map f l)) points) loops_read
            ∙ ap (written (numbers_of (map f loops))) w.points_are
            ∙ written_over (numbers_of (map f loops)) (coordinates (flatten loops)) points₀ (omega (arith, numbers_stay clockwise direction loops, length-coordinates (flatten loops)));
        lengths_are = w.lengths_are ∙ ap (λ (l : List ℕ). written l lengths₀) (sym (lengths_stay clockwise direction loops));
        roles_are = r ∙ ap (λ (l : List (List Point)). written (roles_of (map f l)) roles₀) loops_read;
      }
