-- Paths written after others: one more, and several more.
use mathlib.Core.Path.{◌≡◌, sym, ◌∙◌, ap}
use mathlib.Core.List.{List, [], ◌∷◌, ◌++◌, map, flatten, map-append}
use Prim.Native.Nat.{ℕ, ◌*◌, ◌-◌, ◌<◌}
use native.Mathlib.Omega.{arith}
use lib.ListN.{length, take, drop, set, length-map}
use lib.IntN.{ℤ}
use Rattle.geom.specs.declared.Point.{Point}
use Rattle.lists.specs.Written.{written}
use Rattle.lists.proofs.Written.{written_more, written_after, written_part}
use Rattle.lists.proofs.Entries.{flatten-++, flatten_one}
use Rattle.contour.specs.Points.{coordinates, Writes}
use Rattle.contour.proofs.Points.Coordinates.{length-coordinates, coordinates-++}

module _ {done : List (List Point)} {points₀ points : List ℤ} {lengths₀ lengths : List ℕ} (w : Writes done points₀ lengths₀ points lengths) where
  -- the points of one path to the part lent at 2 * at, and its length
  pub writes_one : {at paths : ℕ} (found : List Point) (part : List ℤ) → at ≡ length (flatten done) → paths ≡ length done → paths < length lengths₀
      → part ≡ written (coordinates found) (take (length points - 2 * at) (drop (2 * at) points))
      → Writes (done ++ (found ∷ [])) points₀ lengths₀ (take (2 * at) points ++ (part ++ drop (length points - 2 * at) (drop (2 * at) points))) (set lengths paths (length found))
  writes_one {at} {paths} found part a n room e = record {
    points_are =
        ap (λ (l : List ℤ). take (2 * at) points ++ (l ++ drop (length points - 2 * at) (drop (2 * at) points))) e
        ∙ written_part (coordinates (flatten done)) (coordinates found) points₀ points (2 * at) w.points_are (omega (arith, a, length-coordinates (flatten done)))
        ∙ ap (λ (l : List ℤ). written l points₀) (sym (ap coordinates (flatten_one done found) ∙ coordinates-++ (flatten done) found));
    lengths_are =
        ap (λ (l : List ℕ). set l paths (length found)) w.lengths_are
        ∙ written_more (map length done) lengths₀ paths (length found) (n ∙ sym (length-map done length)) room
        ∙ ap (λ (l : List ℕ). written l lengths₀) (sym (map-append length done (found ∷ [])));
  }

  -- several, to what is past the others
  pub writes_more : {more : List (List Point)} {points' : List ℤ} {lengths' : List ℕ} → Writes more (drop (2 * length (flatten done)) points) (drop (length done) lengths) points' lengths'
      → Writes (done ++ more) points₀ lengths₀ (take (2 * length (flatten done)) points ++ points') (take (length done) lengths ++ lengths')
  writes_more {more} v = record {
    points_are =
        ap (take (2 * length (flatten done)) points ++◌) v.points_are
        ∙ written_after (coordinates (flatten done)) (coordinates (flatten more)) points₀ points (2 * length (flatten done)) w.points_are (sym (length-coordinates (flatten done)))
        ∙ ap (λ (l : List ℤ). written l points₀) (sym (ap coordinates (flatten-++ done more) ∙ coordinates-++ (flatten done) (flatten more)));
    lengths_are =
        ap (take (length done) lengths ++◌) v.lengths_are
        ∙ written_after (map length done) (map length more) lengths₀ lengths (length done) w.lengths_are (sym (length-map done length))
        ∙ ap (λ (l : List ℕ). written l lengths₀) (sym (map-append length done more));
  }
