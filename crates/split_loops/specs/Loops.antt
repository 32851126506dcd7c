-- The loops of a list of points.
use Rattle.std.specs.Prelude.{List, [], ◌∷◌, ◌++◌, cond, ℕ, suc, ltb, length, take, drop}
use Rattle.geom.specs.declared.Point.{Point}
use Rattle.lists.specs.Members.{keep}
use Rattle.contour.specs.Area.{is_large}
use Rattle.bin_store.specs.Sightings.{Sighting, number_of, sight}

-- ---- one point
-- what is cut off the buffer, and the new point: one point is dropped, two or more become a loop with the new point last
unfoldable pub closed : List Point → Point → List (List Point)
closed tail p = cond (ltb (length tail) 2) [] ((tail ++ (p ∷ [])) ∷ [])

-- the buffer after a point, and the loops that it closes
pub record Buffered : Type 0 where
  pub buffer : List Point
  pub loops : List (List Point)

-- this buffer and these loops
abbrev pub buffered : List Point → List (List Point) → Buffered
buffered buffer loops = record { buffer = buffer; loops = loops }

-- a stored number below the buffer's length cuts; otherwise the point is appended
unfoldable pub buffer_point : ℕ → List Point → Point → Buffered
buffer_point number buffer p =
    cond (ltb number (length buffer)) (buffered (take number buffer) (closed (drop number buffer) p)) (buffered (buffer ++ (p ∷ [])) [])

-- ---- all points
-- each point's first sighting stores the buffer length after it, and is never forgotten or renewed
unfoldable pub buffer_points : List Sighting → List Point → List Point → Buffered
buffer_points memory buffer [] = buffered buffer []
buffer_points memory buffer (p ∷ points) =
    let after = sight memory p (suc (length buffer)) in
    let t = buffer_point (number_of after p) buffer p in
    let later = buffer_points after t.buffer points in
    buffered later.buffer (t.loops ++ later.loops)

-- a rest of three or more points is the last loop
unfoldable pub rest : List Point → List (List Point)
rest buffer = cond (ltb 2 (length buffer)) (buffer ∷ []) []

-- the loops of all points, whatever their area
unfoldable pub all_loops : List Point → List (List Point)
all_loops points = let t = buffer_points [] [] points in t.loops ++ rest t.buffer

-- those that reach the minimum area
unfoldable pub split_loops : ℕ → List Point → List (List Point)
split_loops least points = keep (is_large least) (all_loops points)
