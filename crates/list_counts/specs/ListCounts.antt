-- The ray's top counts by place.
use Rattle.std.specs.Prelude.{ℕ, ℤ}
use Rattle.segm.specs.Segments.{Drawing, segment_at}
use Rattle.ray.specs.Ray.{top}

-- the top count of the segment at a place
abbrev pub top_at : Drawing → ℕ → ℤ
top_at d i = top d (segment_at d i)
