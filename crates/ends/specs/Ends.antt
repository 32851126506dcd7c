-- The ends of links, each with a number, and their order by point.
use Rattle.std.specs.Prelude.{Bool, cond, ℕ, ◌-◌, ltb, length}
use Rattle.geom.specs.declared.Point.{Point}
use Rattle.geom.specs.Points.{lt_p}
use Rattle.segm.specs.Segments.{Drawing, segment_at}

-- of m links, end e below m is the a of link e, and end m + k the b of link k
unfoldable pub end_point : Drawing → ℕ → Point
end_point links e = cond (ltb e (length links)) (segment_at links e).a (segment_at links (e - length links)).b

-- end e lies at a lesser point than end f
unfoldable pub end_before : Drawing → ℕ → ℕ → Bool
end_before links e f = lt_p (end_point links e) (end_point links f)
