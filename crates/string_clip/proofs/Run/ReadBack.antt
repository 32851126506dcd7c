-- What a run writes is read back.
use mathlib.Core.Path.{◌≡◌}
use mathlib.Core.List.{List, flatten}
use Rattle.geom.specs.declared.Point.{Point}
use Rattle.lists.specs.Written.{written}
use Rattle.contour.proofs.Points.Coordinates.{pair_coordinates}
use Rattle.refusal.specs.Order.{accepted}
use Rattle.contour.proofs.Points.CutWritten.{cut_written}
use Rattle.clip_paths.specs.Paths.{totals}
use Rattle.string_clip.specs.Run.{Lists, answered, output}

pub read_back : (paths : List (List Point)) (ls : Lists) → output (answered accepted paths ls) ≡ paths
unfolding output written totals
read_back paths ls = rw (pair_coordinates (flatten paths)) (cut_written paths _ _)
