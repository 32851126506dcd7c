-- What is wrong at a place.
use Rattle.contour.specs.Points.{pair_up}
use Rattle.string_split.specs.Run.{out_of_range_at}
use Rattle.string_split.proofs.check_split.Given as goal

abbrev pub ghost-find_first : goal.ghost-find_first
ghost-find_first a = out_of_range_at (pair_up a.wrong_at.0.now)
