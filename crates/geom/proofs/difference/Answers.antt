-- Both numbers are widened, and their difference fits.
use lib.Dec.{lit<}
use lib.IntN.{ℤ, ◌-ℤ◌}
use mir.Syntax.{w32, w64}
use mir.Val.{to_z, of_z, SFits}
use Rattle.integers.proofs.Machine.{Is, rd, ret, any, cast, sub}
use Rattle.geom.proofs.difference.Goals as goal

wide : {a : ℤ} → SFits w32 a → Is w64 2147483648 (to_z w32 (of_z w32 a)) a
wide f = cast (any f) (lit< tt)

less : (c : goal.Start) → Is w64 4294967296 (to_z w64 (of_z w64 (to_z w32 (of_z w32 c.args.z))) -ℤ to_z w64 (of_z w64 (to_z w32 (of_z w32 c.args.w)))) (c.args.z -ℤ c.args.w)
less c = sub (rd (wide c.ranges.z)) (rd (wide c.ranges.w)) (lit< tt)

pub overflow_cast-result : goal.overflow_cast-result
overflow_cast-result c = (wide c.ranges.z).fits

pub overflow_cast-result-2 : goal.overflow_cast-result-2
overflow_cast-result-2 c = (wide c.ranges.w).fits

pub overflow_sub-result : goal.overflow_sub-result
overflow_sub-result c = (less c).fits

pub returns : goal.returns
returns c = ret (less c)
