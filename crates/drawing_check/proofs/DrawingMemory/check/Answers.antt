-- Memory of the right sizes is what the check asks of its lists.
use Rattle.std.proofs.Common.{arith}
use Rattle.drawing_check.proofs.DrawingMemory.check.Goals as goal

pub check-requires : goal.check-requires
check-requires g c = record {
  sizes = c.requires.0.0;
  room = λ e. (
    c.requires.1,
    record {
      flat_room = omega (arith, c.requires.0, c.requires.1);
      starts_room = omega (arith, c.requires.0, c.requires.1);
      nodes_room = omega (arith, c.requires.0, c.requires.1);
      tops_room = omega (arith, c.requires.0, c.requires.1);
      blank = c.requires.2;
    },
  );
}
