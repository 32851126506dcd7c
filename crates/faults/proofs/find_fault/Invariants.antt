use Rattle.segm.specs.Segments.{segments}
use Rattle.faults.specs.Faults.{fault_at}
use Rattle.faults.proofs.find_fault.Given as goal

abbrev pub ghost-find_first : goal.ghost-find_first
ghost-find_first a = fault_at (segments a.wrong_at.0.now)
