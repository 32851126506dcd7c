-- Drawings that differ in lots only. Laws cite these, no contract does.
use Rattle.std.specs.Prelude.{◌≡◌, map, pos}
use Rattle.segm.specs.declared.Segment.{Segment}
use Rattle.segm.specs.Segments.{Drawing, with_lot}

-- a segment without its lot
abbrev pub unlotted : Segment → Segment
unlotted = with_lot (pos 0)

-- two drawings differ in lots only: without their lots they are the same
abbrev pub SameButLots : Drawing → Drawing → Type 0
SameButLots d e = map unlotted d ≡ map unlotted e
