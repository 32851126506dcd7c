-- The numbers by which refusals are told.
use Rattle.std.specs.Prelude.{ℕ}
use Rattle.refusal.specs.declared.Kind.{Kind}
use Rattle.refusal.specs.declared.Kind.TheVariants.{BadText, WrongLength, OutOfRange, NotRising, BadWinding, BadBits, OutOfOrder, WrongMeeting, Unbalanced, UnknownChoice, TooShort, StuckWalk, BadLot, LotLost}

-- the number of what is wrong
abbrev pub number_of : Kind → ℕ
number_of BadText = 1
number_of WrongLength = 2
number_of OutOfRange = 3
number_of NotRising = 4
number_of BadWinding = 5
number_of BadBits = 6
number_of OutOfOrder = 7
number_of WrongMeeting = 8
number_of Unbalanced = 9
number_of UnknownChoice = 10
number_of TooShort = 11
number_of StuckWalk = 12
number_of BadLot = 13
number_of LotLost = 14
