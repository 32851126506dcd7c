-- The two bits of a link, each named by its direction: true is bit 1, from a to b, and false is bit 2, from b to a. In a clip walk they are the line bits, in a
-- slice walk the side bits, of which bit 1 is the top and bit 2 the bottom.
use Rattle.std.specs.Prelude.{Bool, true, false, ℕ, ◌+◌, ◌-◌, ◌/◌, ◌%◌, eqb}
use Rattle.lists.specs.Sums.{one}

-- the bit is set
unfoldable pub has : Bool → ℕ → Bool
has true bits = eqb (bits % 2) 1
has false bits = eqb (bits / 2 % 2) 1

-- the bits without one that is set
unfoldable pub clear : Bool → ℕ → ℕ
clear true bits = bits - 1
clear false bits = bits - 2

-- how many of the two are set
abbrev pub bits_set : ℕ → ℕ
bits_set bits = one (has true bits) + one (has false bits)
