-- A link as the machine has it.
use mathlib.Core.List.{[], ◌∷◌}
use seplogic.Ra.Ura.{Ura}
use lib.Dec.{T as Holds}
use mir.Val.{Val, has_ty, WT}
use types.Logic.{Logic}
use denote.Laws.{Is}
use denote.Struct.Laws as LL
use Rattle.moves.specs.declared.Link.{Link}
use Rattle.moves.specs.contracts.Link as T
use Rattle.moves.proofs.Link.TheLaws as T'

-- its machine value
abbrev pub mach : Link → Val
mach l = LL.val T.the_type T'.the_laws l

-- what the type's row relates to a link has the type
pub typed : {M : Type 1} {𝓤 : Ura M} → (𝓛 : Logic 𝓤) → (l : Link) (w : Val) → Is T.the_row l (w ∷ []) → Holds (has_ty T'.mir w) × WT w
typed {M} {𝓤} 𝓛 l w is = ((LL.lawful T.the_type T'.the_laws 𝓛).typed l (w ∷ []) is).0
