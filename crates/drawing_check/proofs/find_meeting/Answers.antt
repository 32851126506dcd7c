-- What the sweep calls clear has no refusal 8, and what it does not call clear has one, which the search names.
use mathlib.Core.Path.{sym, ◌∙◌}
use Rattle.integers.proofs.Booleans.{clash}
use Rattle.segm.specs.Segments.{segments}
use Rattle.drawing_check.proofs.Drawing.{no_meeting}
use Rattle.drawing_check.proofs.find_meeting.Goals as goal

pub is_clear-requires : goal.is_clear-requires
is_clear-requires c = let s = c in (s.requires.0, s.requires.1, s.requires.2, s.requires.3)

pub returns-then-is_clear : goal.returns-then-is_clear
returns-then-is_clear c = let clear = c.is_clear.ensures in (sym ((no_meeting (segments c.args.s.now)).1 (clear.0.0 c.if-is_clear.true)), λ _. clear.1 c.if-is_clear.true)

pub find_pair-requires : goal.find_pair-requires
find_pair-requires c =
    let s = c in
    (s.requires.0, λ e. clash (c.is_clear.ensures.0.1 ((no_meeting (segments s.args.s.now)).0 e)) c.if-is_clear.false)

pub returns : goal.returns
returns c =
    let s = c in
    (c.find_pair.ensures, λ e. absurd (clash (c.is_clear.ensures.0.1 ((no_meeting (segments s.args.s.now)).0 (sym c.find_pair.ensures ∙ e))) c.if-is_clear.false))
