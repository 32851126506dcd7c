-- The choices' tests decide the arm.
use mathlib.Core.Path.{sym}
use lib.Dec.{lit<}
use Rattle.build.specs.Links.{filter_of}
use Rattle.fill_rule.proofs.Choices.{is, is_not}
use Rattle.build.proofs.filter.filter_of.Goals as goal

pub returns-then-boundary-eq0 : goal.returns-then-boundary-eq0
unfolding filter_of
returns-then-boundary-eq0 c = let s = c in sym (simp (is s.ranges.invert 0 (lit< tt) c.if-invert-eq0.true, is s.ranges.boundary 0 (lit< tt) c.if-boundary-eq0.true))

pub returns-then-invert-eq0 : goal.returns-then-invert-eq0
unfolding filter_of
returns-then-invert-eq0 c = let s = c in sym (simp (is s.ranges.invert 0 (lit< tt) c.if-invert-eq0.true, is_not s.ranges.boundary 0 c.if-boundary-eq0.false))

pub returns-then-boundary-eq0-2 : goal.returns-then-boundary-eq0-2
unfolding filter_of
returns-then-boundary-eq0-2 c = let s = c in sym (simp (is_not s.ranges.invert 0 c.if-invert-eq0.false, is s.ranges.boundary 0 (lit< tt) c.if-boundary-eq0-2.true))

pub returns : goal.returns
unfolding filter_of
returns c = let s = c in sym (simp (is_not s.ranges.invert 0 c.if-invert-eq0.false, is_not s.ranges.boundary 0 c.if-boundary-eq0-2.false))
