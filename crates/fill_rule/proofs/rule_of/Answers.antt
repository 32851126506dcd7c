-- The choice's tests decide the arm.
use mathlib.Core.Path.{sym}
use lib.Dec.{lit<}
use Rattle.fill_rule.specs.FillRule.{rule_of}
use Rattle.fill_rule.proofs.Choices.{is, is_not}
use Rattle.fill_rule.proofs.rule_of.Goals as goal

pub returns-then-choice-eq0 : goal.returns-then-choice-eq0
unfolding rule_of
returns-then-choice-eq0 c = let f = c.ranges.choice in sym (simp (is f 0 (lit< tt) c.if-choice-eq0.true))

pub returns-then-choice-eq1 : goal.returns-then-choice-eq1
unfolding rule_of
returns-then-choice-eq1 c =
    let f = c.ranges.choice in
    sym (simp (is_not f 0 c.if-choice-eq0.false, is f 1 (lit< tt) c.if-choice-eq1.true))

pub returns-then-choice-eq2 : goal.returns-then-choice-eq2
unfolding rule_of
returns-then-choice-eq2 c =
    let f = c.ranges.choice in
    sym (simp (is_not f 0 c.if-choice-eq0.false, is_not f 1 c.if-choice-eq1.false, is f 2 (lit< tt) c.if-choice-eq2.true))

pub returns : goal.returns
unfolding rule_of
returns c =
    let f = c.ranges.choice in
    sym (simp (is_not f 0 c.if-choice-eq0.false, is_not f 1 c.if-choice-eq1.false, is_not f 2 c.if-choice-eq2.false))
