-- Which end it is decides.
use mathlib.Core.Path.{sym}
use Rattle.graph.proofs.Node.{link_low, link_high}
use Rattle.graph.proofs.link_of.Goals as goal

pub returns-then-e-m : goal.returns-then-e-m
returns-then-e-m c = let a = c.args in sym (link_low a.m a.e c.if-e-m.true)

pub returns-else-e-m : goal.returns-else-e-m
returns-else-e-m c = let a = c.args in sym (link_high a.m a.e c.if-e-m.false)
