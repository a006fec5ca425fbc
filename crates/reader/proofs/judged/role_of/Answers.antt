-- The two tests, in their order.
use Rattle.reader.proofs.Roles.{role-header, role-data, role-trailer}
use mathlib.Core.Path.{sym}
use native.Mathlib.Omega.{arith}
use Rattle.reader.proofs.judged.role_of.Goals as goal

pub returns-then-i-eq0 : goal.returns-then-i-eq0
returns-then-i-eq0 c = sym (role-header _ _ c.if-i-eq0.true)

pub returns-then-i-count : goal.returns-then-i-count
returns-then-i-count c = sym (role-trailer _ _ (omega (arith, c.if-i-eq0.false)) c.if-i-count.true)

pub returns : goal.returns
returns c = sym (role-data _ _ (omega (arith, c.if-i-eq0.false)) (omega (arith, c.requires, c.if-i-count.false)))
