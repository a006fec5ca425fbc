-- The digits, then the end.
use Rattle.posting.proofs.Texts.{number_put}
use mathlib.Core.Path.{◌∙◌}
use borrow.Author.Rules.{rules}
use Rattle.posting.proofs.puts.Text.put_number.Goals as goal

pub returns-clause-text : goal.returns-clause-text
returns-clause-text c =
    let s = c.self.inside in
    let w = c.width-w in
    let a = c.args in
    let p = number_put a.n a.end w.result s.size s.bytes a.self.now w.ensures.value (search rules) c.self.view_is in
    c.put.ensures ∙ rw c.put_digits.ensures p
