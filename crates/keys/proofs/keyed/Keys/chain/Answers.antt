-- One key after the other.
use Rattle.keys.proofs.Chained.{links-start, links-more, chained}
use Rattle.keys.specs.Chains.{links_of}
use Rattle.keys.specs.Keyed.{key_of}
use mathlib.Core.Path.{◌≡◌, sym, ◌∙◌}
use borrow.Author.Rules.{rules}
use Rattle.keys.proofs.keyed.Keys.chain.Goals as goal

pub loop-i-init : goal.loop-i-init
loop-i-init c = links-start _ _ c.requires.links_value

pub loop-i-preserved : goal.loop-i-preserved
loop-i-preserved c =
    let l = c.loop-i in
    c.join.ensures ∙ rw (c.key.ensures, l.invariant) (sym (links-more _ l.i _))

pub returns-clause-chained : goal.returns-clause-chained
returns-clause-chained c =
    let k = c.args.self.now in
    let e : c.loop-i.links ≡ links_of (key_of k) k.n c.args.links.now = search rules in
    rw e (chained _ _ _ c.requires.n_in_bounds)
