-- One key after the other.
use Prim.Native.Nat.{ℕ}
use Rattle.laws.proofs.Tabs.{fill_start, fill_more}
use Rattle.laws.specs.Tabulate.{tabulate}
use Rattle.keys.proofs.Found.{place_here, place-within, or-below, places-filled}
use Rattle.keys.specs.Keyed.{key_of}
use Rattle.keys.specs.Keys.{place_for}
use lib.ListN.{length, drop}
use mathlib.Core.List.{List, ◌++◌}
use mathlib.Core.Path.{sym, ◌∙◌, ap}
use borrow.Author.Rules.{rules}
use Rattle.keys.proofs.linked.Linked.places.Goals as goal

pub loop-j-init : goal.loop-j-init
loop-j-init c = fill_start _ _

pub loop-j-preserved : goal.loop-j-preserved
loop-j-preserved c =
    let k = c.args.self.now.keys in
    let j = c.loop-j.j in
    let here = place_here (key_of k) k.n (key_of c.args.others) c.args.others.n j (search rules) in
    rw c.loop-j.invariant (fill_more _ c.args.list.now j _ (search rules) (c.unwrap_or.ensures ∙ rw (c.place.ensures, c.key.ensures) (or-below _ _ (place-within (key_of k) k.n _) ∙ sym here)))

pub returns : goal.returns
returns c =
    let k = c.args.self.now.keys in
    let o = c.args.others in
    c.loop-j.invariant ∙
    (ap (λ (old : List ℕ). tabulate (place_for (key_of k) k.n (key_of o) o.n) c.loop-j.j ++ drop c.loop-j.j old) c.requires.list_value ∙
    places-filled (key_of k) k.n (key_of o) o.n (length c.args.list.now) c.loop-j.j (search rules) (λ i g h. search rules))
