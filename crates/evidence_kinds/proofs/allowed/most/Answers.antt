-- The first row of the kind, as `find` finds it.
use Rattle.std.proofs.Common.{ℕ, Bor, ◌≡◌, length, get_or, eqb, refl, ◌∙◌, ap, rules, tests}
use Rattle.std.specs.List.{find}
use Rattle.std.specs.Prelude.{Option, Some, None}
use Rattle.std.specs.Option.{option_map, option_map_or, unwrap_or}
use Rattle.std.proofs.lemmas.Option.{unwrap_or-slice_get}
use Rattle.std.proofs.lemmas.Iterator.{YieldsList-from_slice}
use Rattle.std.proofs.lemmas.Iterator.Search.{find_from_yields_List}
use Rattle.laws.specs.Least.{least}
use Rattle.laws.proofs.Positions.{find_least}
use Rattle.evidence_kinds.specs.Evidence.{sizes, none, kind_is, most_at, most_of}
use Rattle.evidence_kinds.specs.declared.allowed.Sized.{Sized}
use Rattle.evidence_kinds.proofs.allowed.most.Goals as goal

-- what is said of the row that was found, or of none
said : (r : Option (Bor Sized)) → option_map_or (λ (x : Bor Sized). x.now.most) r 0 ≡ (unwrap_or (option_map (λ (x : Bor Sized). x.now) r) none).most
said None = refl
said (Some x) = refl

first : (kind : ℕ) → (unwrap_or (find (λ (r : Sized). eqb r.kind kind) sizes) none).most ≡ most_of kind
unfolding most_of most_at kind_is
first kind =
    let is = λ (r : Sized). eqb r.kind kind in
    ap (λ (r : Option Sized). (unwrap_or r none).most) (find_least is sizes none) ∙
    ap (λ (r : Sized). r.most) (unwrap_or-slice_get sizes (least (λ k. is (get_or sizes k none)) (length sizes)) none)

pub returns : goal.returns
unfolding sizes
returns c =
    let is = λ (r : Sized). eqb r.kind c.args.kind in
    let found = find_from_yields_List is _ _ c.find.result c.find.ensures.ran (YieldsList-from_slice sizes cc) (λ x b q k. search (rules, tests)) in
    let given : c.map_or.result ≡ option_map_or (λ (x : Bor Sized). x.now.most) c.find.result 0 = search rules in
    given ∙ (said c.find.result ∙ (ap (λ (r : Option Sized). (unwrap_or r none).most) found ∙ first c.args.kind))
