-- As the requests are.
use Rattle.payers.specs.Turns.{dues_key}
use mathlib.Core.Path.{refl}
use Rattle.payers.proofs.paying.Requests.linked.Goals as goal

pub invariant_of-result-2 : goal.invariant_of-result-2
unfolding dues_key
invariant_of-result-2 c = record { chained = c.args.self.now.asks.chained }

pub returns-clause-keys_value : goal.returns-clause-keys_value
unfolding dues_key
returns-clause-keys_value c = refl
