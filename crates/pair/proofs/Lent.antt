-- The lent lists after an accepted pair.
-- Assumes nothing.
use Prim.Native.Nat.{ℕ, ◌+◌, ◌-◌, ◌≤◌, ◌<◌}
use mathlib.Core.Bool.{true}
use mathlib.Core.List.{List, ◌++◌}
use mathlib.Core.Path.{◌≡◌, sym, ◌∙◌, ap}
use native.Mathlib.Omega.{arith}
use lib.ListN.{length, get_or, drop, length-append, length-drop, get_or-append}
use lib.Seq.{get_or-drop, get_or-append-add}
use Rattle.laws.specs.Tabulate.{tabulate}
use Rattle.laws.proofs.Sums.{sum_same}
use Rattle.laws.proofs.Tabs.{tab-length, tab-at}
use Rattle.answers.specs.declared.told.Answer.{Answer}
use Rattle.records.specs.Records.{data_of}
use Rattle.kinds.specs.declared.of_pairs.PairKind.{PairKind}
use Rattle.std.specs.Prelude.{Some}
use Rattle.kinds.specs.Pairs.{request_kind, pair_of}
use Rattle.matching.specs.Amounts.{taken_at, not_taken_at}
use Rattle.pair.specs.Pairing.{pair_by, pair_as, list_after, lists_fit, pair_told, taken_after, not_taken_after}
use Rattle.pair.specs.Lists.{at, Past, ListsSay}
use Rattle.pair.proofs.Stages.{list-filled, pair_fits, lists-fit-is}
use Rattle.pair.proofs.Matched.{lent-pair}
use Rattle.pair.proofs.Money.{each-request, all_asked, not-taken-in-all}
use Rattle.pair.proofs.Named.{pair-named, taken-named, not-taken-named}

module _ (a : Answer) (f : ℕ → ℕ) (n : ℕ) (l : List ℕ) (good : a.number ≡ 0) where
  -- at the place of a request
  pub list_at : (i : ℕ) → i < n → get_or (list_after a f n l) i 0 ≡ f i
  list_at i h = rw (list-filled a f n l good) (get_or-append (tabulate f n) (drop n l) 0 i (rw (tab-length f n) h) ∙ tab-at f n i h)

  -- past the requests
  pub list-past : n ≤ length l → Past n l (list_after a f n l)
  list-past room = rw (list-filled a f n l good) (record {
    long = length-append (tabulate f n) (drop n l) ∙ rw (tab-length f n, length-drop n l) (omega (arith, room));
    kept = past;
  })
    where
      past : (i : ℕ) → n ≤ i → get_or (tabulate f n ++ drop n l) i 0 ≡ get_or l i 0
      past i h =
          let more : n + (i - n) ≡ i = omega arith in
          ap (λ (k : ℕ). get_or (tabulate f n ++ drop n l) k 0) (rw (tab-length f n) (sym more)) ∙
          (get_or-append-add (tabulate f n) (drop n l) (i - n) 0 ∙ (get_or-drop n l (i - n) 0 ∙ ap (λ (k : ℕ). get_or l k 0) more))

-- *The lent lists*: what they hold at exit, of any number, any bytes and any lent lists, where the pair is accepted
pub lists-say :
    (kind : ℕ) (q r taken notTaken : List ℕ) (p : PairKind) → pair_of kind ≡ Some p →
    (pair_told kind q r (length taken) (length notTaken)).number ≡ 0 →
    ListsSay p q r taken notTaken (taken_after kind q r (length taken) (length notTaken) taken)
    (not_taken_after kind q r (length taken) (length notTaken) notTaken)
unfolding pair_as
lists-say kind q r taken notTaken p named e = rw (taken-named kind q r p named (length taken) (length notTaken) taken, not-taken-named kind q r p named (length taken) (length notTaken) notTaken) (record {
  each = λ i h. rw (left i h, kept i h) (each-request p q r true both i h);
  failed = sum_same (at lost) (not_taken_at p q r) n kept ∙ not-taken-in-all p q r true both;
  asked = rw (sum_same (at got) (taken_at p q r) n left, sum_same (at lost) (not_taken_at p q r) n kept) (all_asked p q r true both);
  taken-past = list-past a (taken_at p q r) n taken good fit.0;
  failed-past = list-past a (not_taken_at p q r) n notTaken good fit.1;
})
  where
    n : ℕ
    n = data_of (request_kind p) q

    a : Answer
    a = pair_as p q r (length taken) (length notTaken)

    good : a.number ≡ 0
    good = rw (pair-named kind q r p named (length taken) (length notTaken)) at e

    both : (pair_by p q r true).number ≡ 0
    both = lent-pair p q r (length taken) (length notTaken) good

    got : List ℕ
    got = list_after a (taken_at p q r) n taken

    lost : List ℕ
    lost = list_after a (not_taken_at p q r) n notTaken

    left : (i : ℕ) → i < n → at got i ≡ taken_at p q r i
    left = list_at a (taken_at p q r) n taken good

    kept : (i : ℕ) → i < n → at lost i ≡ not_taken_at p q r i
    kept = list_at a (not_taken_at p q r) n notTaken good

    fit : (n ≤ length taken) × (n ≤ length notTaken)
    fit = lists-fit-is n (length taken) (length notTaken) (pair_fits p q r (lists_fit n (length taken) (length notTaken)) good)
