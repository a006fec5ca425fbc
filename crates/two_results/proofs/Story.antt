-- *One story*: two results that give one debit request equal lists hold the same results in some order, and the other way round.
-- Assumes nothing.
use Prim.Native.Nat.{ℕ, ◌<◌}
use mathlib.Core.List.{List}
use mathlib.Core.Logic.{◌↔◌}
use mathlib.Core.Path.{◌≡◌, refl, sym, ◌∙◌, ap}
use lib.ListN.{length, get_or}
use Rattle.kinds.specs.declared.of_files.Kind.{Kind}
use Rattle.kinds.specs.declared.of_files.Own.{Own}
use Rattle.kinds.specs.declared.of_pairs.PairKind.{PairKind}
use Rattle.kinds.specs.declared.of_pairs.Family.TheVariants.{Debit}
use Rattle.kinds.specs.Pairs.{pair_kind, request_kind, result_kind}
use Rattle.answers.specs.Answers.{accepted}
use Rattle.layout.specs.Items.{amount_of}
use Rattle.tables.specs.Totals.{no_total, totals_of}
use Rattle.records.specs.Records.{record_of, data_of}
use Rattle.records.specs.Quantities.{quantity_of}
use Rattle.reader.specs.Reading.{read_as}
use Rattle.reader.specs.Meets.{Meets}
use Rattle.reader.proofs.Exact.{read-exact}
use Rattle.writer.specs.Says.{Bytes}
use Rattle.agreement.specs.Same.{request_at, result_at}
use Rattle.matching.specs.Matching.{result_for}
use Rattle.pair.specs.Assigned.{Met, Assignment}
use Rattle.pair.proofs.Keys.{result-is, met-matches}
use Rattle.pair.proofs.Marks.{debit-amount}
use Rattle.two_results.specs.Same.{SameBut, serial_and_code, SameResults}
use Rattle.two_results.specs.Gives.{Amounts, Gives, Equal}
use Rattle.two_results.proofs.Lists.{Answers, amounts-failed, amounts-some, gives_one}
use Rattle.two_results.proofs.Records.{record-long, same-record}
use Rattle.two_results.proofs.Shared.{same-amount, same-worth, same-agree, same-possible, same-quantity}
use Rattle.two_results.proofs.Headers.{same-header, same-trailer}

module _ (a b : Own) where
  abbrev debit : PairKind
  debit = pair_kind Debit a b

  abbrev kind : Kind
  kind = result_kind debit

  -- the result of the second that answers the request of each result of the first
  module _ (q r s : List ℕ) {taken left gone kept : ℕ → ℕ} (g : Gives debit q r taken left) (h : Gives debit q s gone kept)
      (equal : Equal (data_of (request_kind debit) q) taken left gone kept) where
    accepts : Meets kind s
    accepts = (read-exact kind s).0 h.result

    abbrev across : ℕ → ℕ
    across j = result_for debit q s (g.assignment.to j)

    module _ (j : ℕ) (below : j < data_of kind r) where
      abbrev i : ℕ
      i = g.assignment.to j

      asked : i < data_of (request_kind debit) q
      asked = (g.assignment.met j below).inside

      same_left : kept i ≡ amount_of (result_at debit r j)
      same_left =
          sym (equal i asked).1 ∙ amounts-failed debit q r g.assignment.to g.assignment.distinct i (g.amounts i asked) j below refl

      answer : Answers debit q s h.assignment.to i (kept i)
      answer =
          amounts-some debit q s h.assignment.to i (h.amounts i asked)
          (rw same_left (debit-amount b r ((read-exact kind r).0 g.result) j below))

      answer-met : Met debit q s i answer.result
      answer-met = rw answer.is at (h.assignment.met answer.result answer.inside)

      across-is : across j ≡ answer.result
      across-is = result-is debit q s accepts.keys i answer.result (met-matches debit q s i answer.result answer.inside answer-met)

      pub across-inside : across j < data_of kind s
      across-inside = rw across-is answer.inside

      pub across-to : h.assignment.to (across j) ≡ i
      across-to = rw across-is answer.is

      pub across-back : result_for debit q r (h.assignment.to (across j)) ≡ j
      across-back =
          rw across-to (result-is debit q r ((read-exact kind r).0 g.result).keys i j (met-matches debit q r i j below (g.assignment.met j below)))

      pub across-same : SameBut (serial_and_code kind) (result_at debit r j) (result_at debit s (across j))
      across-same =
          rw across-is
          (same-record a b q r s ((read-exact kind r).0 g.result) accepts i j answer.result below answer.inside (g.assignment.met j below) answer-met (sym same_left ∙ answer.amount))

  -- equal lists: the same results in some order
  pub same-results :
      (q r s : List ℕ) {taken left gone kept : ℕ → ℕ} → Gives debit q r taken left → Gives debit q s gone kept → Bytes r → Bytes s →
      Equal (data_of (request_kind debit) q) taken left gone kept → SameResults kind r s
  same-results q r s {taken} {left} {gone} {kept} g h br bs equal = record {
    to = to;
    back = back;
    inside = across-inside q r s g h equal;
    outside = across-inside q s r h g turned;
    there = across-back q r s g h equal;
    here = across-back q s r h g turned;
    records = records;
    headers = headers;
    trailers = same-trailer a b r s mr ms headers quantities;
  }
    where
      turned : Equal (data_of (request_kind debit) q) gone kept taken left
      turned i l = (sym (equal i l).0, sym (equal i l).1)

      to : ℕ → ℕ
      to = across q r s g h equal

      back : ℕ → ℕ
      back = across q s r h g turned

      mr : Meets kind r
      mr = (read-exact kind r).0 g.result

      ms : Meets kind s
      ms = (read-exact kind s).0 h.result

      records : (j : ℕ) → j < data_of kind r → SameBut (serial_and_code kind) (result_at debit r j) (result_at debit s (to j))
      records = across-same q r s g h equal

      headers : record_of kind r 0 ≡ record_of kind s 0
      headers = same-header a b q r s mr ms br bs g.headers h.headers

      quantities : (t : ℕ) → t < 5 → quantity_of kind r (get_or (totals_of kind) t no_total).3 ≡ quantity_of kind s (get_or (totals_of kind) t no_total).3
      quantities t l =
          same-quantity kind r s to back (across-inside q r s g h equal) (across-inside q s r h g turned) (across-back q r s g h equal) (across-back q s r h g turned) _
          (λ j k. same-worth a b (result_at debit r j) (result_at debit s (to j)) (records j k) (record-long a b r mr j k) t l)

  -- the same results in some order: what pairs with the one pairs with the other, and the lists are equal
  module _ (q r s : List ℕ) {taken left : ℕ → ℕ} (g : Gives debit q r taken left) (good : read_as kind s ≡ accepted) (e : SameResults kind r s) where
    -- result l + 1 of the second, and the one of the first that it is
    module _ (l : ℕ) (below : l < data_of kind s) where
      abbrev j : ℕ
      j = e.back l

      there-same : SameBut (serial_and_code kind) (result_at debit r j) (result_at debit s l)
      there-same = rw (e.here l below) at (e.records j (e.outside l below))

      there-long : length (result_at debit r j) ≡ 150
      there-long = record-long a b r ((read-exact kind r).0 g.result) j (e.outside l below)

      there-met : Met debit q s (g.assignment.to j) l
      there-met =
          let m = g.assignment.met j (e.outside l below) in
          record {
            inside = m.inside;
            agree = same-agree a b (result_at debit r j) (result_at debit s l) there-same there-long (request_at debit q (g.assignment.to j)) m.agree;
            possible = same-possible a b (result_at debit r j) (result_at debit s l) there-same there-long m.possible;
          }

    assigned : Assignment debit q s
    assigned = record {
      to = λ l. g.assignment.to (e.back l);
      distinct = λ l m x y f.
          sym (e.here l x) ∙ (ap e.to (g.assignment.distinct (e.back l) (e.back m) (e.outside l x) (e.outside m y) f) ∙ e.here m y);
      met = there-met;
    }

    turn-amounts : (i : ℕ) {had lost : ℕ} → Amounts debit q r g.assignment.to i had lost → Amounts debit q s assigned.to i had lost
    unfolding assigned
    turn-amounts i (Amounts.whole none) = Amounts.whole (λ l x f. none (e.back l) (e.outside l x) f)
    turn-amounts i (Amounts.failed j x f) =
        rw (same-amount a b (result_at debit r j) (result_at debit s (e.to j)) (e.records j x) (record-long a b r ((read-exact kind r).0 g.result) j x))
        (Amounts.failed (e.to j) (e.inside j x) (ap g.assignment.to (e.there j x) ∙ f))

    pub same_gives : Gives debit q s taken left
    same_gives = record {
      request = g.request;
      result = good;
      headers = rw (← e.headers) g.headers;
      assignment = assigned;
      amounts = λ i x. turn-amounts i (g.amounts i x);
    }

  -- *One story*, both ways
  pub one-story :
      (q r s : List ℕ) {taken left gone kept : ℕ → ℕ} → Gives debit q r taken left → Gives debit q s gone kept → Bytes r → Bytes s →
      Equal (data_of (request_kind debit) q) taken left gone kept ↔ SameResults kind r s
  one-story q r s g h br bs = (same-results q r s g h br bs, λ e. gives_one debit q s (same_gives q r s g h.result e) h)
