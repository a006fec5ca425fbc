-- Compared items: all are the same, or the first that differs is told.
-- Assumes nothing.
use Prim.Native.Nat.{ℕ, ◌<◌}
use mathlib.Core.Bool.{true, false}
use mathlib.Core.List.{List}
use mathlib.Core.Path.{◌≡◌, sym, ◌∙◌}
use mathlib.Core.Logic.{⊎_elim, ◌⊎◌, inl, inr}
use lib.ListN.{length, get_or}
use Rattle.laws.specs.Part.{part}
use Rattle.laws.proofs.Bools.{either, clash}
use Rattle.laws.proofs.Parts.{same-equal, same_self}
use Rattle.tables.specs.declared.copied.Copied.{Copied}
use Rattle.tables.specs.Copied.{no_item}
use Rattle.answers.specs.Answers.{accepted, refused_at}
use Rattle.answers.proofs.Refusals.{told, told-all, First, Good, number_of}
use Rattle.records.specs.Records.{record_of}
use Rattle.kinds.specs.declared.of_pairs.PairKind.{PairKind}
use Rattle.kinds.specs.Pairs.{request_kind, result_kind}
use Rattle.agreement.specs.Items.{Headers, compared_of, agrees, item_tells, items_tell}
use Rattle.agreement.specs.Meeting.{headers_tell}
use Rattle.agreement.specs.Same.{SameItem, SameTo, SameItems, HeadersAgree}
use Rattle.agreement.proofs.Differ.{item-good, item-bad}

-- the test of one item
same-agrees : (c : Copied) (a b : List ℕ) → SameItem c a b → agrees c a b ≡ true
unfolding agrees
same-agrees c a b e = rw (e, same_self (part c.1 c.2 b))

agrees-same : (c : Copied) (a b : List ℕ) → agrees c a b ≡ true → SameItem c a b
unfolding agrees
agrees-same c a b t = same-equal (part c.1 c.2 a) (part c.1 c.2 b) t

module _ (number rec : ℕ) (items : List Copied) (a b : List ℕ) where
  -- item c is the first that differs, and it is told
  pub record Differs (c : ℕ) : Type 0 where
    pub below : c < length items
    pub differs : SameItem (get_or items c no_item) a b → ⊥
    pub before : SameTo c items a b
    pub told : items_tell number rec items a b ≡ refused_at number rec (get_or items c no_item).0 0x30303030

  -- nothing is told of items that are the same
  pub same-told : SameItems items a b → items_tell number rec items a b ≡ accepted
  unfolding items_tell
  same-told h =
      told-all (item_tells number rec items a b) (length items)
      (λ c l. number_of (item-good number rec items a b c (same-agrees (get_or items c no_item) a b (h c l))))

  module _ (refusal : number ≡ 0 → ⊥) where
    item-same : (c : ℕ) → (item_tells number rec items a b c).number ≡ 0 → SameItem (get_or items c no_item) a b
    item-same c e =
        ⊎_elim (agrees-same (get_or items c no_item) a b)
        (λ f. absurd (refusal (number_of (sym (item-bad number rec items a b c f)) ∙ e)))
        (either (agrees (get_or items c no_item) a b))

    pub items-told : SameItems items a b ⊎ ((c : ℕ) × Differs c)
    unfolding items_tell
    items-told = ⊎_elim none found (told (item_tells number rec items a b) (length items))
      where
        none : Good (item_tells number rec items a b) (length items) → SameItems items a b ⊎ ((c : ℕ) × Differs c)
        none g = inl (λ c h. item-same c (g.all c h))

        fails : (c : ℕ) → First (item_tells number rec items a b) (length items) c → agrees (get_or items c no_item) a b ≡ false
        fails c f =
            ⊎_elim (λ t. absurd (f.bad (number_of (item-good number rec items a b c t)))) (λ n. n)
            (either (agrees (get_or items c no_item) a b))

        found : ((c : ℕ) × First (item_tells number rec items a b) (length items) c) → SameItems items a b ⊎ ((c : ℕ) × Differs c)
        found x =
            let c = x.0 in
            let f = x.1 in
            inr (
              c,
              record {
                below = f.below;
                differs = λ e. clash (same-agrees (get_or items c no_item) a b e) (fails c f);
                before = λ m h. item-same m (f.before m h);
                told = f.told ∙ item-bad number rec items a b c (fails c f);
              },
            )

-- nothing is told of headers that agree
pub headers-told : (p : PairKind) (q r : List ℕ) → HeadersAgree p q r → headers_tell p q r ≡ accepted
unfolding headers_tell
headers-told p q r h = same-told 12 0 (compared_of p Headers) (record_of (request_kind p) q 0) (record_of (result_kind p) r 0) h
