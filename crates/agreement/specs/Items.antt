-- Items that must be the same in two records.
use Rattle.std.specs.Prelude.{ℕ, Bool, cond, List, [], ◌∷◌, length, get_or, take, Option, Some, None}
use Rattle.laws.specs.Part.{part, same}
use Rattle.tables.specs.declared.copied.Copied.{Copied}
use Rattle.tables.specs.Copied.{no_item, copied_of}
use Rattle.tables.specs.Places.{code_place, date_place, branch_place, account_place}
use Rattle.answers.specs.declared.told.Answer.{Answer}
use Rattle.answers.specs.Answers.{accepted, refused_at, first_told}
use Rattle.kinds.specs.declared.of_pairs.PairKind.{PairKind}
use Rattle.kinds.specs.Pairs.{agreed, request_kind}

-- institution code, date; in debit also header items 6 and 7
unfoldable pub header_items : List Copied
header_items = code_place ∷ date_place ∷ branch_place ∷ account_place ∷ []

-- what is compared: items of the headers, or the copied items of a data record
pub data Compared : Type 0 where
  Headers : Compared
  Records : Compared

-- of the headers the items that must agree, of the records the copied items
abbrev pub compared_of : PairKind → Compared → List Copied
compared_of p Headers = take (agreed p) header_items
compared_of p Records = copied_of (request_kind p)

-- the item is the same in a and b
unfoldable pub agrees : Copied → List ℕ → List ℕ → Bool
agrees c a b = same (part c.1 c.2 a) (part c.1 c.2 b)

-- what is told of item i: a number, at a record and the item
unfoldable pub item_tells : ℕ → ℕ → List Copied → List ℕ → List ℕ → ℕ → Answer
item_tells number rec items a b i =
    cond (agrees (get_or items i no_item) a b) accepted (refused_at number rec (get_or items i no_item).0 0x30303030)

-- what is told of the number of an item that differs, if one does
abbrev pub item_told : ℕ → ℕ → Option ℕ → Answer
item_told number rec (Some item) = refused_at number rec item 0x30303030
item_told number rec None = accepted

-- what is told of them all: the first that differs
unfoldable pub items_tell : ℕ → ℕ → List Copied → List ℕ → List ℕ → Answer
items_tell number rec items a b = first_told (item_tells number rec items a b) (length items)
