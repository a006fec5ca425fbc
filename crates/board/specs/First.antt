-- What each answer about a posting says: what is told is the first thing wrong, in the order of the paper.
use Rattle.std.specs.Prelude.{ℕ, ◌+◌, ◌≤◌, ◌<◌, true, List, ◌≡◌, length, get_or, Some, None}
use Rattle.keys.specs.Keys.{Distinct}
use Rattle.kinds.specs.declared.of_pairs.PairKind.{PairKind}
use Rattle.kinds.specs.declared.of_pairs.Family.TheVariants.{Enrolment, Debit}
use Rattle.kinds.specs.Pairs.{pair_of}
use Rattle.answers.specs.declared.told.Answer.{Answer}
use Rattle.answers.specs.Answers.{accepted, refused, refused_at}
use Rattle.pair.specs.Pairing.{pair_by}
use Rattle.payers.specs.declared.members.Member.{Member}
use Rattle.payers.specs.Members.{payer_on, owed_on}
use Rattle.dues.specs.Posting.{payer_at, last_posted, day_of}
use Rattle.board.specs.Each.{requests, taken_of}

-- member k has this payer; nobody has it
pub record HasPayer (board : List Member) (payer : List ℕ) (k : ℕ) : Type 0 where
  pub on : k < length board
  pub is : payer_on board k ≡ payer

abbrev pub Nobody : List Member → List ℕ → Type 0
Nobody board payer = (k : ℕ) → HasPayer board payer k → ⊥

-- member k has an earlier one's payer; no two have the same
pub record Repeats (board : List Member) (k : ℕ) : Type 0 where
  pub earlier : ℕ
  pub before : earlier < k
  pub same : payer_on board k ≡ payer_on board earlier

abbrev pub Differ : List Member → Type 0
Differ board = Distinct (payer_on board) (length board)

-- six bytes are later than six others: up to some place they are the same, and there they are greater
pub record Later (a b : List ℕ) : Type 0 where
  pub place : ℕ
  pub inside : place < 6
  pub before : (k : ℕ) → k < place → get_or a k 0 ≡ get_or b k 0
  pub greater : get_or b place 0 < get_or a place 0

-- request i + 1 stands: some member has its payer, and owes all that was taken of that payer's requests
pub record Stands (p : PairKind) (q r : List ℕ) (board : List Member) (i : ℕ) : Type 0 where
  pub member : ℕ
  pub has : HasPayer board (payer_at p q i) member
  pub enough : taken_of p q r (payer_at p q i) ≤ owed_on board member

abbrev pub StandTo : PairKind → List ℕ → List ℕ → List Member → ℕ → Type 0
StandTo p q r board n = (i : ℕ) → i < n → Stands p q r board i

-- payers differ, and the number names a pair kind of debit
pub record Known (kind : ℕ) (board : List Member) (p : PairKind) : Type 0 where
  pub payers : Differ board
  pub named : pair_of kind ≡ Some p
  pub debit : p.family ≡ Debit

-- the pair is accepted too, and its day is later than the last of its sort
pub record Ready (kind : ℕ) (q r : List ℕ) (board : List Member) (dates : List ℕ) (p : PairKind) : Type 0 where
  pub known : Known kind board p
  pub pair : (pair_by p q r true).number ≡ 0
  pub day : Later (day_of p q) (last_posted p dates)

-- request i + 1 is reached: every earlier one stands
pub record Reached (kind : ℕ) (q r : List ℕ) (board : List Member) (dates : List ℕ) (p : PairKind) (i : ℕ) : Type 0 where
  pub ready : Ready kind q r board dates p
  pub below : i < requests p q
  pub earlier : StandTo p q r board i

pub data BoardSays (kind : ℕ) (q r : List ℕ) (board : List Member) (dates : List ℕ) : Answer → Type 0 where
  -- 0: every request stands
  good : (p : PairKind) → Ready kind q r board dates p → StandTo p q r board (requests p q) → BoardSays kind q r board dates accepted
  -- 43: member k + 1 is the first that has an earlier one's payer
  repeated : (k : ℕ) → k < length board → Repeats board k → ((j : ℕ) → j < k → Repeats board j → ⊥) →
      BoardSays kind q r board dates (refused_at 43 (k + 1) 0 0x30303030)
  -- 1: payers differ, and the number names no pair kind, or one of enrolment
  unknown : Differ board → pair_of kind ≡ None → BoardSays kind q r board dates (refused 1)
  enrolment : (p : PairKind) → Differ board → pair_of kind ≡ Some p → p.family ≡ Enrolment → BoardSays kind q r board dates (refused 1)
  -- the pair is refused, with its own answer
  pair : (p : PairKind) → Known kind board p → ((pair_by p q r true).number ≡ 0 → ⊥) → BoardSays kind q r board dates (pair_by p q r true)
  -- 40: the pair is accepted, and its day is not later than the last of its sort
  date : (p : PairKind) → Known kind board p → (pair_by p q r true).number ≡ 0 → (Later (day_of p q) (last_posted p dates) → ⊥) →
      BoardSays kind q r board dates (refused_at 40 0 5 0x30303030)
  -- 41: request i + 1 is the first that does not stand, and nobody has its payer
  payer : (p : PairKind) (i : ℕ) → Reached kind q r board dates p i → Nobody board (payer_at p q i) →
      BoardSays kind q r board dates (refused_at 41 (i + 1) 11 0x30303030)
  -- 42: request i + 1 is the first that does not stand, and member k + 1, who has its payer, owes less than was taken of all that payer's requests
  over : (p : PairKind) (i k : ℕ) → Reached kind q r board dates p i → HasPayer board (payer_at p q i) k → owed_on board k < taken_of p q r (payer_at p q i) →
      BoardSays kind q r board dates (refused_at 42 (i + 1) 11 0x30303030)
