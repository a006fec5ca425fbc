-- A posting in its steps is the posting as it is defined.
-- Assumes nothing.
use Prim.Native.Nat.{ℕ, ◌+◌, ◌≤◌, ◌<◌}
use mathlib.Core.List.{List}
use mathlib.Core.Path.{◌≡◌, ◌∙◌, ap}
use native.Mathlib.Nat.{le_trans}
use native.Mathlib.Omega.{arith}
use lib.ListN.{length, get_or}
use Rattle.kinds.specs.declared.of_pairs.PairKind.{PairKind}
use Rattle.std.specs.Prelude.{Some, Ok, Err}
use Rattle.kinds.specs.Kinds.{limit}
use Rattle.kinds.specs.Pairs.{request_kind, pair_of}
use Rattle.answers.specs.declared.told.Answer.{Answer}
use Rattle.answers.specs.declared.refusing.Refusal.{Refusal}
use Rattle.answers.specs.declared.of_two.OfTwo.{OfTwo}
use Rattle.answers.specs.Answers.{accepted, first_told}
use Rattle.answers.specs.Refusing.{told_by}
use Rattle.answers.specs.OfTwo.{told_of_two}
use Rattle.answers.proofs.Refusals.{refuses-is, refuses-not, told_same}
use Rattle.answers.proofs.Tellings.{good, bad-two, first, first-two, next}
use Rattle.records.specs.Records.{data_of}
use Rattle.matching.specs.Amounts.{taken_at}
use Rattle.keys.specs.Chains.{slots, links_of}
use Rattle.keys.proofs.Chained.{chained}
use Rattle.payers.specs.declared.members.Member.{Member}
use Rattle.payers.specs.Members.{repeat_number, repeat_tells}
use Rattle.payers.specs.Payers.{members_after, due_number, due_tells, dues_tell_at, dues_tell}
use Rattle.payers.specs.Turns.{dues_key, listed, DuesAsks}
use Rattle.payers.proofs.Alike.{members-same, due-same}
use Rattle.dues.specs.declared.ready.Ready.{Ready}
use Rattle.dues.specs.Posting.{payer_at, ready_told, requests_tell, board_told, members_as, dates_as, board_after, dates_after}
use Rattle.dues.specs.Steps.{Readied, ready_of, readied_by, ready_count, ready_list, MarkingAsks, marks_say, mark_tells, board_posted, posted_by}
use Rattle.dues.proofs.Readied.{Known, ready-known, count-is, dates-are}
use Rattle.dues.proofs.Bounded.{ready-few, ready-word, list_length, ready-inside, ready-small, ready-key, ready-won}
use Rattle.dues.proofs.Marks.{due-mark, marks-told}

module _ (kind : ℕ) (q r dates : List ℕ) where
  module _ (board : List Member) where
    -- what is told of the whole: 43, then what is known before a member is looked at
    pub told-repeat : (x : Refusal) → told_by x ≡ repeat_tells (repeat_number board) → told_by x ≡ board_told kind q r board dates
    unfolding board_told
    told-repeat x e = first x _ _ e

    pub told-ready : accepted ≡ repeat_tells (repeat_number board) → (x : OfTwo) → told_of_two x ≡ ready_told kind q r dates → told_of_two x ≡ board_told kind q r board dates
    unfolding board_told
    told-ready differ x e = next _ _ _ differ (first-two x _ _ e)

    -- *A refusal*: members and dates are as they were
    pub posting-refused : (x : OfTwo) → told_of_two x ≡ board_told kind q r board dates → (posted_by dates (Err x) ≡ board_posted kind q r board dates) × (board ≡ board_after kind q r board dates)
    unfolding board_after dates_after
    posting-refused x e = let t = refuses-is (board_told kind q r board dates) (bad-two x _ e) in (rw (t, e), rw t)

  -- what is known before a member is looked at, where it is no refusal, and what a lent list then has
  module _ (k : Ready) (old taken : List ℕ) (known : readied_by dates (Ok k) ≡ ready_of kind q r dates) (list : taken ≡ ready_list kind q r dates old) where
    ready : accepted ≡ ready_told kind q r dates
    ready = ap (λ (z : Readied). z.answer) known

    many : k.n ≡ ready_count kind q r dates
    many = ap (λ (z : Readied). z.n) known

    kind-known : Known kind q r dates
    kind-known = ready-known kind q r dates (good _ ready)

    pub few : k.n ≤ limit
    few = rw many (ready-few kind q r dates)

    -- the requests may be chained by their payers and marked, and then the members be looked at
    pub marking-asks : (links room : List ℕ) → slots + limit ≤ length links → limit ≤ length room → MarkingAsks k.n q links room
    marking-asks links room l m = record {
      few = rw many (ready-word kind q r dates);
      inside = rw many (ready-inside kind q r dates);
      links-room = omega (arith, few);
      marks-room = le_trans few m;
    }

    pub dues-asks : (links links' : List ℕ) → slots + limit ≤ length links → limit ≤ length old → links' ≡ links_of (dues_key q) k.n links → DuesAsks k.n q taken links'
    dues-asks links links' l o e = record {
      few = rw many (ready-word kind q r dates);
      inside = rw many (ready-inside kind q r dates);
      chained = rw e (chained (dues_key q) k.n links (omega (arith, few)));
      list = rw (list, list_length kind q r dates old o) (le_trans few o);
      small = rw (many, list) (ready-small kind q r dates old);
    }

    module _ (board : List Member) where
      -- what is told of each request, and the members, by the pair kind
      module _ (p : PairKind) (named : pair_of kind ≡ Some p) where
        due-named : (i : ℕ) → i < k.n → due_number (dues_key q) (listed taken) k.n board i ≡ due_number (payer_at p q) (taken_at p q r) (data_of (request_kind p) q) board i
        due-named i h =
            rw (list, many)
            (due-same (dues_key q) (payer_at p q) (ready_count kind q r dates) (ready-key kind q r dates p named (good _ ready)) (listed (ready_list kind q r dates old)) (taken_at p q r) (ready-won kind q r dates p named (good _ ready) old) board i (rw many at h) ∙
            ap (λ (n : ℕ). due_number (payer_at p q) (taken_at p q r) n board i) (count-is kind q r dates p named (good _ ready)))

        members-are : members_after (dues_key q) (listed taken) k.n board ≡ members_as p q r board
        unfolding members_as
        members-are =
            rw (list, many)
            (members-same (dues_key q) (payer_at p q) (ready_count kind q r dates) (ready-key kind q r dates p named (good _ ready)) (listed (ready_list kind q r dates old)) (taken_at p q r) (ready-won kind q r dates p named (good _ ready) old) board ∙
            ap (λ (n : ℕ). members_after (payer_at p q) (taken_at p q r) n board) (count-is kind q r dates p named (good _ ready)))

      -- the marks say what is told of each request, so the first that tells something is what is told of the whole
      module _ (marks : List ℕ) (marked : (i : ℕ) → i < k.n → get_or marks i 0 ≡ due_number (dues_key q) (listed taken) k.n board i) where
        requests-told : (p : PairKind) → pair_of kind ≡ Some p → first_told (marks_say marks) k.n ≡ requests_tell p q r board
        unfolding requests_tell dues_tell dues_tell_at mark_tells
        requests-told p named =
            marks-told marks k.n (λ i h. rw (marked i h) (due-mark (dues_key q) (listed taken) k.n board i)) ∙
            (told_same (mark_tells marks) (dues_tell_at (payer_at p q) (taken_at p q r) (data_of (request_kind p) q) board) k.n
            (λ i h. ap (due_tells i) (marked i h ∙ due-named p named i h)) ∙
            ap (first_told (dues_tell_at (payer_at p q) (taken_at p q r) (data_of (request_kind p) q) board)) (many ∙ count-is kind q r dates p named (good _ ready)))

        pub told-dues : (a : Answer) → accepted ≡ repeat_tells (repeat_number board) → a ≡ first_told (marks_say marks) k.n → a ≡ board_told kind q r board dates
        unfolding board_told
        told-dues a differ e = next a _ _ differ (next a _ _ ready (e ∙ rw kind-known.named (requests-told kind-known.p kind-known.named)))

      -- *An accepted posting*: the members that requests name are settled, and the date of its sort moves
      pub posting-accepted : accepted ≡ board_told kind q r board dates → (posted_by dates (Ok k.dates) ≡ board_posted kind q r board dates) × (members_after (dues_key q) (listed taken) k.n board ≡ board_after kind q r board dates)
      unfolding board_after dates_after
      posting-accepted e =
          let p = kind-known.p in
          let named = kind-known.named in
          let f = refuses-not (board_told kind q r board dates) (good _ e) in
          let moved = ap (λ (z : Readied). z.dates) known ∙ dates-are kind q r dates p named (good _ ready) in
          let after : dates_as p q dates ≡ dates_after kind q r board dates = rw (f, named) in
          (λ i. record { answer = e i; dates = (moved ∙ after) i }, rw (f, named) (members-are p named))
