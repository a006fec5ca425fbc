-- Reading and writing a day file undo each other.
-- Assumes nothing.
use Prim.Native.Nat.{ℕ, ◌*◌, ◌≤◌, ◌<◌}
use mathlib.Core.List.{List, ◌++◌}
use mathlib.Core.Path.{◌≡◌, sym, ◌∙◌, ap}
use mathlib.Core.Logic.{◌↔◌}
use native.Mathlib.Omega.{arith}
use lib.ListN.{length, drop}
use lib.Seq.{take_all}
use Rattle.laws.specs.Part.{part}
use Rattle.laws.proofs.Joins.{sized-length, sized-part, joined_same, parts-joined}
use Rattle.laws.proofs.Tabs.{tab-length, tab-at, tab-list}
use Rattle.answers.specs.OfDay.{day_accepted}
use Rattle.answers.proofs.OfDay.{day-number}
use Rattle.day.specs.Contents.{count_in, name_in, length_in, bodies_in}
use Rattle.day.specs.Bodies.{size_at, list_told}
use Rattle.day.specs.Reading.{read_of}
use Rattle.day.specs.First.{Contents}
use Rattle.day.specs.Holds.{Holds}
use Rattle.day.proofs.Contained.{short-in, name-long as in-long}
use Rattle.day.proofs.Listed.{list_same}
use Rattle.day.proofs.Told.{read-list, read-good, read-contents}
use Rattle.day.proofs.Filed.{file-same, file-holds, file-taken}
use Rattle.day.proofs.Exact.{holds-told}
use Rattle.day_writer.specs.Writing.{name_of, decided, file_for, write_told, write_after}
use Rattle.day_writer.specs.Given.{Given}
use Rattle.day_writer.specs.Apart.{names_in, lengths_in, Kept, Again, Came}
use Rattle.day_writer.proofs.Decides.{given-good, name-long, decided-list, decided-given}
use Rattle.day_writer.proofs.Stored.{told-good, after-good}

module _ (names lengths bodies : List ℕ) where
  -- what stands in the file to be written
  pub for-holds : Given names lengths → Holds (file_for names lengths bodies) (name_of names) (size_at lengths) (length lengths) bodies
  unfolding file_for
  for-holds g = file-holds (name_of names) (size_at lengths) (length lengths) bodies g.few (name-long names lengths g) g.short

  -- *Answers agree*: where names and lengths are given well, the writer decides as the reader does of the file to be written
  pub decided-read : Given names lengths → read_of (file_for names lengths bodies) ≡ decided names lengths bodies
  decided-read g =
      holds-told (file_for names lengths bodies) (name_of names) (size_at lengths) (length lengths) bodies (for-holds g) ∙
      sym (decided-list names lengths bodies (given-good names lengths g))

  names-again : Given names lengths → names_in (file_for names lengths bodies) ≡ names
  unfolding names_in name_of
  names-again g =
      let h = for-holds g in
      rw h.count
      (joined_same (name_in (file_for names lengths bodies)) (λ i. part (i * 8) 8 names) (length lengths) h.names ∙
      (parts-joined 8 (length lengths) names (omega (arith, g.one_each)) ∙ take_all (length lengths * 8) names (omega (arith, g.one_each))))

  lengths-again : Given names lengths → lengths_in (file_for names lengths bodies) ≡ lengths
  unfolding lengths_in size_at
  lengths-again g = let h = for-holds g in rw h.count (tab-list (length_in (file_for names lengths bodies)) lengths h.lengths)

  -- *Written, then read*: what the writer accepts is read as accepted, and taken apart it is what was given
  pub written-taken : decided names lengths bodies ≡ day_accepted → Kept names lengths bodies (file_for names lengths bodies)
  written-taken e =
      let g = decided-given names lengths bodies (day-number e) in
      record { good = decided-read g ∙ e; names-kept = names-again g; lengths-kept = lengths-again g; bodies_kept = (for-holds g).behind }

-- a file that is accepted, taken apart
module _ (s : List ℕ) (c : Contents s) where
  names-long : length (names_in s) ≡ count_in s * 8
  unfolding names_in
  names-long = sized-length (name_in s) 8 (count_in s) (in-long s (count_in s) c.whole)

  pub name-again : (i : ℕ) → i < count_in s → name_of (names_in s) i ≡ name_in s i
  unfolding name_of names_in
  name-again i h = sized-part (name_in s) 8 (count_in s) (in-long s (count_in s) c.whole) i h

  lengths-long : length (lengths_in s) ≡ count_in s
  unfolding lengths_in
  lengths-long = tab-length (length_in s) (count_in s)

  pub length-again : (i : ℕ) → i < count_in s → size_at (lengths_in s) i ≡ length_in s i
  unfolding size_at lengths_in
  length-again i h = tab-at (length_in s) (count_in s) i h

  taken-given : Given (names_in s) (lengths_in s)
  taken-given = record {
    few = rw lengths-long c.few;
    one_each = rw lengths-long names-long;
    short = λ i h. let l : i < count_in s = rw lengths-long at h in rw (length-again i l) (short-in s (count_in s) c.whole i l);
  }

  taken-told : decided (names_in s) (lengths_in s) (bodies_in s) ≡ list_told (name_in s) (length_in s) (count_in s) (bodies_in s)
  taken-told =
      decided-list (names_in s) (lengths_in s) (bodies_in s) (given-good (names_in s) (lengths_in s) taken-given) ∙
      rw lengths-long
      (list_same (name_of (names_in s)) (name_in s) (size_at (lengths_in s)) (length_in s) (count_in s) (bodies_in s) name-again length-again)

  taken-file : file_for (names_in s) (lengths_in s) (bodies_in s) ≡ s
  unfolding file_for
  taken-file =
      rw lengths-long (file-same (name_of (names_in s)) (name_in s) (size_at (lengths_in s)) (length_in s) (count_in s) (bodies_in s) name-again length-again) ∙
      file-taken s c

-- *Taken apart, then written*: the same bytes
pub taken-written : (s : List ℕ) → read_of s ≡ day_accepted → Again s
taken-written s e = record {
  good = good;
  same = same;
  told = told;
  stored = λ room h. after room (told (length room) h);
}
  where
    c : Contents s
    c = read-contents s (day-number e)

    same : file_for (names_in s) (lengths_in s) (bodies_in s) ≡ s
    same = taken-file s c

    good : decided (names_in s) (lengths_in s) (bodies_in s) ≡ day_accepted
    good = taken-told s c ∙ (sym (read-list s (read-good s (day-number e))) ∙ e)

    told : (room : ℕ) → length s ≤ room → write_told (names_in s) (lengths_in s) (bodies_in s) room ≡ day_accepted
    told room h = told-good (names_in s) (lengths_in s) (bodies_in s) room (day-number good) (rw same h)

    after : (room : List ℕ) → write_told (names_in s) (lengths_in s) (bodies_in s) (length room) ≡ day_accepted → write_after (names_in s) (lengths_in s) (bodies_in s) room ≡ s ++ drop (length s) room
    after room t = after-good (names_in s) (lengths_in s) (bodies_in s) room (day-number t) ∙ rw same

-- *Exact*: the writer accepts exactly what some accepted file is taken apart into
pub write-exact : (names lengths bodies : List ℕ) → (decided names lengths bodies ≡ day_accepted) ↔ Came names lengths bodies
write-exact names lengths bodies = (
  λ e.
      let k = written-taken names lengths bodies e in
      record { file = file_for names lengths bodies; good = k.good; names_of = k.names-kept; lengths-of = k.lengths-kept; bodies_of = k.bodies_kept },
  λ c. rw (c.names_of, c.lengths-of, c.bodies_of) at (taken-written c.file c.good).good,
)

-- *One day file*: no two things that the writer accepts give the same file
pub one-file :
    (names lengths bodies names' lengths' bodies' : List ℕ) → decided names lengths bodies ≡ day_accepted → decided names' lengths' bodies' ≡ day_accepted →
    file_for names lengths bodies ≡ file_for names' lengths' bodies' → (names ≡ names') × ((lengths ≡ lengths') × (bodies ≡ bodies'))
one-file names lengths bodies names' lengths' bodies' a b e =
    let k = written-taken names lengths bodies a in
    let l = written-taken names' lengths' bodies' b in (
      sym k.names-kept ∙ (ap names_in e ∙ l.names-kept),
      (sym k.lengths-kept ∙ (ap lengths_in e ∙ l.lengths-kept), sym k.bodies_kept ∙ (ap bodies_in e ∙ l.bodies_kept)),
    )
