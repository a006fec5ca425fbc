-- A day file and what it is made of: what stands in it, and that bytes which begin with contents are made of what stands in them.
-- Assumes nothing.
use Prim.Native.Nat.{ℕ, ◌+◌, ◌*◌, ◌≤◌, ◌<◌}
use mathlib.Core.List.{List, [], ◌∷◌, ◌++◌, append_assoc}
use mathlib.Core.Path.{◌≡◌, refl, sym, ◌∙◌, ap}
use native.Mathlib.Nat.{le_of_eq}
use native.Mathlib.Omega.{arith}
use lib.ListN.{length, take, drop, length-append, length-drop}
use lib.Seq.{take-suc, drop_at, drop-drop}
use Rattle.laws.specs.Joined.{joined}
use Rattle.laws.specs.Part.{part}
use Rattle.laws.proofs.Joins.{sized-length, sized-part, joined_same, parts-joined}
use Rattle.laws.proofs.Parts.{part_length, part-part, part-short}
use Rattle.laws.proofs.Pieces.{part-within, part-behind, part-first, piece_then, piece-at, part-two}
use Rattle.numbers.specs.Numbers.{value_of, digits_of}
use Rattle.numbers.proofs.Values.{digits-length, digits_are, digits_value, value-digits}
use Rattle.day.specs.Contents.{width_of, form_for, width_for, most, entry_at, end_in, width_in, count_in, name_in, digits_in, length_in, bodies_in}
use Rattle.day.specs.Bodies.{Short}
use Rattle.day.specs.Meets.{entry_of, file_of}
use Rattle.day.specs.First.{Contents}
use Rattle.day.specs.Holds.{Holds}
use Rattle.day.proofs.Forms.{form-same, width_fits, entry_next}
use Rattle.day.proofs.Contained.{digits_long}

-- the same names and lengths, the same file
pub file-same :
    (name other : ℕ → List ℕ) (size long : ℕ → ℕ) (n : ℕ) (bodies : List ℕ) → ((i : ℕ) → i < n → name i ≡ other i) →
    ((i : ℕ) → i < n → size i ≡ long i) → file_of name size n bodies ≡ file_of other long n bodies
unfolding file_of entry_of
file-same name other size long n bodies a b =
    let w = width_for long n in
    rw (form-same size long n b, joined_same (entry_of w name size) (entry_of w other long) n (λ i h. rw (a i h, b i h)))

-- how long entries are, and a file, where names have eight bytes
module _ (name : ℕ → List ℕ) (size : ℕ → ℕ) (n : ℕ) (named : (i : ℕ) → i < n → length (name i) ≡ 8) where
  entry-long : (w i : ℕ) → i < n → length (entry_of w name size i) ≡ 8 + w
  unfolding entry_of
  entry-long w i h = length-append (name i) (digits_of w (size i)) ∙ rw (named i h, digits-length w (size i))

  pub entries-long : (w : ℕ) → length (joined (entry_of w name size) n) ≡ n * (8 + w)
  entries-long w = sized-length (entry_of w name size) (8 + w) n (entry-long w)

  pub file-long : (bodies : List ℕ) → length (file_of name size n bodies) ≡ entry_at (width_for size n) n + length bodies
  unfolding file_of
  file-long bodies =
      let w = width_for size n in
      rw (
        length-append (digits_of 2 n) (joined (entry_of w name size) n ++ bodies),
        length-append (joined (entry_of w name size) n) bodies,
        digits-length 2 n,
        entries-long w,
      ) (omega arith)

-- what stands in the file of n bodies, whose names have eight bytes and whose lengths at most six digits
module _ (name : ℕ → List ℕ) (size : ℕ → ℕ) (n : ℕ) (bodies : List ℕ)
    (few : n ≤ most)
    (named : (i : ℕ) → i < n → length (name i) ≡ 8)
    (short : Short size n)
  where
    abbrev w : ℕ
    w = width_for size n

    long : length (file_of name size n bodies) ≡ entry_at w n + length bodies
    long = file-long name size n named bodies

    -- the digits by the form
    wide : width_in (file_of name size n bodies) ≡ w
    unfolding file_of width_in
    wide = refl

    -- two digits behind the form
    count_at : part 1 2 (file_of name size n bodies) ≡ digits_of 2 n
    unfolding file_of
    count_at = piece-at (form_for size n ∷ []) (digits_of 2 n) (joined (entry_of w name size) n ++ bodies) 1 2 refl (digits-length 2 n)

    counted : count_in (file_of name size n bodies) ≡ n
    unfolding count_in
    counted = ap value_of count_at ∙ value-digits 2 n (omega arith)

    -- the entries behind them, and one of them
    entry-at : (i : ℕ) → i < n → part (entry_at w i) (8 + w) (file_of name size n bodies) ≡ entry_of w name size i
    unfolding file_of
    entry-at i h =
        let at = i * (8 + w) in
        let there : entry_at w i ≡ 1 + (2 + at) = omega arith in
        ap (λ (a : ℕ). part a (8 + w) (file_of name size n bodies)) there ∙
        (part-behind (form_for size n ∷ []) (digits_of 2 n ++ (joined (entry_of w name size) n ++ bodies)) 1 (2 + at) (8 + w) refl ∙
        (part-behind (digits_of 2 n) (joined (entry_of w name size) n ++ bodies) 2 at (8 + w) (digits-length 2 n) ∙
        (part-within (joined (entry_of w name size) n) bodies at (8 + w) (omega (arith, entries-long name size n named w, entry_next w n i h)) ∙
        sized-part (entry_of w name size) (8 + w) n (entry-long name size n named w) i h)))

    entry-part : (i a c : ℕ) → i < n → a + c ≤ 8 + w → part (entry_at w i + a) c (file_of name size n bodies) ≡ part a c (entry_of w name size i)
    entry-part i a c h l =
        sym (part-part a c (entry_at w i) (8 + w) (file_of name size n bodies) l (omega (arith, long, entry_next w n i h))) ∙ ap (part a c) (entry-at i h)

    name-at : (i : ℕ) → i < n → name_in (file_of name size n bodies) i ≡ name i
    unfolding name_in entry_of
    name-at i h =
        let there : entry_at w i ≡ entry_at w i + 0 = omega arith in
        rw wide
        (ap (λ (a : ℕ). part a 8 (file_of name size n bodies)) there ∙
        (entry-part i 0 8 h (omega arith) ∙ part-first (name i) (digits_of w (size i)) 8 (named i h)))

    digits-at : (i : ℕ) → i < n → digits_in (file_of name size n bodies) i ≡ digits_of w (size i)
    unfolding digits_in entry_of
    digits-at i h =
        rw wide
        (entry-part i 8 w h (omega arith) ∙
        (part-behind (name i) (digits_of w (size i)) 8 0 w (named i h) ∙ part-short 0 w (digits_of w (size i)) (le_of_eq (digits-length w (size i)))))

    length_at : (i : ℕ) → i < n → length_in (file_of name size n bodies) i ≡ size i
    unfolding length_in
    length_at i h = ap value_of (digits-at i h) ∙ value-digits w (size i) (width_fits size n short i h)

    -- and the bodies behind all
    before : List ℕ
    before = (form_for size n ∷ []) ++ (digits_of 2 n ++ joined (entry_of w name size) n)

    before-long : length before ≡ entry_at w n
    unfolding before
    before-long = rw (length-append (digits_of 2 n) (joined (entry_of w name size) n), digits-length 2 n, entries-long name size n named w) (omega arith)

    file-two : file_of name size n bodies ≡ before ++ bodies
    unfolding file_of before
    file-two = ap (λ (x : List ℕ). (form_for size n ∷ []) ++ x) (sym (append_assoc (digits_of 2 n) (joined (entry_of w name size) n) bodies))

    bodies-at : bodies_in (file_of name size n bodies) ≡ bodies
    unfolding bodies_in
    bodies-at = rw (wide, counted, file-two) (drop_at before bodies (entry_at w n) before-long)

    -- the form is the one that these lengths need
    formed-at : form_for size n ≡ form_for (length_in (file_of name size n bodies)) (count_in (file_of name size n bodies))
    formed-at = rw counted (sym (form-same (length_in (file_of name size n bodies)) size n length_at))

    pub file-holds : Holds (file_of name size n bodies) name size n bodies
    unfolding file_of
    file-holds = record {
      contents = record {
        fewest = omega (arith, long);
        counted = rw count_at (digits_are 2 n);
        few = rw counted few;
        whole = rw (wide, counted) (omega (arith, long));
        lengths = λ i h. let l : i < n = rw counted at h in rw (digits-at i l) (digits_are w (size i));
        formed = formed-at;
      };
      count = counted;
      names = name-at;
      lengths = length_at;
      behind = bodies-at;
    }

-- bytes that begin with contents are made of what stands in them
module _ (s : List ℕ) (c : Contents s) where
  abbrev n : ℕ
  n = count_in s

  abbrev said : ℕ
  said = width_in s

  -- the form says as many digits as the lengths need
  needed : width_for (length_in s) n ≡ said
  unfolding width_in
  needed = ap width_of (sym c.formed)

  first_byte : part 0 1 s ≡ form_for (length_in s) n ∷ []
  unfolding part
  first_byte = take-suc s 0 0 (omega (arith, c.fewest)) ∙ rw c.formed

  two_digits : part 1 2 s ≡ digits_of 2 n
  unfolding count_in
  two_digits = sym (rw (part_length 1 2 s c.fewest) at (digits_value (part 1 2 s) c.counted))

  length_digits : (i : ℕ) → i < n → digits_in s i ≡ digits_of said (length_in s i)
  unfolding length_in
  length_digits i h = sym (rw (digits_long s n c.whole i h) at (digits_value (digits_in s i) (c.lengths i h)))

  behind-front : (i : ℕ) → part (i * (8 + said)) (8 + said) (drop 3 s) ≡ part (entry_at said i) (8 + said) s
  unfolding part
  behind-front i =
      let there : 3 + i * (8 + said) ≡ entry_at said i = omega arith in
      ap (take (8 + said)) (drop-drop (i * (8 + said)) 3 s ∙ ap (λ (a : ℕ). drop a s) there)

  entry-taken : (i : ℕ) → i < n → part (i * (8 + said)) (8 + said) (drop 3 s) ≡ entry_of said (name_in s) (length_in s) i
  unfolding entry_of name_in digits_in
  entry-taken i h = behind-front i ∙ (part-two (entry_at said i) 8 said s ∙ rw (length_digits i h))

  all-entries : part 3 (n * (8 + said)) s ≡ joined (entry_of said (name_in s) (length_in s)) n
  unfolding part
  all-entries =
      sym (parts-joined (8 + said) n (drop 3 s) (rw length-drop (omega (arith, c.whole)))) ∙
      joined_same (λ i. part (i * (8 + said)) (8 + said) (drop 3 s)) (entry_of said (name_in s) (length_in s)) n entry-taken

  pub file-taken : file_of (name_in s) (length_in s) n (bodies_in s) ≡ s
  unfolding file_of bodies_in
  file-taken =
      let there : 3 + n * (8 + said) ≡ end_in s = omega arith in
      rw needed
      (sym
      (piece_then 0 1 s (form_for (length_in s) n ∷ []) _ first_byte
      (piece_then 1 2 s (digits_of 2 n) _ two_digits
      (piece_then 3 (n * (8 + said)) s (joined (entry_of said (name_in s) (length_in s)) n) (drop (end_in s) s) all-entries (ap (λ (a : ℕ). drop a s) there)))))
