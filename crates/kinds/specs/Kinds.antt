-- The file kinds: each is a form with its own name and numbers.
use Rattle.std.specs.Prelude.{ℕ, Bool, true, false, cond, List, [], ◌∷◌, eqb, ltb, length, get_or, Option, Some, None}
use Rattle.laws.specs.Least.{least}
use Rattle.kinds.specs.declared.of_files.Form.{Form}
use Rattle.kinds.specs.declared.of_files.Form.TheVariants.{EnrolmentRequest, EnrolmentResult, DebitRequest, DebitResult, BankEnrolment}
use Rattle.kinds.specs.declared.of_files.Own.{Own}
use Rattle.kinds.specs.declared.of_files.Kind.{Kind}
use Rattle.kinds.specs.declared.of_files.Fixed.{Fixed}

-- the most data records that a file may have
abbrev pub limit : ℕ
limit = 2000

-- bytes of items 1 to 3, with which every data record begins; a body is what follows
abbrev pub front : ℕ
front = 19

-- what a kind has of its own: its four letters as one number, and the least amount that may be asked
abbrev pub own : ℕ → ℕ → Own
own name least = record { name = name; least = least }

abbrev pub own_eb11 : Own
own_eb11 = own 0x45423131 0

abbrev pub own_eb13 : Own
own_eb13 = own 0x45423133 0

abbrev pub own_eb14 : Own
own_eb14 = own 0x45423134 0

abbrev pub own_eb21 : Own
own_eb21 = own 0x45423231 140

abbrev pub own_eb22 : Own
own_eb22 = own 0x45423232 0

abbrev pub own_ec21 : Own
own_ec21 = own 0x45433231 300

abbrev pub own_ec22 : Own
own_ec22 = own 0x45433232 0

-- a form with it
abbrev pub kind : Form → Own → Kind
kind form o = record { form = form; own = o }

abbrev pub EB11 : Kind
EB11 = kind BankEnrolment own_eb11

abbrev pub EB13 : Kind
EB13 = kind EnrolmentRequest own_eb13

abbrev pub EB14 : Kind
EB14 = kind EnrolmentResult own_eb14

abbrev pub EB21 : Kind
EB21 = kind DebitRequest own_eb21

abbrev pub EB22 : Kind
EB22 = kind DebitResult own_eb22

abbrev pub EC21 : Kind
EC21 = kind DebitRequest own_ec21

abbrev pub EC22 : Kind
EC22 = kind DebitResult own_ec22

-- all kinds
unfoldable pub kinds : List Kind
kinds = EB11 ∷ EB13 ∷ EB14 ∷ EB21 ∷ EB22 ∷ EC21 ∷ EC22 ∷ []

-- records of 120 bytes, bodies of 101; the key is items 5 and 6, reported as item 6; headers agree in items 3 and 5
abbrev pub enrolment : Bool → Bool → Fixed
enrolment written daily =
    record { size = 120; body = 101; key = record { item = 6; start = 25; size = 21 }; item6 = 0; item7 = 0; mark = 91; agreed = 2; written = written; daily = daily }

-- records of 150 bytes, bodies of 131; the key is items 11 and 12, reported as item 11; headers agree in items 6 and 7 too
abbrev pub debit : Bool → Fixed
debit written =
    record { size = 150; body = 131; key = record { item = 11; start = 91; size = 25 }; item6 = 7; item7 = 16; mark = 68; agreed = 4; written = written; daily = true }

-- the fixed numbers of each form; requests are written, and what a bank enrolled goes into no day file
abbrev pub fixed_for : Form → Fixed
fixed_for EnrolmentRequest = enrolment true true
fixed_for EnrolmentResult = enrolment false true
fixed_for DebitRequest = debit true
fixed_for DebitResult = debit false
fixed_for BankEnrolment = enrolment false false

abbrev pub fixed_of : Kind → Fixed
fixed_of k = fixed_for k.form

-- kind i of them, none past the last, and whether it has this name
abbrev pub no_kind : Kind
no_kind = kind EnrolmentRequest (own 0 0)

unfoldable pub kind_from : ℕ → Option Kind
kind_from i = cond (ltb i (length kinds)) (Some (get_or kinds i no_kind)) None

unfoldable pub name_is : ℕ → ℕ → Bool
name_is n i = eqb (get_or kinds i no_kind).own.name n

-- the kind that a number names; every other number is an unknown kind
unfoldable pub kind_of : ℕ → Option Kind
kind_of n = kind_from (least (name_is n) (length kinds))

-- the same of kinds of which a test of their numbers holds: every other number is none of them
abbrev pub whose : (Fixed → Bool) → Option Kind → Option Kind
whose p (Some k) = cond (p (fixed_of k)) (Some k) None
whose p None = None

-- of kinds that are written
unfoldable pub request_of : ℕ → Option Kind
request_of n = whose (λ f. f.written) (kind_of n)

-- of kinds that go into a day file
unfoldable pub daily_of : ℕ → Option Kind
daily_of n = whose (λ f. f.daily) (kind_of n)
