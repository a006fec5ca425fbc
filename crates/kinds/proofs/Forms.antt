-- One computed test over all forms, over every record of each, or over both families, turned into the rule at each.
-- Assumes nothing.
use mathlib.Core.Bool.{Bool, true, ◌&&◌}
use mathlib.Core.Path.{◌≡◌}
use Rattle.laws.proofs.Bools.{and_left, and_right}
use Rattle.kinds.specs.declared.of_files.Form.{Form}
use Rattle.kinds.specs.declared.of_files.Form.TheVariants.{EnrolmentRequest, EnrolmentResult, DebitRequest, DebitResult, BankEnrolment}
use Rattle.kinds.specs.declared.of_files.Role.{Role}
use Rattle.kinds.specs.declared.of_files.Role.TheVariants.{Header, Data, Trailer}
use Rattle.kinds.specs.declared.of_pairs.Family.{Family}
use Rattle.kinds.specs.declared.of_pairs.Family.TheVariants.{Enrolment, Debit}

-- the test holds of every form
abbrev every_paired : (Form → Bool) → Bool
every_paired p = (p EnrolmentRequest && p EnrolmentResult) && (p DebitRequest && p DebitResult)

abbrev pub every_form : (Form → Bool) → Bool
every_form p = every_paired p && p BankEnrolment

of-paired : (p : Form → Bool) → every_form p ≡ true → every_paired p ≡ true
of-paired p = and_left (every_paired p) (p BankEnrolment)

of-enrolment : (p : Form → Bool) → every_form p ≡ true → (p EnrolmentRequest && p EnrolmentResult) ≡ true
of-enrolment p t = and_left (p EnrolmentRequest && p EnrolmentResult) (p DebitRequest && p DebitResult) (of-paired p t)

of-debit : (p : Form → Bool) → every_form p ≡ true → (p DebitRequest && p DebitResult) ≡ true
of-debit p t = and_right (p EnrolmentRequest && p EnrolmentResult) (p DebitRequest && p DebitResult) (of-paired p t)

pub of-form : (p : Form → Bool) → every_form p ≡ true → (f : Form) → p f ≡ true
of-form p t EnrolmentRequest = and_left (p EnrolmentRequest) (p EnrolmentResult) (of-enrolment p t)
of-form p t EnrolmentResult = and_right (p EnrolmentRequest) (p EnrolmentResult) (of-enrolment p t)
of-form p t DebitRequest = and_left (p DebitRequest) (p DebitResult) (of-debit p t)
of-form p t DebitResult = and_right (p DebitRequest) (p DebitResult) (of-debit p t)
of-form p t BankEnrolment = and_right (every_paired p) (p BankEnrolment) t

-- it holds of every record of every form
abbrev pub every_role : (Role → Bool) → Bool
every_role p = p Header && (p Data && p Trailer)

of-role : (p : Role → Bool) → every_role p ≡ true → (role : Role) → p role ≡ true
of-role p t Header = and_left (p Header) (p Data && p Trailer) t
of-role p t Data = and_left (p Data) (p Trailer) (and_right (p Header) (p Data && p Trailer) t)
of-role p t Trailer = and_right (p Data) (p Trailer) (and_right (p Header) (p Data && p Trailer) t)

abbrev pub every_record : (Form → Role → Bool) → Bool
every_record p = every_form (λ f. every_role (p f))

pub of-record : (p : Form → Role → Bool) → every_record p ≡ true → (f : Form) (role : Role) → p f role ≡ true
of-record p t f role = of-role (p f) (of-form (λ g. every_role (p g)) t f) role

-- it holds of both families
abbrev pub every_family : (Family → Bool) → Bool
every_family p = p Enrolment && p Debit

pub of-family : (p : Family → Bool) → every_family p ≡ true → (f : Family) → p f ≡ true
of-family p t Enrolment = and_left (p Enrolment) (p Debit) t
of-family p t Debit = and_right (p Enrolment) (p Debit) t
