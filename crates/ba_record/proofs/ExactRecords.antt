-- Records are read back from their codings.
use Rattle.std.proofs.Common.{◌≡◌, ℕ, suc, ◌+◌, ◌-◌, ◌^◌, ◌<◌, ◌≤◌, Bool, true, false, cond, ◌&&◌, nat_le, nat_eq, Option, None, Some, Ok}
use Rattle.std.proofs.Common.{Err, List, [], ◌∷◌, ◌++◌, length, take, drop, ap, refl, sym, ◌∙◌, subst, append_assoc, append-nil, arith}
use Rattle.std.proofs.Common.{length-append}
use Rattle.ba_message.specs.Endpoints.{fits_endpoint}
use Rattle.ba_message.specs.declared.endpoints.TheConstants.{MOST_ENDPOINT_BYTES}
use Rattle.ba_message.proofs.FitTests.{fits_by_tests, tests_by_fits}
use Rattle.std.proofs.lemmas.Bool.{leb-true, le-leb, cond_both, eqb-true, eqb-false}
use Rattle.std.proofs.lemmas.List.{take-append-drop}
use Rattle.std.proofs.Math.Seq.{take-append-add, drop-append-add, drop-append_seam}
use Rattle.std.specs.Cmp.{first_so, second_so}
use Rattle.std.specs.Int.{w32, w64, to_le_bytes}
use Rattle.ba_core.specs.declared.notices.Act.{Act}
use Rattle.ba_core.specs.declared.notices.Act.TheVariants as act
use Rattle.ba_core.specs.declared.notices.Notice.{Notice}
use Rattle.ba_core.specs.declared.notices.Notice.TheVariants as notice
use Rattle.ba_core.specs.declared.protocols.Kind.{Kind}
use Rattle.ba_core.specs.declared.protocols.Kind.TheVariants.{Atomic, Mixed}
use Rattle.ba_core.specs.declared.protocols.Protocol.{Protocol}
use Rattle.ba_core.specs.declared.protocols.Protocol.TheVariants.{Pc, Cc}
use Rattle.ba_core.specs.declared.protocols.Verdict.{Verdict}
use Rattle.ba_core.specs.declared.protocols.Verdict.TheVariants.{Close, Undo}
use Rattle.ba_message.specs.declared.endpoints.Epr.{Epr}
use Rattle.ba_message.specs.Endpoints.{Fits}
use Rattle.ba_core.specs.Messages.{notice_code}
use Rattle.ba_record.specs.declared.records.Record.{Record}
use Rattle.ba_record.specs.declared.records.Record.TheVariants.{Node, Scope, End, Part, Enrolled, Refused, Received, Acted, Decided, Chosen}
use Rattle.ba_record.specs.declared.records.Record.TheVariants.{Ticked, Asked}
use Rattle.ba_record.specs.declared.records.RecordFault.TheVariants.{BadKind}
use Rattle.ba_record.specs.declared.records.RecordFault.{RecordFault}
use Rattle.ba_record.specs.declared.records.RecordFault.TheVariants as fault
use Rattle.ba_record.specs.Endpoints.{IsBase, is_base}
use Rattle.ba_record.specs.Coding.{coding, InRange, IsCounter, IsFrom1, IsDeadline, IsUpward, counter_coding, string_coding, option_coding}
use Rattle.ba_record.specs.Coding.{upward_coding, endpoint_coding, kind_code, protocol_code, verdict_code, act_code}
use Rattle.ba_record.specs.Reading.{IsBytes, Reading, read, bad, short, onward, tested, of_front, read_any_endpoint, read_endpoint}
use Rattle.ba_record.specs.Reading.{read_upward, read_kind, read_protocol, read_verdict, read_act, read_notice, read_from_1, read_counter}
use Rattle.ba_record.specs.Reading.{read_node_number, read_base, read_option, read_number, read_node, read_scope, read_end, read_part}
use Rattle.ba_record.specs.Reading.{read_enrolled, read_refused, read_received, read_acted, read_decided, read_chosen, read_ticked}
use Rattle.ba_record.specs.Reading.{read_asked, read_record, is_kind, whole, reading, told, ReadsTo, plain_notices, with_code}
use Rattle.ba_record.proofs.Exact.{IsExact, went, exact_byte, exact_32, exact_64, exact_string, exact_pair, exact_tested, exact_coded}
use Rattle.ba_record.proofs.Exact.{exact_option, IsString, IfThere, passed, passes, digits_are, before, goes_on}
use Rattle.ba_record.proofs.Lengths.{endpoint_length_is}
use Rattle.ba_record.proofs.ExactTrees.{exact_any_endpoint}
use Rattle.ba_record.proofs.Bases.{base_by_tests, tests_by_base}
use Rattle.ba_record.proofs.Fitting.{in_its_ranges}

-- ---- the same coding and another range

widened : {A : Type 0} {f : List ℕ → Reading A} {c : A → List ℕ} {R S : A → Type 0} → IsExact f c R → ((a : A) → R a → S a)
    → ((a : A) → S a → R a) → IsExact f c S
widened exact to from = record {
  sound = λ bytes rest a are e. let here = exact.sound bytes rest a are e in (to a here.0, here.1);
  complete = λ a rest in_range. exact.complete a rest (from a in_range);
}

-- ---- fields

exact_counter : IsExact read_counter counter_coding IsCounter
exact_counter = widened (exact_tested exact_64 (nat_le 1)) (λ n is. (leb-true 1 n is.1, is.0)) (λ n is. (is.1, le-leb 1 n is.0))

exact_node_number : IsExact read_node_number (to_le_bytes w32) (λ n. (1 ≤ n) × (n < 2 ^ 32))
exact_node_number = widened (exact_tested exact_32 (nat_le 1)) (λ n is. (leb-true 1 n is.1, is.0)) (λ n is. (is.1, le-leb 1 n is.0))

both_true : (a b : Bool) → a ≡ true → b ≡ true → (a && b) ≡ true
both_true a b ha hb = rw (ha, hb) refl

exact_from_1 : (greatest : ℕ) → greatest < 256 → IsExact (read_from_1 greatest) (λ n. n ∷ []) (IsFrom1 greatest)
exact_from_1 greatest small = widened (exact_tested exact_byte (λ n. nat_le 1 n && nat_le n greatest))
    (λ n is. (
      leb-true 1 n (first_so (nat_le 1 n) (nat_le n greatest) is.1),
      leb-true n greatest
          (second_so (nat_le 1 n) (nat_le n greatest) is.1),
    ))
    (λ n is. (omega (arith, is.1), both_true (nat_le 1 n) (nat_le n greatest) (le-leb 1 n is.0) (le-leb n greatest is.1)))

abbrev any : {A : Type 0} → A → Type 0
any a = Unit {0}

kind_found : (k : Kind) → (kind_code k < 256) × (with_code kind_code (Atomic ∷ Mixed ∷ []) (kind_code k) ≡ Some k)
kind_found Atomic = (omega arith, refl)
kind_found Mixed = (omega arith, refl)

protocol_found : (p : Protocol) → (protocol_code p < 256) × (with_code protocol_code (Pc ∷ Cc ∷ []) (protocol_code p) ≡ Some p)
protocol_found Pc = (omega arith, refl)
protocol_found Cc = (omega arith, refl)

verdict_found : (v : Verdict) → (verdict_code v < 256) × (with_code verdict_code (Close ∷ Undo ∷ []) (verdict_code v) ≡ Some v)
verdict_found Close = (omega arith, refl)
verdict_found Undo = (omega arith, refl)

abbrev acts : List Act
acts = act.Completed ∷ act.Closed ∷ act.Canceled ∷ act.Compensated ∷ act.Fail ∷ act.Exit ∷ act.CannotComplete ∷ []

act_found : (a : Act) → (act_code a < 256) × (with_code act_code acts (act_code a) ≡ Some a)
act_found act.Completed = (omega arith, refl)
act_found act.Closed = (omega arith, refl)
act_found act.Canceled = (omega arith, refl)
act_found act.Compensated = (omega arith, refl)
act_found act.Fail = (omega arith, refl)
act_found act.Exit = (omega arith, refl)
act_found act.CannotComplete = (omega arith, refl)

notice_found : (n : Notice) → IsFrom1 15 (notice_code n) → (notice_code n < 256)
    × (with_code notice_code plain_notices (notice_code n) ≡ Some n)
notice_found notice.Complete is = (omega arith, refl)
notice_found notice.Close is = (omega arith, refl)
notice_found notice.Cancel is = (omega arith, refl)
notice_found notice.Compensate is = (omega arith, refl)
notice_found notice.Failed is = (omega arith, refl)
notice_found notice.Exited is = (omega arith, refl)
notice_found notice.NotCompleted is = (omega arith, refl)
notice_found notice.Completed is = (omega arith, refl)
notice_found notice.Closed is = (omega arith, refl)
notice_found notice.Canceled is = (omega arith, refl)
notice_found notice.Compensated is = (omega arith, refl)
notice_found notice.Fail is = (omega arith, refl)
notice_found notice.Exit is = (omega arith, refl)
notice_found notice.CannotComplete is = (omega arith, refl)
notice_found notice.GetStatus is = (omega arith, refl)
notice_found (notice.Status name) is = absurd (omega (arith, is.1))

notice_in_range : (n : Notice) → with_code notice_code plain_notices (notice_code n) ≡ Some n → IsFrom1 15 (notice_code n)
notice_in_range notice.Complete e = (omega arith, omega arith)
notice_in_range notice.Close e = (omega arith, omega arith)
notice_in_range notice.Cancel e = (omega arith, omega arith)
notice_in_range notice.Compensate e = (omega arith, omega arith)
notice_in_range notice.Failed e = (omega arith, omega arith)
notice_in_range notice.Exited e = (omega arith, omega arith)
notice_in_range notice.NotCompleted e = (omega arith, omega arith)
notice_in_range notice.Completed e = (omega arith, omega arith)
notice_in_range notice.Closed e = (omega arith, omega arith)
notice_in_range notice.Canceled e = (omega arith, omega arith)
notice_in_range notice.Compensated e = (omega arith, omega arith)
notice_in_range notice.Fail e = (omega arith, omega arith)
notice_in_range notice.Exit e = (omega arith, omega arith)
notice_in_range notice.CannotComplete e = (omega arith, omega arith)
notice_in_range notice.GetStatus e = (omega arith, omega arith)
notice_in_range (notice.Status name) e = absurd (cc)

exact_kind : IsExact read_kind (λ k. kind_code k ∷ []) any
exact_kind = widened (exact_coded kind_code (Atomic ∷ Mixed ∷ [])) (λ k is. tt) (λ k is. kind_found k)

exact_protocol : IsExact read_protocol (λ p. protocol_code p ∷ []) any
exact_protocol = widened (exact_coded protocol_code (Pc ∷ Cc ∷ [])) (λ p is. tt) (λ p is. protocol_found p)

exact_verdict : IsExact read_verdict (λ v. verdict_code v ∷ []) any
exact_verdict = widened (exact_coded verdict_code (Close ∷ Undo ∷ [])) (λ v is. tt) (λ v is. verdict_found v)

exact_act : IsExact read_act (λ a. act_code a ∷ []) any
exact_act = widened (exact_coded act_code acts) (λ a is. tt) (λ a is. act_found a)

exact_notice : IsExact read_notice (λ n. notice_code n ∷ []) (λ n. IsFrom1 15 (notice_code n))
exact_notice = widened (exact_coded notice_code plain_notices) (λ n is. notice_in_range n is.1) notice_found

-- ---- endpoints

length_of_endpoint : (e : Epr) → Fits e → length (endpoint_coding e) ≤ 4096
length_of_endpoint e fits = let size = fits.size in let long = endpoint_length_is e in omega arith

pub exact_endpoint : IsExact read_endpoint endpoint_coding Fits
exact_endpoint = record { sound = sound; complete = complete }
  where
    front_sound : (bytes rest : List ℕ) (e : Epr) → IsBytes (take MOST_ENDPOINT_BYTES bytes) → (r : Reading Epr)
        → read_any_endpoint (take MOST_ENDPOINT_BYTES bytes) ≡ r
        → of_front bytes r ≡ read e rest → Fits e × (bytes ≡ endpoint_coding e ++ rest)
    front_sound bytes rest e are (read a more) is on =
        let here = exact_any_endpoint.sound (take MOST_ENDPOINT_BYTES bytes) more a are is in
        let q = passed fits_endpoint a e bytes (more ++ drop MOST_ENDPOINT_BYTES bytes) rest on in (
          fits_by_tests e q.0,
          sym (take-append-drop MOST_ENDPOINT_BYTES bytes) ∙ ap (λ (xs : List ℕ). xs ++ drop MOST_ENDPOINT_BYTES bytes) here.1
              ∙ append_assoc (endpoint_coding a) more (drop MOST_ENDPOINT_BYTES bytes) ∙ (λ i. endpoint_coding (q.1.0 i) ++ q.1.1 i),
        )
    front_sound bytes rest e are (bad from) is on = absurd (cc)
    front_sound bytes rest e are short is on =
        cond_both (nat_le MOST_ENDPOINT_BYTES (length bytes)) (bad bytes) short
        (λ r. r ≡ read e rest → Fits e × (bytes ≡ endpoint_coding e ++ rest)) (λ t no. absurd (cc)) (λ t no. absurd (cc)) on

    sound : (bytes rest : List ℕ) (e : Epr) → IsBytes bytes → read_endpoint bytes ≡ read e rest → Fits e
        × (bytes ≡ endpoint_coding e ++ rest)
    sound bytes rest e are is =
        front_sound bytes rest e
        (digits_are bytes (take MOST_ENDPOINT_BYTES bytes) (drop MOST_ENDPOINT_BYTES bytes) are
        (sym (take-append-drop MOST_ENDPOINT_BYTES bytes))) (read_any_endpoint (take MOST_ENDPOINT_BYTES bytes)) refl is

    complete : (e : Epr) (rest : List ℕ) → Fits e → read_endpoint (endpoint_coding e ++ rest) ≡ read e rest
    complete e rest fits =
        let long = length_of_endpoint e fits in
        let k = 4096 - length (endpoint_coding e) in
        let whole : MOST_ENDPOINT_BYTES ≡ length (endpoint_coding e) + k = omega arith in
        let bytes = endpoint_coding e ++ rest in
        let front : take MOST_ENDPOINT_BYTES bytes ≡ endpoint_coding e ++ take k rest =
        ap (λ (n : ℕ). take n bytes) whole ∙ take-append-add (endpoint_coding e) rest k in
        let behind : drop MOST_ENDPOINT_BYTES bytes ≡ drop k rest =
        ap (λ (n : ℕ). drop n bytes) whole ∙ drop-append-add (endpoint_coding e) rest k in
        ap (λ (xs : List ℕ). of_front bytes (read_any_endpoint xs)) front
        ∙ ap (of_front bytes) (exact_any_endpoint.complete e (take k rest) (in_its_ranges e fits))
        ∙ passes fits_endpoint e bytes (take k rest ++ drop MOST_ENDPOINT_BYTES bytes) (tests_by_fits e fits)
        ∙ ap (λ (xs : List ℕ). read e xs) (ap (λ (xs : List ℕ). take k rest ++ xs) behind ∙ take-append-drop k rest)

exact_upward : IsExact read_upward upward_coding (λ upward. any upward.0 × Fits upward.1)
exact_upward = exact_pair exact_protocol exact_endpoint (λ protocol registration. (protocol, registration))
    (λ (u : Protocol × Epr). u.0) (λ (u : Protocol × Epr). u.1) (λ u. refl) (λ a b. refl) (λ a b. refl)

upward_to : (o : Option (Protocol × Epr)) → IfThere (λ upward. any upward.0 × Fits upward.1) o → IsUpward o
upward_to None is = tt
upward_to (Some upward) is = is.1

upward_from : (o : Option (Protocol × Epr)) → IsUpward o → IfThere (λ upward. any upward.0 × Fits upward.1) o
upward_from None is = tt
upward_from (Some upward) is = (tt, is)

exact_upward_option : IsExact (read_option read_upward) (option_coding upward_coding) IsUpward
exact_upward_option = widened (exact_option exact_upward) upward_to upward_from

deadline_to : (o : Option ℕ) → IfThere (λ n. n < 2 ^ 64) o → IsDeadline o
deadline_to None is = tt
deadline_to (Some n) is = is

deadline_from : (o : Option ℕ) → IsDeadline o → IfThere (λ n. n < 2 ^ 64) o
deadline_from None is = tt
deadline_from (Some n) is = is

exact_deadline : IsExact (read_option (read_number w64)) (option_coding (to_le_bytes w64)) IsDeadline
exact_deadline = widened (exact_option exact_64) deadline_to deadline_from

-- a base has at most 1,024 bytes
base_is_short : (base : List ℕ) → IsBase base → IsString base
base_is_short base is = let short = is.dialable.short in omega arith

exact_base : IsExact read_base string_coding IsBase
exact_base = widened (exact_tested exact_string is_base) (λ base is. base_by_tests base is.1)
    (λ base is. (base_is_short base is, tests_by_base base is))

-- ---- the fields of each kind

-- the last field of a record
record Last {B : Type 0} (d : B → List ℕ) (S : B → Type 0) (make : B → Record) (bytes rest : List ℕ) (r : Record) : Type 0 where
  value : B
  in_range : S value
  spelled : bytes ≡ d value ++ rest
  made : make value ≡ r

last : {B : Type 0} {g : List ℕ → Reading B} {d : B → List ℕ} {S : B → Type 0} (exact : IsExact g d S) (make : B → Record)
    (bytes rest : List ℕ) (r : Record)
    → IsBytes bytes → onward (g bytes) (λ b after. read (make b) after) ≡ read r rest → Last d S make bytes rest r
last {d = d} exact make bytes rest r are e =
    let p = went exact (λ b after. read (make b) after) bytes r rest are e in
    let on : read (make p.value) p.rest ≡ read r rest = p.on in
    let same : make p.value ≡ r = cc in
    let after : p.rest ≡ rest = cc in
    record { value = p.value; in_range = p.in_range; spelled = p.spelled ∙ ap (λ (xs : List ℕ). d p.value ++ xs) after; made = same }

abbrev SoundAt : ℕ → (List ℕ → Reading Record) → Type 0
SoundAt kind f = (bytes rest : List ℕ) (r : Record) → IsBytes bytes → f bytes ≡ read r rest → InRange r × (kind ∷ bytes ≡ coding r ++ rest)

abbrev IsTold : ℕ → List ℕ → List ℕ → Record → Type 0
IsTold kind bytes rest r = InRange r × (kind ∷ bytes ≡ coding r ++ rest)

sound_node : SoundAt 1 read_node
sound_node bytes rest r are e =
    let p0 = went exact_node_number _ bytes r rest are e in
    let l = last exact_base (λ x. Node p0.value x) p0.rest rest r p0.are_bytes p0.on in
    subst (IsTold 1 bytes rest) l.made (
      (p0.in_range, l.in_range),
      ap (λ (xs : List ℕ). 1 ∷ xs)
          (p0.spelled ∙ ap (λ (xs : List ℕ). to_le_bytes w32 p0.value ++ xs) l.spelled),
    )

sound_scope : SoundAt 2 read_scope
sound_scope bytes rest r are e =
    let p0 = went exact_counter _ bytes r rest are e in
    let p1 = went exact_kind _ p0.rest r rest p0.are_bytes p0.on in
    let p2 = went exact_deadline _ p1.rest r rest p1.are_bytes p1.on in
    let l = last exact_upward_option (λ x. Scope p0.value p1.value p2.value x) p2.rest rest r p2.are_bytes p2.on in
    subst (IsTold 2 bytes rest) l.made (
      (p0.in_range, (p2.in_range, l.in_range)),
      ap (λ (xs : List ℕ). 2 ∷ xs) (p0.spelled ∙ ap (λ (xs : List ℕ). counter_coding p0.value ++ xs)
          (p1.spelled ∙ ap (λ (xs : List ℕ). kind_code p1.value ∷ xs)
          (p2.spelled ∙ ap (λ (xs : List ℕ). option_coding (to_le_bytes w64) p2.value ++ xs) l.spelled
          ∙ sym (append_assoc (option_coding (to_le_bytes w64) p2.value) (option_coding upward_coding l.value) rest)))),
    )

sound_end : SoundAt 3 read_end
sound_end bytes rest r are e =
    let p0 = went exact_counter _ bytes r rest are e in
    let p1 = went exact_counter _ p0.rest r rest p0.are_bytes p0.on in
    let p2 = went exact_protocol _ p1.rest r rest p1.are_bytes p1.on in
    let l = last exact_endpoint (λ x. End p0.value p1.value p2.value x) p2.rest rest r p2.are_bytes p2.on in
    subst (IsTold 3 bytes rest) l.made (
      (p0.in_range, (p1.in_range, l.in_range)),
      ap (λ (xs : List ℕ). 3 ∷ xs)
          (p0.spelled
          ∙ ap (λ (xs : List ℕ). counter_coding p0.value ++ xs)
          (p1.spelled
          ∙ ap (λ (xs : List ℕ). counter_coding p1.value ++ xs)
          (p2.spelled ∙ ap (λ (xs : List ℕ). protocol_code p2.value ∷ xs) l.spelled))),
    )

sound_part : SoundAt 4 read_part
sound_part bytes rest r are e =
    let p0 = went exact_counter _ bytes r rest are e in
    let p1 = went exact_protocol _ p0.rest r rest p0.are_bytes p0.on in
    let l = last exact_endpoint (λ x. Part p0.value p1.value x) p1.rest rest r p1.are_bytes p1.on in
    subst (IsTold 4 bytes rest) l.made (
      (p0.in_range, l.in_range),
      ap (λ (xs : List ℕ). 4 ∷ xs)
          (p0.spelled
          ∙ ap (λ (xs : List ℕ). counter_coding p0.value ++ xs)
          (p1.spelled ∙ ap (λ (xs : List ℕ). protocol_code p1.value ∷ xs) l.spelled)),
    )

sound_enrolled : SoundAt 5 read_enrolled
sound_enrolled bytes rest r are e =
    let p0 = went exact_counter _ bytes r rest are e in
    let l = last exact_endpoint (λ x. Enrolled p0.value x) p0.rest rest r p0.are_bytes p0.on in
    subst (IsTold 5 bytes rest) l.made (
      (p0.in_range, l.in_range),
      ap (λ (xs : List ℕ). 5 ∷ xs)
          (p0.spelled ∙ ap (λ (xs : List ℕ). counter_coding p0.value ++ xs) l.spelled),
    )

sound_refused : SoundAt 6 read_refused
sound_refused bytes rest r are e =
    let p0 = went exact_counter _ bytes r rest are e in
    let l = last (exact_from_1 2 (omega arith)) (λ x. Refused p0.value x) p0.rest rest r p0.are_bytes p0.on in
    subst (IsTold 6 bytes rest) l.made (
      (p0.in_range, l.in_range),
      ap (λ (xs : List ℕ). 6 ∷ xs)
          (p0.spelled ∙ ap (λ (xs : List ℕ). counter_coding p0.value ++ xs) l.spelled),
    )

sound_received : SoundAt 7 read_received
sound_received bytes rest r are e =
    let p0 = went exact_counter _ bytes r rest are e in
    let l = last exact_notice (λ x. Received p0.value x) p0.rest rest r p0.are_bytes p0.on in
    subst (IsTold 7 bytes rest) l.made (
      (p0.in_range, l.in_range),
      ap (λ (xs : List ℕ). 7 ∷ xs)
          (p0.spelled ∙ ap (λ (xs : List ℕ). counter_coding p0.value ++ xs) l.spelled),
    )

sound_acted : SoundAt 8 read_acted
sound_acted bytes rest r are e =
    let p0 = went exact_counter _ bytes r rest are e in
    let l = last exact_act (λ x. Acted p0.value x) p0.rest rest r p0.are_bytes p0.on in
    subst (IsTold 8 bytes rest) l.made
    (p0.in_range, ap (λ (xs : List ℕ). 8 ∷ xs) (p0.spelled ∙ ap (λ (xs : List ℕ). counter_coding p0.value ++ xs) l.spelled))

sound_decided : SoundAt 9 read_decided
sound_decided bytes rest r are e =
    let p0 = went exact_counter _ bytes r rest are e in
    let l = last exact_verdict (λ x. Decided p0.value x) p0.rest rest r p0.are_bytes p0.on in
    subst (IsTold 9 bytes rest) l.made
    (p0.in_range, ap (λ (xs : List ℕ). 9 ∷ xs) (p0.spelled ∙ ap (λ (xs : List ℕ). counter_coding p0.value ++ xs) l.spelled))

sound_chosen : SoundAt 10 read_chosen
sound_chosen bytes rest r are e =
    let p0 = went exact_counter _ bytes r rest are e in
    let l = last (exact_from_1 3 (omega arith)) (λ x. Chosen p0.value x) p0.rest rest r p0.are_bytes p0.on in
    subst (IsTold 10 bytes rest) l.made (
      (p0.in_range, l.in_range),
      ap (λ (xs : List ℕ). 10 ∷ xs)
          (p0.spelled ∙ ap (λ (xs : List ℕ). counter_coding p0.value ++ xs) l.spelled),
    )

sound_ticked : SoundAt 11 read_ticked
sound_ticked bytes rest r are e =
    let l = last exact_counter (λ x. Ticked x) bytes rest r are e in
    subst (IsTold 11 bytes rest) l.made (l.in_range, ap (λ (xs : List ℕ). 11 ∷ xs) l.spelled)

sound_asked : SoundAt 12 read_asked
sound_asked bytes rest r are e =
    let l = last exact_counter (λ x. Asked x) bytes rest r are e in
    subst (IsTold 12 bytes rest) l.made (l.in_range, ap (λ (xs : List ℕ). 12 ∷ xs) l.spelled)

-- ---- records

finished : (n : ℕ) (fields : List ℕ) (f : List ℕ → Reading Record) (r : Record) → f (fields ++ []) ≡ read r []
    → told n (onward (f fields) whole) ≡ Ok r
finished n fields f r is =
    ap (λ (xs : List ℕ). told n (onward (f xs) whole)) (sym (append-nil fields)) ∙ ap (λ (x : Reading Record). told n (onward x whole)) is

-- a record in its range is read from its coding
pub reads_back : (r : Record) → InRange r → reading (coding r) ≡ Ok r
reads_back (Node number base) is = finished (length (coding (Node number base))) (to_le_bytes w32 number ++ string_coding base) read_node
    (Node number base) (goes_on exact_node_number (λ x0 r0. onward (read_base r0) (λ x1 rest. read (Node x0 x1) rest)) number
    ((string_coding base) ++ []) is.0 (goes_on exact_base (λ x1 rest. read (Node number x1) rest) base [] is.1 refl))
reads_back (Scope counter kind deadline upward) is =
    finished (length (coding (Scope counter kind deadline upward)))
    (counter_coding counter ++ (kind_code kind ∷ (option_coding (to_le_bytes w64) deadline ++ option_coding upward_coding upward)))
    read_scope (Scope counter kind deadline upward)
    (goes_on exact_counter (λ x0 r0. onward (read_kind r0)
    (λ x1 r1. onward (read_option (read_number w64) r1)
    (λ x2 r2. onward (read_option read_upward r2) (λ x3 rest. read (Scope x0 x1 x2 x3) rest)))) counter
    (((kind_code kind ∷ []) ++ ((option_coding (to_le_bytes w64) deadline) ++ (option_coding upward_coding upward))) ++ []) is.0
    (goes_on exact_kind (λ x1 r1. onward (read_option (read_number w64) r1)
    (λ x2 r2. onward (read_option read_upward r2) (λ x3 rest. read (Scope counter x1 x2 x3) rest))) kind
    (((option_coding (to_le_bytes w64) deadline) ++ (option_coding upward_coding upward)) ++ []) tt
    (ap (λ (xs : List ℕ). onward (read_option (read_number w64) xs)
    (λ d q. onward (read_option read_upward q) (λ u rest. read (Scope counter kind d u) rest)))
    (append_assoc (option_coding (to_le_bytes w64) deadline) (option_coding upward_coding upward) [])
    ∙ goes_on exact_deadline (λ x2 r2. onward (read_option read_upward r2) (λ x3 rest. read (Scope counter kind x2 x3) rest)) deadline
    (option_coding upward_coding upward ++ []) is.1.0
    (goes_on exact_upward_option (λ x3 rest. read (Scope counter kind deadline x3) rest) upward [] is.1.1 refl))))
reads_back (End counter scope protocol participant) is =
    finished (length (coding (End counter scope protocol participant)))
    (counter_coding counter ++ (counter_coding scope ++ (protocol_code protocol ∷ endpoint_coding participant))) read_end
    (End counter scope protocol participant) (goes_on exact_counter
    (λ x0 r0. onward (read_counter r0) (λ x1 r1. onward (read_protocol r1)
    (λ x2 r2. onward (read_endpoint r2) (λ x3 rest. read (End x0 x1 x2 x3) rest)))) counter
    (((counter_coding scope) ++ ((protocol_code protocol ∷ []) ++ (endpoint_coding participant))) ++ []) is.0
    (goes_on exact_counter (λ x1 r1. onward (read_protocol r1)
    (λ x2 r2. onward (read_endpoint r2) (λ x3 rest. read (End counter x1 x2 x3) rest))) scope
    (((protocol_code protocol ∷ []) ++ (endpoint_coding participant)) ++ []) is.1.0
    (goes_on exact_protocol (λ x2 r2. onward (read_endpoint r2) (λ x3 rest. read (End counter scope x2 x3) rest)) protocol
    ((endpoint_coding participant) ++ []) tt (goes_on exact_endpoint (λ x3 rest. read (End counter scope protocol x3) rest) participant []
    is.1.1 refl))))
reads_back (Part counter protocol registration) is =
    finished (length (coding (Part counter protocol registration)))
    (counter_coding counter ++ (protocol_code protocol ∷ endpoint_coding registration)) read_part (Part counter protocol registration)
    (goes_on exact_counter (λ x0 r0. onward (read_protocol r0) (λ x1 r1. onward (read_endpoint r1) (λ x2 rest. read (Part x0 x1 x2) rest)))
    counter (((protocol_code protocol ∷ []) ++ (endpoint_coding registration)) ++ []) is.0
    (goes_on exact_protocol (λ x1 r1. onward (read_endpoint r1) (λ x2 rest. read (Part counter x1 x2) rest)) protocol
    ((endpoint_coding registration) ++ []) tt
    (goes_on exact_endpoint (λ x2 rest. read (Part counter protocol x2) rest) registration [] is.1 refl)))
reads_back (Enrolled counter coordinator) is =
    finished (length (coding (Enrolled counter coordinator))) (counter_coding counter ++ endpoint_coding coordinator) read_enrolled
    (Enrolled counter coordinator) (goes_on exact_counter (λ x0 r0. onward (read_endpoint r0) (λ x1 rest. read (Enrolled x0 x1) rest))
    counter ((endpoint_coding coordinator) ++ []) is.0
    (goes_on exact_endpoint (λ x1 rest. read (Enrolled counter x1) rest) coordinator [] is.1 refl))
reads_back (Refused counter code) is = finished (length (coding (Refused counter code))) (counter_coding counter ++ code ∷ []) read_refused
    (Refused counter code) (goes_on exact_counter (λ x0 r0. onward (read_from_1 2 r0) (λ x1 rest. read (Refused x0 x1) rest)) counter
    ((code ∷ []) ++ []) is.0 (goes_on (exact_from_1 2 (omega arith)) (λ x1 rest. read (Refused counter x1) rest) code [] is.1 refl))
reads_back (Received counter n) is = finished (length (coding (Received counter n))) (counter_coding counter ++ notice_code n ∷ [])
    read_received (Received counter n) (goes_on exact_counter (λ x0 r0. onward (read_notice r0) (λ x1 rest. read (Received x0 x1) rest))
    counter ((notice_code n ∷ []) ++ []) is.0 (goes_on exact_notice (λ x1 rest. read (Received counter x1) rest) n [] is.1 refl))
reads_back (Acted counter a) is = finished (length (coding (Acted counter a))) (counter_coding counter ++ act_code a ∷ []) read_acted
    (Acted counter a) (goes_on exact_counter (λ x0 r0. onward (read_act r0) (λ x1 rest. read (Acted x0 x1) rest)) counter
    ((act_code a ∷ []) ++ []) is (goes_on exact_act (λ x1 rest. read (Acted counter x1) rest) a [] tt refl))
reads_back (Decided counter verdict) is =
    finished (length (coding (Decided counter verdict))) (counter_coding counter ++ verdict_code verdict ∷ []) read_decided
    (Decided counter verdict) (goes_on exact_counter (λ x0 r0. onward (read_verdict r0) (λ x1 rest. read (Decided x0 x1) rest)) counter
    ((verdict_code verdict ∷ []) ++ []) is (goes_on exact_verdict (λ x1 rest. read (Decided counter x1) rest) verdict [] tt refl))
reads_back (Chosen counter choice) is = finished (length (coding (Chosen counter choice))) (counter_coding counter ++ choice ∷ [])
    read_chosen (Chosen counter choice) (goes_on exact_counter (λ x0 r0. onward (read_from_1 3 r0) (λ x1 rest. read (Chosen x0 x1) rest))
    counter ((choice ∷ []) ++ []) is.0 (goes_on (exact_from_1 3 (omega arith)) (λ x1 rest. read (Chosen counter x1) rest)
    choice [] is.1 refl))
reads_back (Ticked counter) is = finished (length (coding (Ticked counter))) (counter_coding counter) read_ticked (Ticked counter)
    (goes_on exact_counter (λ x0 rest. read (Ticked x0) rest) counter [] is refl)
reads_back (Asked counter) is = finished (length (coding (Asked counter))) (counter_coding counter) read_asked (Asked counter)
    (goes_on exact_counter (λ x0 rest. read (Asked x0) rest) counter [] is refl)

told_is : (n : ℕ) (x : Reading Record) (r : Record) → told n x ≡ Ok r → (rest : List ℕ) × (x ≡ read r rest)
told_is n (read s rest) r e = let same : s ≡ r = cc in (rest, ap (λ (y : Record). read y rest) same)
told_is n (bad from) r e = absurd (cc)
told_is n short r e = absurd (cc)

whole_is : (s r : Record) (rest out : List ℕ) → whole s rest ≡ read r out → (s ≡ r) × (rest ≡ [])
whole_is s r [] out e = let same : s ≡ r = cc in (same, refl)
whole_is s r (byte ∷ rest) out e = absurd (cc)

all_read : (x : Reading Record) (r : Record) (out : List ℕ) → onward x whole ≡ read r out → x ≡ read r []
all_read x r out e =
    let b = before x whole r out e in
    let w = whole_is b.value r b.rest out b.on in
    b.is ∙ (λ i. read (w.0 i) (w.1 i))

module _ (kind : ℕ) (bytes : List ℕ) (r : Record) (are : IsBytes bytes) where
  abbrev Told : Reading Record → Type 0
  Told x = x ≡ read r [] → IsTold kind bytes [] r

  of_kind : (k : ℕ) (f : List ℕ → Reading Record) (other : Reading Record) → SoundAt k f → (nat_eq kind k ≡ false → Told other)
      → Told (cond (nat_eq kind k) (f bytes) other)
  of_kind k f other sound next = cond_both (nat_eq kind k) (f bytes) other Told
      (λ t e. subst (λ (n : ℕ). IsTold n bytes [] r) (sym (eqb-true kind k t)) (sound bytes [] r are e)) next

  record_sound : (1 ≤ kind) → (kind ≤ 12) → Told (read_record kind bytes)
  record_sound low high =
      of_kind 1 read_node _ sound_node (λ n1.
      of_kind 2 read_scope _ sound_scope (λ n2.
      of_kind 3 read_end _ sound_end (λ n3.
      of_kind 4 read_part _ sound_part (λ n4.
      of_kind 5 read_enrolled _ sound_enrolled (λ n5.
      of_kind 6 read_refused _ sound_refused (λ n6.
      of_kind 7 read_received _ sound_received (λ n7.
      of_kind 8 read_acted _ sound_acted (λ n8.
      of_kind 9 read_decided _ sound_decided (λ n9.
      of_kind 10 read_chosen _ sound_chosen (λ n10.
      of_kind 11 read_ticked _ sound_ticked (λ n11 e.
      let g1 : 2 ≤ kind = omega (arith, eqb-false kind 1 n1) in
      let g2 : 3 ≤ kind = omega (arith, eqb-false kind 2 n2) in
      let g3 : 4 ≤ kind = omega (arith, eqb-false kind 3 n3) in
      let g4 : 5 ≤ kind = omega (arith, eqb-false kind 4 n4) in
      let g5 : 6 ≤ kind = omega (arith, eqb-false kind 5 n5) in
      let g6 : 7 ≤ kind = omega (arith, eqb-false kind 6 n6) in
      let g7 : 8 ≤ kind = omega (arith, eqb-false kind 7 n7) in
      let g8 : 9 ≤ kind = omega (arith, eqb-false kind 8 n8) in
      let g9 : 10 ≤ kind = omega (arith, eqb-false kind 9 n9) in
      let g10 : 11 ≤ kind = omega (arith, eqb-false kind 10 n10) in
      let last_kind : kind ≡ 12 = omega (arith, eqb-false kind 11 n11) in
      subst (λ (n : ℕ). IsTold n bytes [] r) (sym last_kind) (sound_asked bytes [] r are e))))))))))))

-- bytes that are read as a record are its coding, and it is in its range
pub is_coding : (bytes : List ℕ) (r : Record) → IsBytes bytes → reading bytes ≡ Ok r → InRange r × (bytes ≡ coding r)
is_coding [] r are e = absurd (cc)
is_coding (kind ∷ bytes) r are e =
    cond_both (is_kind kind) (told (length (kind ∷ bytes)) (onward (read_record kind bytes) whole)) (Err BadKind)
    (λ x. x ≡ Ok r → InRange r × (kind ∷ bytes ≡ coding r))
    (λ known h.
    let t = told_is (length (kind ∷ bytes)) (onward (read_record kind bytes) whole) r h in
    let low = leb-true 1 kind (first_so (nat_le 1 kind) (nat_le kind 12) known) in
    let high = leb-true kind 12 (second_so (nat_le 1 kind) (nat_le kind 12) known) in
    let is = record_sound kind bytes r (λ i. are (suc i)) low high (all_read (read_record kind bytes) r t.0 t.1) in
    (is.0, is.1 ∙ append-nil (coding r)))
    (λ unknown h. absurd (cc)) e

-- two records in their ranges have one coding only where they are one
pub same_record : (r s : Record) → InRange r → InRange s → coding r ≡ coding s → r ≡ s
same_record r s in_r in_s same =
    let one : Ok r ≡ Ok s = sym (reads_back r in_r) ∙ ap reading same ∙ reads_back s in_s in
    cc

-- where the bytes are a record's coding, a fault is want of memory
pub only_memory : (bytes : List ℕ) (r : Record) (why : RecordFault) → InRange r → bytes ≡ coding r → ReadsTo bytes why → why ≡ fault.Memory
only_memory bytes r fault.Memory in_range is e = refl
only_memory bytes r fault.BadKind in_range is e = let ok = ap reading is ∙ reads_back r in_range in absurd (cc)
only_memory bytes r (fault.BadField place) in_range is e = let ok = ap reading is ∙ reads_back r in_range in absurd (cc)
only_memory bytes r (fault.Short place) in_range is e = let ok = ap reading is ∙ reads_back r in_range in absurd (cc)

-- ---- for the code

-- an endpoint, read within the most bytes that it may have
pub within_front : (bytes front rest skipped : List ℕ) (e : Epr) → front ≡ take MOST_ENDPOINT_BYTES bytes → IsBytes front
    → read_any_endpoint front ≡ read e rest
    → (length rest ≤ length front)
    × ((length front ≤ length bytes)
    × (skipped ≡ drop (length front - length rest) bytes → read_endpoint bytes ≡ tested fits_endpoint bytes e skipped))
within_front bytes front rest skipped e is are on =
    let here = exact_any_endpoint.sound front rest e are on in
    let split = ap length here.1 ∙ length-append (endpoint_coding e) rest in
    let all : bytes ≡ endpoint_coding e ++ (rest ++ drop MOST_ENDPOINT_BYTES bytes) =
    sym (take-append-drop MOST_ENDPOINT_BYTES bytes) ∙ ap (λ (xs : List ℕ). xs ++ drop MOST_ENDPOINT_BYTES bytes) (sym is ∙ here.1)
    ∙ append_assoc (endpoint_coding e) rest (drop MOST_ENDPOINT_BYTES bytes) in
    let long = ap length all ∙ length-append (endpoint_coding e) (rest ++ drop MOST_ENDPOINT_BYTES bytes)
    ∙ ap (λ (n : ℕ). length (endpoint_coding e) + n) (length-append rest (drop MOST_ENDPOINT_BYTES bytes)) in
    let taken : length front - length rest ≡ length (endpoint_coding e) = omega arith in
    let behind : drop (length (endpoint_coding e)) bytes ≡ rest ++ drop MOST_ENDPOINT_BYTES bytes =
    ap (drop (length (endpoint_coding e))) all ∙ drop-append_seam (endpoint_coding e) (rest ++ drop MOST_ENDPOINT_BYTES bytes) in (
      omega arith,
      (
        omega arith,
        λ skip.
            ap (λ (xs : List ℕ). of_front bytes (read_any_endpoint xs)) (sym is) ∙ ap (of_front bytes) on
            ∙ ap (λ (xs : List ℕ). tested fits_endpoint bytes e xs) (sym behind ∙ ap (λ (n : ℕ). drop n bytes) (sym taken) ∙ sym skip),
      ),
    )
