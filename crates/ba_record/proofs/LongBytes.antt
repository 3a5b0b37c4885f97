-- More bytes than any record has are refused by their front.
use Rattle.std.proofs.Common.{◌≡◌, ◌≢◌, ◌⊎◌, inl, inr, ℕ, zero, suc, ◌+◌, ◌-◌, ◌^◌, ◌<◌, ◌≤◌, Bool, true, false, ◌&&◌, nat_le, nat_eq}
use Rattle.std.proofs.Common.{if◌then◌else◌, Option, None, Some, Ok, Err, List, [], ◌∷◌, ◌++◌, length, take, drop, refl, sym, ap, ◌∙◌}
use Rattle.std.proofs.Common.{subst, append_assoc, arith, length-append, length-drop}
use Rattle.ba_message.specs.Endpoints.{fits_endpoint}
use Rattle.ba_message.specs.declared.endpoints.TheConstants.{MOST_ENDPOINT_BYTES}
use Rattle.std.proofs.lemmas.Bool.{le-leb}
use Rattle.std.proofs.lemmas.List.{take-append-drop, take-append-le, drop-append-le, length-take-le}
use Rattle.std.specs.Int.{w16, w32, w64, from_le_bytes}
use Rattle.ba_message.specs.declared.endpoints.Epr.{Epr}
use Rattle.ba_record.specs.declared.records.Record.{Record}
use Rattle.ba_record.specs.declared.records.Record.TheVariants.{Node, Scope, End, Part, Enrolled, Refused, Received, Acted, Decided, Chosen}
use Rattle.ba_record.specs.declared.records.Record.TheVariants.{Ticked, Asked}
use Rattle.ba_record.specs.declared.records.RecordFault.TheVariants.{BadKind, BadField}
use Rattle.ba_core.specs.Messages.{notice_code}
use Rattle.ba_core.specs.declared.notices.Act.TheVariants as act
use Rattle.ba_core.specs.declared.protocols.Kind.TheVariants.{Atomic, Mixed}
use Rattle.ba_core.specs.declared.protocols.Protocol.TheVariants.{Pc, Cc}
use Rattle.ba_core.specs.declared.protocols.Verdict.TheVariants.{Close, Undo}
use Rattle.ba_record.specs.Coding.{endpoint_coding, kind_code, protocol_code, verdict_code, act_code}
use Rattle.ba_record.specs.Endpoints.{is_base}
use Rattle.ba_record.specs.Reading.{IsBytes, Reading, read, bad, short, onward, tested, found, read_byte, read_front, read_number}
use Rattle.ba_record.specs.Reading.{read_string, with_code, read_coded, read_from_1, read_counter, read_node_number, read_base, optional}
use Rattle.ba_record.specs.Reading.{read_option, read_any_endpoint, of_front, read_endpoint, read_protocol, read_kind, read_notice}
use Rattle.ba_record.specs.Reading.{read_act, read_verdict, plain_notices, read_upward, read_node, read_scope, read_end, read_part}
use Rattle.ba_record.specs.Reading.{read_enrolled, read_refused, read_received, read_acted, read_decided, read_chosen, read_ticked}
use Rattle.ba_record.specs.Reading.{read_asked, whole, read_record, is_kind, told, reading}
use Rattle.ba_record.proofs.Exact.{bytes_after, front_bytes, exact_16}
use Rattle.ba_record.proofs.ExactTrees.{exact_any_endpoint}

-- a front, and the same with more bytes behind it, are read as one value, which ends within the first n bytes
pub record ReadsAlike {A : Type 0} (n : ℕ) (front more : List ℕ) (x y : Reading A) : Type 0 where
  pub value : A
  pub rest : List ℕ
  pub here : x ≡ read value rest
  pub longer : y ≡ read value (rest ++ more)
  pub within : length front ≤ length rest + n
  pub are : IsBytes rest

-- they are bad at one place
pub record FailsAlike {A : Type 0} (more : List ℕ) (x y : Reading A) : Type 0 where
  pub from : List ℕ
  pub here : x ≡ bad from
  pub longer : y ≡ bad (from ++ more)

abbrev pub Alike : {A : Type 0} → ℕ → List ℕ → List ℕ → Reading A → Reading A → Type 0
Alike n front more x y = ReadsAlike n front more x y ⊎ FailsAlike more x y

-- a reading is decided by the first n bytes
pub record Decides {A : Type 0} (f : List ℕ → Reading A) (n : ℕ) : Type 0 where
  pub by : (front more : List ℕ) → IsBytes front → n ≤ length front → Alike n front more (f front) (f (front ++ more))

-- ---- steps

alike_behind : {A : Type 0} (n m : ℕ) (front rest more : List ℕ) (x y : Reading A) → length front ≤ length rest + n
    → Alike m rest more x y → Alike (n + m) front more x y
alike_behind n m front rest more x y within (inl r) =
    inl record { value = r.value; rest = r.rest; here = r.here; longer = r.longer; within = omega (arith, within, r.within); are = r.are }
alike_behind n m front rest more x y within (inr f) = inr f

goes_further : {A B : Type 0} (next : A → List ℕ → Reading B) (n m : ℕ) (front more : List ℕ) (x y : Reading A) → n + m ≤ length front
    → (r : ReadsAlike n front more x y) → Decides (next r.value) m → Alike (n + m) front more (onward x next) (onward y next)
goes_further next n m front more x y enough r second =
    rw (r.here, r.longer)
    (alike_behind n m front r.rest more (next r.value r.rest) (next r.value (r.rest ++ more)) r.within
    (second.by r.rest more r.are (omega (arith, r.within, enough))))

fails_further : {A B : Type 0} (next : A → List ℕ → Reading B) (k : ℕ) (front more : List ℕ) (x y : Reading A) → FailsAlike more x y
    → Alike k front more (onward x next) (onward y next)
fails_further next k front more x y f =
    inr record { from = f.from; here = ap (λ r. onward r next) f.here; longer = ap (λ r. onward r next) f.longer }

-- one after another, where the first one's value has P
onward_where : {A B : Type 0} (f : List ℕ → Reading A) (next : A → List ℕ → Reading B) (P : A → Type 0) (n m : ℕ)
    → ((bytes rest : List ℕ) (a : A) → IsBytes bytes → f bytes ≡ read a rest → P a) → Decides f n → ((a : A) → P a → Decides (next a) m)
    → Decides (λ b. onward (f b) next) (n + m)
onward_where f next P n m has first second = record {
  by = λ front more are enough. by_first front more are enough (first.by front more are (omega (arith, enough)));
}
  where
    by_first : (front more : List ℕ) → IsBytes front → n + m ≤ length front → Alike n front more (f front) (f (front ++ more))
        → Alike (n + m) front more (onward (f front) next) (onward (f (front ++ more)) next)
    by_first front more are enough (inl r) =
        goes_further next n m front more (f front) (f (front ++ more)) enough r (second r.value (has front r.rest r.value are r.here))
    by_first front more are enough (inr e) = fails_further next (n + m) front more (f front) (f (front ++ more)) e

onward_decides : {A B : Type 0} (f : List ℕ → Reading A) (next : A → List ℕ → Reading B) (n m : ℕ) → Decides f n
    → ((a : A) → Decides (next a) m) → Decides (λ b. onward (f b) next) (n + m)
onward_decides {A = A} f next n m first second =
    onward_where f next (λ (a : A). Unit {0}) n m (λ bytes rest a are is. tt) first (λ a any. second a)

ends : {A : Type 0} (a : A) → Decides (λ b. read a b) 0
ends a = record {
  by = λ front more are enough. inl record { value = a; rest = front; here = refl; longer = refl; within = omega arith; are = are };
}

more_decides : {A : Type 0} (f : List ℕ → Reading A) (n m : ℕ) → n ≤ m → Decides f n → Decides f m
more_decides f n m less first =
    record { by = λ front more are enough. by_first front more (first.by front more are (omega (arith, enough, less))) }
  where
    by_first : (front more : List ℕ) → Alike n front more (f front) (f (front ++ more)) → Alike m front more (f front) (f (front ++ more))
    by_first front more (inl r) =
        inl record { value = r.value; rest = r.rest; here = r.here; longer = r.longer; within = omega (arith, r.within, less); are = r.are }
    by_first front more (inr f) = inr f

-- a test of the value
tested_alike : {A : Type 0} (test : A → Bool) (n : ℕ) (front more : List ℕ) (a : A) (rest : List ℕ) (passes : Bool) → test a ≡ passes
    → length front ≤ length rest + n → IsBytes rest
    → Alike n front more (tested test front a rest) (tested test (front ++ more) a (rest ++ more))
tested_alike test n front more a rest true is within are =
    rw (is, tested) (inl record { value = a; rest = rest; here = refl; longer = refl; within = within; are = are })
tested_alike test n front more a rest false is within are = rw (is, tested) (inr record { from = front; here = refl; longer = refl })

tested_decides : {A : Type 0} (f : List ℕ → Reading A) (test : A → Bool) (n : ℕ) → Decides f n
    → Decides (λ b. onward (f b) (tested test b)) n
tested_decides f test n first = record { by = λ front more are enough. by_first front more (first.by front more are enough) }
  where
    by_first : (front more : List ℕ) → Alike n front more (f front) (f (front ++ more))
        → Alike n front more (onward (f front) (tested test front)) (onward (f (front ++ more)) (tested test (front ++ more)))
    by_first front more (inl r) = rw (r.here, r.longer) (tested_alike test n front more r.value r.rest (test r.value) refl r.within r.are)
    by_first front more
        (inr e) =
        inr record {
          from = e.from;
          here = ap (λ r. onward r (tested test front)) e.here;
          longer = ap (λ r. onward r (tested test (front ++ more))) e.longer;
        }

-- a value that must be there
found_alike : {A : Type 0} (n : ℕ) (front more rest : List ℕ) (there : Option A) → length front ≤ length rest + n → IsBytes rest
    → Alike n front more (found front there rest) (found (front ++ more) there (rest ++ more))
found_alike n front more rest None within are = inr record { from = front; here = refl; longer = refl }
found_alike n front more rest (Some a) within are =
    inl record { value = a; rest = rest; here = refl; longer = refl; within = within; are = are }

-- ---- numbers and strings

byte_decides : Decides read_byte 1
byte_decides = record { by = by_byte }
  where
    by_byte : (front more : List ℕ) → IsBytes front → 1 ≤ length front → Alike 1 front more (read_byte front) (read_byte (front ++ more))
    by_byte [] more are enough = absurd (omega arith)
    by_byte (b ∷ rest) more are enough =
        inl record { value = b; rest = rest; here = refl; longer = refl; within = omega arith; are = λ i. are (suc i) }

front_decides : (n : ℕ) → Decides (read_front n) n
front_decides n = record {
  by = λ front more are enough.
      let first : nat_le n (length front) ≡ true = le-leb n (length front) enough in
      let second : nat_le n (length (front ++ more)) ≡ true =
      le-leb n (length (front ++ more)) (omega (arith, enough, length-append front more)) in
      inl record {
        value = take n front;
        rest = drop n front;
        here = ap (λ t. if t then read (take n front) (drop n front) else short) first;
        longer = ap (λ t. if t then read (take n (front ++ more)) (drop n (front ++ more)) else short) second
            ∙ ap (λ xs. read xs (drop n (front ++ more))) (take-append-le n front more enough)
            ∙ ap (λ xs. read (take n front) xs) (drop-append-le n front more enough);
        within = omega (arith, enough, length-drop n front);
        are = bytes_after (take n front) (drop n front) front are (sym (take-append-drop n front));
      };
}

decides_16 : Decides (read_number w16) 2
decides_16 = onward_decides (read_front 2) (λ digits rest. read (from_le_bytes w16 digits) rest) 2 0 (front_decides 2)
    (λ digits. ends (from_le_bytes w16 digits))

decides_32 : Decides (read_number w32) 4
decides_32 = onward_decides (read_front 4) (λ digits rest. read (from_le_bytes w32 digits) rest) 4 0 (front_decides 4)
    (λ digits. ends (from_le_bytes w32 digits))

decides_64 : Decides (read_number w64) 8
decides_64 = onward_decides (read_front 8) (λ digits rest. read (from_le_bytes w64 digits) rest) 8 0 (front_decides 8)
    (λ digits. ends (from_le_bytes w64 digits))

string_decides : Decides read_string 65537
string_decides = onward_where (read_number w16) read_front (λ n. n < 2 ^ 16) 2 65535
    (λ bytes rest n are is. (exact_16.sound bytes rest n are is).0) decides_16
    (λ n small. more_decides (read_front n) n 65535 (omega (arith, small)) (front_decides n))

-- ---- fields

coded_decides : {A : Type 0} (code : A → ℕ) (values : List A) → Decides (read_coded code values) 1
coded_decides code values = record { by = by_code }
  where
    by_code : (front more : List ℕ) → IsBytes front → 1 ≤ length front
        → Alike 1 front more (read_coded code values front) (read_coded code values (front ++ more))
    by_code [] more are enough = absurd (omega arith)
    by_code (b ∷ rest) more are enough = found_alike 1 (b ∷ rest) more rest (with_code code values b) (omega arith) (λ i. are (suc i))

from_1_decides : (greatest : ℕ) → Decides (read_from_1 greatest) 1
from_1_decides greatest = tested_decides read_byte (λ n. nat_le 1 n && nat_le n greatest) 1 byte_decides

counter_decides : Decides read_counter 8
counter_decides = tested_decides (read_number w64) (nat_le 1) 8 decides_64

node_number_decides : Decides read_node_number 4
node_number_decides = tested_decides (read_number w32) (nat_le 1) 4 decides_32

base_decides : Decides read_base 65537
base_decides = tested_decides read_string is_base 65537 string_decides

option_decides : {A : Type 0} (value : List ℕ → Reading A) (n : ℕ) → Decides value n → Decides (read_option value) (1 + n)
option_decides value n first = record { by = by_option }
  where
    by_byte : (byte : ℕ) (front rest more : List ℕ) → IsBytes rest → length front ≤ length rest + 1 → 1 + n ≤ length front
        → Alike (1 + n) front more (optional value byte front rest) (optional value byte (front ++ more) (rest ++ more))
    by_byte zero front rest more are long enough =
        inl record { value = None; rest = rest; here = refl; longer = refl; within = omega (arith, long); are = are }
    by_byte (suc zero) front rest more are long enough =
        alike_behind 1 n front rest more (onward (value rest) (λ a after. read (Some a) after))
        (onward (value (rest ++ more)) (λ a after. read (Some a) after)) long
        (let some : Decides (λ b. onward (value b) (λ a after. read (Some a) after)) (n + 0) = onward_decides value
        (λ a after. read (Some a) after) n 0 first (λ a. ends (Some a)) in
        let same : n + 0 ≡ n = omega arith in
        (subst (λ (k : ℕ). Decides (λ b. onward (value b) (λ a after. read (Some a) after)) k) same some).by rest more are
        (omega (arith, long, enough)))
    by_byte (suc (suc k)) front rest more are long enough = inr record { from = front; here = refl; longer = refl }

    by_option : (front more : List ℕ) → IsBytes front → 1 + n ≤ length front
        → Alike (1 + n) front more (read_option value front) (read_option value (front ++ more))
    by_option [] more are enough = absurd (omega arith)
    by_option (b ∷ rest) more are enough = by_byte b (b ∷ rest) rest more (λ i. are (suc i)) (omega arith) enough

-- ---- endpoints

endpoint_alike : (front more : List ℕ) (x : Reading Epr) → read_any_endpoint (take MOST_ENDPOINT_BYTES front) ≡ x → IsBytes front
    → MOST_ENDPOINT_BYTES ≤ length front
    → Alike MOST_ENDPOINT_BYTES front more (of_front front x) (of_front (front ++ more) x)
endpoint_alike front more (read e rest) is are enough =
    let here = exact_any_endpoint.sound (take MOST_ENDPOINT_BYTES front) rest e (front_bytes MOST_ENDPOINT_BYTES front are) is in
    let behind : drop MOST_ENDPOINT_BYTES (front ++ more) ≡ drop MOST_ENDPOINT_BYTES front ++ more =
    drop-append-le MOST_ENDPOINT_BYTES front more enough in
    let all : front ≡ endpoint_coding e ++ (rest ++ drop MOST_ENDPOINT_BYTES front) =
    sym (take-append-drop MOST_ENDPOINT_BYTES front) ∙ ap (λ (xs : List ℕ). xs ++ drop MOST_ENDPOINT_BYTES front) here.1
    ∙ append_assoc (endpoint_coding e) rest (drop MOST_ENDPOINT_BYTES front) in
    subst (λ (xs : List ℕ). Alike MOST_ENDPOINT_BYTES front more (tested fits_endpoint front e (rest ++ drop MOST_ENDPOINT_BYTES front))
    (tested fits_endpoint (front ++ more) e xs))
    (append_assoc rest (drop MOST_ENDPOINT_BYTES front) more ∙ ap (λ (xs : List ℕ). rest ++ xs) (sym behind))
    (tested_alike fits_endpoint MOST_ENDPOINT_BYTES front more e (rest ++ drop MOST_ENDPOINT_BYTES front) (fits_endpoint e) refl
    (omega (arith, length-append rest (drop MOST_ENDPOINT_BYTES front), length-drop MOST_ENDPOINT_BYTES front))
    (bytes_after (endpoint_coding e) (rest ++ drop MOST_ENDPOINT_BYTES front) front are all))
endpoint_alike front more (bad from) is are enough = inr record { from = front; here = refl; longer = refl }
endpoint_alike front more short is are enough =
    let first : nat_le MOST_ENDPOINT_BYTES (length front) ≡ true = le-leb MOST_ENDPOINT_BYTES (length front) enough in
    let second : nat_le MOST_ENDPOINT_BYTES (length (front ++ more)) ≡ true =
    le-leb MOST_ENDPOINT_BYTES (length (front ++ more)) (omega (arith, enough, length-append front more)) in
    inr record {
      from = front;
      here = ap (λ t. if t then bad front else short) first;
      longer = ap (λ t. if t then bad (front ++ more) else short) second;
    }

endpoint_decides : Decides read_endpoint 4096
endpoint_decides = record {
  by = λ front more are enough.
      subst (λ (xs : List ℕ). Alike MOST_ENDPOINT_BYTES front more (read_endpoint front)
      (of_front (front ++ more) (read_any_endpoint xs))) (sym (take-append-le MOST_ENDPOINT_BYTES front more enough))
      (endpoint_alike front more (read_any_endpoint (take MOST_ENDPOINT_BYTES front)) refl are enough);
}

protocol_decides : Decides read_protocol 1
protocol_decides = coded_decides protocol_code (Pc ∷ Cc ∷ [])

upward_decides : Decides read_upward 4097
upward_decides = onward_decides read_protocol
    (λ protocol rest. onward (read_endpoint rest) (λ registration after. read (protocol, registration) after)) 1 4096 protocol_decides
    (λ protocol. onward_decides read_endpoint (λ registration after. read (protocol, registration) after) 4096 0 endpoint_decides
    (λ registration. ends (protocol, registration)))

-- ---- records

node_decides : Decides read_node 65541
node_decides = onward_decides read_node_number
    (λ number r. onward (read_base r) (λ base rest. read (Node number base) rest)) 4 65537 node_number_decides
    (λ number. onward_decides read_base (λ base rest. read (Node number base) rest) 65537 0 base_decides (λ base. ends (Node number base)))

scope_decides : Decides read_scope 4116
scope_decides = onward_decides read_counter
    (λ counter r. onward (read_kind r)
    (λ kind r. onward (read_option (read_number w64) r)
    (λ deadline r. onward (read_option read_upward r)
    (λ upward rest. read (Scope counter kind deadline upward) rest)))) 8 4108 counter_decides
    (λ counter. onward_decides read_kind
    (λ kind r. onward (read_option (read_number w64) r)
    (λ deadline r. onward (read_option read_upward r) (λ upward rest. read (Scope counter kind deadline upward) rest))) 1 4107
    (coded_decides kind_code (Atomic ∷ Mixed ∷ []))
    (λ kind. onward_decides (read_option (read_number w64))
    (λ deadline r. onward (read_option read_upward r) (λ upward rest. read (Scope counter kind deadline upward) rest)) 9 4098
    (option_decides (read_number w64) 8 decides_64)
    (λ deadline. onward_decides (read_option read_upward) (λ upward rest. read (Scope counter kind deadline upward) rest) 4098 0
    (option_decides read_upward 4097 upward_decides) (λ upward. ends (Scope counter kind deadline upward)))))

end_decides : Decides read_end 4113
end_decides = onward_decides read_counter
    (λ counter r. onward (read_counter r)
    (λ scope r. onward (read_protocol r)
    (λ protocol r. onward (read_endpoint r)
    (λ participant rest. read (End counter scope protocol participant) rest)))) 8 4105 counter_decides
    (λ counter. onward_decides read_counter
    (λ scope r. onward (read_protocol r)
    (λ protocol r. onward (read_endpoint r)
    (λ participant rest. read (End counter scope protocol participant) rest))) 8 4097 counter_decides
    (λ scope. onward_decides read_protocol
    (λ protocol r. onward (read_endpoint r)
    (λ participant rest. read (End counter scope protocol participant) rest)) 1 4096 protocol_decides
    (λ protocol. onward_decides read_endpoint
    (λ participant rest. read (End counter scope protocol participant) rest) 4096 0 endpoint_decides
    (λ participant. ends (End counter scope protocol participant)))))

part_decides : Decides read_part 4105
part_decides = onward_decides read_counter
    (λ counter r. onward (read_protocol r)
    (λ protocol r. onward (read_endpoint r)
    (λ registration rest. read (Part counter protocol registration) rest))) 8 4097 counter_decides
    (λ counter. onward_decides read_protocol
    (λ protocol r. onward (read_endpoint r)
    (λ registration rest. read (Part counter protocol registration) rest)) 1 4096 protocol_decides
    (λ protocol. onward_decides read_endpoint
    (λ registration rest. read (Part counter protocol registration) rest) 4096 0 endpoint_decides
    (λ registration. ends (Part counter protocol registration))))

enrolled_decides : Decides read_enrolled 4104
enrolled_decides = onward_decides read_counter
    (λ counter r. onward (read_endpoint r) (λ coordinator rest. read (Enrolled counter coordinator) rest)) 8 4096 counter_decides
    (λ counter. onward_decides read_endpoint (λ coordinator rest. read (Enrolled counter coordinator) rest) 4096 0 endpoint_decides
    (λ coordinator. ends (Enrolled counter coordinator)))

-- a counter and a field of one byte
counter_and : {A : Type 0} (field : List ℕ → Reading A) (make : ℕ → A → Record) → Decides field 1
    → Decides (λ b. onward (read_counter b) (λ counter r. onward (field r) (λ a rest. read (make counter a) rest))) 9
counter_and field make second =
    onward_decides read_counter (λ counter r. onward (field r) (λ a rest. read (make counter a) rest)) 8 1 counter_decides
    (λ counter. onward_decides field (λ a rest. read (make counter a) rest) 1 0 second (λ a. ends (make counter a)))

counter_alone : (make : ℕ → Record) → Decides (λ b. onward (read_counter b) (λ counter rest. read (make counter) rest)) 8
counter_alone make =
    onward_decides read_counter (λ counter rest. read (make counter) rest) 8 0 counter_decides (λ counter. ends (make counter))

either_decides : {A : Type 0} (test : Bool) (f g : List ℕ → Reading A) (n m k : ℕ) → n ≤ k → m ≤ k → Decides f n → Decides g m
    → Decides (λ b. if test then f b else g b) k
either_decides true f g n m k first_within second_within first second = more_decides f n k first_within first
either_decides false f g n m k first_within second_within first second = more_decides g m k second_within second

acts_decide : Decides read_act 1
acts_decide =
    coded_decides act_code (act.Completed ∷ act.Closed ∷ act.Canceled ∷ act.Compensated ∷ act.Fail ∷ act.Exit ∷ act.CannotComplete ∷ [])

abbrev late_kinds : ℕ → List ℕ → Reading Record
late_kinds kind bytes =
    if nat_eq kind 7 then read_received bytes else (
    if nat_eq kind 8 then read_acted bytes else (
    if nat_eq kind 9 then read_decided bytes else (
    if nat_eq kind 10 then read_chosen bytes else (
    if nat_eq kind 11 then read_ticked bytes else
    read_asked bytes))))

late_decide : (kind : ℕ) → Decides (late_kinds kind) 9
late_decide kind =
    let k11 = either_decides (nat_eq kind 11) read_ticked read_asked 8 8 9 (omega arith) (omega arith) (counter_alone Ticked)
    (counter_alone Asked) in
    let k10 = either_decides (nat_eq kind 10) read_chosen _ 9 9 9 (omega arith) (omega arith)
    (counter_and (read_from_1 3) Chosen (from_1_decides 3)) k11 in
    let k9 = either_decides (nat_eq kind 9) read_decided _ 9 9 9 (omega arith) (omega arith)
    (counter_and read_verdict Decided (coded_decides verdict_code (Close ∷ Undo ∷ []))) k10 in
    let k8 = either_decides (nat_eq kind 8) read_acted _ 9 9 9 (omega arith) (omega arith) (counter_and read_act Acted acts_decide) k9 in
    either_decides (nat_eq kind 7) read_received _ 9 9 9 (omega arith) (omega arith)
    (counter_and read_notice Received (coded_decides notice_code plain_notices)) k8

record_decides : (kind : ℕ) → Decides (read_record kind) 65541
record_decides kind =
    let k6 = either_decides (nat_eq kind 6) read_refused (late_kinds kind) 9 9 4104 (omega arith) (omega arith)
    (counter_and (read_from_1 2) Refused (from_1_decides 2)) (late_decide kind) in
    let k5 = either_decides (nat_eq kind 5) read_enrolled _ 4104 4104 4105 (omega arith) (omega arith) enrolled_decides k6 in
    let k4 = either_decides (nat_eq kind 4) read_part _ 4105 4105 4113 (omega arith) (omega arith) part_decides k5 in
    let k3 = either_decides (nat_eq kind 3) read_end _ 4113 4113 4116 (omega arith) (omega arith) end_decides k4 in
    let k2 = either_decides (nat_eq kind 2) read_scope _ 4116 4116 65541 (omega arith) (omega arith) scope_decides k3 in
    either_decides (nat_eq kind 1) read_node _ 65541 65541 65541 (omega arith) (omega arith) node_decides k2

-- ---- more bytes than any record has

left_over : (n : ℕ) (front rest more : List ℕ) (r : Record) → n < length front → length front ≤ length rest + n
    → FailsAlike more (whole r rest) (whole r (rest ++ more))
left_over n front [] more r longer within = absurd (omega (arith, longer, within))
left_over n front (byte ∷ rest) more r longer within = record { from = byte ∷ rest; here = refl; longer = refl }

whole_fails : (n : ℕ) (front more : List ℕ) (x y : Reading Record) → n < length front → Alike n front more x y
    → FailsAlike more (onward x whole) (onward y whole)
whole_fails n front more x y longer (inl r) = rw (r.here, r.longer) (left_over n front r.rest more r.value longer r.within)
whole_fails n front more x y longer (inr e) =
    record { from = e.from; here = ap (λ r. onward r whole) e.here; longer = ap (λ r. onward r whole) e.longer }

told_alike : (n : ℕ) (more : List ℕ) (x y : Reading Record) → FailsAlike more x y → (told (n + length more) y ≡ told n x)
    × ((r : Record) → told n x ≢ Ok r)
told_alike n more x y e =
    let bad_place : (from : List ℕ) (b : Reading Record) → b ≡ bad from → (r : Record) → told n b ≢ Ok r = λ from b is r ok. let no =
    sym (ap (told n) is) ∙ ok in cc in
    let same : n + length more - length (e.from ++ more) ≡ n - length e.from = omega (arith, length-append e.from more) in (
      ap (told (n + length more)) e.longer ∙ ap (λ (place : ℕ). Err (BadField place)) same
          ∙ sym (ap (told n) e.here),
      bad_place e.from x e.here,
    )

sorted_alike : (known : Bool) (n : ℕ) (more : List ℕ) (x y : Reading Record) → FailsAlike more x y
    → ((if known then told (n + length more) y else Err BadKind) ≡ (if known then told n x else Err BadKind))
    × ((r : Record) → (if known then told n x else Err BadKind) ≢ Ok r)
sorted_alike true n more x y e = told_alike n more x y e
sorted_alike false n more x y e = (refl, λ r ok. cc)

reading_alike : (kind : ℕ) (front more : List ℕ) → IsBytes front → 65541 < length front
    → (reading (kind ∷ (front ++ more)) ≡ reading (kind ∷ front)) × ((r : Record) → reading (kind ∷ front) ≢ Ok r)
reading_alike kind front more are longer =
    let x = onward (read_record kind front) whole in
    let y = onward (read_record kind (front ++ more)) whole in
    let alike = (record_decides kind).by front more are (omega (arith, longer)) in
    let both = sorted_alike (is_kind kind) (suc (length front)) more x y
    (whole_fails 65541 front more (read_record kind front) (read_record kind (front ++ more)) longer alike) in
    let long : suc (length (front ++ more)) ≡ suc (length front) + length more = omega (arith, length-append front more) in
    (ap (λ (n : ℕ). if is_kind kind then told n y else Err BadKind) long ∙ both.0, both.1)

pub told_by_front : (n : ℕ) (bytes : List ℕ) → 65541 < n → n < length bytes → IsBytes (take (suc n) bytes)
    → (reading bytes ≡ reading (take (suc n) bytes)) × ((r : Record) → reading bytes ≢ Ok r)
told_by_front n [] many longer are = absurd (omega arith)
told_by_front n (kind ∷ rest) many longer are =
    let front = take n rest in
    let more = drop n rest in
    let long : length front ≡ n = length-take-le n rest (omega (arith, longer)) in
    let both = reading_alike kind front more (λ i. are (suc i)) (omega (arith, long, many)) in
    let all : reading (kind ∷ rest) ≡ reading (kind ∷ (front ++ more)) =
    ap (λ (b : List ℕ). reading (kind ∷ b)) (sym (take-append-drop n rest)) in
    (all ∙ both.0, λ r ok. both.1 r (sym (all ∙ both.0) ∙ ok))
