-- Believe: what bytes are read as: one field after another, up to the first that is outside its range or that the bytes
-- don't hold whole.
use Rattle.std.specs.Prelude.{◌≡◌, ℕ, zero, suc, ◌-◌, ◌<◌, slice_index, Bool, true, false, ◌&&◌, if◌then◌else◌, nat_le, nat_eq, Option}
use Rattle.std.specs.Prelude.{None, Some, Result, Ok, Err, List, [], ◌∷◌, ◌++◌, length, take, drop}
use Rattle.ba_message.specs.Endpoints.{fits_endpoint}
use Rattle.ba_message.specs.declared.endpoints.TheConstants.{MOST_ENDPOINT_BYTES}
use Rattle.std.specs.Int.{Width, w16, w32, w64, byte_len, from_le_bytes}
use Rattle.ba_core.specs.declared.notices.Act.{Act}
use Rattle.ba_core.specs.declared.notices.Act.TheVariants as act
use Rattle.ba_core.specs.declared.notices.Notice.{Notice}
use Rattle.ba_core.specs.declared.notices.Notice.TheVariants as notice
use Rattle.ba_core.specs.declared.protocols.Kind.{Kind}
use Rattle.ba_core.specs.declared.protocols.Kind.TheVariants.{Atomic, Mixed}
use Rattle.ba_core.specs.declared.protocols.Protocol.{Protocol}
use Rattle.ba_core.specs.declared.protocols.Protocol.TheVariants.{Pc, Cc}
use Rattle.ba_core.specs.declared.protocols.Verdict.{Verdict}
use Rattle.ba_core.specs.declared.protocols.Verdict.TheVariants.{Close, Undo}
use Rattle.ba_tree.specs.declared.trees.Name.{Name}
use Rattle.ba_tree.specs.declared.trees.Attribute.{Attribute}
use Rattle.ba_tree.specs.declared.trees.Tree.{Tree}
use Rattle.ba_tree.specs.declared.trees.Content.{Content}
use Rattle.ba_tree.specs.declared.trees.Content.TheVariants.{Child, Text}
use Rattle.ba_core.specs.Messages.{notice_code}
use Rattle.ba_message.specs.declared.endpoints.Epr.{Epr}
use Rattle.ba_record.specs.declared.fields.FieldFault.{FieldFault}
use Rattle.ba_record.specs.declared.fields.FieldFault.TheVariants as fault
use Rattle.ba_record.specs.declared.records.Record.{Record}
use Rattle.ba_record.specs.declared.records.Record.TheVariants.{Node, Scope, End, Part, Enrolled, Refused, Received, Acted, Decided, Chosen}
use Rattle.ba_record.specs.declared.records.Record.TheVariants.{Ticked, Asked}
use Rattle.ba_record.specs.declared.records.RecordFault.{RecordFault}
use Rattle.ba_record.specs.declared.records.RecordFault.TheVariants.{BadKind, BadField, Short}
use Rattle.ba_record.specs.declared.records.RecordFault.TheVariants as why_not
use Rattle.ba_record.specs.Coding.{kind_code, protocol_code, verdict_code, act_code}
use Rattle.ba_record.specs.Endpoints.{is_base}

-- the numbers are bytes
abbrev pub IsBytes : List ℕ → Type 0
IsBytes bytes = (i : ℕ) → slice_index bytes i < 256

-- what the front of some bytes is read as: a value, and the bytes after it; a field outside its range,
-- and the bytes from its first on; or they end inside a field
pub data Reading (A : Type 0) : Type 0 where
  read : A → List ℕ → Reading A
  bad : List ℕ → Reading A
  short : Reading A

-- a field, and then what its value leads to
abbrev pub onward : {A B : Type 0} → Reading A → (A → List ℕ → Reading B) → Reading B
onward (read a rest) next = next a rest
onward (bad from) next = bad from
onward short next = short

-- a value that must pass a test, or the field is bad, which begins where these bytes do
abbrev pub tested : {A : Type 0} → (A → Bool) → List ℕ → A → List ℕ → Reading A
tested test from a rest = elim (test a) [ true ↦ read a rest | false ↦ bad from ]

-- a value that must be there, likewise
abbrev pub found : {A : Type 0} → List ℕ → Option A → List ℕ → Reading A
found from None rest = bad from
found from (Some a) rest = read a rest

-- what a fault says of a reading, where the bytes from the fault's place on are these
abbrev pub Explains : {A : Type 0} → Reading A → List ℕ → FieldFault → Type 0
Explains reading from fault.Memory = Unit {0}
Explains reading from fault.Bad = reading ≡ bad from
Explains reading from fault.Short = reading ≡ short

-- ---- numbers and strings

abbrev pub read_byte : List ℕ → Reading ℕ
read_byte [] = short
read_byte (byte ∷ rest) = read byte rest

-- so many bytes
abbrev pub read_front : ℕ → List ℕ → Reading (List ℕ)
read_front n bytes = if nat_le n (length bytes) then read (take n bytes) (drop n bytes) else short

-- a number, the lowest byte first
abbrev pub read_number : Width → List ℕ → Reading ℕ
read_number w bytes = onward (read_front (byte_len w) bytes) (λ digits rest. read (from_le_bytes w digits) rest)

-- a length of two bytes, and so many bytes
abbrev pub read_string : List ℕ → Reading (List ℕ)
read_string bytes = onward (read_number w16 bytes) read_front

-- ---- fields of one byte

-- the value whose code is this byte
abbrev pub with_code : {A : Type 0} → (A → ℕ) → List A → ℕ → Option A
with_code code [] byte = None
with_code code (a ∷ more) byte = if nat_eq (code a) byte then Some a else with_code code more byte

abbrev pub read_coded : {A : Type 0} → (A → ℕ) → List A → List ℕ → Reading A
read_coded code values bytes = onward (read_byte bytes) (λ byte rest. found bytes (with_code code values byte) rest)

abbrev pub read_kind : List ℕ → Reading Kind
read_kind = read_coded kind_code (Atomic ∷ Mixed ∷ [])

abbrev pub read_protocol : List ℕ → Reading Protocol
read_protocol = read_coded protocol_code (Pc ∷ Cc ∷ [])

abbrev pub read_verdict : List ℕ → Reading Verdict
read_verdict = read_coded verdict_code (Close ∷ Undo ∷ [])

abbrev pub read_act : List ℕ → Reading Act
read_act = read_coded act_code (act.Completed ∷ act.Closed ∷ act.Canceled ∷ act.Compensated ∷ act.Fail ∷ act.Exit ∷ act.CannotComplete ∷ [])

-- every notice but Status
abbrev pub plain_notices : List Notice
plain_notices =
    notice.Complete ∷ notice.Close ∷ notice.Cancel ∷ notice.Compensate ∷ notice.Failed ∷ notice.Exited ∷ notice.NotCompleted
    ∷ notice.Completed ∷ notice.Closed ∷ notice.Canceled ∷ notice.Compensated ∷ notice.Fail ∷ notice.Exit ∷ notice.CannotComplete
    ∷ notice.GetStatus ∷ []

abbrev pub read_notice : List ℕ → Reading Notice
read_notice = read_coded notice_code plain_notices

-- a number from 1 up to the greatest
abbrev pub read_from_1 : ℕ → List ℕ → Reading ℕ
read_from_1 greatest bytes = onward (read_byte bytes) (tested (λ n. nat_le 1 n && nat_le n greatest) bytes)

-- ---- longer fields

abbrev pub read_counter : List ℕ → Reading ℕ
read_counter bytes = onward (read_number w64 bytes) (tested (nat_le 1) bytes)

abbrev pub read_node_number : List ℕ → Reading ℕ
read_node_number bytes = onward (read_number w32 bytes) (tested (nat_le 1) bytes)

abbrev pub read_base : List ℕ → Reading (List ℕ)
read_base bytes = onward (read_string bytes) (tested is_base bytes)

-- a byte 0, or a byte 1 and the value
abbrev pub optional : {A : Type 0} → (List ℕ → Reading A) → ℕ → List ℕ → List ℕ → Reading (Option A)
optional value zero from rest = read None rest
optional value (suc zero) from rest = onward (value rest) (λ a after. read (Some a) after)
optional value _ from rest = bad from

abbrev pub read_option : {A : Type 0} → (List ℕ → Reading A) → List ℕ → Reading (Option A)
read_option value bytes = onward (read_byte bytes) (λ byte rest. optional value byte bytes rest)

-- ---- trees

-- so many values
abbrev pub read_many : {A : Type 0} → (List ℕ → Reading A) → ℕ → List ℕ → Reading (List A)
read_many value zero bytes = read [] bytes
read_many value (suc n) bytes = onward (value bytes) (λ a rest. onward (read_many value n rest) (λ more after. read (a ∷ more) after))

abbrev pub read_name : List ℕ → Reading Name
read_name bytes = onward (read_string bytes)
    (λ space rest. onward (read_string rest) (λ local after. read (record { space = space; local = local }) after))

abbrev pub read_attribute : List ℕ → Reading Attribute
read_attribute bytes = onward (read_name bytes)
    (λ name rest. onward (read_string rest) (λ value after. read (record { name = name; value = value }) after))

-- a byte 0 and a text, or a byte 1 and a tree
abbrev pub content_of : (List ℕ → Reading Tree) → ℕ → List ℕ → List ℕ → Reading Content
content_of tree zero from rest = onward (read_string rest) (λ text after. read (Text text) after)
content_of tree (suc zero) from rest = onward (tree rest) (λ child after. read (Child child) after)
content_of tree _ from rest = bad from

abbrev pub read_content : (List ℕ → Reading Tree) → List ℕ → Reading Content
read_content tree bytes = onward (read_byte bytes) (λ byte rest. content_of tree byte bytes rest)

abbrev pub read_attributes : List ℕ → Reading (List Attribute)
read_attributes bytes = onward (read_byte bytes) (read_many read_attribute)

abbrev pub read_contents : (List ℕ → Reading Tree) → List ℕ → Reading (List Content)
read_contents tree bytes = onward (read_number w16 bytes) (read_many (read_content tree))

-- the name, a count of one byte and the attributes, a count of two bytes and the content
abbrev pub read_element : (List ℕ → Reading Tree) → List ℕ → Reading Tree
read_element tree bytes =
    onward (read_name bytes) (λ name rest.
    onward (read_attributes rest) (λ attributes more.
    onward (read_contents tree more) (λ content after.
    read (record { name = name; attributes = attributes; content = content }) after)))

-- a tree of at most so many levels; one that these bytes hold has fewer levels than they are
unfoldable pub read_tree : ℕ → List ℕ → Reading Tree
read_tree zero bytes = short
read_tree (suc levels) bytes = read_element (read_tree levels) bytes

-- ---- endpoints

-- the address, a count of one byte and the parameters, whether or not it fits
abbrev pub read_any_endpoint : List ℕ → Reading Epr
read_any_endpoint bytes =
    onward (read_string bytes) (λ address rest.
    onward (onward (read_byte rest) (read_many (read_tree MOST_ENDPOINT_BYTES))) (λ parameters after.
    read (record { address = address; parameters = parameters }) after))

-- what an endpoint's most bytes say of it: it is bad at its first byte, whatever is wrong in it, and where they
-- are all there and it doesn't end within them
abbrev pub of_front : List ℕ → Reading Epr → Reading Epr
of_front bytes (read epr rest) = tested fits_endpoint bytes epr (rest ++ drop MOST_ENDPOINT_BYTES bytes)
of_front bytes (bad from) = bad bytes
of_front bytes short = if nat_le MOST_ENDPOINT_BYTES (length bytes) then bad bytes else short

abbrev pub read_endpoint : List ℕ → Reading Epr
read_endpoint bytes = of_front bytes (read_any_endpoint (take MOST_ENDPOINT_BYTES bytes))

abbrev pub read_upward : List ℕ → Reading (Protocol × Epr)
read_upward bytes = onward (read_protocol bytes)
    (λ protocol rest. onward (read_endpoint rest) (λ registration after. read (protocol, registration) after))

-- ---- records

-- the fields of each kind, in the order of the kinds' numbers
abbrev pub read_node : List ℕ → Reading Record
read_node bytes = onward (read_node_number bytes) (λ number r. onward (read_base r) (λ base rest. read (Node number base) rest))

abbrev pub read_scope : List ℕ → Reading Record
read_scope bytes = onward (read_counter bytes)
    (λ counter r. onward (read_kind r) (λ kind r. onward (read_option (read_number w64) r)
    (λ deadline r. onward (read_option read_upward r) (λ upward rest. read (Scope counter kind deadline upward) rest))))

abbrev pub read_end : List ℕ → Reading Record
read_end bytes = onward (read_counter bytes)
    (λ counter r. onward (read_counter r) (λ scope r. onward (read_protocol r)
    (λ protocol r. onward (read_endpoint r) (λ participant rest. read (End counter scope protocol participant) rest))))

abbrev pub read_part : List ℕ → Reading Record
read_part bytes = onward (read_counter bytes)
    (λ counter r. onward (read_protocol r) (λ protocol r. onward (read_endpoint r)
    (λ registration rest. read (Part counter protocol registration) rest)))

abbrev pub read_enrolled : List ℕ → Reading Record
read_enrolled bytes = onward (read_counter bytes)
    (λ counter r. onward (read_endpoint r) (λ coordinator rest. read (Enrolled counter coordinator) rest))

abbrev pub read_refused : List ℕ → Reading Record
read_refused bytes = onward (read_counter bytes) (λ counter r. onward (read_from_1 2 r) (λ code rest. read (Refused counter code) rest))

abbrev pub read_received : List ℕ → Reading Record
read_received bytes = onward (read_counter bytes) (λ counter r. onward (read_notice r) (λ n rest. read (Received counter n) rest))

abbrev pub read_acted : List ℕ → Reading Record
read_acted bytes = onward (read_counter bytes) (λ counter r. onward (read_act r) (λ a rest. read (Acted counter a) rest))

abbrev pub read_decided : List ℕ → Reading Record
read_decided bytes = onward (read_counter bytes)
    (λ counter r. onward (read_verdict r) (λ verdict rest. read (Decided counter verdict) rest))

abbrev pub read_chosen : List ℕ → Reading Record
read_chosen bytes = onward (read_counter bytes) (λ counter r. onward (read_from_1 3 r) (λ choice rest. read (Chosen counter choice) rest))

abbrev pub read_ticked : List ℕ → Reading Record
read_ticked bytes = onward (read_counter bytes) (λ counter rest. read (Ticked counter) rest)

abbrev pub read_asked : List ℕ → Reading Record
read_asked bytes = onward (read_counter bytes) (λ counter rest. read (Asked counter) rest)

-- a record of which nothing is left over
abbrev pub whole : Record → List ℕ → Reading Record
whole r [] = read r []
whole r (byte ∷ rest) = bad (byte ∷ rest)

-- the fields of the kind with this number
abbrev pub read_record : ℕ → List ℕ → Reading Record
read_record kind bytes =
    if nat_eq kind 1 then read_node bytes else (
    if nat_eq kind 2 then read_scope bytes else (
    if nat_eq kind 3 then read_end bytes else (
    if nat_eq kind 4 then read_part bytes else (
    if nat_eq kind 5 then read_enrolled bytes else (
    if nat_eq kind 6 then read_refused bytes else (
    if nat_eq kind 7 then read_received bytes else (
    if nat_eq kind 8 then read_acted bytes else (
    if nat_eq kind 9 then read_decided bytes else (
    if nat_eq kind 10 then read_chosen bytes else (
    if nat_eq kind 11 then read_ticked bytes else
    read_asked bytes))))))))))

abbrev pub is_kind : ℕ → Bool
is_kind kind = nat_le 1 kind && nat_le kind 12

-- what so many bytes are read as, by the reading of the fields; a place is a number of bytes before it
abbrev pub told : ℕ → Reading Record → Result Record RecordFault
told n (read r rest) = Ok r
told n (bad from) = Err (BadField (n - length from))
told n short = Err (Short n)

-- what the bytes are read as: a record, or why they are none
abbrev pub reading : List ℕ → Result Record RecordFault
reading [] = Err (Short 0)
reading (kind ∷ bytes) = if is_kind kind then told (length (kind ∷ bytes)) (onward (read_record kind bytes) whole) else Err BadKind

-- a fault is what the bytes are read as, but for want of memory
abbrev pub ReadsTo : List ℕ → RecordFault → Type 0
ReadsTo bytes why_not.Memory = Unit {0}
ReadsTo bytes why = reading bytes ≡ Err why
