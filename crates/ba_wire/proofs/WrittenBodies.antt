-- Each message is read back from its body element: for the law on messages.
use Rattle.std.proofs.Common.{◌≡◌, ℕ, true, List, [], ◌∷◌, ◌++◌, Option, Some, None, filter, if◌then◌else◌, bytes_eq, refl, ap, ◌∙◌, codes}
use Rattle.std.specs.Prelude.{is_some}
use Rattle.std.specs.Cmp.{first_so, second_so}
use Rattle.ba_core.specs.Texts.{code_text, state_text}
use Rattle.ba_core.specs.declared.codes.Code.{Code}
use Rattle.ba_core.specs.declared.codes.Code.TheVariants as code
use Rattle.ba_core.specs.declared.notices.Notice.{Notice}
use Rattle.ba_core.specs.declared.notices.Notice.TheVariants as notice
use Rattle.ba_core.specs.declared.protocols.Kind.{Kind}
use Rattle.ba_core.specs.declared.protocols.Protocol.{Protocol}
use Rattle.ba_core.specs.declared.protocols.Protocol.TheVariants.{Pc, Cc}
use Rattle.ba_core.specs.declared.states.StateName.{StateName}
use Rattle.ba_core.specs.declared.states.StateName.TheVariants as state
use Rattle.ba_message.specs.Endpoints.{Fits}
use Rattle.ba_message.specs.declared.endpoints.Epr.{Epr}
use Rattle.ba_message.specs.declared.messages.Context.{Context}
use Rattle.ba_message.specs.declared.messages.Message.{Message}
use Rattle.ba_message.specs.declared.messages.Message.TheVariants as message
use Rattle.ba_soap_shapes.specs.declared.forms.Plain.TheVariants as plain
use Rattle.ba_soap_shapes.specs.Elements.{own_texts}
use Rattle.ba_soap_shapes.specs.Endpoints.{child_at, text_in}
use Rattle.ba_soap_shapes.specs.Forms.{is_qname, local_part, mismatch_unless, plain_look}
use Rattle.ba_soap_shapes.specs.Shapes.{Line, names}
use Rattle.ba_soap_shapes.proofs.ElementLaws.{text_text}
use Rattle.ba_soap_shapes.proofs.WrittenEndpoints.{endpoint_holds, endpoint_is, text_alone}
use Rattle.ba_soap_shapes.proofs.WrittenShapes.{Fine, child_is, head_of, rows_hold}
use Rattle.ba_soap.specs.Elements.{is_bare_text}
use Rattle.ba_tree.specs.Characters.{has_bare_ends}
use Rattle.ba_tree.specs.declared.trees.Name.{Name}
use Rattle.ba_tree.specs.declared.trees.Tree.{Tree}
use Rattle.ba_wire.specs.declared.bodies.Body.TheVariants as body
use Rattle.ba_wire.specs.declared.forms.Whole.{Whole}
use Rattle.ba_wire.specs.Bodies.{body_look, code_of, context_in, coordination_context_line, coordination_type_line}
use Rattle.ba_wire.specs.Bodies.{coordinator_service_line, current_context_line, empty_context, endpoint_in, expires_line, fault_code_line}
use Rattle.ba_wire.specs.Bodies.{in_whole, is_upward, kind_of, lines_of_body, message_of, number_in, participant_service_line}
use Rattle.ba_wire.specs.Bodies.{protocol_identifier_line, protocol_of, state_line, state_of, up_in, upward_line, value_or, whole_look}
use Rattle.ba_wire.specs.Contexts.{IsPlainContext, TimeFits}
use Rattle.ba_wire.specs.Elements.{bare_name, body_element, body_of_message, body_parts, current_part, expires_part, family_of, own_name}
use Rattle.ba_wire.specs.Elements.{prefix_of_family, protocol_uri, text_in_element, type_part, upward_part, wsba_name, wscoor_name}
use Rattle.ba_wire.specs.Envelopes.{ContextFits, ContextTimeFits, EndpointsFit, TimesFit, has_bare_identifiers, is_bare_context, is_known}
use Rattle.ba_wire.specs.Envelopes.{is_known_context}
use Rattle.ba_wire.proofs.WrittenContexts.{context_holds, context_is, expires_read, fine_by, kind_fine, kind_read, number_fine, text_fine}
use Rattle.ba_wire.proofs.WrittenContexts.{text_is}

-- the element of a message has the shape of its body, and says the message
pub record IsReadBack (m : Message) : Type 0 where
  pub holds : (k : ℕ) → body_look (body_of_message m) k (body_element m) ≡ None
  pub means : message_of (body_of_message m) (body_element m) ≡ m

-- the child that a line names is the first of those that it names
named_is :
    (m : Message) (line : Line Whole) (these : List Tree) → filter (names line (body_element m)) (body_parts m) ≡ these
    → child_at line (body_element m) ≡ head_of these
named_is m line these is = child_is line (body_element m) (body_parts m) refl ∙ ap head_of is

-- ---- Register and its reply

protocol_bare : (protocol : Option Protocol) → is_some protocol ≡ true → is_bare_text (protocol_uri protocol) ≡ true
protocol_bare None known = cc
protocol_bare (Some Pc) known = refl
protocol_bare (Some Cc) known = refl

protocol_is : (protocol : Option Protocol) → is_some protocol ≡ true → protocol_of (protocol_uri protocol) ≡ protocol
protocol_is None known = cc
protocol_is (Some Pc) known = refl
protocol_is (Some Cc) known = refl

register_reads_back : (protocol : Option Protocol) (service : Epr) → is_some protocol ≡ true → Fits service
    → IsReadBack (message.Register protocol service)
register_reads_back protocol service known fits =
    let m : Message = message.Register protocol service in
    let name : Name = wscoor_name (codes "ProtocolIdentifier") in
    let uri = ap text_in (named_is m protocol_identifier_line (text_in_element name (protocol_uri protocol) ∷ []) refl)
    ∙ text_is name (protocol_uri protocol) (protocol_bare protocol known) in
    let epr = ap endpoint_in (named_is m participant_service_line _ refl)
    ∙ endpoint_is (wscoor_name (codes "ParticipantProtocolService")) service fits in
    record {
      holds = λ k. rows_hold whole_look (lines_of_body body.Register) k (body_element m) (body_parts m) refl (
        text_fine name (protocol_uri protocol) (protocol_bare protocol known),
        (
          endpoint_holds (wscoor_name
              (codes "ParticipantProtocolService")) service fits,
          tt,
        ),
      );
      means = λ i. message.Register ((ap protocol_of uri ∙ protocol_is protocol known) i) (epr i);
    }

registered_reads_back : (service : Epr) → Fits service → IsReadBack (message.Registered service)
registered_reads_back service fits =
    let m : Message = message.Registered service in
    let name : Name = wscoor_name (codes "CoordinatorProtocolService") in
    record {
      holds = λ k. rows_hold whole_look (lines_of_body body.Registered) k (body_element m) (body_parts m) refl
          (endpoint_holds name service fits, tt);
      means = ap (λ o. message.Registered (endpoint_in o)) (named_is m coordinator_service_line _ refl)
          ∙ ap message.Registered (endpoint_is name service fits);
    }

-- ---- Create and its reply

created_reads_back : (c : Context) → IsPlainContext c → TimeFits c.expires → IsReadBack (message.Created c)
created_reads_back c is_plain small =
    let m : Message = message.Created c in
    record {
      holds = λ k. rows_hold whole_look (lines_of_body body.Created) k (body_element m) (body_parts m) refl
          (context_holds (codes "CoordinationContext") c is_plain small, tt);
      means = ap (λ o. message.Created (value_or empty_context (context_in o))) (named_is m coordination_context_line _ refl)
          ∙ ap message.Created (context_is (codes "CoordinationContext") c is_plain small);
    }

expires_fine : (x : Option ℕ) → TimeFits x → Fine whole_look (in_whole expires_line) (expires_part x)
expires_fine None small = refl
expires_fine (Some n) small = number_fine (wscoor_name (codes "Expires")) n small

abbrev IsPlainCurrent : Option Context → Type 0
IsPlainCurrent None = Unit {0}
IsPlainCurrent (Some c) = IsPlainContext c

current_fine : (c : Option Context) → IsPlainCurrent c → ContextTimeFits c → Fine whole_look current_context_line (current_part c)
current_fine None is_plain small = refl
current_fine (Some c) is_plain small = context_holds (codes "CurrentContext") c is_plain small

current_read : (c : Option Context) → IsPlainCurrent c → ContextTimeFits c → context_in (head_of (current_part c)) ≡ c
current_read None is_plain small = refl
current_read (Some c) is_plain small = ap (λ d. Some d) (context_is (codes "CurrentContext") c is_plain small)

upward_text : own_texts (text_in_element (own_name (codes "Upward")) (codes "cc")).content ≡ codes "cc"
upward_text = text_text (codes "cc") []

upward_fine : (up : Protocol) → Fine whole_look upward_line (upward_part up)
upward_fine Pc = refl
upward_fine Cc = λ k. ap (λ t. mismatch_unless (is_upward t) k) upward_text

upward_read : (up : Protocol) → up_in (head_of (upward_part up)) ≡ up
upward_read Pc = refl
upward_read Cc = ap (λ t. if bytes_eq t (codes "cc") then Cc else Pc) upward_text

module _ (kind : Option Kind) where
  abbrev create : Option ℕ → Option Context → Protocol → Message
  create x c up = message.Create x c kind up

  abbrev named : Line Whole → Option ℕ → Option Context → Protocol → List Tree
  named line x c up = filter (names line (body_element (create x c up))) (body_parts (create x c up))

  abbrev AreNamed : Option ℕ → Option Context → Protocol → Type 0
  AreNamed x c up =
      (named (in_whole expires_line) x c up ≡ expires_part x)
      × (named current_context_line x c up ≡ current_part c)
      × (named (in_whole coordination_type_line) x c up ≡ type_part kind ∷ [])
      × (named upward_line x c up ≡ upward_part up)

  -- the children are found by computing, where it is known which are left out
  are_named : (x : Option ℕ) (c : Option Context) (up : Protocol) → AreNamed x c up
  are_named None None Pc = (refl, refl, refl, refl)
  are_named None None Cc = (refl, refl, refl, refl)
  are_named None (Some c) Pc = (refl, refl, refl, refl)
  are_named None (Some c) Cc = (refl, refl, refl, refl)
  are_named (Some n) None Pc = (refl, refl, refl, refl)
  are_named (Some n) None Cc = (refl, refl, refl, refl)
  are_named (Some n) (Some c) Pc = (refl, refl, refl, refl)
  are_named (Some n) (Some c) Cc = (refl, refl, refl, refl)

  create_reads_back :
      (x : Option ℕ) (c : Option Context) (up : Protocol) → is_some kind ≡ true → IsPlainCurrent c → TimeFits x → ContextTimeFits c
      → IsReadBack (create x c up)
  create_reads_back x c up known is_plain small inner =
      let m : Message = create x c up in
      let found = are_named x c up in
      let expires = ap number_in (named_is m (in_whole expires_line) (expires_part x) found.0) ∙ expires_read x small in
      let current = ap context_in (named_is m current_context_line (current_part c) found.1) ∙ current_read c is_plain inner in
      let type = ap (λ o. kind_of (text_in o)) (named_is m (in_whole coordination_type_line) (type_part kind ∷ []) found.2)
      ∙ kind_read kind known in
      let upward = ap up_in (named_is m upward_line (upward_part up) found.3) ∙ upward_read up in
      record {
        holds = λ k. rows_hold whole_look (lines_of_body body.Create) k (body_element m) (body_parts m) refl (
          fine_by whole_look (in_whole expires_line) (named (in_whole expires_line) x c up) (expires_part x) found.0 (expires_fine x small),
          (
            fine_by whole_look current_context_line (named current_context_line x c up) (current_part c) found.1
                (current_fine c is_plain inner),
            (
              fine_by whole_look (in_whole coordination_type_line) (named (in_whole coordination_type_line) x c up)
                  (type_part kind ∷ []) found.2 (kind_fine kind known),
              (fine_by whole_look upward_line (named upward_line x c up) (upward_part up) found.3 (upward_fine up), tt),
            ),
          ),
        );
        means = λ i. message.Create (expires i) (current i) (type i) (upward i);
      }

-- ---- notices

abbrev state_name : StateName → List ℕ
state_name s = codes "wsba:" ++ state_text s

-- a qualified name, by whose local part it is found among the states
state_facts : (s : StateName) → (has_bare_ends (state_name s) ≡ true) × (is_qname (state_name s) ≡ true)
    × (state_of (local_part (state_name s)) ≡ s)
state_facts state.Active = (refl, refl, refl)
state_facts state.Completing = (refl, refl, refl)
state_facts state.Canceling = (refl, refl, refl)
state_facts state.CancelingActive = (refl, refl, refl)
state_facts state.CancelingCompleting = (refl, refl, refl)
state_facts state.Completed = (refl, refl, refl)
state_facts state.Closing = (refl, refl, refl)
state_facts state.Compensating = (refl, refl, refl)
state_facts state.FailingActive = (refl, refl, refl)
state_facts state.FailingCompleting = (refl, refl, refl)
state_facts state.FailingCanceling = (refl, refl, refl)
state_facts state.FailingCompensating = (refl, refl, refl)
state_facts state.NotCompleting = (refl, refl, refl)
state_facts state.Exiting = (refl, refl, refl)
state_facts state.Ended = (refl, refl, refl)
state_facts state.Other = (refl, refl, refl)

qname_fine : (n : Name) (text : List ℕ) → has_bare_ends text ≡ true → is_qname text ≡ true → (k : ℕ)
    → plain_look plain.Qname k (text_in_element n text) ≡ None
qname_fine n text bare is k = ap (λ t. mismatch_unless (is_qname t) k) (text_alone n text bare) ∙ ap (λ b. mismatch_unless b k) is

status_reads_back : (s : StateName) → IsReadBack (message.Notice (notice.Status s))
status_reads_back s =
    let m : Message = message.Notice (notice.Status s) in
    let name : Name = wsba_name (codes "State") in
    let facts = state_facts s in
    let text = ap text_in (named_is m state_line (text_in_element name (state_name s) ∷ []) refl)
    ∙ text_alone name (state_name s) facts.0 in
    record {
      holds = λ k. rows_hold whole_look (lines_of_body body.Status) k (body_element m) (body_parts m) refl (
        qname_fine name
            (state_name s) facts.0 facts.1,
        tt,
      );
      means = ap (λ t. message.Notice (notice.Status (state_of (local_part t)))) text ∙ ap (λ x. message.Notice (notice.Status x)) facts.2;
    }

-- the others say their name alone
notice_reads_back : (n : Notice) → IsReadBack (message.Notice n)
notice_reads_back (notice.Status s) = status_reads_back s
notice_reads_back notice.Complete = record { holds = λ k. refl; means = refl }
notice_reads_back notice.Close = record { holds = λ k. refl; means = refl }
notice_reads_back notice.Cancel = record { holds = λ k. refl; means = refl }
notice_reads_back notice.Compensate = record { holds = λ k. refl; means = refl }
notice_reads_back notice.Failed = record { holds = λ k. refl; means = refl }
notice_reads_back notice.Exited = record { holds = λ k. refl; means = refl }
notice_reads_back notice.NotCompleted = record { holds = λ k. refl; means = refl }
notice_reads_back notice.Completed = record { holds = λ k. refl; means = refl }
notice_reads_back notice.Closed = record { holds = λ k. refl; means = refl }
notice_reads_back notice.Canceled = record { holds = λ k. refl; means = refl }
notice_reads_back notice.Compensated = record { holds = λ k. refl; means = refl }
notice_reads_back notice.Fail = record { holds = λ k. refl; means = refl }
notice_reads_back notice.Exit = record { holds = λ k. refl; means = refl }
notice_reads_back notice.CannotComplete = record { holds = λ k. refl; means = refl }
notice_reads_back notice.GetStatus = record { holds = λ k. refl; means = refl }

-- ---- faults

abbrev code_name : Code → List ℕ
code_name c = prefix_of_family (family_of c) ++ code_text c

code_facts : (c : Code) → (has_bare_ends (code_name c) ≡ true) × (is_qname (code_name c) ≡ true) × (code_of (local_part (code_name c)) ≡ c)
code_facts code.VersionMismatch = (refl, refl, refl)
code_facts code.MustUnderstand = (refl, refl, refl)
code_facts code.Client = (refl, refl, refl)
code_facts code.Server = (refl, refl, refl)
code_facts code.InvalidState = (refl, refl, refl)
code_facts code.InvalidProtocol = (refl, refl, refl)
code_facts code.InvalidParameters = (refl, refl, refl)
code_facts code.CannotCreateContext = (refl, refl, refl)
code_facts code.CannotRegisterParticipant = (refl, refl, refl)
code_facts code.InvalidAddressingHeader = (refl, refl, refl)
code_facts code.MessageAddressingHeaderRequired = (refl, refl, refl)
code_facts code.DestinationUnreachable = (refl, refl, refl)
code_facts code.ActionNotSupported = (refl, refl, refl)
code_facts code.EndpointUnavailable = (refl, refl, refl)
code_facts code.Other = (refl, refl, refl)

fault_reads_back : (c : Code) → IsReadBack (message.Fault c)
fault_reads_back c =
    let m : Message = message.Fault c in
    let name : Name = bare_name (codes "faultcode") in
    let facts = code_facts c in
    let text = ap text_in (named_is m fault_code_line (text_in_element name (code_name c) ∷ []) refl)
    ∙ text_alone name (code_name c) facts.0 in
    record {
      holds = λ k. rows_hold whole_look (lines_of_body body.Fault) k (body_element m) (body_parts m) refl
          (qname_fine name (code_name c) facts.0 facts.1, ((λ n. refl), (refl, (refl, tt))));
      means = ap (λ t. message.Fault (code_of (local_part t))) text ∙ ap message.Fault facts.2;
    }

-- ---- all of them

plain_current : (c : Option Context) → is_known_context c ≡ true → ContextFits c → is_bare_context c ≡ true → IsPlainCurrent c
plain_current None known fit named = tt
plain_current (Some c) known fit named = record { known = known; fit = fit; named = named }

pub body_reads_back : (m : Message) → is_known m ≡ true → EndpointsFit m → has_bare_identifiers m ≡ true → TimesFit m → IsReadBack m
body_reads_back (message.Create x c kind up) known fit named small =
    create_reads_back kind x c up (second_so (is_known_context c) (is_some kind) known)
    (plain_current c (first_so (is_known_context c) (is_some kind) known) fit named) small.0 small.1
body_reads_back (message.Created c) known fit named small = created_reads_back c (record { known = known; fit = fit; named = named }) small
body_reads_back (message.Register protocol service) known fit named small = register_reads_back protocol service known fit
body_reads_back (message.Registered service) known fit named small = registered_reads_back service fit
body_reads_back (message.Notice n) known fit named small = notice_reads_back n
body_reads_back (message.Fault c) known fit named small = fault_reads_back c
