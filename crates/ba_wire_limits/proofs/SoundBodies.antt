-- The body elements of messages keep the rules of texts, and are small: for the laws on envelopes.
use Rattle.std.proofs.Common.{◌≡◌, ℕ, ◌+◌, ◌^◌, ◌<◌, ◌≤◌, true, List, [], ◌∷◌, ◌++◌, Option, Some, None, IfSome, map, length}
use Rattle.std.proofs.Common.{codes, decimal, append-nil, refl, ◌∙◌, arith}
use Rattle.std.proofs.lemmas.Fmt.{length-decimal-le}
use Rattle.ba_core.specs.Texts.{code_text, state_text}
use Rattle.ba_core.specs.declared.codes.Code.{Code}
use Rattle.ba_core.specs.declared.codes.Code.TheVariants as code
use Rattle.ba_core.specs.declared.notices.Notice.{Notice}
use Rattle.ba_core.specs.declared.notices.Notice.TheVariants as notice
use Rattle.ba_core.specs.declared.protocols.Kind.{Kind}
use Rattle.ba_core.specs.declared.protocols.Kind.TheVariants.{Atomic, Mixed}
use Rattle.ba_core.specs.declared.protocols.Protocol.{Protocol}
use Rattle.ba_core.specs.declared.protocols.Protocol.TheVariants.{Pc, Cc}
use Rattle.ba_core.specs.declared.states.StateName.{StateName}
use Rattle.ba_core.specs.declared.states.StateName.TheVariants as state
use Rattle.ba_message.specs.declared.endpoints.Epr.{Epr}
use Rattle.ba_message.specs.declared.messages.Message.TheVariants as message
use Rattle.ba_message.specs.Endpoints.{Fits}
use Rattle.ba_message.specs.Letters.{IsIdentifier}
use Rattle.ba_tree.specs.declared.trees.Content.TheVariants.{Child}
use Rattle.ba_tree.specs.declared.trees.Name.{Name}
use Rattle.ba_tree.specs.declared.trees.Tree.{Tree}
use Rattle.ba_tree.specs.Lengths.{name_length}
use Rattle.ba_tree.specs.Names.{is_plain_name}
use Rattle.ba_soap_shapes.specs.Endpoints.{bare_element}
use Rattle.ba_wire.specs.Elements.{body_element, context_element, expires_part, family_of, kind_uri, prefix_of_family}
use Rattle.ba_wire.specs.Elements.{protocol_uri, text_in_element, wsba_name}
use Rattle.ba_wire_limits.proofs.BriefTexts.{brief_said, brief_short, is_brief, number_text, plain_is_said}
use Rattle.ba_wire_limits.proofs.SoundEndpoints.{sound_endpoint}
use Rattle.ba_wire_limits.proofs.SoundNames.{bare_is, soap_is, wsba_is, wscoor_is}
use Rattle.ba_wire_limits.proofs.SoundTrees.{AllSound, IsFixed, IsSaid, Sound, all_wider, further_named, more_sound, none_sound}
use Rattle.ba_wire_limits.proofs.SoundTrees.{sound_element, sound_text, wider}

-- ---- texts

brief_text : {n : Name} → IsFixed n → (text : List ℕ) → is_brief text ≡ true
    → Sound (text_in_element n text) 1 (105 + name_length n) []
brief_text {n} is text h =
    let short = brief_short text h in
    wider 1 (105 + name_length n) (sound_text is (brief_said text h)) (omega arith) (omega arith)

-- the one element of several that stands last
one_sound : {t : Tree} {deep size : ℕ} {xs : List (List ℕ)} → Sound t deep size xs → AllSound (t ∷ []) deep (1 + size) xs
one_sound {t} {deep} {size} {xs} s =
    let all = all_wider deep (1 + size) (more_sound s none_sound) (omega arith) (omega arith) in
    record {
      fit = all.fit;
      within_levels = all.within_levels;
      few = all.few;
      within_size = all.within_size;
      names = all.names ∙ append-nil xs;
    }

-- ---- notices

state_is : (s : StateName) → is_brief (codes "wsba:" ++ state_text s) ≡ true
state_is state.Active = refl
state_is state.Completing = refl
state_is state.Canceling = refl
state_is state.CancelingActive = refl
state_is state.CancelingCompleting = refl
state_is state.Completed = refl
state_is state.Closing = refl
state_is state.Compensating = refl
state_is state.FailingActive = refl
state_is state.FailingCompleting = refl
state_is state.FailingCanceling = refl
state_is state.FailingCompensating = refl
state_is state.NotCompleting = refl
state_is state.Exiting = refl
state_is state.Ended = refl
state_is state.Other = refl

empty_notice : (local : List ℕ) → is_plain_name local ≡ true → length local ≤ 32
    → Sound (bare_element (wsba_name local) (map Child [])) 2 400 []
empty_notice local plain brief = wider 2 400 (sound_element (wsba_is local plain) none_sound) (omega arith) (omega arith)

pub sound_notice : (n : Notice) → Sound (body_element (message.Notice n)) 2 400 []
sound_notice notice.Complete = empty_notice (codes "Complete") refl (omega arith)
sound_notice notice.Close = empty_notice (codes "Close") refl (omega arith)
sound_notice notice.Cancel = empty_notice (codes "Cancel") refl (omega arith)
sound_notice notice.Compensate = empty_notice (codes "Compensate") refl (omega arith)
sound_notice notice.Failed = empty_notice (codes "Failed") refl (omega arith)
sound_notice notice.Exited = empty_notice (codes "Exited") refl (omega arith)
sound_notice notice.NotCompleted = empty_notice (codes "NotCompleted") refl (omega arith)
sound_notice notice.Completed = empty_notice (codes "Completed") refl (omega arith)
sound_notice notice.Closed = empty_notice (codes "Closed") refl (omega arith)
sound_notice notice.Canceled = empty_notice (codes "Canceled") refl (omega arith)
sound_notice notice.Compensated = empty_notice (codes "Compensated") refl (omega arith)
sound_notice notice.Fail =
    let inner = brief_text (wsba_is (codes "ExceptionIdentifier") refl) (codes "wsba:Fail") refl in
    wider 2 400 (sound_element (wsba_is (codes "Fail") refl) (one_sound inner)) (omega arith) (omega arith)
sound_notice notice.Exit = empty_notice (codes "Exit") refl (omega arith)
sound_notice notice.CannotComplete = empty_notice (codes "CannotComplete") refl (omega arith)
sound_notice notice.GetStatus = empty_notice (codes "GetStatus") refl (omega arith)
sound_notice (notice.Status s) =
    let inner = brief_text (wsba_is (codes "State") refl) (codes "wsba:" ++ state_text s) (state_is s) in
    wider 2 400 (sound_element (wsba_is (codes "Status") refl) (one_sound inner)) (omega arith) (omega arith)

-- ---- faults

code_is : (c : Code) → is_brief (code_text c) ≡ true
code_is code.VersionMismatch = refl
code_is code.MustUnderstand = refl
code_is code.Client = refl
code_is code.Server = refl
code_is code.InvalidState = refl
code_is code.InvalidProtocol = refl
code_is code.InvalidParameters = refl
code_is code.CannotCreateContext = refl
code_is code.CannotRegisterParticipant = refl
code_is code.InvalidAddressingHeader = refl
code_is code.MessageAddressingHeaderRequired = refl
code_is code.DestinationUnreachable = refl
code_is code.ActionNotSupported = refl
code_is code.EndpointUnavailable = refl
code_is code.Other = refl

qname_is : (c : Code) → is_brief (prefix_of_family (family_of c) ++ code_text c) ≡ true
qname_is code.VersionMismatch = refl
qname_is code.MustUnderstand = refl
qname_is code.Client = refl
qname_is code.Server = refl
qname_is code.InvalidState = refl
qname_is code.InvalidProtocol = refl
qname_is code.InvalidParameters = refl
qname_is code.CannotCreateContext = refl
qname_is code.CannotRegisterParticipant = refl
qname_is code.InvalidAddressingHeader = refl
qname_is code.MessageAddressingHeaderRequired = refl
qname_is code.DestinationUnreachable = refl
qname_is code.ActionNotSupported = refl
qname_is code.EndpointUnavailable = refl
qname_is code.Other = refl

pub sound_fault : (c : Code) → Sound (body_element (message.Fault c)) 2 400 []
sound_fault c =
    let qname = brief_text (bare_is (codes "faultcode") refl) (prefix_of_family (family_of c) ++ code_text c) (qname_is c) in
    let words = brief_text (bare_is (codes "faultstring") refl) (code_text c) (code_is c) in
    wider 2 400 (sound_element (soap_is (codes "Fault") refl) (more_sound qname (one_sound words))) (omega arith) (omega arith)

-- ---- endpoints

protocol_is : (p : Protocol) → is_brief (protocol_uri (Some p)) ≡ true
protocol_is Pc = refl
protocol_is Cc = refl

pub sound_register : (p : Protocol) (e : Epr) → Fits e
    → Sound (body_element (message.Register (Some p) e)) 20 5000 (further_named e.parameters)
sound_register p e fits =
    let uri = brief_text (wscoor_is (codes "ProtocolIdentifier") refl) (protocol_uri (Some p)) (protocol_is p) in
    let service = sound_endpoint (wscoor_is (codes "ParticipantProtocolService") refl) e fits in
    wider 20 5000 (sound_element (wscoor_is (codes "Register") refl) (more_sound uri (one_sound service))) (omega arith) (omega arith)

pub sound_registered : (e : Epr) → Fits e
    → Sound (body_element (message.Registered e)) 20 5000 (further_named e.parameters)
sound_registered e fits =
    let service = sound_endpoint (wscoor_is (codes "CoordinatorProtocolService") refl) e fits in
    wider 20 5000 (sound_element (wscoor_is (codes "RegisterResponse") refl) (one_sound service)) (omega arith) (omega arith)

-- ---- contexts

pub kind_is : (k : Kind) → is_brief (kind_uri (Some k)) ≡ true
kind_is Atomic = refl
kind_is Mixed = refl

-- an Expires that may be left out, and what stands after it
sound_expires : (expires : Option ℕ) → IfSome expires (λ n. n < 2 ^ 32) → {ts : List Tree} {deep size : ℕ} {xs : List (List ℕ)}
    → AllSound ts deep size xs → 1 ≤ deep → AllSound (expires_part expires ++ ts) deep (200 + size) xs
sound_expires None h {ts} {deep} {size} all l = all_wider deep (200 + size) all (omega arith) (omega arith)
sound_expires (Some n) h {ts} {deep} {size} all l =
    let small : n < 2 ^ 64 = omega arith in
    let is = number_text n small in
    let few : n < 10 ^ 10 = omega arith in
    let digits : length (decimal n) ≤ 10 = length-decimal-le 10 n (omega arith) few small in
    let text = sound_text (wscoor_is (codes "Expires") refl) (plain_is_said (decimal n) is.plain is.there) in
    all_wider deep (200 + size) (more_sound text all) (omega arith) (omega arith)

module _ (local : List ℕ) (plain : is_plain_name local ≡ true) (brief : length local ≤ 32) where
  sound_context : (identifier : List ℕ) (expires : Option ℕ) (k : Kind) (e : Epr) → IsIdentifier identifier
      → IfSome expires (λ n. n < 2 ^ 32) → Fits e
      → Sound (context_element local (record { identifier = identifier; expires = expires; kind = Some k; registration = e })) 20 6600
      (further_named e.parameters)
  sound_context identifier expires k e is time fits =
      let said : IsSaid identifier = record { legal = is.legal; there = is.named } in
      let short = is.short in
      let first = sound_text (wscoor_is (codes "Identifier") refl) said in
      let uri = brief_text (wscoor_is (codes "CoordinationType") refl) (kind_uri (Some k)) (kind_is k) in
      let service = sound_endpoint (wscoor_is (codes "RegistrationService") refl) e fits in
      let last = all_wider 18 4700 (more_sound uri (one_sound service)) (omega arith) (omega arith) in
      let inner = more_sound first (sound_expires expires time last (omega arith)) in
      wider 20 6600 (sound_element (wscoor_is local plain) inner) (omega arith) (omega arith)

pub sound_created : (identifier : List ℕ) (expires : Option ℕ) (k : Kind) (e : Epr) → IsIdentifier identifier
    → IfSome expires (λ n. n < 2 ^ 32) → Fits e
    → Sound (body_element (message.Created (record { identifier = identifier; expires = expires; kind = Some k; registration = e })))
    21 6800 (further_named e.parameters)
sound_created identifier expires k e is time fits =
    let inner = sound_context (codes "CoordinationContext") refl (omega arith) identifier expires k e is time fits in
    wider 21 6800 (sound_element (wscoor_is (codes "CreateCoordinationContextResponse") refl) (one_sound inner))
    (omega arith) (omega arith)
