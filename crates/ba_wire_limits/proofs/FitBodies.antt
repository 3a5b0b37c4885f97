-- The body element of a message that was read from an element that keeps the rules keeps them: for the law on what was read.
use Rattle.std.proofs.Common.{◌≡◌, ℕ, ◌^◌, ◌<◌, Bool, true, false, ◌&&◌, List, [], ◌∷◌, ◌++◌, Option, Some, None, IfSome, nat_le}
use Rattle.std.proofs.Common.{codes, decimal, refl, arith}
use Rattle.std.proofs.lemmas.Bool.{leb-true}
use Rattle.std.specs.Cmp.{first_so, second_so}
use Rattle.std.specs.List.{list_all}
use Rattle.std.specs.Option.{is_some}
use Rattle.std.specs.Str.Parse.{digits_value}
use Rattle.ba_core.specs.declared.notices.Notice.TheVariants as notice
use Rattle.ba_core.specs.declared.protocols.Kind.{Kind}
use Rattle.ba_core.specs.declared.protocols.Protocol.{Protocol}
use Rattle.ba_core.specs.declared.protocols.Protocol.TheVariants.{Pc, Cc}
use Rattle.ba_message.specs.declared.endpoints.Epr.{Epr}
use Rattle.ba_message.specs.declared.messages.Context.{Context}
use Rattle.ba_message.specs.declared.messages.Message.TheVariants as message
use Rattle.ba_message.specs.Endpoints.{Fits}
use Rattle.ba_message.proofs.PlainTexts.{and_both, plain_is_legal}
use Rattle.ba_soap_shapes.specs.declared.forms.TheConstants.{MOST_NUMBER}
use Rattle.ba_soap_shapes.specs.Elements.{text_of}
use Rattle.ba_soap_shapes.specs.Endpoints.{child_at, endpoint_element, text_at, text_in}
use Rattle.ba_soap_shapes.specs.Forms.{is_number, is_there, local_part}
use Rattle.ba_soap_shapes.specs.Shapes.{rows_misfit}
use Rattle.ba_tree.specs.declared.trees.Tree.{Tree}
use Rattle.ba_tree.specs.Characters.{is_legal_text}
use Rattle.ba_tree.specs.Names.{is_digit, is_plain_name}
use Rattle.ba_tree.specs.Namespaces.{own_space}
use Rattle.ba_tree.specs.Trees.{is_fit_name, is_fit_tree}
use Rattle.ba_wire.specs.declared.bodies.Body.{Body}
use Rattle.ba_wire.specs.declared.bodies.Body.TheVariants as body
use Rattle.ba_wire.specs.Bodies.{code_of, coordination_type_line, coordinator_service_line, endpoint_at, fault_code_line, number_at}
use Rattle.ba_wire.specs.Bodies.{participant_service_line, protocol_identifier_line, state_line, state_of, upward_line}
use Rattle.ba_wire.specs.Bodies.{body_look, context_in, context_lines, context_of, coordination_context_line, current_context_line}
use Rattle.ba_wire.specs.Bodies.{empty_context, expires_line, identifier_line, in_whole, kind_of, lines_of_body, message_of, number_by}
use Rattle.ba_wire.specs.Bodies.{number_in, part_look, protocol_of, registration_service_line, up_in, value_or, whole_look}
use Rattle.ba_wire.specs.Elements.{body_element, context_element, context_parts, current_part, expires_part, kind_uri, own_name}
use Rattle.ba_wire.specs.Elements.{text_in_element, type_part, upward_part, wscoor_name}
use Rattle.ba_wire.specs.Envelopes.{is_known, is_known_context}
use Rattle.ba_wire_limits.proofs.BriefTexts.{brief_said, number_text, plain_is_said}
use Rattle.ba_wire_limits.proofs.ReadBodies.{body_is_read, registration_fits, text_there}
use Rattle.ba_wire_limits.proofs.ReadRules.{OptionFits, child_at_fits, text_is_said}
use Rattle.ba_wire_limits.proofs.ReadShapes.{LineHolds, each_holds}
use Rattle.ba_wire_limits.proofs.SoundBodies.{kind_is, sound_fault, sound_notice, sound_register, sound_registered}
use Rattle.ba_wire_limits.proofs.SoundEndpoints.{sound_endpoint}
use Rattle.ba_wire_limits.proofs.SoundNames.{wscoor_is}
use Rattle.ba_wire_limits.proofs.SoundTrees.{IsSaid, fit_element, fit_text}

pub fit_append : (xs ys : List Tree) → list_all is_fit_tree xs ≡ true → list_all is_fit_tree ys ≡ true
    → list_all is_fit_tree (xs ++ ys) ≡ true
fit_append [] ys h k = k
fit_append (x ∷ xs) ys h k =
    and_both (is_fit_tree x) (list_all is_fit_tree (xs ++ ys)) (first_so (is_fit_tree x) (list_all is_fit_tree xs) h)
    (fit_append xs ys (second_so (is_fit_tree x) (list_all is_fit_tree xs) h) k)

alone : (t : Tree) → is_fit_tree t ≡ true → list_all is_fit_tree (t ∷ []) ≡ true
alone t h = and_both (is_fit_tree t) true h refl

-- ---- parts

wscoor_fit : (local : List ℕ) → is_plain_name local ≡ true → is_fit_name (wscoor_name local) ≡ true
wscoor_fit local plain = let is = wscoor_is local plain in is.fit

abbrev TimeIsSmall : Option ℕ → Type 0
TimeIsSmall expires = IfSome expires (λ n. n < 2 ^ 64)

expires_fit : (expires : Option ℕ) → TimeIsSmall expires → list_all is_fit_tree (expires_part expires) ≡ true
expires_fit None h = refl
expires_fit (Some n) h =
    let is = number_text n h in
    let said = plain_is_said (decimal n) is.plain is.there in
    alone (text_in_element (wscoor_name (codes "Expires")) (decimal n))
    (fit_text (wscoor_name (codes "Expires")) (wscoor_fit (codes "Expires") refl) (decimal n) said)

type_fit : (kind : Option Kind) → is_some kind ≡ true → is_fit_tree (type_part kind) ≡ true
type_fit None h = cc
type_fit (Some k) h =
    fit_text (wscoor_name (codes "CoordinationType")) (wscoor_fit (codes "CoordinationType") refl) (kind_uri (Some k))
    (brief_said (kind_uri (Some k)) (kind_is k))

-- ---- contexts

record IsFitContext (c : Context) : Type 0 where
  identifier : IsSaid c.identifier
  time : TimeIsSmall c.expires
  kind : is_some c.kind ≡ true
  registration : Fits c.registration

context_fit : (local : List ℕ) → is_plain_name local ≡ true → (c : Context) → IsFitContext c
    → is_fit_tree (context_element local c) ≡ true
context_fit local plain c is =
    let service = sound_endpoint (wscoor_is (codes "RegistrationService") refl) c.registration is.registration in
    let served : Tree = endpoint_element (wscoor_name (codes "RegistrationService")) c.registration in
    let rest : List Tree = type_part c.kind ∷ served ∷ [] in
    let last : list_all is_fit_tree rest ≡ true =
    and_both (is_fit_tree (type_part c.kind)) (list_all is_fit_tree (served ∷ [])) (type_fit c.kind is.kind)
    (alone served service.fit) in
    let named : Tree = text_in_element (wscoor_name (codes "Identifier")) c.identifier in
    let begun : is_fit_tree named ≡ true =
    fit_text (wscoor_name (codes "Identifier")) (wscoor_fit (codes "Identifier") refl) c.identifier is.identifier in
    fit_element (wscoor_name local) (wscoor_fit local plain) (context_parts c)
    (and_both (is_fit_tree named) (list_all is_fit_tree (expires_part c.expires ++ rest)) begun
    (fit_append (expires_part c.expires) rest (expires_fit c.expires is.time) last))

small_number : (text : List ℕ) → is_number text ≡ true → digits_value 10 text < 2 ^ 64
small_number text h =
    let digits = second_so (is_there text) (list_all is_digit text && nat_le (digits_value 10 text) MOST_NUMBER) h in
    let small = second_so (list_all is_digit text) (nat_le (digits_value 10 text) MOST_NUMBER) digits in
    let most = leb-true (digits_value 10 text) MOST_NUMBER small in
    omega arith

time_is_small : (o : Option Tree) → TimeIsSmall (number_in o)
time_is_small None = tt
time_is_small (Some t) = by (is_number (text_of t)) refl
  where
    by : (b : Bool) → is_number (text_of t) ≡ b → TimeIsSmall (number_by b (text_of t))
    by true e = small_number (text_of t) e
    by false e = tt

identifier_said : (o : Option Tree) → LineHolds part_look identifier_line o → OptionFits o → IsSaid (text_in o)
identifier_said None h fit = absurd (cc)
identifier_said (Some t) h fit = text_is_said t fit (text_there t h.0 h.1)

read_context_fits : (n : ℕ) (t : Tree) → rows_misfit part_look context_lines n t ≡ None → is_fit_tree t ≡ true
    → is_some (context_of t).kind ≡ true → IsFitContext (context_of t)
read_context_fits n t h fit known =
    let lines = each_holds part_look context_lines n t h in
    record {
      identifier = identifier_said (child_at identifier_line t) lines.0 (child_at_fits identifier_line t fit);
      time = time_is_small (child_at expires_line t);
      kind = known;
      registration = registration_fits (child_at registration_service_line t) lines.1.1.1.0;
    }

-- ---- bodies

current_fit : (o : Option Tree) → LineHolds whole_look current_context_line o → OptionFits o
    → is_known_context (context_in o) ≡ true → list_all is_fit_tree (current_part (context_in o)) ≡ true
current_fit None h fit known = refl
current_fit (Some t) h fit known =
    alone (context_element (codes "CurrentContext") (context_of t))
    (context_fit (codes "CurrentContext") refl (context_of t) (read_context_fits h.0 t h.1 fit known))

created_fit : (o : Option Tree) → LineHolds whole_look coordination_context_line o → OptionFits o
    → is_some (value_or empty_context (context_in o)).kind ≡ true
    → is_fit_tree (body_element (message.Created (value_or empty_context (context_in o)))) ≡ true
created_fit None h fit known = absurd (cc)
created_fit (Some t) h fit known =
    let inner = context_fit (codes "CoordinationContext") refl (context_of t) (read_context_fits h.0 t h.1 fit known) in
    fit_element (wscoor_name (codes "CreateCoordinationContextResponse"))
    (wscoor_fit (codes "CreateCoordinationContextResponse") refl)
    (context_element (codes "CoordinationContext") (context_of t) ∷ [])
    (alone (context_element (codes "CoordinationContext") (context_of t)) inner)

own_fit : is_fit_name (own_name (codes "Upward")) ≡ true
own_fit = and_both (is_plain_name (codes "Upward")) (is_legal_text own_space) refl (plain_is_legal own_space refl)

upward_fit : (p : Protocol) → list_all is_fit_tree (upward_part p) ≡ true
upward_fit Pc = refl
upward_fit Cc =
    alone (text_in_element (own_name (codes "Upward")) (codes "cc"))
    (fit_text (own_name (codes "Upward")) own_fit (codes "cc") (brief_said (codes "cc") refl))

register_fit : (p : Option Protocol) (e : Epr) → is_some p ≡ true → Fits e
    → is_fit_tree (body_element (message.Register p e)) ≡ true
register_fit None e known fits = cc
register_fit (Some p) e known fits = let s = sound_register p e fits in s.fit

create_fit : (expires : Option ℕ) (current : Option Context) (kind : Option Kind) (up : Protocol) → TimeIsSmall expires
    → list_all is_fit_tree (current_part current) ≡ true → is_some kind ≡ true
    → is_fit_tree (body_element (message.Create expires current kind up)) ≡ true
create_fit expires current kind up time inner known =
    let last = and_both (is_fit_tree (type_part kind)) (list_all is_fit_tree (upward_part up)) (type_fit kind known) (upward_fit up) in
    fit_element (wscoor_name (codes "CreateCoordinationContext")) (wscoor_fit (codes "CreateCoordinationContext") refl)
    (expires_part expires ++ (current_part current ++ (type_part kind ∷ upward_part up)))
    (fit_append (expires_part expires) (current_part current ++ (type_part kind ∷ upward_part up)) (expires_fit expires time)
    (fit_append (current_part current) (type_part kind ∷ upward_part up) inner last))

pub body_fits : (b : Body) (n : ℕ) (t : Tree) → body_look b n t ≡ None → is_fit_tree t ≡ true
    → is_known (message_of b t) ≡ true → is_fit_tree (body_element (message_of b t)) ≡ true
body_fits body.Create n t h fit known =
    let lines = each_holds whole_look (lines_of_body body.Create) n t h in
    let current = child_at current_context_line t in
    let kind = kind_of (text_at (in_whole coordination_type_line) t) in
    let inner =
    current_fit current lines.1.0 (child_at_fits current_context_line t fit)
    (first_so (is_known_context (context_in current)) (is_some kind) known) in
    create_fit (number_at (in_whole expires_line) t) (context_in current) kind (up_in (child_at upward_line t))
    (time_is_small (child_at (in_whole expires_line) t)) inner
    (second_so (is_known_context (context_in current)) (is_some kind) known)
body_fits body.Created n t h fit known =
    let lines = each_holds whole_look (lines_of_body body.Created) n t h in
    created_fit (child_at coordination_context_line t) lines.0 (child_at_fits coordination_context_line t fit) known
body_fits body.Register n t h fit known =
    let is = body_is_read body.Register n t h in
    register_fit (protocol_of (text_at protocol_identifier_line t)) (endpoint_at participant_service_line t) known is.0
body_fits body.Registered n t h fit known =
    let is = body_is_read body.Registered n t h in
    let s = sound_registered (endpoint_at coordinator_service_line t) is.0 in
    s.fit
body_fits body.Status n t h fit known =
    let s = sound_notice (notice.Status (state_of (local_part (text_at state_line t)))) in
    s.fit
body_fits (body.Notice m) n t h fit known = let s = sound_notice m in s.fit
body_fits body.Fault n t h fit known = let s = sound_fault (code_of (local_part (text_at fault_code_line t))) in s.fit
