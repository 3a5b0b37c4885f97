-- The canonical text of a letter or a reply without parameters is what is put piece by piece: for `encode`.
use Rattle.std.proofs.Common.{◌≡◌, ℕ, Bool, true, false, not, ◌&&◌, List, [], ◌∷◌, ◌++◌, Some, None, if◌then◌else◌, nat_eq, codes}
use Rattle.std.proofs.Common.{map, refl, sym, ap, ◌∙◌, subst}
use Rattle.std.specs.Cmp.{first_so, second_so}
use Rattle.ba_core.specs.declared.notices.Notice.{Notice}
use Rattle.ba_core.specs.declared.notices.Notice.TheVariants as notice
use Rattle.ba_core.specs.declared.protocols.Protocol.{Protocol}
use Rattle.ba_core.specs.declared.protocols.Protocol.TheVariants.{Pc, Cc}
use Rattle.ba_message.specs.declared.endpoints.Epr.{Epr}
use Rattle.ba_message.specs.declared.messages.Message.{Message}
use Rattle.ba_message.specs.declared.messages.Message.TheVariants as message
use Rattle.ba_wire_limits.proofs.FixedSpaces.{soap_fixed, wsa_fixed, wsba_fixed, wscoor_fixed}
use Rattle.ba_wire_limits.specs.Replies.{reply_route}
use Rattle.ba_soap_shapes.specs.Endpoints.{bare_element, endpoint_element, wsa_name}
use Rattle.ba_soap.specs.declared.headers.Header.{Header}
use Rattle.ba_soap.specs.declared.headers.Header.TheVariants as header
use Rattle.ba_soap.specs.Elements.{endpoint_block, none_endpoint, soap_element, source_blocks, text_block}
use Rattle.ba_soap.specs.Envelopes.{header_name, soap11}
use Rattle.ba_tree.specs.declared.trees.Name.{Name}
use Rattle.ba_tree.specs.declared.trees.Tree.{Tree}
use Rattle.ba_tree.specs.declared.trees.Content.TheVariants.{Child, Text}
use Rattle.ba_wire.specs.Elements.{body_element, protocol_uri, text_in_element, wsba_name, wscoor_name}
use Rattle.ba_wire.specs.Envelopes.{action_for, envelope_text, notice_tree}
use Rattle.ba_xml_writer.proofs.Children.{child_text}
use Rattle.ba_xml_writer.specs.Namespaces.{Declaration, declared, is_further, text_scope, xml_space, soap_space, wsa_space, wscoor_space}
use Rattle.ba_xml_writer.specs.Namespaces.{wsba_space}
use Rattle.ba_xml_writer.specs.OneText.{declaration_texts, ending, escaped, is_empty, items, qualified, root_text, spelled, text_escapes}
use Rattle.ba_xml_writer.specs.OneText.{one_text, tree_text}
use Rattle.ba_wire_short.specs.declared.pieces.TheConstants as piece
use Rattle.ba_wire_short.proofs.NoFurther.{AllHaveNone, HasNone, and_more, element_has_none, none_further, text_has_none}
use Rattle.ba_wire_short.specs.inside.Texts.{action_text, before_participant, body_text, has_none, is_direct, is_direct_endpoint, is_itself}
use Rattle.ba_wire_short.specs.inside.Texts.{is_unescaped, letter_pieces, letter_route, notice_pieces, reply_pieces}

-- ---- bytes that are written as themselves

itself : (b : ℕ) (rest : List ℕ) → is_itself b ≡ true → spelled text_escapes b rest ≡ b ∷ rest
itself b rest = by (nat_eq b 38) (nat_eq b 60) (nat_eq b 62) (nat_eq b 13)
  where
    by : (p q r s : Bool) → (not p && (not q && (not r && not s))) ≡ true
        → (if p then codes "&amp;" ++ rest else if q then codes "&lt;" ++ rest else if r then codes "&gt;" ++ rest
        else if s then codes "&#13;" ++ rest else b ∷ rest) ≡ b ∷ rest
    by false false false false h = refl
    by false false false true h = cc
    by false false true s h = cc
    by false true r s h = cc
    by true q r s h = cc

as_it_stands : (text rest : List ℕ) → is_unescaped text ≡ true → escaped text_escapes text rest ≡ text ++ rest
as_it_stands [] rest h = refl
as_it_stands (b ∷ bytes) rest h =
    itself b (escaped text_escapes bytes rest) (first_so (is_itself b) (is_unescaped bytes) h)
    ∙ ap (λ l. b ∷ l) (as_it_stands bytes rest (second_so (is_itself b) (is_unescaped bytes) h))

-- ---- elements of elements

abbrev scope : List Declaration
scope = text_scope []

-- trees beside each other, and then what follows
abbrev trees_text : List Tree → List ℕ → List ℕ
trees_text [] rest = rest
trees_text (t ∷ ts) rest = tree_text scope [] t (trees_text ts rest)

children_text : (ts : List Tree) (rest : List ℕ) → items scope (map Child ts) rest ≡ trees_text ts rest
children_text [] rest = refl
children_text (t ∷ ts) rest =
    child_text scope t (items scope (map Child ts) rest) ∙ ap (tree_text scope [] t) (children_text ts rest)

-- an element of trees, whose tag declares `own`
abbrev of_trees : List Declaration → Name → List Tree → List ℕ → List ℕ
of_trees own n ts rest =
    codes "<" ++ qualified scope n (declaration_texts own (ending scope n (is_empty (map Child ts)) (trees_text ts) rest))

-- an element whose content puts this text before what follows
abbrev of_trees_by : Name → (List ℕ → List ℕ) → List ℕ → List ℕ
of_trees_by n inside rest = codes "<" ++ qualified scope n (ending scope n false inside rest)

element_text : (own : List Declaration) (n : Name) (ts : List Tree) (rest : List ℕ)
    → tree_text scope own (bare_element n (map Child ts)) rest ≡ of_trees own n ts rest
element_text own n ts rest =
    λ i. codes "<" ++ qualified scope n (declaration_texts own
    (ending scope n (is_empty (map Child ts)) (λ more. children_text ts more i) rest))

-- ---- envelopes

abbrev soap_name : List ℕ → Name
soap_name local = record { space = soap11.space; local = local }

abbrev letter_blocks : List ℕ → List ℕ → List ℕ → List Tree
letter_blocks to action number = text_block header.To to ∷ text_block header.Action action ∷ text_block header.MessageID number ∷ []

abbrev reply_blocks : List ℕ → List ℕ → List Tree
reply_blocks action related = text_block header.Action action ∷ text_block header.RelatesTo related ∷ []

abbrev envelope : List Tree → Tree → Tree
envelope blocks body =
    soap_element soap11 (codes "Envelope") (soap_element soap11 (codes "Header") blocks
    ∷ soap_element soap11 (codes "Body") (body ∷ []) ∷ [])

-- the canonical text of an envelope, where its header blocks and its body put these texts before what follows
abbrev around : (List ℕ → List ℕ) → (List ℕ → List ℕ) → List ℕ
around header body =
    codes "<" ++ qualified scope (soap_name (codes "Envelope"))
    (declaration_texts (declared []) (ending scope (soap_name (codes "Envelope")) false
    (λ more. header (body more)) []))

envelope_is : (blocks : List Tree) (body : Tree)
    → root_text [] (envelope blocks body)
    ≡ around (of_trees [] (soap_name (codes "Header")) blocks) (of_trees [] (soap_name (codes "Body")) (body ∷ []))
envelope_is blocks body =
    element_text (declared []) (soap_name (codes "Envelope"))
    (soap_element soap11 (codes "Header") blocks ∷ soap_element soap11 (codes "Body") (body ∷ []) ∷ []) []
    ∙ (λ i. around (λ rest. element_text [] (soap_name (codes "Header")) blocks rest i)
    (λ rest. element_text [] (soap_name (codes "Body")) (body ∷ []) rest i))

abbrev escaped_letter : List ℕ → List ℕ → List ℕ → (List ℕ → List ℕ) → List ℕ
escaped_letter to action number body =
    piece.ENVELOPE.now
    ++ (piece.TO.now ++ escaped text_escapes to (piece.TO_ACTION.now ++ escaped text_escapes action (piece.ACTION_NUMBER.now
    ++ escaped text_escapes number (piece.NUMBER_BODY.now ++ body (piece.END.now ++ [])))))

abbrev escaped_reply : List ℕ → List ℕ → (List ℕ → List ℕ) → List ℕ
escaped_reply action related body =
    piece.ENVELOPE.now
    ++ (piece.ACTION.now ++ escaped text_escapes action (piece.ACTION_RELATED.now
    ++ escaped text_escapes related (piece.RELATED_BODY.now ++ body (piece.END.now ++ []))))

letter_around : (to action number : List ℕ) (body : Tree)
    → around (of_trees [] (soap_name (codes "Header")) (letter_blocks to action number))
    (of_trees [] (soap_name (codes "Body")) (body ∷ []))
    ≡ escaped_letter to action number (tree_text scope [] body)
unfolding xml_space soap_space wsa_space wscoor_space wsba_space
letter_around to action number body = refl

reply_around : (action related : List ℕ) (body : Tree)
    → around (of_trees [] (soap_name (codes "Header")) (reply_blocks action related)) (of_trees [] (soap_name (codes "Body")) (body ∷ []))
    ≡ escaped_reply action related (tree_text scope [] body)
unfolding xml_space soap_space wsa_space wscoor_space wsba_space
reply_around action related body = refl

-- ---- letters of notices

-- an endpoint reference without parameters
abbrev own : List ℕ → Epr
own address = record { address = address; parameters = [] }

abbrev address_tree : List ℕ → Tree
address_tree address = bare_element (wsa_name (codes "Address")) (Text address ∷ [])

abbrev notice_blocks : List ℕ → List ℕ → List ℕ → List ℕ → List Tree
notice_blocks source to action number =
    text_block header.To to ∷ text_block header.Action action ∷ text_block header.MessageID number ∷ source_blocks (own source)

-- the Header of a letter, where two blocks more put these texts before what follows
abbrev header_with : List ℕ → List ℕ → List ℕ → (List ℕ → List ℕ) → (List ℕ → List ℕ) → List ℕ → List ℕ
header_with to action number from wanted rest =
    codes "<" ++ qualified scope (soap_name (codes "Header")) (ending scope (soap_name (codes "Header")) false
    (λ more. trees_text (letter_blocks to action number) (from (wanted more))) rest)

header_is : (source to action number rest : List ℕ)
    → of_trees [] (soap_name (codes "Header")) (notice_blocks source to action number) rest
    ≡ header_with to action number (of_trees [] (wsa_name (codes "From")) (address_tree source ∷ []))
    (of_trees [] (wsa_name (codes "ReplyTo")) (address_tree none_endpoint.address ∷ [])) rest
header_is source to action number rest =
    λ i. header_with to action number (λ more. element_text [] (wsa_name (codes "From")) (address_tree source ∷ []) more i)
    (λ more. element_text [] (wsa_name (codes "ReplyTo")) (address_tree none_endpoint.address ∷ []) more i) rest

abbrev escaped_notice : List ℕ → List ℕ → List ℕ → List ℕ → (List ℕ → List ℕ) → List ℕ
escaped_notice source to action number body =
    piece.ENVELOPE.now
    ++ (piece.TO.now ++ escaped text_escapes to (piece.TO_ACTION.now ++ escaped text_escapes action (piece.ACTION_NUMBER.now
    ++ escaped text_escapes number (piece.NUMBER_SOURCE.now ++ escaped text_escapes source (piece.SOURCE_BODY.now
    ++ body (piece.END.now ++ []))))))

notice_around : (source to action number : List ℕ) (body : Tree)
    → around (header_with to action number (of_trees [] (wsa_name (codes "From")) (address_tree source ∷ []))
    (of_trees [] (wsa_name (codes "ReplyTo")) (address_tree none_endpoint.address ∷ [])))
    (of_trees [] (soap_name (codes "Body")) (body ∷ []))
    ≡ escaped_notice source to action number (tree_text scope [] body)
unfolding xml_space soap_space wsa_space wscoor_space wsba_space
notice_around source to action number body = refl

-- ---- bodies

notice_put : (local rest : List ℕ) → tree_text scope [] (bare_element (wsba_name local) []) rest
    ≡ piece.NOTICE.now ++ (local ++ (piece.NOTICE_END.now ++ rest))
unfolding xml_space soap_space wsa_space wscoor_space wsba_space
notice_put local rest = refl

-- what the element of Fail holds
abbrev exception : Tree
exception = text_in_element (wsba_name (codes "ExceptionIdentifier")) (codes "wsba:Fail")

fail_put : (rest : List ℕ) → of_trees [] (wsba_name (codes "Fail")) (exception ∷ []) rest
    ≡ piece.FAIL.now ++ rest
unfolding xml_space soap_space wsa_space wscoor_space wsba_space
fail_put rest = refl

abbrev participant_name : Name
participant_name = wscoor_name (codes "ParticipantProtocolService")

abbrev coordinator_name : Name
coordinator_name = wscoor_name (codes "CoordinatorProtocolService")

-- the body of Register, where its endpoint puts this text before what follows
abbrev register_around : Protocol → (List ℕ → List ℕ) → List ℕ → List ℕ
register_around p endpoint rest =
    codes "<" ++ qualified scope (wscoor_name (codes "Register")) (ending scope (wscoor_name (codes "Register")) false
    (λ more. tree_text scope [] (text_in_element (wscoor_name (codes "ProtocolIdentifier")) (protocol_uri (Some p))) (endpoint more)) rest)

register_pieces : (p : Protocol) (address rest : List ℕ)
    → register_around p (of_trees [] participant_name (address_tree address ∷ [])) rest
    ≡ before_participant (Some p) ++ escaped text_escapes address (piece.REGISTER_END.now ++ rest)
unfolding xml_space soap_space wsa_space wscoor_space wsba_space
register_pieces Pc address rest = refl
register_pieces Cc address rest = refl

register_put : (p : Protocol) (address rest : List ℕ) → tree_text scope [] (body_element (message.Register (Some p) (own address))) rest
    ≡ before_participant (Some p) ++ escaped text_escapes address (piece.REGISTER_END.now ++ rest)
register_put p address rest =
    element_text [] (wscoor_name (codes "Register"))
    (text_in_element (wscoor_name (codes "ProtocolIdentifier")) (protocol_uri (Some p))
    ∷ endpoint_element participant_name (own address) ∷ [])
    rest
    ∙ (λ i. register_around p (λ more. element_text [] participant_name (address_tree address ∷ []) more i) rest)
    ∙ register_pieces p address rest

registered_pieces : (address rest : List ℕ)
    → of_trees_by (wscoor_name (codes "RegisterResponse")) (of_trees [] coordinator_name (address_tree address ∷ [])) rest
    ≡ piece.REGISTERED.now ++ escaped text_escapes address (piece.REGISTERED_END.now ++ rest)
unfolding xml_space soap_space wsa_space wscoor_space wsba_space
registered_pieces address rest = refl

registered_put : (address rest : List ℕ) → tree_text scope [] (body_element (message.Registered (own address))) rest
    ≡ piece.REGISTERED.now ++ escaped text_escapes address (piece.REGISTERED_END.now ++ rest)
registered_put address rest =
    element_text [] (wscoor_name (codes "RegisterResponse")) (endpoint_element coordinator_name (own address) ∷ []) rest
    ∙ (λ i. of_trees_by (wscoor_name (codes "RegisterResponse"))
    (λ more. element_text [] coordinator_name (address_tree address ∷ []) more i) rest)
    ∙ registered_pieces address rest

-- ---- what is put of each message

record IsPut (m : Message) : Type 0 where
  action : is_unescaped (action_for m) ≡ true
  action_put : (rest : List ℕ) → action_for m ++ rest ≡ action_text m rest
  body_put : (rest : List ℕ) → tree_text scope [] (body_element m) rest ≡ body_text m rest
  body_plain : HasNone (body_element m)

empty_plain : (local : List ℕ) → HasNone (bare_element (wsba_name local) [])
empty_plain local = element_has_none (wsba_name local) [] wsba_fixed refl

notice_is_put : (n : Notice) → is_direct (message.Notice n) ≡ true → IsPut (message.Notice n)
notice_is_put (notice.Status state) h = cc
notice_is_put notice.Fail h = record {
  action = refl;
  action_put = λ rest. refl;
  body_put = λ rest. element_text [] (wsba_name (codes "Fail")) (exception ∷ []) rest ∙ fail_put rest;
  body_plain =
      element_has_none (wsba_name (codes "Fail")) (exception ∷ []) wsba_fixed
      (and_more exception [] (text_has_none (wsba_name (codes "ExceptionIdentifier")) (codes "wsba:Fail") wsba_fixed) refl);
}
notice_is_put notice.Complete h = record {
  action = refl;
  action_put = λ rest. refl;
  body_put = notice_put (codes "Complete");
  body_plain = empty_plain (codes "Complete");
}
notice_is_put notice.Close h = record {
  action = refl;
  action_put = λ rest. refl;
  body_put = notice_put (codes "Close");
  body_plain = empty_plain (codes "Close");
}
notice_is_put notice.Cancel h = record {
  action = refl;
  action_put = λ rest. refl;
  body_put = notice_put (codes "Cancel");
  body_plain = empty_plain (codes "Cancel");
}
notice_is_put notice.Compensate h = record {
  action = refl;
  action_put = λ rest. refl;
  body_put = notice_put (codes "Compensate");
  body_plain = empty_plain (codes "Compensate");
}
notice_is_put notice.Failed h = record {
  action = refl;
  action_put = λ rest. refl;
  body_put = notice_put (codes "Failed");
  body_plain = empty_plain (codes "Failed");
}
notice_is_put notice.Exited h = record {
  action = refl;
  action_put = λ rest. refl;
  body_put = notice_put (codes "Exited");
  body_plain = empty_plain (codes "Exited");
}
notice_is_put notice.NotCompleted h = record {
  action = refl;
  action_put = λ rest. refl;
  body_put = notice_put (codes "NotCompleted");
  body_plain = empty_plain (codes "NotCompleted");
}
notice_is_put notice.Completed h = record {
  action = refl;
  action_put = λ rest. refl;
  body_put = notice_put (codes "Completed");
  body_plain = empty_plain (codes "Completed");
}
notice_is_put notice.Closed h = record {
  action = refl;
  action_put = λ rest. refl;
  body_put = notice_put (codes "Closed");
  body_plain = empty_plain (codes "Closed");
}
notice_is_put notice.Canceled h = record {
  action = refl;
  action_put = λ rest. refl;
  body_put = notice_put (codes "Canceled");
  body_plain = empty_plain (codes "Canceled");
}
notice_is_put notice.Compensated h = record {
  action = refl;
  action_put = λ rest. refl;
  body_put = notice_put (codes "Compensated");
  body_plain = empty_plain (codes "Compensated");
}
notice_is_put notice.Exit h = record {
  action = refl;
  action_put = λ rest. refl;
  body_put = notice_put (codes "Exit");
  body_plain = empty_plain (codes "Exit");
}
notice_is_put notice.CannotComplete h = record {
  action = refl;
  action_put = λ rest. refl;
  body_put = notice_put (codes "CannotComplete");
  body_plain = empty_plain (codes "CannotComplete");
}
notice_is_put notice.GetStatus h = record {
  action = refl;
  action_put = λ rest. refl;
  body_put = notice_put (codes "GetStatus");
  body_plain = empty_plain (codes "GetStatus");
}

own_is : (e : Epr) → is_direct_endpoint e ≡ true → own e.address ≡ e
own_is e h = by e.parameters (first_so (has_none e.parameters) (is_unescaped e.address) h) refl
  where
    by : (ps : List Tree) → has_none ps ≡ true → e.parameters ≡ ps → own e.address ≡ e
    by [] none is = λ i. record { address = e.address; parameters = sym is i }
    by (p ∷ ps) none is = cc

endpoint_plain : (n : Name) (address : List ℕ) → is_further n.space ≡ false → HasNone (endpoint_element n (own address))
endpoint_plain n address fixed =
    element_has_none n (address_tree address ∷ []) fixed
    (and_more (address_tree address) [] (text_has_none (wsa_name (codes "Address")) address wsa_fixed) refl)

register_is_put : (p : Protocol) (address : List ℕ) → is_unescaped address ≡ true → IsPut (message.Register (Some p) (own address))
register_is_put p address h = record {
  action = refl;
  action_put = λ rest. refl;
  body_put =
      λ rest. register_put p address rest
      ∙ ap (λ l. before_participant (Some p) ++ l) (as_it_stands address (piece.REGISTER_END.now ++ rest) h);
  body_plain =
      let protocol = text_in_element (wscoor_name (codes "ProtocolIdentifier")) (protocol_uri (Some p)) in
      let endpoint = endpoint_element participant_name (own address) in
      element_has_none (wscoor_name (codes "Register")) (protocol ∷ endpoint ∷ []) wscoor_fixed
      (and_more protocol (endpoint ∷ []) (text_has_none (wscoor_name (codes "ProtocolIdentifier")) (protocol_uri (Some p)) wscoor_fixed)
      (and_more endpoint [] (endpoint_plain participant_name address wscoor_fixed) refl));
}

registered_is_put : (address : List ℕ) → is_unescaped address ≡ true → IsPut (message.Registered (own address))
registered_is_put address h = record {
  action = refl;
  action_put = λ rest. refl;
  body_put =
      λ rest. registered_put address rest
      ∙ ap (λ l. piece.REGISTERED.now ++ l) (as_it_stands address (piece.REGISTERED_END.now ++ rest) h);
  body_plain =
      let endpoint = endpoint_element coordinator_name (own address) in
      element_has_none (wscoor_name (codes "RegisterResponse")) (endpoint ∷ []) wscoor_fixed
      (and_more endpoint [] (endpoint_plain coordinator_name address wscoor_fixed) refl);
}

is_put : (m : Message) → is_direct m ≡ true → IsPut m
is_put (message.Notice n) h = notice_is_put n h
is_put (message.Register (Some p) e) h =
    subst (λ (x : Epr). IsPut (message.Register (Some p) x)) (own_is e h)
    (register_is_put p e.address (second_so (has_none e.parameters) (is_unescaped e.address) h))
is_put (message.Registered e) h =
    subst (λ (x : Epr). IsPut (message.Registered x)) (own_is e h)
    (registered_is_put e.address (second_so (has_none e.parameters) (is_unescaped e.address) h))
is_put (message.Register None e) h = cc
is_put (message.Create expires current kind up) h = cc
is_put (message.Created context) h = cc
is_put (message.Fault code) h = cc

-- ---- letters and replies

block_plain : (h : Header) (text : List ℕ) → HasNone (text_block h text)
block_plain h text = text_has_none (wsa_name (header_name h)) text wsa_fixed

envelope_plain : (blocks : List Tree) (body : Tree) → AllHaveNone blocks → HasNone body → HasNone (envelope blocks body)
envelope_plain blocks body above inside =
    let header = soap_element soap11 (codes "Header") blocks in
    let around_body = soap_element soap11 (codes "Body") (body ∷ []) in
    element_has_none (soap_name (codes "Envelope")) (header ∷ around_body ∷ []) soap_fixed
    (and_more header (around_body ∷ []) (element_has_none (soap_name (codes "Header")) blocks soap_fixed above)
    (and_more around_body [] (element_has_none (soap_name (codes "Body")) (body ∷ []) soap_fixed (and_more body [] inside refl)) refl))

pub letter_is : (to number : List ℕ) (m : Message) → is_direct m ≡ true → is_unescaped to ≡ true → is_unescaped number ≡ true
    → envelope_text (letter_route to number) m ≡ letter_pieces to number m []
letter_is to number m direct to_stands number_stands =
    let put = is_put m direct in
    let blocks = letter_blocks to (action_for m) number in
    let rest = piece.END.now ++ [] in
    let body = piece.NUMBER_BODY.now ++ tree_text scope [] (body_element m) rest in
    let id = piece.ACTION_NUMBER.now ++ escaped text_escapes number body in
    let plain =
    and_more (text_block header.To to) (text_block header.Action (action_for m) ∷ text_block header.MessageID number ∷ [])
    (block_plain header.To to)
    (and_more (text_block header.Action (action_for m)) (text_block header.MessageID number ∷ []) (block_plain header.Action (action_for m))
    (and_more (text_block header.MessageID number) [] (block_plain header.MessageID number) refl)) in
    ap (λ f. root_text f (envelope blocks (body_element m)))
    (none_further (envelope blocks (body_element m)) (envelope_plain blocks (body_element m) plain put.body_plain))
    ∙ envelope_is blocks (body_element m)
    ∙ letter_around to (action_for m) number (body_element m)
    ∙ ap (λ l. piece.ENVELOPE.now ++ (piece.TO.now ++ l))
    (as_it_stands to (piece.TO_ACTION.now ++ escaped text_escapes (action_for m) id) to_stands
    ∙ ap (λ l. to ++ (piece.TO_ACTION.now ++ l))
    (as_it_stands (action_for m) id put.action ∙ put.action_put id
    ∙ ap (λ l. action_text m (piece.ACTION_NUMBER.now ++ l))
    (as_it_stands number body number_stands ∙ ap (λ l. number ++ (piece.NUMBER_BODY.now ++ l)) (put.body_put rest))))

pub reply_is : (related : List ℕ) (m : Message) → is_direct m ≡ true → is_unescaped related ≡ true
    → envelope_text (reply_route (Some related)) m ≡ reply_pieces related m []
reply_is related m direct stands =
    let put = is_put m direct in
    let blocks = reply_blocks (action_for m) related in
    let rest = piece.END.now ++ [] in
    let body = piece.RELATED_BODY.now ++ tree_text scope [] (body_element m) rest in
    let id = piece.ACTION_RELATED.now ++ escaped text_escapes related body in
    let plain =
    and_more (text_block header.Action (action_for m)) (text_block header.RelatesTo related ∷ []) (block_plain header.Action (action_for m))
    (and_more (text_block header.RelatesTo related) [] (block_plain header.RelatesTo related) refl) in
    ap (λ f. root_text f (envelope blocks (body_element m)))
    (none_further (envelope blocks (body_element m)) (envelope_plain blocks (body_element m) plain put.body_plain))
    ∙ envelope_is blocks (body_element m)
    ∙ reply_around (action_for m) related (body_element m)
    ∙ ap (λ l. piece.ENVELOPE.now ++ (piece.ACTION.now ++ l))
    (as_it_stands (action_for m) id put.action ∙ put.action_put id
    ∙ ap (λ l. action_text m (piece.ACTION_RELATED.now ++ l))
    (as_it_stands related body stands ∙ ap (λ l. related ++ (piece.RELATED_BODY.now ++ l)) (put.body_put rest)))

pub notice_is : (source : Epr) (to number : List ℕ) (m : Message) → source.parameters ≡ [] → is_direct m ≡ true
    → is_unescaped source.address ≡ true → is_unescaped to ≡ true → is_unescaped number ≡ true
    → one_text (notice_tree source (letter_route to number) m) ≡ notice_pieces source.address to number m []
notice_is source to number m alone direct source_stands to_stands number_stands =
    let put = is_put m direct in
    let from = source.address in
    let blocks = notice_blocks from to (action_for m) number in
    let rest = piece.END.now ++ [] in
    let body = piece.SOURCE_BODY.now ++ tree_text scope [] (body_element m) rest in
    let whose = piece.NUMBER_SOURCE.now ++ escaped text_escapes from body in
    let id = piece.ACTION_NUMBER.now ++ escaped text_escapes number whose in
    let same : source ≡ own from = λ i. record { address = from; parameters = alone i } in
    ap (λ (e : Epr). one_text (notice_tree e (letter_route to number) m)) same
    ∙ ap (λ f. root_text f (envelope blocks (body_element m)))
    (none_further (envelope blocks (body_element m)) (envelope_plain blocks (body_element m) (blocks_plain from to (action_for m) number)
    put.body_plain))
    ∙ envelope_is blocks (body_element m)
    ∙ (λ i. around (λ more. header_is from to (action_for m) number more i) (of_trees [] (soap_name (codes "Body")) (body_element m ∷ [])))
    ∙ notice_around from to (action_for m) number (body_element m)
    ∙ ap (λ l. piece.ENVELOPE.now ++ (piece.TO.now ++ l))
    (as_it_stands to (piece.TO_ACTION.now ++ escaped text_escapes (action_for m) id) to_stands
    ∙ ap (λ l. to ++ (piece.TO_ACTION.now ++ l))
    (as_it_stands (action_for m) id put.action ∙ put.action_put id
    ∙ ap (λ l. action_text m (piece.ACTION_NUMBER.now ++ l))
    (as_it_stands number whose number_stands
    ∙ ap (λ l. number ++ (piece.NUMBER_SOURCE.now ++ l))
    (as_it_stands from body source_stands ∙ ap (λ l. from ++ (piece.SOURCE_BODY.now ++ l)) (put.body_put rest)))))
  where
    blocks_plain : (from to action number : List ℕ) → AllHaveNone (notice_blocks from to action number)
    blocks_plain from to action number =
        let whose = endpoint_block header.From (own from) in
        let wanted = endpoint_block header.ReplyTo none_endpoint in
        let id = text_block header.MessageID number in
        let acted = text_block header.Action action in
        let last : AllHaveNone (wanted ∷ []) =
        and_more wanted [] (endpoint_plain (wsa_name (header_name header.ReplyTo)) none_endpoint.address wsa_fixed) refl in
        let sourced : AllHaveNone (whose ∷ wanted ∷ []) =
        and_more whose (wanted ∷ []) (endpoint_plain (wsa_name (header_name header.From)) from wsa_fixed) last in
        let numbered = and_more id (whose ∷ wanted ∷ []) (block_plain header.MessageID number) sourced in
        and_more (text_block header.To to) (acted ∷ id ∷ whose ∷ wanted ∷ []) (block_plain header.To to)
        (and_more acted (id ∷ whose ∷ wanted ∷ []) (block_plain header.Action action) numbered)
