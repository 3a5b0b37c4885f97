-- The texts of headers that were read are there and bare, and no parameter has its mark: for the law on what was read.
use Rattle.std.proofs.Common.{◌≡◌, Bool, true, false, not, ◌&&◌, ◌||◌, List, [], ◌∷◌, ◌++◌, Option, Some, None, Result, Ok, Err}
use Rattle.std.proofs.Common.{map, filter, cond, if◌then◌else◌, codes, refl, sym, ap, ◌∙◌, subst}
use Rattle.std.specs.Cmp.{first_so, second_so}
use Rattle.std.specs.Cmp.Lexicographic as lexicographic
use Rattle.std.specs.List.{find, list_any, position}
use Rattle.std.specs.Str.{bytes_eq}
use Rattle.ba_message.specs.Endpoints.{are_unmarked, marks_parameter}
use Rattle.ba_soap_shapes.specs.Elements.{children, text_of}
use Rattle.ba_soap_shapes.specs.Endpoints.{unmarked_tree, wsa_name}
use Rattle.ba_soap_shapes.specs.Forms.{is_there}
use Rattle.ba_soap.specs.declared.headers.Envelope.{Envelope}
use Rattle.ba_soap.specs.declared.headers.Header.{Header}
use Rattle.ba_soap.specs.declared.headers.Header.TheVariants as header
use Rattle.ba_soap.specs.declared.headers.SoapFault.{SoapFault}
use Rattle.ba_soap.specs.declared.headers.SoapFault.TheVariants as fault
use Rattle.ba_soap.specs.Elements.{is_none_or_bare}
use Rattle.ba_soap.specs.Envelopes.{Dialect, action_fault, answer_by_body, answer_by_parts, answer_unless_refused, block_fault}
use Rattle.ba_soap.specs.Envelopes.{blocks_refusal, envelope_answer, envelope_by_blocks, first_fault, first_invalid_header}
use Rattle.ba_soap.specs.Envelopes.{first_refusal, has_bad_flag, has_text, header_name, header_of, header_text, headers, invalid_header}
use Rattle.ba_soap.specs.Envelopes.{is_called, is_header, is_invalid, is_left_out_or_one_of, is_looked_at, is_not_understood, is_parameter}
use Rattle.ba_soap.specs.Envelopes.{is_part, is_reply_relation, lacks_address, option_text, stands_once, value_at}
use Rattle.ba_tree.specs.declared.trees.Attribute.{Attribute}
use Rattle.ba_tree.specs.declared.trees.Name.{Name}
use Rattle.ba_tree.specs.declared.trees.Tree.{Tree}
use Rattle.ba_tree.specs.Namespaces.{wsa_space}
use Rattle.ba_message.proofs.PlainTexts.{and_both}
use Rattle.ba_wire_limits.proofs.ReadTexts.{text_is_bare}

-- ---- a header is known by its name

known_by : (h : Header) → find (λ k. is_called wsa_space (header_name k) (wsa_name (header_name h))) headers ≡ Some h
known_by header.To = refl
known_by header.From = refl
known_by header.ReplyTo = refl
known_by header.FaultTo = refl
known_by header.Action = refl
known_by header.MessageID = refl
known_by header.RelatesTo = refl

header_named : (h : Header) (n : Name) → is_called wsa_space (header_name h) n ≡ true
    → find (λ k. is_called wsa_space (header_name k) n) headers ≡ Some h
header_named h n is =
    let in_space = first_so (bytes_eq n.space wsa_space) (bytes_eq n.local (header_name h)) is in
    let by_local = second_so (bytes_eq n.space wsa_space) (bytes_eq n.local (header_name h)) is in
    let space = lexicographic.same_text n.space wsa_space (sym in_space) in
    let local = lexicographic.same_text n.local (header_name h) (sym by_local) in
    let same : n ≡ wsa_name (header_name h) = λ i. record { space = space i; local = local i } in
    subst (λ m. find (λ k. is_called wsa_space (header_name k) m) headers ≡ Some h) (sym same) (known_by h)

-- ---- a header with a text, where no header is invalid

there_by : (a x l there : Bool) → x ≡ true → (a || ((x && not there) || l)) ≡ false → there ≡ true
there_by a x l true t h = refl
there_by true x l false t h = cc
there_by false true l false t h = cc
there_by false false l false t h = cc

is_not_empty : (h : Header) (before : List Tree) (b : Tree) → has_text h ≡ true → invalid_header (Some h) before b ≡ None
    → is_there (text_of b) ≡ true
is_not_empty h before b text none = by (is_invalid h before b) refl none
  where
    by : (x : Bool) → is_invalid h before b ≡ x → (if x then Some (fault.InvalidHeader h) else None) ≡ None
        → is_there (text_of b) ≡ true
    by true e none = absurd (cc)
    by false e none =
        there_by (stands_once h && list_any (is_header h) before) (has_text h) (lacks_address h b) (is_there (text_of b)) text e

both_none : (a b : Option SoapFault) → first_fault a b ≡ None → (a ≡ None) × (b ≡ None)
both_none None b h = (refl, h)
both_none (Some f) b h = absurd (cc)

-- a test that headers of one name alone pass
abbrev NamesHeader : Header → (Tree → Bool) → Type 0
NamesHeader h test = (b : Tree) → test b ≡ true → is_header h b ≡ true

module _ (h : Header) (text : has_text h ≡ true) (test : Tree → Bool) (names : NamesHeader h test) where
  here_bare : (before : List Tree) (b : Tree) → test b ≡ true → invalid_header (header_of b) before b ≡ None
      → is_none_or_bare (Some (text_of b)) ≡ true
  here_bare before b is none =
      text_is_bare b
      (is_not_empty h before b text (ap (λ o. invalid_header o before b) (sym (header_named h b.name (names b is))) ∙ none))

  found_bare : (before blocks : List Tree) → first_invalid_header before blocks ≡ None
      → is_none_or_bare (option_text (find test blocks)) ≡ true
  found_bare before [] none = refl
  found_bare before (b ∷ more) none =
      let both = both_none (invalid_header (header_of b) before b) (first_invalid_header (before ++ b ∷ []) more) none in
      by (test b) refl both.0 (found_bare (before ++ b ∷ []) more both.1)
    where
      by : (x : Bool) → test b ≡ x → invalid_header (header_of b) before b ≡ None
          → is_none_or_bare (option_text (find test more)) ≡ true
          → is_none_or_bare (option_text (if x then Some b else find test more)) ≡ true
      by true is none rest = here_bare before b is none
      by false is none rest = rest

-- ---- parameters

abbrev pub unmarked_of : List Attribute → List Attribute
unmarked_of atts = filter (λ a. not (marks_parameter a)) atts

pub none_left : (atts : List Attribute) → list_any marks_parameter (unmarked_of atts) ≡ false
none_left [] = refl
none_left (a ∷ more) = by (marks_parameter a) refl (none_left more)
  where
    by : (x : Bool) → marks_parameter a ≡ x → list_any marks_parameter (unmarked_of more) ≡ false
        → list_any marks_parameter (cond (not x) (a ∷ unmarked_of more) (unmarked_of more)) ≡ false
    by true is rest = rest
    by false is rest = ap (λ x. x || list_any marks_parameter (unmarked_of more)) is ∙ rest

all_unmarked : (ts : List Tree) → are_unmarked (map unmarked_tree ts) ≡ true
all_unmarked [] = refl
all_unmarked (t ∷ ts) =
    and_both (not (list_any marks_parameter (unmarked_tree t).attributes)) (are_unmarked (map unmarked_tree ts))
    (ap not (none_left t.attributes)) (all_unmarked ts)

-- ---- an envelope that was read

pub record IsReadEnvelope (e : Envelope) : Type 0 where
  pub to : is_none_or_bare e.to ≡ true
  pub message_id : is_none_or_bare e.message_id ≡ true
  pub relates_to : is_none_or_bare e.relates_to ≡ true
  pub unmarked : are_unmarked e.parameters ≡ true

module _ (d : Dialect) (blocks : List Tree) (body : Tree) where
  abbrev mine : List Tree
  mine = filter (is_looked_at d) blocks

  no_invalid : blocks_refusal d blocks ≡ None → first_invalid_header [] mine ≡ None
  no_invalid h =
      let flags : Option SoapFault = if list_any (has_bad_flag d) blocks then Some fault.Shape else None in
      let unknown = block_fault (position (is_not_understood d) blocks) in
      let invalid = first_invalid_header [] mine in
      let action = action_fault (header_text header.Action mine) in
      let a = both_none flags (first_refusal (unknown ∷ invalid ∷ action ∷ [])) h in
      let b = both_none unknown (first_refusal (invalid ∷ action ∷ [])) a.1 in
      (both_none invalid (first_refusal (action ∷ [])) b.1).0

  related_by_name : NamesHeader header.RelatesTo is_reply_relation
  related_by_name b is =
      let type = value_at [] (codes "RelationshipType") b.attributes in
      let reply = is_left_out_or_one_of (codes "http://www.w3.org/2005/08/addressing/reply" ∷ []) type in
      first_so (is_header header.RelatesTo b) reply is

  pub read_by_blocks : blocks_refusal d blocks ≡ None → IsReadEnvelope (envelope_by_blocks d blocks body)
  read_by_blocks h = record {
    to = found_bare header.To refl (is_header header.To) (λ b is. is) [] mine (no_invalid h);
    message_id = found_bare header.MessageID refl (is_header header.MessageID) (λ b is. is) [] mine (no_invalid h);
    relates_to = found_bare header.RelatesTo refl is_reply_relation related_by_name [] mine (no_invalid h);
    unmarked = all_unmarked (filter is_parameter blocks);
  }

-- ---- every answer of an envelope

abbrev pub IsReadAnswer : Result Envelope SoapFault → Type 0
IsReadAnswer (Ok e) = IsReadEnvelope e
IsReadAnswer (Err f) = Unit {0}

unless_refused : (f : Option SoapFault) (e : Envelope) → (f ≡ None → IsReadEnvelope e) → IsReadAnswer (answer_unless_refused f e)
unless_refused None e h = h refl
unless_refused (Some f) e h = tt

either : (b : Bool) (x y : Result Envelope SoapFault) → IsReadAnswer x → IsReadAnswer y → IsReadAnswer (if b then x else y)
either true x y p q = p
either false x y p q = q

by_body : (d : Dialect) (blocks bodies : List Tree) → IsReadAnswer (answer_by_body d blocks bodies)
by_body d blocks [] = tt
by_body d blocks (body ∷ []) =
    unless_refused (blocks_refusal d blocks) (envelope_by_blocks d blocks body) (read_by_blocks d blocks body)
by_body d blocks (body ∷ other ∷ more) = tt

by_parts : (d : Dialect) (parts : List Tree) → IsReadAnswer (answer_by_parts d parts)
by_parts d [] = tt
by_parts d (x ∷ []) =
    either (is_part d (codes "Body") x) (answer_by_body d [] (children x.content))
    (if is_part d (codes "Header") x then Err fault.NoBody else Err fault.Shape) (by_body d [] (children x.content))
    (either (is_part d (codes "Header") x) (Err fault.NoBody) (Err fault.Shape) tt tt)
by_parts d (x ∷ y ∷ []) =
    either (is_part d (codes "Header") x && is_part d (codes "Body") y)
    (answer_by_body d (children x.content) (children y.content)) (Err fault.Shape)
    (by_body d (children x.content) (children y.content)) tt
by_parts d (x ∷ y ∷ z ∷ more) = tt

pub envelope_is_read : (d : Dialect) (t : Tree) → IsReadAnswer (envelope_answer d t)
envelope_is_read d t =
    either (bytes_eq t.name.local (codes "Envelope"))
    (if bytes_eq t.name.space d.space then answer_by_parts d (children t.content) else Err fault.VersionMismatch) (Err fault.Shape)
    (either (bytes_eq t.name.space d.space) (answer_by_parts d (children t.content)) (Err fault.VersionMismatch)
    (by_parts d (children t.content)) tt) tt
