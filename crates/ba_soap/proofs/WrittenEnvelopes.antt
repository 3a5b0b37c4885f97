-- An envelope is read back from its element: for the clauses `reads_back`.
use Rattle.std.proofs.Common.{◌≡◌, ℕ, suc, ◌+◌, Bool, true, false, not, ◌&&◌, ◌||◌, List, [], ◌∷◌, ◌++◌, Option, Some, None, Result, Ok}
use Rattle.std.proofs.Common.{Err, map, filter, find, length, cond, nat_lt, bytes_eq, if◌then◌else◌, codes, append-nil, refl, sym, ap, ◌∙◌}
use Rattle.std.proofs.Common.{arith}
use Rattle.std.specs.Prelude.{IfOk}
use Rattle.std.proofs.lemmas.Bool.Decides.{nat_tests}
use Rattle.std.proofs.lemmas.List.Elements.{filter-append}
use Rattle.std.proofs.lemmas.List.Folds.{list_any-append}
use Rattle.std.specs.Cmp.{first_so, second_so}
use Rattle.std.specs.Cmp.Lexicographic as lexicographic
use Rattle.std.specs.List.{list_any, position, prefix_len}
use Rattle.ba_core.specs.declared.memory.Memory.{Memory}
use Rattle.ba_soap_shapes.specs.Elements.{children, text_of}
use Rattle.ba_soap_shapes.specs.Endpoints.{unmarked_tree, wsa_name}
use Rattle.ba_soap_shapes.specs.Forms.{is_there}
use Rattle.ba_soap_shapes.proofs.WrittenEndpoints.{text_alone}
use Rattle.ba_soap_shapes.proofs.WrittenShapes.{children_are}
use Rattle.ba_soap.specs.declared.headers.Envelope.{Envelope}
use Rattle.ba_soap.specs.declared.headers.Header.{Header}
use Rattle.ba_soap.specs.declared.headers.Header.TheVariants as header
use Rattle.ba_soap.specs.declared.headers.ReplyTo.TheVariants as reply
use Rattle.ba_soap.specs.declared.headers.SoapFault.{SoapFault}
use Rattle.ba_soap.specs.declared.headers.SoapFault.TheVariants as fault
use Rattle.ba_soap.specs.Elements.{IsPlainEnvelope, envelope_element, envelope_with, is_bare_text, is_none_or_bare, marked_tree}
use Rattle.ba_soap.specs.Elements.{optional_block, soap_element, text_block, text_blocks}
use Rattle.ba_message.specs.Endpoints.{are_unmarked}
use Rattle.ba_soap.specs.declared.headers.ReplyTo.{ReplyTo}
use Rattle.ba_soap.specs.Envelopes.{Dialect, action_fault, answer_by_body, answer_by_parts, answer_unless_refused, block_fault}
use Rattle.ba_soap.specs.Envelopes.{envelope_answer, envelope_said, first_fault, first_invalid_header, first_refusal, has_bad_flag}
use Rattle.ba_soap.specs.Envelopes.{has_text, header_name, header_of, header_text, invalid_header, is_header, is_looked_at}
use Rattle.ba_soap.specs.Envelopes.{is_not_understood, is_parameter, is_reply_relation, lacks_address, option_text, refusal_by, reply_of}
use Rattle.ba_soap.specs.Envelopes.{stands_once, text_or_none}
use Rattle.ba_soap.proofs.MarkLemmas.{are_parameters, are_read_back, none_flagged, none_looked_at, none_unknown}
use Rattle.ba_tree.specs.Characters.{has_bare_ends}
use Rattle.ba_tree.specs.declared.trees.Tree.{Tree}

-- ---- the parts of the envelope

same : (x : List ℕ) → bytes_eq x x ≡ true
same x = lexicographic.nat_list_eq_equiv.refl x

module _ (d : Dialect) (blocks : List Tree) (body : Tree) where
  abbrev header_part : Tree
  header_part = soap_element d (codes "Header") blocks

  abbrev body_part : Tree
  body_part = soap_element d (codes "Body") (body ∷ [])

  by_parts : answer_by_parts d (header_part ∷ body_part ∷ []) ≡ answer_by_body d blocks (body ∷ [])
  by_parts =
      ap (λ x. if (x && true) && (x && true) then answer_by_body d (children header_part.content)
      (children body_part.content) else Err fault.Shape) (same d.space)
      ∙ (λ i. answer_by_body d (children_are blocks i) (children_are (body ∷ []) i))

  by_envelope : envelope_answer d (envelope_with d blocks body) ≡ answer_by_body d blocks (body ∷ [])
  by_envelope =
      ap (λ x. if x then answer_by_parts d (children (soap_element d (codes "Envelope")
      (header_part ∷ body_part ∷ [])).content) else Err fault.VersionMismatch) (same d.space)
      ∙ ap (answer_by_parts d) (children_are (header_part ∷ body_part ∷ [])) ∙ by_parts

-- ---- what is found among blocks that none of a kind is among

fails_all : {X : Type 0} (p : X → Bool) (xs : List X) → list_any p xs ≡ false → prefix_len (λ x. not (p x)) xs ≡ length xs
fails_all p [] h = refl
fails_all p (x ∷ xs) h = by (p x) refl (fails_all p xs)
  where
    by : (b : Bool) → p x ≡ b → (list_any p xs ≡ false → prefix_len (λ y. not (p y)) xs ≡ length xs)
        → prefix_len (λ y. not (p y)) (x ∷ xs) ≡ suc (length xs)
    by true e rest = let t : true ≡ false = sym (ap (λ b. b || list_any p xs) e) ∙ h in cc
    by false e rest =
        let more = rest (sym (ap (λ b. b || list_any p xs) e) ∙ h) in
        let here : prefix_len (λ y. not (p y)) (x ∷ xs) ≡ 1 + prefix_len (λ y. not (p y)) xs =
        ap (λ b. cond (not b) (1 + prefix_len (λ y. not (p y)) xs) 0) e in
        omega arith

not_below : (n : ℕ) → nat_lt n n ≡ false
not_below n = grind (arith, nat_tests)

none_at : {X : Type 0} (p : X → Bool) (xs : List X) → list_any p xs ≡ false → position p xs ≡ None
none_at p xs h =
    ap (λ n. cond (nat_lt n (length xs)) (Some n) None) (fails_all p xs h)
    ∙ ap (λ b. cond b (Some (length xs)) None) (not_below (length xs))

-- ---- texts

module _ (h : Header) (text : List ℕ) (bare : is_bare_text text ≡ true) where
  text_is : text_of (text_block h text) ≡ text
  text_is = text_alone (wsa_name (header_name h)) text (second_so (is_there text) (has_bare_ends text) bare)

  there_is : is_there (text_of (text_block h text)) ≡ true
  there_is = ap is_there text_is ∙ first_so (is_there text) (has_bare_ends text) bare

  pub some_is : Some (text_of (text_block h text)) ≡ Some text
  some_is = ap (λ t. Some t) text_is

  pub valid : (before : List Tree) → list_any (is_header h) before ≡ false → lacks_address h (text_block h text) ≡ false
      → invalid_header (header_of (text_block h text)) before (text_block h text) ≡ None
  valid before none lacks = ap (λ k. invalid_header k before (text_block h text)) (named h)
      ∙ ap (λ b. if b then Some (fault.InvalidHeader h) else None) ((λ i. (stands_once h && none i) || ((has_text h && not
      (there_is i)) || lacks i)) ∙ quiet h)
    where
      named : (k : Header) → header_of (text_block k text) ≡ Some k
      named header.To = refl
      named header.From = refl
      named header.ReplyTo = refl
      named header.FaultTo = refl
      named header.Action = refl
      named header.MessageID = refl
      named header.RelatesTo = refl

      quiet : (k : Header) → ((stands_once k && false) || ((has_text k && false) || false)) ≡ false
      quiet header.To = refl
      quiet header.From = refl
      quiet header.ReplyTo = refl
      quiet header.FaultTo = refl
      quiet header.Action = refl
      quiet header.MessageID = refl
      quiet header.RelatesTo = refl

pub two : (a b : Option SoapFault) → a ≡ None → b ≡ None → first_fault a b ≡ None
two a b p q = λ i. first_fault (p i) (q i)

-- ---- the texts of headers, each left out or not: eight cases, in each of which the blocks are found by computing

abbrev blocks_of : Option (List ℕ) → List ℕ → Option (List ℕ) → Option (List ℕ) → List Tree
blocks_of to action id relates =
    optional_block header.To to ++ (text_block header.Action action ∷
    (optional_block header.MessageID id ++ optional_block header.RelatesTo relates))

-- all are looked at, none has a flag, none has to be understood, none is a parameter, the reply is wanted there, and there
-- is an Action
abbrev pub AreLooked : Dialect → ReplyTo → List Tree → Type 0
AreLooked d wanted blocks =
    (filter (is_looked_at d) blocks ≡ blocks)
    × (list_any (has_bad_flag d) blocks ≡ false)
    × (list_any (is_not_understood d) blocks ≡ false)
    × (filter is_parameter blocks ≡ [])
    × (reply_of (find (is_header header.ReplyTo) blocks) ≡ wanted)
    × (action_fault (header_text header.Action blocks) ≡ None)

looked_at_all : (d : Dialect) (to : Option (List ℕ)) (action : List ℕ) (id relates : Option (List ℕ))
    → AreLooked d reply.Absent (blocks_of to action id relates)
looked_at_all d None action None None = (refl, refl, refl, refl, refl, refl)
looked_at_all d None action None (Some r) = (refl, refl, refl, refl, refl, refl)
looked_at_all d None action (Some m) None = (refl, refl, refl, refl, refl, refl)
looked_at_all d None action (Some m) (Some r) = (refl, refl, refl, refl, refl, refl)
looked_at_all d (Some t) action None None = (refl, refl, refl, refl, refl, refl)
looked_at_all d (Some t) action None (Some r) = (refl, refl, refl, refl, refl, refl)
looked_at_all d (Some t) action (Some m) None = (refl, refl, refl, refl, refl, refl)
looked_at_all d (Some t) action (Some m) (Some r) = (refl, refl, refl, refl, refl, refl)

-- their texts are read back
abbrev pub AreRead : Option (List ℕ) → List ℕ → Option (List ℕ) → Option (List ℕ) → List Tree → Type 0
AreRead to action id relates blocks =
    (header_text header.To blocks ≡ to)
    × (header_text header.Action blocks ≡ Some action)
    × (header_text header.MessageID blocks ≡ id)
    × (option_text (find is_reply_relation blocks) ≡ relates)

abbrev pub IsBare : List ℕ → Type 0
IsBare text = is_bare_text text ≡ true

module _ (action : List ℕ) (a : IsBare action) where
  abbrev act : Some (text_of (text_block header.Action action)) ≡ Some action
  act = some_is header.Action action a

  all_read :
      (to id relates : Option (List ℕ)) → is_none_or_bare to ≡ true → is_none_or_bare id ≡ true → is_none_or_bare relates ≡ true
      → AreRead to action id relates (blocks_of to action id relates)
  all_read None None None p q r = (refl, act, refl, refl)
  all_read None None (Some z) p q r = (refl, act, refl, some_is header.RelatesTo z r)
  all_read None (Some y) None p q r = (refl, act, some_is header.MessageID y q, refl)
  all_read None (Some y) (Some z) p q r = (refl, act, some_is header.MessageID y q, some_is header.RelatesTo z r)
  all_read (Some x) None None p q r = (some_is header.To x p, act, refl, refl)
  all_read (Some x) None (Some z) p q r = (some_is header.To x p, act, refl, some_is header.RelatesTo z r)
  all_read (Some x) (Some y) None p q r = (some_is header.To x p, act, some_is header.MessageID y q, refl)
  all_read (Some x) (Some y) (Some z) p q r = (some_is header.To x p, act, some_is header.MessageID y q, some_is header.RelatesTo z r)

  -- each block is valid after those before it
  abbrev valid_to : (x : List ℕ) → IsBare x → invalid_header (header_of (text_block header.To x)) [] (text_block header.To x) ≡ None
  valid_to x p = valid header.To x p [] refl refl

  abbrev valid_action : (before : List Tree) → list_any (is_header header.Action) before ≡ false
      → invalid_header (header_of (text_block header.Action action)) before (text_block header.Action action) ≡ None
  valid_action before none = valid header.Action action a before none refl

  abbrev valid_id : (y : List ℕ) → IsBare y → (before : List Tree) → list_any (is_header header.MessageID) before ≡ false
      → invalid_header (header_of (text_block header.MessageID y)) before (text_block header.MessageID y) ≡ None
  valid_id y q before none = valid header.MessageID y q before none refl

  abbrev valid_relates : (z : List ℕ) → IsBare z → (before : List Tree) → list_any (is_header header.RelatesTo) before ≡ false
      → invalid_header (header_of (text_block header.RelatesTo z)) before (text_block header.RelatesTo z) ≡ None
  valid_relates z r before none = valid header.RelatesTo z r before none refl

  abbrev block : Header → List ℕ → Tree
  block = text_block

  all_valid :
      (to id relates : Option (List ℕ)) → is_none_or_bare to ≡ true → is_none_or_bare id ≡ true → is_none_or_bare relates ≡ true
      → first_invalid_header [] (blocks_of to action id relates) ≡ None
  all_valid None None None p q r = two _ _ (valid_action [] refl) refl
  all_valid None None (Some z) p q r =
      two _ _ (valid_action [] refl) (two _ _ (valid_relates z r (block header.Action action ∷ []) refl) refl)
  all_valid None (Some y) None p q r = two _ _ (valid_action [] refl) (two _ _ (valid_id y q (block header.Action action ∷ []) refl) refl)
  all_valid None (Some y) (Some z) p q r =
      two _ _ (valid_action [] refl) (two _ _ (valid_id y q (block header.Action action ∷ []) refl)
      (two _ _ (valid_relates z r (block header.Action action ∷ block header.MessageID y ∷ []) refl) refl))
  all_valid (Some x) None None p q r = two _ _ (valid_to x p) (two _ _ (valid_action (block header.To x ∷ []) refl) refl)
  all_valid (Some x) None (Some z) p q r =
      two _ _ (valid_to x p) (two _ _ (valid_action (block header.To x ∷ []) refl)
      (two _ _ (valid_relates z r (block header.To x ∷ block header.Action action ∷ []) refl) refl))
  all_valid (Some x) (Some y) None p q r =
      two _ _ (valid_to x p) (two _ _ (valid_action (block header.To x ∷ []) refl)
      (two _ _ (valid_id y q (block header.To x ∷ block header.Action action ∷ []) refl) refl))
  all_valid (Some x) (Some y) (Some z) p q r =
      two _ _ (valid_to x p) (two _ _ (valid_action (block header.To x ∷ []) refl)
      (two _ _ (valid_id y q (block header.To x ∷ block header.Action action ∷ []) refl)
      (two _ _ (valid_relates z r (block header.To x ∷ block header.Action action ∷ block header.MessageID y ∷ []) refl) refl)))

-- ---- the envelope

neither : (x y : Bool) → x ≡ false → y ≡ false → (x || y) ≡ false
neither x y p q = λ i. p i || q i

-- an envelope with these blocks that are no parameters, and with its parameters after them
module _ (d : Dialect) (e : Envelope) (wanted : ReplyTo) (texts : List Tree) (looked : AreLooked d wanted texts)
    (read : AreRead e.to e.action e.message_id e.relates_to texts) (all_valid : first_invalid_header [] texts ≡ None)
    (unmarked : are_unmarked e.parameters ≡ true) where
  abbrev parameters : List Tree
  parameters = map marked_tree e.parameters

  abbrev blocks : List Tree
  blocks = texts ++ parameters

  mine_is : filter (is_looked_at d) blocks ≡ texts
  mine_is =
      filter-append (is_looked_at d) texts parameters ∙ (λ i. looked.0 i ++ none_looked_at d e.parameters unmarked i)
      ∙ append-nil texts

  parameters_are : map unmarked_tree (filter is_parameter blocks) ≡ e.parameters
  parameters_are =
      ap (map unmarked_tree) (filter-append is_parameter texts parameters
      ∙ (λ i. looked.3 i ++ are_parameters e.parameters unmarked i))
      ∙ are_read_back e.parameters unmarked

  unflagged : list_any (has_bad_flag d) blocks ≡ false
  unflagged =
      list_any-append (has_bad_flag d) texts parameters
      ∙ neither (list_any (has_bad_flag d) texts) (list_any (has_bad_flag d) parameters) looked.1
      (none_flagged d e.parameters unmarked)

  understood : list_any (is_not_understood d) blocks ≡ false
  understood =
      list_any-append (is_not_understood d) texts parameters
      ∙ neither (list_any (is_not_understood d) texts) (list_any (is_not_understood d) parameters) looked.2
      (none_unknown d e.parameters unmarked)

  unrefused : refusal_by d blocks texts ≡ None
  unrefused =
      λ i. first_refusal (
      (if unflagged i then Some fault.Shape else None) ∷ block_fault (none_at (is_not_understood d) blocks understood i)
      ∷ all_valid i ∷ looked.5 i ∷ []
      )

  abbrev said_elsewhere : Envelope
  said_elsewhere = record {
    to = e.to;
    action = e.action;
    message_id = e.message_id;
    relates_to = e.relates_to;
    reply = wanted;
    parameters = e.parameters;
    body = e.body;
  }

  said : envelope_said blocks texts e.body ≡ said_elsewhere
  said = λ i. record {
    to = read.0 i;
    action = text_or_none (read.1 i);
    message_id = read.2 i;
    relates_to = read.3 i;
    reply = looked.4 i;
    parameters = parameters_are i;
    body = e.body;
  }

  pub blocks_are_read : envelope_answer d (envelope_with d blocks e.body) ≡ Ok said_elsewhere
  blocks_are_read =
      by_envelope d blocks e.body
      ∙ (λ i. answer_unless_refused (refusal_by d blocks (mine_is i)) (envelope_said blocks (mine_is i) e.body))
      ∙ (λ i. answer_unless_refused (unrefused i) (said i))

pub reads_back : (d : Dialect) (e : Envelope) → IsPlainEnvelope e → envelope_answer d (envelope_element d e) ≡ Ok e
reads_back d e plain =
    blocks_are_read d e reply.Absent (text_blocks e) (looked_at_all d e.to e.action e.message_id e.relates_to)
    (all_read e.action plain.action e.to e.message_id e.relates_to plain.to plain.message_id plain.relates_to)
    (all_valid e.action plain.action e.to e.message_id e.relates_to plain.to plain.message_id plain.relates_to) plain.unmarked
    ∙ (λ i. Ok (record {
      to = e.to;
      action = e.action;
      message_id = e.message_id;
      relates_to = e.relates_to;
      reply = sym plain.reply i;
      parameters = e.parameters;
      body = e.body;
    }))

pub ok_reads_back :
    (d : Dialect) (e : Envelope) (r : Result Tree Memory) → IfOk r (λ t. t ≡ envelope_element d e) → IsPlainEnvelope e
    → IfOk r (λ t. envelope_answer d t ≡ Ok e)
ok_reads_back d e (Ok t) is plain = ap (envelope_answer d) is ∙ reads_back d e plain
ok_reads_back d e (Err m) is plain = tt
