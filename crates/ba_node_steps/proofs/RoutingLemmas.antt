-- Which text is whose, and to which endpoint an address leads; for the laws on texts of identifiers and on where messages lead.
use Rattle.std.proofs.Common.{◌≡◌, ◌≢◌, ℕ, ◌+◌, ◌-◌, ◌^◌, ◌<◌, Bool, true, false, List, ◌++◌, length, drop, get_or, codes, Option, None, Some}
use Rattle.std.proofs.Common.{refl, sym, ap, ◌∙◌, if◌then◌else◌, arith, append_assoc, length-append}
use Rattle.std.proofs.lemmas.List.{append_cancel_left, append_cancel_right, drop_at}
use Rattle.std.proofs.lemmas.Slice.Eq.{bytes_eq-Decides}
use Rattle.std.specs.Int.{from_be_bytes, to_be_bytes, w128}
use Rattle.std.specs.Str.{bytes_eq}
use Rattle.ba_core.specs.declared.identifiers.Id.{Id}
use Rattle.ba_core.specs.declared.protocols.Side.TheVariants.{Coordinator, Participant}
use Rattle.ba_message.proofs.FitTests.{endpoints_equal, tells_equal}
use Rattle.ba_message.specs.Endpoints.{same_epr}
use Rattle.ba_message.specs.declared.endpoints.Epr.{Epr}
use Rattle.ba_message.specs.declared.messages.Letter.{Letter}
use Rattle.ba_node_steps.proofs.Hyphens.{hyphenated_length, sides_apart, text_parses}
use Rattle.ba_node_steps.specs.Addresses.{HasText, coordinator_of, hyphenated, participant_of, registration_of}
use Rattle.ba_node_steps.specs.Node.{NodeState}
use Rattle.ba_node_steps.specs.Routing.{identifier_in, identifier_of_bytes, identifier_of_text, if_its_text, input_by_address, notice_input}
use Rattle.ba_node_steps.specs.Routing.{register_input}
use Rattle.ba_node_steps.specs.declared.inputs.Input.{Input}
use Rattle.uuid.proofs.OrderLemmas.{from_be_bytes-to_be_bytes_16}
use Rattle.uuid.specs.Text.{parsed}

-- ---- texts of identifiers

pub text_is_read : (id : Id) → HasText id → identifier_of_text (hyphenated id.0) ≡ Some id
text_is_read id small =
    ap (identifier_of_bytes (hyphenated id.0)) (text_parses id.0)
    ∙ ap (if_its_text (hyphenated id.0)) (from_be_bytes-to_be_bytes_16 id.0 small)
    ∙ ap (λ (b : Bool). if b then Some id else None) ((bytes_eq-Decides (hyphenated id.0) (hyphenated id.0)).1 refl)

its_text : (text : List ℕ) (n : ℕ) (id : Id) (b : Bool) → bytes_eq text (hyphenated n) ≡ b
    → (if b then Some (record { 0 = n }) else None) ≡ Some id → text ≡ hyphenated id.0
its_text text n id true is h =
    let same : n ≡ id.0 = cc in (bytes_eq-Decides text (hyphenated n)).0 is ∙ ap hyphenated same
its_text text n id false is h = absurd cc

read_is_text : (text : List ℕ) (id : Id) (bytes : Option (List ℕ)) → identifier_of_bytes text bytes ≡ Some id → text ≡ hyphenated id.0
read_is_text text id None h = absurd cc
read_is_text text id (Some bytes) h =
    let n : ℕ = from_be_bytes w128 bytes in its_text text n id (bytes_eq text (hyphenated n)) refl h

pub text_is_its : (text : List ℕ) (id : Id) → identifier_of_text text ≡ Some id → text ≡ hyphenated id.0
text_is_its text id h = read_is_text text id (parsed text) h

-- the object of an address
pub object_of : (base word : List ℕ) (id : Id) → HasText id → identifier_in (base ++ (word ++ hyphenated id.0)) ≡ Some id
object_of base word id small = ap identifier_of_text last ∙ text_is_read id small
  where
    text : List ℕ
    text = hyphenated id.0

    address : List ℕ
    address = base ++ (word ++ text)

    ahead : length (base ++ word) ≡ length address - 36
    ahead = omega (arith, length-append base (word ++ text), length-append word text, length-append base word, hyphenated_length id.0)

    last : drop (length address - 36) address ≡ text
    last =
        ap (λ (l : List ℕ). drop (length address - 36) l) (sym (append_assoc base word text))
        ∙ drop_at (base ++ word) text (length address - 36) ahead

-- ---- endpoints of other kinds

words_same : (base word other text : List ℕ) → base ++ (word ++ text) ≡ base ++ (other ++ text) → word ≡ other
words_same base word other text same =
    append_cancel_right word other text (append_cancel_left base (word ++ text) (other ++ text) same)

no_coordinator : (base : List ℕ) (id : Id) → coordinator_of base id ≢ registration_of base id
no_coordinator base id same =
    let words = words_same base (codes "/coordinator/") (codes "/registration/") (hyphenated id.0) (ap (λ (e : Epr). e.address) same) in
    let first : get_or (codes "/coordinator/") 1 0 ≡ get_or (codes "/registration/") 1 0 = ap (λ xs. get_or xs 1 0) words in
    absurd (omega arith)

no_participant : (base : List ℕ) (id : Id) → participant_of base id ≢ registration_of base id
no_participant base id same =
    let words = words_same base (codes "/participant/") (codes "/registration/") (hyphenated id.0) (ap (λ (e : Epr). e.address) same) in
    let first : get_or (codes "/participant/") 1 0 ≡ get_or (codes "/registration/") 1 0 = ap (λ xs. get_or xs 1 0) words in
    absurd (omega arith)

no_end : (base : List ℕ) (id : Id) → participant_of base id ≢ coordinator_of base id
no_end base id same = sides_apart id id base base (sym same)

is_false : (b : Bool) → (b ≡ true → ⊥) → b ≡ false
is_false true refuted = absurd (refuted refl)
is_false false refuted = refl

same_is : (to here : Epr) → to ≡ here → same_epr to here ≡ true
same_is to here same = (tells_equal to here).1 same

other_is : (to there here : Epr) → there ≢ here → to ≡ there → same_epr to here ≡ false
other_is to there here apart is =
    is_false (same_epr to here) (λ same. apart (sym is ∙ endpoints_equal to here same))

-- ---- one of three, by the endpoint

module _ {A : Type 0} (base : List ℕ) (id : Id) (to : Epr) (a b c d : A) where
  abbrev pub by_endpoint : A
  by_endpoint =
      if same_epr to (registration_of base id) then a
      else if same_epr to (coordinator_of base id) then b
      else if same_epr to (participant_of base id) then c
      else d

  abbrev at_participant : Bool → A
  at_participant t = if t then c else d

  abbrev at_coordinator : Bool → A
  at_coordinator t = if t then b else at_participant (same_epr to (participant_of base id))

  abbrev at_registration : Bool → A
  at_registration t = if t then a else at_coordinator (same_epr to (coordinator_of base id))

  pub registers : to ≡ registration_of base id → by_endpoint ≡ a
  registers is = ap at_registration (same_is to (registration_of base id) is)

  pub to_coordinator : to ≡ coordinator_of base id → by_endpoint ≡ b
  to_coordinator is =
      ap at_registration (other_is to (coordinator_of base id) (registration_of base id) (no_coordinator base id) is)
      ∙ ap at_coordinator (same_is to (coordinator_of base id) is)

  pub to_participant : to ≡ participant_of base id → by_endpoint ≡ c
  to_participant is =
      ap at_registration (other_is to (participant_of base id) (registration_of base id) (no_participant base id) is)
      ∙ ap at_coordinator (other_is to (participant_of base id) (coordinator_of base id) (no_end base id) is)
      ∙ ap at_participant (same_is to (participant_of base id) is)

  nowhere_by : (x y z : Bool) → (x ≡ true → ⊥) → (y ≡ true → ⊥) → (z ≡ true → ⊥) → (if x then a else if y then b else if z then c else d) ≡ d
  nowhere_by true y z no_x no_y no_z = absurd (no_x refl)
  nowhere_by false true z no_x no_y no_z = absurd (no_y refl)
  nowhere_by false false true no_x no_y no_z = absurd (no_z refl)
  nowhere_by false false false no_x no_y no_z = refl

  pub nowhere : to ≢ registration_of base id → to ≢ coordinator_of base id → to ≢ participant_of base id → by_endpoint ≡ d
  nowhere no_scope no_end_there no_part =
      nowhere_by (same_epr to (registration_of base id)) (same_epr to (coordinator_of base id)) (same_epr to (participant_of base id))
      (λ same. no_scope (endpoints_equal to (registration_of base id) same))
      (λ same. no_end_there (endpoints_equal to (coordinator_of base id) same))
      (λ same. no_part (endpoints_equal to (participant_of base id) same))
