-- A message leads at its node to the input that it brings there; for the law that each event is a step of the world.
use Rattle.std.proofs.Common.{◌≡◌, inl, inr, ℕ, suc, zero, ◌+◌, ◌-◌, ◌*◌, ◌/◌, ◌%◌, ◌^◌, Bool, true, false, List, [], ◌∷◌, nat_eq}
use Rattle.std.proofs.Common.{slice_get, Option, None, Some, refl, sym, subst, if◌then◌else◌, arith}
use Rattle.std.proofs.lemmas.Bool.Decides.{nat_tests}
use Rattle.ba_core.specs.Numbers.{code_part, node_of}
use Rattle.ba_core.specs.declared.identifiers.Id.{Id}
use Rattle.ba_core.specs.declared.protocols.Side.TheVariants.{Coordinator, Participant}
use Rattle.ba_message.proofs.FitTests.{endpoints_equal}
use Rattle.ba_message.specs.Endpoints.{same_epr}
use Rattle.ba_message.specs.declared.messages.Letter.{Letter}
use Rattle.ba_message.specs.declared.messages.Message.{Message}
use Rattle.ba_message.specs.declared.messages.Message.TheVariants as message
use Rattle.ba_world_play.specs.Arrivals.{arrival, letter_arrival}
use Rattle.ba_world_play.specs.Plays.{mail_at}
use Rattle.ba_world_runs.specs.World.{Mail, Net, answer, letter, node_at}
use Rattle.ba_world_runs.specs.WorldSteps.{BringsInput}
use Rattle.ba_node_steps.specs.Addresses.{coordinator_of, message_number, participant_of, register_code, registration_of, sender_of}
use Rattle.ba_node_steps.specs.Node.{Among, IsHere, NodeState}
use Rattle.ba_node_steps.specs.Routing.{answer_input, identifier_in, input_by_address, letter_input, notice_input, register_input, told_input}
use Rattle.ba_node_steps.specs.declared.inputs.Input.{Input}
use Rattle.ba_node_steps.specs.declared.inputs.Input.TheVariants as input

is_number : (a b : ℕ) → nat_eq a b ≡ true → a ≡ b
is_number a b h = grind (arith, nat_tests)

-- ---- a message of the bag

among_at : {A : Type 0} (xs : List A) (place : ℕ) (x : A) → slice_get xs place ≡ Some x → Among xs x
among_at [] place x h = absurd cc
among_at (y ∷ ys) zero x h = let same : y ≡ x = cc in inl same
among_at (y ∷ ys) (suc place) x h = inr (among_at ys place x h)

pub mail_among : (bag : List Mail) (number : ℕ) (m : Mail) → mail_at bag number ≡ Some m → Among bag m
mail_among bag number m h = by_zero (nat_eq number 0) h
  where
    by_zero : (b : Bool) → (if b then None else slice_get bag (number - 1)) ≡ Some m → Among bag m
    by_zero true h = absurd cc
    by_zero false h = among_at bag (number - 1) m h

-- ---- a letter

module _ (n : NodeState) (id : Id) (l : Letter) (i : Input) (here : IsHere n id) where
  brings_register : l.to ≡ registration_of n.base id → (m : Message) → l.message ≡ m → register_input id m ≡ Some i
      → BringsInput n (letter l) i
  brings_register to (message.Register protocol participant) is h =
      let same : input.Register id protocol participant ≡ i = cc in subst (BringsInput n (letter l)) same (here, to, is)
  brings_register to m is h = absurd cc

  brings_to_end : l.to ≡ coordinator_of n.base id → (m : Message) → l.message ≡ m → notice_input Coordinator id m ≡ Some i
      → BringsInput n (letter l) i
  brings_to_end to (message.Notice x) is h =
      let same : input.Notice Coordinator id x ≡ i = cc in subst (BringsInput n (letter l)) same (here, to, is)
  brings_to_end to m is h = absurd cc

  brings_to_part : l.to ≡ participant_of n.base id → (m : Message) → l.message ≡ m → notice_input Participant id m ≡ Some i
      → BringsInput n (letter l) i
  brings_to_part to (message.Notice x) is h =
      let same : input.Notice Participant id x ≡ i = cc in subst (BringsInput n (letter l)) same (here, to, is)
  brings_to_part to m is h = absurd cc

  at_part : (b : Bool) → same_epr l.to (participant_of n.base id) ≡ b
      → (if b then notice_input Participant id l.message else None) ≡ Some i → BringsInput n (letter l) i
  at_part true is h = brings_to_part (endpoints_equal l.to (participant_of n.base id) is) l.message refl h
  at_part false is h = absurd cc

  at_end : (b : Bool) → same_epr l.to (coordinator_of n.base id) ≡ b
      → (if b then notice_input Coordinator id l.message
      else if same_epr l.to (participant_of n.base id) then notice_input Participant id l.message
      else None) ≡ Some i
      → BringsInput n (letter l) i
  at_end true is h = brings_to_end (endpoints_equal l.to (coordinator_of n.base id) is) l.message refl h
  at_end false is h = at_part (same_epr l.to (participant_of n.base id)) refl h

  at_scope : (b : Bool) → same_epr l.to (registration_of n.base id) ≡ b
      → (if b then register_input id l.message
      else if same_epr l.to (coordinator_of n.base id) then notice_input Coordinator id l.message
      else if same_epr l.to (participant_of n.base id) then notice_input Participant id l.message
      else None) ≡ Some i
      → BringsInput n (letter l) i
  at_scope true is h = brings_register (endpoints_equal l.to (registration_of n.base id) is) l.message refl h
  at_scope false is h = at_end (same_epr l.to (coordinator_of n.base id)) refl h

  by_address : input_by_address n id l ≡ Some i → BringsInput n (letter l) i
  by_address h = at_scope (same_epr l.to (registration_of n.base id)) refl h

letter_brings : (n : NodeState) (id : Id) (l : Letter) (i : Input) → node_of id.0 ≡ n.number → letter_input n id l ≡ Some i
    → BringsInput n (letter l) i
letter_brings n id l i node h = by_code (nat_eq (code_part id.0) 0) refl h
  where
    by_code : (b : Bool) → nat_eq (code_part id.0) 0 ≡ b → (if b then input_by_address n id l else None) ≡ Some i
        → BringsInput n (letter l) i
    by_code true is h = by_address n id l i (record { node = node; object = is_number (code_part id.0) 0 is }) h
    by_code false is h = absurd cc

-- ---- an answer

-- the number of a Register is its sender's with the code above it
pub register_number : (number : Id) → code_part number.0 ≡ register_code
    → number ≡ message_number register_code (record { 0 = sender_of number })
register_number number is = λ i. record { 0 = whole i }
  where
    whole : number.0 ≡ 17 * 2 ^ 96 + number.0 % 2 ^ 96
    whole = let high : number.0 / 2 ^ 96 ≡ 17 = is in omega (arith, high)

pub no_code : (number : ℕ) → number % 2 ^ 96 / 2 ^ 96 ≡ 0
no_code number = omega arith

module _ (n : NodeState) (number : Id) (i : Input) (node : node_of (sender_of number) ≡ n.number) where
  sender_here : IsHere n (record { 0 = sender_of number })
  sender_here = record { node = node; object = no_code number.0 }

  brings_told : code_part number.0 ≡ register_code → (m : Message) → told_input (record { 0 = sender_of number }) m ≡ Some i
      → BringsInput n (answer number m) i
  brings_told is (message.Registered coordinator) h =
      let same : input.Enrolled (record { 0 = sender_of number }) coordinator ≡ i = cc in
      subst (BringsInput n (answer number (message.Registered coordinator))) same (sender_here, register_number number is, refl)
  brings_told is (message.Fault c) h =
      let same : input.RefusedBy (record { 0 = sender_of number }) c ≡ i = cc in
      subst (BringsInput n (answer number (message.Fault c))) same (sender_here, register_number number is, refl)
  brings_told is m h = absurd cc

  answer_brings : (m : Message) → answer_input number m ≡ Some i → BringsInput n (answer number m) i
  answer_brings m h = by_code (nat_eq (code_part number.0) register_code) refl h
    where
      by_code : (b : Bool) → nat_eq (code_part number.0) register_code ≡ b
          → (if b then told_input (record { 0 = sender_of number }) m else None) ≡ Some i → BringsInput n (answer number m) i
      by_code true is h = brings_told (is_number (code_part number.0) register_code is) m h
      by_code false is h = absurd cc

-- ---- either, in a net in which each node has its number

pub arrival_brings : (w : Net) (m : Mail) (i : Input) → ((k : ℕ) → (node_at w k).number ≡ k) → (arrival w m).input ≡ Some i
    → BringsInput (node_at w (arrival w m).node) m i
arrival_brings w (letter l) i numbers h = by_identifier (identifier_in l.to.address) h
  where
    by_identifier : (found : Option Id) → (letter_arrival w found l).input ≡ Some i
        → BringsInput (node_at w (letter_arrival w found l).node) (letter l) i
    by_identifier None none = absurd cc
    by_identifier (Some id) leads = letter_brings (node_at w (node_of id.0)) id l i (sym (numbers (node_of id.0))) leads
arrival_brings w (answer number m) i numbers h =
    answer_brings (node_at w (node_of (sender_of number))) number i (sym (numbers (node_of (sender_of number)))) m h
