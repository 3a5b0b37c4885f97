-- Each message of a run leads to an input; for the law each_message_leads.
use Rattle.std.proofs.Common.{◌≡◌, ◌≢◌, Bool, None, if◌then◌else◌, ℕ, ◌+◌, ◌*◌, ◌/◌, ◌%◌, ◌^◌, ◌<◌, List, ◌∷◌, Some, arith, refl, sym, ap, ◌∙◌, subst}
use Rattle.std.proofs.lemmas.Bool.{ne_eqb}
use Rattle.ba_core.specs.Numbers.{code_part, node_of}
use Rattle.ba_core.specs.declared.identifiers.Id.{Id}
use Rattle.ba_core.specs.declared.protocols.Side.TheVariants.{Coordinator, Participant}
use Rattle.ba_message.specs.declared.messages.Letter.{Letter}
use Rattle.ba_message.specs.declared.messages.Message.{Message}
use Rattle.ba_message.specs.declared.messages.Message.TheVariants as message
use Rattle.ba_scope.specs.Scope.{ScopeState}
use Rattle.ba_scope_ends.specs.declared.ends.End.{End}
use Rattle.ba_scope_ends.specs.declared.parts.Part.{Part}
use Rattle.ba_node_steps.specs.Addresses.{register_code, sender_of}
use Rattle.ba_node_steps.specs.Fits.{IsIdAt}
use Rattle.ba_node_steps.specs.Node.{Among, IsHere}
use Rattle.ba_node_steps.specs.Routing.{told_input}
use Rattle.ba_node_steps.specs.declared.inputs.Input.{Input}
use Rattle.ba_node_steps.specs.declared.inputs.Input.TheVariants as input
use Rattle.ba_world_play.proofs.Arriving.{no_code, register_number}
use Rattle.ba_world_play.proofs.Leading.{arrives_there}
use Rattle.ba_world_play.specs.Arrivals.{Leads, arrival}
use Rattle.ba_world_runs.proofs.Letters.{coordinator_is}
use Rattle.ba_world_runs.proofs.Owners.{end_id, part_id, scope_id}
use Rattle.ba_world_runs.proofs.SoundRuns.{sound_run}
use Rattle.ba_world_runs.specs.Runs.{IsRun}
use Rattle.ba_world_runs.specs.Safety.{IsAddressed, MailFits, of_end, of_enrolment, of_fault, of_part, of_register}
use Rattle.ba_world_runs.specs.World.{Mail, Net, World, answer, letter, net_of, node_at}
use Rattle.ba_world_runs.specs.WorldSteps.{BringsInput}

node_is : (k : ℕ) (id : Id) → IsIdAt k id → node_of id.0 ≡ k
node_is k id is =
    let e : id.0 ≡ k * 2 ^ 64 + is.counter = is.spelled in
    let wide = is.is_counter.1 in
    let number = is.is_number in
    omega (arith, e, wide, number)

code_is : (k : ℕ) (id : Id) → IsIdAt k id → code_part id.0 ≡ 0
code_is k id is =
    let e : id.0 ≡ k * 2 ^ 64 + is.counter = is.spelled in
    let wide = is.is_counter.1 in
    let number = is.is_number in
    omega (arith, e, wide, number)

module _ (w : Net) (addressed : IsAddressed w) where
  abbrev Brings : Mail → Type 0
  Brings m = (k : ℕ) × (i : Input) × BringsInput (node_at w k) m i

  stands : (k : ℕ) (id : Id) → IsIdAt k id → IsHere (node_at w k) id
  stands k id is = record { node = node_is k id is ∙ sym (addressed.nodes k).number; object = code_is k id is }

  letter_brings_one : (l : Letter) → MailFits w (letter l) → Brings (letter l)
  letter_brings_one l (of_register j p of number to says) =
      let registers = addressed.endpoints.parts j p of in
      let k : ℕ = registers.0 in
      let s : ScopeState = registers.1 in
      let here : IsHere (node_at w k) s.id = stands k s.id (scope_id w addressed k s registers.2.scope) in
      (k, input.Register s.id _ _, (here, to ∙ registers.2.names, says))
  letter_brings_one l (of_part j p n of number to says) =
      let keeps = coordinator_is w addressed j p l.to of to in
      let k : ℕ = keeps.0 in
      let e : End = keeps.2 in
      let here : IsHere (node_at w k) e.id = stands k e.id (end_id w addressed k keeps.1 e keeps.3.scope keeps.4.0) in
      (k, input.Notice Coordinator e.id n, (here, keeps.5, says))
  letter_brings_one l (of_end k s e n scope among number to says) =
      let owner = addressed.endpoints.ends k s e scope among in
      let j : ℕ = owner.0 in
      let p : Part = owner.1 in
      let here : IsHere (node_at w j) p.id = stands j p.id (part_id w addressed j p owner.2.part) in
      (j, input.Notice Participant p.id n, (here, to ∙ owner.3, says))

  -- an answer to a Register: a RegisterResponse at the participant that it enrolled, a fault at the one that sent the Register
  answer_brings_one : (number : Id) (m : Message) → MailFits w (answer number m) → code_part number.0 ≡ register_code
      → Brings (answer number m)
  answer_brings_one number m (of_enrolment j p k s e link has is told) code =
      let here : IsHere (node_at w j) p.id = stands j p.id (part_id w addressed j p link.part) in
      subst (λ (x : Message). Brings (answer number x)) (sym told) (j, input.Enrolled p.id _, (here, is, refl))
  answer_brings_one number m (of_fault l c sent is told apart) code =
      let sender : Id = record { 0 = sender_of number } in
      let k : ℕ = node_of (sender_of number) in
      let here : IsHere (node_at w k) sender = record { node = sym (addressed.nodes k).number; object = no_code number.0 } in
      subst (λ (x : Message). Brings (answer number x)) (sym told) (k, input.RefusedBy sender c, (here, register_number number code, refl))

pub leads_nowhere : (w : Net) (number : Id) (m : Message) → code_part number.0 ≢ register_code → (arrival w (answer number m)).input ≡ None
leads_nowhere w number m other =
    ap (λ (b : Bool). if b then told_input (record { 0 = sender_of number }) m else None) (ne_eqb (code_part number.0) register_code other)

-- ---- in a run

module _ (w : World) (before : List World) (run : IsRun (w ∷ before)) where
  addressed_now : IsAddressed (net_of w)
  addressed_now = (sound_run w before run).net.addressed

  leads_if : (m : Mail) → Brings (net_of w) addressed_now m → Leads (net_of w) m
  leads_if m (k, i, brings) = (k, i, arrives_there w before k m i run brings, brings)

  pub letter_leads : (l : Letter) → Among w.bag (letter l) → Leads (net_of w) (letter l)
  letter_leads l sent =
      leads_if (letter l) (letter_brings_one (net_of w) addressed_now l (addressed_now.mail (letter l) sent))

  pub answer_leads : (number : Id) (m : Message) → Among w.bag (answer number m) → code_part number.0 ≡ register_code
      → Leads (net_of w) (answer number m)
  answer_leads number m sent code =
      leads_if (answer number m)
      (answer_brings_one (net_of w) addressed_now number m (addressed_now.mail (answer number m) sent) code)
