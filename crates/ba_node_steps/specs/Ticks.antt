-- Believe: what a tick makes of a node: the letter that the object with this identifier sends, the record that the node
-- keeps, and which objects have something to say now. A tick that changes nothing keeps no record.
use Rattle.std.specs.Prelude.{ℕ, Bool, not, ◌||◌, ◌&&◌, Option, None, Some, if◌then◌else◌}
use Rattle.std.specs.Option.{option_map, option_and_then}
use Rattle.ba_core.specs.Messages.{notice_code}
use Rattle.ba_core.specs.PartRows.{part_says}
use Rattle.ba_core.specs.declared.identifiers.Id.{Id}
use Rattle.ba_core.specs.declared.notices.Notice.{Notice}
use Rattle.ba_message.specs.declared.endpoints.Epr.{Epr}
use Rattle.ba_message.specs.declared.messages.Letter.{Letter}
use Rattle.ba_message.specs.declared.messages.Message.TheVariants as message
use Rattle.ba_record.specs.declared.records.Record.{Record}
use Rattle.ba_record.specs.declared.records.Record.TheVariants as journal
use Rattle.ba_scope_ends.specs.Ends.{Tick, tick_of_end}
use Rattle.ba_scope_ends.specs.Parts.{tick_of_part}
use Rattle.ba_scope.specs.Rules.{ScopeStep, expire, state_at_tick, tick_up, with_end_changed}
use Rattle.ba_scope.specs.Scope.{ScopeState}
use Rattle.ba_scope_ends.specs.declared.ends.End.{End}
use Rattle.ba_scope_ends.specs.declared.parts.Part.{Part}
use Rattle.ba_node_steps.specs.declared.answers.Wake.{Wake}
use Rattle.ba_node_steps.specs.declared.answers.Wake.TheVariants as wake
use Rattle.ba_node_steps.specs.Addresses.{message_number, participant_of, register_code}
use Rattle.ba_node_steps.specs.Node.{NodeState, PartPlace, nowhere, lone, upward, counter, end_place, part_place, scope_with_id, with_lone}
use Rattle.ba_node_steps.specs.Node.{with_scope}
use Rattle.ba_node_steps.specs.Steps.{if_found, is_registering_state, same_end_state, same_part_state, wake_of_end}

-- the node after a tick, the letter that is sent, the record that is kept, and which objects have something to say now
pub record TickStep : Type 0 where
  pub after : NodeState
  pub letter : Option Letter
  pub written : Option Record
  pub wake : Wake

-- nothing changes, and this letter is sent, or none
abbrev pub letter_step : NodeState → Option Letter → TickStep
letter_step n l = record { after = n; letter = l; written = None; wake = wake.Nobody }

-- the node changes to this one, and keeps a record that the object with this identifier ticked
abbrev pub ticked_step : NodeState → Option Letter → Id → Wake → TickStep
ticked_step after l id w = record { after = after; letter = l; written = Some (journal.Ticked (counter id)); wake = w }

abbrev pub notice_letter : Id → Epr → Notice → Letter
notice_letter sender to m = record { to = to; number = message_number (notice_code m) sender; message = message.Notice m }

-- an end writes to its participant, and a participant to its coordinator
abbrev pub end_letter : End → Option Notice → Option Letter
end_letter e = option_map (notice_letter e.id e.participant)

abbrev pub part_letter : Part → Option Notice → Option Letter
part_letter p = option_and_then (λ m. option_map (λ to. notice_letter p.id to m) p.coordinator)

-- ---- a scope: its deadline may be past

abbrev pub tick_at_scope : NodeState → ScopeState → ℕ → TickStep
tick_at_scope n s now =
    let expiry : ScopeStep Bool = expire s now in
    if expiry.answer then ticked_step (with_scope n expiry.after) None s.id (wake.Scope s.id) else letter_step n None

-- ---- an end

abbrev pub tick_at_end : NodeState → ScopeState → End → TickStep
tick_at_end n s e =
    let tick : Tick End = tick_of_end e in
    let stays : Bool = same_end_state e.state tick.after.state in
    if (e.owes || e.asks) || not stays
    then ticked_step (with_scope n (with_end_changed e.id (λ it. (tick_of_end it).after) s)) (end_letter e tick.says) e.id
    (if stays then wake.Nobody else wake_of_end s e.id tick.after.state)
    else letter_step n (end_letter e tick.says)

-- ---- a participant

-- one that is Registering sends its Register
abbrev pub register_letter : NodeState → Part → Letter
register_letter n p = record {
  to = p.registration;
  number = message_number register_code p.id;
  message = message.Register (Some p.protocol) (participant_of n.base p.id);
}

abbrev pub tick_lone : NodeState → Part → TickStep
tick_lone n p =
    let tick : Tick Part = tick_of_part p in
    if p.owes || p.asks then ticked_step (with_lone n tick.after) (part_letter p tick.says) p.id wake.Nobody
    else letter_step n (part_letter p (part_says p.state))

-- an upward part says its Status or asks for one, and else what its scope came to
abbrev pub tick_upward : NodeState → ScopeState → Part → TickStep
tick_upward n s up =
    let tick : Tick ScopeState = tick_up s in
    let talks : Bool = up.owes || up.asks in
    let acts : Bool = not talks && not (same_part_state up.state (state_at_tick s up)) in
    if talks || acts
    then ticked_step (with_scope n tick.after) (part_letter up tick.says) up.id (if acts then wake.One up.id else wake.Nobody)
    else letter_step n (part_letter up tick.says)

abbrev pub tick_at_part : NodeState → PartPlace → TickStep
tick_at_part n nowhere = letter_step n None
tick_at_part n (lone p) = if is_registering_state p.state then letter_step n (Some (register_letter n p)) else tick_lone n p
tick_at_part n (upward s p) =
    if is_registering_state p.state then letter_step n (Some (register_letter n p)) else tick_upward n s p

-- ---- the tick of the object with this identifier, at a moment

abbrev pub tick_step : NodeState → ℕ → Id → TickStep
tick_step n now id =
    if_found (scope_with_id n id)
    (if_found (end_place n id) (tick_at_part n (part_place n id)) (λ at. tick_at_end n at.scope at.end))
    (λ s. tick_at_scope n s now)
