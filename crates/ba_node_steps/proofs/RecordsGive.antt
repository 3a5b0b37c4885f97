-- What a record gives when its step is enacted again; for the law a_record_gives_what_fits.
use Rattle.std.proofs.Common.{◌≡◌, ℕ, Bool, true, false, ◌&&◌, nat_eq, Option, None, Some, is_some, if◌then◌else◌, refl, subst}
use Rattle.std.specs.Option.{option_and_then}
use Rattle.ba_core.specs.declared.codes.Code.TheVariants as code
use Rattle.ba_core.specs.declared.identifiers.Id.{Id}
use Rattle.ba_core.specs.declared.notices.Act.{Act}
use Rattle.ba_core.specs.declared.notices.Act.TheVariants as act
use Rattle.ba_core.specs.declared.protocols.Kind.{Kind}
use Rattle.ba_core.specs.declared.protocols.Protocol.{Protocol}
use Rattle.ba_core.specs.declared.protocols.Verdict.TheVariants.{Close, Undo}
use Rattle.ba_message.specs.declared.endpoints.Epr.{Epr}
use Rattle.ba_record.specs.Coding.{InRange, IsUpward}
use Rattle.ba_record.specs.declared.records.Record.{Record}
use Rattle.ba_record.specs.declared.records.Record.TheVariants as journal
use Rattle.ba_node_steps.specs.declared.inputs.Input.TheVariants as input
use Rattle.ba_node_steps.specs.Endpoints.{AllReachable, GivesFit}
use Rattle.ba_node_steps.specs.Lawful.{Event, given, act_event, after_record, change, chosen_event, create_event, enacted_again, event_of}
use Rattle.ba_node_steps.specs.Lawful.{is_next, refused_event}
use Rattle.ba_node_steps.specs.Node.{NodeState, PartPlace, upward}
use Rattle.ba_node_steps.specs.Steps.{choice_number, complete_number}
use Rattle.ba_node_steps.proofs.EndpointsKept.{step_reaches}
use Rattle.ba_node_steps.proofs.Enacted.{some_is}

-- whichever event it is, what it gives fits
abbrev Gives : Option Event → Type 0
Gives o = (e : Event) → o ≡ Some e → GivesFit e

of_none : Gives None
of_none e h = absurd cc

of_some : (e : Event) → GivesFit e → Gives (Some e)
of_some e fits f h = subst GivesFit (some_is e f h) fits

of_choice : (b : Bool) (x y : Option Event) → Gives x → Gives y → Gives (if b then x else y)
of_choice true x y left right = left
of_choice false x y left right = right

create_gives : (kind : Kind) (deadline : Option ℕ) (up : Option (Protocol × Epr)) → IsUpward up → GivesFit (create_event kind deadline up)
create_gives kind deadline None fits = tt
create_gives kind deadline (Some up) fits = (fits, tt)

act_gives : (place : PartPlace) (id : Id) (a : Act) → GivesFit (act_event place id a)
act_gives (upward s p) id act.Completed = tt
act_gives (upward s p) id act.Exit = tt
act_gives (upward s p) id act.CannotComplete = tt
act_gives (upward s p) id act.Fail = tt
act_gives place id a = tt

refused_gives : (id : Id) (number : ℕ) → Gives (refused_event id number)
refused_gives id number =
    of_choice (nat_eq number 1) _ _ (of_some (given 0 (input.RefusedBy id code.CannotRegisterParticipant)) tt)
    (of_choice (nat_eq number 2) _ _ (of_some (given 0 (input.RefusedBy id code.InvalidProtocol)) tt) of_none)

chosen_gives : (id : Id) (number : ℕ) → Gives (chosen_event id number)
chosen_gives id number =
    of_choice (nat_eq number (choice_number Close)) _ _ (of_some (given 0 (input.Choose id Close)) tt)
    (of_choice (nat_eq number (choice_number Undo)) _ _ (of_some (given 0 (input.Choose id Undo)) tt)
    (of_choice (nat_eq number complete_number) _ _ (of_some (given 0 (input.Complete id)) tt) of_none))

pub gives_fit : (n : NodeState) (r : Record) (e : Event) → InRange r → event_of n r ≡ Some e → GivesFit e
gives_fit n (journal.Node number base) e range h = absurd cc
gives_fit n (journal.Scope c kind deadline up) e range h = of_some _ (create_gives kind deadline up range.1.1) e h
gives_fit n (journal.End c scope protocol participant) e range h = of_some _ (range.1.1, tt) e h
gives_fit n (journal.Part c protocol registration) e range h = of_some _ (range.1, tt) e h
gives_fit n (journal.Enrolled c coordinator) e range h = of_some _ (range.1, tt) e h
gives_fit n (journal.Refused c number) e range h = refused_gives _ number e h
gives_fit n (journal.Received c m) e range h = of_some _ tt e h
gives_fit n (journal.Acted c a) e range h = of_some _ (act_gives _ _ a) e h
gives_fit n (journal.Decided c v) e range h = of_some _ tt e h
gives_fit n (journal.Chosen c number) e range h = chosen_gives _ number e h
gives_fit n (journal.Ticked c) e range h = of_some _ tt e h
gives_fit n (journal.Asked c) e range h = of_some _ tt e h

-- ---- the node after it

-- the event of a record's step
record IsEnacted (n : NodeState) (r : Record) (after : NodeState) : Type 0 where
  event : Event
  is : event_of n r ≡ Some event
  leads : (change n event).after ≡ after

enacted_leads : (n : NodeState) (r : Record) (e : Event) (after : NodeState) → enacted_again n r e ≡ Some after → (change n e).after ≡ after
enacted_leads n r e after h = by_answer (is_next n r && is_some (change n e).written) h
  where
    by_answer : (b : Bool) → (if b then Some (change n e).after else None) ≡ Some after → (change n e).after ≡ after
    by_answer true h = some_is (change n e).after after h
    by_answer false h = absurd cc

enacted_by : (n : NodeState) (r : Record) (after : NodeState) (o : Option Event) → event_of n r ≡ o
    → option_and_then (enacted_again n r) o ≡ Some after
    → IsEnacted n r after
enacted_by n r after None is h = absurd cc
enacted_by n r after (Some e) is h = record { event = e; is = is; leads = enacted_leads n r e after h }

pub after_reaches : (n : NodeState) (r : Record) (after : NodeState) → InRange r → AllReachable n → after_record n r ≡ Some after
    → AllReachable after
after_reaches n r after range reaches h =
    let by : IsEnacted n r after = enacted_by n r after (event_of n r) refl h in
    subst AllReachable by.leads (step_reaches n by.event (gives_fit n r by.event range by.is) reaches)
