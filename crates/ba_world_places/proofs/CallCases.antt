-- What a call of a place leads to by what its node answered is what the call of the play leads to; for the clauses of `call_input`,
-- `call_tick` and `call_nothing`.
use Rattle.std.proofs.Common.{◌≡◌, ◌≢◌, ℕ, true, false, List, ◌++◌, Option, Some, None, Result, Ok, Err, is_some, refl, sym, ◌∙◌, ap, subst}
use Rattle.std.specs.Option.{option_map, option_to_list}
use Rattle.std.proofs.lemmas.List.{append-nil}
use Rattle.ba_core.specs.declared.identifiers.Id.{Id}
use Rattle.ba_world_events.specs.declared.outcomes.Outcome.{Outcome}
use Rattle.ba_world_events.specs.declared.outcomes.Outcome.TheVariants as outcome
use Rattle.ba_ports_memory.specs.DiskValue.{DiskValue, Drives, IsLater, MayBeLeft, MayHaveBeenLeft, MediumValue, rearm}
use Rattle.ba_node.specs.Answers.{IsAnswered, closed_node}
use Rattle.ba_node.specs.Keeping.{IsPast, StandsWith, Stepped, with_record}
use Rattle.ba_node.specs.Nodes.{NodeOnJournal}
use Rattle.ba_node.specs.declared.faults.NodeFault.{NodeFault}
use Rattle.ba_node.specs.declared.faults.NodeFault.TheVariants as fault
use Rattle.ba_world_places.proofs.CallLemmas.{CallIs, Settled, broken_is, closed_is, closed_matches, down_is, down_matches, full_is, left_after}
use Rattle.ba_world_places.proofs.CallLemmas.{runs_unarmed, taken_call}
use Rattle.ba_world_places.specs.Calls.{CallLeadsTo, IsOfInput, MatchesBoth}
use Rattle.ba_world_places.specs.Places.{Matches, RestsAt, RunsAt, kind_among, mode_of}
use Rattle.ba_world_places.specs.declared.calls.Answer.TheVariants as answer
use Rattle.ba_world_places.specs.declared.places.KnownScope.{KnownScope}
use Rattle.ba_world_places.specs.declared.places.Place.{Place}
use Rattle.ba_world_places.specs.declared.places.Place.TheVariants as place
use Rattle.ba_world_places.specs.inside.Calls.{IsBroken, IsBrokenBy, IsUntaken, KnowsScopes, unarmed}
use Rattle.ba_world_play.specs.Nodes.{NodeCall, broken_call, called_node, disarmed, lost_call, node_call, node_pending, node_taken}
use Rattle.ba_ports.specs.Disk.{LeavesOnly, nothing}
use Rattle.ba_ports.specs.declared.images.Image.{Image}
use Rattle.ba_ports.specs.declared.requests.Call.{Call}
use Rattle.ba_record.specs.declared.records.Record.{Record}
use Rattle.ba_world_runs.specs.World.{formats, Occasion, WorldNode, delivers, is_closed, is_down, own, ticks}
use Rattle.ba_world_runs.specs.WorldSteps.{effect}
use Rattle.ba_node_steps.specs.Fits.{HasSpareCounters}
use Rattle.ba_node_steps.specs.Lawful.{Change}
use Rattle.ba_node_steps.specs.Node.{NodeState, scope_with_id}
use Rattle.ba_node_steps.specs.Steps.{node_step}
use Rattle.ba_node_steps.specs.declared.inputs.Input.{Input}

-- ---- the effect of an occasion that brings an input

pub input_writes : (n : NodeState) (now : ℕ) (i : Input) (o : Occasion) → IsOfInput now i o
    → (effect n o).written ≡ (node_step n now i).written
input_writes n now i (own moment j) is =
    ap (λ (m : ℕ). (node_step n m j).written) is.0 ∙ ap (λ (x : Input). (node_step n now x).written) is.1
input_writes n now i (delivers moment mail j) is =
    ap (λ (m : ℕ). (node_step n m j).written) is.0 ∙ ap (λ (x : Input). (node_step n now x).written) is.1
input_writes n now i (ticks moment id) is = absurd is
input_writes n now i formats is = absurd is

pub input_after : (n : NodeState) (now : ℕ) (i : Input) (o : Occasion) → IsOfInput now i o
    → (effect n o).after ≡ (node_step n now i).after
input_after n now i (own moment j) is =
    ap (λ (m : ℕ). (node_step n m j).after) is.0 ∙ ap (λ (x : Input). (node_step n now x).after) is.1
input_after n now i (delivers moment mail j) is =
    ap (λ (m : ℕ). (node_step n m j).after) is.0 ∙ ap (λ (x : Input). (node_step n now x).after) is.1
input_after n now i (ticks moment id) is = absurd is
input_after n now i formats is = absurd is

-- ---- a call as a place has it

abbrev pub TakenLeads : {T : Type 0} → (T → Type 0) → T → Place → NodeCall → Type 0
TakenLeads IsOfStep value at call = CallLeadsTo IsOfStep call at (answer.Taken value)

abbrev pub UntakenLeads : {T : Type 0} → (T → Type 0) → Outcome → Place → NodeCall → Type 0
UntakenLeads {T} IsOfStep shown at call = CallLeadsTo {T = T} IsOfStep call at (answer.Untaken shown)

-- the call of the play took no step, shows this, and leads to this place
no_step : {T : Type 0} (IsOfStep : T → Type 0) (call : NodeCall) (n : WorldNode) (disk : MediumValue) (shown due : Outcome) (at to : Place)
    → call ≡ called_node n disk (Some due) → at ≡ to → shown ≡ due → Matches n (disarmed disk) to
    → UntakenLeads IsOfStep shown at call
no_step {T} IsOfStep call n disk shown due at to is there says matches =
    let led : UntakenLeads IsOfStep shown at (called_node n disk (Some due)) =
    record { after = subst (Matches n (disarmed disk)) (sym there) matches; answer = says } in
    subst (UntakenLeads IsOfStep shown at) (sym is) led

-- ---- nothing was done

stays_up : (n : WorldNode) (disk : MediumValue) (node : NodeOnJournal DiskValue) → Matches n disk (place.Up node)
    → Matches n (disarmed disk) (place.Up (unarmed node))
stays_up n disk node matches = record { place = runs_unarmed n disk node matches.place; holds = matches.holds }

stays_down : (n : WorldNode) (disk : MediumValue) (held : DiskValue) (known : List KnownScope) → Matches n disk (place.Down held known)
    → Matches n (disarmed disk) (place.Down (rearm nothing held) known)
stays_down n disk held known matches =
    let rests : RestsAt n disk held known = matches.place in
    record {
      place = record { mode = rests.mode; medium = ap disarmed rests.medium; fed = rests.fed; scopes = rests.scopes };
      holds = matches.holds;
    }

pub down_leads : {T : Type 0} (IsOfStep : T → Type 0) (n : WorldNode) (disk : MediumValue) (o : Occasion) (held : DiskValue)
    (known : List KnownScope) (at : Place) → Matches n disk (place.Down held known) → at ≡ place.Down (rearm nothing held) known
    → UntakenLeads IsOfStep outcome.Down at (node_call n disk o)
down_leads IsOfStep n disk o held known at matches there =
    no_step IsOfStep (node_call n disk o) n disk outcome.Down outcome.Down at (place.Down (rearm nothing held) known)
    (down_is n disk o held known matches.place) there refl (stays_down n disk held known matches)

-- a message that leads to no input
abbrev pub LostLeads : WorldNode → MediumValue → Place → Outcome → NodeCall → Type 0
LostLeads n disk at shown call = MatchesBoth call.after at × (call.shown ≡ Some shown)

lost_is : (n : WorldNode) (disk : MediumValue) (closed : Option ℕ)
    → lost_call n disk (mode_of closed) ≡ called_node n disk (Some outcome.Done)
lost_is n disk None = refl
lost_is n disk (Some count) = refl

pub lost_up : (n : WorldNode) (disk : MediumValue) (node : NodeOnJournal DiskValue) (at : Place) → Matches n disk (place.Up node)
    → at ≡ place.Up (unarmed node) → LostLeads n disk at outcome.Done (lost_call n disk n.mode)
lost_up n disk node at matches there =
    let runs : RunsAt n disk node = matches.place in
    let is : lost_call n disk n.mode ≡ called_node n disk (Some outcome.Done) =
    ap (lost_call n disk) runs.mode ∙ lost_is n disk node.closed in
    let led : LostLeads n disk at outcome.Done (called_node n disk (Some outcome.Done)) =
    (subst (Matches n (disarmed disk)) (sym there) (stays_up n disk node matches), refl) in
    subst (LostLeads n disk at outcome.Done) (sym is) led

pub lost_down : (n : WorldNode) (disk : MediumValue) (held : DiskValue) (known : List KnownScope) (at : Place)
    → Matches n disk (place.Down held known) → at ≡ place.Down (rearm nothing held) known
    → LostLeads n disk at outcome.Down (lost_call n disk n.mode)
lost_down n disk held known at matches there =
    let rests : RestsAt n disk held known = matches.place in
    let is : lost_call n disk n.mode ≡ called_node n disk (Some outcome.Down) = ap (lost_call n disk) rests.mode in
    let led : LostLeads n disk at outcome.Down (called_node n disk (Some outcome.Down)) =
    (subst (Matches n (disarmed disk)) (sym there) (stays_down n disk held known matches), refl) in
    subst (LostLeads n disk at outcome.Down) (sym is) led

-- ---- the step is taken

with_list : (records : List Record) (written : Option Record) → with_record records written ≡ records ++ option_to_list written
with_list records None = sym (append-nil records)
with_list records (Some r) = refl

-- what a call of a node promises of its disk, whatever it answers
abbrev pub CallsOf : {T : Type 0} → NodeOnJournal DiskValue → NodeOnJournal DiskValue → Option Record → Result T NodeFault → Type 0
CallsOf node node1 written result = (calls : List Call) × Drives node.disk calls node1.disk × Stepped node.end written result calls

pub taken_leads : {T V : Type 0} (IsOfStep : V → Type 0) (value : T) (told : V) (n : WorldNode) (disk : MediumValue) (o : Occasion)
    (node node1 : NodeOnJournal DiskValue) (due : Change) (at : Place) → Matches n disk (place.Up node)
    → (effect n.state o).written ≡ due.written → (effect n.state o).after ≡ due.after
    → IsAnswered {T = T} (λ (d : DiskValue). d.faults) due node node1 (Ok value)
    → ((records : List Record) → Settled node.disk node.end records → Settled node1.disk node1.end (with_record records due.written))
    → CallsOf {T = T} node node1 due.written (Ok value) → node1.disk.starved ≡ false → HasSpareCounters node1.node
    → at ≡ place.Up (unarmed node1) → IsOfStep told → TakenLeads IsOfStep told at (node_call n disk o)
taken_leads {T} IsOfStep value told n disk o node node1 due at matches writes after answered durable calls fed spare there is_told =
    let runs : RunsAt n disk node = matches.place in
    let opened : node.closed ≡ None = answered.done.0 in
    let open1 : node1.closed ≡ None = ap (λ (x : NodeOnJournal DiskValue). x.closed) answered.done.1 ∙ opened in
    let state : node1.node ≡ (effect n.state o).after = ap (λ (x : NodeOnJournal DiskValue). x.node) answered.done.1 ∙ sym after in
    let settled : Settled node1.disk node1.end (n.records ++ option_to_list due.written) =
    subst (Settled node1.disk node1.end) (with_list n.records due.written) (durable n.records (runs.settled opened)) in
    let is : CallIs n disk o node1 =
    taken_call value n disk o node node1 due.written runs opened open1 writes answered.within state spare settled calls fed in
    let led : TakenLeads IsOfStep told at (called_node (node_taken n o) node1.disk.medium None) =
    record { after = subst (Matches (node_taken n o) (disarmed node1.disk.medium)) (sym there) is.matches; answer = is_told } in
    subst (TakenLeads IsOfStep told at) (sym is.call) led

-- ---- the step isn't taken

abbrev pub LeavesWith : DiskValue → DiskValue → (List ℕ → Type 0) → Type 0
LeavesWith = LeavesOnly (λ (x y : DiskValue). IsLater x.medium y.medium) (λ (x y : DiskValue). MayHaveBeenLeft x.medium y.medium)

module _ (n : WorldNode) (disk : MediumValue) (o : Occasion) (node node1 : NodeOnJournal DiskValue)
    (matches : Matches n disk (place.Up node)) where
  -- the disk failed, or its machine stopped, while a record was written
  broken_leads : {V : Type 0} (IsOfStep : V → Type 0) (r : Record) (at : Place) (shown : Outcome) → (effect n.state o).written ≡ Some r
      → node1 ≡ closed_node node node1.disk node1.disk.faults → node1.disk.starved ≡ false
      → ((c : List ℕ) → MayBeLeft node1.disk.medium c → StandsWith n.records (Some r) c)
      → (stopped : Option Image) → IsBrokenBy stopped node1 at shown
      → UntakenLeads IsOfStep shown at (broken_call n o node1.disk.medium stopped)
  broken_leads IsOfStep r at shown writes closes fed left None broken =
      let runs : RunsAt n disk node = matches.place in
      no_step IsOfStep (broken_call n o node1.disk.medium None) (node_pending n o is_closed) node1.disk.medium shown outcome.Disk
      at (place.Up (unarmed node1)) refl broken.0 broken.1
      (closed_matches n disk o node node1 r node1.disk.faults runs writes (ap (λ (x : NodeOnJournal DiskValue). x.closed) closes)
      (ap (λ (x : NodeOnJournal DiskValue). x.node) closes) fed left)
  broken_leads IsOfStep r at shown writes closes fed left (Some image) (known, there, says, scopes) =
      let runs : RunsAt n disk node = matches.place in
      let state : node1.node ≡ n.state = ap (λ (x : NodeOnJournal DiskValue). x.node) closes ∙ runs.state in
      let knows : KnowsScopes n known =
      subst (λ (s : NodeState). (id : Id) → kind_among known id ≡ option_map (λ x. x.kind) (scope_with_id s id)) state scopes in
      no_step IsOfStep (broken_call n o node1.disk.medium (Some image)) (node_pending n o is_down) node1.disk.medium shown outcome.Stopped
      at (place.Down (rearm nothing node1.disk) known) refl there says
      (down_matches n o node1.disk r known writes fed (record { mode = refl; medium = refl; fed = fed; scopes = knows }) left)

  broken_with : (T : Type 0) {V : Type 0} (IsOfStep : V → Type 0) (written : Option Record) (at : Place) (shown : Outcome)
      → (effect n.state o).written ≡ written → written ≢ None → node.closed ≡ None → (IsPast node.end written → ⊥)
      → node1 ≡ closed_node node node1.disk node1.disk.faults → CallsOf {T = T} node node1 written (Err fault.Disk)
      → node1.disk.starved ≡ false → LeavesWith node.disk node1.disk (StandsWith n.records written) → IsBroken node1 at shown
      → UntakenLeads IsOfStep shown at (node_call n disk o)
  broken_with T IsOfStep None at shown writes some opened fits closes calls fed leaves broken = absurd (some refl)
  broken_with T IsOfStep (Some r) at shown writes some opened fits closes calls fed leaves broken =
      subst (UntakenLeads IsOfStep shown at)
      (sym (broken_is T n disk o node node1 (Some r) matches.place opened writes fits calls fed))
      (broken_leads IsOfStep r at shown writes closes fed (left_after node.disk node1.disk (StandsWith n.records (Some r)) leaves)
      node1.disk.medium.stopped broken)

  pub untaken_leads : (T : Type 0) {V : Type 0} (IsOfStep : V → Type 0) (due : Change) (why : NodeFault) (at : Place) (shown : Outcome)
      → (effect n.state o).written ≡ due.written → IsAnswered {T = T} (λ (d : DiskValue). d.faults) due node node1 (Err why)
      → ((records : List Record) → Settled node.disk node.end records
      → LeavesWith node.disk node1.disk (StandsWith records due.written))
      → CallsOf {T = T} node node1 due.written (Err why) → node1.disk.starved ≡ false → IsUntaken node1 why at shown
      → UntakenLeads IsOfStep shown at (node_call n disk o)
  untaken_leads T IsOfStep due fault.Memory at shown writes answered leaves calls fed untaken = absurd untaken
  untaken_leads T IsOfStep due fault.Full at shown writes answered leaves calls fed untaken =
      let same : node1 ≡ node = answered.unchanged (λ h. absurd cc) in
      let full = answered.full refl in
      no_step IsOfStep (node_call n disk o) n disk shown outcome.Full at (place.Up (unarmed node))
      (full_is n disk o node due.written matches.place full.0 writes full.1)
      (untaken.0 ∙ ap (λ (x : NodeOnJournal DiskValue). place.Up (unarmed x)) same) untaken.1 (stays_up n disk node matches)
  untaken_leads T IsOfStep due (fault.Closed count) at shown writes answered leaves calls fed untaken =
      let same : node1 ≡ node = answered.unchanged (λ h. absurd cc) in
      no_step IsOfStep (node_call n disk o) n disk shown outcome.Closed at (place.Up (unarmed node))
      (closed_is n disk o node count matches.place ((answered.closed count).0 refl))
      (untaken.0 ∙ ap (λ (x : NodeOnJournal DiskValue). place.Up (unarmed x)) same) untaken.1 (stays_up n disk node matches)
  untaken_leads T IsOfStep due fault.Disk at shown writes answered leaves calls fed untaken =
      let runs : RunsAt n disk node = matches.place in
      let broke = answered.broke refl in
      broken_with T IsOfStep due.written at shown writes broke.1 broke.0 broke.2 (answered.closes refl) calls fed
      (leaves n.records (runs.settled broke.0)) untaken

-- ---- the disk of a node whose machine has stopped

broken_by : (node : NodeOnJournal DiskValue) (at : Place) (known : List KnownScope) (stopped : Option Image) → is_some stopped ≡ true
    → at ≡ place.Down (rearm nothing node.disk) known
    → ((id : Id) → kind_among known id ≡ option_map (λ s. s.kind) (scope_with_id node.node id))
    → IsBrokenBy stopped node at outcome.Stopped
broken_by node at known None some there scopes = absurd cc
broken_by node at known (Some image) some there scopes = (known, there, refl, scopes)

pub broken_down : (node : NodeOnJournal DiskValue) (at : Place) (d : DiskValue) (known : List KnownScope)
    → is_some node.disk.medium.stopped ≡ true → d ≡ node.disk → at ≡ place.Down (rearm nothing d) known
    → ((id : Id) → kind_among known id ≡ option_map (λ s. s.kind) (scope_with_id node.node id))
    → IsBroken node at outcome.Stopped
broken_down node at d known some is there scopes =
    broken_by node at known node.disk.medium.stopped some (there ∙ ap (λ (x : DiskValue). place.Down (rearm nothing x) known) is) scopes
