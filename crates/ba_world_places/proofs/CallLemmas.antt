-- A call of a node that finds memory is the call of the play; for the clauses of `call_input` and `call_tick`.
use Rattle.std.proofs.Common.{◌≡◌, ◌+◌, ℕ, inl, inr, Bool, true, false, List, [], ◌∷◌, ◌++◌, length, Option, Some, None, Ok, Err, refl, sym}
use Rattle.std.proofs.Common.{◌∙◌, ap, subst, if◌then◌else◌}
use Rattle.std.specs.Option.{option_to_list}
use Rattle.ba_world_events.specs.declared.outcomes.Outcome.TheVariants as outcome
use Rattle.ba_journal.specs.Frames.{StandsFor}
use Rattle.ba_journal.specs.Journals.{IsSettled, appending, behind_gate}
use Rattle.ba_ports_memory.specs.DiskValue.{DiskValue, Drives, IsLater, MayBeLeft, MayHaveBeenLeft, MediumValue, bytes_of, rearm}
use Rattle.ba_ports_memory.specs.inside.DiskLaws.{left_now}
use Rattle.ba_node.specs.Keeping.{IsPast, StandsWith, Stepped}
use Rattle.ba_node.specs.Nodes.{NodeOnJournal}
use Rattle.ba_node.specs.declared.faults.NodeFault.TheVariants as fault
use Rattle.ba_world_play.proofs.Driven.{append_is_played, past_is_played}
use Rattle.ba_world_play.specs.Disks.{HoldsNode, StandsForNode}
use Rattle.ba_world_play.specs.Nodes.{append_run, broken_call, call_by_append, call_by_mode, call_by_record, called_node, disarmed, is_past_end}
use Rattle.ba_world_play.specs.Nodes.{node_call, node_pending, node_taken}
use Rattle.ba_ports.specs.Disk.{InTurn, LeavesOnly, nothing}
use Rattle.ba_ports.specs.declared.requests.Call.{Call}
use Rattle.ba_record.specs.Coding.{coding}
use Rattle.ba_record.specs.declared.records.Record.{Record}
use Rattle.ba_world_runs.specs.World.{Mode, Occasion, WorldNode, is_closed, is_down, is_up}
use Rattle.ba_world_runs.specs.WorldSteps.{effect}
use Rattle.ba_node_steps.specs.Fits.{HasSpareCounters}
use Rattle.ba_world_places.specs.Places.{Matches, RestsAt, RunsAt, mode_of}
use Rattle.ba_world_places.specs.inside.Calls.{unarmed}
use Rattle.ba_world_places.specs.declared.places.KnownScope.{KnownScope}
use Rattle.ba_world_places.specs.declared.places.Place.TheVariants as place

abbrev pub Settled : DiskValue → ℕ → List Record → Type 0
Settled = IsSettled (λ (d : DiskValue). bytes_of d.medium) (λ (d : DiskValue). MayBeLeft d.medium)

-- ---- a disk at rest

pub settled_unarmed : (d : DiskValue) (gate : ℕ) (records : List Record) → Settled d gate records
    → Settled (rearm nothing d) gate records
settled_unarmed d gate records s = record { at_rest = s.at_rest; place = s.place; durable = s.durable }

pub holds_at_rest : (n : WorldNode) (d : DiskValue) (gate : ℕ) → Settled d gate n.records → HoldsNode n d.medium
holds_at_rest n d gate s left may =
    inl (subst (λ (file : List ℕ). StandsFor file n.records) (sym (s.durable left may)) (inr (0 ∷ [], s.at_rest)))

-- ---- a node that is up

up_here : (n : WorldNode) (disk : MediumValue) (node : NodeOnJournal DiskValue) → RunsAt n disk node → node.closed ≡ None
    → n.mode ≡ is_up
up_here n disk node runs opened = runs.mode ∙ ap mode_of opened

call_is : (n : WorldNode) (disk : MediumValue) (o : Occasion) (written : Option Record) → n.mode ≡ is_up
    → (effect n.state o).written ≡ written → node_call n disk o ≡ call_by_record n o disk written
call_is n disk o written up writes = ap (call_by_mode n o disk) up ∙ ap (call_by_record n o disk) writes

place_here : (n : WorldNode) (disk : MediumValue) (node : NodeOnJournal DiskValue) → RunsAt n disk node → node.closed ≡ None
    → node.end + 1 ≡ length (bytes_of disk)
place_here n disk node runs opened =
    (runs.settled opened).place ∙ ap (λ (m : MediumValue). length (bytes_of m)) runs.medium

within_there : (n : WorldNode) (disk : MediumValue) (node : NodeOnJournal DiskValue) (r : Record) → RunsAt n disk node
    → node.closed ≡ None → (IsPast node.end (Some r) → ⊥) → is_past_end disk r ≡ false
within_there n disk node r runs opened fits = by_test (is_past_end disk r) refl
  where
    by_test : (b : Bool) → is_past_end disk r ≡ b → is_past_end disk r ≡ false
    by_test true is = absurd (fits ((past_is_played disk node.end r (place_here n disk node runs opened)).0 is))
    by_test false is = is

append_there : (n : WorldNode) (disk : MediumValue) (o : Occasion) (node node1 : NodeOnJournal DiskValue) (r : Record) (failed : Bool)
    (calls : List Call) → RunsAt n disk node → node.closed ≡ None → (effect n.state o).written ≡ Some r
    → (IsPast node.end (Some r) → ⊥) → Drives node.disk calls node1.disk → node1.disk.starved ≡ false
    → InTurn (appending node.end (behind_gate (coding r))) failed calls
    → node_call n disk o ≡ call_by_append n o (failed, node1.disk.medium)
append_there n disk o node node1 r failed calls runs opened writes fits drives fed turn =
    let short = within_there n disk node r runs opened fits in
    let ran : append_run disk r ≡ (failed, node1.disk.medium) =
    ap (λ (m : MediumValue). append_run m r) (sym runs.medium)
    ∙ append_is_played node.disk node1.disk node.end r failed calls (runs.settled opened).place drives fed turn in
    call_is n disk o (Some r) (up_here n disk node runs opened) writes
    ∙ ap (λ (b : Bool). if b then called_node n disk (Some outcome.Full) else call_by_append n o (append_run disk r)) short
    ∙ ap (call_by_append n o) ran

-- ---- its step is taken

pub record CallIs (n : WorldNode) (disk : MediumValue) (o : Occasion) (after : NodeOnJournal DiskValue) : Type 0 where
  pub call : node_call n disk o ≡ called_node (node_taken n o) after.disk.medium None
  pub matches : Matches (node_taken n o) (disarmed after.disk.medium) (place.Up (unarmed after))

runs_taken : (n : WorldNode) (o : Occasion) (node1 : NodeOnJournal DiskValue) (written : Option Record) → node1.closed ≡ None
    → (effect n.state o).written ≡ written → node1.node ≡ (effect n.state o).after → HasSpareCounters node1.node
    → node1.disk.starved ≡ false → Settled node1.disk node1.end (n.records ++ option_to_list written)
    → Matches (node_taken n o) (disarmed node1.disk.medium) (place.Up (unarmed node1))
runs_taken n o node1 written open1 writes after spare fed settled =
    let rest : Settled node1.disk node1.end (node_taken n o).records =
    subst (λ (w : Option Record). Settled node1.disk node1.end (n.records ++ option_to_list w)) (sym writes) settled in
    record {
      place = record {
        mode = sym (ap mode_of open1);
        medium = refl;
        fed = fed;
        state = after;
        none_pending = λ is. refl;
        spare = spare;
        settled = λ is. settled_unarmed node1.disk node1.end (node_taken n o).records rest;
      };
      holds = holds_at_rest (node_taken n o) node1.disk node1.end rest;
    }

pub taken_call : {T : Type 0} (value : T) (n : WorldNode) (disk : MediumValue) (o : Occasion) (node node1 : NodeOnJournal DiskValue)
    (written : Option Record) → RunsAt n disk node → node.closed ≡ None → node1.closed ≡ None
    → (effect n.state o).written ≡ written → (IsPast node.end written → ⊥) → node1.node ≡ (effect n.state o).after
    → HasSpareCounters node1.node → Settled node1.disk node1.end (n.records ++ option_to_list written)
    → ((calls : List Call) × Drives node.disk calls node1.disk × Stepped node.end written (Ok value) calls)
    → node1.disk.starved ≡ false → CallIs n disk o node1
taken_call value n disk o node node1 None runs opened open1 writes fits after spare settled (calls, drives, none) fed =
    let same : node1.disk ≡ node.disk = subst (λ (cs : List Call). Drives node.disk cs node1.disk) none drives fed in
    let medium : node1.disk.medium ≡ disk = ap (λ (d : DiskValue). d.medium) same ∙ runs.medium in
    record {
      call = call_is n disk o None (up_here n disk node runs opened) writes
          ∙ ap (λ (m : MediumValue). called_node (node_taken n o) m None) (sym medium);
      matches = runs_taken n o node1 None open1 writes after spare fed settled;
    }
taken_call value n disk o node node1 (Some r) runs opened open1 writes fits after spare settled (calls, drives, turn) fed = record {
  call = append_there n disk o node node1 r false calls runs opened writes fits drives fed turn;
  matches = runs_taken n o node1 (Some r) open1 writes after spare fed settled;
}

-- ---- its record is pending

pub left_after : (a b : DiskValue) (P : List ℕ → Type 0)
    → LeavesOnly (λ (x y : DiskValue). IsLater x.medium y.medium) (λ (x y : DiskValue). MayHaveBeenLeft x.medium y.medium) a b P
    → (c : List ℕ) → MayBeLeft b.medium c → P c
left_after a b P leaves c left = leaves.each c (left_now a.medium b.medium c leaves.goes_on left)

-- the records with the pending one, as the node has them then
stands_pending : (n : WorldNode) (o : Occasion) (r : Record) (mode : Mode) (file : List ℕ) → (effect n.state o).written ≡ Some r
    → StandsWith n.records (Some r) file → StandsForNode (node_pending n o mode) file
stands_pending n o r mode file writes (inl own) = inl own
stands_pending n o r mode file writes (inr more) =
    inr (subst (λ (w : Option Record). StandsFor file (n.records ++ option_to_list w)) (sym writes) more)

pub broken_is : (T : Type 0) (n : WorldNode) (disk : MediumValue) (o : Occasion) (node node1 : NodeOnJournal DiskValue)
    (written : Option Record) → RunsAt n disk node → node.closed ≡ None → (effect n.state o).written ≡ written
    → (IsPast node.end written → ⊥)
    → ((calls : List Call) × Drives node.disk calls node1.disk × Stepped {T = T} node.end written (Err fault.Disk) calls)
    → node1.disk.starved ≡ false
    → node_call n disk o ≡ broken_call n o node1.disk.medium node1.disk.medium.stopped
broken_is T n disk o node node1 None runs opened writes fits (calls, drives, none) fed = absurd none
broken_is T n disk o node node1 (Some r) runs opened writes fits (calls, drives, turn) fed =
    append_there n disk o node node1 r true calls runs opened writes fits drives fed turn

-- the disk failed, and the node is closed
pub closed_matches : (n : WorldNode) (disk : MediumValue) (o : Occasion) (node node1 : NodeOnJournal DiskValue) (r : Record) (count : ℕ)
    → RunsAt n disk node → (effect n.state o).written ≡ Some r → node1.closed ≡ Some count → node1.node ≡ node.node
    → node1.disk.starved ≡ false → ((c : List ℕ) → MayBeLeft node1.disk.medium c → StandsWith n.records (Some r) c)
    → Matches (node_pending n o is_closed) (disarmed node1.disk.medium) (place.Up (unarmed node1))
closed_matches n disk o node node1 r count runs writes shut same fed left = record {
  place = record {
    mode = sym (ap mode_of shut);
    medium = refl;
    fed = fed;
    state = same ∙ runs.state;
    none_pending = λ open1. let no : Some count ≡ None = sym shut ∙ open1 in absurd cc;
    spare = subst HasSpareCounters (sym same) runs.spare;
    settled = λ open1. let no : Some count ≡ None = sym shut ∙ open1 in absurd cc;
  };
  holds = λ c may. stands_pending n o r is_closed c writes (left c may);
}

-- the machine stopped
pub down_matches : (n : WorldNode) (o : Occasion) (d : DiskValue) (r : Record) (known : List KnownScope)
    → (effect n.state o).written ≡ Some r → d.starved ≡ false
    → RestsAt (node_pending n o is_down) (disarmed d.medium) (rearm nothing d) known
    → ((c : List ℕ) → MayBeLeft d.medium c → StandsWith n.records (Some r) c)
    → Matches (node_pending n o is_down) (disarmed d.medium) (place.Down (rearm nothing d) known)
down_matches n o d r known writes fed rests left =
    record { place = rests; holds = λ c may. stands_pending n o r is_down c writes (left c may) }

-- ---- nothing is done

pub runs_unarmed : (n : WorldNode) (disk : MediumValue) (node : NodeOnJournal DiskValue) → RunsAt n disk node
    → RunsAt n (disarmed disk) (unarmed node)
runs_unarmed n disk node runs = record {
  mode = runs.mode;
  medium = ap disarmed runs.medium;
  fed = runs.fed;
  state = runs.state;
  none_pending = runs.none_pending;
  spare = runs.spare;
  settled = λ is. settled_unarmed node.disk node.end n.records (runs.settled is);
}

pub full_is : (n : WorldNode) (disk : MediumValue) (o : Occasion) (node : NodeOnJournal DiskValue) (written : Option Record)
    → RunsAt n disk node → node.closed ≡ None → (effect n.state o).written ≡ written → IsPast node.end written
    → node_call n disk o ≡ called_node n disk (Some outcome.Full)
full_is n disk o node None runs opened writes past = absurd past
full_is n disk o node (Some r) runs opened writes past =
    call_is n disk o (Some r) (up_here n disk node runs opened) writes
    ∙ ap (λ (b : Bool). if b then called_node n disk (Some outcome.Full) else call_by_append n o (append_run disk r))
    ((past_is_played disk node.end r (place_here n disk node runs opened)).1 past)

pub closed_is : (n : WorldNode) (disk : MediumValue) (o : Occasion) (node : NodeOnJournal DiskValue) (count : ℕ) → RunsAt n disk node
    → node.closed ≡ Some count → node_call n disk o ≡ called_node n disk (Some outcome.Closed)
closed_is n disk o node count runs shut = ap (call_by_mode n o disk) (runs.mode ∙ ap mode_of shut)

pub down_is : (n : WorldNode) (disk : MediumValue) (o : Occasion) (d : DiskValue) (known : List KnownScope) → RestsAt n disk d known
    → node_call n disk o ≡ called_node n disk (Some outcome.Down)
down_is n disk o d known rests = ap (call_by_mode n o disk) rests.mode
