-- The records of which a node is the replay are refused to it for nothing; for the laws of laws.rt.
use Rattle.std.proofs.Common.{◌≡◌, ◌⊎◌, inl, inr, ℕ, zero, suc, ◌<◌, List, [], ◌∷◌, ◌++◌, length, take, drop, slice_get, Option, None}
use Rattle.std.proofs.Common.{Some, refl, sym, ap, ◌∙◌, subst, arith, length-append, take-append-drop, take-take}
use Rattle.std.specs.List.{AllByRecursion}
use Rattle.std.specs.Option.{option_to_list}
use Rattle.std.proofs.lemmas.List.{append-nil}
use Rattle.ba_journal.proofs.Meanings.{never_both, one_list, one_place}
use Rattle.ba_journal.specs.Frames.{IsNoJournal, StandsFor}
use Rattle.ba_node.specs.Keeping.{with_record}
use Rattle.ba_node.specs.Loading.{BeginsOtherwise, BreaksAt, RefusesFile, RefusesLoad}
use Rattle.ba_node.specs.declared.faults.LoadFault.{LoadFault}
use Rattle.ba_node.specs.declared.faults.LoadFault.TheVariants as fault
use Rattle.ba_record.specs.Coding.{InRange}
use Rattle.ba_record.specs.declared.records.Record.{Record}
use Rattle.ba_record.specs.declared.records.Record.TheVariants as journal
use Rattle.ba_node_steps.specs.Fits.{NodeFits}
use Rattle.ba_node_steps.specs.Lawful.{AreFew, Event, IsStepOf, LeadsTo, Replays, after_record, change}
use Rattle.ba_node_steps.specs.Node.{NodeState, SameNode, new_node}
use Rattle.ba_node_steps.proofs.Members.{all_left}
use Rattle.ba_node_steps.proofs.Reenacted.{after_of}
use Rattle.ba_node_steps.proofs.Replayed.{goes_on, one_replay, replay_fits}
use Rattle.ba_node_steps.proofs.SameNode.{step_keeps}

none_is_no_some : {A : Type 0} (x : A) → ◌≡◌ {A = Option A} None (Some x) → ⊥
none_is_no_some x is = cc

same_some : {A : Type 0} (x y : A) → ◌≡◌ {A = Option A} (Some x) (Some y) → x ≡ y
same_some x y is = cc

-- ---- where a replay stands before one of its records

-- the node before the record at this place, and after its step
record StepAt (n : NodeState) (records : List Record) (place : ℕ) (r : Record) : Type 0 where
  before : NodeState
  after : NodeState
  leads : LeadsTo n (take place records) before
  step : IsStepOf before r after

step_at : (n : NodeState) (records : List Record) (end : NodeState) (place : ℕ) (r : Record) → LeadsTo n records end
    → slice_get records place ≡ Some r → StepAt n records place r
step_at n [] end place r leads got = absurd (none_is_no_some r got)
step_at n (k ∷ more) end zero r leads got =
    let same : k ≡ r = same_some k r got in
    record { before = n; after = leads.0; leads = refl; step = subst (λ (x : Record). IsStepOf n x leads.0) same leads.1 }
step_at n (k ∷ more) end (suc place) r leads got =
    let rest : StepAt leads.0 more place r = step_at leads.0 more end place r leads.2 got in
    record { before = rest.before; after = rest.after; leads = (leads.0, leads.1, rest.leads); step = rest.step }

-- so many of the records are in their ranges, and few
front_in_range : (records : List Record) (place : ℕ) → AllByRecursion InRange records → AllByRecursion InRange (take place records)
front_in_range records place ranges =
    all_left InRange (take place records) (drop place records)
    (subst (AllByRecursion InRange) (sym (take-append-drop place records)) ranges)

front_is_few : (records : List Record) (place : ℕ) → AreFew records → AreFew (take place records)
front_is_few records place few =
    let long = ap length (take-append-drop place records) in
    omega (arith, long, few, length-append (take place records) (drop place records))

-- a replay of the whole list has a step at each place
never_broken : (records : List Record) (n : NodeState) (place : ℕ) → Replays records n → BreaksAt records place → ⊥
never_broken [] n place replays broken = absurd replays
never_broken (journal.Node number base ∷ more) n zero replays broken = absurd broken.replays
never_broken (journal.Node number base ∷ more) n (suc place) replays broken =
    let all : List Record = journal.Node number base ∷ more in
    let at : StepAt (new_node number base) more place broken.next =
    step_at (new_node number base) more n place broken.next replays broken.stands in
    let ranges = front_in_range all (suc place) broken.in_range in
    let few = front_is_few all (suc place) broken.few in
    let same : at.before ≡ broken.before = one_replay (take (suc place) all) at.before broken.before ranges few at.leads broken.replays in
    let fits : NodeFits at.before = replay_fits (take (suc place) all) at.before ranges few at.leads in
    let goes : after_record at.before broken.next ≡ Some at.after = after_of at.before broken.next at.after fits at.step in
    none_is_no_some at.after (sym broken.no_step ∙ ap (λ (m : NodeState). after_record m broken.next) (sym same) ∙ goes)
never_broken (r ∷ more) n place replays broken = absurd replays

-- ---- a history breaks at one place

slice_taken : {A : Type 0} (xs : List A) (place count : ℕ) → place < count → slice_get (take count xs) place ≡ slice_get xs place
slice_taken xs place zero less = absurd (omega (arith, less))
slice_taken [] place (suc count) less = refl
slice_taken (x ∷ xs) zero (suc count) less = refl
slice_taken (x ∷ xs) (suc place) (suc count) less = slice_taken xs place count (omega (arith, less))

no_earlier : (records : List Record) (p q : ℕ) → BreaksAt records p → BreaksAt records q → p < q → ⊥
no_earlier records p q early late less =
    let broken : BreaksAt (take q records) p = record {
      in_range = front_in_range records q early.in_range;
      few = front_is_few records q early.few;
      before = early.before;
      replays = subst (λ (rs : List Record). Replays rs early.before) (sym (take-take p q records (omega (arith, less)))) early.replays;
      next = early.next;
      stands = slice_taken records p q less ∙ early.stands;
      no_step = early.no_step;
    } in never_broken (take q records) late.before p late.replays broken

not_both : (records more : List Record) (number : ℕ) (base : List ℕ) → records ≡ journal.Node number base ∷ more
    → BeginsOtherwise records → ⊥
not_both records more number base is otherwise =
    let no : BeginsOtherwise (journal.Node number base ∷ more) = subst BeginsOtherwise is otherwise in no

pub breaks_once : (number : ℕ) (base : List ℕ) (records : List Record) (p q : ℕ)
    → RefusesLoad number base records (fault.BadHistory p) → RefusesLoad number base records (fault.BadHistory q) → p ≡ q
breaks_once number base records p q (inl a) (inl b) = a.0 ∙ sym b.0
breaks_once number base records p q (inl a) (inr (more, is, broken)) = absurd (not_both records more number base is a.1)
breaks_once number base records p q (inr (more, is, broken)) (inl b) = absurd (not_both records more number base is b.1)
breaks_once number base records p q (inr (more, is, early)) (inr (others, also, late)) =
    let forth = no_earlier records p q early late in
    let back = no_earlier records q p late early in
    omega (arith, forth, back)

-- ---- its number and base

lead_keeps : (start : NodeState) (records : List Record) (n : NodeState) → LeadsTo start records n → SameNode start n
lead_keeps start [] n is = subst (SameNode start) is (record { number = refl; base = refl; version = refl })
lead_keeps start (r ∷ more) n leads =
    let step : IsStepOf start r leads.0 = leads.1 in
    let one : SameNode start leads.0 = subst (SameNode start) step.leads (step_keeps start step.event) in
    let rest : SameNode leads.0 n = lead_keeps leads.0 more n leads.2 in
    record { number = rest.number ∙ one.number; base = rest.base ∙ one.base; version = rest.version ∙ one.version }

-- the first record names the replay
named : (records : List Record) (number : ℕ) (name : List ℕ) (more : List Record) (n : NodeState)
    → records ≡ journal.Node number name ∷ more → Replays records n → SameNode (new_node number name) n
named records number name more n is replays =
    let begun : Replays (journal.Node number name ∷ more) n = subst (λ (rs : List Record). Replays rs n) is replays in
    lead_keeps (new_node number name) more n begun

never_otherwise : (records : List Record) (n : NodeState) → Replays records n → BeginsOtherwise records → ⊥
never_otherwise [] n replays otherwise = otherwise
never_otherwise (journal.Node number base ∷ more) n replays otherwise = otherwise
never_otherwise (r ∷ more) n replays otherwise = absurd replays

-- ---- the laws

pub own_records : (number : ℕ) (base : List ℕ) (records : List Record) (n : NodeState) (why : LoadFault) → Replays records n
    → n.number ≡ number → n.base ≡ base → RefusesLoad number base records why → (why ≡ fault.Memory) ⊎ (why ≡ fault.Disk)
own_records number base records n fault.Memory replays here there refused = inl refl
own_records number base records n fault.Disk replays here there refused = inr refl
own_records number base records n (fault.NotAJournal place) replays here there refused = absurd refused
own_records number base records n (fault.OtherNode other) replays here there (name, more, is, differs) =
    let same : SameNode (new_node other name) n = named records other name more n is replays in
    absurd (differs (sym same.number ∙ here))
own_records number base records n fault.OtherBase replays here there (name, more, is, differs) =
    let same : SameNode (new_node number name) n = named records number name more n is replays in
    absurd (differs (sym same.base ∙ there))
own_records number base records n (fault.BadHistory place) replays here there (inl otherwise) =
    absurd (never_otherwise records n replays otherwise.1)
own_records number base records n (fault.BadHistory place) replays here there (inr (more, is, broken)) =
    absurd (never_broken records n place replays broken)

pub refused_records : (number : ℕ) (base file : List ℕ) (records : List Record) (why : LoadFault) → StandsFor file records
    → RefusesFile number base file why → RefusesLoad number base records why
refused_records number base file records fault.Memory stands refused = tt
refused_records number base file records fault.Disk stands refused = tt
refused_records number base file records (fault.NotAJournal place) stands refused = never_both file records place refused stands
refused_records number base file records (fault.OtherNode other) stands (read, also, refused) =
    subst (λ (rs : List Record). RefusesLoad number base rs (fault.OtherNode other)) (one_list file read records also stands) refused
refused_records number base file records fault.OtherBase stands (read, also, refused) =
    subst (λ (rs : List Record). RefusesLoad number base rs fault.OtherBase) (one_list file read records also stands) refused
refused_records number base file records (fault.BadHistory place) stands (read, also, refused) =
    subst (λ (rs : List Record). RefusesLoad number base rs (fault.BadHistory place)) (one_list file read records also stands) refused

pub own_file : (number : ℕ) (base file : List ℕ) (records : List Record) (n : NodeState) (why : LoadFault) → StandsFor file records
    → Replays records n
    → n.number ≡ number → n.base ≡ base → RefusesFile number base file why → (why ≡ fault.Memory) ⊎ (why ≡ fault.Disk)
own_file number base file records n why stands replays here there refused =
    own_records number base records n why replays here there (refused_records number base file records why stands refused)

pub no_journal : (number : ℕ) (base file : List ℕ) (place : ℕ) (why : LoadFault) → IsNoJournal file place
    → RefusesFile number base file why → (why ≡ fault.Memory) ⊎ ((why ≡ fault.Disk) ⊎ (why ≡ fault.NotAJournal place))
no_journal number base file place fault.Memory none refused = inl refl
no_journal number base file place fault.Disk none refused = inr (inl refl)
no_journal number base file place (fault.NotAJournal other) none refused =
    inr (inr (ap fault.NotAJournal (one_place file other place refused none)))
no_journal number base file place (fault.OtherNode other) none (read, stands, refused) = absurd (never_both file read place none stands)
no_journal number base file place fault.OtherBase none (read, stands, refused) = absurd (never_both file read place none stands)
no_journal number base file place (fault.BadHistory other) none (read, stands, refused) = absurd (never_both file read place none stands)

with_some : (records : List Record) (written : Option Record) → records ++ option_to_list written ≡ with_record records written
with_some records None = append-nil records
with_some records (Some r) = refl

pub stays_replay : (records : List Record) (n : NodeState) (e : Event) → Replays records n
    → Replays (with_record records (change n e).written) (change n e).after
stays_replay records n e replays =
    subst (λ (rs : List Record). Replays rs (change n e).after) (with_some records (change n e).written) (goes_on records n e replays)
