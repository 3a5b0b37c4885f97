-- In each run each outcome in the bag was told by a participant that did so before, by a step of the run whose record was kept; for
-- the law that outcomes are told after they were recorded.
use Rattle.std.proofs.Common.{◌≡◌, ◌⊎◌, inl, inr, ℕ, Bool, true, List, [], ◌∷◌, Option, None, Some, option_to_list, refl, sym, ap, ◌∙◌}
use Rattle.std.proofs.Common.{subst, if◌then◌else◌}
use Rattle.std.specs.Option.{option_map}
use Rattle.ba_core.specs.Messages.{notice_code}
use Rattle.ba_core.specs.PartRows.{part_says}
use Rattle.ba_core.specs.declared.identifiers.Id.{Id}
use Rattle.ba_core.specs.declared.notices.Notice.{Notice}
use Rattle.ba_link.specs.Outcomes.{is_outcome}
use Rattle.ba_message.specs.declared.messages.Letter.{Letter}
use Rattle.ba_message.specs.declared.messages.Message.TheVariants as message
use Rattle.ba_scope_ends.specs.declared.parts.Part.{Part}
use Rattle.ba_node_steps.specs.Addresses.{message_number}
use Rattle.ba_node_steps.specs.Node.{Among, HasPart, NodeState}
use Rattle.ba_node_steps.specs.Steps.{node_step}
use Rattle.ba_node_steps.specs.Ticks.{tick_step}
use Rattle.ba_node_steps.specs.declared.answers.Reply.{Reply}
use Rattle.ba_node_steps.specs.declared.answers.Reply.TheVariants as reply
use Rattle.ba_world_runs.specs.Records.{HasActed, IsActed, acted_earlier, acted_last}
use Rattle.ba_world_runs.specs.Runs.{IsFirstWorld, IsRun, goes_on, starts}
use Rattle.ba_world_runs.specs.Safety.{IsAddressed}
use Rattle.ba_world_runs.specs.World.{formats, Mail, Net, Occasion, PartAt, World, WorldNode, answer, delivers, letter, net_of, own, ticks}
use Rattle.ba_world_runs.specs.WorldSteps.{Takes, WorldStep, answer_to, crashes, effect, fails, fails_to_open, happens, nothing, opens_with}
use Rattle.ba_world_runs.specs.WorldSteps.{opens_without, waits}
use Rattle.ba_world_runs.proofs.Addressed.{goes}
use Rattle.ba_world_runs.proofs.AddressedRuns.{run_addressed}
use Rattle.ba_world_runs.proofs.Goes.{from_append}
use Rattle.ba_world_runs.proofs.MailLemmas.{joins}
use Rattle.ba_world_runs.proofs.Nets.{stays_net}
use Rattle.ba_world_runs.proofs.PartsSay.{SaidBefore, SaysGo, input_says, says_stay, tick_goes_on, tick_letter_says}
use Rattle.ba_world_runs.proofs.Recorded.{at_or_other}

-- ---- a step of a world leaves its net, or is one that is taken

abbrev IsTaken : World → World → Type 0
IsTaken w w2 = (net_of w ≡ net_of w2) ⊎ ((k : ℕ) × (o : Occasion) × (joined : Bool) × Takes w w2 k o joined)

step_taken : (w w2 : World) → WorldStep w w2 → IsTaken w w2
step_taken w w2 (happens k o up takes) = inr (k, o, true, takes)
step_taken w w2 (fails k o mode up is_mode may stays) = inl (stays_net w w2 k _ _ stays)
step_taken w w2 (nothing same) = inl (ap net_of (sym same))
step_taken w w2 (crashes k stays) = inl (stays_net w w2 k _ _ stays)
step_taken w w2 (opens_without k stays) = inl (stays_net w w2 k _ _ stays)
step_taken w w2 (opens_with k o pending takes) = inr (k, o, _, takes)
step_taken w w2 (fails_to_open k stays) = inl (stays_net w w2 k _ _ stays)
step_taken w w2 (waits ms same) = inl (ap net_of (sym same))

after_says : (n : NodeState) (o : Occasion) → SaysGo n (effect n o).after (effect n o).written
after_says n (own moment i) = input_says n moment i
after_says n (delivers moment mail i) = input_says n moment i
after_says n (ticks moment id) = tick_goes_on n moment id
after_says n formats = says_stay n None

-- ---- what holds of each world of a run

-- each participant that says an outcome did so
abbrev PartsActed : World → List World → Type 0
PartsActed w before =
    (j : ℕ) (p : Part) (x : Notice) → PartAt (net_of w) j p → is_outcome x ≡ true → part_says p.state ≡ Some x
    → HasActed (w ∷ before) j p.id x

-- the letter is that of a participant that did so
abbrev pub ToldBy : World → List World → Letter → Notice → Type 0
ToldBy w before l x =
    (j : ℕ) × (p : Part) × PartAt (net_of w) j p × (l.number ≡ message_number (notice_code x) p.id) × HasActed (w ∷ before) j p.id x

abbrev LettersTold : World → List World → Type 0
LettersTold w before =
    (l : Letter) (x : Notice) → Among w.bag (letter l) → l.message ≡ message.Notice x → is_outcome x ≡ true → ToldBy w before l x

no_letter : (mail : Mail) (r : Reply) (l : Letter) → answer_to mail r ≡ Some (letter l) → ⊥
no_letter (letter m) (reply.Enrolment c) l h = cc
no_letter (letter m) (reply.SoapFault c) l h = cc
no_letter (letter m) r l h = cc
no_letter (answer number m) (reply.Enrolment c) l h = cc
no_letter (answer number m) (reply.SoapFault c) l h = cc
no_letter (answer number m) r l h = cc

sent_letter : (o : Option Letter) (l : Letter) → option_map letter o ≡ Some (letter l) → o ≡ Some l
sent_letter None l h = absurd cc
sent_letter (Some m) l h = let one : ◌≡◌ {A = Mail} (letter m) (letter l) = cc in let same : m ≡ l = cc in ap Some same

module _ (w w2 : World) (before : List World) (k : ℕ) (o : Occasion) (joined : Bool) (takes : Takes w w2 k o joined)
    (is : IsAddressed (net_of w)) (acted : PartsActed w before) where
  acts_now : (id : Id) (x : Notice) → IsActed (w.nodes k).state (effect (w.nodes k).state o).written id x
      → HasActed (w2 ∷ w ∷ before) k id x
  acts_now id x acts = acted_last (record { occasion = o; joined = joined; takes = takes; acts = acts })

  said_before : (id : Id) (x : Notice) → is_outcome x ≡ true → SaidBefore (w.nodes k).state (effect (w.nodes k).state o).written id x
      → HasActed (w2 ∷ w ∷ before) k id x
  said_before id x outcome (inl p) =
      acted_earlier (subst (λ (i : Id). HasActed (w ∷ before) k i x) p.2 (acted k p.0 x p.1 outcome p.3))
  said_before id x outcome (inr acts) = acts_now id x acts

  taken_parts : PartsActed w2 (w ∷ before)
  taken_parts = at_or_other (λ j. (p : Part) (x : Notice) → PartAt (net_of w2) j p → is_outcome x ≡ true → part_says p.state ≡ Some x
      → HasActed (w2 ∷ w ∷ before) j p.id x) k
      (λ p x has outcome says. said_before p.id x outcome
      (after_says (w.nodes k).state o p x (subst (λ (n : NodeState). HasPart n p) takes.moves.state has) outcome says))
      (λ j other p x has outcome says.
      acted_earlier (acted j p x (subst (λ (n : NodeState). HasPart n p) (takes.moves.others j other) has) outcome says))

  -- a participant before is one afterwards
  stays_at : (j : ℕ) (p : Part) → PartAt (net_of w) j p → (q : Part) × PartAt (net_of w2) j q × (q.id ≡ p.id)
  stays_at j p has =
      let q = (goes (net_of w) (net_of w2) k o joined takes.moves is j).parts_forth p has in (q.0, q.1, q.2.id)

  told_by : (j : ℕ) (p : Part) (l : Letter) (x : Notice) → PartAt (net_of w) j p → l.number ≡ message_number (notice_code x) p.id
      → HasActed (w2 ∷ w ∷ before) j p.id x → ToldBy w2 (w ∷ before) l x
  told_by j p l x has number acts =
      let q = stays_at j p has in (
        j,
        q.0,
        q.1,
        number ∙ ap (message_number (notice_code x)) (sym q.2),
        subst (λ (i : Id). HasActed (w2 ∷ w ∷ before) j i x) (sym q.2) acts,
      )

  new_letter : (l : Letter) (x : Notice) → (effect (w.nodes k).state o).sends ≡ Some (letter l) → l.message ≡ message.Notice x
      → is_outcome x ≡ true → ToldBy w2 (w ∷ before) l x
  new_letter = by_occasion o refl
    where
      by_occasion : (at : Occasion) → o ≡ at → (l : Letter) (x : Notice) → (effect (w.nodes k).state at).sends ≡ Some (letter l)
          → l.message ≡ message.Notice x → is_outcome x ≡ true → ToldBy w2 (w ∷ before) l x
      by_occasion (own moment i) at l x sends told outcome = absurd cc
      by_occasion formats at l x sends told outcome = absurd cc
      by_occasion (delivers moment mail i) at l x sends told outcome =
          absurd (no_letter mail (node_step (w.nodes k).state moment i).reply l sends)
      by_occasion (ticks moment id) at l x sends told outcome =
          let says = tick_letter_says (w.nodes k).state moment id l x
          (sent_letter (tick_step (w.nodes k).state moment id).letter l sends) told outcome in
          told_by k says.0 l x says.1 says.2 (elim says.3 [
            | inl said ↦ acted_earlier (acted k says.0 x says.1 outcome said)
            | inr acts ↦ acts_now says.0.id x
                (subst (λ (b : Occasion). IsActed (w.nodes k).state (effect (w.nodes k).state b).written says.0.id x) (sym at) acts)
          ])

  taken_letters : LettersTold w before → LettersTold w2 (w ∷ before)
  taken_letters letters l x among told outcome =
      by_place (from_append w.bag (if joined then option_to_list (effect (w.nodes k).state o).sends else []) (letter l)
      (subst (λ (bag : List Mail). Among bag (letter l)) takes.moves.bag among))
    where
      by_place : Among w.bag (letter l) ⊎ Among (if joined then option_to_list (effect (w.nodes k).state o).sends else []) (letter l)
          → ToldBy w2 (w ∷ before) l x
      by_place (inl old) =
          let was = letters l x old told outcome in told_by was.0 was.1 l x was.2 was.3 (acted_earlier was.4)
      by_place (inr new) = new_letter l x (joins joined (effect (w.nodes k).state o).sends (letter l) new) told outcome

record IsToldSo (w : World) (before : List World) : Type 0 where
  parts : PartsActed w before
  letters : LettersTold w before

-- a step that leaves the net
same_told : (w w2 : World) (before : List World) → net_of w ≡ net_of w2 → IsToldSo w before → IsToldSo w2 (w ∷ before)
same_told w w2 before same so = record {
  parts = λ j p x has outcome says.
      acted_earlier (so.parts j p x (subst (λ (n : Net). PartAt n j p) (sym same) has) outcome says);
  letters = λ l x among told outcome.
      let was = so.letters l x (subst (λ (n : Net). Among n.bag (letter l)) (sym same) among) told outcome in
      (was.0, was.1, subst (λ (n : Net). PartAt n was.0 was.1) same was.2, was.3, acted_earlier was.4);
}

step_told : (w w2 : World) (before : List World) → IsAddressed (net_of w) → WorldStep w w2 → IsToldSo w before → IsToldSo w2 (w ∷ before)
step_told w w2 before is step so = elim (step_taken w w2 step) [
  | inl same ↦ same_told w w2 before same so
  | inr taken ↦ record {
    parts = taken_parts w w2 before taken.0 taken.1 taken.2 taken.3 is so.parts;
    letters = taken_letters w w2 before taken.0 taken.1 taken.2 taken.3 is so.parts so.letters;
  }
]

start_told : (w : World) → IsFirstWorld w → IsToldSo w []
start_told w start = record {
  parts = λ j p x has outcome says. absurd (no_part j p has);
  letters = λ l x among told outcome. absurd (subst (λ (bag : List Mail). Among bag (letter l)) start.bag among);
}
  where
    no_part : (j : ℕ) (p : Part) → PartAt (net_of w) j p → ⊥
    no_part j p (inl alone) = subst (λ (n : WorldNode). Among n.state.parts p) (start.nodes j) alone
    no_part j p (inr above) = subst (λ (n : WorldNode). Among n.state.scopes above.0) (start.nodes j) above.1

run_told : (w : World) (before : List World) → IsRun (w ∷ before) → IsToldSo w before
run_told w before (starts start) = start_told w start
run_told w before (goes_on run step) = step_told _ w _ (run_addressed _ _ run) step (run_told _ _ run)

pub outcomes_told : (w : World) (before : List World) → IsRun (w ∷ before) → (l : Letter) (x : Notice) → Among w.bag (letter l)
    → l.message ≡ message.Notice x → is_outcome x ≡ true → ToldBy w before l x
outcomes_told w before run = (run_told w before run).letters
