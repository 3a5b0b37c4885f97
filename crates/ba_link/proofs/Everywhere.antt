-- A link has few possible states, so a test is computed at all of them, and a lemma turns the answer into
-- a rule on any of them.
use Rattle.std.proofs.Common.{◌≡◌, ℕ, zero, suc, Bool, true, false, ◌&&◌, List, [], ◌∷◌, Option, None, Some, slice_get, refl, subst}
use Rattle.std.specs.List.{list_all}
use Rattle.std.proofs.lemmas.Bool.{and_parts}
use Rattle.ba_core.specs.declared.protocols.Protocol.{Protocol}
use Rattle.ba_core.specs.declared.protocols.Protocol.TheVariants.{Pc, Cc}
use Rattle.ba_core.specs.declared.protocols.Verdict.{Verdict}
use Rattle.ba_core.specs.declared.protocols.Verdict.TheVariants.{Close, Undo}
use Rattle.ba_core.specs.declared.states.How.TheVariants.{Canceled, Closed, Compensated, Failed, Exited, NotCompleted, Refused}
use Rattle.ba_core.specs.declared.states.CState.{CState}
use Rattle.ba_core.specs.declared.states.CState.TheVariants as end
use Rattle.ba_core.specs.declared.states.PState.{PState}
use Rattle.ba_core.specs.declared.states.PState.TheVariants as part
use Rattle.ba_link.specs.Fits.{PossiblePair, VerdictFits}
use Rattle.ba_link.specs.Link.{End, LinkState}
use Rattle.ba_link.specs.Pairs.{is_possible_pair, verdict_fits}
use Rattle.ba_link.specs.States.{end_number, part_number}

-- the test of this value, where it is asked for
abbrev pub only_if : {X : Type 0} → Bool → (X → Bool) → X → Bool
only_if asked test x = elim asked [ true ↦ test x | false ↦ true ]

pub where_asked : {X : Type 0} (asked : Bool) (test : X → Bool) (x : X) → only_if asked test x ≡ true → asked ≡ true → test x ≡ true
where_asked true test x h e = h
where_asked false test x h e = cc

-- what holds of each in a list holds of the one at this place
pub at_place : {X : Type 0} (test : X → Bool) (xs : List X) (k : ℕ) (x : X) → slice_get xs k ≡ Some x → list_all test xs ≡ true
    → test x ≡ true
at_place test [] k x e h = cc
at_place test (y ∷ xs) zero x e h = let same : y ≡ x = cc in subst (λ z. test z ≡ true) same (and_parts (test y) (list_all test xs) h).0
at_place test (y ∷ xs) (suc k) x e h = at_place test xs k x e (and_parts (test y) (list_all test xs) h).1

-- all values of what makes up a link's state, the two sides' states by their numbers
abbrev pub ends : List CState
ends = end.Active ∷ end.Completing ∷ end.Canceling ∷ end.CancelingActive ∷ end.CancelingCompleting ∷ end.Completed
    ∷ end.Closing ∷ end.Compensating ∷ end.FailingActive ∷ end.FailingCompleting ∷ end.FailingCanceling
    ∷ end.FailingCompensating ∷ end.NotCompleting ∷ end.Exiting ∷ end.Ended Canceled ∷ end.Ended Closed
    ∷ end.Ended Compensated ∷ end.Ended Failed ∷ end.Ended Exited ∷ end.Ended NotCompleted ∷ end.Ended Refused ∷ []

abbrev pub parts : List PState
parts = part.Registering ∷ part.Active ∷ part.Completing ∷ part.Canceling ∷ part.Completed ∷ part.Closing
    ∷ part.Compensating ∷ part.FailingActive ∷ part.FailingCompleting ∷ part.FailingCanceling
    ∷ part.FailingCompensating ∷ part.NotCompleting ∷ part.Exiting ∷ part.Ended Canceled ∷ part.Ended Closed
    ∷ part.Ended Compensated ∷ part.Ended Failed ∷ part.Ended Exited ∷ part.Ended NotCompleted ∷ part.Ended Refused ∷ []

abbrev pub verdicts : List (Option Verdict)
verdicts = None ∷ Some Close ∷ Some Undo ∷ []

abbrev pub protocols : List Protocol
protocols = Pc ∷ Cc ∷ []

abbrev pub flags : List Bool
flags = false ∷ true ∷ []

-- the test of a link's state, if its pair is possible
abbrev pub if_possible : (LinkState → Bool) → LinkState → Bool
if_possible test l = only_if (is_possible_pair l) test l

-- a test at each value of what isn't given: sealed or not, the participant's state, the verdict, the end
abbrev pub each_flag : (LinkState → Bool) → Protocol → Option End → PState → Bool
each_flag test protocol e p =
    list_all (λ sealed. if_possible test (record { protocol = protocol; end = e; part = p; sealed = sealed })) flags

abbrev pub each_part : (LinkState → Bool) → Protocol → Option End → Bool
each_part test protocol e = list_all (each_flag test protocol e) parts

abbrev pub each_verdict : (Option End → Bool) → CState → Bool
each_verdict test s = list_all (λ v. test (Some (record { state = s; verdict = v }))) verdicts

abbrev pub each_end : (Option End → Bool) → Bool
each_end test = test None && list_all (each_verdict test) ends

-- the test of a link's state, at all possible ones
abbrev pub everywhere : (LinkState → Bool) → Bool
everywhere test = list_all (λ protocol. each_end (λ e. only_if (verdict_fits e) (each_part test protocol) e)) protocols

-- a test that all of a list pass is passed by any value, since it stands in the list
pub protocol_passes : (test : Protocol → Bool) → list_all test protocols ≡ true → (protocol : Protocol) → test protocol ≡ true
protocol_passes test h Pc = at_place test protocols 0 Pc refl h
protocol_passes test h Cc = at_place test protocols 1 Cc refl h

pub flag_passes : (test : Bool → Bool) → list_all test flags ≡ true → (b : Bool) → test b ≡ true
flag_passes test h false = at_place test flags 0 false refl h
flag_passes test h true = at_place test flags 1 true refl h

pub verdict_passes : (test : Option Verdict → Bool) → list_all test verdicts ≡ true → (v : Option Verdict) → test v ≡ true
verdict_passes test h None = at_place test verdicts 0 None refl h
verdict_passes test h (Some Close) = at_place test verdicts 1 (Some Close) refl h
verdict_passes test h (Some Undo) = at_place test verdicts 2 (Some Undo) refl h

pub state_passes : (test : CState → Bool) → list_all test ends ≡ true → (s : CState) → test s ≡ true
state_passes test h (end.Ended Canceled) = at_place test ends 14 (end.Ended Canceled) refl h
state_passes test h s = at_place test ends (end_number s) s refl h

pub part_passes : (test : PState → Bool) → list_all test parts ≡ true → (p : PState) → test p ≡ true
part_passes test h (part.Ended Canceled) = at_place test parts 13 (part.Ended Canceled) refl h
part_passes test h p = at_place test parts (part_number p) p refl h

pub end_passes : (test : Option End → Bool) → each_end test ≡ true → (e : Option End) → test e ≡ true
end_passes test h None = (and_parts (test None) (list_all (each_verdict test) ends) h).0
end_passes test h (Some e) =
    let by_state = state_passes (each_verdict test) (and_parts (test None) (list_all (each_verdict test) ends) h).1 e.state in
    verdict_passes (λ v. test (Some (record e { verdict = v }))) by_state e.verdict

-- a test that holds everywhere holds at any possible state
pub passes : (test : LinkState → Bool) → everywhere test ≡ true → (l : LinkState) → PossiblePair l → VerdictFits l → test l ≡ true
passes test h l pair verdict =
    let by_protocol = protocol_passes (λ protocol. each_end (λ e. only_if (verdict_fits e) (each_part test protocol) e)) h l.protocol in
    let by_end = end_passes (λ e. only_if (verdict_fits e) (each_part test l.protocol) e) by_protocol l.end in
    let by_verdict = where_asked (verdict_fits l.end) (each_part test l.protocol) l.end by_end verdict in
    let by_part = part_passes (each_flag test l.protocol l.end) by_verdict l.part in
    let by_flag = flag_passes (λ sealed. if_possible test (record l { sealed = sealed })) by_part l.sealed in
    where_asked (is_possible_pair l) test l by_flag pair
