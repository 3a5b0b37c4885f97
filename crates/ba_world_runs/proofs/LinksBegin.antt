-- A link of a new participant begins: it is Registering, has no end, and nothing was sent on it. For the law that each link moves by
-- its table.
use Rattle.std.proofs.Common.{◌≡◌, ◌≢◌, inl, inr, ℕ, ◌+◌, ◌*◌, ◌^◌, ◌≤◌, Bool, true, false, List, [], ◌∷◌, map, Option, None, Some, arith}
use Rattle.std.proofs.Common.{refl, sym, ap, ◌∙◌, if◌then◌else◌}
use Rattle.std.specs.List.{cons_option, filter_map}
use Rattle.ba_core.specs.Messages.{notice_code}
use Rattle.ba_core.specs.declared.identifiers.Id.{Id}
use Rattle.ba_message.specs.Endpoints.{same_epr}
use Rattle.ba_message.specs.declared.endpoints.Epr.{Epr}
use Rattle.ba_message.specs.declared.messages.Letter.{Letter}
use Rattle.ba_message.proofs.FitTests.{endpoints_equal}
use Rattle.ba_scope_ends.specs.Ends.{end_of}
use Rattle.ba_scope.specs.Scope.{ScopeState}
use Rattle.ba_scope_ends.specs.declared.ends.End.{End}
use Rattle.ba_scope_ends.specs.declared.parts.Part.{Part}
use Rattle.ba_node_steps.specs.Addresses.{message_number, register_code, sender_of}
use Rattle.ba_node_steps.specs.Fits.{IsIdAt}
use Rattle.ba_node_steps.specs.Node.{Among, HasPart, NodeState, ids}
use Rattle.ba_node_steps.proofs.Hyphens.{participants_apart, sides_apart}
use Rattle.ba_node_steps.proofs.Members.{among_left, among_map, among_right}
use Rattle.ba_node_steps.proofs.Objects.{ids_in_scopes, in_scopes, lone_ids, up_owned}
use Rattle.ba_node_steps.proofs.Places.{first_is}
use Rattle.ba_tree.specs.Trees.{greatest}
use Rattle.ba_world_runs.specs.Links.{on_link, said_down}
use Rattle.ba_world_runs.specs.Safety.{IsAddressed, MailFits, of_end, of_enrolment, of_fault, of_part, of_register}
use Rattle.ba_world_runs.specs.World.{Mail, Net, PartAt, ScopeAt, answer, letter, node_at, participant_at}
use Rattle.ba_world_runs.proofs.Heard.{by_address, off_number, sent_on}
use Rattle.ba_world_runs.proofs.Letters.{coordinator_is}
use Rattle.ba_world_runs.proofs.Owners.{end_id, id_has_text, part_id, sender_is}
use Rattle.ba_world_runs.proofs.Said.{no_register_number}
use Rattle.ba_world_runs.proofs.Tests.{if_false, test_cases}

-- ---- a new identifier is that of no object

pub at_most : (f : Id → ℕ) (xs : List Id) (x : Id) → Among xs x → f x ≤ greatest (map f xs)
at_most f [] x h = absurd h
at_most f (y ∷ ys) x (inl same) = let one : f y ≡ f x = ap f same in omega (arith, one)
at_most f (y ∷ ys) x (inr later) = let rest = at_most f ys x later in omega (arith, rest)

pub part_among : (n : NodeState) (p : Part) → HasPart n p → Among (ids n) p.id
part_among n p (inl alone) = among_right (ids_in_scopes n) (lone_ids n) p.id (among_map (λ (x : Part). x.id) n.parts p alone)
part_among n p (inr above) =
    among_left (ids_in_scopes n) (lone_ids n) p.id (in_scopes n above.0 p.id above.1 (up_owned above.0 p above.2))

none_mapped : {A B : Type 0} (f : A → Option B) (xs : List A) → ((x : A) → Among xs x → f x ≡ None) → filter_map f xs ≡ []
none_mapped f [] all = refl
none_mapped {A} {B} f (x ∷ xs) all =
    (λ i. cons_option (all x (inl refl) i) (filter_map f xs)) ∙ none_mapped f xs (λ y later. all y (inr later))

module _ (w : Net) (is : IsAddressed w) (k : ℕ) (q : Part) (q_is : IsIdAt k q.id)
    (new : (j : ℕ) (p : Part) → PartAt w j p → p.id.0 ≢ q.id.0) where
  abbrev here : Epr
  here = participant_at w k q.id

  -- the endpoint of a participant that was there is another
  pub other_endpoint : (j : ℕ) (p : Part) → PartAt w j p → participant_at w j p.id ≢ here
  other_endpoint j p has same =
      new j p has (participants_apart p.id q.id (node_at w j).base (node_at w k).base
      (id_has_text j p.id (part_id w is j p has)) (id_has_text k q.id q_is) same)

  not_here : (to : Epr) → to ≢ here → same_epr to here ≡ false
  not_here to other = elim (test_cases (same_epr to here)) [ inl same ↦ absurd (other (endpoints_equal to here same)) | inr apart ↦ apart ]

  -- the sender of a letter that was sent has another identifier
  other_sender : (j code : ℕ) (a : Id) (l : Letter) → IsIdAt j a → a.0 ≢ q.id.0 → l.number ≡ message_number code a
      → sender_of l.number ≢ q.id.0
  other_sender j code a l a_is other number same = other (sym (sender_is j code a a_is) ∙ sym (ap sender_of number) ∙ same)

  other_number : (a : Id) (number : Id) → a.0 ≢ q.id.0 → number ≡ message_number register_code a
      → number.0 ≢ (message_number register_code q.id).0
  other_number a number other is_a same =
      let one : 17 * 2 ^ 96 + a.0 ≡ 17 * 2 ^ 96 + q.id.0 = ap (λ (x : Id). x.0) (sym is_a) ∙ same in
      other (omega (arith, one))

  module _ (no_end : (j : ℕ) (s : ScopeState) (e : End) → ScopeAt w j s → Among s.ends e → e.id.0 ≢ q.id.0) where
    nothing_sent : (m : Mail) → MailFits w m → on_link q here m ≡ None
    nothing_sent (letter l) (of_register j p has number to says) =
        by_address q here l (other_sender j register_code p.id l (part_id w is j p has) (new j p has) number)
        ∙ said_none (same_epr l.to here)
      where
        said_none : (b : Bool) → (if b then said_down l.message else None) ≡ None
        said_none true = ap said_down says
        said_none false = refl
    nothing_sent (letter l) (of_part j p n has number to says) =
        let at = coordinator_is w is j p l.to has to in
        by_address q here l (other_sender j (notice_code n) p.id l (part_id w is j p has) (new j p has) number)
        ∙ if_false (same_epr l.to here) (said_down l.message) None
        (not_here l.to (λ same. sides_apart at.2.id q.id (node_at w at.0).base (node_at w k).base (sym at.5 ∙ same)))
    nothing_sent (letter l) (of_end j s e n of among number to says) =
        let known = is.endpoints.ends j s e of among in
        by_address q here l (other_sender j (notice_code n) e.id l (end_id w is j s e of among) (no_end j s e of among) number)
        ∙ if_false (same_epr l.to here) (said_down l.message) None
        (not_here l.to (λ same. other_endpoint known.0 known.1 known.2.part (sym known.3 ∙ sym to ∙ same)))
    nothing_sent (answer number m) (of_enrolment j p i s e at its numbered says) =
        off_number q here number m (other_number p.id number (new j p at.part) numbered)
    nothing_sent (answer number m) (of_fault l c sent numbered says other) =
        off_number q here number m (λ same. no_answer_to l (is.mail (letter l) sent) (ap (λ (x : Id). x.0) (sym numbered) ∙ same))
      where
        no_answer_to : (l : Letter) → MailFits w (letter l) → l.number.0 ≢ (message_number register_code q.id).0
        no_answer_to l (of_register j p has number_l to said) = other_number p.id l.number (new j p has) number_l
        no_answer_to l (of_part j p n has number_l to said) =
            no_register_number w is l n k q.id (of_part j p n has number_l to said) said q_is
        no_answer_to l (of_end j s e n of among number_l to said) =
            no_register_number w is l n k q.id (of_end j s e n of among number_l to said) said q_is

    pub new_sent : sent_on w k q ≡ []
    new_sent = none_mapped (on_link q here) w.bag (λ m among. nothing_sent m (is.mail m among))

    -- no scope has an end for it
    pub new_has_no_end : (l : ℕ) (s : ScopeState) → ScopeAt w l s → end_of s.ends here ≡ None
    new_has_no_end l s of = by_found (end_of s.ends here) refl
      where
        by_found : (x : Option End) → end_of s.ends here ≡ x → end_of s.ends here ≡ None
        by_found None none = none
        by_found (Some e) found =
            let first = first_is (λ (y : End). same_epr y.participant here) s.ends e found in
            let known = is.endpoints.ends l s e of first.0 in
            absurd (other_endpoint known.0 known.1 known.2.part (sym known.3 ∙ endpoints_equal e.participant here first.1))
