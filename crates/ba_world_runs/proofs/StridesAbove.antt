-- What becomes of the link of a participant as it changes: it is told where it stands, hears a notice, acts, ticks, or has a flag
-- set; for the law that each step of a node is moves of its links.
use Rattle.std.proofs.Common.{◌≡◌, inl, inr, ℕ, Bool, true, false, not, ◌||◌, Option, None, Some, unwrap_or, refl, sym, ap, ◌∙◌, subst}
use Rattle.std.proofs.Common.{true≢false, IfSome}
use Rattle.std.specs.List.{list_all}
use Rattle.std.specs.Option.{option_map}
use Rattle.ba_core.specs.Messages.{part_name}
use Rattle.ba_core.specs.PartRows.{acted_state, part_row, part_says}
use Rattle.ba_core.specs.declared.codes.Code.{Code}
use Rattle.ba_core.specs.declared.identifiers.Id.{Id}
use Rattle.ba_core.specs.declared.notices.Act.{Act}
use Rattle.ba_core.specs.declared.notices.Notice.{Notice}
use Rattle.ba_core.specs.declared.notices.Notice.TheVariants as notice
use Rattle.ba_core.specs.declared.protocols.Protocol.{Protocol}
use Rattle.ba_core.specs.declared.protocols.Side.TheVariants.{Participant}
use Rattle.ba_core.specs.declared.rows.PRow.TheVariants as prow
use Rattle.ba_core.specs.declared.states.How.TheVariants.{Refused}
use Rattle.ba_core.specs.declared.states.PState.{PState}
use Rattle.ba_core.specs.declared.states.PState.TheVariants as part
use Rattle.ba_link.specs.Link.{LinkState, Message, Move, heard_by, acted_link, acts, asks_end, is_enrolled, is_refused, moved_link}
use Rattle.ba_link.specs.Link.{part_message, part_moved_link, part_receives, part_ticks, register, tells_end, to_end, told_link}
use Rattle.ba_message.specs.declared.endpoints.Epr.{Epr}
use Rattle.ba_link.proofs.Everywhere.{part_passes, parts, protocol_passes}
use Rattle.ba_scope.proofs.Calls.{led, registering_is, ticked_part}
use Rattle.ba_scope.proofs.Lists.{by_test, false_branch}
use Rattle.ba_scope.proofs.Tables.{act_closes, each_act_closes, is_open_state}
use Rattle.ba_scope_ends.specs.Ends.{Tick}
use Rattle.ba_scope_ends.specs.Parts.{act_when_drained, enrolled_part, part_in_state, refused_part, state_after_act, tick_of_part}
use Rattle.ba_scope.specs.Rules.{part_at_tick, state_at_tick}
use Rattle.ba_scope.specs.Scope.{ScopeState, any_failed, is_drained}
use Rattle.ba_scope_ends.specs.declared.parts.Part.{Part}
use Rattle.ba_node_steps.specs.declared.inputs.Input.{Input}
use Rattle.ba_node_steps.specs.declared.inputs.Input.TheVariants as input
use Rattle.ba_node_steps.specs.Node.{NodeState}
use Rattle.ba_node_steps.specs.Steps.{is_registering_state, refusal_number}
use Rattle.ba_node_steps.specs.Ticks.{part_letter}
use Rattle.ba_world_runs.specs.Links.{link_state}
use Rattle.ba_world_runs.proofs.LinkMoves.{Quiet, moves_quiet, stays_quiet}
use Rattle.ba_world_runs.proofs.Strides.{Above, PartHears, SaysAtMost, Sends, Speech, Strides, moves, part_registers, part_writes, said_by}
use Rattle.ba_world_runs.proofs.Strides.{silent, speaks_last, stays}

-- an act leads to a state in which a participant isn't at work any more
pub acted_closes : (protocol : Protocol) (p : PState) (a : Act) (next : PState) → acted_state protocol p a ≡ Some next
    → not (is_open_state next) ≡ true
acted_closes protocol p a next is =
    led (λ (x : PState). not (is_open_state x)) (acted_state protocol p a) next is
    (part_passes (act_closes a protocol) (protocol_passes (λ x. list_all (act_closes a x) parts) (each_act_closes a) protocol) p)

-- ---- what an input does to a participant

pub enrolled_above : (p : Part) (id : Id) (coordinator : Epr) → p.id ≡ id → is_registering_state p.state ≡ true
    → Above (Some (input.Enrolled id coordinator)) silent p (enrolled_part coordinator p)
enrolled_above p id coordinator named registering here r =
    moves is_enrolled None named
    (ap (λ (x : PState). told_link (link_state p here r) x part.Active) (registering_is p.state registering)) (inl refl)

pub refused_above : (p : Part) (id : Id) (c : Code) (number : ℕ) → p.id ≡ id → is_registering_state p.state ≡ true
    → refusal_number c ≡ Some number → Above (Some (input.RefusedBy id c)) silent p (refused_part p)
refused_above p id c number named registering is here r =
    moves is_refused None (named, λ none. absurd (is_known number (sym is ∙ none)))
    (ap (λ (x : PState). told_link (link_state p here r) x (part.Ended Refused)) (registering_is p.state registering)) (inl refl)
  where
    is_known : (x : ℕ) → Some x ≡ None → ⊥
    is_known x h = absurd cc

pub notice_above : (p : Part) (id : Id) (m : Notice) (next : PState) (prompt : Bool) → p.id ≡ id
    → part_row p.protocol p.state m ≡ prow.Row next prompt → Above (Some (input.Notice Participant id m)) silent p (part_in_state next p)
notice_above p id m next prompt named row here r =
    moves (part_receives m) None (named, refl) (ap (part_moved_link (link_state p here r)) row) (inl refl)

pub acted_above : (cause : Option Input) (p : Part) (a : Act) (next : PState) → acted_state p.protocol p.state a ≡ Some next
    → Above cause silent p (part_in_state next p)
acted_above cause p a next is here r = moves (acts a) None tt (ap (acted_link (link_state p here r)) is) (inl refl)

-- a flag is set, or nothing changes
pub same_above : (cause : Option Input) (speech : Speech) (p q : Part) → said_by speech ≡ None → q.protocol ≡ p.protocol → q.state ≡ p.state
    → Above cause speech p q
same_above cause speech p q quiet protocol state here r =
    stays (λ i. record (link_state p here r) { protocol = protocol i; part = state i }) quiet

-- ---- what a tick does to a participant

-- what a participant says by this notice: it is said where it keeps a coordinator
abbrev pub speech_to : Part → Option Epr → Option Notice → Speech
speech_to p None says = silent
speech_to p (Some to) None = silent
speech_to p (Some to) (Some m) = part_writes p to m

abbrev pub part_speech : Part → Option Notice → Speech
part_speech p says = speech_to p p.coordinator says

pub part_letter_sent : (n : NodeState) (p : Part) (says : Option Notice) → Sends n (part_speech p says) (part_letter p says)
part_letter_sent n p says = by_coordinator p.coordinator says
  where
    by_coordinator : (o : Option Epr) (m : Option Notice) → Sends n (speech_to p o m) (part_letter (record p { coordinator = o }) m)
    by_coordinator None None = refl
    by_coordinator None (Some m) = refl
    by_coordinator (Some to) None = refl
    by_coordinator (Some to) (Some m) = refl

part_said : (p : Part) (says : Option Notice) → SaysAtMost (said_by (part_speech p says)) (option_map to_end says)
part_said p says = by_coordinator p.coordinator says
  where
    by_coordinator : (o : Option Epr) (m : Option Notice) → SaysAtMost (said_by (speech_to p o m)) (option_map to_end m)
    by_coordinator None m = inl refl
    by_coordinator (Some to) None = inl refl
    by_coordinator (Some to) (Some m) = inr refl

pub registers_above : (cause : Option Input) (p : Part) → is_registering_state p.state ≡ true → Above cause (part_registers p) p p
registers_above cause p registering here r =
    moves part_ticks (Some register) tt
    (ap (λ (x : PState). Some (link_state p here r, part_message x)) (registering_is p.state registering)) (inr refl)

-- what a tick says in a state in which it doesn't register
says_in : (p : PState) → is_registering_state p ≡ false → part_message p ≡ option_map to_end (part_says p)
says_in part.Registering h = absurd (true≢false h)
says_in p h = refl

-- a move of a tick, which leaves the link as it is
record TickMove (says : Option Message) (a : LinkState) : Type 0 where
  move : Move
  message : Option Message
  unheard : heard_by move ≡ None
  moved : moved_link a move ≡ Some (a, message)
  said : SaysAtMost says message

abbrev Ticks : Option Message → LinkState → Tick Part → Type 0
Ticks says a tick = SaysAtMost says (option_map to_end tick.says) → TickMove says a

tick_move : (q : Part) (here : Epr) (r : ScopeState) (says : Option Message) → is_registering_state q.state ≡ false
    → SaysAtMost says (option_map to_end (tick_of_part q).says) → TickMove says (link_state q here r)
tick_move q here r says registered =
    by_test (Ticks says (link_state q here r)) q.owes _ _
    (λ _ said. record {
      move = tells_end (part_name q.state);
      message = Some (to_end (notice.Status (part_name q.state)));
      unheard = refl;
      moved = refl;
      said = said;
    })
    (λ _. by_test (Ticks says (link_state q here r)) q.asks (record { after = record q { asks = false }; says = Some notice.GetStatus })
    (record { after = q; says = part_says q.state })
    (λ _ said. record { move = asks_end; message = Some (to_end notice.GetStatus); unheard = refl; moved = refl; said = said })
    (λ _ said. record {
      move = part_ticks;
      message = option_map to_end (part_says q.state);
      unheard = refl;
      moved = ap (λ (x : Option Message). Some (link_state q here r, x)) (says_in q.state registered);
      said = said;
    }))

-- but for its flags the participant stays
ticked_stays : (q : Part) (here : Epr) (r : ScopeState) → link_state (tick_of_part q).after here r ≡ link_state q here r
ticked_stays q here r = ticked_part (λ (x : Part). link_state x here r ≡ link_state q here r) q refl refl refl

unheard_none : (hears : Message → Type 0) (m : Move) → heard_by m ≡ None → IfSome (heard_by m) hears
unheard_none hears m unheard = subst (λ (o : Option Message). IfSome o hears) (sym unheard) tt

-- it goes quietly from p to q, and ticks
quiet_then_ticks : (cause : Option Input) (speech : Speech) (p q : Part) → is_registering_state q.state ≡ false
    → ((here : Epr) (r : ScopeState) → Quiet (link_state p here r) (link_state q here r))
    → SaysAtMost (said_by speech) (option_map to_end (tick_of_part q).says) → Above cause speech p (tick_of_part q).after
quiet_then_ticks cause speech p q registered quiet said here r =
    subst (Strides (PartHears cause p) (said_by speech) (link_state p here r)) (sym (ticked_stays q here r))
    (by_quiet (quiet here r) (tick_move q here r (said_by speech) registered said))
  where
    by_quiet : Quiet (link_state p here r) (link_state q here r) → TickMove (said_by speech) (link_state q here r)
        → Strides (PartHears cause p) (said_by speech) (link_state p here r) (link_state q here r)
    by_quiet (stays_quiet same) tick =
        subst (λ (a : LinkState). Strides (PartHears cause p) (said_by speech) a (link_state q here r)) same
        (moves tick.move tick.message (unheard_none (PartHears cause p) tick.move tick.unheard) tick.moved tick.said)
    by_quiet (moves_quiet m unheard is) tick =
        speaks_last m tick.move (link_state q here r) tick.message (unheard_none (PartHears cause p) m unheard) tick.unheard is tick.moved
        tick.said

-- a participant that is enrolled ticks
pub ticks_above : (cause : Option Input) (p : Part) → is_registering_state p.state ≡ false
    → Above cause (part_speech p (tick_of_part p).says) p (tick_of_part p).after
ticks_above cause p registered =
    quiet_then_ticks cause (part_speech p (tick_of_part p).says) p p registered (λ here r. stays_quiet refl)
    (part_said p (tick_of_part p).says)

-- it says what its state lets it say
pub says_above : (cause : Option Input) (p : Part) → is_registering_state p.state ≡ false
    → Above cause (part_speech p (part_says p.state)) p p
says_above cause p registered here r =
    moves part_ticks (option_map to_end (part_says p.state)) tt
    (ap (λ (x : Option Message). Some (link_state p here r, x)) (says_in p.state registered)) (part_said p (part_says p.state))

-- ---- an upward part ticks: it acts where its scope is drained

-- what holds where it stays, and of each state that an act leads to
at_tick : (P : Part → Type 0) (s : ScopeState) (p : Part) → P p
    → ((a : Act) (next : PState) → acted_state p.protocol p.state a ≡ Some next → P (part_in_state next p)) → P (part_at_tick s p)
at_tick P s p same acted =
    by_test P (p.owes || p.asks) p (part_in_state (state_at_tick s p) p) (λ _. same)
    (λ _. by_test (λ (x : PState). P (part_in_state x p)) (is_drained s)
    (state_after_act p.protocol p.state (act_when_drained p.state (any_failed s))) p.state
    (λ _. by_act (act_when_drained p.state (any_failed s))) (λ _. same))
  where
    by_state : (a : Act) (o : Option PState) → acted_state p.protocol p.state a ≡ o → P (part_in_state (unwrap_or o p.state) p)
    by_state a None is = same
    by_state a (Some next) is = acted a next is

    by_act : (o : Option Act) → P (part_in_state (state_after_act p.protocol p.state o) p)
    by_act None = same
    by_act (Some a) = by_state a (acted_state p.protocol p.state a) refl

act_leaves : (protocol : Protocol) (p : PState) (a : Act) (next : PState) → acted_state protocol p a ≡ Some next
    → is_registering_state next ≡ false
act_leaves protocol p a next is = not_registering next (acted_closes protocol p a next is)
  where
    not_registering : (x : PState) → not (is_open_state x) ≡ true → is_registering_state x ≡ false
    not_registering part.Registering h = absurd (true≢false (sym h))
    not_registering (part.Ended Refused) h = refl
    not_registering x h = refl

-- what an upward part that neither talks nor acts says
pub up_says_again : (s : ScopeState) (p : Part) → p.owes ≡ false → p.asks ≡ false → state_at_tick s p ≡ p.state
    → (tick_of_part (part_at_tick s p)).says ≡ part_says p.state
up_says_again s p owes asks state =
    let talks : (p.owes || p.asks) ≡ false = ap (λ (b : Bool). b || p.asks) owes ∙ asks in
    let q : Part = part_in_state (state_at_tick s p) p in
    let at_tick : part_at_tick s p ≡ q = false_branch (p.owes || p.asks) p q talks in
    let tick : tick_of_part q ≡ record { after = q; says = part_says q.state } =
    false_branch p.owes _ _ owes ∙ false_branch p.asks _ _ asks in
    ap (λ (x : Part). (tick_of_part x).says) at_tick ∙ ap (λ (t : Tick Part). t.says) tick ∙ ap part_says state

pub up_ticks_above : (cause : Option Input) (s : ScopeState) (p : Part) → is_registering_state p.state ≡ false
    → Above cause (part_speech p (tick_of_part (part_at_tick s p)).says) p (tick_of_part (part_at_tick s p)).after
up_ticks_above cause s p registered =
    let q : Part = part_at_tick s p in
    quiet_then_ticks cause (part_speech p (tick_of_part q).says) p q
    (at_tick (λ (x : Part). is_registering_state x.state ≡ false) s p registered (λ a next is. act_leaves p.protocol p.state a next is))
    (λ here r. at_tick (λ (x : Part). Quiet (link_state p here r) (link_state x here r)) s p (stays_quiet refl)
    (λ a next is. moves_quiet (acts a) refl (ap (acted_link (link_state p here r)) is)))
    (part_said p (tick_of_part q).says)
