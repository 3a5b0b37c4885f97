-- Believe: the calls that change a scope, and the scope after each.
use Rattle.std.specs.Prelude.{ℕ, None, Some, if◌then◌else◌}
use Rattle.ba_core.specs.declared.identifiers.Id.{Id}
use Rattle.ba_core.specs.declared.notices.Leave.{Leave}
use Rattle.ba_core.specs.declared.notices.Notice.{Notice}
use Rattle.ba_core.specs.declared.protocols.Protocol.{Protocol}
use Rattle.ba_core.specs.declared.protocols.Verdict.{Verdict}
use Rattle.ba_message.specs.declared.endpoints.Epr.{Epr}
use Rattle.ba_scope.specs.Rules.{ask, choose, complete, decide, end_receive, enrol_refusal, enrolled_scope, expire, finish, leave_by, owe}
use Rattle.ba_scope.specs.Rules.{refused_scope, scope_with_end, tick_end, tick_up, up_receive}
use Rattle.ba_scope_ends.specs.Parts.{is_registering}
use Rattle.ba_scope.specs.Scope.{ScopeState}

-- a call that changes a scope, with what it is given
pub data Call : Type 0 where
  by_enrol : Id → Protocol → Epr → Call
  by_decide : Verdict → Call
  by_choose : Id → Verdict → Call
  by_complete : Id → Call
  by_expire : ℕ → Call
  by_end_receive : Id → Notice → Call
  by_end_tick : Id → Call
  by_enrolled : Epr → Call
  by_refused by_finish : Call
  by_leave : Leave → Call
  by_up_receive : Notice → Call
  by_up_tick : Call
  by_owe by_ask : Id → Call

-- The scope after a call. A participant is enrolled or refused for good where it is Registering.
abbrev pub scope_after : ScopeState → Call → ScopeState
scope_after s (by_enrol id protocol participant) = elim (enrol_refusal s) [ None ↦ scope_with_end s id protocol participant | Some why ↦ s ]
scope_after s (by_decide v) = (decide s v).after
scope_after s (by_choose id v) = (choose s id v).after
scope_after s (by_complete id) = (complete s id).after
scope_after s (by_expire now) = (expire s now).after
scope_after s (by_end_receive id n) = (end_receive s id n).after
scope_after s (by_end_tick id) = (tick_end s id).after
scope_after s (by_enrolled coordinator) = if is_registering s.up then enrolled_scope coordinator s else s
scope_after s by_refused = if is_registering s.up then refused_scope s else s
scope_after s by_finish = (finish s).after
scope_after s (by_leave how) = (leave_by s how).after
scope_after s (by_up_receive n) = (up_receive s n).after
scope_after s by_up_tick = (tick_up s).after
scope_after s (by_owe id) = (owe s id).after
scope_after s (by_ask id) = (ask s id).after
