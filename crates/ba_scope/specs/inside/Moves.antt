-- Inside: how an end, an upward part and a scope move where the call that moves them isn't refused.
use Rattle.std.specs.Prelude.{Some, map}
use Rattle.std.specs.Option.{option_map}
use Rattle.ba_core.specs.declared.notices.Act.{Act}
use Rattle.ba_core.specs.declared.protocols.Verdict.TheVariants.{Undo}
use Rattle.ba_scope_ends.specs.Ends.{end_with_verdict_if_none}
use Rattle.ba_scope_ends.specs.Parts.{acting_part}
use Rattle.ba_scope.specs.Scope.{ScopeState}

-- the scope whose upward part, if any, acts
abbrev pub with_up_acted : Act → ScopeState → ScopeState
with_up_acted a s = record s { up = option_map (acting_part a) s.up }

-- the scope with the verdict Undo, and so each end that had none
abbrev pub expired_scope : ScopeState → ScopeState
expired_scope s = record s { verdict = Some Undo; ends = map (end_with_verdict_if_none Undo) s.ends }
