-- Believe: the headline: what participants are told in a run, in words on the wire and records alone.
use Rattle.std.specs.Prelude.{◌≡◌, List, Some}
use Rattle.ba_core.specs.declared.protocols.Verdict.{Verdict}
use Rattle.ba_message.specs.declared.endpoints.Epr.{Epr}
use Rattle.ba_message.specs.declared.messages.Letter.{Letter}
use Rattle.ba_record.specs.declared.records.Record.{Record}
use Rattle.ba_scope.specs.Scope.{ScopeState}
use Rattle.ba_scope_ends.specs.declared.ends.End.{End}
use Rattle.ba_node_steps.specs.Lawful.{Replays}
use Rattle.ba_node_steps.specs.Node.{Among, NodeState}
use Rattle.ba_node_steps.specs.WordsTold.{word_in}
use Rattle.ba_world_runs.specs.World.{World, letter}

-- a letter that ever went to this endpoint told it this word: Close, or by Cancel or Compensate to undo
pub record WasTold (w : World) (to : Epr) (v : Verdict) : Type 0 where
  pub said : Letter
  pub sent : Among w.bag (letter said)
  pub goes : said.to ≡ to
  pub word : word_in said.message ≡ Some v

-- the end e, in the scope s, is that of the participant at this endpoint
pub record IsEndFor (n : NodeState) (s : ScopeState) (e : End) (to : Epr) : Type 0 where
  pub scope : Among n.scopes s
  pub among : Among s.ends e
  pub participant : e.participant ≡ to

-- the node that is the replay of these records has an end for this endpoint, with this verdict
pub record RecordsSay (records : List Record) (to : Epr) (v : Verdict) : Type 0 where
  pub node : NodeState
  pub replays : Replays records node
  pub scope : ScopeState
  pub its : End
  pub here : IsEndFor node scope its to
  pub verdict : its.verdict ≡ Some v
