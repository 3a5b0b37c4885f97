-- Believe: a pair, which is one link whose participant is enrolled, and the bag of all that was sent on it.
use Rattle.std.specs.Prelude.{◌≢◌, ℕ, ◌-◌, Bool, true, false, List, [], map, slice_get, nat_eq, Option, None, Some, IsTrue, if◌then◌else◌}
use Rattle.std.specs.List.{AllByRecursion}
use Rattle.ba_core.specs.Messages.{is_column}
use Rattle.ba_core.specs.declared.protocols.Protocol.{Protocol}
use Rattle.ba_core.specs.declared.protocols.Verdict.{Verdict}
use Rattle.ba_core.specs.declared.notices.Notice.{Notice}
use Rattle.ba_core.specs.declared.notices.Notice.TheVariants as notice
use Rattle.ba_core.specs.declared.states.CState.{CState}
use Rattle.ba_core.specs.declared.states.CState.TheVariants as end
use Rattle.ba_core.specs.declared.states.PState.{PState}
use Rattle.ba_core.specs.declared.states.PState.TheVariants as part
use Rattle.ba_link.specs.Link.{LinkState, Link, Message, to_part, to_end}
use Rattle.ba_link.specs.Fits.{LinkFits}

pub record PairState : Type 0 where
  pub protocol : Protocol
  pub end : CState
  pub verdict : Option Verdict
  pub part : PState
  pub bag : List Notice

-- a pair at its start: both sides are Active, and nothing was said
abbrev pub starting_pair : Protocol → PairState
starting_pair p = record { protocol = p; end = end.Active; verdict = None; part = part.Active; bag = [] }

-- the bag's message with this number, from 1
abbrev pub message_at : List Notice → ℕ → Option Notice
message_at bag number = if nat_eq number 0 then None else slice_get bag (number - 1)

-- the notice comes from a coordinator, and so goes to a participant
abbrev pub is_for_part : Notice → Bool
is_for_part notice.Complete = true
is_for_part notice.Close = true
is_for_part notice.Cancel = true
is_for_part notice.Compensate = true
is_for_part notice.Failed = true
is_for_part notice.Exited = true
is_for_part notice.NotCompleted = true
is_for_part n = false

-- a notice as a message of a link
abbrev pub link_message : Notice → Message
link_message n = if is_for_part n then to_part n else to_end n

-- the pair as a link
abbrev pub state_of_pair : PairState → LinkState
state_of_pair w = record {
  protocol = w.protocol;
  end = Some (record { state = w.end; verdict = w.verdict });
  part = w.part;
  sealed = false;
}

abbrev pub link_of : PairState → Link
link_of w = record { state = state_of_pair w; sent = map link_message w.bag }

-- the pair's link is as its moves make it, its participant is enrolled, and its bag holds no GetStatus and
-- no Status
pub record PairFits (w : PairState) : Type 0 where
  pub link : LinkFits (link_of w)
  pub enrolled : w.part ≢ part.Registering
  pub columns : AllByRecursion (λ n. IsTrue (is_column n)) w.bag
