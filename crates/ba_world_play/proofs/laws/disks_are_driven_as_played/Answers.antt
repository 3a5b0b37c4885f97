use Rattle.ba_world_play.proofs.Driven.{append_is_played, early_is_played, load_is_played, past_is_played}
use Rattle.ba_world_play.proofs.laws.disks_are_driven_as_played.Goals as goal

pub returns-clause-append : goal.returns-clause-append
returns-clause-append c = append_is_played

pub returns-clause-past : goal.returns-clause-past
returns-clause-past c = past_is_played

pub returns-clause-load : goal.returns-clause-load
returns-clause-load c = load_is_played

pub returns-clause-early : goal.returns-clause-early
returns-clause-early c = early_is_played
