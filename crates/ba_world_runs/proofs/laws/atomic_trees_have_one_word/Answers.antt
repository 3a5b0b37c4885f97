use Rattle.ba_world_runs.specs.World.{net_of}
use Rattle.ba_world_runs.proofs.SoundRuns.{sound_run}
use Rattle.ba_world_runs.proofs.TreeWords.{atomic_words, ready_under}
use Rattle.ba_world_runs.proofs.laws.atomic_trees_have_one_word.Goals as goal

pub returns-clause-word : goal.returns-clause-word
returns-clause-word c = atomic_words

pub returns-clause-ready : goal.returns-clause-ready
returns-clause-ready c = ready_under

pub returns-clause-word_in_run : goal.returns-clause-word_in_run
returns-clause-word_in_run c w before run = atomic_words (net_of w) (sound_run w before run).net

pub returns-clause-ready_in_run : goal.returns-clause-ready_in_run
returns-clause-ready_in_run c w before run = ready_under (net_of w) (sound_run w before run).net
