use Rattle.ba_world_runs.specs.World.{net_of}
use Rattle.ba_world_runs.proofs.SoundRuns.{sound_run}
use Rattle.ba_world_runs.proofs.TreeWords.{in_root, under_child}
use Rattle.ba_world_runs.proofs.WordLemmas.{has_word, one_word}
use Rattle.ba_world_runs.proofs.laws.words_come_down.Goals as goal

pub returns-clause-root : goal.returns-clause-root
returns-clause-root c = in_root

pub returns-clause-atomic_child : goal.returns-clause-atomic_child
returns-clause-atomic_child c w sound l j child r up over is its kind = under_child w sound l j child r up over is its

pub returns-clause-mixed_child : goal.returns-clause-mixed_child
returns-clause-mixed_child c w sound l j child r up over is its kind = under_child w sound l j child r up over is its

pub returns-clause-one : goal.returns-clause-one
returns-clause-one c = one_word

pub returns-clause-verdict : goal.returns-clause-verdict
returns-clause-verdict c = has_word

pub returns-clause-root_in_run : goal.returns-clause-root_in_run
returns-clause-root_in_run c w before run = in_root (net_of w) (sound_run w before run).net

pub returns-clause-atomic_child_in_run : goal.returns-clause-atomic_child_in_run
returns-clause-atomic_child_in_run c w before run l j child r up over is its kind =
    under_child (net_of w) (sound_run w before run).net l j child r up over is its

pub returns-clause-mixed_child_in_run : goal.returns-clause-mixed_child_in_run
returns-clause-mixed_child_in_run c w before run l j child r up over is its kind =
    under_child (net_of w) (sound_run w before run).net l j child r up over is its

pub returns-clause-one_in_run : goal.returns-clause-one_in_run
returns-clause-one_in_run c w before run = one_word (net_of w) (sound_run w before run).net

pub returns-clause-verdict_in_run : goal.returns-clause-verdict_in_run
returns-clause-verdict_in_run c w before run = has_word (net_of w) (sound_run w before run).net
