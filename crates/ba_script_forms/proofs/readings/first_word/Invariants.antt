use Rattle.std.proofs.Common.{◌≢◌, All, take}
use Rattle.ba_script_forms.proofs.readings.first_word.Given as goal

abbrev pub invariant-loop-index : goal.invariant-loop-index
invariant-loop-index l = record {
  clear : All (λ b. b ≢ 32) (take l.index l.bytes);
}
