-- A play of a world from its first line to its answer: for `play_world`.
use Rattle.std.proofs.Common.{◌≡◌, ℕ, List, [], ◌∷◌, ◌++◌, map, Option, None, Some, Result, Ok, Err, OnOk, IfErr, refl, sym, ap, ◌∙◌, subst}
use Rattle.std.proofs.Common.{append-nil}
use Rattle.std.specs.Io.KnownBytes.{Appends}
use Rattle.ba_ports_memory.specs.DiskValue.{DiskValue}
use Rattle.ba_world_play.specs.Plays.{WorldOnDisks}
use Rattle.ba_world_play.specs.Shows.{Halt, Story, ending_lines, event_line, story_lines, story_text}
use Rattle.ba_world_play.specs.declared.missing.Missing.{Missing}
use Rattle.ba_tree.specs.Trees.{joined}
use Rattle.ba_world.specs.Worlds.{AreDisksOf}
use Rattle.ba_cmd_replay.proofs.Shown.{broken_before, broken_written, written_on}
use Rattle.ba_cmd_replay.specs.Replay.{halt_at}
use Rattle.ba_cmd_replay.specs.WorldReplay.{WritesFirstOf}
use Rattle.ba_cmd_replay.specs.declared.plays.PlayFault.{PlayFault}
use Rattle.ba_cmd_replay.specs.declared.plays.PlayFault.TheVariants as played
use Rattle.ba_cmd_replay.specs.inside.WorldPlays.{BreaksOffStory, HoldsRest, IsAnswerTo, IsHandedOut, AreLinesShown, AreLinesWritten, halt_told}

-- nothing was held before the first line
stripped : (lines : List (List ℕ)) (a c : Option (List ℕ)) (first rest : List (List ℕ)) → [] ∷ lines ≡ first ++ rest
    → Appends a c (joined first) → WritesFirstOf lines a c
stripped lines a c [] rest are written = ([], lines, refl, written)
stripped lines a c (x ∷ first) rest are written =
    let none : x ≡ [] = cc in
    let same : lines ≡ first ++ rest = cc in
    (first, rest, same, subst (Appends a c) (ap (λ (y : List ℕ). y ++ joined first) none) written)

story_broken : (s : Story) (a c : Option (List ℕ)) (why : PlayFault) → AreLinesWritten {A = Unit {0}} ([] ∷ story_lines s) a c (Err why)
    → BreaksOffStory s a c why
story_broken s a c played.Memory broken = stripped (story_lines s) a c broken.0 broken.1 broken.2 broken.3
story_broken s a c played.Write broken = broken
story_broken s a c (played.NoSuchName number) broken = absurd broken
story_broken s a c (played.NoSuchMessage number) broken = absurd broken

-- it broke off at an event
pub events_broken : (A : Type 0) (s : Story) (a c : Option (List ℕ)) (u text : List ℕ) (why : PlayFault) → text ≡ []
    → AreLinesShown {A = A} (text ∷ map event_line s.lines) a c u (Err why) → BreaksOffStory s a c why
events_broken A s a c u text why none shown =
    story_broken s a c why
    (broken_written (Unit {0}) (Unit {0}) ([] ∷ story_lines s) a c u why
    (broken_before A (Unit {0}) ([] ∷ map event_line s.lines) (ending_lines s.last s.halt) a c u u why
    (subst (λ (t : List ℕ). AreLinesShown {A = A} (t ∷ map event_line s.lines) a c u (Err why)) none shown)))

-- the events were played, and then the end was written
end_on : {A : Type 0} (s : Story) (halt : Option Halt) (a b c : Option (List ℕ)) (text t : List ℕ) (r : Result A PlayFault) → text ≡ []
    → s.halt ≡ halt
    → HoldsRest (text ∷ map event_line s.lines) a b t → AreLinesWritten (t ∷ ending_lines s.last halt) b c r
    → AreLinesWritten ([] ∷ story_lines s) a c r
end_on s halt a b c text t r none same held written =
    written_on ([] ∷ map event_line s.lines) (ending_lines s.last s.halt) a b c t r
    (subst (λ (x : List ℕ). HoldsRest (x ∷ map event_line s.lines) a b t) none held)
    (subst (λ (h : Option Halt). AreLinesWritten (t ∷ ending_lines s.last h) b c r) (sym same) written)

pub end_broken : (s : Story) (halt : Option Halt) (a b c : Option (List ℕ)) (text t : List ℕ) (why : PlayFault) → text ≡ []
    → s.halt ≡ halt
    → HoldsRest (text ∷ map event_line s.lines) a b t → AreLinesWritten {A = Unit {0}} (t ∷ ending_lines s.last halt) b c (Err why)
    → BreaksOffStory s a c why
end_broken s halt a b c text t why none same held written =
    story_broken s a c why (end_on {A = Unit {0}} s halt a b c text t (Err why) none same held written)

pub end_written : (s : Story) (halt : Option Halt) (a b c : Option (List ℕ)) (text t : List ℕ) → text ≡ []
    → s.halt ≡ halt
    → HoldsRest (text ∷ map event_line s.lines) a b t → Appends b c (joined (t ∷ ending_lines s.last halt)) → Appends a c (story_text s)
end_written s halt a b c text t none same held written = end_on {A = Unit {0}} s halt a b c text t (Ok tt) none same held written

-- all lines are out, and there was no memory for the disks
pub disks_lost : (s : Story) (a c : Option (List ℕ)) → Appends a c (story_text s) → BreaksOffStory s a c played.Memory
disks_lost s a c written = (story_lines s, [], sym (append-nil (story_lines s)), written)

-- ---- the answer

pub record Answers (s : Story) (a c : Option (List ℕ)) (old new : List DiskValue) {A : Type 0} (r : Result A PlayFault) : Type 0 where
  pub whole : OnOk r (s.halt ≡ None)
  pub written : OnOk r (Appends a c (story_text s))
  pub broken : IfErr r (BreaksOffStory s a c)
  pub handed : IfErr r (IsHandedOut s.last old new)

pub answered : {A : Type 0} (s : Story) (halt : Option (ℕ × Missing)) (a c : Option (List ℕ)) (old new : List DiskValue)
    (r : Result A PlayFault) → IsAnswerTo halt r → s.halt ≡ halt_told halt → Appends a c (story_text s) → AreDisksOf s.last new
    → Answers s a c old new r
answered s None a c old new (Ok done) is same written disks = record { whole = same; written = written; broken = tt; handed = tt }
answered s None a c old new (Err why) is same written disks = absurd is
answered s (Some told) a c old new (Ok done) is same written disks = absurd is
answered s (Some told) a c old new (Err played.Memory) is same written disks = absurd is
answered s (Some told) a c old new (Err played.Write) is same written disks = absurd is
answered s (Some told) a c old new (Err (played.NoSuchName number)) is same written disks = record {
  whole = tt;
  written = tt;
  broken = (same ∙ ap (λ (t : ℕ × Missing). Some (halt_at t.0 t.1)) is, written);
  handed = disks;
}
answered s (Some told) a c old new (Err (played.NoSuchMessage number)) is same written disks = record {
  whole = tt;
  written = tt;
  broken = (same ∙ ap (λ (t : ℕ × Missing). Some (halt_at t.0 t.1)) is, written);
  handed = disks;
}

-- what wasn't written hands nothing out
pub none_handed : (p : WorldOnDisks) (disks : List DiskValue) (lines : List (List ℕ)) (a c : Option (List ℕ)) (why : PlayFault)
    → AreLinesWritten {A = Unit {0}} lines a c (Err why) → IsHandedOut p disks disks why
none_handed p disks lines a c played.Memory broken = refl
none_handed p disks lines a c played.Write broken = refl
none_handed p disks lines a c (played.NoSuchName number) broken = absurd broken
none_handed p disks lines a c (played.NoSuchMessage number) broken = absurd broken
