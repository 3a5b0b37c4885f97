-- What a replay promises, from what its script and its play were: for `replay`, clauses `done` and `stops`.
use Rattle.std.proofs.Common.{◌≡◌, ℕ, false, List, Option, Some, None, [], IfSome, refl, ◌∙◌, inl, inr}
use Rattle.std.specs.Io.KnownBytes.{Appends}
use Rattle.ba_world_events.specs.Events.{NumberedEvent}
use Rattle.ba_pair.proofs.Safety.{plays_are_safe}
use Rattle.ba_cmd_replay.specs.declared.plays.PlayFault.{PlayFault}
use Rattle.ba_cmd_replay.specs.declared.plays.PlayFault.TheVariants as broke
use Rattle.ba_core.specs.declared.protocols.Protocol.{Protocol}
use Rattle.ba_pair.specs.PairPlay.{Numbered, play}
use Rattle.ba_pair.specs.PairState.{starting_pair}
use Rattle.ba_script.specs.declared.scripts.Script.TheVariants.{Pair, World}
use Rattle.ba_script.specs.declared.scripts.ScriptFault.{ScriptFault}
use Rattle.ba_script.specs.declared.scripts.ScriptFault.TheVariants as script
use Rattle.ba_cmd_replay.specs.Replay.{PrintsWhole, StopsReplay}
use Rattle.ba_ports_memory.specs.DiskValue.{DiskValue}
use Rattle.ba_world_play.specs.Plays.{WorldOnDisks}
use Rattle.ba_world_play.specs.Shows.{story, story_text}
use Rattle.ba_script.specs.declared.scripts.Script.{Script}
use Rattle.ba_cmd_replay.proofs.SafeScripts.{world_is_safe}
use Rattle.ba_cmd_replay.specs.WorldReplay.{AreDisksLeft, HandsOut, LeavesDisks, TellsStory, is_halt}
use Rattle.ba_cmd_replay.specs.inside.WorldPlays.{BreaksOffStory, IsHandedOut}
use Rattle.ba_cmd_replay.specs.inside.Plays.{BreaksOff, unread_fault, unplayed_fault}
use Rattle.ba_cmd_replay.proofs.Breaks.{keeps_same}
use Rattle.ba_script.specs.Scripts.{IsScript, ExplainsFault}
use Rattle.ba_script.specs.Printer.{shown_lines}
use Rattle.ba_ports.specs.Inputs.{TakesAtMost}
use Rattle.ba_script.specs.Scripts.{most_until_fault}

-- a script was played to its end
pub whole_play : (left : Option (List ℕ)) (protocol : Protocol) (events : List Numbered) (before now : Option (List ℕ))
    → IfSome left (λ text. IsScript text (Pair protocol events)) → (play (starting_pair protocol) events).stopped_at ≡ None
    → Appends before now (shown_lines (play (starting_pair protocol) events).lines)
    → IfSome left (λ input. PrintsWhole input before now)
whole_play None protocol events before now is whole written = tt
whole_play (Some input) protocol events before now is whole written = inl (record {
  protocol = protocol;
  events = events;
  script = is;
  whole = whole;
  written = written;
  safe = plays_are_safe protocol events;
})

-- a play broke off
pub broken_play : (left rest : Option (List ℕ)) (protocol : Protocol) (events : List Numbered) (before now : Option (List ℕ))
    (cause : PlayFault) → IfSome left (λ text. IsScript text (Pair protocol events))
    → BreaksOff (play (starting_pair protocol) events) before now cause
    → IfSome left (λ input. StopsReplay input rest before now (unplayed_fault cause))
broken_play None rest protocol events before now cause is broken = tt
broken_play (Some input) rest protocol events before now (broke.NoSuchMessage number) is broken = inl (record {
  protocol = protocol;
  events = events;
  script = is;
  stopped = broken.0;
  written = broken.1;
  safe = plays_are_safe protocol events;
})
broken_play (Some input) rest protocol events before now (broke.NoSuchName number) is broken = absurd broken
broken_play (Some input) rest protocol events before now broke.Write is broken =
    inl (record { protocol = protocol; events = events; script = is; written = broken; safe = plays_are_safe protocol events })
broken_play (Some input) rest protocol events before now broke.Memory is broken =
    inl (record { protocol = protocol; events = events; script = is; written = broken; safe = plays_are_safe protocol events })

-- ---- a script of a world

told_story : (input : List ℕ) (nodes : ℕ) (events : List NumberedEvent) → IsScript input (World nodes events)
    → TellsStory input (story nodes events)
told_story input nodes events is =
    record { nodes = nodes; events = events; script = is; is = refl; safe = world_is_safe input nodes events is }

-- it was played to its end
pub whole_story : (left : Option (List ℕ)) (nodes : ℕ) (events : List NumberedEvent) (before now : Option (List ℕ))
    → IfSome left (λ text. IsScript text (World nodes events)) → (story nodes events).halt ≡ None
    → Appends before now (story_text (story nodes events)) → IfSome left (λ input. PrintsWhole input before now)
whole_story None nodes events before now is whole written = tt
whole_story (Some input) nodes events before now is whole written =
    inr (record { story = story nodes events; tells = told_story input nodes events is; whole = whole; written = written })

-- its play broke off
pub broken_story : (left rest : Option (List ℕ)) (nodes : ℕ) (events : List NumberedEvent) (before now : Option (List ℕ))
    (cause : PlayFault) → IfSome left (λ text. IsScript text (World nodes events)) → BreaksOffStory (story nodes events) before now cause
    → IfSome left (λ input. StopsReplay input rest before now (unplayed_fault cause))
broken_story None rest nodes events before now cause is broken = tt
broken_story (Some input) rest nodes events before now (broke.NoSuchName number) is broken =
    record { story = story nodes events; tells = told_story input nodes events is; halted = broken.0; written = broken.1 }
broken_story (Some input) rest nodes events before now (broke.NoSuchMessage number) is broken =
    inr (record { story = story nodes events; tells = told_story input nodes events is; halted = broken.0; written = broken.1 })
broken_story (Some input) rest nodes events before now broke.Write is broken =
    inr (record { story = story nodes events; tells = told_story input nodes events is; written = broken })
broken_story (Some input) rest nodes events before now broke.Memory is broken =
    inr (inl (record { story = story nodes events; tells = told_story input nodes events is; written = broken }))

-- ---- disks

pub disks_left : (left : Option (List ℕ)) (script : Script) (disks : List DiskValue) → IfSome left (λ text. IsScript text script)
    → AreDisksLeft script disks → IfSome left (λ input. LeavesDisks input disks)
disks_left None script disks is are = tt
disks_left (Some input) script disks is are = (script, is, are)

pub pair_handed : (left : Option (List ℕ)) (protocol : Protocol) (events : List Numbered) (disks : List DiskValue) (before now : Option
    (List ℕ))
    (cause : PlayFault) → IfSome left (λ text. IsScript text (Pair protocol events))
    → BreaksOff (play (starting_pair protocol) events) before now cause
    → disks ≡ [] → IfSome left (λ input. HandsOut input disks (unplayed_fault cause))
pair_handed None protocol events disks before now cause is broken none = tt
pair_handed (Some input) protocol events disks before now (broke.NoSuchName number) is broken none = absurd broken
pair_handed (Some input) protocol events disks before now (broke.NoSuchMessage number) is broken none = (Pair protocol events, is, none)
pair_handed (Some input) protocol events disks before now broke.Write is broken none = none
pair_handed (Some input) protocol events disks before now broke.Memory is broken none = none

pub world_handed : (left : Option (List ℕ)) (nodes : ℕ) (events : List NumberedEvent) (old new : List DiskValue) (cause : PlayFault)
    → IfSome left (λ text. IsScript text (World nodes events)) → IsHandedOut (story nodes events).last old new cause → old ≡ []
    → IfSome left (λ input. HandsOut input new (unplayed_fault cause))
world_handed None nodes events old new cause is handed none = tt
world_handed (Some input) nodes events old new (broke.NoSuchName number) is handed none = (World nodes events, is, handed)
world_handed (Some input) nodes events old new (broke.NoSuchMessage number) is handed none = (World nodes events, is, handed)
world_handed (Some input) nodes events old new broke.Write is handed none = handed ∙ none
world_handed (Some input) nodes events old new broke.Memory is handed none = handed ∙ none

-- without a halt none are handed out
pub none_handed_out : (p : WorldOnDisks) (old new : List DiskValue) (cause : PlayFault) → IsHandedOut p old new cause → old ≡ []
    → is_halt (unplayed_fault cause) ≡ false → new ≡ []
none_handed_out p old new (broke.NoSuchName number) handed none no_halt = absurd cc
none_handed_out p old new (broke.NoSuchMessage number) handed none no_halt = absurd cc
none_handed_out p old new broke.Write handed none no_halt = handed ∙ none
none_handed_out p old new broke.Memory handed none no_halt = handed ∙ none

pub unread_handed : (left : Option (List ℕ)) (disks : List DiskValue) (cause : ScriptFault) → disks ≡ []
    → IfSome left (λ input. HandsOut input disks (unread_fault cause))
unread_handed None disks cause none = tt
unread_handed (Some input) disks (script.BadLine number column) none = none
unread_handed (Some input) disks script.TooManyLines none = none
unread_handed (Some input) disks script.Read none = none
unread_handed (Some input) disks script.Memory none = none

-- a script wasn't read
pub unread_script : (left rest w : Option (List ℕ)) (cause : ScriptFault)
    → IfSome left (λ text. ExplainsFault text cause) → IfSome left (λ text. TakesAtMost left rest (most_until_fault text cause))
    → IfSome left (λ input. StopsReplay input rest w w (unread_fault cause))
unread_script None rest w cause why taken = tt
unread_script (Some input) rest w (script.BadLine number column) why taken =
    record { bad = why; kept = keeps_same w; taken = taken }
unread_script (Some input) rest w script.TooManyLines why taken = record { long = why; kept = keeps_same w; taken = taken }
unread_script (Some input) rest w script.Read why taken = keeps_same w
unread_script (Some input) rest w script.Memory why taken = inr (inr (keeps_same w))
