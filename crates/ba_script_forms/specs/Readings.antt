-- Believe: what a line of a script says, and the column at which a line that says nothing of the kind is bad.
use Rattle.std.specs.Prelude.{◌≡◌, ℕ, ◌+◌, ◌^◌, ◌<◌, ◌≤◌, nat_eq, nat_lt, if◌then◌else◌, Option, None, Some, List, [], ◌∷◌, ◌++◌, length}
use Rattle.std.specs.Prelude.{codes}
use Rattle.std.specs.Fmt.{decimal}
use Rattle.ba_core.specs.Words.{act_word, protocol_word, verdict_word}
use Rattle.ba_core.specs.declared.protocols.Side.{Side}
use Rattle.ba_core.specs.declared.protocols.Side.TheVariants.{Coordinator, Participant}
use Rattle.ba_world_events.specs.Events.{world_words, IsWritten}
use Rattle.ba_pair.specs.declared.events.PairEvent.{PairEvent}
use Rattle.ba_pair.specs.declared.events.PairEvent.TheVariants as pair
use Rattle.ba_script_forms.specs.Grammar.{words_of, opening_forms, pair_forms, world_forms, Slot, bad_word}
use Rattle.ba_script_forms.specs.declared.readings.Form.{Form}
use Rattle.ba_script_forms.specs.declared.readings.Form.TheVariants as form
use Rattle.ba_script_forms.specs.declared.readings.Reading.{Reading}
use Rattle.ba_script_forms.specs.declared.readings.Reading.TheVariants.{Nothing, Opening, Pair, World}
use Rattle.ba_script_forms.specs.declared.readings.TheConstants.{MOST_BYTES}

-- the words by which a script's first line that says something chooses what it plays
abbrev pub opening_words : Form → List (List ℕ)
opening_words (form.Pair protocol) = codes "pair" ∷ protocol_word protocol ∷ []
opening_words (form.World nodes) = codes "nodes" ∷ decimal nodes ∷ []

-- a world has 1 to 64 nodes
abbrev pub IsPlayable : Form → Type 0
IsPlayable (form.Pair protocol) = Unit {0}
IsPlayable (form.World nodes) = (1 ≤ nodes) × (nodes ≤ 64)

abbrev pub side_word : Side → List ℕ
side_word Coordinator = codes "c"
side_word Participant = codes "p"

-- the words of an event of a pair
abbrev pub pair_words : PairEvent → List (List ℕ)
pair_words (pair.Act a) = codes "act" ∷ act_word a ∷ []
pair_words (pair.Tick side) = codes "tick" ∷ side_word side ∷ []
pair_words (pair.Choose v) = codes "choose" ∷ verdict_word v ∷ []
pair_words pair.Complete = codes "complete" ∷ []
pair_words (pair.Deliver number) = codes "deliver" ∷ decimal number ∷ []

-- a message's number has 64 bits
abbrev pub IsPairWritten : PairEvent → Type 0
IsPairWritten (pair.Deliver number) = number < 2 ^ 64
IsPairWritten e = Unit {0}

-- an empty line, or a remark
abbrev pub IsRemark : List ℕ → Type 0
IsRemark [] = Unit {0}
IsRemark (byte ∷ bytes) = byte ≡ 35

-- a line's bytes say this
abbrev pub Says : Reading → List ℕ → Type 0
Says Nothing line = IsRemark line
Says (Opening f) line = (words_of line ≡ opening_words f) × IsPlayable f
Says (Pair e) line = (words_of line ≡ pair_words e) × IsPairWritten e
Says (World e) line = (words_of line ≡ world_words e) × IsWritten e

-- what may be said where this form was chosen before, None where no line before says anything: only the first line
-- that says something may choose the form, and without such a line the script is of a pair
abbrev pub MayStand : Option Form → Reading → Type 0
MayStand chosen Nothing = Unit {0}
MayStand chosen (Opening f) = chosen ≡ None
MayStand None (Pair e) = Unit {0}
MayStand (Some (form.Pair protocol)) (Pair e) = Unit {0}
MayStand (Some (form.World nodes)) (Pair e) = ⊥
MayStand None (World e) = ⊥
MayStand (Some (form.Pair protocol)) (World e) = ⊥
MayStand (Some (form.World nodes)) (World e) = Unit {0}

-- a line of a script, where this form was chosen before
pub record IsLine (chosen : Option Form) (reading : Reading) (line : List ℕ) : Type 0 where
  pub short : length line ≤ MOST_BYTES
  pub stands : MayStand chosen reading
  pub says : Says reading line

-- the forms of the lines that say something there
abbrev pub forms_at : Option Form → List (List Slot)
forms_at None = opening_forms ++ pair_forms
forms_at (Some (form.Pair protocol)) = pair_forms
forms_at (Some (form.World nodes)) = world_forms

-- a remark is bad nowhere, other lines at the first word that no form allows
abbrev pub bad_unless_remark : Option Form → List ℕ → Option ℕ
bad_unless_remark chosen [] = None
bad_unless_remark chosen (byte ∷ bytes) = if nat_eq byte 35 then None else bad_word (forms_at chosen) (words_of (byte ∷ bytes)) 1

-- the column, from 1, at which a line is bad; a line that is too long is so at the first byte that is too much
abbrev pub bad_column : Option Form → List ℕ → Option ℕ
bad_column chosen line = if nat_lt MOST_BYTES (length line) then Some (MOST_BYTES + 1) else bad_unless_remark chosen line
