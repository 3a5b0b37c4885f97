-- Believe: the command lines.
use Rattle.std.specs.Prelude.{◌≡◌, ℕ, List, [], ◌∷◌, codes}
use Rattle.ba.specs.declared.command.Command.{Command}
use Rattle.ba.specs.declared.command.Command.TheVariants.{Replay, Check, Journal}

-- the word of each command
abbrev pub word_of : Command → List ℕ
word_of Replay = codes "replay"
word_of Check = codes "check"
word_of Journal = codes "journal"

-- the words ask for this command: its word and nothing more
abbrev pub AsksFor : Command → List (List ℕ) → Type 0
AsksFor command words = words ≡ word_of command ∷ []

-- the words are a command line
abbrev pub IsCommandLine : List (List ℕ) → Type 0
IsCommandLine words = (command : Command) × AsksFor command words

-- the words ask for a command of which this holds
abbrev pub ByCommand : List (List ℕ) → (Command → Type 0) → Type 0
ByCommand words Holds = (command : Command) × AsksFor command words × Holds command
