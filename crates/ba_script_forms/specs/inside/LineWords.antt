-- Inside: what the words of a line that were looked at say, and the forms of the words that may come.
use Rattle.std.specs.Prelude.{◌≡◌, ℕ, ◌+◌, ◌^◌, ◌<◌, ◌≤◌, Option, None, Some, List, [], ◌∷◌, ◌++◌, codes, take, drop, length}
use Rattle.std.specs.Fmt.{decimal}
use Rattle.ba_core.specs.Texts.{id_text}
use Rattle.ba_core.specs.Words.{kind_word, protocol_word}
use Rattle.ba_pair.specs.declared.events.PairEvent.TheVariants as event
use Rattle.ba_world_events.specs.Events.{world_words, IsWritten, IsObject, IsCall, FitsUnder, under_words}
use Rattle.ba_script_forms.specs.Grammar.{words_of, the, name, a_call, a_kind, a_leave, a_message, a_node, a_protocol, a_side, a_time, a_verdict}
use Rattle.ba_script_forms.specs.Grammar.{an_act, an_image, number, Slot}
use Rattle.ba_script_forms.specs.Readings.{opening_words, IsPlayable, pair_words, IsPairWritten, forms_at}
use Rattle.ba_script_forms.specs.declared.line_words.LineWords.{LineWords}
use Rattle.ba_script_forms.specs.declared.line_words.LineWords.TheVariants as line
use Rattle.ba_script_forms.specs.declared.line_words.OpeningWords.{OpeningWords}
use Rattle.ba_script_forms.specs.declared.line_words.OpeningWords.TheVariants as opening
use Rattle.ba_script_forms.specs.declared.line_words.PairWords.{PairWords}
use Rattle.ba_script_forms.specs.declared.line_words.PairWords.TheVariants as pair
use Rattle.ba_script_forms.specs.declared.readings.Form.{Form}
use Rattle.ba_script_forms.specs.declared.readings.Form.TheVariants as form
use Rattle.ba_script_forms.specs.declared.world_words.WorldWords.{WorldWords}
use Rattle.ba_script_forms.specs.declared.world_words.WorldWords.TheVariants as world

-- ---- the line that chooses the form

abbrev pub opening_so_far : OpeningWords → List (List ℕ)
opening_so_far opening.Pair = codes "pair" ∷ []
opening_so_far opening.Nodes = codes "nodes" ∷ []
opening_so_far (opening.Whole f) = opening_words f

abbrev pub opening_left : OpeningWords → List (List Slot)
opening_left opening.Pair = (a_protocol ∷ []) ∷ []
opening_left opening.Nodes = (number 1 64 ∷ []) ∷ []
opening_left (opening.Whole f) = [] ∷ []

abbrev pub OpeningFits : OpeningWords → Type 0
OpeningFits opening.Pair = Unit {0}
OpeningFits opening.Nodes = Unit {0}
OpeningFits (opening.Whole f) = IsPlayable f

-- it is the first word alone
abbrev pub BeginsOpening : OpeningWords → Type 0
BeginsOpening opening.Pair = Unit {0}
BeginsOpening opening.Nodes = Unit {0}
BeginsOpening (opening.Whole f) = ⊥

-- ---- events of a pair

abbrev pub pair_so_far : PairWords → List (List ℕ)
pair_so_far pair.Act = codes "act" ∷ []
pair_so_far pair.Tick = codes "tick" ∷ []
pair_so_far pair.Choose = codes "choose" ∷ []
pair_so_far pair.Deliver = codes "deliver" ∷ []
pair_so_far (pair.Whole e) = pair_words e

abbrev pub pair_left : PairWords → List (List Slot)
pair_left pair.Act = (an_act ∷ []) ∷ []
pair_left pair.Tick = (a_side ∷ []) ∷ []
pair_left pair.Choose = (a_verdict ∷ []) ∷ []
pair_left pair.Deliver = (a_message ∷ []) ∷ []
pair_left (pair.Whole e) = [] ∷ []

abbrev pub PairFits : PairWords → Type 0
PairFits (pair.Whole e) = IsPairWritten e
PairFits words = Unit {0}

-- it is the first word alone
abbrev pub BeginsPair : PairWords → Type 0
BeginsPair pair.Act = Unit {0}
BeginsPair pair.Tick = Unit {0}
BeginsPair pair.Choose = Unit {0}
BeginsPair pair.Deliver = Unit {0}
BeginsPair (pair.Whole event.Complete) = Unit {0}
BeginsPair (pair.Whole e) = ⊥

-- ---- events of a world

abbrev pub world_so_far : WorldWords → List (List ℕ)
world_so_far world.Create = codes "create" ∷ []
world_so_far (world.CreateAt node) = codes "create" ∷ decimal node ∷ []
world_so_far (world.Created node kind) = codes "create" ∷ decimal node ∷ kind_word kind ∷ []
world_so_far (world.CreateUnder node kind) = codes "create" ∷ decimal node ∷ kind_word kind ∷ codes "under" ∷ []
world_so_far (world.CreatedUnder node kind id) =
    codes "create" ∷ decimal node ∷ kind_word kind ∷ codes "under" ∷ id_text id.0 ∷ []
world_so_far (world.CreatedCc node kind id) =
    codes "create" ∷ decimal node ∷ kind_word kind ∷ codes "under" ∷ id_text id.0 ∷ codes "cc" ∷ []
world_so_far (world.CreateExpires node kind under) =
    codes "create" ∷ decimal node ∷ kind_word kind ∷ (under_words under ++ (codes "expires" ∷ []))
world_so_far world.Join = codes "join" ∷ []
world_so_far (world.JoinAt node) = codes "join" ∷ decimal node ∷ []
world_so_far (world.JoinBy node protocol) = codes "join" ∷ decimal node ∷ protocol_word protocol ∷ []
world_so_far world.Tick = codes "tick" ∷ []
world_so_far world.Deliver = codes "deliver" ∷ []
world_so_far world.Act = codes "act" ∷ []
world_so_far (world.ActOf id) = codes "act" ∷ id_text id.0 ∷ []
world_so_far world.Ask = codes "ask" ∷ []
world_so_far world.Decide = codes "decide" ∷ []
world_so_far (world.DecideOf id) = codes "decide" ∷ id_text id.0 ∷ []
world_so_far world.Choose = codes "choose" ∷ []
world_so_far (world.ChooseOf id) = codes "choose" ∷ id_text id.0 ∷ []
world_so_far world.Complete = codes "complete" ∷ []
world_so_far world.Finish = codes "finish" ∷ []
world_so_far world.Leave = codes "leave" ∷ []
world_so_far (world.LeaveOf id) = codes "leave" ∷ id_text id.0 ∷ []
world_so_far world.Wait = codes "wait" ∷ []
world_so_far world.Crash = codes "crash" ∷ []
world_so_far world.CrashAt = codes "crashat" ∷ []
world_so_far (world.CrashAtNode node) = codes "crashat" ∷ decimal node ∷ []
world_so_far (world.CrashAtCall node call) = codes "crashat" ∷ decimal node ∷ decimal call ∷ []
world_so_far world.Fail = codes "fail" ∷ []
world_so_far (world.FailNode node) = codes "fail" ∷ decimal node ∷ []
world_so_far world.Open = codes "open" ∷ []
world_so_far (world.Whole e) = world_words e

-- a word before each of these forms
abbrev pub before_each : Slot → List (List Slot) → List (List Slot)
before_each slot [] = []
before_each slot (form ∷ forms) = (slot ∷ form) ∷ before_each slot forms

-- what may follow a new scope's kind
abbrev pub created_forms : List (List Slot)
created_forms =
    []
    ∷ (the (codes "expires") ∷ a_time ∷ [])
    ∷ (the (codes "under") ∷ name ∷ [])
    ∷ (the (codes "under") ∷ name ∷ the (codes "expires") ∷ a_time ∷ [])
    ∷ (the (codes "under") ∷ name ∷ the (codes "cc") ∷ [])
    ∷ (the (codes "under") ∷ name ∷ the (codes "cc") ∷ the (codes "expires") ∷ a_time ∷ [])
    ∷ []

-- what may follow the name of the scope above it
abbrev pub under_forms : List (List Slot)
under_forms =
    []
    ∷ (the (codes "expires") ∷ a_time ∷ [])
    ∷ (the (codes "cc") ∷ [])
    ∷ (the (codes "cc") ∷ the (codes "expires") ∷ a_time ∷ [])
    ∷ []

abbrev pub world_left : WorldWords → List (List Slot)
world_left world.Create = before_each a_node (before_each a_kind created_forms)
world_left (world.CreateAt node) = before_each a_kind created_forms
world_left (world.Created node kind) = created_forms
world_left (world.CreateUnder node kind) = before_each name under_forms
world_left (world.CreatedUnder node kind id) = under_forms
world_left (world.CreatedCc node kind id) = [] ∷ (the (codes "expires") ∷ a_time ∷ []) ∷ []
world_left (world.CreateExpires node kind under) = (a_time ∷ []) ∷ []
world_left world.Join = (a_node ∷ a_protocol ∷ name ∷ []) ∷ []
world_left (world.JoinAt node) = (a_protocol ∷ name ∷ []) ∷ []
world_left (world.JoinBy node protocol) = (name ∷ []) ∷ []
world_left world.Tick = (name ∷ []) ∷ []
world_left world.Deliver = (a_message ∷ []) ∷ []
world_left world.Act = (name ∷ an_act ∷ []) ∷ []
world_left (world.ActOf id) = (an_act ∷ []) ∷ []
world_left world.Ask = (name ∷ []) ∷ []
world_left world.Decide = (name ∷ a_verdict ∷ []) ∷ []
world_left (world.DecideOf id) = (a_verdict ∷ []) ∷ []
world_left world.Choose = (name ∷ a_verdict ∷ []) ∷ []
world_left (world.ChooseOf id) = (a_verdict ∷ []) ∷ []
world_left world.Complete = (name ∷ []) ∷ []
world_left world.Finish = (name ∷ []) ∷ []
world_left world.Leave = (name ∷ a_leave ∷ []) ∷ []
world_left (world.LeaveOf id) = (a_leave ∷ []) ∷ []
world_left world.Wait = (a_time ∷ []) ∷ []
world_left world.Crash = (a_node ∷ []) ∷ []
world_left world.CrashAt = (a_node ∷ a_call ∷ an_image ∷ []) ∷ []
world_left (world.CrashAtNode node) = (a_call ∷ an_image ∷ []) ∷ []
world_left (world.CrashAtCall node call) = (an_image ∷ []) ∷ []
world_left world.Fail = (a_node ∷ a_call ∷ []) ∷ []
world_left (world.FailNode node) = (a_call ∷ []) ∷ []
world_left world.Open = (a_node ∷ []) ∷ []
world_left (world.Whole e) = [] ∷ []

-- the numbers and names that were told are in their bounds
abbrev pub WorldFits : WorldWords → Type 0
WorldFits (world.CreateAt node) = node < 2 ^ 32
WorldFits (world.Created node kind) = node < 2 ^ 32
WorldFits (world.CreateUnder node kind) = node < 2 ^ 32
WorldFits (world.CreatedUnder node kind id) = (node < 2 ^ 32) × IsObject id
WorldFits (world.CreatedCc node kind id) = (node < 2 ^ 32) × IsObject id
WorldFits (world.CreateExpires node kind under) = (node < 2 ^ 32) × FitsUnder under
WorldFits (world.JoinAt node) = node < 2 ^ 32
WorldFits (world.JoinBy node protocol) = node < 2 ^ 32
WorldFits (world.ActOf id) = IsObject id
WorldFits (world.DecideOf id) = IsObject id
WorldFits (world.ChooseOf id) = IsObject id
WorldFits (world.LeaveOf id) = IsObject id
WorldFits (world.CrashAtNode node) = node < 2 ^ 32
WorldFits (world.CrashAtCall node call) = (node < 2 ^ 32) × IsCall call
WorldFits (world.FailNode node) = node < 2 ^ 32
WorldFits (world.Whole e) = IsWritten e
WorldFits words = Unit {0}

-- it is the first word alone
abbrev pub BeginsWorld : WorldWords → Type 0
BeginsWorld world.Create = Unit {0}
BeginsWorld world.Join = Unit {0}
BeginsWorld world.Tick = Unit {0}
BeginsWorld world.Deliver = Unit {0}
BeginsWorld world.Act = Unit {0}
BeginsWorld world.Ask = Unit {0}
BeginsWorld world.Decide = Unit {0}
BeginsWorld world.Choose = Unit {0}
BeginsWorld world.Complete = Unit {0}
BeginsWorld world.Finish = Unit {0}
BeginsWorld world.Leave = Unit {0}
BeginsWorld world.Wait = Unit {0}
BeginsWorld world.Crash = Unit {0}
BeginsWorld world.CrashAt = Unit {0}
BeginsWorld world.Fail = Unit {0}
BeginsWorld world.Open = Unit {0}
BeginsWorld words = ⊥

-- ---- any line

abbrev pub so_far : LineWords → List (List ℕ)
so_far (line.Nothing chosen) = []
so_far (line.Opening words) = opening_so_far words
so_far (line.Pair words) = pair_so_far words
so_far (line.World words) = world_so_far words

abbrev pub forms_left : LineWords → List (List Slot)
forms_left (line.Nothing chosen) = forms_at chosen
forms_left (line.Opening words) = opening_left words
forms_left (line.Pair words) = pair_left words
forms_left (line.World words) = world_left words

abbrev pub WordsFit : LineWords → Type 0
WordsFit (line.Nothing chosen) = Unit {0}
WordsFit (line.Opening words) = OpeningFits words
WordsFit (line.Pair words) = PairFits words
WordsFit (line.World words) = WorldFits words

-- the words may stand where this form was chosen before
abbrev pub WordsMayStand : Option Form → LineWords → Type 0
WordsMayStand chosen (line.Nothing here) = here ≡ chosen
WordsMayStand chosen (line.Opening words) = chosen ≡ None
WordsMayStand None (line.Pair words) = Unit {0}
WordsMayStand (Some (form.Pair protocol)) (line.Pair words) = Unit {0}
WordsMayStand (Some (form.World nodes)) (line.Pair words) = ⊥
WordsMayStand None (line.World words) = ⊥
WordsMayStand (Some (form.Pair protocol)) (line.World words) = ⊥
WordsMayStand (Some (form.World nodes)) (line.World words) = Unit {0}

-- the first so many bytes are the first word: all of them, or a space comes after them
pub record FirstWord (bytes : List ℕ) (n : ℕ) : Type 0 where
  pub within : n ≤ length bytes
  pub more : List (List ℕ)
  pub words : words_of bytes ≡ take n bytes ∷ more
  pub last : n ≡ length bytes → more ≡ []
  pub later : n < length bytes → more ≡ words_of (drop (n + 1) bytes)
