-- Believe: the forms of a script's lines, word by word, and the column of the first word that no form allows.
use Rattle.std.specs.Prelude.{ℕ, ◌+◌, ◌-◌, Bool, true, false, ◌&&◌, ◌||◌, nat_eq, nat_le, if◌then◌else◌, Option, None, Some, List, [], ◌∷◌}
use Rattle.std.specs.Prelude.{length, codes}
use Rattle.std.specs.Cmp.Lexicographic.{pointwise}
use Rattle.std.specs.Fmt.{decimal}
use Rattle.std.specs.Str.Parse.{digits_value}
use Rattle.ba_ports.specs.Lines.{onto_first}

-- ---- words

-- the parts of bytes, between the bytes of this kind
abbrev pub parted : ℕ → List ℕ → List (List ℕ)
parted byte [] = [] ∷ []
parted byte (b ∷ bytes) = if nat_eq b byte then [] ∷ parted byte bytes else onto_first b (parted byte bytes)

-- the words of a line are parted by one space
abbrev pub words_of : List ℕ → List (List ℕ)
words_of line = parted 32 line

-- the word is one of these
abbrev pub is_one_of : List (List ℕ) → List ℕ → Bool
is_one_of [] word = false
is_one_of (w ∷ ws) word = pointwise nat_eq word w || is_one_of ws word

-- the word is how a number between these bounds is written
abbrev pub is_number_between : ℕ → ℕ → List ℕ → Bool
is_number_between least most word =
    pointwise nat_eq word (decimal (digits_value 10 word)) && (nat_le least (digits_value 10 word) && nat_le (digits_value 10 word) most)

-- the greatest numbers of 32 and of 64 bits
abbrev pub most_32 : ℕ
most_32 = 4294967295

abbrev pub most_64 : ℕ
most_64 = 18446744073709551615

-- the parts of an object's name are its node's number and its counter
abbrev pub are_name : List (List ℕ) → Bool
are_name [] = false
are_name (node ∷ []) = false
are_name (node ∷ counter ∷ []) = is_number_between 0 most_32 node && is_number_between 0 most_64 counter
are_name (node ∷ counter ∷ other ∷ others) = false

-- what one word of a form may be: one of these words, a number between bounds, or the name of an object
pub data Slot : Type 0 where
  one_of : List (List ℕ) → Slot
  number : ℕ → ℕ → Slot
  name : Slot

-- the word is such; names are parted by a dot
unfoldable pub fits : Slot → List ℕ → Bool
fits (one_of words) word = is_one_of words word
fits (number least most) word = is_number_between least most word
fits name word = are_name (parted 46 word)

abbrev pub the : List ℕ → Slot
the word = one_of (word ∷ [])

abbrev pub an_act : Slot
an_act =
    one_of (codes "completed" ∷ codes "closed" ∷ codes "canceled" ∷ codes "compensated" ∷ codes "fail" ∷ codes "exit"
    ∷ codes "cannotcomplete" ∷ [])

abbrev pub a_verdict : Slot
a_verdict = one_of (codes "close" ∷ codes "undo" ∷ [])

abbrev pub a_protocol : Slot
a_protocol = one_of (codes "pc" ∷ codes "cc" ∷ [])

abbrev pub a_kind : Slot
a_kind = one_of (codes "atomic" ∷ codes "mixed" ∷ [])

abbrev pub a_side : Slot
a_side = one_of (codes "c" ∷ codes "p" ∷ [])

abbrev pub a_leave : Slot
a_leave = one_of (codes "exit" ∷ codes "fail" ∷ codes "cannotcomplete" ∷ [])

abbrev pub an_image : Slot
an_image = one_of (codes "old" ∷ codes "new" ∷ codes "filled" ∷ codes "half" ∷ [])

-- a node's number and milliseconds have 32 bits, a message's number 64; a device call is numbered from 1
abbrev pub a_node : Slot
a_node = number 0 most_32

abbrev pub a_time : Slot
a_time = number 0 most_32

abbrev pub a_message : Slot
a_message = number 0 most_64

abbrev pub a_call : Slot
a_call = number 1 most_32

-- ---- forms

-- the first line that says something may choose what the script plays: a pair, or a world of 1 to 64 nodes
unfoldable pub opening_forms : List (List Slot)
opening_forms =
    (the (codes "pair") ∷ a_protocol ∷ [])
    ∷ (the (codes "nodes") ∷ number 1 64 ∷ [])
    ∷ []

-- the events of a pair
unfoldable pub pair_forms : List (List Slot)
pair_forms =
    (the (codes "act") ∷ an_act ∷ [])
    ∷ (the (codes "tick") ∷ a_side ∷ [])
    ∷ (the (codes "choose") ∷ a_verdict ∷ [])
    ∷ (the (codes "complete") ∷ [])
    ∷ (the (codes "deliver") ∷ a_message ∷ [])
    ∷ []

-- the events of a world
unfoldable pub world_forms : List (List Slot)
world_forms =
    (the (codes "create") ∷ a_node ∷ a_kind ∷ [])
    ∷ (the (codes "create") ∷ a_node ∷ a_kind ∷ the (codes "expires") ∷ a_time ∷ [])
    ∷ (the (codes "create") ∷ a_node ∷ a_kind ∷ the (codes "under") ∷ name ∷ [])
    ∷ (the (codes "create") ∷ a_node ∷ a_kind ∷ the (codes "under") ∷ name ∷ the (codes "expires") ∷ a_time ∷ [])
    ∷ (the (codes "create") ∷ a_node ∷ a_kind ∷ the (codes "under") ∷ name ∷ the (codes "cc") ∷ [])
    ∷ (the (codes "create") ∷ a_node ∷ a_kind ∷ the (codes "under") ∷ name ∷ the (codes "cc") ∷ the (codes "expires") ∷ a_time ∷ [])
    ∷ (the (codes "join") ∷ a_node ∷ a_protocol ∷ name ∷ [])
    ∷ (the (codes "tick") ∷ name ∷ [])
    ∷ (the (codes "deliver") ∷ a_message ∷ [])
    ∷ (the (codes "act") ∷ name ∷ an_act ∷ [])
    ∷ (the (codes "ask") ∷ name ∷ [])
    ∷ (the (codes "decide") ∷ name ∷ a_verdict ∷ [])
    ∷ (the (codes "choose") ∷ name ∷ a_verdict ∷ [])
    ∷ (the (codes "complete") ∷ name ∷ [])
    ∷ (the (codes "finish") ∷ name ∷ [])
    ∷ (the (codes "leave") ∷ name ∷ a_leave ∷ [])
    ∷ (the (codes "wait") ∷ a_time ∷ [])
    ∷ (the (codes "crash") ∷ a_node ∷ [])
    ∷ (the (codes "crashat") ∷ a_node ∷ a_call ∷ an_image ∷ [])
    ∷ (the (codes "fail") ∷ a_node ∷ a_call ∷ [])
    ∷ (the (codes "open") ∷ a_node ∷ [])
    ∷ []

-- ---- the first bad word

-- what these forms want after a word
abbrev pub left_after : List (List Slot) → List ℕ → List (List Slot)
left_after [] word = []
left_after ([] ∷ forms) word = left_after forms word
left_after ((slot ∷ slots) ∷ forms) word = if fits slot word then slots ∷ left_after forms word else left_after forms word

-- one of these forms wants no word more
abbrev pub some_ends : List (List Slot) → Bool
some_ends [] = false
some_ends ([] ∷ forms) = true
some_ends ((slot ∷ slots) ∷ forms) = some_ends forms

-- a word at this column is bad where no form is left after it; else what comes later may be
abbrev pub bad_or : List (List Slot) → ℕ → Option ℕ → Option ℕ
bad_or [] column later = Some column
bad_or (form ∷ forms) column later = later

-- the column of the first word that none of these forms allows, where the first of the words is at this column;
-- where a word is missing, one past the line's end
abbrev pub bad_word : List (List Slot) → List (List ℕ) → ℕ → Option ℕ
bad_word forms [] column = if some_ends forms then None else Some (column - 1)
bad_word forms (word ∷ words) column =
    bad_or (left_after forms word) column (bad_word (left_after forms word) words (column + length word + 1))
