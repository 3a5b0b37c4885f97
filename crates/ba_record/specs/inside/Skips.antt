-- Inside: an endpoint of few levels, and what is passed over of one of any levels.
use Rattle.std.specs.Prelude.{ℕ, zero, suc, List}
use Rattle.std.specs.Int.{w16}
use Rattle.ba_message.specs.declared.endpoints.Epr.{Epr}
use Rattle.ba_message.specs.declared.endpoints.TheConstants.{MOST_ENDPOINT_BYTES, MOST_PARAMETER_LEVELS}
use Rattle.ba_tree.specs.declared.trees.Content.{Content}
use Rattle.ba_tree.specs.declared.trees.Tree.{Tree}
use Rattle.ba_record.specs.Reading.{Reading, read, bad, onward, read_byte, read_number, read_string, read_many, read_name, read_attributes}
use Rattle.ba_record.specs.Reading.{read_content, read_tree}

-- ---- an endpoint of few levels

-- a count of one byte, and so many trees of at most so many levels
abbrev pub read_parameters : ℕ → List ℕ → Reading (List Tree)
read_parameters levels bytes = onward (read_byte bytes) (read_many (read_tree levels))

-- the address and the parameters, each of at most as many levels as those of an endpoint that fits
abbrev pub read_shallow_endpoint : List ℕ → Reading Epr
read_shallow_endpoint bytes =
    onward (read_string bytes) (λ address rest.
    onward (read_parameters MOST_PARAMETER_LEVELS rest) (λ parameters after.
    read (record { address = address; parameters = parameters }) after))

-- ---- passing over an endpoint

-- where a reading ends, without its value
abbrev pub without_value : {A : Type 0} → Reading A → Reading (Unit {0})
without_value reading = onward reading (λ a rest. read tt rest)

-- the content of an element: so many texts and trees, one after another
abbrev pub read_pieces : ℕ → List ℕ → Reading (List Content)
read_pieces = read_many (read_content (read_tree MOST_ENDPOINT_BYTES))

-- of an element what comes before its content: how many pieces that has
abbrev pub read_tree_head : List ℕ → Reading ℕ
read_tree_head bytes = onward (read_name bytes) (λ name rest. onward (read_attributes rest) (λ attributes more. read_number w16 more))

-- of a piece the whole text, or the head of the element: how many pieces are still to come in it
abbrev pub head_of : ℕ → List ℕ → List ℕ → Reading ℕ
head_of zero from rest = onward (read_string rest) (λ text after. read 0 after)
head_of (suc zero) from rest = read_tree_head rest
head_of _ from rest = bad from

abbrev pub read_piece_head : List ℕ → Reading ℕ
read_piece_head bytes = onward (read_byte bytes) (λ byte rest. head_of byte bytes rest)
