-- Believe: endpoint references: the length of their coding in a record, when two are equal, and when one fits into
-- the messages and records of a node.
use Rattle.std.specs.Prelude.{ℕ, Bool, not, ◌+◌, ◌≤◌, ◌&&◌, List, [], ◌∷◌, length, map, IsTrue, bytes_eq, nat_le}
use Rattle.std.specs.Cmp.Lexicographic.{pointwise}
use Rattle.std.specs.List.{list_all, list_any, sum_by}
use Rattle.ba_message.specs.declared.endpoints.Epr.{Epr}
use Rattle.ba_message.specs.declared.endpoints.TheConstants.{MOST_ENDPOINT_BYTES, MOST_PARAMETER_ATTRIBUTES, MOST_PARAMETER_LEVELS}
use Rattle.ba_message.specs.declared.endpoints.TheConstants.{MOST_PARAMETER_NAMESPACES, MOST_PARAMETERS, PARAMETER_MARK}
use Rattle.ba_tree.specs.declared.trees.Tree.{Tree}
use Rattle.ba_tree.specs.declared.trees.Attribute.{Attribute}
use Rattle.ba_tree.specs.Characters.{is_legal_text, has_bare_ends}
use Rattle.ba_tree.specs.Namespaces.{wsa_space}
use Rattle.ba_tree.specs.Lengths.{text_length, tree_length}
use Rattle.ba_tree.specs.Same.{same_tree}
use Rattle.ba_tree.specs.Trees.{joined, without, firsts, spaces_named, levels, most_attributes, is_fit_tree}

-- the address; the count of parameters in a byte, and the parameters
abbrev pub endpoint_length : Epr → ℕ
endpoint_length e = text_length e.address + (1 + sum_by tree_length e.parameters)

-- equal addresses, and equal parameters in the same order
abbrev pub same_epr : Epr → Epr → Bool
same_epr a b = bytes_eq a.address b.address && pointwise same_tree a.parameters b.parameters

-- ---- which endpoint references fit

-- the attribute by which a header block is marked as a parameter (WS-Addressing 1.0 SOAP Binding, section 3.3)
abbrev pub marks_parameter : Attribute → Bool
marks_parameter a = bytes_eq a.name.space wsa_space && bytes_eq a.name.local PARAMETER_MARK.now

-- the namespaces of some trees, each once
abbrev pub all_namespaces : List Tree → List (List ℕ)
all_namespaces ts = without [] (firsts (joined (map spaces_named ts)))

abbrev pub are_shallow : List Tree → Bool
are_shallow = list_all (λ t. nat_le (levels t) MOST_PARAMETER_LEVELS)

abbrev pub have_few_attributes : List Tree → Bool
have_few_attributes = list_all (λ t. nat_le (most_attributes t) MOST_PARAMETER_ATTRIBUTES)

-- no element that is a parameter is marked as one already
abbrev pub are_unmarked : List Tree → Bool
are_unmarked = list_all (λ t. not (list_any marks_parameter t.attributes))

pub record Fits (e : Epr) : Type 0 where
  pub size : endpoint_length e ≤ MOST_ENDPOINT_BYTES
  pub count : length e.parameters ≤ MOST_PARAMETERS
  pub depth : IsTrue (are_shallow e.parameters)
  pub attributes : IsTrue (have_few_attributes e.parameters)
  pub spaces : length (all_namespaces e.parameters) ≤ MOST_PARAMETER_NAMESPACES
  pub named : 1 ≤ length e.address
  pub bare : IsTrue (has_bare_ends e.address)
  pub legal : IsTrue (is_legal_text e.address)
  pub fit : IsTrue (list_all is_fit_tree e.parameters)
  pub unmarked : IsTrue (are_unmarked e.parameters)

-- the same as tests, in the same order
abbrev pub fit_tests : Epr → List Bool
fit_tests e =
    nat_le (endpoint_length e) MOST_ENDPOINT_BYTES
    ∷ nat_le (length e.parameters) MOST_PARAMETERS
    ∷ are_shallow e.parameters
    ∷ have_few_attributes e.parameters
    ∷ nat_le (length (all_namespaces e.parameters)) MOST_PARAMETER_NAMESPACES
    ∷ nat_le 1 (length e.address)
    ∷ has_bare_ends e.address
    ∷ is_legal_text e.address
    ∷ list_all is_fit_tree e.parameters
    ∷ are_unmarked e.parameters
    ∷ []

abbrev pub all_true : List Bool → Bool
all_true = list_all (λ test. test)

-- all of them pass; a law says that this is so exactly where the endpoint reference fits
unfoldable pub fits_endpoint : Epr → Bool
fits_endpoint e = all_true (fit_tests e)
