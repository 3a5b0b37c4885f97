-- Believe: this is how elements hold endpoint references (WS-Addressing 1.0 Core, section 2.2).
use Rattle.std.specs.Prelude.{◌≡◌, ℕ, Bool, not, List, [], ◌∷◌, Option, Some, None, Result, Ok, Err, if◌then◌else◌, filter, map, codes}
use Rattle.ba_tree.specs.declared.trees.Tree.{Tree}
use Rattle.ba_tree.specs.declared.trees.Name.{Name}
use Rattle.ba_tree.specs.declared.trees.Content.{Content}
use Rattle.ba_tree.specs.declared.trees.Content.TheVariants.{Child, Text}
use Rattle.ba_message.specs.declared.endpoints.Epr.{Epr}
use Rattle.ba_message.specs.Endpoints.{marks_parameter}
use Rattle.ba_tree.specs.Namespaces.{wsa_space}
use Rattle.ba_soap_shapes.specs.declared.shapes.Misfit.{Misfit}
use Rattle.ba_soap_shapes.specs.declared.shapes.Space.TheVariants as space
use Rattle.ba_soap_shapes.specs.declared.shapes.Why.{Why}
use Rattle.ba_soap_shapes.specs.declared.shapes.Why.TheVariants.{Mismatch, Limit}
use Rattle.ba_soap_shapes.specs.declared.endpoints.EprFault.{EprFault}
use Rattle.ba_soap_shapes.specs.declared.endpoints.EprFault.TheVariants as fault
use Rattle.ba_soap_shapes.specs.declared.forms.Plain.{Plain}
use Rattle.ba_soap_shapes.specs.declared.forms.Plain.TheVariants as plain
use Rattle.ba_soap_shapes.specs.Elements.{Found, children, first_child, text_of}
use Rattle.ba_message.specs.Endpoints.{fits_endpoint}
use Rattle.ba_soap_shapes.specs.Forms.{plain_look}
use Rattle.ba_soap_shapes.specs.Shapes.{Line, Look, limit_at, names, optional_child, required_child, rows_misfit}

-- ---- the shape

abbrev pub address_line : Line Plain
address_line = required_child space.Addressing (codes "Address") plain.Text

abbrev pub parameters_line : Line Plain
parameters_line = optional_child space.Addressing (codes "ReferenceParameters") plain.Skipped

abbrev pub metadata_line : Line Plain
metadata_line = optional_child space.Addressing (codes "Metadata") plain.Skipped

abbrev pub endpoint_lines : List (Line Plain)
endpoint_lines = address_line ∷ parameters_line ∷ metadata_line ∷ []

-- ---- what it means

abbrev pub found_tree : Option Found → Option Tree
found_tree None = None
found_tree (Some found) = Some found.tree

-- the first child that a row names
abbrev pub child_at : {F : Type 0} → Line F → Tree → Option Tree
child_at row t = found_tree (first_child (names row t) 0 t.content)

abbrev pub text_in : Option Tree → List ℕ
text_in None = []
text_in (Some t) = text_of t

-- its text; none where there is no such child
abbrev pub text_at : {F : Type 0} → Line F → Tree → List ℕ
text_at row t = text_in (child_at row t)

abbrev pub children_in : Option Tree → List Tree
children_in None = []
children_in (Some t) = children t.content

-- an element without the attribute that marks a parameter
abbrev pub unmarked_tree : Tree → Tree
unmarked_tree t = record { name = t.name; attributes = filter (λ a. not (marks_parameter a)) t.attributes; content = t.content }

abbrev pub endpoint_of : Tree → Epr
endpoint_of t = record { address = text_at address_line t; parameters = map unmarked_tree (children_in (child_at parameters_line t)) }

abbrev pub misfit_unless_fit : Bool → Option Misfit → ℕ → Option Misfit
misfit_unless_fit fits (Some misfit) n = Some misfit
misfit_unless_fit fits None n = if fits then None else Some (limit_at n)

-- an endpoint reference that has the shape and doesn't fit is one past the limits
abbrev pub endpoint_look : Look
endpoint_look n t = misfit_unless_fit (fits_endpoint (endpoint_of t)) (rows_misfit plain_look endpoint_lines n t) n

-- ---- the answer

abbrev pub fault_at : ℕ → Why → EprFault
fault_at n Mismatch = fault.Mismatch n
fault_at n Limit = fault.EprLimit

abbrev pub fault_of : Misfit → EprFault
fault_of m = fault_at m.number m.why

abbrev pub epr_answer_by : Option Misfit → Epr → Result Epr EprFault
epr_answer_by None e = Ok e
epr_answer_by (Some m) e = Err (fault_of m)

abbrev pub epr_answer : Tree → Result Epr EprFault
epr_answer t = epr_answer_by (endpoint_look 0 t) (endpoint_of t)

-- this answer, or want of memory
abbrev pub IsAnswer : {X : Type 0} → Result X EprFault → Result X EprFault → Type 0
IsAnswer expected (Err fault.Memory) = Unit {0}
IsAnswer expected answer = answer ≡ expected

-- ---- how it is written

abbrev pub wsa_name : List ℕ → Name
wsa_name l = record { space = wsa_space; local = l }

abbrev pub bare_element : Name → List Content → Tree
bare_element n content = record { name = n; attributes = []; content = content }

-- the element that holds the parameters
abbrev pub parameters_element : List Tree → Tree
parameters_element ps = bare_element (wsa_name (codes "ReferenceParameters")) (map Child ps)

abbrev pub parameters_content : List Tree → List Content
parameters_content [] = []
parameters_content (p ∷ more) = Child (parameters_element (p ∷ more)) ∷ []

abbrev pub endpoint_element : Name → Epr → Tree
endpoint_element n e = bare_element n (Child (bare_element (wsa_name (codes "Address")) (Text e.address ∷ []))
    ∷ parameters_content e.parameters)
