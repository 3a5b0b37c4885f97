-- Believe: this is what an element says as a coordination context, and when a context is read back from its element
-- (WS-Coordination 1.2, section 2).
use Rattle.std.specs.Prelude.{◌≤◌, ℕ, Option, Some, None, Result, Ok, Err, IsTrue, is_some}
use Rattle.ba_message.specs.Endpoints.{Fits}
use Rattle.ba_message.specs.declared.messages.Context.{Context}
use Rattle.ba_soap_shapes.specs.declared.endpoints.EprFault.{EprFault}
use Rattle.ba_soap_shapes.specs.declared.forms.TheConstants.{MOST_NUMBER}
use Rattle.ba_soap_shapes.specs.declared.shapes.Misfit.{Misfit}
use Rattle.ba_soap_shapes.specs.Endpoints.{fault_of}
use Rattle.ba_soap_shapes.specs.Shapes.{rows_misfit}
use Rattle.ba_soap.specs.Elements.{is_bare_text}
use Rattle.ba_tree.specs.declared.trees.Tree.{Tree}
use Rattle.ba_wire.specs.Bodies.{context_lines, context_of, part_look}

abbrev pub context_answer_by : Option Misfit → Context → Result Context EprFault
context_answer_by None c = Ok c
context_answer_by (Some m) c = Err (fault_of m)

abbrev pub context_answer : Tree → Result Context EprFault
context_answer t = context_answer_by (rows_misfit part_look context_lines 0 t) (context_of t)

-- a context that is read back from its element
pub record IsPlainContext (c : Context) : Type 0 where
  pub known : IsTrue (is_some c.kind)
  pub fit : Fits c.registration
  pub named : IsTrue (is_bare_text c.identifier)

-- an Expires is a number of 32 bits, as the type has it
abbrev pub TimeFits : Option ℕ → Type 0
TimeFits None = Unit {0}
TimeFits (Some n) = n ≤ MOST_NUMBER
