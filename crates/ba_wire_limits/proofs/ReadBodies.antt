-- What a body says, where it has its shape: its endpoint references fit, and its identifiers are there and bare: for the law
-- on what was read.
use Rattle.std.proofs.Common.{◌≡◌, ℕ, Bool, true, false, Option, Some, None, refl}
use Rattle.ba_message.specs.Endpoints.{Fits, fits_endpoint}
use Rattle.ba_message.proofs.FitTests.{fits_by_tests}
use Rattle.ba_soap_shapes.specs.declared.forms.Plain.TheVariants as plain
use Rattle.ba_soap_shapes.specs.declared.shapes.Misfit.{Misfit}
use Rattle.ba_soap_shapes.specs.Elements.{text_of}
use Rattle.ba_soap_shapes.specs.Endpoints.{child_at, endpoint_lines, endpoint_look, endpoint_of, misfit_unless_fit, text_in}
use Rattle.ba_soap_shapes.specs.Forms.{is_there, mismatch_unless, plain_look}
use Rattle.ba_soap_shapes.specs.Shapes.{rows_misfit}
use Rattle.ba_soap.specs.Elements.{is_bare_text}
use Rattle.ba_tree.specs.declared.trees.Tree.{Tree}
use Rattle.ba_wire.specs.declared.bodies.Body.{Body}
use Rattle.ba_wire.specs.declared.bodies.Body.TheVariants as body
use Rattle.ba_wire.specs.Bodies.{body_look, context_in, context_lines, context_of, coordination_context_line, coordinator_service_line}
use Rattle.ba_wire.specs.Bodies.{current_context_line, empty_context, endpoint_in, identifier_line, lines_of_body, message_of}
use Rattle.ba_wire.specs.Bodies.{part_look, participant_service_line, registration_service_line, value_or, whole_look}
use Rattle.ba_wire.specs.Envelopes.{ContextFits, EndpointsFit, has_bare_identifiers, is_bare_context}
use Rattle.ba_wire_limits.proofs.ReadShapes.{LineHolds, each_holds}
use Rattle.ba_wire_limits.proofs.ReadTexts.{text_is_bare}

-- ---- endpoint references

endpoint_fits : (n : ℕ) (t : Tree) → endpoint_look n t ≡ None → Fits (endpoint_of t)
endpoint_fits n t h = by (rows_misfit plain_look endpoint_lines n t) (fits_endpoint (endpoint_of t)) refl h
  where
    by : (m : Option Misfit) (b : Bool) → fits_endpoint (endpoint_of t) ≡ b → misfit_unless_fit b m n ≡ None
        → Fits (endpoint_of t)
    by (Some misfit) b e h = absurd (cc)
    by None true e h = fits_by_tests (endpoint_of t) e
    by None false e h = absurd (cc)

pub registration_fits : (o : Option Tree) → LineHolds part_look registration_service_line o → Fits (endpoint_in o)
registration_fits None h = absurd (cc)
registration_fits (Some t) h = endpoint_fits h.0 t h.1

participant_fits : (o : Option Tree) → LineHolds whole_look participant_service_line o → Fits (endpoint_in o)
participant_fits None h = absurd (cc)
participant_fits (Some t) h = endpoint_fits h.0 t h.1

coordinator_fits : (o : Option Tree) → LineHolds whole_look coordinator_service_line o → Fits (endpoint_in o)
coordinator_fits None h = absurd (cc)
coordinator_fits (Some t) h = endpoint_fits h.0 t h.1

-- ---- contexts

pub text_there : (t : Tree) (n : ℕ) → plain_look plain.Text n t ≡ None → is_there (text_of t) ≡ true
text_there t n h = by (is_there (text_of t)) h
  where
    by : (b : Bool) → mismatch_unless b n ≡ None → b ≡ true
    by true h = refl
    by false h = absurd (cc)

identifier_bare : (o : Option Tree) → LineHolds part_look identifier_line o → is_bare_text (text_in o) ≡ true
identifier_bare None h = absurd (cc)
identifier_bare (Some t) h = text_is_bare t (text_there t h.0 h.1)

pub record IsReadContext (t : Tree) : Type 0 where
  pub fits : Fits (context_of t).registration
  pub bare : is_bare_text (context_of t).identifier ≡ true

context_is_read : (n : ℕ) (t : Tree) → rows_misfit part_look context_lines n t ≡ None → IsReadContext t
context_is_read n t h =
    let lines = each_holds part_look context_lines n t h in
    record {
      fits = registration_fits (child_at registration_service_line t) lines.1.1.1.0;
      bare = identifier_bare (child_at identifier_line t) lines.0;
    }

-- ---- bodies

current_is_read : (o : Option Tree) → LineHolds whole_look current_context_line o
    → ContextFits (context_in o) × (is_bare_context (context_in o) ≡ true)
current_is_read None h = (tt, refl)
current_is_read (Some t) h = let is = context_is_read h.0 t h.1 in (is.fits, is.bare)

created_is_read : (o : Option Tree) → LineHolds whole_look coordination_context_line o
    → Fits (value_or empty_context (context_in o)).registration
    × (is_bare_text (value_or empty_context (context_in o)).identifier ≡ true)
created_is_read None h = absurd (cc)
created_is_read (Some t) h = let is = context_is_read h.0 t h.1 in (is.fits, is.bare)

pub body_is_read : (b : Body) (n : ℕ) (t : Tree) → body_look b n t ≡ None
    → EndpointsFit (message_of b t) × (has_bare_identifiers (message_of b t) ≡ true)
body_is_read body.Create n t h =
    let lines = each_holds whole_look (lines_of_body body.Create) n t h in
    current_is_read (child_at current_context_line t) lines.1.0
body_is_read body.Created n t h =
    let lines = each_holds whole_look (lines_of_body body.Created) n t h in
    created_is_read (child_at coordination_context_line t) lines.0
body_is_read body.Register n t h =
    let lines = each_holds whole_look (lines_of_body body.Register) n t h in
    (participant_fits (child_at participant_service_line t) lines.1.0, refl)
body_is_read body.Registered n t h =
    let lines = each_holds whole_look (lines_of_body body.Registered) n t h in
    (coordinator_fits (child_at coordinator_service_line t) lines.0, refl)
body_is_read body.Status n t h = (tt, refl)
body_is_read (body.Notice m) n t h = (tt, refl)
body_is_read body.Fault n t h = (tt, refl)
