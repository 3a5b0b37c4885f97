-- A context is read back from its element: for the clause of `tree_of_context` and the law on messages.
use Rattle.std.proofs.Common.{◌≡◌, ℕ, true, List, [], ◌∷◌, Option, Some, None, Result, Ok, Err, filter, refl, sym, ap, ◌∙◌, subst, codes}
use Rattle.std.specs.Prelude.{IfOk, is_some}
use Rattle.std.specs.Cmp.{first_so, second_so}
use Rattle.std.specs.Fmt.{decimal}
use Rattle.ba_core.specs.declared.memory.Memory.{Memory}
use Rattle.ba_core.specs.declared.protocols.Kind.{Kind}
use Rattle.ba_core.specs.declared.protocols.Kind.TheVariants.{Atomic, Mixed}
use Rattle.ba_message.specs.declared.endpoints.Epr.{Epr}
use Rattle.ba_message.specs.declared.messages.Context.{Context}
use Rattle.ba_soap_shapes.specs.declared.forms.Plain.TheVariants as plain
use Rattle.ba_soap_shapes.specs.Elements.{text_of}
use Rattle.ba_soap_shapes.specs.Endpoints.{child_at, endpoint_element, text_at, text_in}
use Rattle.ba_soap_shapes.specs.Forms.{is_number, is_there, mismatch_unless, plain_look}
use Rattle.ba_soap_shapes.specs.Shapes.{Line, Look, names, rows_misfit}
use Rattle.ba_soap_shapes.proofs.WrittenEndpoints.{endpoint_holds, endpoint_is, text_alone}
use Rattle.ba_soap_shapes.proofs.WrittenShapes.{Fine, child_is, head_of, rows_hold}
use Rattle.ba_soap.specs.Elements.{is_bare_text}
use Rattle.ba_tree.specs.Characters.{has_bare_ends}
use Rattle.ba_tree.specs.declared.trees.Name.{Name}
use Rattle.ba_tree.specs.declared.trees.Tree.{Tree}
use Rattle.ba_wire.specs.Bodies.{context_lines, context_of, coordination_type_line, endpoint_at, endpoint_in, expires_line, identifier_line}
use Rattle.ba_wire.specs.Bodies.{kind_of, number_at, number_by, number_in, part_look, registration_service_line}
use Rattle.ba_wire.specs.declared.forms.Part.{Part}
use Rattle.ba_wire.specs.Contexts.{IsPlainContext, TimeFits, context_answer, context_answer_by}
use Rattle.ba_wire.specs.Elements.{context_element, context_parts, expires_part, kind_uri, text_in_element, type_part, wscoor_name}
use Rattle.ba_wire.proofs.WrittenNumbers.{bare_number, read_number, written_number}

-- ---- texts and numbers

module _ (n : Name) (text : List ℕ) (bare : is_bare_text text ≡ true) where
  pub text_is : text_of (text_in_element n text) ≡ text
  text_is = text_alone n text (second_so (is_there text) (has_bare_ends text) bare)

  pub text_fine : (k : ℕ) → plain_look plain.Text k (text_in_element n text) ≡ None
  text_fine k = ap (λ t. mismatch_unless (is_there t) k) text_is
      ∙ ap (λ b. mismatch_unless b k) (first_so (is_there text) (has_bare_ends text) bare)

module _ (name : Name) (n : ℕ) (small : TimeFits (Some n)) where
  number_text : text_of (text_in_element name (decimal n)) ≡ decimal n
  number_text = text_alone name (decimal n) (bare_number n small)

  pub number_fine : (k : ℕ) → plain_look plain.Number k (text_in_element name (decimal n)) ≡ None
  number_fine k = ap (λ t. mismatch_unless (is_number t) k) number_text ∙ ap (λ b. mismatch_unless b k) (written_number n small)

  pub number_is : number_in (Some (text_in_element name (decimal n))) ≡ Some n
  number_is =
      ap (λ t. number_by (is_number t) t) number_text ∙ ap (λ b. number_by b (decimal n)) (written_number n small)
      ∙ ap (λ k. Some k) (read_number n small)

pub expires_read : (x : Option ℕ) → TimeFits x → number_in (head_of (expires_part x)) ≡ x
expires_read None small = refl
expires_read (Some n) small = number_is (wscoor_name (codes "Expires")) n small

-- the URI of a coordination type that is known
pub kind_bare : (kind : Option Kind) → is_some kind ≡ true → is_bare_text (kind_uri kind) ≡ true
kind_bare None known = cc
kind_bare (Some Atomic) known = refl
kind_bare (Some Mixed) known = refl

pub kind_is : (kind : Option Kind) → is_some kind ≡ true → kind_of (kind_uri kind) ≡ kind
kind_is None known = cc
kind_is (Some Atomic) known = refl
kind_is (Some Mixed) known = refl

pub kind_fine : (kind : Option Kind) → is_some kind ≡ true → (k : ℕ) → plain_look plain.Text k (type_part kind) ≡ None
kind_fine kind known = text_fine (wscoor_name (codes "CoordinationType")) (kind_uri kind) (kind_bare kind known)

pub kind_read : (kind : Option Kind) → is_some kind ≡ true → kind_of (text_of (type_part kind)) ≡ kind
kind_read kind known =
    ap kind_of (text_is (wscoor_name (codes "CoordinationType")) (kind_uri kind) (kind_bare kind known)) ∙ kind_is kind known

-- the children that a line names are fine, where they are these
pub fine_by : {F : Type 0} (look : F → Look) (line : Line F) (found these : List Tree) → found ≡ these → Fine look line these
    → Fine look line found
fine_by look line found these is fine = subst (Fine look line) (sym is) fine

-- ---- the children of a context, with or without an Expires: they are found by computing

module _ (local identifier : List ℕ) (kind : Option Kind) (service : Epr) where
  abbrev context_with : Option ℕ → Context
  context_with x = record { identifier = identifier; expires = x; kind = kind; registration = service }

  abbrev held : Option ℕ → Tree
  held x = context_element local (context_with x)

  abbrev named : {F : Type 0} → Line F → Option ℕ → List Tree
  named line x = filter (names line (held x)) (context_parts (context_with x))

  abbrev identifier_child : Tree
  identifier_child = text_in_element (wscoor_name (codes "Identifier")) identifier

  abbrev service_child : Tree
  service_child = endpoint_element (wscoor_name (codes "RegistrationService")) service

  are_named :
      (x : Option ℕ)
      → (named identifier_line x ≡ identifier_child ∷ []) × (named expires_line x ≡ expires_part x)
      × (named coordination_type_line x ≡ type_part kind ∷ []) × (named registration_service_line x ≡ service_child ∷ [])
  are_named None = (refl, refl, refl, refl)
  are_named (Some n) = (refl, refl, refl, refl)

expires_fine : (x : Option ℕ) → TimeFits x → Fine part_look expires_line (expires_part x)
expires_fine None small = refl
expires_fine (Some n) small = number_fine (wscoor_name (codes "Expires")) n small

module _ (local : List ℕ) (c : Context) (is_plain : IsPlainContext c) (small : TimeFits c.expires) where
  abbrev t : Tree
  t = context_element local c

  abbrev named_by : Line Part → List Tree
  named_by line = filter (names line t) (context_parts c)

  abbrev identifier_part : Tree
  identifier_part = text_in_element (wscoor_name (codes "Identifier")) c.identifier

  abbrev service_part : Tree
  service_part = endpoint_element (wscoor_name (codes "RegistrationService")) c.registration

  found :
      (named_by identifier_line ≡ identifier_part ∷ []) × (named_by expires_line ≡ expires_part c.expires)
      × (named_by coordination_type_line ≡ type_part c.kind ∷ []) × (named_by registration_service_line ≡ service_part ∷ [])
  found = are_named local c.identifier c.kind c.registration c.expires

  abbrev at : Line Part → Option Tree
  at line = child_at line t

  identifier_fine : Fine part_look identifier_line (named_by identifier_line)
  identifier_fine =
      fine_by part_look identifier_line (named_by identifier_line) (identifier_part ∷ []) found.0
      (text_fine (wscoor_name (codes "Identifier")) c.identifier is_plain.named)

  time_fine : Fine part_look expires_line (named_by expires_line)
  time_fine = fine_by part_look expires_line (named_by expires_line) (expires_part c.expires) found.1 (expires_fine c.expires small)

  type_fine : Fine part_look coordination_type_line (named_by coordination_type_line)
  type_fine =
      fine_by part_look coordination_type_line (named_by coordination_type_line) (type_part c.kind ∷ []) found.2
      (kind_fine c.kind is_plain.known)

  service_fine : Fine part_look registration_service_line (named_by registration_service_line)
  service_fine =
      fine_by part_look registration_service_line (named_by registration_service_line) (service_part ∷ []) found.3
      (endpoint_holds (wscoor_name (codes "RegistrationService")) c.registration is_plain.fit)

  pub context_holds : (k : ℕ) → rows_misfit part_look context_lines k (context_element local c) ≡ None
  context_holds k =
      rows_hold part_look context_lines k t (context_parts c) refl (identifier_fine, (time_fine, (type_fine, (service_fine, tt))))

  first_is : (line : Line Part) (these : List Tree) → named_by line ≡ these → at line ≡ head_of these
  first_is line these is = child_is line t (context_parts c) refl ∙ ap head_of is

  pub context_is : context_of (context_element local c) ≡ c
  context_is =
      let identifier : text_at identifier_line t ≡ c.identifier =
      ap text_in (first_is identifier_line (identifier_part ∷ []) found.0)
      ∙ text_is (wscoor_name (codes "Identifier")) c.identifier is_plain.named in
      let expires : number_at expires_line t ≡ c.expires = ap number_in (first_is expires_line (expires_part c.expires) found.1)
      ∙ expires_read c.expires small in
      let kind : kind_of (text_at coordination_type_line t) ≡ c.kind =
      ap (λ o. kind_of (text_in o)) (first_is coordination_type_line (type_part c.kind ∷ []) found.2) ∙ kind_read c.kind is_plain.known in
      let service : endpoint_at registration_service_line t ≡ c.registration =
      ap endpoint_in (first_is registration_service_line (service_part ∷ []) found.3)
      ∙ endpoint_is (wscoor_name (codes "RegistrationService")) c.registration is_plain.fit in
      λ i. record { identifier = identifier i; expires = expires i; kind = kind i; registration = service i }

  pub context_reads_back : context_answer (context_element local c) ≡ Ok c
  context_reads_back = λ i. context_answer_by (context_holds 0 i) (context_is i)

pub ok_reads_back :
    (local : List ℕ) (c : Context) → IsPlainContext c → (r : Result Tree Memory) → IfOk r (λ t. t ≡ context_element local c)
    → TimeFits c.expires
    → IfOk r (λ t. context_answer t ≡ Ok c)
ok_reads_back local c plain (Ok t) is small = ap context_answer is ∙ context_reads_back local c plain small
ok_reads_back local c plain (Err m) is small = tt
