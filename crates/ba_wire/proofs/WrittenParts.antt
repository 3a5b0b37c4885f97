-- What is written piece by piece is what the definitions say: for the forms of writing.
use Rattle.std.proofs.Common.{◌≡◌, ℕ, List, [], ◌∷◌, ◌++◌, Result, Ok, Err, map, sym, ap, ◌∙◌, codes}
use Rattle.std.proofs.lemmas.List.{append_assoc, map-append}
use Rattle.std.specs.Prelude.{IfOk}
use Rattle.ba_core.specs.declared.memory.Memory.{Memory}
use Rattle.ba_message.specs.declared.messages.Context.{Context}
use Rattle.ba_soap_shapes.specs.Endpoints.{endpoint_element}
use Rattle.ba_tree.specs.declared.trees.Content.{Content}
use Rattle.ba_tree.specs.declared.trees.Content.TheVariants.{Child}
use Rattle.ba_tree.specs.declared.trees.Tree.{Tree}
use Rattle.ba_wire.specs.Elements.{context_parts, expires_part, text_in_element, type_part, wscoor_name}
use Rattle.ba_xml_writer.specs.OneText.{one_text}

in_order :
    (a k s : Tree) (more : List Tree) (x y z : Content) (p q r : List Content) → x ≡ Child a → y ≡ Child k → z ≡ Child s → p ≡ x ∷ []
    → q ≡ p ++ map Child more → r ≡ q ++ y ∷ [] → r ++ z ∷ [] ≡ map Child (a ∷ (more ++ (k ∷ s ∷ [])))
in_order a k s more x y z p q r is_a is_k is_s is_p is_q is_r =
    ap (λ l. l ++ z ∷ []) (is_r ∙ ap (λ l. l ++ y ∷ []) (is_q ∙ ap (λ l. l ++ map Child more) (is_p ∙ ap (λ c. c ∷ []) is_a)))
    ∙ (λ i. ((Child a ∷ [] ++ map Child more) ++ is_k i ∷ []) ++ is_s i ∷ [])
    ∙ ap (λ l. Child a ∷ l) (append_assoc (map Child more) (Child k ∷ []) (Child s ∷ []) ∙ sym (map-append Child more (k ∷ s ∷ [])))

pub context_in_order :
    (c : Context) (x y z : Content) (p q r : List Content) (all : Result (List Content) Memory)
    → x ≡ Child (text_in_element (wscoor_name (codes "Identifier")) c.identifier) → y ≡ Child (type_part c.kind)
    → z ≡ Child (endpoint_element (wscoor_name (codes "RegistrationService")) c.registration) → p ≡ x ∷ []
    → q ≡ p ++ map Child (expires_part c.expires) → r ≡ q ++ y ∷ [] → IfOk all (λ l. l ≡ r ++ z ∷ [])
    → IfOk all (λ l. l ≡ map Child (context_parts c))
context_in_order c x y z p q r (Ok all) is_x is_y is_z is_p is_q is_r is =
    is
    ∙ in_order (text_in_element (wscoor_name (codes "Identifier")) c.identifier) (type_part c.kind)
    (endpoint_element (wscoor_name (codes "RegistrationService")) c.registration) (expires_part c.expires) x y z p q r is_x is_y is_z is_p
    is_q is_r
context_in_order c x y z p q r (Err m) is_x is_y is_z is_p is_q is_r is = tt

pub text_of_same : (t u : Tree) (text : Result (List ℕ) Memory) → t ≡ u → IfOk text (λ x. x ≡ one_text t) → IfOk text (λ x. x ≡ one_text u)
text_of_same t u (Ok text) same is = is ∙ ap one_text same
text_of_same t u (Err m) same is = tt
