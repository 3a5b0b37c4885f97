-- What is read of an endpoint with few levels is read alike with more of them, unless it ends too soon; and one that ends
-- too soon doesn't fit. For the clauses of `endpoint` and `ended_in`.
use Rattle.std.proofs.Common.{◌≡◌, ◌≢◌, ◌⊎◌, inl, inr, ℕ, zero, suc, ◌+◌, ◌<◌, ◌≤◌, Bool, true, false, nat_le, if◌then◌else◌, List, [], ◌∷◌}
use Rattle.std.proofs.Common.{◌++◌, length, map, take, drop, ap, refl, sym, ◌∙◌, subst, arith}
use Rattle.std.proofs.lemmas.Bool.{leb-true, le-leb, lt-leb}
use Rattle.std.specs.Cmp.{first_so, second_so}
use Rattle.std.specs.Int.{w16}
use Rattle.std.specs.List.{list_all}
use Rattle.ba_message.specs.declared.endpoints.Epr.{Epr}
use Rattle.ba_message.specs.declared.endpoints.TheConstants.{MOST_ENDPOINT_BYTES, MOST_PARAMETER_LEVELS}
use Rattle.ba_message.specs.Endpoints.{fits_endpoint}
use Rattle.ba_message.proofs.FitTests.{fits_by_tests}
use Rattle.ba_tree.specs.declared.trees.Content.{Content}
use Rattle.ba_tree.specs.declared.trees.Tree.{Tree}
use Rattle.ba_tree.specs.Trees.{greatest, levels, levels_of}
use Rattle.ba_tree.proofs.TreeLaws.{levels_in, levels_child}
use Rattle.ba_record.specs.Coding.{endpoint_coding}
use Rattle.ba_record.specs.Reading.{IsBytes, Reading, read, bad, short, onward, read_byte, read_number, read_string, read_many, read_name}
use Rattle.ba_record.specs.Reading.{read_attributes, content_of, read_content, read_contents, read_element, read_tree, read_any_endpoint}
use Rattle.ba_record.specs.Reading.{of_front, read_endpoint}
use Rattle.ba_record.specs.inside.Skips.{read_parameters, read_shallow_endpoint, without_value}
use Rattle.ba_record.proofs.Exact.{front_bytes, IsExact, Each, IsString, exact_count, exact_counted, exact_pair, exact_string}
use Rattle.ba_record.proofs.ExactTrees.{IsContent, IsTree, exact_any_endpoint, exact_tree}
use Rattle.ba_record.proofs.Onward.{all_of_few}

-- ---- with more levels

-- the second reading is the first one, or the first ends too soon
abbrev pub Extends : {A : Type 0} → Reading A → Reading A → Type 0
Extends r s = (r ≡ short) ⊎ (r ≡ s)

extends_onward : {A B : Type 0} (r s : Reading A) (f g : A → List ℕ → Reading B) → Extends r s
    → ((a : A) (rest : List ℕ) → Extends (f a rest) (g a rest)) → Extends (onward r f) (onward s g)
extends_onward r s f g (inl none) next = inl (ap (λ x. onward x f) none)
extends_onward (read a rest) s f g (inr same) next =
    elim (next a rest) [ inl e ↦ inl e | inr e ↦ inr (e ∙ ap (λ x. onward x g) same) ]
extends_onward (bad from) s f g (inr same) next = inr (ap (λ x. onward x g) same)
extends_onward short s f g (inr same) next = inl refl

module _ {A : Type 0} (f g : List ℕ → Reading A) (each : (bytes : List ℕ) → Extends (f bytes) (g bytes)) where
  extends_many : (n : ℕ) (bytes : List ℕ) → Extends (read_many f n bytes) (read_many g n bytes)
  extends_many zero bytes = inr refl
  extends_many (suc n) bytes =
      extends_onward (f bytes) (g bytes) _ _ (each bytes) (λ a rest.
      extends_onward (read_many f n rest) (read_many g n rest) _ _ (extends_many n rest) (λ more after. inr refl))

module _ (f g : List ℕ → Reading Tree) (each : (bytes : List ℕ) → Extends (f bytes) (g bytes)) where
  extends_piece : (bytes : List ℕ) (byte : ℕ) (rest : List ℕ) → Extends (content_of f byte bytes rest) (content_of g byte bytes rest)
  extends_piece bytes zero rest = inr refl
  extends_piece bytes (suc zero) rest = extends_onward (f rest) (g rest) _ _ (each rest) (λ child after. inr refl)
  extends_piece bytes (suc (suc n)) rest = inr refl

  extends_content : (bytes : List ℕ) → Extends (read_content f bytes) (read_content g bytes)
  extends_content bytes = extends_onward (read_byte bytes) (read_byte bytes) _ _ (inr refl) (extends_piece bytes)

  extends_element : (bytes : List ℕ) → Extends (read_element f bytes) (read_element g bytes)
  extends_element bytes =
      extends_onward (read_name bytes) (read_name bytes) _ _ (inr refl) (λ name rest.
      extends_onward (read_attributes rest) (read_attributes rest) _ _ (inr refl) (λ attributes more.
      extends_onward (read_contents f more) (read_contents g more) _ _
      (extends_onward (read_number w16 more) (read_number w16 more) _ _ (inr refl)
      (extends_many (read_content f) (read_content g) extends_content))
      (λ content after. inr refl)))

extends_tree : (m k : ℕ) (bytes : List ℕ) → Extends (read_tree m bytes) (read_tree (m + k) bytes)
unfolding read_tree
extends_tree zero k bytes = inl refl
extends_tree (suc m) k bytes =
    let more : suc (m + k) ≡ suc m + k = omega arith in
    subst (λ n. Extends (read_element (read_tree m) bytes) (read_tree n bytes)) more
    (extends_element (read_tree m) (read_tree (m + k)) (extends_tree m k) bytes)

extends_endpoint : (bytes : List ℕ) → Extends (read_shallow_endpoint bytes) (read_any_endpoint bytes)
extends_endpoint bytes =
    extends_onward (read_string bytes) (read_string bytes) _ _ (inr refl) (λ address rest.
    extends_onward (read_parameters MOST_PARAMETER_LEVELS rest) (read_parameters MOST_ENDPOINT_BYTES rest) _ _
    (extends_onward (read_byte rest) (read_byte rest) _ _ (inr refl)
    (extends_many (read_tree MOST_PARAMETER_LEVELS) (read_tree MOST_ENDPOINT_BYTES) (extends_tree MOST_PARAMETER_LEVELS 4080)))
    (λ parameters after. inr refl))

pub shallow_is_read : (bytes rest : List ℕ) (e : Epr) → read_shallow_endpoint bytes ≡ read e rest → read_any_endpoint bytes ≡ read e rest
shallow_is_read bytes rest e is = elim (extends_endpoint bytes) [ inl none ↦ cc | inr same ↦ sym same ∙ is ]

shallow_is_bad : (bytes from : List ℕ) → read_shallow_endpoint bytes ≡ bad from → read_any_endpoint bytes ≡ bad from
shallow_is_bad bytes from is = elim (extends_endpoint bytes) [ inl none ↦ cc | inr same ↦ sym same ∙ is ]

-- an endpoint that is bad with few levels is bad
pub shallow_bad_field : (field front from : List ℕ) → front ≡ take MOST_ENDPOINT_BYTES field → read_shallow_endpoint front ≡ bad from
    → read_endpoint field ≡ bad field
shallow_bad_field field front from is e = ap (of_front field) (ap read_any_endpoint (sym is) ∙ shallow_is_bad front from e)

-- ---- with few levels

narrow_content : (m n : ℕ) → ((t : Tree) → levels t ≤ m → IsTree n t → IsTree m t)
    → (c : Content) → levels_of c ≤ m → IsContent (IsTree n) c → IsContent (IsTree m) c
narrow_content m n narrow c few (inl is) = inl is
narrow_content m n narrow c few (inr is) =
    let below = ap levels_of is.2 ∙ levels_child is.0 in
    inr (is.0, narrow is.0 (omega arith) is.1, is.2)

narrow_contents : (m n : ℕ) → ((t : Tree) → levels t ≤ m → IsTree n t → IsTree m t)
    → (contents : List Content) → greatest (map levels_of contents) ≤ m → Each (IsContent (IsTree n)) contents
    → Each (IsContent (IsTree m)) contents
narrow_contents m n narrow [] few each = tt
narrow_contents m n narrow (c ∷ more) few each =
    (narrow_content m n narrow c (omega arith) each.0, narrow_contents m n narrow more (omega arith) each.1)

-- a tree of few levels is one also where only so many are allowed
narrow_tree : (m n : ℕ) (t : Tree) → levels t ≤ m → IsTree n t → IsTree m t
narrow_tree zero n t few is = absurd (let some = levels_in t in omega arith)
narrow_tree (suc m) zero t few is = absurd is
narrow_tree (suc m) (suc n) t few is =
    let some = levels_in t in
    record {
      named = is.named;
      few_attributes = is.few_attributes;
      attributes = is.attributes;
      few_content = is.few_content;
      content = narrow_contents m n (narrow_tree m n) t.content (omega arith) is.content;
    }

narrow_trees : (m n : ℕ) (ts : List Tree) → list_all (λ t. nat_le (levels t) m) ts ≡ true → Each (IsTree n) ts → Each (IsTree m) ts
narrow_trees m n [] few each = tt
narrow_trees m n (t ∷ more) few each =
    let here = first_so (nat_le (levels t) m) (list_all (λ x. nat_le (levels x) m) more) few in
    let rest = second_so (nat_le (levels t) m) (list_all (λ x. nat_le (levels x) m) more) few in
    (narrow_tree m n t (leb-true (levels t) m here) each.0, narrow_trees m n more rest each.1)

abbrev IsShallow : Epr → Type 0
IsShallow e = IsString e.address × ((length e.parameters < 256) × Each (IsTree MOST_PARAMETER_LEVELS) e.parameters)

exact_shallow : IsExact read_shallow_endpoint endpoint_coding IsShallow
exact_shallow = exact_pair exact_string (exact_counted (exact_tree MOST_PARAMETER_LEVELS) 256 exact_count)
    (λ address parameters. record { address = address; parameters = parameters }) (λ (e : Epr). e.address) (λ (e : Epr). e.parameters)
    (λ e. refl) (λ a b. refl) (λ a b. refl)

-- an endpoint that ends, but not with few levels, doesn't fit
too_deep : (bytes rest : List ℕ) (e : Epr) → IsBytes bytes → read_shallow_endpoint bytes ≡ short → read_any_endpoint bytes ≡ read e rest
    → fits_endpoint e ≡ false
too_deep bytes rest e are deep is = either (fits_endpoint e) refl
  where
    either : (test : Bool) → fits_endpoint e ≡ test → fits_endpoint e ≡ false
    either false unfit = unfit
    either true fits =
        let here = exact_any_endpoint.sound bytes rest e are is in
        let few = narrow_trees MOST_PARAMETER_LEVELS MOST_ENDPOINT_BYTES e.parameters (fits_by_tests e fits).depth here.0.1.1 in
        let ends : read_shallow_endpoint bytes ≡ read e rest =
        ap read_shallow_endpoint here.1 ∙ exact_shallow.complete e rest (here.0.0, (here.0.1.0, few)) in
        let both = sym deep ∙ ends in
        cc

-- what didn't end with few levels is bad, unless its bytes end inside it
pub deep_is_bad : (field : List ℕ) → IsBytes (take MOST_ENDPOINT_BYTES field)
    → read_shallow_endpoint (take MOST_ENDPOINT_BYTES field) ≡ short
    → (read_any_endpoint (take MOST_ENDPOINT_BYTES field) ≡ short → MOST_ENDPOINT_BYTES ≤ length field) → read_endpoint field ≡ bad field
deep_is_bad field are deep long = by_reading (read_any_endpoint (take MOST_ENDPOINT_BYTES field)) refl
  where
    by_reading : (reading : Reading Epr) → read_any_endpoint (take MOST_ENDPOINT_BYTES field) ≡ reading → of_front field reading ≡ bad field
    by_reading (read e rest) is =
        ap (λ (fits : Bool). elim fits as (λ x. Reading Epr) [ true ↦ read e (rest ++ drop MOST_ENDPOINT_BYTES field) | false ↦ bad field ])
        (too_deep (take MOST_ENDPOINT_BYTES field) rest e are deep is)
    by_reading (bad from) is = refl
    by_reading short is = ap (λ enough. if enough then bad field else short) (le-leb MOST_ENDPOINT_BYTES (length field) (long is))

-- it is short where its bytes end inside it
pub deep_is_short : (field : List ℕ) → length field < MOST_ENDPOINT_BYTES → read_any_endpoint field ≡ short → read_endpoint field ≡ short
deep_is_short field few is =
    let all : field ≡ take MOST_ENDPOINT_BYTES field = all_of_few MOST_ENDPOINT_BYTES field few in
    ap (of_front field) (ap read_any_endpoint (sym all) ∙ is)
    ∙ ap (λ enough. if enough then bad field else short) (lt-leb MOST_ENDPOINT_BYTES (length field) few)

-- it is bad where its bytes are few and it ends within them
pub deep_and_ended : (field : List ℕ) (ended : Reading (Unit {0})) → IsBytes field → length field < MOST_ENDPOINT_BYTES
    → read_shallow_endpoint (take MOST_ENDPOINT_BYTES field) ≡ short → without_value (read_any_endpoint field) ≡ ended → ended ≢ short
    → read_endpoint field ≡ bad field
deep_and_ended field ended are few deep is unlike =
    let all = all_of_few MOST_ENDPOINT_BYTES field few in
    deep_is_bad field (front_bytes MOST_ENDPOINT_BYTES field are) deep
    (λ none. absurd (unlike (sym is ∙ ap (λ (r : Reading Epr). without_value r) (ap read_any_endpoint all ∙ none))))
