-- The test of an endpoint reference that fits says the same as the fact, and two that pass the test of equality are equal.
use Rattle.std.proofs.Common.{◌≡◌, Bool, true, ◌&&◌, List, [], ◌∷◌, length, ap, refl, sym, ◌∙◌, subst}
use Rattle.std.proofs.lemmas.Bool.{leb-true, le-leb}
use Rattle.std.specs.Cmp.{first_so, second_so}
use Rattle.std.specs.Cmp.Lexicographic.{pointwise, same_text, nat_list_eq_equiv}
use Rattle.std.specs.Str.{bytes_eq}
use Rattle.ba_message.specs.declared.endpoints.Epr.{Epr}
use Rattle.ba_message.specs.declared.endpoints.TheConstants.{MOST_ENDPOINT_BYTES, MOST_PARAMETER_NAMESPACES, MOST_PARAMETERS}
use Rattle.ba_message.specs.Endpoints.{Fits, all_namespaces, all_true, endpoint_length, fit_tests, fits_endpoint, same_epr}
use Rattle.ba_tree.specs.Same.{same_tree}
use Rattle.ba_tree.proofs.SameTrees.{lists_equal, list_itself, trees_equal, tree_itself}

-- each of these tests passes, as a pair of pairs
abbrev pub EachPasses : List Bool → Type 0
EachPasses [] = Unit {0}
EachPasses (test ∷ tests) = (test ≡ true) × EachPasses tests

pub each_true : (tests : List Bool) → all_true tests ≡ true → EachPasses tests
each_true [] h = tt
each_true (test ∷ tests) h = (first_so test (all_true tests) h, each_true tests (second_so test (all_true tests) h))

pub all_are : (tests : List Bool) → EachPasses tests → all_true tests ≡ true
all_are [] h = refl
all_are (test ∷ tests) h = ap (λ b. b && all_true tests) (h.0) ∙ all_are tests h.1

pub fits_by_tests : (e : Epr) → fits_endpoint e ≡ true → Fits e
unfolding fits_endpoint
fits_by_tests e h =
    let t = each_true (fit_tests e) h in
    record {
      size = leb-true (endpoint_length e) MOST_ENDPOINT_BYTES t.0;
      count = leb-true (length e.parameters) MOST_PARAMETERS t.1.0;
      depth = t.1.1.0;
      attributes = t.1.1.1.0;
      spaces = leb-true (length (all_namespaces e.parameters)) MOST_PARAMETER_NAMESPACES t.1.1.1.1.0;
      named = leb-true 1 (length e.address) t.1.1.1.1.1.0;
      bare = t.1.1.1.1.1.1.0;
      legal = t.1.1.1.1.1.1.1.0;
      fit = t.1.1.1.1.1.1.1.1.0;
      unmarked = t.1.1.1.1.1.1.1.1.1.0;
    }

pub tests_by_fits : (e : Epr) → Fits e → fits_endpoint e ≡ true
unfolding fits_endpoint
tests_by_fits e fits =
    let size = le-leb (endpoint_length e) MOST_ENDPOINT_BYTES fits.size in
    let count = le-leb (length e.parameters) MOST_PARAMETERS fits.count in
    let spaces = le-leb (length (all_namespaces e.parameters)) MOST_PARAMETER_NAMESPACES fits.spaces in
    let named = le-leb 1 (length e.address) fits.named in
    all_are (fit_tests e)
    (size, (count, (fits.depth, (fits.attributes, (spaces, (named, (fits.bare, (fits.legal, (fits.fit, (fits.unmarked, tt))))))))))

pub tells_fits : (e : Epr) → (fits_endpoint e ≡ true → Fits e) × (Fits e → fits_endpoint e ≡ true)
tells_fits e = (fits_by_tests e, tests_by_fits e)

pub endpoints_equal : (a b : Epr) → same_epr a b ≡ true → a ≡ b
endpoints_equal a b h =
    let addresses = first_so (bytes_eq a.address b.address) (pointwise same_tree a.parameters b.parameters) h in
    let parameters = second_so (bytes_eq a.address b.address) (pointwise same_tree a.parameters b.parameters) h in
    let address = same_text a.address b.address (sym addresses) in
    let all = lists_equal same_tree trees_equal a.parameters b.parameters parameters in
    λ i. record { address = address i; parameters = all i }

pub endpoint_itself : (a : Epr) → same_epr a a ≡ true
endpoint_itself a =
    ap (λ b. b && pointwise same_tree a.parameters a.parameters) (nat_list_eq_equiv.refl a.address)
    ∙ list_itself same_tree tree_itself a.parameters

pub tells_equal : (a b : Epr) → (same_epr a b ≡ true → a ≡ b) × (a ≡ b → same_epr a b ≡ true)
tells_equal a b = (endpoints_equal a b, λ e. subst (λ x. same_epr a x ≡ true) e (endpoint_itself a))
