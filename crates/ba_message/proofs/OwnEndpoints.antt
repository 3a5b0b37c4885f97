-- An address that can be dialed makes an endpoint reference that fits, without parameters: for the law on own endpoints.
use Rattle.std.proofs.Common.{inl, inr, ◌≡◌, ℕ, ◌+◌, ◌≤◌, true, not, ◌&&◌, List, [], ◌∷◌, ◌++◌, length, nat_le, codes}
use Rattle.std.proofs.Common.{◌==◌, refl, sym, ap, ◌∙◌, subst, arith}
use Rattle.std.proofs.lemmas.Bool.Decides.{nat_tests}
use Rattle.std.specs.Cmp.{first_so, second_so}
use Rattle.std.specs.List.{list_all}
use Rattle.std.specs.Str.Parse.{digits_value}
use Rattle.ba_message.specs.declared.addresses.TheConstants.{GREATEST_PORT}
use Rattle.ba_message.specs.declared.endpoints.Epr.{Epr}
use Rattle.ba_message.specs.Addresses.{IsDialable, IsPath, IsPort, is_host_byte, is_path_byte, is_port_number}
use Rattle.ba_message.specs.Endpoints.{Fits}
use Rattle.ba_message.specs.Letters.{IsOwnEndpoint}
use Rattle.ba_message.proofs.PlainTexts.{all_pass, and_both, is_plain, is_visible, plain_append, plain_is_bare, plain_is_legal}
use Rattle.ba_tree.specs.Characters.{is_within}
use Rattle.ba_tree.specs.Names.{is_digit}
use Rattle.ba_tree.specs.declared.trees.Tree.{Tree}

-- ---- the parts of an address are plain

host_visible : (b : ℕ) → is_host_byte b ≡ true → is_visible b ≡ true
host_visible b h = grind (arith, nat_tests)

digit_visible : (b : ℕ) → is_digit b ≡ true → is_visible b ≡ true
digit_visible b h = grind (arith, nat_tests)

leading_visible : (b : ℕ) → is_within 0x31 0x39 b ≡ true → is_visible b ≡ true
leading_visible b h = grind (arith, nat_tests)

path_visible : (b : ℕ) → is_path_byte b ≡ true → is_visible b ≡ true
path_visible b h = first_so (is_visible b) (not (b == 0x23)) h

number_plain : (number : List ℕ) → is_port_number number ≡ true → is_plain number ≡ true
number_plain [] h = refl
number_plain (d ∷ ds) h =
    let digits =
    first_so (is_within 0x31 0x39 d && list_all is_digit ds) (nat_le (digits_value 10 (d ∷ ds)) GREATEST_PORT) h in
    and_both (is_visible d) (is_plain ds) (leading_visible d (first_so (is_within 0x31 0x39 d) (list_all is_digit ds) digits))
    (all_pass is_digit is_visible digit_visible ds (second_so (is_within 0x31 0x39 d) (list_all is_digit ds) digits))

port_plain : (port : List ℕ) → IsPort port → is_plain port ≡ true
port_plain port (inl none) = ap is_plain none
port_plain port (inr is) =
    ap is_plain is.2 ∙ plain_append (codes ":") is.0 refl (number_plain is.0 is.1)

path_plain : (path : List ℕ) → IsPath path → is_plain path ≡ true
path_plain path (inl none) = ap is_plain none
path_plain path (inr is) =
    ap is_plain is.2 ∙ plain_append (codes "/") is.0 refl (all_pass is_path_byte is_visible path_visible is.0 is.1)

pub dialable_is_plain : (address : List ℕ) → IsDialable address → is_plain address ≡ true
dialable_is_plain address is =
    ap is_plain is.spelled
    ∙ plain_append (codes "http://") (is.host ++ (is.port ++ is.path)) refl
    (plain_append is.host (is.port ++ is.path) (all_pass is_host_byte is_visible host_visible is.host is.is_host.0)
    (plain_append is.port is.path (port_plain is.port is.is_port) (path_plain is.path is.is_path)))

dialable_is_there : (address : List ℕ) → IsDialable address → 1 ≤ length address
dialable_is_there address is =
    let long : length address ≡ length (codes "http://" ++ (is.host ++ (is.port ++ is.path))) = ap length is.spelled in
    omega arith

-- ---- the endpoint reference

address_fits : (address : List ℕ) → IsDialable address → Fits (record { address = address; parameters = [] })
address_fits address is =
    let short = is.short in
    record {
      size = omega arith;
      count = omega arith;
      depth = refl;
      attributes = refl;
      spaces = omega arith;
      named = dialable_is_there address is;
      bare = plain_is_bare address (dialable_is_plain address is);
      legal = plain_is_legal address (dialable_is_plain address is);
      fit = refl;
      unmarked = refl;
    }

pub own_endpoint_fits : (e : Epr) → IsOwnEndpoint e → Fits e
own_endpoint_fits e own =
    subst (λ (ps : List Tree). Fits (record { address = e.address; parameters = ps })) (sym own.alone) (address_fits e.address own.dialable)
