-- A base is short, so that it leaves room for the paths of objects, and their endpoints can be dialed; for the laws on what a node says.
use Rattle.std.proofs.Common.{◌≡◌, inl, inr, ℕ, ◌≤◌, true, ◌&&◌, nat_le, List, [], ◌∷◌, ◌++◌, length, codes}
use Rattle.std.proofs.Common.{refl, sym, ap, ◌∙◌, subst, arith, decimal, append_assoc, length-append}
use Rattle.std.specs.Cmp.{first_so, second_so}
use Rattle.std.specs.List.{list_all}
use Rattle.std.specs.Str.Parse.{AllDigits, digits_value}
use Rattle.std.proofs.lemmas.Bool.Decides.{nat_tests}
use Rattle.std.proofs.lemmas.Fmt.{decimal-digits_value, length-decimal-le}
use Rattle.std.proofs.lemmas.List.{append-nil}
use Rattle.std.proofs.lemmas.Str.Parse.{IsNumeralModel, numerals_by_value, tells_digits}
use Rattle.ba_core.specs.declared.identifiers.Id.{Id}
use Rattle.ba_message.specs.Addresses.{IsDialable, IsPort, is_path_byte, is_port_number}
use Rattle.ba_message.specs.Letters.{IsOwnEndpoint}
use Rattle.ba_message.specs.declared.addresses.TheConstants.{MOST_ADDRESS_BYTES}
use Rattle.ba_record.specs.Endpoints.{IsBase}
use Rattle.ba_node_steps.proofs.Hyphens.{hyphenated_length}
use Rattle.ba_node_steps.proofs.PathBytes.{joined_passes, text_passes}
use Rattle.ba_node_steps.specs.Addresses.{coordinator_of, hyphenated, participant_of, registration_of}
use Rattle.ba_tree.specs.Characters.{is_within}
use Rattle.ba_tree.specs.Names.{is_digit}

-- ---- how long a base is: its scheme, a host of at most 255 bytes, and a port of at most five digits

numerals : IsNumeralModel (AllDigits 10) (digits_value 10)
numerals = numerals_by_value (AllDigits 10) tells_digits

within_is : (low high c : ℕ) → is_within low high c ≡ true → (low ≤ c) × (c ≤ high)
within_is low high c h =
    let a = first_so (nat_le low c) (nat_le c high) h in
    let b = second_so (nat_le low c) (nat_le c high) h in
    (grind (arith, nat_tests, a), grind (arith, nat_tests, b))

all_digits : (ds : List ℕ) → list_all is_digit ds ≡ true → AllDigits 10 ds
all_digits [] h = tells_digits.empty
all_digits (c ∷ ds) h =
    let range = within_is 0x30 0x39 c (first_so (is_digit c) (list_all is_digit ds) h) in
    tells_digits.more c ds (range.0, range.1) (all_digits ds (second_so (is_digit c) (list_all is_digit ds) h))

digits_short : (digits : List ℕ) → is_port_number digits ≡ true → length digits ≤ 5
digits_short [] h = absurd cc
digits_short (d ∷ ds) h =
    let front = first_so (is_within 0x31 0x39 d && list_all is_digit ds) (nat_le (digits_value 10 (d ∷ ds)) 65535) h in
    let low = within_is 0x31 0x39 d (first_so (is_within 0x31 0x39 d) (list_all is_digit ds) front) in
    let rest = all_digits ds (second_so (is_within 0x31 0x39 d) (list_all is_digit ds) front) in
    let most : nat_le (digits_value 10 (d ∷ ds)) 65535 ≡ true =
    second_so (is_within 0x31 0x39 d && list_all is_digit ds) (nat_le (digits_value 10 (d ∷ ds)) 65535) h in
    let value : digits_value 10 (d ∷ ds) ≤ 65535 = grind (arith, nat_tests, most) in
    let all : AllDigits 10 (d ∷ ds) = tells_digits.more d ds (omega (arith, low), low.1) rest in
    let same : decimal (digits_value 10 (d ∷ ds)) ≡ d ∷ ds =
    decimal-digits_value numerals (d ∷ ds) all (omega arith) (λ e. absurd (omega (arith, low, e))) (omega (arith, value)) in
    subst (λ (l : List ℕ). length l ≤ 5) same
    (length-decimal-le 5 (digits_value 10 (d ∷ ds)) (omega arith) (omega (arith, value)) (omega (arith, value)))

port_short : (port : List ℕ) → IsPort port → length port ≤ 6
port_short port (inl none) = subst (λ (p : List ℕ). length p ≤ 6) (sym none) (omega arith)
port_short port (inr is) =
    let five = digits_short is.0 is.1 in
    subst (λ (p : List ℕ). length p ≤ 6) (sym is.2) (omega (arith, five))

module _ (base : List ℕ) (is : IsBase base) where
  bare : base ≡ codes "http://" ++ (is.dialable.host ++ is.dialable.port)
  bare =
      is.dialable.spelled
      ∙ ap (λ (p : List ℕ). codes "http://" ++ (is.dialable.host ++ (is.dialable.port ++ p))) is.pathless
      ∙ ap (λ (p : List ℕ). codes "http://" ++ (is.dialable.host ++ p)) (append-nil is.dialable.port)

  pub base_short : length base ≤ 268
  base_short =
      let port = port_short is.dialable.port is.dialable.is_port in
      let host : length is.dialable.host ≤ 255 = is.dialable.is_host.2 in
      subst (λ (b : List ℕ). length b ≤ 268) (sym bare)
      (omega (arith, port, host, length-append is.dialable.host is.dialable.port))

-- ---- the address of an object: after the base a word for what is found there, and the identifier

module _ (base : List ℕ) (is : IsBase base) (id : Id) where
  abbrev text : List ℕ
  text = hyphenated id.0

  spelled : (path : List ℕ) → base ++ path ≡ codes "http://" ++ (is.dialable.host ++ (is.dialable.port ++ path))
  spelled path =
      ap (λ (b : List ℕ). b ++ path) (bare base is)
      ∙ ap (λ (l : List ℕ). codes "http://" ++ l) (append_assoc is.dialable.host is.dialable.port path)

  short : (word : List ℕ) → length word ≤ 20 → length (base ++ (codes "/" ++ (word ++ text))) ≤ MOST_ADDRESS_BYTES
  short word brief = omega (
    arith,
    brief,
    base_short base is,
    hyphenated_length id.0,
    length-append word text,
    length-append base (codes "/" ++ (word ++ text)),
  )

  dials : (word : List ℕ) → length word ≤ 20 → list_all is_path_byte word ≡ true → IsDialable (base ++ (codes "/" ++ (word ++ text)))
  dials word brief passes = record {
    host = is.dialable.host;
    port = is.dialable.port;
    path = codes "/" ++ (word ++ text);
    spelled = spelled (codes "/" ++ (word ++ text));
    is_host = is.dialable.is_host;
    is_port = is.dialable.is_port;
    is_path = inr (word ++ text, joined_passes word text passes (text_passes id.0), refl);
    short = short word brief;
  }

  pub registration_dials : IsOwnEndpoint (registration_of base id)
  registration_dials = record { dialable = dials (codes "registration/") (omega arith) refl; alone = refl }

  pub coordinator_dials : IsOwnEndpoint (coordinator_of base id)
  coordinator_dials = record { dialable = dials (codes "coordinator/") (omega arith) refl; alone = refl }

  pub participant_dials : IsOwnEndpoint (participant_of base id)
  participant_dials = record { dialable = dials (codes "participant/") (omega arith) refl; alone = refl }

  -- the longest of the three
  pub registration_short : length (registration_of base id).address ≤ MOST_ADDRESS_BYTES
  registration_short = short (codes "registration/") (omega arith)
