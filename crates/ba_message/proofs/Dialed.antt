-- Reading an address from its beginning finds the one way in which it can be dialed.
use Rattle.std.proofs.Common.{inl, inr, ◌≡◌, ◌≤◌, ◌<◌, ◌+◌, ◌-◌, ◌&&◌, ◌++◌, ◌∷◌, ℕ, suc, Bool, true, false, cond, List, [], length, take}
use Rattle.std.proofs.Common.{drop, get_or, refl, sym, ap, ◌∙◌, subst, arith, true≢false, nat_le, nat_eq, codes}
use Rattle.std.proofs.lemmas.Bool.{leb-true, le-leb}
use Rattle.std.proofs.lemmas.Bool.Decides.{nat_tests}
use Rattle.std.proofs.lemmas.List.{take-append-drop}
use Rattle.std.proofs.lemmas.List.Folds.{length-prefix_len, list_all_at}
use Rattle.std.proofs.Math.Seq.{take-append_seam, drop-append_seam}
use Rattle.std.specs.Char.{digit_value}
use Rattle.std.specs.Cmp.Lexicographic.{pointwise, same_text}
use Rattle.std.specs.List.{list_all, prefix_len}
use Rattle.ba_message.specs.Dialing.{is_dialable, takes_host, takes_number, takes_path, takes_port}
use Rattle.ba_message.specs.Addresses.{IsDialable, IsHost, IsPort, IsPath, is_host_byte, is_port_number}
use Rattle.ba_message.specs.declared.addresses.TheConstants.{MOST_ADDRESS_BYTES, MOST_HOST_BYTES}
use Rattle.ba_tree.specs.Characters.{is_within}
use Rattle.ba_tree.specs.Names.{is_digit}

both : (a b : Bool) → a ≡ true → b ≡ true → (a && b) ≡ true
both true b p q = q
both false b p q = p

first_of_both : (a b : Bool) → (a && b) ≡ true → a ≡ true
first_of_both true b h = refl
first_of_both false b h = h

second_of_both : (a b : Bool) → (a && b) ≡ true → b ≡ true
second_of_both true b h = h
second_of_both false b h = absurd (true≢false (sym h))

-- ---- the digit at a place

passes_at : {X : Type 0} (p : X → Bool) (xs : List X) (i : ℕ) (d : X) → list_all p xs ≡ true → i < length xs → p (get_or xs i d) ≡ true
passes_at p xs i d all lt = by (p (get_or xs i d)) refl
  where
    by : (b : Bool) → p (get_or xs i d) ≡ b → b ≡ true
    by true e = refl
    by false e = absurd (true≢false (sym all ∙ list_all_at p xs i d lt e))

digit_is : (c : ℕ) → is_digit c ≡ true → digit_value c ≡ c - 48
digit_is c h = grind (arith, nat_tests)

pub digit_at : (ds : List ℕ) (i : ℕ) → list_all is_digit ds ≡ true → i < length ds
    → (digit_value (get_or ds i 0) ≡ get_or ds i 0 - 48) × (48 ≤ get_or ds i 0)
digit_at ds i all lt = let h = passes_at is_digit ds i 0 all lt in (digit_is (get_or ds i 0) h, grind (arith, nat_tests))

-- ---- the bytes at the beginning that pass a test

one_more : (n : ℕ) → 1 + n ≡ suc n
one_more n = omega arith

front_of : {X : Type 0} (p : X → Bool) (xs rest : List X) → list_all p xs ≡ true → prefix_len p rest ≡ 0
    → prefix_len p (xs ++ rest) ≡ length xs
front_of p [] rest all none = none
front_of p (x ∷ xs) rest all none =
    ap (λ b. cond b (1 + prefix_len p (xs ++ rest)) 0) (first_of_both (p x) (list_all p xs) all)
    ∙ ap (λ n. 1 + n) (front_of p xs rest (second_of_both (p x) (list_all p xs) all) none) ∙ one_more (length xs)

front_passes : {X : Type 0} (p : X → Bool) (xs : List X) → list_all p (take (prefix_len p xs) xs) ≡ true
front_passes p [] = refl
front_passes p (x ∷ xs) = by (p x) refl (front_passes p xs)
  where
    by : (b : Bool) → p x ≡ b → list_all p (take (prefix_len p xs) xs) ≡ true
        → list_all p (take (cond b (1 + prefix_len p xs) 0) (x ∷ xs)) ≡ true
    by true e others = ap (λ n. list_all p (take n (x ∷ xs))) (one_more (prefix_len p xs))
        ∙ both (p x) (list_all p (take (prefix_len p xs) xs)) e others
    by false e others = refl

-- ---- from the parts to the reading

path_taken : (path : List ℕ) → IsPath path → takes_path path ≡ true
path_taken path (inl none) = subst (λ p. takes_path p ≡ true) (sym none) refl
path_taken path (inr (rest, all, spelled)) = subst (λ p. takes_path p ≡ true) (sym spelled) all

no_digit_first : (path : List ℕ) → IsPath path → prefix_len is_digit path ≡ 0
no_digit_first path (inl none) = subst (λ p. prefix_len is_digit p ≡ 0) (sym none) refl
no_digit_first path (inr (rest, all, spelled)) = subst (λ p. prefix_len is_digit p ≡ 0) (sym spelled) refl

number_is_digits : (number : List ℕ) → is_port_number number ≡ true → list_all is_digit number ≡ true
number_is_digits [] h = absurd (true≢false (sym h))
number_is_digits (d ∷ ds) h =
    let front = first_of_both (is_within 0x31 0x39 d && list_all is_digit ds) _ h in
    both (is_digit d) (list_all is_digit ds) (also_digit d (first_of_both (is_within 0x31 0x39 d) (list_all is_digit ds) front))
    (second_of_both (is_within 0x31 0x39 d) (list_all is_digit ds) front)
  where
    also_digit : (d : ℕ) → is_within 0x31 0x39 d ≡ true → is_digit d ≡ true
    also_digit d h = grind (arith, nat_tests)

number_taken : (number path : List ℕ) → is_port_number number ≡ true → IsPath path → takes_number (number ++ path) ≡ true
number_taken number path ok is_path =
    let long = front_of is_digit number path (number_is_digits number ok) (no_digit_first path is_path) in
    let first : take (prefix_len is_digit (number ++ path)) (number ++ path) ≡ number =
    ap (λ n. take n (number ++ path)) long ∙ take-append_seam number path in
    let later : drop (prefix_len is_digit (number ++ path)) (number ++ path) ≡ path =
    ap (λ n. drop n (number ++ path)) long ∙ drop-append_seam number path in
    both _ _ (ap is_port_number first ∙ ok) (ap takes_path later ∙ path_taken path is_path)

port_taken : (port path : List ℕ) → IsPort port → IsPath path → takes_port (port ++ path) ≡ true
port_taken port path (inl none) is_path = subst (λ p. takes_port (p ++ path) ≡ true) (sym none) (bare path is_path)
  where
    bare : (path : List ℕ) → IsPath path → takes_port path ≡ true
    bare path (inl none) = subst (λ p. takes_port p ≡ true) (sym none) refl
    bare path (inr (rest, all, spelled)) = subst (λ p. takes_port p ≡ true) (sym spelled) all
port_taken port path (inr (number, ok, spelled)) is_path =
    subst (λ p. takes_port (p ++ path) ≡ true) (sym spelled) (number_taken number path ok is_path)

no_host_first : (port path : List ℕ) → IsPort port → IsPath path → prefix_len is_host_byte (port ++ path) ≡ 0
no_host_first port path (inl none) is_path = subst (λ p. prefix_len is_host_byte (p ++ path) ≡ 0) (sym none) (bare path is_path)
  where
    bare : (path : List ℕ) → IsPath path → prefix_len is_host_byte path ≡ 0
    bare path (inl none) = subst (λ p. prefix_len is_host_byte p ≡ 0) (sym none) refl
    bare path (inr (rest, all, spelled)) = subst (λ p. prefix_len is_host_byte p ≡ 0) (sym spelled) refl
no_host_first port path (inr (number, ok, spelled)) is_path = subst (λ p. prefix_len is_host_byte (p ++ path) ≡ 0) (sym spelled) refl

host_taken : (host port path : List ℕ) → IsHost host → IsPort port → IsPath path → takes_host (host ++ (port ++ path)) ≡ true
host_taken host port path is_host is_port is_path =
    let more = port ++ path in
    let long = front_of is_host_byte host more is_host.0 (no_host_first port path is_port is_path) in
    let later : drop (prefix_len is_host_byte (host ++ more)) (host ++ more) ≡ more =
    ap (λ n. drop n (host ++ more)) long ∙ drop-append_seam host more in
    both _ _ (ap (λ n. nat_le 1 n && nat_le n MOST_HOST_BYTES) long ∙ both _ _ (le_test _ _ is_host.1) (le_test _ _ is_host.2))
    (ap takes_port later ∙ port_taken port path is_port is_path)
  where
    le_test : (m n : ℕ) → m ≤ n → nat_le m n ≡ true
    le_test m n le = grind (arith, nat_tests)

-- ---- from the reading to the parts

path_found : (bytes : List ℕ) → takes_path bytes ≡ true → IsPath bytes
path_found [] h = inl refl
path_found (b ∷ rest) h = inr (rest, second_of_both _ _ h, ap (λ c. c ∷ rest) (slash b (first_of_both _ _ h)))
  where
    slash : (b : ℕ) → nat_eq b 47 ≡ true → b ≡ 47
    slash b h = grind (arith, nat_tests)

-- the parts of what may follow a host
abbrev Follows : List ℕ → Type 0
Follows bytes = (port : List ℕ) × (path : List ℕ) × IsPort port × IsPath path × (bytes ≡ port ++ path)

port_found : (bytes : List ℕ) → takes_port bytes ≡ true → Follows bytes
port_found [] h = ([], [], inl refl, inl refl, refl)
port_found (b ∷ rest) h = by (nat_eq b 58) refl h
  where
    colon : (b : ℕ) → nat_eq b 58 ≡ true → b ≡ 58
    colon b h = grind (arith, nat_tests)

    by : (t : Bool) → nat_eq b 58 ≡ t → elim t [ true ↦ takes_number rest | false ↦ takes_path (b ∷ rest) ] ≡ true → Follows (b ∷ rest)
    by true e h =
        let long = prefix_len is_digit rest in
        let number = take long rest in (
          58 ∷ number,
          drop long rest,
          inr (number, first_of_both (is_port_number number) (takes_path (drop long rest)) h, refl),
          path_found (drop long rest) (second_of_both (is_port_number number) (takes_path (drop long rest)) h),
          ap (λ c. c ∷ rest) (colon b e) ∙ ap (λ bs. 58 ∷ bs) (sym (take-append-drop long rest)),
        )
    by false e h = ([], b ∷ rest, inl refl, path_found (b ∷ rest) h, refl)

-- the parts of what follows the scheme
abbrev pub Parts : List ℕ → Type 0
Parts bytes = (host : List ℕ) × (port : List ℕ) × (path : List ℕ) × IsHost host × IsPort port × IsPath path
    × (bytes ≡ host ++ (port ++ path))

host_found : (bytes : List ℕ) → takes_host bytes ≡ true → Parts bytes
host_found bytes h =
    let long = prefix_len is_host_byte bytes in
    let sized = first_of_both (nat_le 1 long && nat_le long MOST_HOST_BYTES) (takes_port (drop long bytes)) h in
    let more = port_found (drop long bytes) (second_of_both (nat_le 1 long && nat_le long MOST_HOST_BYTES)
    (takes_port (drop long bytes)) h) in
    let host = take long bytes in
    let is_long : length host ≡ long = length-prefix_len is_host_byte bytes in
    let least : 1 ≤ length host = subst (λ n. 1 ≤ n) (sym is_long)
    (le_of 1 long (first_of_both (nat_le 1 long) (nat_le long MOST_HOST_BYTES) sized)) in
    let most : length host ≤ MOST_HOST_BYTES =
    subst (λ n. n ≤ MOST_HOST_BYTES) (sym is_long)
    (le_of long MOST_HOST_BYTES (second_of_both (nat_le 1 long) (nat_le long MOST_HOST_BYTES) sized)) in (
      host,
      more.0,
      more.1,
      (front_passes is_host_byte bytes, least, most),
      more.2,
      more.3,
      sym (take-append-drop long bytes) ∙ ap (λ bs. host ++ bs) more.4,
    )
  where
    le_of : (m n : ℕ) → nat_le m n ≡ true → m ≤ n
    le_of m n h = grind (arith, nat_tests)

-- ---- both ways

pub dialable_of : (address rest : List ℕ) → address ≡ codes "http://" ++ rest → length address ≤ MOST_ADDRESS_BYTES → takes_host rest ≡ true
    → IsDialable address
dialable_of address rest spelled short h =
    let parts = host_found rest h in
    record {
      host = parts.0;
      port = parts.1;
      path = parts.2;
      spelled = spelled ∙ ap (λ bs. codes "http://" ++ bs) parts.6;
      is_host = parts.3;
      is_port = parts.4;
      is_path = parts.5;
      short = short;
    }

pub taken_of : (address : List ℕ) → IsDialable address
    → (rest : List ℕ) × (address ≡ codes "http://" ++ rest) × (takes_host rest ≡ true) × (length address ≤ MOST_ADDRESS_BYTES)
taken_of address d =
    (d.host ++ (d.port ++ d.path), d.spelled, host_taken d.host d.port d.path d.is_host d.is_port d.is_path, d.short)

pub exactly_dialable : (address rest : List ℕ) (taken : Bool) → pointwise nat_eq (take 7 address) (codes "http://") ≡ true
    → rest ≡ drop 7 address → length address ≤ MOST_ADDRESS_BYTES
    → taken ≡ takes_host rest → (taken ≡ true → IsDialable address) × (IsDialable address → taken ≡ true)
exactly_dialable address rest taken scheme is_rest short is_taken = (
  λ h. dialable_of address rest (sym (take-append-drop 7 address)
      ∙ (λ i. same_text (take 7 address) (codes "http://") (sym scheme) i ++ sym is_rest i)) short (sym is_taken ∙ h),
  λ d. let found = taken_of address d in is_taken ∙ ap takes_host (is_rest ∙ ap (λ bs. drop 7 bs) found.1) ∙ found.2,
)

-- ---- the test

pub dialable_by_test : (address : List ℕ) → is_dialable address ≡ true → IsDialable address
unfolding is_dialable
dialable_by_test address h =
    let rest = nat_le (length address) MOST_ADDRESS_BYTES && takes_host (drop 7 address) in
    let scheme = first_of_both (pointwise nat_eq (take 7 address) (codes "http://")) rest h in
    let later = second_of_both (pointwise nat_eq (take 7 address) (codes "http://")) rest h in
    let short = first_of_both (nat_le (length address) MOST_ADDRESS_BYTES) (takes_host (drop 7 address)) later in
    let host = second_of_both (nat_le (length address) MOST_ADDRESS_BYTES) (takes_host (drop 7 address)) later in
    let spelled : address ≡ codes "http://" ++ drop 7 address =
    sym (take-append-drop 7 address) ∙ ap (λ (bs : List ℕ). bs ++ drop 7 address)
    (same_text (take 7 address) (codes "http://") (sym scheme)) in
    dialable_of address (drop 7 address) spelled (leb-true (length address) MOST_ADDRESS_BYTES short) host

pub test_by_dialable : (address : List ℕ) → IsDialable address → is_dialable address ≡ true
unfolding is_dialable
test_by_dialable address d =
    let found = taken_of address d in
    both (pointwise nat_eq (take 7 address) (codes "http://")) (nat_le (length address) MOST_ADDRESS_BYTES && takes_host (drop 7 address))
    (ap (λ bs. pointwise nat_eq (take 7 bs) (codes "http://")) found.1)
    (both (nat_le (length address) MOST_ADDRESS_BYTES) (takes_host (drop 7 address))
    (le-leb (length address) MOST_ADDRESS_BYTES found.3) (ap (λ bs. takes_host (drop 7 bs)) found.1 ∙ found.2))

pub tells_dialable : (address : List ℕ) → (is_dialable address ≡ true → IsDialable address)
    × (IsDialable address → is_dialable address ≡ true)
tells_dialable address = (dialable_by_test address, test_by_dialable address)
