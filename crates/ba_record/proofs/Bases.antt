-- The tests of a base tell whether it can be dialed and has no path.
use Rattle.std.proofs.Common.{◌≡◌, ℕ, inl, inr, Bool, true, false, true≢false, ◌&&◌, ◌||◌, not, nat_le, List, [], ◌∷◌, ◌++◌, take, drop, ap}
use Rattle.std.proofs.Common.{refl, sym, ◌∙◌, codes, ◌==◌}
use Rattle.ba_message.specs.Endpoints.{fits_endpoint}
use Rattle.ba_message.proofs.FitTests.{fits_by_tests, tests_by_fits}
use Rattle.std.proofs.lemmas.Bool.{eqb-true}
use Rattle.std.proofs.lemmas.List.Folds.{list_all-append}
use Rattle.std.specs.Cmp.{first_so, second_so}
use Rattle.std.specs.List.{list_all, list_any}
use Rattle.std.specs.Str.Parse.{digits_value}
use Rattle.ba_message.specs.declared.endpoints.Epr.{Epr}
use Rattle.ba_tree.specs.Characters.{is_within}
use Rattle.ba_message.specs.Addresses.{IsDialable, IsPort, IsPath, is_host_byte, is_port_number}
use Rattle.ba_message.specs.Endpoints.{Fits}
use Rattle.ba_tree.specs.Names.{is_digit}
use Rattle.std.specs.Str.{bytes_eq}
use Rattle.ba_message.specs.Dialing.{is_dialable}
use Rattle.ba_message.proofs.Dialed.{dialable_by_test, test_by_dialable}
use Rattle.ba_record.specs.Endpoints.{IsBase, is_base}

abbrev is_no_slash : ℕ → Bool
is_no_slash b = not (b == 0x2F)

both : (a b : Bool) → a ≡ true → b ≡ true → (a && b) ≡ true
both true b p q = q
both false b p q = absurd (true≢false (sym p))

all_behind : (p : ℕ → Bool) (xs ys : List ℕ) → list_all p (xs ++ ys) ≡ true → list_all p ys ≡ true
all_behind p xs ys h = second_so (list_all p xs) (list_all p ys) (sym (list_all-append p xs ys) ∙ h)

all_of_both : (p : ℕ → Bool) (xs ys : List ℕ) → list_all p xs ≡ true → list_all p ys ≡ true → list_all p (xs ++ ys) ≡ true
all_of_both p xs ys hx hy = list_all-append p xs ys ∙ both (list_all p xs) (list_all p ys) hx hy

-- a byte that passes a test which the slash doesn't pass
no_slash : (p : ℕ → Bool) → p 0x2F ≡ false → (b : ℕ) → p b ≡ true → is_no_slash b ≡ true
no_slash p fails b passes = by (b == 0x2F) refl
  where
    by : (v : Bool) → (b == 0x2F) ≡ v → not v ≡ true
    by true e = absurd (true≢false (sym passes ∙ ap p (eqb-true b 0x2F e) ∙ fails))
    by false e = refl

no_slashes : (p : ℕ → Bool) → p 0x2F ≡ false → (bytes : List ℕ) → list_all p bytes ≡ true → list_all is_no_slash bytes ≡ true
no_slashes p fails [] h = refl
no_slashes p fails (b ∷ bytes) h =
    both (is_no_slash b) (list_all is_no_slash bytes) (no_slash p fails b (first_so (p b) (list_all p bytes) h))
    (no_slashes p fails bytes (second_so (p b) (list_all p bytes) h))

number_without_slash : (number : List ℕ) → is_port_number number ≡ true → list_all is_no_slash number ≡ true
number_without_slash [] h = refl
number_without_slash (d ∷ digits) h =
    let front = first_so (is_within 0x31 0x39 d && list_all is_digit digits) (nat_le (digits_value 10 (d ∷ digits)) 65535) h in
    both (is_no_slash d) (list_all is_no_slash digits)
    (no_slash (is_within 0x31 0x39) refl d (first_so (is_within 0x31 0x39 d) (list_all is_digit digits) front))
    (no_slashes is_digit refl digits (second_so (is_within 0x31 0x39 d) (list_all is_digit digits) front))

port_without_slash : (port : List ℕ) → IsPort port → list_all is_no_slash port ≡ true
port_without_slash port (inl none) = ap (list_all is_no_slash) none
port_without_slash port (inr is) = ap (list_all is_no_slash) is.2 ∙ number_without_slash is.0 is.1

path_with_slash : (path : List ℕ) → IsPath path → list_all is_no_slash path ≡ true → path ≡ []
path_with_slash path (inl none) h = none
path_with_slash path (inr is) h = absurd (true≢false (sym h ∙ ap (list_all is_no_slash) is.2))

pub base_by_tests : (base : List ℕ) → is_base base ≡ true → IsBase base
unfolding is_base
base_by_tests base h =
    let d = dialable_by_test base (first_so (is_dialable base) (list_all is_no_slash (drop 7 base)) h) in
    let no_slash : list_all is_no_slash (drop 7 base) ≡ true = second_so (is_dialable base) (list_all is_no_slash (drop 7 base)) h in
    let rest : drop 7 base ≡ d.host ++ (d.port ++ d.path) = ap (drop 7) d.spelled in
    let later = all_behind is_no_slash d.host (d.port ++ d.path) (sym (ap (list_all is_no_slash) rest) ∙ no_slash) in
    record { dialable = d; pathless = path_with_slash d.path d.is_path (all_behind is_no_slash d.port d.path later) }

free_of : (base : List ℕ) → IsBase base → list_all is_no_slash (drop 7 base) ≡ true
free_of base is =
    let d = is.dialable in
    let rest : drop 7 base ≡ d.host ++ (d.port ++ d.path) = ap (drop 7) d.spelled in
    let host = no_slashes is_host_byte refl d.host d.is_host.0 in
    let port = port_without_slash d.port d.is_port in
    let path : list_all is_no_slash d.path ≡ true = ap (list_all is_no_slash) is.pathless in
    ap (list_all is_no_slash) rest
    ∙ all_of_both is_no_slash d.host (d.port ++ d.path) host (all_of_both is_no_slash d.port d.path port path)

pub tests_by_base : (base : List ℕ) → IsBase base → is_base base ≡ true
unfolding is_base
tests_by_base base is =
    both (is_dialable base) (list_all is_no_slash (drop 7 base)) (test_by_dialable base is.dialable) (free_of base is)

-- ---- for the code

-- an answer that tells whether something passes tests which tell the same
told_by : {P : Type 0} (answer test : Bool) → (answer ≡ true → P) → (P → answer ≡ true) → (test ≡ true → P) → (P → test ≡ true)
    → answer ≡ test
told_by true true to from by back = refl
told_by false false to from by back = refl
told_by true false to from by back = sym (back (to refl))
told_by false true to from by back = from (by refl)

pub tells_fit : (e : Epr) (answer : Bool) → (answer ≡ true → Fits e) × (Fits e → answer ≡ true) → answer ≡ fits_endpoint e
tells_fit e answer is = told_by answer (fits_endpoint e) is.0 is.1 (fits_by_tests e) (tests_by_fits e)

no_slash_is : (bytes : List ℕ) → not (list_any (λ b. b == 0x2F) bytes) ≡ list_all is_no_slash bytes
no_slash_is [] = refl
no_slash_is (b ∷ bytes) =
    neither (b == 0x2F) (list_any (λ x. x == 0x2F) bytes) ∙ ap (λ (t : Bool). not (b == 0x2F) && t) (no_slash_is bytes)
  where
    neither : (s t : Bool) → not (s || t) ≡ (not s && not t)
    neither true t = refl
    neither false t = refl

pub tells_base : (base rest : List ℕ) (dialed slash : Bool) → base ≡ codes "http://" ++ rest → (dialed ≡ true → IsDialable base)
    × (IsDialable base → dialed ≡ true)
    → slash ≡ list_any (λ b. b == 0x2F) rest → (dialed && not slash) ≡ is_base base
tells_base base rest dialed slash spelled is any =
    let free : not slash ≡ list_all is_no_slash rest = ap not any ∙ no_slash_is rest in
    told_by (dialed && not slash) (is_base base)
    (λ h.
    let d = is.0 (first_so dialed (not slash) h) in
    let same : rest ≡ d.host ++ (d.port ++ d.path) = ap (drop 7) (sym spelled ∙ d.spelled) in
    let all : list_all is_no_slash rest ≡ true = sym free ∙ second_so dialed (not slash) h in
    record {
      dialable = d;
      pathless = path_with_slash d.path d.is_path
          (all_behind is_no_slash d.port d.path
          (all_behind is_no_slash d.host (d.port ++ d.path) (sym (ap (list_all is_no_slash) same) ∙ all)));
    })
    (λ b. both dialed (not slash) (is.1 b.dialable) (free ∙ ap (list_all is_no_slash) (ap (drop 7) (sym spelled)) ∙ free_of base b))
    (base_by_tests base) (tests_by_base base)

-- what can't be dialed is no base
pub no_base : (base : List ℕ) (answer : Bool) → answer ≡ false → (IsDialable base → answer ≡ true) → answer ≡ is_base base
no_base base answer fails is =
    told_by answer (is_base base) (λ (h : answer ≡ true). absurd (true≢false (sym h ∙ fails))) (λ b. is b.dialable) (base_by_tests base)
    (tests_by_base base)

-- nor is what has another scheme
pub other_scheme : (base : List ℕ) → (bytes_eq (take 7 base) (codes "http://") ≡ false) → false ≡ is_base base
other_scheme base other =
    no_base base false refl (λ d. sym other ∙ ap (λ (xs : List ℕ). bytes_eq (take 7 xs) (codes "http://")) d.spelled)
