-- Which path is whose: for the clauses of object_path, endpoint_at and letter_input.
use Rattle.std.proofs.Common.{◌≡◌, ◌≢◌, ℕ, ◌+◌, List, ◌++◌, get_or, take, drop, length, true, false, nat_eq, Option, None, Some, IfSome, Bor}
use Rattle.std.proofs.Common.{refl, sym, ap, ◌∙◌, subst, arith}
use Rattle.std.proofs.lemmas.List.{append_cancel_left, take-append-drop, take_at, drop_at}
use Rattle.std.specs.Cmp.Lexicographic.{pointwise, same_text, other_text}
use Rattle.std.specs.Option.{MatchOption, option_map, option_or}
use Rattle.ba_core.specs.declared.identifiers.Id.{Id}
use Rattle.ba_node_addresses.specs.Paths.{endpoint_word, path_text}
use Rattle.ba_node_addresses.specs.declared.paths.Endpoint.{Endpoint}
use Rattle.ba_node_addresses.specs.declared.paths.Endpoint.TheVariants.{Registration, Coordinator, Participant}
use Rattle.ba_node_addresses.specs.declared.paths.ObjectPath.{ObjectPath}
use Rattle.ba_node_steps.proofs.RoutingLemmas.{text_is_its, text_is_read}
use Rattle.ba_node_steps.specs.Addresses.{HasText, hyphenated}
use Rattle.ba_node_steps.specs.Routing.{identifier_of_bytes, identifier_of_text}

-- ---- a beginning, and what follows it

pub stripped_is : (bytes beginning rest : List ℕ) → pointwise nat_eq (take (length beginning) bytes) beginning ≡ true
    → rest ≡ drop (length beginning) bytes → bytes ≡ beginning ++ rest
stripped_is bytes beginning rest begins is =
    sym (take-append-drop (length beginning) bytes)
    ∙ (λ i. same_text (take (length beginning) bytes) beginning (sym begins) i ++ sym is i)

pub stripped_rest : (bytes beginning rest other : List ℕ) → rest ≡ drop (length beginning) bytes → bytes ≡ beginning ++ other
    → rest ≡ other
stripped_rest bytes beginning rest other is whole =
    is ∙ ap (λ (l : List ℕ). drop (length beginning) l) whole ∙ drop_at beginning other (length beginning) refl

pub not_stripped : (bytes beginning other : List ℕ) → pointwise nat_eq (take (length beginning) bytes) beginning ≡ false
    → bytes ≢ beginning ++ other
not_stripped bytes beginning other differs whole =
    other_text (take (length beginning) bytes) beginning (sym differs)
    (ap (λ (l : List ℕ). take (length beginning) l) whole ∙ take_at beginning other (length beginning) refl)

module _ (bytes beginning : List ℕ) where
  abbrev pub Strips : Option (Bor (List ℕ)) → Type 0
  Strips r =
      MatchOption r (pointwise nat_eq (take (length beginning) bytes) beginning ≡ false)
      (λ x. (pointwise nat_eq (take (length beginning) bytes) beginning ≡ true) × (x.now ≡ drop (length beginning) bytes)
      × (length x.now + length beginning ≡ length bytes))

  pub rest_is : (r : Option (Bor (List ℕ))) → Strips r → IfSome r (λ rest. bytes ≡ beginning ++ rest.now)
  rest_is (Some x) h = stripped_is bytes beginning x.now h.0 h.1
  rest_is None h = tt

  pub rest_found : (r : Option (Bor (List ℕ))) → Strips r → (rest : List ℕ) → bytes ≡ beginning ++ rest
      → option_map (λ x. x.now) r ≡ Some rest
  rest_found (Some x) h rest whole = ap Some (stripped_rest bytes beginning x.now rest h.1 whole)
  rest_found None h rest whole = absurd (not_stripped bytes beginning rest h whole)

-- ---- the text of an identifier

pub none_read : (text : List ℕ) (bytes : Option (List ℕ)) → ((u : List ℕ) → bytes ≡ Some u → ⊥)
    → None ≡ identifier_of_bytes text bytes
none_read text None refuted = refl
none_read text (Some u) refuted = absurd (refuted u refl)

module _ (path word text : List ℕ) (e : Endpoint) (id : Id) (word_is : word ≡ endpoint_word e) where
  pub path_its : path ≡ word ++ text → Some id ≡ identifier_of_text text → path ≡ path_text (record { endpoint = e; id = id })
  path_its whole read = whole ∙ (λ i. word_is i ++ text_is_its text id (sym read) i)

  pub text_found : HasText id → ((rest : List ℕ) → path ≡ word ++ rest → ◌≡◌ {A = Option (List ℕ)} (Some text) (Some rest))
      → path ≡ path_text (record { endpoint = e; id = id }) → identifier_of_text text ≡ Some id
  text_found small finds is =
      let whole : path ≡ word ++ hyphenated id.0 = is ∙ ap (λ (w : List ℕ). w ++ hyphenated id.0) (sym word_is) in
      let found : ◌≡◌ {A = Option (List ℕ)} (Some text) (Some (hyphenated id.0)) = finds (hyphenated id.0) whole in
      let same : text ≡ hyphenated id.0 = cc in
      ap identifier_of_text same ∙ text_is_read id small

-- ---- paths of one kind, and of all

abbrev letter_of : Endpoint → ℕ
letter_of Registration = 114
letter_of Coordinator = 99
letter_of Participant = 112

letter_at : (e : Endpoint) (rest : List ℕ) → get_or (endpoint_word e ++ rest) 1 0 ≡ letter_of e
letter_at Registration rest = refl
letter_at Coordinator rest = refl
letter_at Participant rest = refl

module _ (path : List ℕ) where
  abbrev pub IsAt : Endpoint → ObjectPath → Type 0
  IsAt e at = (at.endpoint ≡ e) × (path ≡ path_text at)

  abbrev pub Finds : Endpoint → Option ObjectPath → Type 0
  Finds e found = (at : ObjectPath) → HasText at.id → IsAt e at → found ≡ Some at

  letter_is : (e : Endpoint) (at : ObjectPath) → IsAt e at → get_or path 1 0 ≡ letter_of e
  letter_is e at is =
      ap (λ (l : List ℕ). get_or l 1 0) is.1 ∙ letter_at at.endpoint (hyphenated at.id.0) ∙ ap letter_of is.0

  none_at : (e other : Endpoint) (found : Option ObjectPath) (at : ObjectPath) → IfSome found (IsAt e) → IsAt other at
      → letter_of e ≢ letter_of other → found ≡ None
  none_at e other None at is there apart = refl
  none_at e other (Some x) at is there apart = absurd (apart (sym (letter_is e x is) ∙ letter_is other at there))

  module _ (a b c : Option ObjectPath) where
    abbrev pub any : Option ObjectPath
    any = option_or (option_or a b) c

  pub any_is : (a b c : Option ObjectPath) → IfSome a (IsAt Registration) → IfSome b (IsAt Coordinator) → IfSome c (IsAt Participant)
      → IfSome (any a b c) (λ at. path ≡ path_text at)
  any_is (Some x) b c at_a at_b at_c = at_a.1
  any_is None (Some x) c at_a at_b at_c = at_b.1
  any_is None None (Some x) at_a at_b at_c = at_c.1
  any_is None None None at_a at_b at_c = tt

  module _ (a b c : Option ObjectPath) (at_a : IfSome a (IsAt Registration)) (at_b : IfSome b (IsAt Coordinator))
      (finds_a : Finds Registration a) (finds_b : Finds Coordinator b) (finds_c : Finds Participant c)
      (at : ObjectPath) (small : HasText at.id) (is : path ≡ path_text at) where
    finds_by : (e : Endpoint) → at.endpoint ≡ e → any a b c ≡ Some at
    finds_by Registration e = ap (λ (o : Option ObjectPath). any o b c) (finds_a at small (e, is))
    finds_by Coordinator e =
        let no_first : a ≡ None = none_at Registration Coordinator a at at_a (e, is) (λ same. omega arith) in
        (λ i. any (no_first i) (finds_b at small (e, is) i) c)
    finds_by Participant e =
        let no_a : a ≡ None = none_at Registration Participant a at at_a (e, is) (λ same. omega arith) in
        let no_b : b ≡ None = none_at Coordinator Participant b at at_b (e, is) (λ same. omega arith) in
        (λ i. any (no_a i) (no_b i) (finds_c at small (e, is) i))

    pub any_finds : any a b c ≡ Some at
    any_finds = finds_by at.endpoint refl

-- ---- an address of a node

pub path_found : (base address path : List ℕ) (e : Endpoint) (id : Id) → address ≡ base ++ path_text (record { endpoint = e; id = id })
    → ((rest : List ℕ) → address ≡ base ++ rest → ◌≡◌ {A = Option (List ℕ)} (Some path) (Some rest))
    → path ≡ path_text (record { endpoint = e; id = id })
path_found base address path e id is finds =
    let rest : List ℕ = path_text (record { endpoint = e; id = id }) in
    let found : ◌≡◌ {A = Option (List ℕ)} (Some path) (Some rest) = finds rest is in
    let same : path ≡ rest = cc in
    same
