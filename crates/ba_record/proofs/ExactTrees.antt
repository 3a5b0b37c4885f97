-- Trees are read back from their codings, up to any number of levels.
use Rattle.std.proofs.Common.{◌≡◌, ℕ, zero, suc, ◌^◌, ◌<◌, ◌⊎◌, inl, inr, List, ◌∷◌, ◌++◌, length, map, ap, refl, sym, ◌∙◌, subst}
use Rattle.std.proofs.Common.{append_assoc}
use Rattle.ba_message.specs.declared.endpoints.TheConstants.{MOST_ENDPOINT_BYTES}
use Rattle.std.specs.Int.{w8, w16, to_le_bytes}
use Rattle.ba_tree.specs.declared.trees.Name.{Name}
use Rattle.ba_tree.specs.declared.trees.Attribute.{Attribute}
use Rattle.ba_tree.specs.declared.trees.Tree.{Tree}
use Rattle.ba_tree.specs.declared.trees.Content.{Content}
use Rattle.ba_tree.specs.declared.trees.Content.TheVariants.{Child, Text}
use Rattle.ba_message.specs.declared.endpoints.Epr.{Epr}
use Rattle.ba_tree.specs.Trees.{joined}
use Rattle.ba_record.specs.Coding.{string_coding, name_coding, attribute_coding, content_coding, tree_coding, endpoint_coding}
use Rattle.ba_record.specs.Reading.{IsBytes, Reading, read, onward, read_name, read_attribute, read_attributes, content_of, read_content}
use Rattle.ba_record.specs.Reading.{read_contents, read_element, read_tree, read_any_endpoint}
use Rattle.ba_record.proofs.Exact.{IsExact, went, goes, exact_byte, exact_count, exact_16, exact_string, exact_pair, exact_counted}
use Rattle.ba_record.proofs.Exact.{IsString, Each}
use Rattle.ba_record.proofs.Trees.{child_coding, text_coding, tree_is}

abbrev pub IsName : Name → Type 0
IsName name = IsString name.space × IsString name.local

pub exact_name : IsExact read_name name_coding IsName
exact_name = exact_pair exact_string exact_string (λ space local. record { space = space; local = local }) (λ (n : Name). n.space)
    (λ (n : Name). n.local) (λ n. refl) (λ a b. refl) (λ a b. refl)

abbrev pub IsAttribute : Attribute → Type 0
IsAttribute a = IsName a.name × IsString a.value

pub exact_attribute : IsExact read_attribute attribute_coding IsAttribute
exact_attribute = exact_pair exact_name exact_string (λ name value. record { name = name; value = value }) (λ (a : Attribute). a.name)
    (λ (a : Attribute). a.value) (λ a. refl) (λ a b. refl) (λ a b. refl)

-- the content is a text, or a tree of that range
abbrev pub IsContent : (Tree → Type 0) → Content → Type 0
IsContent R c = ((text : List ℕ) × IsString text × (c ≡ Text text)) ⊎ ((tree : Tree) × R tree × (c ≡ Child tree))

module _ {f : List ℕ → Reading Tree} {R : Tree → Type 0} (exact : IsExact f tree_coding R) where
  content_sound : (byte : ℕ) (from rest out : List ℕ) (c : Content) → IsBytes rest → content_of f byte from rest ≡ read c out
      → IsContent R c × (byte ∷ rest ≡ content_coding c ++ out)
  content_sound zero from rest out c are e =
      let p = went exact_string (λ text after. read (Text text) after) rest c out are e in
      let on : read (Text p.value) p.rest ≡ read c out = p.on in
      let same : Text p.value ≡ c = cc in
      let after : p.rest ≡ out = cc in (
        inl (p.value, p.in_range, sym same),
        (λ i. 0 ∷ (p.spelled ∙ (λ j. string_coding p.value ++ after j)) i)
            ∙ ap (λ (xs : List ℕ). xs ++ out) (sym (text_coding p.value) ∙ ap content_coding same),
      )
  content_sound (suc zero) from rest out c are e =
      let p = went exact (λ child after. read (Child child) after) rest c out are e in
      let on : read (Child p.value) p.rest ≡ read c out = p.on in
      let same : Child p.value ≡ c = cc in
      let after : p.rest ≡ out = cc in (
        inr (p.value, p.in_range, sym same),
        (λ i. 1 ∷ (p.spelled ∙ (λ j. tree_coding p.value ++ after j)) i)
            ∙ ap (λ (xs : List ℕ). xs ++ out) (sym (child_coding p.value) ∙ ap content_coding same),
      )
  content_sound (suc (suc n)) from rest out c are e = absurd (cc)

  content_complete : (c : Content) (rest : List ℕ) → IsContent R c → read_content f (content_coding c ++ rest) ≡ read c rest
  content_complete c rest (inl is) =
      ap (λ (x : Content). read_content f (content_coding x ++ rest)) is.2
      ∙ ap (λ (xs : List ℕ). read_content f (xs ++ rest)) (text_coding is.0)
      ∙ goes exact_string (λ text after. read (Text text) after) is.0 rest is.1
      ∙ ap (λ (x : Content). read x rest) (sym is.2)
  content_complete c rest (inr is) =
      ap (λ (x : Content). read_content f (content_coding x ++ rest)) is.2
      ∙ ap (λ (xs : List ℕ). read_content f (xs ++ rest)) (child_coding is.0)
      ∙ goes exact (λ child after. read (Child child) after) is.0 rest is.1
      ∙ ap (λ (x : Content). read x rest) (sym is.2)

  pub exact_content : IsExact (read_content f) content_coding (IsContent R)
  exact_content = record {
    sound = λ bytes rest c are e.
        let p = went exact_byte (λ byte after. content_of f byte bytes after) bytes c rest are e in
        let q = content_sound p.value bytes p.rest rest c p.are_bytes p.on in
        (q.0, p.spelled ∙ q.1);
    complete = content_complete;
  }

pub record IsElement (R : Tree → Type 0) (t : Tree) : Type 0 where
  pub named : IsName t.name
  pub few_attributes : length t.attributes < 256
  pub attributes : Each IsAttribute t.attributes
  pub few_content : length t.content < 2 ^ 16
  pub content : Each (IsContent R) t.content

module _ {f : List ℕ → Reading Tree} {R : Tree → Type 0} (exact : IsExact f tree_coding R) where
  abbrev AreAttributes : List Attribute → Type 0
  AreAttributes attributes = (length attributes < 256) × Each IsAttribute attributes

  abbrev AreContents : List Content → Type 0
  AreContents contents = (length contents < 2 ^ 16) × Each (IsContent R) contents

  abbrev attributes_coding : List Attribute → List ℕ
  attributes_coding attributes = to_le_bytes w8 (length attributes) ++ joined (map attribute_coding attributes)

  abbrev contents_coding : List Content → List ℕ
  contents_coding contents = to_le_bytes w16 (length contents) ++ joined (map content_coding contents)

  exact_attributes : IsExact read_attributes attributes_coding AreAttributes
  exact_attributes = exact_counted exact_attribute 256 exact_count

  exact_contents : IsExact (read_contents f) contents_coding AreContents
  exact_contents = exact_counted (exact_content exact) (2 ^ 16) exact_16

  abbrev behind_attributes : Name → List Attribute → List ℕ → Reading Tree
  behind_attributes name attributes more =
      onward (read_contents f more) (λ content after. read (record { name = name; attributes = attributes; content = content }) after)

  abbrev behind_name : Name → List ℕ → Reading Tree
  behind_name name rest = onward (read_attributes rest) (behind_attributes name)

  spelled_so : (n a c rest : List ℕ) → n ++ (a ++ (c ++ rest)) ≡ (n ++ (a ++ c)) ++ rest
  spelled_so n a c rest = ap (λ (xs : List ℕ). n ++ xs) (sym (append_assoc a c rest)) ∙ sym (append_assoc n (a ++ c) rest)

  element_sound : (bytes rest : List ℕ) (t : Tree) → IsBytes bytes → read_element f bytes ≡ read t rest → IsElement R t
      × (bytes ≡ tree_coding t ++ rest)
  element_sound bytes rest t are e =
      let p = went exact_name behind_name bytes t rest are e in
      let q = went exact_attributes (behind_attributes p.value) p.rest t rest p.are_bytes p.on in
      let r = went exact_contents
      (λ content after. read (record { name = p.value; attributes = q.value; content = content }) after)
      q.rest t rest q.are_bytes q.on in
      let made : Tree = record { name = p.value; attributes = q.value; content = r.value } in
      let on : read made r.rest ≡ read t rest = r.on in
      let same : made ≡ t = cc in
      let after : r.rest ≡ rest = cc in
      subst (λ (x : Tree). IsElement R x × (bytes ≡ tree_coding x ++ rest)) same (
        record {
          named = p.in_range;
          few_attributes = q.in_range.0;
          attributes = q.in_range.1;
          few_content = r.in_range.0;
          content = r.in_range.1;
        },
        p.spelled
            ∙ ap (λ (xs : List ℕ). name_coding p.value ++ xs)
            (q.spelled
            ∙ ap (λ (xs : List ℕ). attributes_coding q.value ++ xs)
            (r.spelled ∙ ap (λ (xs : List ℕ). contents_coding r.value ++ xs) after))
            ∙ spelled_so (name_coding p.value) (attributes_coding q.value) (contents_coding r.value) rest
            ∙ ap (λ (xs : List ℕ). xs ++ rest) (sym (tree_is made)),
      )

  element_complete : (t : Tree) (rest : List ℕ) → IsElement R t → read_element f (tree_coding t ++ rest) ≡ read t rest
  element_complete t rest is =
      ap (λ (xs : List ℕ). read_element f (xs ++ rest)) (tree_is t)
      ∙ ap (λ (xs : List ℕ). read_element f xs)
      (sym (spelled_so (name_coding t.name) (attributes_coding t.attributes) (contents_coding t.content) rest))
      ∙ goes exact_name behind_name t.name (attributes_coding t.attributes ++ (contents_coding t.content ++ rest)) is.named
      ∙ goes exact_attributes (behind_attributes t.name) t.attributes (contents_coding t.content ++ rest) (is.few_attributes, is.attributes)
      ∙ goes exact_contents
      (λ content after. read (record { name = t.name; attributes = t.attributes; content = content }) after) t.content rest
      (is.few_content, is.content)

  pub exact_element : IsExact (read_element f) tree_coding (IsElement R)
  exact_element = record { sound = element_sound; complete = element_complete }

-- a tree of at most so many levels, whose parts are in their ranges
abbrev pub IsTree : ℕ → Tree → Type 0
IsTree zero t = ⊥
IsTree (suc levels) t = IsElement (IsTree levels) t

pub exact_tree : (levels : ℕ) → IsExact (read_tree levels) tree_coding (IsTree levels)
unfolding read_tree
exact_tree zero = record { sound = λ bytes rest t are e. absurd (cc); complete = λ t rest none. absurd none }
exact_tree (suc levels) = exact_element (exact_tree levels)

abbrev pub IsEndpoint : Epr → Type 0
IsEndpoint e = IsString e.address × ((length e.parameters < 256) × Each (IsTree MOST_ENDPOINT_BYTES) e.parameters)

pub exact_any_endpoint : IsExact read_any_endpoint endpoint_coding IsEndpoint
exact_any_endpoint = exact_pair exact_string (exact_counted (exact_tree MOST_ENDPOINT_BYTES) 256 exact_count)
    (λ address parameters. record { address = address; parameters = parameters }) (λ (e : Epr). e.address) (λ (e : Epr). e.parameters)
    (λ e. refl) (λ a b. refl) (λ a b. refl)
