-- Believe: the one text of a tree: its canonical spelling as an element (XML 1.0, sections 2.4, 3.1 and 4.1).
-- Each function gives the bytes of its part, and then what follows.
use Rattle.std.specs.Prelude.{ℕ, Bool, true, false, List, [], ◌∷◌, ◌++◌, if◌then◌else◌, nat_eq, codes}
use Rattle.std.specs.Str.{bytes_eq}
use Rattle.ba_tree.specs.declared.trees.Name.{Name}
use Rattle.ba_tree.specs.declared.trees.Attribute.{Attribute}
use Rattle.ba_tree.specs.declared.trees.Tree.{Tree}
use Rattle.ba_tree.specs.declared.trees.Content.{Content, Text, Child', Row_of-Content, end_of-Content, more_of-Content}
use Rattle.ba_xml_writer.specs.Namespaces.{Declaration, declared, text_scope, further}

-- a byte that isn't written as itself, and its spelling
pub record Escape : Type 0 where
  pub byte : ℕ
  pub spelling : List ℕ

abbrev pub escape : ℕ → List ℕ → Escape
escape b s = record { byte = b; spelling = s }

-- in text: & < > and CR
abbrev pub text_escapes : List Escape
text_escapes =
    escape 38 (codes "&amp;")
    ∷ escape 60 (codes "&lt;")
    ∷ escape 62 (codes "&gt;")
    ∷ escape 13 (codes "&#13;")
    ∷ []

-- in values also " and tab and LF
abbrev pub value_escapes : List Escape
value_escapes =
    text_escapes
    ++ escape 34 (codes "&quot;")
    ∷ escape 9 (codes "&#9;")
    ∷ escape 10 (codes "&#10;")
    ∷ []

abbrev pub spelled : List Escape → ℕ → List ℕ → List ℕ
spelled [] b rest = b ∷ rest
spelled (e ∷ escapes) b rest = if nat_eq b e.byte then e.spelling ++ rest else spelled escapes b rest

abbrev pub escaped : List Escape → List ℕ → List ℕ → List ℕ
escaped escapes [] rest = rest
escaped escapes (b ∷ bytes) rest = spelled escapes b (escaped escapes bytes rest)

-- the prefix of a namespace and a colon; of none, nothing
abbrev pub prefixed : List Declaration → List ℕ → List ℕ → List ℕ
prefixed [] space rest = rest
prefixed (d ∷ ds) space rest = if bytes_eq space d.space then d.prefix ++ (codes ":" ++ rest) else prefixed ds space rest

abbrev pub qualified : List Declaration → Name → List ℕ → List ℕ
qualified ds name rest = prefixed ds name.space (name.local ++ rest)

-- an equals sign and a value in its quotes
abbrev pub valued : List ℕ → List ℕ → List ℕ
valued value rest = codes "=\"" ++ escaped value_escapes value (codes "\"" ++ rest)

abbrev pub declaration_texts : List Declaration → List ℕ → List ℕ
declaration_texts [] rest = rest
declaration_texts (d ∷ ds) rest = codes " xmlns:" ++ (d.prefix ++ valued d.space (declaration_texts ds rest))

abbrev pub attributes : List Declaration → List Attribute → List ℕ → List ℕ
attributes ds [] rest = rest
attributes ds (a ∷ more) rest = codes " " ++ qualified ds a.name (valued a.value (attributes ds more rest))

-- the end of an element without content, or its content and its end tag
abbrev pub ending : List Declaration → Name → Bool → (List ℕ → List ℕ) → List ℕ → List ℕ
ending ds name true inside rest = codes "/>" ++ rest
ending ds name false inside rest = codes ">" ++ inside (codes "</" ++ qualified ds name (codes ">" ++ rest))

-- an element's attributes, content and end
abbrev pub element_rest : List Declaration → Name → List Attribute → Bool → (List ℕ → List ℕ) → List ℕ → List ℕ
element_rest ds name atts empty inside rest = attributes ds atts (ending ds name empty inside rest)

-- an element whose tag declares `own`
abbrev pub element : List Declaration → List Declaration → Name → List Attribute → Bool → (List ℕ → List ℕ) → List ℕ → List ℕ
element ds own name atts empty inside rest =
    codes "<" ++ qualified ds name (declaration_texts own (element_rest ds name atts empty inside rest))

abbrev pub is_end : {m : _} → Row_of-Content m → Bool
is_end end_of-Content = true
is_end (more_of-Content c row) = false

abbrev mutual
  pub item : List Declaration → Content → List ℕ → List ℕ
  item ds (Text t) rest = escaped text_escapes t rest
  item ds (Child' name atts shape row) rest = element ds [] name atts (is_end row) (λ more. row_items ds row more) rest

  pub row_items : {m : _} → List Declaration → Row_of-Content m → List ℕ → List ℕ
  row_items ds end_of-Content rest = rest
  row_items ds (more_of-Content c row) rest = item ds c (row_items ds row rest)

-- pieces of content, one after another
abbrev pub items : List Declaration → List Content → List ℕ → List ℕ
items ds [] rest = rest
items ds (c ∷ more) rest = item ds c (items ds more rest)

abbrev pub is_empty : List Content → Bool
is_empty [] = true
is_empty (c ∷ more) = false

abbrev pub tree_rest : List Declaration → Tree → List ℕ → List ℕ
tree_rest ds t rest = element_rest ds t.name t.attributes (is_empty t.content) (λ more. items ds t.content more) rest

-- an element of these parts, whose tag declares `own`
abbrev pub tree_text : List Declaration → List Declaration → Tree → List ℕ → List ℕ
tree_text ds own t rest = element ds own t.name t.attributes (is_empty t.content) (λ more. items ds t.content more) rest

-- the text of a root, where these are the further namespaces of its tree
abbrev pub root_text : List (List ℕ) → Tree → List ℕ
root_text further t = tree_text (text_scope further) (declared further) t []

-- the one text of a tree
abbrev pub one_text : Tree → List ℕ
one_text t = root_text (further t) t
