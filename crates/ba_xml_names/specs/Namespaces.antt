-- Believe: Namespaces in XML 1.0: what prefixes mean, and what a start tag means by them.
use Rattle.std.specs.Prelude.{ℕ, ◌≤◌, List, [], ◌∷◌, ◌++◌, Bool, true, false, cond, not, ◌&&◌, Option, Some, None, bytes_eq, option_map}
use Rattle.std.specs.Prelude.{option_and_then, codes}
use Rattle.std.specs.List.{list_all, insert}
use Rattle.std.specs.declared.cmp.Ordering.{Ordering}
use Rattle.std.specs.declared.cmp.Ordering.TheVariants as order
use Rattle.ba_tree.specs.Namespaces.{xml_space}
use Rattle.ba_tree.specs.Trees.{name_cmp}
use Rattle.ba_tree.specs.declared.trees.Name.{Name}
use Rattle.ba_tree.specs.declared.trees.Attribute.{Attribute}
use Rattle.ba_xml_names.specs.declared.levels.Declaration.{Declaration}
use Rattle.ba_xml_names.specs.declared.levels.Level.{Level}
use Rattle.ba_xml_names.specs.declared.levels.Opening.{Opening}
use Rattle.ba_xml_names.specs.declared.spaces.Spot.{Spot}
use Rattle.ba_xml_names.specs.declared.spaces.Spot.TheVariants.{At, Taken}
use Rattle.ba_xml_words.specs.declared.names.RawName.{RawName}
use Rattle.ba_xml_words.specs.declared.names.RawAttribute.{RawAttribute}
use Rattle.ba_xml_names.specs.declared.tags.Tag.{Tag}

-- an attribute declares a namespace where it is `xmlns`, or has the prefix `xmlns`
abbrev pub is_default : RawName → Bool
is_default name = bytes_eq name.prefix [] && bytes_eq name.local (codes "xmlns")

abbrev pub is_prefixed : RawName → Bool
is_prefixed name = bytes_eq name.prefix (codes "xmlns")

abbrev pub is_declaration : RawAttribute → Bool
is_declaration a = cond (is_default a.name) true (is_prefixed a.name)

-- the prefix that a declaration declares; none is the default namespace
abbrev pub declared_prefix : RawAttribute → List ℕ
declared_prefix a = cond (is_default a.name) [] a.name.local

abbrev pub declaration_of : RawAttribute → Declaration
declaration_of a = record { prefix = declared_prefix a; space = a.value }

abbrev pub declarations : List RawAttribute → List Declaration
declarations [] = []
declarations (a ∷ more) = cond (is_declaration a) (declaration_of a ∷ declarations more) (declarations more)

-- `xmlns` is never declared; `xml` as its own namespace alone, which no other prefix may have; and a prefix isn't empty
abbrev pub is_lawful_prefix : List ℕ → List ℕ → Bool
is_lawful_prefix prefix space = cond (bytes_eq prefix (codes "xmlns")) false
    (cond (bytes_eq prefix (codes "xml")) (bytes_eq space xml_space) (not (bytes_eq space []) && not (bytes_eq space xml_space)))

abbrev pub is_lawful : Declaration → Bool
is_lawful d = cond (bytes_eq d.prefix []) true (is_lawful_prefix d.prefix d.space)

-- the declarations that hold, those of the innermost element first
abbrev pub scope : List Level → List Declaration
scope [] = []
scope (level ∷ outer) = level.declarations ++ scope outer

-- the declarations that hold outside of the root
abbrev pub first_scope : List Declaration
first_scope = (record { prefix = []; space = [] }) ∷ (record { prefix = codes "xml"; space = xml_space }) ∷ []

-- a prefix means its nearest declaration
abbrev pub nearest : List ℕ → List Declaration → Option (List ℕ)
nearest prefix [] = None
nearest prefix (d ∷ ds) = cond (bytes_eq d.prefix prefix) (Some d.space) (nearest prefix ds)

abbrev pub named : List ℕ → List ℕ → Name
named local space = record { space = space; local = local }

abbrev pub element_name : List Declaration → RawName → Option Name
element_name ds name = option_map (named name.local) (nearest name.prefix ds)

-- the default namespace is for elements alone
abbrev pub attribute_name : List Declaration → RawName → Option Name
attribute_name ds name = cond (bytes_eq name.prefix []) (Some (named name.local [])) (element_name ds name)

abbrev pub attribute_with : List ℕ → Name → Attribute
attribute_with value name = record { name = name; value = value }

abbrev pub attribute_of : List Declaration → RawAttribute → Option Attribute
attribute_of ds a = option_map (attribute_with a.value) (attribute_name ds a.name)

-- an attribute put where it belongs among others; none where one of these has its name
abbrev pub placed_by : Ordering → Attribute → Attribute → List Attribute → Option (List Attribute) → Option (List Attribute)
placed_by order.Less a row rows rest = Some (a ∷ row ∷ rows)
placed_by order.Equal a row rows rest = None
placed_by order.Greater a row rows rest = option_map (λ more. row ∷ more) rest

abbrev pub placed : Attribute → List Attribute → Option (List Attribute)
placed a [] = Some (a ∷ [])
placed a (row ∷ rows) = placed_by (name_cmp a.name row.name) a row rows (placed a rows)

abbrev pub put_one : List Declaration → List Attribute → RawAttribute → Option (List Attribute)
put_one ds rows a = option_and_then (λ e. placed e rows) (attribute_of ds a)

-- the attributes that are no declarations, with what their names mean, put one by one where they belong
abbrev pub put_in_order : List Declaration → List Attribute → List RawAttribute → Option (List Attribute)
put_in_order ds rows [] = Some rows
put_in_order ds rows (a ∷ more) = cond (is_declaration a) (put_in_order ds rows more)
    (option_and_then (λ put. put_in_order ds put more) (put_one ds rows a))

abbrev pub opened : Name → List Declaration → List Attribute → Opening
opened name ds rows = record { name = name; attributes = rows; declarations = ds }

abbrev pub opening_in : List Declaration → List Declaration → Tag → Option Opening
opening_in all ds tag = option_and_then (λ name. option_map (opened name ds) (put_in_order all [] tag.attributes))
    (element_name all tag.name)

-- what a start tag means where these declarations hold outside; none where its declarations aren't lawful, a prefix has
-- none, or two attributes have one name
unfoldable pub opening : List Declaration → Tag → Option Opening
opening outside tag = cond (list_all is_lawful (declarations tag.attributes))
    (opening_in (declarations tag.attributes ++ outside) (declarations tag.attributes) tag) None

-- the same, by the place where it belongs
abbrev pub placed_at : Spot → Attribute → List Attribute → Option (List Attribute)
placed_at Taken a rows = None
placed_at (At index) a rows = Some (insert rows index a)

abbrev pub IsSpotWithin : Spot → ℕ → Type 0
IsSpotWithin Taken most = Unit {0}
IsSpotWithin (At index) most = index ≤ most
