-- Believe: what the names of a start tag mean, in the words of Namespaces in XML 1.0 (sections 3 to 6). Here the
-- default namespace may be bound to that of `xml`, and any prefix to that of `xmlns`.
use Rattle.std.specs.Prelude.{◌≡◌, ℕ, ◌⊎◌, IsTrue, List, [], ◌∷◌, ◌++◌, codes}
use Rattle.ba_tree.specs.Trees.{rises}
use Rattle.ba_tree.specs.declared.trees.Attribute.{Attribute}
use Rattle.ba_tree.specs.declared.trees.Name.{Name}
use Rattle.ba_tree.specs.Namespaces.{xml_space}
use Rattle.ba_xml_names.specs.declared.levels.Declaration.{Declaration}
use Rattle.ba_xml_names.specs.declared.levels.Opening.{Opening}
use Rattle.ba_xml_words.specs.declared.names.RawAttribute.{RawAttribute}
use Rattle.ba_xml_words.specs.declared.names.RawName.{RawName}
use Rattle.ba_xml_names.specs.declared.tags.Tag.{Tag}

-- ---- declarations (section 3)

-- `xmlns` declares the default namespace
abbrev pub IsDefaultDeclaration : RawAttribute → Type 0
IsDefaultDeclaration a = (a.name.prefix ≡ []) × (a.name.local ≡ codes "xmlns")

-- `xmlns:` and a prefix declares the prefix
abbrev pub IsPrefixDeclaration : RawAttribute → Type 0
IsPrefixDeclaration a = a.name.prefix ≡ codes "xmlns"

abbrev pub DeclaresNothing : RawAttribute → Type 0
DeclaresNothing a = (IsDefaultDeclaration a → ⊥) × (IsPrefixDeclaration a → ⊥)

-- the attribute declares this prefix, which is empty for the default namespace, to be of this namespace
abbrev pub Declares : RawAttribute → Declaration → Type 0
Declares a d = (d.space ≡ a.value) × ((IsDefaultDeclaration a × (d.prefix ≡ [])) ⊎ (IsPrefixDeclaration a × (d.prefix ≡ a.name.local)))

-- what the attributes of a tag declare, in their order
abbrev pub AreDeclarations : List RawAttribute → List Declaration → Type 0
AreDeclarations [] ds = ds ≡ []
AreDeclarations (a ∷ more) ds =
    (DeclaresNothing a × AreDeclarations more ds)
    ⊎ ((d : Declaration) × (later : List Declaration) × (ds ≡ d ∷ later) × Declares a d × AreDeclarations more later)

-- the prefix is declared so by right
pub record IsLawful (d : Declaration) : Type 0 where
  -- `xmlns` is never declared
  pub other : d.prefix ≡ codes "xmlns" → ⊥
  -- `xml` has its own namespace, which no other prefix may have
  pub own : d.prefix ≡ codes "xml" → d.space ≡ xml_space
  pub alone : d.space ≡ xml_space → (d.prefix ≡ []) ⊎ (d.prefix ≡ codes "xml")
  -- no prefix is declared empty; the default namespace may be
  pub some : d.space ≡ [] → d.prefix ≡ []

abbrev pub AreLawfulDeclarations : List Declaration → Type 0
AreLawfulDeclarations [] = Unit {0}
AreLawfulDeclarations (d ∷ ds) = IsLawful d × AreLawfulDeclarations ds

-- ---- names (sections 4 to 6.2)

abbrev pub prefix_declared : List ℕ → List ℕ → Declaration
prefix_declared prefix space = record { prefix = prefix; space = space }

abbrev pub IsUndeclared : List ℕ → List Declaration → Type 0
IsUndeclared prefix [] = Unit {0}
IsUndeclared prefix (d ∷ ds) = (d.prefix ≡ prefix → ⊥) × IsUndeclared prefix ds

-- of the declarations that hold, the nearest of them first, the nearest that declares the prefix says this namespace
pub record IsNearest (scope : List Declaration) (prefix space : List ℕ) : Type 0 where
  pub nearer : List Declaration
  pub farther : List Declaration
  pub parts : scope ≡ nearer ++ prefix_declared prefix space ∷ farther
  pub nearest : IsUndeclared prefix nearer

-- an element's name without a prefix is in the default namespace
abbrev pub IsElementName : List Declaration → RawName → Name → Type 0
IsElementName scope raw name = (name.local ≡ raw.local) × IsNearest scope raw.prefix name.space

-- an attribute's name without a prefix is in no namespace
abbrev pub IsAttributeName : List Declaration → RawName → Name → Type 0
IsAttributeName scope raw name =
    (name.local ≡ raw.local)
    × (((raw.prefix ≡ []) × (name.space ≡ [])) ⊎ ((raw.prefix ≡ [] → ⊥) × IsNearest scope raw.prefix name.space))

-- ---- attributes

abbrev pub IsAttribute : List Declaration → RawAttribute → Attribute → Type 0
IsAttribute scope raw a = (a.value ≡ raw.value) × IsAttributeName scope raw.name a.name

-- what the attributes of a tag mean that declare nothing, in their order
abbrev pub AreAttributes : List Declaration → List RawAttribute → List Attribute → Type 0
AreAttributes scope [] meant = meant ≡ []
AreAttributes scope (raw ∷ more) meant =
    ((IsDefaultDeclaration raw ⊎ IsPrefixDeclaration raw) × AreAttributes scope more meant)
    ⊎ (DeclaresNothing raw × (a : Attribute) × (later : List Attribute) × (meant ≡ a ∷ later) × IsAttribute scope raw a
    × AreAttributes scope more later)

-- these put one by one among those, each anywhere
abbrev pub PutAmong : {X : Type 0} → List X → List X → List X → Type 0
PutAmong [] those all = all ≡ those
PutAmong {X} (x ∷ more) those all = (first : List X) × (rest : List X) × (those ≡ first ++ rest) × PutAmong more (first ++ x ∷ rest) all

-- the attributes of a tag in rising order of their names, of which no two are the same (section 6.3)
pub record AreInOrder (scope : List Declaration) (raws : List RawAttribute) (all : List Attribute) : Type 0 where
  pub meant : List Attribute
  pub are : AreAttributes scope raws meant
  pub put : PutAmong meant [] all
  pub rising : IsTrue (rises all)

-- ---- a start tag, where these declarations hold around it

pub record IsMeaning (around : List Declaration) (tag : Tag) (o : Opening) : Type 0 where
  pub declarations : AreDeclarations tag.attributes o.declarations
  pub lawful : AreLawfulDeclarations o.declarations
  -- the element's own declarations hold in its tag, and are nearer than those around it
  pub name : IsElementName (o.declarations ++ around) tag.name o.name
  pub attributes : AreInOrder (o.declarations ++ around) tag.attributes o.attributes
