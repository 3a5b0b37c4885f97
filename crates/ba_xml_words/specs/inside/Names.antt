-- Inside: names as they are written, byte by byte.
use Rattle.std.specs.Prelude.{ℕ, Bool, List, [], ◌∷◌, ◌++◌, ◌&&◌, bytes_eq}
use Rattle.std.specs.List.{list_any}
use Rattle.ba_xml_words.specs.declared.classes.Class.{Class}
use Rattle.ba_xml_words.specs.declared.classes.Class.TheVariants as class
use Rattle.ba_xml_words.specs.declared.names.RawName.{RawName}
use Rattle.ba_xml_words.specs.declared.names.RawAttribute.{RawAttribute}
use Rattle.ba_xml_words.specs.declared.names.Naming.{Naming}
use Rattle.ba_xml_words.specs.declared.names.Naming.TheVariants.{On, Whole, Wrong}

-- the bytes of a name with this prefix
abbrev pub joined : List ℕ → List ℕ → List ℕ
joined [] local = local
joined (b ∷ bs) local = (b ∷ bs) ++ 58 ∷ local

abbrev pub spelled : RawName → List ℕ
spelled name = joined name.prefix name.local

abbrev pub one_letter : ℕ → RawName
one_letter b = record { prefix = []; local = b ∷ [] }

abbrev pub lettered : RawName → ℕ → Naming
lettered name b = On (record { prefix = name.prefix; local = name.local ++ b ∷ [] })

abbrev pub if_begun : List ℕ → Naming → Naming
if_begun [] naming = Wrong
if_begun (x ∷ xs) naming = naming

abbrev pub if_single : List ℕ → Naming → Naming
if_single [] naming = naming
if_single (x ∷ xs) naming = Wrong

abbrev pub unlettered : RawName → ℕ → Naming
unlettered name b = if_begun name.local (lettered name b)

abbrev pub parted : RawName → Naming
parted name = if_begun name.local (if_single name.prefix (On (record { prefix = name.local; local = [] })))

abbrev pub completed : RawName → Naming
completed name = if_begun name.local (Whole name)

-- where a name stands after a byte of this class
abbrev pub grown : RawName → ℕ → Class → Naming
grown name b class.Letter = lettered name b
grown name b class.Digit = unlettered name b
grown name b class.Hyphen = unlettered name b
grown name b class.Colon = parted name
grown name b class.Space = completed name
grown name b class.EqualsSign = completed name
grown name b class.Slash = completed name
grown name b class.Greater = completed name
grown name b _ = Wrong

abbrev pub same_name : RawName → RawName → Bool
same_name name other = bytes_eq name.prefix other.prefix && bytes_eq name.local other.local

-- whether one of the attributes has the name
abbrev pub is_written : RawName → List RawAttribute → Bool
is_written name attributes = list_any (λ a. same_name name a.name) attributes

-- a name with more letters
abbrev pub with_letters : RawName → List ℕ → RawName
with_letters name bytes = record { prefix = name.prefix; local = name.local ++ bytes }
