-- Believe: texts of XML 1.0 as their productions make them: what is written, what it means, and what may stand where.
use Rattle.std.specs.Prelude.{◌≡◌, ℕ, ◌+◌, ◌≤◌, Bool, true, false, cond, Option, Some, None, List, [], ◌∷◌, ◌++◌, map, length, codes}
use Rattle.std.specs.Prelude.{encode_utf8}
use Rattle.std.specs.Char.{to_ascii_lowercase}
use Rattle.ba_tree.specs.declared.trees.Content.{Content}
use Rattle.ba_tree.specs.declared.trees.Content.TheVariants.{Child, Text}
use Rattle.ba_tree.specs.declared.trees.Tree.{Tree}
use Rattle.ba_xml_words.specs.Classes.{is_space}
use Rattle.ba_xml_grammar.specs.GrammarWords.{Each, IsFront, Nowhere, Differ, IsWhite, IsGap, is_character, IsName, written_name, Reference}
use Rattle.ba_xml_grammar.specs.GrammarWords.{written_reference, character_of, IsReference, IsQuote}
use Rattle.ba_xml_names.specs.Namespaces.{opening}
use Rattle.ba_xml_names.specs.declared.levels.Declaration.{Declaration}
use Rattle.ba_xml_names.specs.declared.levels.Opening.{Opening}
use Rattle.ba_xml_words.specs.declared.names.RawName.{RawName}
use Rattle.ba_xml_words.specs.declared.names.RawAttribute.{RawAttribute}
use Rattle.ba_xml_names.specs.declared.tags.Tag.{Tag}

-- ---- what a text is made of

-- what stands in an attribute's quotes (AttValue, production 10)
pub data Value : Type 0 where
  value_end : Value
  value_character : ℕ → Value → Value
  value_reference : Reference → Value → Value

-- white space, and an attribute: a name, "=" and a value (productions 25 and 41)
pub record Pair : Type 0 where
  pub gap : List ℕ
  pub name : RawName
  pub left : List ℕ
  pub right : List ℕ
  pub quote : ℕ
  pub value : Value

-- a start tag up to its ">" or "/>" (STag and EmptyElemTag, productions 40 and 44)
pub record Start : Type 0 where
  pub name : RawName
  pub pairs : List Pair
  pub space : List ℕ

-- content, piece after piece (productions 14, 15, 18, 39, 43 and 67)
pub data Pieces : Type 0 where
  nothing : Pieces
  character : ℕ → Pieces → Pieces
  reference : Reference → Pieces → Pieces
  section : List ℕ → Pieces → Pieces
  comment : List ℕ → Pieces → Pieces
  empty : Start → Pieces → Pieces
  -- a start tag, what stands inside, and the white space of the end tag
  element : Start → Pieces → List ℕ → Pieces → Pieces

-- comments and white space (Misc, production 27; there are no processing instructions)
pub data Misc : Type 0 where
  misc_end : Misc
  misc_space : ℕ → Misc → Misc
  misc_comment : List ℕ → Misc → Misc

-- how the declaration says one thing: the white space before it and around "=", and the quote
pub record Saying : Type 0 where
  pub gap : List ℕ
  pub left : List ℕ
  pub right : List ℕ
  pub quote : ℕ

-- EncodingDecl and SDDecl (productions 80 and 32), which may be left out
pub data Encoding : Type 0 where
  no_encoding : Encoding
  encoding : Saying → List ℕ → Encoding

pub data Standalone : Type 0 where
  no_standalone : Standalone
  standalone : Saying → Bool → Standalone

-- XMLDecl (production 23), which may be left out
pub data Head : Type 0 where
  no_head : Head
  head : Saying → Encoding → Standalone → List ℕ → Head

-- a document (production 1), with or without the byte order mark
pub record Document : Type 0 where
  pub mark : Bool
  pub heading : Head
  pub before : Misc
  pub root : Pieces
  pub behind : Misc

-- ---- how it is written: the bytes, and then those that follow

abbrev pub written_value : Value → List ℕ → List ℕ
written_value value_end rest = rest
written_value (value_character b more) rest = b ∷ written_value more rest
written_value (value_reference r more) rest = written_reference r (written_value more rest)

abbrev pub written_quoted : ℕ → Value → List ℕ → List ℕ
written_quoted quote value rest = quote ∷ written_value value (quote ∷ rest)

-- an attribute from its name on
abbrev pub written_attribute : Pair → List ℕ → List ℕ
written_attribute a rest = written_name a.name (a.left ++ 61 ∷ (a.right ++ written_quoted a.quote a.value rest))

abbrev pub written_pair : Pair → List ℕ → List ℕ
written_pair a rest = a.gap ++ written_attribute a rest

abbrev pub written_pairs : List Pair → List ℕ → List ℕ
written_pairs [] rest = rest
written_pairs (a ∷ more) rest = written_pair a (written_pairs more rest)

-- a start tag from its name on
abbrev pub written_tag : Start → List ℕ → List ℕ
written_tag s rest = written_name s.name (written_pairs s.pairs (s.space ++ rest))

abbrev pub written_start : Start → List ℕ → List ℕ
written_start s rest = 60 ∷ written_tag s rest

-- "</", the name and ">" (ETag, production 42)
abbrev pub written_end : RawName → List ℕ → List ℕ → List ℕ
written_end name space rest = 60 ∷ 47 ∷ written_name name (space ++ 62 ∷ rest)

-- "<!--" and "-->"
abbrev pub written_comment : List ℕ → List ℕ → List ℕ
written_comment body rest = 60 ∷ 33 ∷ 45 ∷ 45 ∷ (body ++ 45 ∷ 45 ∷ 62 ∷ rest)

-- "<![CDATA[" and "]]>"
abbrev pub written_section : List ℕ → List ℕ → List ℕ
written_section body rest = 60 ∷ 33 ∷ 91 ∷ 67 ∷ 68 ∷ 65 ∷ 84 ∷ 65 ∷ 91 ∷ (body ++ 93 ∷ 93 ∷ 62 ∷ rest)

abbrev pub written : Pieces → List ℕ → List ℕ
written nothing rest = rest
written (character b more) rest = b ∷ written more rest
written (reference r more) rest = written_reference r (written more rest)
written (section body more) rest = written_section body (written more rest)
written (comment body more) rest = written_comment body (written more rest)
written (empty s more) rest = written_start s (47 ∷ 62 ∷ written more rest)
written (element s inside space more) rest = written_start s (62 ∷ written inside (written_end s.name space (written more rest)))

abbrev pub written_misc : Misc → List ℕ → List ℕ
written_misc misc_end rest = rest
written_misc (misc_space b more) rest = b ∷ written_misc more rest
written_misc (misc_comment body more) rest = written_comment body (written_misc more rest)

abbrev pub written_saying : Saying → List ℕ → List ℕ → List ℕ → List ℕ
written_saying s word value rest = s.gap ++ (word ++ (s.left ++ 61 ∷ (s.right ++ s.quote ∷ (value ++ s.quote ∷ rest))))

abbrev pub written_encoding : Encoding → List ℕ → List ℕ
written_encoding no_encoding rest = rest
written_encoding (encoding s name) rest = written_saying s (codes "encoding") name rest

abbrev pub yes_or_no : Bool → List ℕ
yes_or_no true = codes "yes"
yes_or_no false = codes "no"

abbrev pub written_standalone : Standalone → List ℕ → List ℕ
written_standalone no_standalone rest = rest
written_standalone (standalone s answer) rest = written_saying s (codes "standalone") (yes_or_no answer) rest

abbrev pub written_heading : Head → List ℕ → List ℕ
written_heading no_head rest = rest
written_heading (head version e s space) rest =
    codes "<?xml" ++ written_saying version (codes "version") (codes "1.0")
    (written_encoding e (written_standalone s (space ++ (codes "?>" ++ rest))))

abbrev pub written_mark : Bool → List ℕ → List ℕ
written_mark true rest = 0xEF ∷ 0xBB ∷ 0xBF ∷ rest
written_mark false rest = rest

abbrev pub written_document : Document → List ℕ
written_document d = written_mark d.mark (written_heading d.heading (written_misc d.before (written d.root (written_misc d.behind []))))

-- ---- what it means

-- white space that is written in a value counts as a space (section 3.3.3); what a reference means stays
abbrev pub value_of : Value → List ℕ
value_of value_end = []
value_of (value_character b more) = cond (is_space b) 32 b ∷ value_of more
value_of (value_reference r more) = encode_utf8 (character_of r) ++ value_of more

abbrev pub attribute : Pair → RawAttribute
attribute a = record { name = a.name; value = value_of a.value }

abbrev pub tag : Start → Tag
tag s = record { name = s.name; attributes = map attribute s.pairs }

-- an element that no declaration explains has no meaning; here it gets one, so that each has
abbrev pub or_nothing : Option Opening → Opening
or_nothing (Some o) = o
or_nothing None = record { name = record { space = []; local = [] }; attributes = []; declarations = [] }

abbrev pub meant : List Declaration → Start → Opening
meant scope s = or_nothing (opening scope (tag s))

abbrev pub element_tree : Opening → List Content → Tree
element_tree o content = record { name = o.name; attributes = o.attributes; content = content }

-- the characters up to the first element
abbrev pub leading : Pieces → List ℕ
leading nothing = []
leading (character b more) = b ∷ leading more
leading (reference r more) = encode_utf8 (character_of r) ++ leading more
leading (section body more) = body ++ leading more
leading (comment body more) = leading more
leading (empty s more) = []
leading (element s inside space more) = []

-- empty texts are left out
abbrev pub if_some : List ℕ → List Content
if_some [] = []
if_some (b ∷ bs) = Text (b ∷ bs) ∷ []

-- what stands from the first element on, where these declarations hold
abbrev pub following : List Declaration → Pieces → List Content
following scope nothing = []
following scope (character b more) = following scope more
following scope (reference r more) = following scope more
following scope (section body more) = following scope more
following scope (comment body more) = following scope more
following scope (empty s more) = Child (element_tree (meant scope s) []) ∷ (if_some (leading more) ++ following scope more)
following scope (element s inside space more) =
    Child (element_tree (meant scope s) (if_some (leading inside) ++ following ((meant scope s).declarations ++ scope) inside))
    ∷ (if_some (leading more) ++ following scope more)

-- the characters between two elements are one text
abbrev pub meaning : List Declaration → Pieces → List Content
meaning scope p = if_some (leading p) ++ following scope p

-- ---- what may stand where

-- characters without "<", "&" and the quote, and references
abbrev pub IsValue : ℕ → Value → Type 0
IsValue quote value_end = Unit {0}
IsValue quote (value_character b more) = (is_character b ≡ true) × Differ b 60 × Differ b 38 × Differ b quote × IsValue quote more
IsValue quote (value_reference r more) = IsReference r × IsValue quote more

-- no name stands twice in a tag (Unique Att Spec, section 3.1)
abbrev pub IsNew : RawName → List RawAttribute → Type 0
IsNew name [] = Unit {0}
IsNew name (a ∷ before) = (name ≡ a.name → ⊥) × IsNew name before

abbrev pub IsPair : List RawAttribute → Pair → Type 0
IsPair before a = IsGap a.gap × IsName a.name × IsNew a.name before × IsWhite a.left × IsWhite a.right × IsQuote a.quote
    × IsValue a.quote a.value

-- attributes behind these
abbrev pub ArePairs : List RawAttribute → List Pair → Type 0
ArePairs before [] = Unit {0}
ArePairs before (a ∷ more) = IsPair before a × ArePairs (before ++ attribute a ∷ []) more

abbrev pub IsStart : Start → Type 0
IsStart s = IsName s.name × ArePairs [] s.pairs × IsWhite s.space

-- characters without "--", which don't end with "-"
abbrev pub IsComment : List ℕ → Type 0
IsComment body = Each is_character body × Nowhere (45 ∷ 45 ∷ []) (body ++ 45 ∷ [])

-- characters without "]]>"
abbrev pub IsSection : List ℕ → Type 0
IsSection body = Each is_character body × Nowhere (93 ∷ 93 ∷ 62 ∷ []) body

-- the characters that stand here in a row (CharData, production 14)
abbrev pub row : Pieces → List ℕ
row nothing = []
row (character b more) = b ∷ row more
row (reference r more) = []
row (section body more) = []
row (comment body more) = []
row (empty s more) = []
row (element s inside space more) = []

-- a character isn't "<" or "&", and "]]>" doesn't begin with it
abbrev pub IsText : ℕ → Pieces → Type 0
IsText b more = (is_character b ≡ true) × Differ b 60 × Differ b 38 × (IsFront (93 ∷ 93 ∷ 62 ∷ []) (b ∷ row more) → ⊥)

abbrev pub Allowed : Pieces → Type 0
Allowed nothing = Unit {0}
Allowed (character b more) = IsText b more × Allowed more
Allowed (reference r more) = IsReference r × Allowed more
Allowed (section body more) = IsSection body × Allowed more
Allowed (comment body more) = IsComment body × Allowed more
Allowed (empty s more) = IsStart s × Allowed more
Allowed (element s inside space more) = IsStart s × Allowed inside × IsWhite space × Allowed more

abbrev pub IsMisc : Misc → Type 0
IsMisc misc_end = Unit {0}
IsMisc (misc_space b more) = (is_space b ≡ true) × IsMisc more
IsMisc (misc_comment body more) = IsComment body × IsMisc more

-- one element
abbrev pub IsRoot : Pieces → Type 0
IsRoot (empty s nothing) = Unit {0}
IsRoot (element s inside space nothing) = Unit {0}
IsRoot _ = ⊥

abbrev pub IsSaying : Saying → Type 0
IsSaying s = IsGap s.gap × IsWhite s.left × IsWhite s.right × IsQuote s.quote

-- UTF-8, in any case of its letters
abbrev pub IsEncoding : Encoding → Type 0
IsEncoding no_encoding = Unit {0}
IsEncoding (encoding s name) = IsSaying s × (map to_ascii_lowercase name ≡ codes "utf-8")

abbrev pub IsStandalone : Standalone → Type 0
IsStandalone no_standalone = Unit {0}
IsStandalone (standalone s answer) = IsSaying s

abbrev pub IsHeading : Head → Type 0
IsHeading no_head = Unit {0}
IsHeading (head version e s space) = IsSaying version × IsEncoding e × IsStandalone s × IsWhite space

abbrev pub IsDocument : Document → Type 0
IsDocument d = IsHeading d.heading × IsMisc d.before × IsRoot d.root × Allowed d.root × IsMisc d.behind

-- ---- prefixes: the declarations that hold explain each start tag (Namespaces in XML 1.0)

abbrev pub IsExplained : List Declaration → Start → Type 0
IsExplained scope s = (o : Opening) × (opening scope (tag s) ≡ Some o)

abbrev pub Resolves : List Declaration → Pieces → Type 0
Resolves scope nothing = Unit {0}
Resolves scope (character b more) = Resolves scope more
Resolves scope (reference r more) = Resolves scope more
Resolves scope (section body more) = Resolves scope more
Resolves scope (comment body more) = Resolves scope more
Resolves scope (empty s more) = IsExplained scope s × Resolves scope more
Resolves scope (element s inside space more) = IsExplained scope s × Resolves ((meant scope s).declarations ++ scope) inside
    × Resolves scope more

-- ---- size: an element stands at level 32 at most, and a tag has at most 32 attributes

abbrev pub Small : ℕ → Pieces → Type 0
Small level nothing = Unit {0}
Small level (character b more) = Small level more
Small level (reference r more) = Small level more
Small level (section body more) = Small level more
Small level (comment body more) = Small level more
Small level (empty s more) = (level ≤ 32) × (length s.pairs ≤ 32) × Small level more
Small level (element s inside space more) = (level ≤ 32) × (length s.pairs ≤ 32) × Small (level + 1) inside × Small level more
