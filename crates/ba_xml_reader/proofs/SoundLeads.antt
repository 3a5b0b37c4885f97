-- What may follow in each state of the machine behind the declaration, up to the text's end, so that its tree is this one.
use Rattle.std.proofs.Common.{◌≡◌, ℕ, ◌<◌, ◌≤◌, List, [], ◌∷◌, ◌++◌, length, drop, codes}
use Rattle.ba_tree.specs.declared.trees.Tree.{Tree}
use Rattle.ba_xml_reader.proofs.SoundComments.{LeadsComment}
use Rattle.ba_xml_reader.proofs.SoundElements.{Closes, BehindTagName}
use Rattle.ba_xml_reader.proofs.SoundNames.{IsPart, LeadsName}
use Rattle.ba_xml_reader.proofs.SoundPieces.{Follows, LeadsReference}
use Rattle.ba_xml_reader.proofs.SoundSections.{LeadsSection}
use Rattle.ba_xml_reader.proofs.SoundTags.{LeadsInTag, LeadsValue, LeadsValueReference, LeadsQuote, LeadsEquals, BehindName}
use Rattle.ba_xml_names.specs.inside.Levels.{settled, with_child, tree_of, empty_tree, put_all}
use Rattle.ba_xml_grammar.specs.GrammarWords.{IsWhite}
use Rattle.ba_xml_names.specs.declared.levels.Level.{Level}
use Rattle.ba_xml_reader.specs.declared.states.Mode.{Mode}
use Rattle.ba_xml_reader.specs.declared.states.Mode.TheVariants as mode
use Rattle.ba_xml_reader.specs.declared.states.Seen.{Seen}
use Rattle.ba_xml_reader.specs.declared.states.Seen.TheVariants.{Zero}
use Rattle.ba_xml_reader.specs.declared.states.State.{State}
use Rattle.ba_xml_reader.specs.declared.states.State.TheVariants.{Refused, At}

-- the rest of a section, and then what follows the bytes
abbrev pub LeadsBody : List Level → Level → Tree → List ℕ → Seen → List ℕ → Type 0
LeadsBody outer here t acc seen bs = LeadsSection acc seen (λ body rest. Follows outer (put_all here body) Zero rest t) bs

-- the rest of an end tag's name, white space and ">"
abbrev pub LeadsEnd : List Level → Level → Tree → List ℕ → List ℕ → Type 0
LeadsEnd [] here t name bs = ⊥
LeadsEnd (parent ∷ above) here t name bs = (space : List ℕ) × (rest : List ℕ) × IsWhite space × (bs ≡ name ++ (space ++ 62 ∷ rest))
    × Follows above (with_child parent (tree_of here)) Zero rest t

-- nothing is said of the states at the beginning and in the declaration
abbrev pub Leads : List Level → Level → Mode → List ℕ → Tree → Type 0
Leads outer here mode.Begin bs t = Unit {0}
Leads outer here mode.MarkOne bs t = Unit {0}
Leads outer here mode.MarkTwo bs t = Unit {0}
Leads outer here mode.First bs t = Unit {0}
Leads outer here mode.FirstOpen bs t = Unit {0}
Leads outer here (mode.Declaring heading) bs t = Unit {0}
Leads outer here (mode.Inside seen) bs t = Follows outer here seen bs t
Leads outer here mode.Open bs t = (seen : Seen) → Follows outer here seen (60 ∷ bs) t
Leads outer here mode.Exclaimed bs t = (seen : Seen) → Follows outer here seen (60 ∷ 33 ∷ bs) t
Leads outer here mode.Hyphened bs t = (seen : Seen) → Follows outer here seen (60 ∷ 33 ∷ 45 ∷ bs) t
Leads outer here (mode.Comment seen) bs t = LeadsComment seen (λ rest. Follows outer here Zero rest t) bs
Leads outer here (mode.Bracketed count) bs t = (rest : List ℕ) × (bs ≡ drop count (codes "CDATA[") ++ rest)
    × LeadsBody outer here t [] Zero rest
Leads outer here (mode.Section body seen) bs t = LeadsBody outer here t body seen bs
Leads outer here (mode.Reference partial) bs t = LeadsReference outer here t partial bs
Leads outer here (mode.TagName name) bs t = IsPart name → LeadsName name (BehindTagName outer here t) bs
Leads outer here (mode.InTag tag spaced) bs t = length tag.attributes ≤ 32 → LeadsInTag (Closes outer here t) tag spaced bs
Leads outer here (mode.AttributeName tag name) bs t = length tag.attributes < 32 → IsPart name
    → LeadsName name (BehindName (Closes outer here t) tag) bs
Leads outer here (mode.Equals tag name) bs t = length tag.attributes < 32 → LeadsEquals (Closes outer here t) tag name bs
Leads outer here (mode.Quote tag name) bs t = length tag.attributes < 32 → LeadsQuote (Closes outer here t) tag name bs
Leads outer here (mode.Value tag a quote) bs t = length tag.attributes < 32 → LeadsValue (Closes outer here t) tag a quote bs
Leads outer here (mode.ValueReference tag a quote partial) bs t = length tag.attributes < 32
    → LeadsValueReference (Closes outer here t) tag a quote partial bs
Leads outer here (mode.Slashed o) bs t = (rest : List ℕ) × (bs ≡ 62 ∷ rest)
    × Follows outer (with_child (settled here) (empty_tree o)) Zero rest t
Leads outer here (mode.EndName name) bs t = LeadsEnd outer here t name bs
Leads outer here mode.EndSpace bs t = LeadsEnd outer here t [] bs

abbrev pub Goes : State → List ℕ → Tree → Type 0
Goes (Refused r) bs t = ⊥
Goes (At outer here m) bs t = Leads outer here m bs t
