-- What may follow in each state of the machine up to the text's end, whatever prefixes mean and however large the text is.
use Rattle.std.proofs.Common.{◌≡◌, ℕ, Bool, List, ◌∷◌, ◌++◌, [], drop, codes}
use Rattle.ba_xml_places.proofs.Elements.{Closes, BehindTagName}
use Rattle.ba_xml_reader.proofs.SoundDeclaring.{LeadsHeading}
use Rattle.ba_xml_places.proofs.Pieces.{Rest, Here, LeadsReference}
use Rattle.ba_xml_places.proofs.Tags.{LeadsInTag, LeadsValue, LeadsValueReference, LeadsQuote, LeadsEquals, BehindName}
use Rattle.ba_xml_reader.proofs.SoundComments.{LeadsComment}
use Rattle.ba_xml_reader.proofs.SoundHeadings.{HeadOf}
use Rattle.ba_xml_reader.proofs.SoundNames.{LeadsName}
use Rattle.ba_xml_reader.proofs.SoundSections.{LeadsSection}
use Rattle.ba_xml_grammar.specs.Grammar.{written_mark}
use Rattle.ba_xml_grammar.specs.GrammarWords.{IsWhite}
use Rattle.ba_xml_names.specs.declared.levels.Level.{Level}
use Rattle.ba_xml_reader.specs.declared.states.Mode.{Mode}
use Rattle.ba_xml_reader.specs.declared.states.Mode.TheVariants as mode
use Rattle.ba_xml_reader.specs.declared.states.Seen.{Seen}
use Rattle.ba_xml_reader.specs.declared.states.Seen.TheVariants.{Zero}
use Rattle.ba_xml_reader.specs.declared.states.State.{State}
use Rattle.ba_xml_reader.specs.declared.states.State.TheVariants.{Refused, At}

-- a declaration, or none, and what follows it
abbrev pub Headed : List Level → Level → List ℕ → Type 0
Headed outer here bs = HeadOf (λ rest. Here outer here Zero rest) bs

-- the byte order mark, or none, and that
abbrev pub IsBegun : List Level → Level → List ℕ → Type 0
IsBegun outer here bs = (mark : Bool) × (rest : List ℕ) × (bs ≡ written_mark mark rest) × Headed outer here rest

-- the rest of a section, and then what follows it
abbrev pub LeadsBody : List Level → Level → List ℕ → Seen → List ℕ → Type 0
LeadsBody outer here acc seen bs = LeadsSection acc seen (λ body rest. Here outer here Zero rest) bs

-- the rest of an end tag's name, white space and ">"
abbrev pub LeadsEnd : List Level → List ℕ → List ℕ → Type 0
LeadsEnd [] name bs = ⊥
LeadsEnd (parent ∷ above) name bs =
    (space : List ℕ) × (rest : List ℕ) × IsWhite space × (bs ≡ name ++ (space ++ 62 ∷ rest)) × Rest above parent.spelled Zero rest

abbrev pub Leads : List Level → Level → Mode → List ℕ → Type 0
Leads outer here mode.Begin bs = IsBegun outer here bs
Leads outer here mode.MarkOne bs = (rest : List ℕ) × (bs ≡ 0xBB ∷ 0xBF ∷ rest) × Headed outer here rest
Leads outer here mode.MarkTwo bs = (rest : List ℕ) × (bs ≡ 0xBF ∷ rest) × Headed outer here rest
Leads outer here mode.First bs = Headed outer here bs
Leads outer here mode.FirstOpen bs = Headed outer here (60 ∷ bs)
Leads outer here (mode.Declaring heading) bs = LeadsHeading (λ rest. Here outer here Zero rest) heading bs
Leads outer here (mode.Inside seen) bs = Here outer here seen bs
Leads outer here mode.Open bs = (seen : Seen) → Here outer here seen (60 ∷ bs)
Leads outer here mode.Exclaimed bs = (seen : Seen) → Here outer here seen (60 ∷ 33 ∷ bs)
Leads outer here mode.Hyphened bs = (seen : Seen) → Here outer here seen (60 ∷ 33 ∷ 45 ∷ bs)
Leads outer here (mode.Comment seen) bs = LeadsComment seen (λ rest. Here outer here Zero rest) bs
Leads outer here (mode.Bracketed count) bs = (rest : List ℕ)
    × (bs ≡ drop count (codes "CDATA[") ++ rest) × LeadsBody outer here [] Zero rest
Leads outer here (mode.Section body seen) bs = LeadsBody outer here body seen bs
Leads outer here (mode.Reference partial) bs = LeadsReference (λ rest. Here outer here Zero rest) partial bs
Leads outer here (mode.TagName name) bs = LeadsName name (BehindTagName outer here) bs
Leads outer here (mode.InTag tag spaced) bs = LeadsInTag (Closes outer here) tag spaced bs
Leads outer here (mode.AttributeName tag name) bs = LeadsName name (BehindName (Closes outer here) tag) bs
Leads outer here (mode.Equals tag name) bs = LeadsEquals (Closes outer here) tag name bs
Leads outer here (mode.Quote tag name) bs = LeadsQuote (Closes outer here) tag name bs
Leads outer here (mode.Value tag a quote) bs = LeadsValue (Closes outer here) tag a quote bs
Leads outer here (mode.ValueReference tag a quote partial) bs = LeadsValueReference (Closes outer here) tag a quote partial bs
Leads outer here (mode.Slashed o) bs = (rest : List ℕ) × (bs ≡ 62 ∷ rest) × Rest outer here.spelled Zero rest
Leads outer here (mode.EndName name) bs = LeadsEnd outer name bs
Leads outer here mode.EndSpace bs = LeadsEnd outer [] bs

abbrev pub Goes : State → List ℕ → Type 0
Goes (Refused r) bs = ⊥
Goes (At outer here m) bs = Leads outer here m bs
