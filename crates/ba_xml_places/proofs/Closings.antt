-- Each state that the machine comes to, but for those inside the byte order mark, is closed by plain bytes.
use Rattle.std.proofs.Common.{ℕ, Bool, false, List, [], ◌∷◌, ◌++◌, drop, codes, encode_utf8, refl, inl, inr}
use Rattle.ba_xml_places.proofs.Elements.{Closes}
use Rattle.ba_xml_places.proofs.Ends.{ends, rest_ends, ends_plain, finish, finishes, finish_plain, part_whole, spelled_joined, letters}
use Rattle.ba_xml_places.proofs.Ends.{letters_named}
use Rattle.ba_xml_places.proofs.Ends.{letters_plain, total, name_new, drop_plain, quoted_plain, heading_closes}
use Rattle.ba_xml_places.proofs.Leads.{Headed, LeadsEnd, Leads}
use Rattle.ba_xml_places.proofs.Live.{ArePlain, PlainAround, LiveMode, IsWithin}
use Rattle.ba_xml_places.proofs.LiveSteps.{plain_joined}
use Rattle.ba_xml_places.proofs.Pieces.{Here, comment_follows}
use Rattle.ba_xml_places.proofs.ReferencesClose.{PartialCloses, partial_closes}
use Rattle.ba_xml_places.proofs.Tags.{LeadsInTag, LeadsValue, LeadsQuote, LeadsEquals, tag_ends, value_ends, quote_begins, equals_ends}
use Rattle.ba_xml_reader.proofs.SoundComments.{LeadsComment, comment_ends}
use Rattle.ba_xml_reader.proofs.SoundNames.{IsPart, raw}
use Rattle.ba_xml_names.specs.inside.Tags.{with_attribute, with_value}
use Rattle.ba_xml_reader.specs.inside.Tags.{no_value}
use Rattle.ba_xml_grammar.specs.Grammar.{no_head}
use Rattle.ba_xml_names.specs.declared.levels.Level.{Level}
use Rattle.ba_xml_words.specs.declared.names.RawAttribute.{RawAttribute}
use Rattle.ba_xml_words.specs.declared.names.RawName.{RawName}
use Rattle.ba_xml_grammar.specs.GrammarWords.{IsQuote}
use Rattle.ba_xml_words.specs.declared.references.Partial.{Partial}
use Rattle.ba_xml_reader.specs.declared.states.Mode.{Mode}
use Rattle.ba_xml_reader.specs.declared.states.Mode.TheVariants as mode
use Rattle.ba_xml_reader.specs.declared.states.Seen.{Seen}
use Rattle.ba_xml_reader.specs.declared.states.Seen.TheVariants.{Zero, One, Two}
use Rattle.ba_xml_names.specs.declared.tags.Tag.{Tag}

-- some plain bytes may follow up to the text's end
abbrev pub Closable : List Level → Level → Mode → Type 0
Closable outer here m = (cs : List ℕ) × ArePlain cs × Leads outer here m cs

-- not inside the byte order mark
abbrev pub IsNoMark : Mode → Type 0
IsNoMark mode.MarkOne = ⊥
IsNoMark mode.MarkTwo = ⊥
IsNoMark _ = Unit {0}

-- not in an end tag
abbrev IsNoEnd : Mode → Type 0
IsNoEnd (mode.EndName name) = ⊥
IsNoEnd mode.EndSpace = ⊥
IsNoEnd _ = Unit {0}

module _ (outer : List Level) (here : Level) (p : PlainAround outer here) where
  -- what is left outside of tags
  left : List ℕ
  left = finish outer here.content here.spelled

  left_plain : ArePlain left
  unfolding left
  left_plain = finish_plain outer here.content here.spelled p.0 p.1

  left_follows : (seen : Seen) → Here outer here seen left
  unfolding left
  left_follows seen = finishes outer here.content here.spelled seen

  left_headed : Headed outer here left
  left_headed = (no_head, left, tt, refl, left_follows Zero)

  -- what is left inside of tags, from "/>" on
  slash : List ℕ
  slash = 47 ∷ 62 ∷ ends outer here.spelled

  slash_plain : ArePlain slash
  unfolding slash
  slash_plain = (refl, (refl, ends_plain outer here.spelled p.0 p.1))

  slash_closes : (name : RawName) → Closes outer here name slash
  unfolding slash
  slash_closes name = inl (ends outer here.spelled, refl, rest_ends outer here.spelled Zero)

  tag_closes : (t : Tag) (spaced : Bool) → LeadsInTag (Closes outer here) t spaced slash
  tag_closes t spaced = tag_ends (Closes outer here) t spaced slash (slash_closes t.name)

  value_closes : (t : Tag) (a : RawAttribute) (quote : ℕ) → LeadsValue (Closes outer here) t a quote (quote ∷ slash)
  value_closes t a quote = value_ends (Closes outer here) t a quote slash (tag_closes (with_attribute t a) false)

  quote_closes : (t : Tag) (name : RawName) → LeadsQuote (Closes outer here) t name (39 ∷ 39 ∷ slash)
  quote_closes t name = quote_begins (Closes outer here) t name 39 (39 ∷ slash) (inr refl) (value_closes t (no_value name) 39)

  equals_closes : (t : Tag) (name : RawName) → LeadsEquals (Closes outer here) t name (61 ∷ 39 ∷ 39 ∷ slash)
  equals_closes t name = equals_ends (Closes outer here) t name (39 ∷ 39 ∷ slash) (quote_closes t name)

  -- ---- comments and sections

  comment_closes : LeadsComment Two (λ rest. Here outer here Zero rest) (62 ∷ left)
  comment_closes = comment_ends (λ rest. Here outer here Zero rest) left (left_follows Zero)

  open_closes : (seen : Seen) → Here outer here seen (60 ∷ 33 ∷ 45 ∷ 45 ∷ 45 ∷ 45 ∷ 62 ∷ left)
  open_closes seen = comment_follows outer here.content here.spelled seen (45 ∷ 45 ∷ 62 ∷ left) comment_closes

  ended_plain : ArePlain (45 ∷ 45 ∷ 62 ∷ left)
  ended_plain = (refl, (refl, (refl, left_plain)))

  comment_closable : (seen : Seen) → Closable outer here (mode.Comment seen)
  comment_closable Zero = (45 ∷ 45 ∷ 62 ∷ left, ended_plain, comment_closes)
  comment_closable One = (45 ∷ 62 ∷ left, (refl, (refl, left_plain)), comment_closes)
  comment_closable Two = (62 ∷ left, (refl, left_plain), comment_closes)

  section_closable : (body : List ℕ) (seen : Seen) → Closable outer here (mode.Section body seen)
  section_closable body Zero = (93 ∷ 93 ∷ 62 ∷ left, (refl, (refl, (refl, left_plain))), ([], left, (tt, tt), refl, left_follows Zero))
  section_closable body One = (93 ∷ 62 ∷ left, (refl, (refl, left_plain)), ([], left, (tt, tt), refl, left_follows Zero))
  section_closable body Two = (62 ∷ left, (refl, left_plain), ([], left, (tt, tt), refl, left_follows Zero))

  -- ---- names

  tag_name_closable : (name : RawName) → IsPart name → Closable outer here (mode.TagName name)
  tag_name_closable name i = (
    97 ∷ slash,
    (refl, slash_plain),
    (
      raw name.prefix (name.local ++ 97 ∷ []),
      97 ∷ [],
      slash,
      part_whole name [] i tt,
      spelled_joined name.prefix name.local (97 ∷ []),
      refl,
      tag_closes (record { name = raw name.prefix (name.local ++ 97 ∷ []); attributes = [] }) false,
    ),
  )

  attribute_name_closable : (t : Tag) (name : RawName) → IsPart name → Closable outer here (mode.AttributeName t name)
  attribute_name_closable t name i = (
    (97 ∷ letters (total t.attributes)) ++ 61 ∷ 39 ∷ 39 ∷ slash,
    plain_joined (97 ∷ letters (total t.attributes)) (61 ∷ 39 ∷ 39 ∷ slash) (refl, letters_plain (total t.attributes))
        (refl, (refl, (refl, slash_plain))),
    (
      raw name.prefix (name.local ++ 97 ∷ letters (total t.attributes)),
      97 ∷ letters (total t.attributes),
      61 ∷ 39 ∷ 39 ∷ slash,
      part_whole name (letters (total t.attributes)) i (letters_named (total t.attributes)),
      spelled_joined name.prefix name.local (97 ∷ letters (total t.attributes)),
      refl,
      (name_new name t.attributes, equals_closes t (raw name.prefix (name.local ++ 97 ∷ letters (total t.attributes)))),
    ),
  )

  -- ---- references

  reference_closable : (partial : Partial) → PartialCloses partial → Closable outer here (mode.Reference partial)
  reference_closable partial r = (r.0 ++ left, plain_joined r.0 left r.3 left_plain, (r.0, left, r.1, r.2, refl, left_follows Zero))

  value_reference_closable : (t : Tag) (a : RawAttribute) (quote : ℕ) (partial : Partial) → IsQuote quote → PartialCloses partial
      → Closable outer here (mode.ValueReference t a quote partial)
  value_reference_closable t a quote partial q r = (
    r.0 ++ quote ∷ slash,
    plain_joined r.0 (quote ∷ slash) r.3 (quoted_plain quote slash q slash_plain),
    (r.0, quote ∷ slash, r.1, r.2, refl, value_closes t (with_value a (encode_utf8 r.1)) quote),
  )

  bracketed_closable : (count : ℕ) → Closable outer here (mode.Bracketed count)
  bracketed_closable count = (
    drop count (codes "CDATA[") ++ 93 ∷ 93 ∷ 62 ∷ left,
    plain_joined (drop count (codes "CDATA[")) (93 ∷ 93 ∷ 62 ∷ left)
        (drop_plain count (codes "CDATA[") (refl, (refl, (refl, (refl, (refl, (refl, tt))))))) (refl, (refl, (refl, left_plain))),
    (93 ∷ 93 ∷ 62 ∷ left, refl, ([], left, (tt, tt), refl, left_follows Zero)),
  )

  -- ---- each state outside of end tags

  closable : (m : Mode) (last : ℕ) → IsNoMark m → IsNoEnd m → LiveMode last outer m → Closable outer here m
  closable mode.Begin last n e l = (left, left_plain, (false, left, refl, left_headed))
  closable mode.MarkOne last n e l = absurd n
  closable mode.MarkTwo last n e l = absurd n
  closable mode.First last n e l = (left, left_plain, left_headed)
  closable mode.FirstOpen last n e l = (
    33 ∷ 45 ∷ 45 ∷ 45 ∷ 45 ∷ 62 ∷ left,
    (refl, (refl, (refl, ended_plain))),
    (no_head, 60 ∷ 33 ∷ 45 ∷ 45 ∷ 45 ∷ 45 ∷ 62 ∷ left, tt, refl, open_closes Zero),
  )
  closable (mode.Declaring h) last n e l = heading_closes (λ rest. Here outer here Zero rest) left (left_follows Zero) left_plain h l
  closable (mode.Inside seen) last n e l = (left, left_plain, left_follows seen)
  closable mode.Open last n e l = (33 ∷ 45 ∷ 45 ∷ 45 ∷ 45 ∷ 62 ∷ left, (refl, (refl, (refl, ended_plain))), open_closes)
  closable mode.Exclaimed last n e l = (45 ∷ 45 ∷ 45 ∷ 45 ∷ 62 ∷ left, (refl, (refl, ended_plain)), open_closes)
  closable mode.Hyphened last n e l = (45 ∷ 45 ∷ 45 ∷ 62 ∷ left, (refl, ended_plain), open_closes)
  closable (mode.Comment seen) last n e l = comment_closable seen
  closable (mode.Bracketed count) last n e l = bracketed_closable count
  closable (mode.Section body seen) last n e l = section_closable body seen
  closable (mode.Reference partial) last n e l = reference_closable partial (partial_closes partial l)
  closable (mode.TagName name) last n e l = tag_name_closable name l
  closable (mode.InTag t spaced) last n e l = (slash, slash_plain, tag_closes t spaced)
  closable (mode.AttributeName t name) last n e l = attribute_name_closable t name l.1
  closable (mode.Equals t name) last n e l = (61 ∷ 39 ∷ 39 ∷ slash, (refl, (refl, (refl, slash_plain))), equals_closes t name)
  closable (mode.Quote t name) last n e l = (39 ∷ 39 ∷ slash, (refl, (refl, slash_plain)), quote_closes t name)
  closable (mode.Value t a quote) last n e l = (quote ∷ slash, quoted_plain quote slash l.1 slash_plain, value_closes t a quote)
  closable (mode.ValueReference t a quote partial) last n e l = value_reference_closable t a quote partial l.1 (partial_closes partial l.2)
  closable (mode.Slashed o) last n e l = (
    62 ∷ ends outer here.spelled,
    (refl, ends_plain outer here.spelled p.0 p.1),
    (ends outer here.spelled, refl, rest_ends outer here.spelled Zero),
  )
  closable (mode.EndName name) last n e l = absurd e
  closable mode.EndSpace last n e l = absurd e

end_closable : (outer : List Level) (here : Level) (name : List ℕ) → PlainAround outer here → IsWithin outer → ArePlain name
    → (cs : List ℕ) × ArePlain cs × LeadsEnd outer name cs
end_closable [] here name p w n = absurd w
end_closable (parent ∷ above) here name p w n = (
  name ++ 62 ∷ ends above parent.spelled,
  plain_joined name (62 ∷ ends above parent.spelled) n (refl, ends_plain above parent.spelled p.1.0 p.1.1),
  ([], ends above parent.spelled, tt, refl, rest_ends above parent.spelled Zero),
)

pub closes : (outer : List Level) (here : Level) (m : Mode) (last : ℕ) → PlainAround outer here → IsNoMark m → LiveMode last outer m
    → Closable outer here m
closes outer here (mode.EndName name) last p n l = end_closable outer here name p l.0 l.1
closes outer here mode.EndSpace last p n l = end_closable outer here [] p l tt
closes outer here m last p n l = closable outer here p m last n tt l
