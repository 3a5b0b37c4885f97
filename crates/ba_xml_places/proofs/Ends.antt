-- The end tags of the elements that are open, which may always follow, and the bytes that close names and declarations.
use Rattle.std.proofs.Common.{◌≡◌, ℕ, ◌+◌, ◌<◌, zero, suc, Bool, true, false, List, [], ◌∷◌, ◌++◌, map, length, drop, codes, refl, sym, ap}
use Rattle.std.proofs.Common.{subst, ◌∙◌, inl, inr, arith}
use Rattle.std.proofs.Common.{append_assoc, length-append}
use Rattle.std.proofs.lemmas.List.{drop-map}
use Rattle.ba_tree.specs.declared.trees.Content.{Content}
use Rattle.ba_xml_reader.proofs.SoundDeclaring.{LeadsHeading, LeadsQuote}
use Rattle.ba_xml_places.proofs.Live.{ArePlain, PlainLevels, LiveHeading}
use Rattle.ba_xml_places.proofs.LiveSteps.{plain_joined}
use Rattle.ba_xml_places.proofs.Pieces.{Rest, Around}
use Rattle.ba_xml_reader.proofs.SoundHeadings.{Says, SaysLeft, SaidThen, ItemThen, BehindItem, behind_close}
use Rattle.ba_xml_reader.proofs.SoundNames.{IsPart, raw}
use Rattle.ba_xml_reader.proofs.SoundPieces.{nothing_ends}
use Rattle.ba_xml_words.specs.inside.Headings.{item_text, setting_text, spelling}
use Rattle.ba_xml_words.specs.inside.Names.{spelled, one_letter}
use Rattle.ba_xml_grammar.specs.Grammar.{nothing, empty, misc_end, IsNew}
use Rattle.ba_xml_grammar.specs.GrammarWords.{Each, IsName, is_name_letter, IsPlainName, IsPrefix, IsQuote}
use Rattle.ba_xml_words.specs.declared.headings.Heading.{Heading}
use Rattle.ba_xml_words.specs.declared.headings.Heading.TheVariants as heading'
use Rattle.ba_xml_words.specs.declared.headings.Item.{Item}
use Rattle.ba_xml_words.specs.declared.headings.Item.TheVariants as item
use Rattle.ba_xml_words.specs.declared.headings.Setting.{Setting}
use Rattle.ba_xml_words.specs.declared.headings.Setting.TheVariants as setting
use Rattle.ba_xml_names.specs.declared.levels.Level.{Level}
use Rattle.ba_xml_words.specs.declared.names.RawAttribute.{RawAttribute}
use Rattle.ba_xml_words.specs.declared.names.RawName.{RawName}
use Rattle.ba_xml_reader.specs.declared.states.Seen.{Seen}
use Rattle.ba_xml_reader.specs.declared.states.Seen.TheVariants.{Zero}

-- ---- end tags

-- "</", the name and ">" for each element, the innermost first
abbrev pub ends : List Level → List ℕ → List ℕ
ends [] name = []
ends (parent ∷ above) name = 60 ∷ 47 ∷ (name ++ 62 ∷ ends above parent.spelled)

pub rest_ends : (outer : List Level) (name : List ℕ) (seen : Seen) → Rest outer name seen (ends outer name)
rest_ends [] name seen = (misc_end, tt, refl)
rest_ends (parent ∷ above) name seen =
    (nothing, [], ends above parent.spelled, tt, nothing_ends seen, tt, refl, rest_ends above parent.spelled Zero)

pub ends_plain : (outer : List Level) (name : List ℕ) → ArePlain name → PlainLevels outer → ArePlain (ends outer name)
ends_plain [] name n p = tt
ends_plain (parent ∷ above) name n p =
    (refl, (refl, plain_joined name (62 ∷ ends above parent.spelled) n (refl, ends_plain above parent.spelled p.0 p.1)))

-- before the root an element, within it the end tags, after it nothing
abbrev pub finish : List Level → List Content → List ℕ → List ℕ
finish [] [] name = codes "<a/>"
finish [] (c ∷ cs) name = []
finish (parent ∷ above) content name = ends (parent ∷ above) name

pub finishes : (outer : List Level) (content : List Content) (name : List ℕ) (seen : Seen)
    → Around outer content name seen (finish outer content name)
finishes [] [] name seen = (
  misc_end,
  codes "<a/>",
  tt,
  refl,
  (
    empty (record { name = one_letter 97; pairs = []; space = [] }) nothing,
    [],
    tt,
    (((tt, (refl, tt)), tt, tt), tt),
    refl,
    (misc_end, tt, refl),
  ),
)
finishes [] (c ∷ cs) name seen = (misc_end, tt, refl)
finishes (parent ∷ above) content name seen = rest_ends (parent ∷ above) name seen

pub finish_plain : (outer : List Level) (content : List Content) (name : List ℕ) → ArePlain name → PlainLevels outer
    → ArePlain (finish outer content name)
finish_plain [] [] name n p = (refl, (refl, (refl, (refl, tt))))
finish_plain [] (c ∷ cs) name n p = tt
finish_plain (parent ∷ above) content name n p = ends_plain (parent ∷ above) name n p

-- ---- names

each_joined : (test : ℕ → Bool) (xs ys : List ℕ) → Each test xs → Each test ys → Each test (xs ++ ys)
each_joined test [] ys p q = q
each_joined test (x ∷ xs) ys p q = (p.0, each_joined test xs ys p.1 q)

-- a part of a name with more letters is a name
pub part_whole : (name : RawName) (more : List ℕ) → IsPart name → Each is_name_letter more
    → IsName (raw name.prefix (name.local ++ 97 ∷ more))
part_whole name more p e = (p.0, by name.local p.1)
  where
    by : (local : List ℕ) → IsPrefix local → IsPlainName (local ++ 97 ∷ more)
    by [] q = (refl, e)
    by (x ∷ xs) q = (q.0, each_joined is_name_letter xs (97 ∷ more) q.1 (refl, e))

pub spelled_joined : (prefix local more : List ℕ) → spelled (raw prefix (local ++ more)) ≡ spelled (raw prefix local) ++ more
spelled_joined [] local more = refl
spelled_joined (q ∷ qs) local more = sym (append_assoc (q ∷ qs) (58 ∷ local) more)

-- as many letters
abbrev pub letters : ℕ → List ℕ
letters zero = []
letters (suc n) = 97 ∷ letters n

pub letters_named : (n : ℕ) → Each is_name_letter (letters n)
letters_named zero = tt
letters_named (suc n) = (refl, letters_named n)

pub letters_plain : (n : ℕ) → ArePlain (letters n)
letters_plain zero = tt
letters_plain (suc n) = (refl, letters_plain n)

length_letters : (n : ℕ) → length (letters n) ≡ n
length_letters zero = refl
length_letters (suc n) = omega (arith, length_letters n)

-- the letters of these attributes' local parts
abbrev pub total : List RawAttribute → ℕ
total [] = 0
total (a ∷ more) = length a.name.local + total more

longer_new : (name : RawName) (attributes : List RawAttribute) → total attributes < length name.local → IsNew name attributes
longer_new name [] l = tt
longer_new name (a ∷ more) l = (
  (λ e. other (length a.name.local) (total more) (length name.local) l (ap (λ n. length n.local) e)),
  longer_new name more (less (length a.name.local) (total more) (length name.local) l),
)
  where
    other : (x y z : ℕ) → x + y < z → z ≡ x → ⊥
    other x y z l e = omega (arith, l, e)

    less : (x y z : ℕ) → x + y < z → y < z
    less x y z l = omega (arith, l)

-- a name that is longer than each of the tag's
pub name_new : (name : RawName) (attributes : List RawAttribute)
    → IsNew (raw name.prefix (name.local ++ 97 ∷ letters (total attributes))) attributes
name_new name attributes = longer_new (raw name.prefix (name.local ++ 97 ∷ letters (total attributes))) attributes
    (more (total attributes) (length name.local) (length (letters (suc (total attributes))))
    (length (name.local ++ 97 ∷ letters (total attributes)))
    (length_letters (suc (total attributes))) (length-append name.local (97 ∷ letters (total attributes))))
  where
    more : (n x w z : ℕ) → w ≡ suc n → z ≡ x + w → n < z
    more n x w z e f = omega (arith, e, f)

-- ---- fixed words

pub drop_plain : (n : ℕ) (xs : List ℕ) → ArePlain xs → ArePlain (drop n xs)
drop_plain zero xs p = p
drop_plain (suc n) [] p = tt
drop_plain (suc n) (x ∷ xs) p = drop_plain n xs p.1

quote_plain : (quote : ℕ) → IsQuote quote → ArePlain (quote ∷ [])
quote_plain quote (inl e) = subst (λ q. ArePlain (q ∷ [])) (sym e) (refl, tt)
quote_plain quote (inr e) = subst (λ q. ArePlain (q ∷ [])) (sym e) (refl, tt)

pub quoted_plain : (quote : ℕ) (rest : List ℕ) → IsQuote quote → ArePlain rest → ArePlain (quote ∷ rest)
quoted_plain quote rest q p = plain_joined (quote ∷ []) rest (quote_plain quote q) p

-- ---- the declaration

-- what an item may say
said : Item → List ℕ
said item.Version = codes "1.0"
said item.Encoding = codes "utf-8"
said item.Standalone = codes "yes"

says_said : (i : Item) → Says i (said i)
unfolding said
says_said item.Version = refl
says_said item.Encoding = refl
says_said item.Standalone = (true, refl)

said_plain : (i : Item) → ArePlain (said i)
unfolding said
said_plain item.Version = (refl, (refl, (refl, tt)))
said_plain item.Encoding = (refl, (refl, (refl, (refl, (refl, tt)))))
said_plain item.Standalone = (refl, (refl, (refl, tt)))

pub item_plain : (i : Item) → ArePlain (item_text i)
item_plain item.Version = (refl, (refl, (refl, (refl, (refl, (refl, (refl, tt)))))))
item_plain item.Encoding = (refl, (refl, (refl, (refl, (refl, (refl, (refl, (refl, tt))))))))
item_plain item.Standalone = (refl, (refl, (refl, (refl, (refl, (refl, (refl, (refl, (refl, (refl, tt))))))))))

pub setting_plain : (s : Setting) → ArePlain (setting_text s)
setting_plain setting.OneZero = (refl, (refl, (refl, tt)))
setting_plain setting.Utf8 = (refl, (refl, (refl, (refl, (refl, tt)))))
setting_plain setting.Yes = (refl, (refl, (refl, tt)))
setting_plain setting.No = (refl, (refl, tt))

by_itself : (s : Setting) → map (spelling s) (setting_text s) ≡ setting_text s
by_itself setting.OneZero = refl
by_itself setting.Utf8 = refl
by_itself setting.Yes = refl
by_itself setting.No = refl

rest_by_itself : (s : Setting) (count : ℕ) → SaysLeft s count (drop count (setting_text s))
rest_by_itself s count = sym (drop-map (spelling s) count (setting_text s)) ∙ ap (λ w. drop count w) (by_itself s)

module _ (After : List ℕ → Type 0) (rest : List ℕ) (after : After rest) (plain : ArePlain rest) where
  -- "?>"
  closed_heading : List ℕ
  closed_heading = 63 ∷ 62 ∷ rest

  closed_plain : ArePlain closed_heading
  unfolding closed_heading
  closed_plain = (refl, (refl, plain))

  item_closes : (i : Item) (spaced : Bool) → BehindItem After i spaced closed_heading
  unfolding closed_heading
  item_closes i spaced = behind_close After i spaced rest after

  quoted : Item → List ℕ
  quoted i = 39 ∷ (said i ++ 39 ∷ closed_heading)

  quoted_is_plain : (i : Item) → ArePlain (quoted i)
  unfolding quoted
  quoted_is_plain i = (refl, plain_joined (said i) (39 ∷ closed_heading) (said_plain i) (refl, closed_plain))

  quote_closes : (i : Item) → LeadsQuote After i (quoted i)
  unfolding quoted
  quote_closes i = ([], 39, said i, closed_heading, tt, inr refl, says_said i, refl, item_closes i false)

  equals_closes : (i : Item) → SaidThen After i (BehindItem After i false) (61 ∷ quoted i)
  unfolding quoted
  equals_closes i = ([], [], 39, said i, closed_heading, tt, tt, inr refl, says_said i, refl, item_closes i false)

  -- " version" and what it says
  version_text : List ℕ
  version_text = 32 ∷ (item_text item.Version ++ 61 ∷ quoted item.Version)

  version_plain : ArePlain version_text
  unfolding version_text
  version_plain = (
    refl,
    plain_joined (item_text item.Version) (61 ∷ quoted item.Version) (item_plain item.Version)
        (refl, quoted_is_plain item.Version),
  )

  version_closes : (spaced : Bool) → ItemThen After item.Version (BehindItem After item.Version false) spaced version_text
  unfolding version_text
  version_closes spaced = (32 ∷ [], 61 ∷ quoted item.Version, ((refl, tt), (λ e. tt)), refl, equals_closes item.Version)

  pub heading_closes : (h : Heading) → LiveHeading h → (cs : List ℕ) × ArePlain cs × LeadsHeading After h cs
  heading_closes (heading'.Target count) l = (
    drop count (codes "xml") ++ version_text,
    plain_joined (drop count (codes "xml")) version_text (drop_plain count (codes "xml") (refl, (refl, (refl, tt)))) version_plain,
    (version_text, refl, version_closes false),
  )
  heading_closes (heading'.Blank spaced) l = (version_text, version_plain, version_closes spaced)
  heading_closes (heading'.Behind i spaced) l = (closed_heading, closed_plain, item_closes i spaced)
  heading_closes (heading'.Word i count) l = (
    drop count (item_text i) ++ 61 ∷ quoted i,
    plain_joined (drop count (item_text i)) (61 ∷ quoted i) (drop_plain count (item_text i) (item_plain i)) (refl, quoted_is_plain i),
    (61 ∷ quoted i, refl, equals_closes i),
  )
  heading_closes (heading'.Equals i) l = (61 ∷ quoted i, (refl, quoted_is_plain i), equals_closes i)
  heading_closes (heading'.Quote i) l = (quoted i, quoted_is_plain i, quote_closes i)
  heading_closes (heading'.Said i quote s count) l = (
    drop count (setting_text s) ++ quote ∷ closed_heading,
    plain_joined (drop count (setting_text s)) (quote ∷ closed_heading) (drop_plain count (setting_text s) (setting_plain s))
        (quoted_plain quote closed_heading l closed_plain),
    (s, drop count (setting_text s), closed_heading, inl refl, rest_by_itself s count, refl, item_closes i false),
  )
  heading_closes (heading'.SaidAll i quote) l =
      (quote ∷ closed_heading, quoted_plain quote closed_heading l closed_plain, (closed_heading, refl, item_closes i false))
  heading_closes heading'.Close l = (62 ∷ rest, (refl, plain), (rest, refl, after))
