-- What is read is fit: lawful names and characters, attributes in rising order, texts that are not empty and stand apart.
use Rattle.std.proofs.Common.{◌≡◌, ℕ, ◌+◌, ◌<◌, inl, inr, Bool, true, false, cond, not, ◌&&◌, ◌==◌, Option, Some, None, List}
use Rattle.std.proofs.Common.{[], ◌∷◌, ◌++◌, map, length, codes, refl, sym, ap, ◌∙◌, subst, arith, true≢false}
use Rattle.std.proofs.lemmas.Bool.{eqb-true, and_parts}
use Rattle.std.proofs.lemmas.Bool.Decides.{nat_tests}
use Rattle.std.proofs.lemmas.List.Folds.{list_all-append}
use Rattle.std.proofs.lemmas.Slice.Eq.{bytes_eq-Decides}
use Rattle.std.specs.List.{list_all}
use Rattle.std.specs.Str.{bytes_eq}
use Rattle.ba_tree.proofs.TreeLaws.{within_text, within_child}
use Rattle.ba_tree.proofs.TreeRules.{fit_alone, fit_in}
use Rattle.ba_tree.specs.Characters.{is_legal_text}
use Rattle.ba_tree.specs.Names.{begins_name, continues_name, is_plain_name}
use Rattle.ba_tree.specs.Trees.{all_adjacent, element_of, within, elements, rises, declares, is_fit_name, is_fit_attribute}
use Rattle.ba_tree.specs.Trees.{is_fit_part, is_text, is_fit_element, is_fit_tree}
use Rattle.ba_tree.specs.declared.trees.Attribute.{Attribute}
use Rattle.ba_tree.specs.declared.trees.Content.{Content}
use Rattle.ba_tree.specs.declared.trees.Content.TheVariants.{Child, Text}
use Rattle.ba_tree.specs.declared.trees.Name.{Name}
use Rattle.ba_tree.specs.declared.trees.Tree.{Tree}
use Rattle.ba_xml_grammar.specs.Grammar.{Pair, Start, Pieces, nothing, character, reference, section, comment, empty, element}
use Rattle.ba_xml_grammar.specs.Grammar.{written, written_value, written_pairs, written_tag, written_end, value_of}
use Rattle.ba_xml_grammar.specs.Grammar.{attribute, tag, or_nothing, meant, element_tree, leading, if_some, following, meaning}
use Rattle.ba_xml_grammar.specs.Grammar.{ArePairs, IsStart, Allowed, IsExplained, Resolves, Misc, misc_end, misc_space, misc_comment}
use Rattle.ba_xml_grammar.specs.Grammar.{Saying, Encoding, no_encoding, encoding, Standalone, no_standalone, standalone, Head, no_head}
use Rattle.ba_xml_grammar.specs.Grammar.{head, Document, written_misc, written_saying, written_encoding, yes_or_no}
use Rattle.ba_xml_grammar.specs.Grammar.{written_standalone, written_heading, written_mark, written_document, IsMisc, IsRoot}
use Rattle.ba_xml_grammar.specs.GrammarTexts.{lines, IsXmlText}
use Rattle.ba_xml_grammar.specs.GrammarWords.{Each, IsPlainName, IsName, is_name_letter, written_name, IsQuote}
use Rattle.ba_xml_names.proofs.OpeningRules.{by_rule}
use Rattle.ba_tree.specs.Namespaces.{xml_space}
use Rattle.ba_xml_names.specs.Namespaces.{opening, first_scope}
use Rattle.ba_xml_names.specs.Resolution.{DeclaresNothing, AreDeclarations, AreLawfulDeclarations, prefix_declared, IsNearest}
use Rattle.ba_xml_names.specs.Resolution.{IsAttributeName, IsAttribute, AreAttributes, PutAmong, IsMeaning}
use Rattle.ba_xml_names.specs.declared.levels.Declaration.{Declaration}
use Rattle.ba_xml_names.specs.declared.levels.Opening.{Opening}
use Rattle.ba_xml_reader.proofs.Complete.{legal_octets}
use Rattle.ba_xml_reader.proofs.CompleteCharacters.{octets}
use Rattle.ba_xml_reader.proofs.ReadLegal.{Passes, IsText, low_step, byte_step, low_run, upto, white_below, name_run, reference_run}
use Rattle.ba_xml_reader.proofs.ReadLegal.{character_text, byte_text, body_text, value_text, below_word, low_on, byte_on, space_below}
use Rattle.ba_xml_reader.proofs.ReadLegal.{legal, word_legal}
use Rattle.ba_xml_words.specs.Classes.{is_first_letter}
use Rattle.ba_xml_words.specs.declared.names.RawAttribute.{RawAttribute}
use Rattle.ba_xml_words.specs.declared.names.RawName.{RawName}
use Rattle.ba_xml_words.specs.declared.octets.Decoding.TheVariants as decoding
use Rattle.ba_xml_words.specs.declared.octets.Octet.{Octet}
use Rattle.ba_xml_words.specs.declared.octets.Octet.TheVariants.{Between}

joined : (a b : Bool) → a ≡ true → b ≡ true → (a && b) ≡ true
joined true b h k = k
joined false b h k = h

-- ---- names

first_is : (c : ℕ) → is_first_letter c ≡ true → begins_name c ≡ true
first_is c h = grind (arith, nat_tests)

letter_is : (c : ℕ) → is_name_letter c ≡ true → continues_name c ≡ true
letter_is c h = grind (arith, nat_tests)

letters_are : (cs : List ℕ) → Each is_name_letter cs → list_all continues_name cs ≡ true
letters_are [] h = refl
letters_are (c ∷ cs) h = joined (continues_name c) (list_all continues_name cs) (letter_is c h.0) (letters_are cs h.1)

plain_is : (name : List ℕ) → IsPlainName name → is_plain_name name ≡ true
plain_is [] h = absurd h
plain_is (c ∷ cs) h = joined (begins_name c) (list_all continues_name cs) (first_is c h.0) (letters_are cs h.1)

name_is : (name : Name) (local : List ℕ) → IsPlainName local → name.local ≡ local → is_legal_text name.space ≡ true
    → is_fit_name name ≡ true
name_is name local p e h =
    joined (is_plain_name name.local) (is_legal_text name.space) (ap is_plain_name e ∙ plain_is local p) h

-- ---- attributes as they are written

-- their values are legal, and their local parts plain
abbrev AreLegal : List RawAttribute → Type 0
AreLegal [] = Unit {0}
AreLegal (a ∷ more) = (is_legal_text a.value ≡ true) × IsPlainName a.name.local × AreLegal more

quote_below : (b : ℕ) → IsQuote b → b < 0x80
quote_below b (inl e) = omega (arith, e)
quote_below b (inr e) = omega (arith, e)

pairs_run : (before : List RawAttribute) (pairs : List Pair) (rest : List ℕ) → ArePairs before pairs
    → Passes Between (written_pairs pairs rest)
    → AreLegal (map attribute pairs) × Passes Between rest
pairs_run before [] rest i e = (tt, e)
pairs_run before (a ∷ more) rest i e =
    let later : List ℕ = written_pairs more rest in
    let valued : List ℕ = written_value a.value (a.quote ∷ later) in
    let named : Passes Between (a.left ++ 61 ∷ (a.right ++ a.quote ∷ valued)) =
    name_run a.name (a.left ++ 61 ∷ (a.right ++ a.quote ∷ valued)) i.0.1 (low_run a.gap _ (white_below a.gap i.0.0.1) e) in
    let equals : Passes Between (a.right ++ a.quote ∷ valued) =
    (low_step Between 61 (a.right ++ a.quote ∷ valued) (omega arith) (low_run a.left _ (white_below a.left i.0.3) named)).1 in
    let quoted : Passes Between valued =
    (low_step Between a.quote valued (quote_below a.quote i.0.5) (low_run a.right _ (white_below a.right i.0.4) equals)).1 in
    let value : IsText Between (value_of a.value) × Passes Between later =
    value_text a.quote a.value later Between (quote_below a.quote i.0.5) i.0.6 quoted in
    let others = pairs_run (before ++ attribute a ∷ []) more rest i.1 value.1 in
    ((legal (value_of a.value) value.0, i.0.1.1, others.0), others.1)

-- ---- declarations that hold

-- the namespaces are legal, and only the default namespace may be none
abbrev AreSound : List Declaration → Type 0
AreSound [] = Unit {0}
AreSound (d ∷ ds) = (is_legal_text d.space ≡ true) × (d.space ≡ [] → d.prefix ≡ []) × AreSound ds

sound_append : (ds es : List Declaration) → AreSound ds → AreSound es → AreSound (ds ++ es)
sound_append [] es s t = t
sound_append (d ∷ ds) es s t = (s.0, s.1, sound_append ds es s.2 t)

sound_behind : (near : List Declaration) (d : Declaration) (far : List Declaration) → AreSound (near ++ d ∷ far)
    → (is_legal_text d.space ≡ true) × (d.space ≡ [] → d.prefix ≡ [])
sound_behind [] d far s = (s.0, s.1)
sound_behind (e ∷ near) d far s = sound_behind near d far s.2

sound_nearest : (scope : List Declaration) (p s : List ℕ) → AreSound scope → IsNearest scope p s
    → (is_legal_text s ≡ true) × (s ≡ [] → p ≡ [])
sound_nearest scope p s a n = sound_behind n.nearer (prefix_declared p s) n.farther (subst AreSound n.parts a)

sound_own : (raws : List RawAttribute) (ds : List Declaration) → AreLegal raws → AreDeclarations raws ds
    → AreLawfulDeclarations ds → AreSound ds
sound_own [] ds l a w = subst AreSound (sym a) tt
sound_own (raw ∷ more) ds l (inl a) w = sound_own more ds l.2 a.1 w
sound_own (raw ∷ more) ds l (inr a) w =
    let own : AreLawfulDeclarations (a.0 ∷ a.1) = subst AreLawfulDeclarations a.2 w in
    subst AreSound (sym a.2) (ap is_legal_text a.3.0 ∙ l.0, own.0.some, sound_own more a.1 l.2 a.4 own.1)

-- ---- attributes by their meaning

empty_legal : is_legal_text [] ≡ true
empty_legal = legal [] (tt, refl)

attribute_space : (scope : List Declaration) (raw : RawName) (name : Name) → AreSound scope → IsAttributeName scope raw name
    → (is_legal_text name.space ≡ true) × (name.space ≡ [] → raw.prefix ≡ [])
attribute_space scope raw name a (l, inl h) = (ap is_legal_text h.1 ∙ empty_legal, λ e. h.0)
attribute_space scope raw name a (l, inr h) = sound_nearest scope raw.prefix name.space a h.1

never_both : (a b : Bool) → (a ≡ true → b ≡ true → ⊥) → not (a && b) ≡ true
never_both true true n = absurd (n refl refl)
never_both true false n = refl
never_both false b n = refl

attribute_fit : (scope : List Declaration) (raw : RawAttribute) (a : Attribute) → AreSound scope → is_legal_text raw.value ≡ true
    → IsPlainName raw.name.local → DeclaresNothing raw → IsAttribute scope raw a → is_fit_attribute a ≡ true
attribute_fit scope raw a s v p n is =
    let space : (is_legal_text a.name.space ≡ true) × (a.name.space ≡ [] → raw.name.prefix ≡ [])
    = attribute_space scope raw.name a.name s is.1 in
    joined (is_fit_name a.name && not (declares a.name)) (is_legal_text a.value)
    (joined (is_fit_name a.name) (not (declares a.name)) (name_is a.name raw.name.local p is.1.0 space.0)
    (never_both (bytes_eq a.name.space []) (bytes_eq a.name.local (codes "xmlns"))
    (λ e f. n.0 (space.1 ((bytes_eq-Decides a.name.space []).0 e), sym is.1.0 ∙ (bytes_eq-Decides a.name.local (codes "xmlns")).0 f))))
    (ap is_legal_text is.0 ∙ v)

meant_fit : (scope : List Declaration) (raws : List RawAttribute) (meant : List Attribute) → AreSound scope → AreLegal raws
    → AreAttributes scope raws meant → list_all is_fit_attribute meant ≡ true
meant_fit scope [] meant s l m = ap (list_all is_fit_attribute) m
meant_fit scope (raw ∷ more) meant s l (inl m) = meant_fit scope more meant s l.2 m.1
meant_fit scope (raw ∷ more) meant s l (inr m) =
    ap (list_all is_fit_attribute) m.3
    ∙ joined (is_fit_attribute m.1) (list_all is_fit_attribute m.2) (attribute_fit scope raw m.1 s l.0 l.1 m.0 m.4)
    (meant_fit scope more m.2 s l.2 m.5)

split_all : {X : Type 0} (test : X → Bool) (first rest : List X) → (list_all test first && list_all test rest) ≡ true
    → (list_all test first ≡ true) × (list_all test rest ≡ true)
split_all test first rest h = by (list_all test first) (list_all test rest) h
  where
    by : (a b : Bool) → (a && b) ≡ true → (a ≡ true) × (b ≡ true)
    by true b h = (refl, h)
    by false b h = absurd (true≢false (sym h))

put_fit : {X : Type 0} (test : X → Bool) (meant rows all : List X) → PutAmong meant rows all → list_all test meant ≡ true
    → list_all test rows ≡ true
    → list_all test all ≡ true
put_fit test [] rows all p h k = ap (list_all test) p ∙ k
put_fit test (a ∷ meant) rows all p h k =
    let now = split_all test (a ∷ []) meant (joined_parts (test a) (list_all test meant) h) in
    let parts = split_all test p.0 p.1 (sym (list_all-append test p.0 p.1) ∙ ap (list_all test) (sym p.2) ∙ k) in
    put_fit test meant (p.0 ++ a ∷ p.1) all p.3 now.1
    (list_all-append test p.0 (a ∷ p.1) ∙ joined (list_all test p.0) (test a && list_all test p.1) parts.0
    (joined (test a) (list_all test p.1) (one (test a) now.0) parts.1))
  where
    joined_parts : (x y : Bool) → (x && y) ≡ true → ((x && true) && y) ≡ true
    joined_parts true y h = h
    joined_parts false y h = h

    one : (x : Bool) → (x && true) ≡ true → x ≡ true
    one true h = refl
    one false h = h

-- ---- a start tag

abbrev TagFits : Opening → Type 0
TagFits o = (is_fit_name o.name && (list_all is_fit_attribute o.attributes && rises o.attributes)) ≡ true

abbrev IsSoundTag : List Declaration → Opening → Type 0
IsSoundTag scope o = TagFits o × AreSound (o.declarations ++ scope)

opening_fit : (scope : List Declaration) (s : Start) (o : Opening) → AreSound scope → IsName s.name → AreLegal (map attribute s.pairs)
    → IsMeaning scope (tag s) o → IsSoundTag scope o
opening_fit scope s o a n l m =
    let inside : AreSound (o.declarations ++ scope) =
    sound_append o.declarations scope (sound_own (map attribute s.pairs) o.declarations l m.declarations m.lawful) a in
    let space : (is_legal_text o.name.space ≡ true) × (o.name.space ≡ [] → s.name.prefix ≡ []) =
    sound_nearest (o.declarations ++ scope) s.name.prefix o.name.space inside m.name.1 in
    let own : list_all is_fit_attribute m.attributes.meant ≡ true =
    meant_fit (o.declarations ++ scope) (map attribute s.pairs) m.attributes.meant inside l m.attributes.are in (
      joined (is_fit_name o.name) (list_all is_fit_attribute o.attributes && rises o.attributes)
          (name_is o.name s.name.local n.1 m.name.0 space.0)
          (joined (list_all is_fit_attribute o.attributes) (rises o.attributes)
          (put_fit is_fit_attribute m.attributes.meant [] o.attributes m.attributes.put own refl) m.attributes.rising),
      inside,
    )

tag_by : (scope : List Declaration) (s : Start) (found : Option Opening) → opening scope (tag s) ≡ found → IsExplained scope s
    → AreSound scope
    → IsName s.name → AreLegal (map attribute s.pairs) → IsSoundTag scope (or_nothing found)
tag_by scope s None e x a n l = absurd (clash (sym e ∙ x.1))
  where
    clash : (let o : Option Opening = None in o) ≡ Some x.0 → ⊥
    clash e = cc
tag_by scope s (Some o) e x a n l = opening_fit scope s o a n l (by_rule scope (tag s) o e)

tag_run : (scope : List Declaration) (s : Start) (rest : List ℕ) → AreSound scope → IsStart s → IsExplained scope s
    → Passes Between (written_tag s rest)
    → IsSoundTag scope (meant scope s) × Passes Between rest
tag_run scope s rest a i x e =
    let pairs = pairs_run [] s.pairs (s.space ++ rest) i.1 (name_run s.name (written_pairs s.pairs (s.space ++ rest)) i.0 e) in
    (tag_by scope s (opening scope (tag s)) refl x a i.0 pairs.0, low_run s.space rest (white_below s.space i.2) pairs.1)

-- ---- content

abbrev part_fits : Content → Bool
part_fits c = is_fit_part (within c).part

abbrev inside_fits : Content → Bool
inside_fits c = list_all is_fit_element (within c).elements

abbrev stand_apart : Content → Content → Bool
stand_apart c d = not (is_text (within c).part && is_text (within d).part)

record Fits (cs : List Content) : Type 0 where
  parts : list_all part_fits cs ≡ true
  inside : list_all inside_fits cs ≡ true
  apart : all_adjacent stand_apart cs ≡ true

-- no text comes first
abbrev Starts : List Content → Type 0
Starts [] = Unit {0}
Starts (c ∷ cs) = is_text (within c).part ≡ false

no_fits : Fits []
no_fits = record { parts = refl; inside = refl; apart = refl }

not_second : (a b : Bool) → b ≡ false → not (a && b) ≡ true
not_second true b h = ap not h
not_second false b h = refl

some_long : (b : ℕ) (t : List ℕ) → not (length (b ∷ t) == 0) ≡ true
some_long b t = grind (arith, nat_tests)

text_apart : (c : Content) (cs : List Content) → Starts cs → all_adjacent stand_apart cs ≡ true → all_adjacent stand_apart (c ∷ cs) ≡ true
text_apart c [] s h = refl
text_apart c (d ∷ cs) s h =
    joined (stand_apart c d) (all_adjacent stand_apart (d ∷ cs)) (not_second (is_text (within c).part) (is_text (within d).part) s) h

child_apart : (c : Content) (cs : List Content) → is_text (within c).part ≡ false → all_adjacent stand_apart cs ≡ true
    → all_adjacent stand_apart (c ∷ cs) ≡ true
child_apart c [] s h = refl
child_apart c (d ∷ cs) s h =
    joined (stand_apart c d) (all_adjacent stand_apart (d ∷ cs)) (ap (λ b. not (b && is_text (within d).part)) s) h

fits_text : (t : List ℕ) (cs : List Content) → is_legal_text t ≡ true → Starts cs → Fits cs → Fits (if_some t ++ cs)
fits_text [] cs l s f = f
fits_text (b ∷ t) cs l s f = record {
  parts = joined (part_fits (Text (b ∷ t))) (list_all part_fits cs)
      (ap (λ w. is_fit_part w.part) (within_text (b ∷ t))
      ∙ joined (not (length (b ∷ t) == 0)) (is_legal_text (b ∷ t)) (some_long b t) l) f.parts;
  inside = joined (inside_fits (Text (b ∷ t))) (list_all inside_fits cs)
      (ap (λ w. list_all is_fit_element w.elements) (within_text (b ∷ t))) f.inside;
  apart = text_apart (Text (b ∷ t)) cs s f.apart;
}

is_child : (t : Tree) → is_text (within (Child t)).part ≡ false
is_child t = ap (λ w. is_text w.part) (within_child t)

fits_child : (t : Tree) (cs : List Content) → is_fit_tree t ≡ true → Fits cs → Fits (Child t ∷ cs)
fits_child t cs h f = record {
  parts = joined (part_fits (Child t)) (list_all part_fits cs) (ap (λ w. is_fit_part w.part) (within_child t)) f.parts;
  inside = joined (inside_fits (Child t)) (list_all inside_fits cs)
      (ap (λ w. list_all is_fit_element w.elements) (within_child t) ∙ h) f.inside;
  apart = child_apart (Child t) cs (is_child t) f.apart;
}

tree_fits : (o : Opening) (cs : List Content) → TagFits o → Fits cs → is_fit_tree (element_tree o cs) ≡ true
tree_fits o cs h f =
    let t : Tree = element_tree o cs in
    fit_in t
    ∙ joined (is_fit_element (element_of t)) (list_all inside_fits cs)
    (fit_alone t
    ∙ joined (is_fit_name o.name && (list_all is_fit_attribute o.attributes && rises o.attributes))
    (list_all part_fits cs && all_adjacent stand_apart cs) h
    (joined (list_all part_fits cs) (all_adjacent stand_apart cs) f.parts f.apart))
    f.inside

-- ---- pieces

-- what pieces give where the bytes pass from here, and where those that follow begin with a byte of ASCII
record IsGood (scope : List Declaration) (p : Pieces) (o : Octet) (rest : List ℕ) : Type 0 where
  text : IsText o (leading p)
  fits : Fits (following scope p)
  starts : Starts (following scope p)
  then : Passes Between rest

good_child : (scope : List Declaration) (t : Tree) (p q : Pieces) (o : Octet) (rest : List ℕ) → o ≡ Between → is_fit_tree t ≡ true
    → IsGood scope p Between rest → leading q ≡ [] → following scope q ≡ Child t ∷
    (if_some (leading p) ++ following scope p) → IsGood scope q o rest
good_child scope t p q o rest b h g e f = record {
  text = subst (IsText o) (sym e) (tt, ap (λ x. decoding.At x) b);
  fits = subst Fits (sym f) (fits_child t (if_some (leading p) ++ following scope p) h
      (fits_text (leading p) (following scope p) (legal (leading p) g.text) g.starts g.fits));
  starts = subst Starts (sym f) (is_child t);
  then = g.then;
}

-- the bytes that follow begin with one of ASCII, or there are none
abbrev Ends : List ℕ → Type 0
Ends rest = (o : Octet) → Passes o rest → (o ≡ Between) × Passes Between rest

ends_low : (b : ℕ) (rest : List ℕ) → b < 0x80 → Ends (b ∷ rest)
ends_low b rest h = λ o e. let q : o ≡ Between = (low_step o b rest h e).0 in (q, subst (λ x. Passes x (b ∷ rest)) q e)

pieces_good : (scope : List Declaration) (p : Pieces) (rest : List ℕ) (o : Octet) → AreSound scope → Allowed p → Resolves scope p
    → Ends rest
    → Passes o (written p rest) → IsGood scope p o rest
pieces_good scope nothing rest o a w r n e =
    let end : (o ≡ Between) × Passes Between rest = n o e in
    record { text = (tt, ap (λ x. decoding.At x) end.0); fits = no_fits; starts = tt; then = end.1 }
pieces_good scope (character b more) rest o a w r n e =
    let s = byte_step o b (written more rest) e in
    let g : IsGood scope more s.0 rest = pieces_good scope more rest s.0 a w.1 r n s.2 in
    record { text = byte_text o s.0 b (leading more) w.0.0 s.1 g.text; fits = g.fits; starts = g.starts; then = g.then }
pieces_good scope (reference q more) rest o a w r n e =
    let s : (o ≡ Between) × Passes Between (written more rest) = reference_run q (written more rest) o w.0 e in
    let g : IsGood scope more Between rest = pieces_good scope more rest Between a w.1 r n s.1 in
    record { text = character_text q (leading more) o w.0 s.0 g.text; fits = g.fits; starts = g.starts; then = g.then }
pieces_good scope (section body more) rest o a w r n e =
    let later : List ℕ = body ++ 93 ∷ 93 ∷ 62 ∷ written more rest in
    let s : (o ≡ Between) × Passes Between (codes "![CDATA[" ++ later) = low_step o 60 (codes "![CDATA[" ++ later) (omega arith) e in
    let u : Passes Between body × Passes Between (93 ∷ 62 ∷ written more rest) =
    upto body 93 (93 ∷ 62 ∷ written more rest) Between (omega arith)
    (low_run (codes "![CDATA[") later (below_word (codes "![CDATA[") refl) s.1) in
    let g : IsGood scope more Between rest =
    pieces_good scope more rest Between a w.1 r n (low_run (codes "]>") (written more rest) (below_word (codes "]>") refl) u.1) in
    record { text = body_text body (leading more) o w.0.0 s.0 u.0 g.text; fits = g.fits; starts = g.starts; then = g.then }
pieces_good scope (comment body more) rest o a w r n e =
    let later : List ℕ = body ++ 45 ∷ 45 ∷ 62 ∷ written more rest in
    let s : (o ≡ Between) × Passes Between (codes "!--" ++ later) = low_step o 60 (codes "!--" ++ later) (omega arith) e in
    let u : Passes Between body × Passes Between (45 ∷ 62 ∷ written more rest) =
    upto body 45 (45 ∷ 62 ∷ written more rest) Between (omega arith) (low_run (codes "!--") later (below_word (codes "!--") refl) s.1) in
    let g : IsGood scope more Between rest =
    pieces_good scope more rest Between a w.1 r n (low_run (codes "->") (written more rest) (below_word (codes "->") refl) u.1) in
    record { text = subst (λ x. IsText x (leading more)) (sym s.0) g.text; fits = g.fits; starts = g.starts; then = g.then }
pieces_good scope (empty t more) rest o a w r n e =
    let s : (o ≡ Between) × Passes Between (written_tag t (47 ∷ 62 ∷ written more rest))
    = low_step o 60 (written_tag t (47 ∷ 62 ∷ written more rest)) (omega arith) e in
    let k = tag_run scope t (47 ∷ 62 ∷ written more rest) a w.0 r.0 s.1 in
    let g : IsGood scope more Between rest =
    pieces_good scope more rest Between a w.1 r.1 n (low_run (codes "/>") (written more rest) (below_word (codes "/>") refl) k.1) in
    good_child scope (element_tree (meant scope t) []) more (empty t more) o rest s.0
    (tree_fits (meant scope t) [] k.0.0 no_fits) g refl refl
pieces_good scope (element t inside space more) rest o a w r n e =
    let end : List ℕ = written_end t.name space (written more rest) in
    let s : (o ≡ Between) × Passes Between (written_tag t (62 ∷ written inside end))
    = low_step o 60 (written_tag t (62 ∷ written inside end)) (omega arith) e in
    let k = tag_run scope t (62 ∷ written inside end) a w.0 r.0 s.1 in
    let now : List Declaration = (meant scope t).declarations ++ scope in
    let i : IsGood now inside Between end =
    pieces_good now inside end Between k.0.1 w.1 r.1
    (ends_low 60 (47 ∷ written_name t.name (space ++ 62 ∷ written more rest)) (omega arith))
    (low_step Between 62 (written inside end) (omega arith) k.1).1 in
    let named : Passes Between (space ++ 62 ∷ written more rest) =
    name_run t.name (space ++ 62 ∷ written more rest) w.0.0
    (low_run (codes "</") (written_name t.name (space ++ 62 ∷ written more rest)) (below_word (codes "</") refl) i.then) in
    let g : IsGood scope more Between rest =
    pieces_good scope more rest Between a w.3 r.2 n
    (low_step Between 62 (written more rest) (omega arith) (low_run space (62 ∷ written more rest) (white_below space w.2) named)).1 in
    good_child scope (element_tree (meant scope t) (if_some (leading inside) ++ following now inside)) more
    (element t inside space more) o rest s.0
    (tree_fits (meant scope t) (if_some (leading inside) ++ following now inside) k.0.0
    (fits_text (leading inside) (following now inside) (legal (leading inside) i.text) i.starts i.fits)) g refl refl

-- ---- a document

-- the bytes end with these
abbrev EndsWith : List ℕ → List ℕ → Type 0
EndsWith rest bytes = (first : List ℕ) × (bytes ≡ first ++ rest)

after_byte : (b : ℕ) (rest bytes : List ℕ) → EndsWith rest bytes → EndsWith rest (b ∷ bytes)
after_byte b rest bytes e = (b ∷ e.0, ap (λ l. b ∷ l) e.1)

after_bytes : (bs rest bytes : List ℕ) → EndsWith rest bytes → EndsWith rest (bs ++ bytes)
after_bytes [] rest bytes e = e
after_bytes (b ∷ bs) rest bytes e = after_byte b rest (bs ++ bytes) (after_bytes bs rest bytes e)

misc_end_of : (m : Misc) (rest bytes : List ℕ) → EndsWith rest bytes → EndsWith rest (written_misc m bytes)
misc_end_of misc_end rest bytes e = e
misc_end_of (misc_space b more) rest bytes e = after_byte b rest (written_misc more bytes) (misc_end_of more rest bytes e)
misc_end_of (misc_comment body more) rest bytes e =
    after_bytes (codes "<!--") rest (body ++ 45 ∷ 45 ∷ 62 ∷ written_misc more bytes)
    (after_bytes body rest (45 ∷ 45 ∷ 62 ∷ written_misc more bytes)
    (after_bytes (codes "-->") rest (written_misc more bytes) (misc_end_of more rest bytes e)))

saying_end : (s : Saying) (word value rest bytes : List ℕ) → EndsWith rest bytes → EndsWith rest (written_saying s word value bytes)
saying_end s word value rest bytes e =
    after_bytes s.gap rest _
    (after_bytes word rest _
    (after_bytes s.left rest _
    (after_byte 61 rest _
    (after_bytes s.right rest _
    (after_byte s.quote rest _ (after_bytes value rest (s.quote ∷ bytes) (after_byte s.quote rest bytes e)))))))

encoding_end : (x : Encoding) (rest bytes : List ℕ) → EndsWith rest bytes → EndsWith rest (written_encoding x bytes)
encoding_end no_encoding rest bytes e = e
encoding_end (encoding s name) rest bytes e = saying_end s (codes "encoding") name rest bytes e

standalone_end : (x : Standalone) (rest bytes : List ℕ) → EndsWith rest bytes → EndsWith rest (written_standalone x bytes)
standalone_end no_standalone rest bytes e = e
standalone_end (standalone s answer) rest bytes e = saying_end s (codes "standalone") (yes_or_no answer) rest bytes e

heading_end : (h : Head) (rest bytes : List ℕ) → EndsWith rest bytes → EndsWith rest (written_heading h bytes)
heading_end no_head rest bytes e = e
heading_end (head version x s space) rest bytes e =
    after_bytes (codes "<?xml") rest _
    (saying_end version (codes "version") (codes "1.0") rest _
    (encoding_end x rest _ (standalone_end s rest _ (after_bytes space rest _ (after_bytes (codes "?>") rest bytes e)))))

mark_end : (mark : Bool) (rest bytes : List ℕ) → EndsWith rest bytes → EndsWith rest (written_mark mark bytes)
mark_end true rest bytes e = after_byte 0xEF rest _ (after_byte 0xBB rest _ (after_byte 0xBF rest bytes e))
mark_end false rest bytes e = e

same_octet : (o : Octet) → decoding.At o ≡ decoding.At Between → o ≡ Between
same_octet o e = cc

misc_ends : (m : Misc) → IsMisc m → Ends (written_misc m [])
misc_ends misc_end i = λ o e. (same_octet o e, refl)
misc_ends (misc_space b more) i = ends_low b (written_misc more []) (space_below b i.0)
misc_ends (misc_comment body more) i = ends_low 60 (33 ∷ 45 ∷ 45 ∷ (body ++ 45 ∷ 45 ∷ 62 ∷ written_misc more [])) (omega arith)

sound_first : AreSound first_scope
sound_first = (word_legal [] refl refl, λ e. refl, (word_legal xml_space refl refl, λ e. absurd (some_bytes e), tt))
  where
    some_bytes : xml_space ≡ [] → ⊥
    some_bytes e = cc

root_passes : (rest bytes : List ℕ) → EndsWith (60 ∷ rest) bytes → Passes Between bytes → Passes Between (60 ∷ rest)
root_passes rest bytes s e =
    low_on Between 60 rest refl (omega arith) (upto s.0 60 rest Between (omega arith) (subst (λ l. Passes Between l) s.1 e)).1

root_good : (p : Pieces) (rest bytes : List ℕ) → IsRoot p → Allowed p → Resolves first_scope p → Ends rest → EndsWith (written p rest) bytes
    → Passes Between bytes → IsGood first_scope p Between rest
root_good (empty t nothing) rest bytes i w r n s e =
    pieces_good first_scope (empty t nothing) rest Between sound_first w r n (root_passes _ bytes s e)
root_good (element t inside space nothing) rest bytes i w r n s e =
    pieces_good first_scope (element t inside space nothing) rest Between sound_first w r n (root_passes _ bytes s e)
root_good _ rest bytes i w r n s e = absurd i

-- ---- line ends

lines_pass : (bs : List ℕ) (returned : Bool) (o : Octet) → (returned ≡ true → o ≡ Between) → Passes o bs → Passes o (lines returned bs)
lines_pass [] returned o q e = e
lines_pass (b ∷ bs) returned o q e = by (λ x p k f. lines_pass bs x p k f) (returned && b == 10) (b == 13) refl refl
  where
    below : (n : ℕ) → n < 0x80 → (b == n) ≡ true → b < 0x80
    below n l h = subst (λ x. x < 0x80) (sym (eqb-true b n h)) l

    never : (p : Octet) → false ≡ true → p ≡ Between
    never p e = absurd (true≢false (sym e))

    by : ((x : Bool) (p : Octet) → (x ≡ true → p ≡ Between) → Passes p bs → Passes p (lines x bs)) → (x y : Bool)
        → (returned && b == 10) ≡ x → (b == 13) ≡ y
        → Passes o (cond x (lines false bs) (cond y (10 ∷ lines true bs) (b ∷ lines false bs)))
    by ih true y h k =
        let s : (o ≡ Between) × Passes Between bs = low_step o b bs (below 10 (omega arith) (and_parts returned (b == 10) h).1) e in
        subst (λ x. Passes x (lines false bs)) (sym s.0) (ih false Between (never Between) s.1)
    by ih false true h k =
        let s : (o ≡ Between) × Passes Between bs = low_step o b bs (below 13 (omega arith) k) e in
        low_on o 10 (lines true bs) s.0 (omega arith) (ih true Between (λ t. refl) s.1)
    by ih false false h k =
        let s = byte_step o b bs e in byte_on o s.0 b (lines false bs) s.1 (ih false s.0 (never s.0) s.2)

-- ---- a text

tree_by : (tree : Tree) (cs : List Content) → cs ≡ Child tree ∷ [] → list_all inside_fits cs ≡ true → is_fit_tree tree ≡ true
tree_by tree cs e h =
    ap (λ w. list_all is_fit_element w.elements) (sym (within_child tree))
    ∙ one (inside_fits (Child tree)) (sym (ap (list_all inside_fits) e) ∙ h)
  where
    one : (x : Bool) → (x && true) ≡ true → x ≡ true
    one true h = refl
    one false h = h

pub read_fit : (bytes : List ℕ) (tree : Tree) → IsXmlText bytes tree → is_fit_tree tree ≡ true
read_fit bytes tree x =
    let d : Document = x.0 in
    let passes : Passes Between (written_document d) =
    ap (octets (decoding.At Between)) (sym x.1.2) ∙ lines_pass bytes false Between (λ e. refl) (legal_octets bytes x.1.0) in
    let root : EndsWith (written d.root (written_misc d.behind [])) (written_document d) =
    mark_end d.mark _ _ (heading_end d.heading _ _ (misc_end_of d.before _ _ ([], refl))) in
    let g : IsGood first_scope d.root Between (written_misc d.behind []) =
    root_good d.root (written_misc d.behind []) (written_document d) x.1.1.2 x.1.1.3 x.3.0 (misc_ends d.behind x.1.1.4) root passes in
    tree_by tree (meaning first_scope d.root) x.3.1
    (fits_text (leading d.root) (following first_scope d.root) (legal (leading d.root) g.text) g.starts g.fits).inside
