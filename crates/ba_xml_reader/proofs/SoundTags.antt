-- Start tags backward: what follows in the machine's states inside a tag is the rest of a tag.
use Rattle.std.proofs.Common.{◌≡◌, ℕ, ◌+◌, ◌≤◌, Bool, true, false, cond, List, [], ◌∷◌, ◌++◌, map, length, encode_utf8, refl, sym, ap}
use Rattle.std.proofs.Common.{subst, ◌∙◌, append_assoc, append-nil, length-append, arith, true≢false}
use Rattle.ba_xml_reader.proofs.SoundLegal.{reference_read, IsRead}
use Rattle.ba_xml_reader.proofs.SoundNames.{LeadsName, spelled_written}
use Rattle.ba_xml_reader.proofs.CompleteReferences.{refers}
use Rattle.ba_xml_reader.proofs.CompleteTags.{with_pairs}
use Rattle.ba_xml_words.specs.Classes.{is_space}
use Rattle.ba_xml_words.specs.inside.Names.{spelled, one_letter}
use Rattle.ba_xml_names.specs.inside.Tags.{with_attribute, with_value}
use Rattle.ba_xml_reader.specs.inside.Tags.{no_value}
use Rattle.ba_xml_grammar.specs.Grammar.{Pair, Value, value_end, value_character, value_reference, written_value, written_pairs, value_of}
use Rattle.ba_xml_grammar.specs.Grammar.{attribute, IsValue, IsNew, ArePairs}
use Rattle.ba_xml_grammar.specs.GrammarWords.{Begun, Differ, IsWhite, is_character, IsName, written_name, reference_text, IsQuote}
use Rattle.ba_xml_words.specs.declared.names.RawName.{RawName}
use Rattle.ba_xml_words.specs.declared.names.RawAttribute.{RawAttribute}
use Rattle.ba_xml_words.specs.declared.references.Partial.{Partial}
use Rattle.ba_xml_words.specs.declared.references.Partial.TheVariants.{Nothing}
use Rattle.ba_xml_words.specs.declared.references.Referred.TheVariants.{On, Meant}
use Rattle.ba_xml_names.specs.declared.tags.Tag.{Tag}

-- attributes of which the first one may have its white space behind it already
abbrev pub AreMore : Bool → List RawAttribute → List Pair → Type 0
AreMore spaced before [] = Unit {0}
AreMore spaced before (a ∷ more) = IsWhite a.gap × (spaced ≡ false → Begun a.gap) × IsName a.name × IsNew a.name before × IsWhite a.left
    × IsWhite a.right × IsQuote a.quote × IsValue a.quote a.value
    × ArePairs (before ++ attribute a ∷ []) more

pub are_pairs : (before : List RawAttribute) (pairs : List Pair) → AreMore false before pairs → ArePairs before pairs
are_pairs before [] m = tt
are_pairs before (a ∷ more) m = (((m.1 refl, m.0), m.2, m.3, m.4, m.5, m.6, m.7), m.8)

are_more : (before : List RawAttribute) (pairs : List Pair) → ArePairs before pairs → AreMore false before pairs
are_more before [] m = tt
are_more before (a ∷ more) m = (m.0.0.1, (λ e. m.0.0.0), m.0.1, m.0.2, m.0.3, m.0.4, m.0.5, m.0.6, m.1)

fewer : (attributes : List RawAttribute) (x : RawAttribute) (pairs : List Pair) (a : Pair)
    → length (attributes ++ x ∷ []) + length pairs ≤ 32 → length attributes + length (a ∷ pairs) ≤ 32
fewer attributes x pairs a h = by (subst (λ n. n + length pairs ≤ 32) (length-append attributes (x ∷ [])) h)
  where
    by : (length attributes + 1) + length pairs ≤ 32 → length attributes + length (a ∷ pairs) ≤ 32
    by g = omega (arith, g)

-- what may follow a tag's attributes and white space
module _ (Closes : Tag → List ℕ → Type 0) where
  abbrev pub LeadsInTag : Tag → Bool → List ℕ → Type 0
  LeadsInTag tag spaced bs = (pairs : List Pair) × (space : List ℕ) × (rest : List ℕ) × AreMore spaced tag.attributes pairs
      × (length tag.attributes + length pairs ≤ 32) × IsWhite space
      × (bs ≡ written_pairs pairs (space ++ rest)) × Closes (with_pairs tag pairs) rest

  abbrev pub LeadsValue : Tag → RawAttribute → ℕ → List ℕ → Type 0
  LeadsValue tag a quote bs = (v : Value) × (rest : List ℕ) × IsValue quote v × (bs ≡ written_value v (quote ∷ rest))
      × LeadsInTag (with_attribute tag (with_value a (value_of v))) false rest

  abbrev pub LeadsValueReference : Tag → RawAttribute → ℕ → Partial → List ℕ → Type 0
  LeadsValueReference tag a quote partial bs = (cs : List ℕ) × (rest : List ℕ) × (c : ℕ) × (refers (On partial) cs ≡ Meant c)
      × (bs ≡ cs ++ rest) × LeadsValue tag (with_value a (encode_utf8 c)) quote rest

  abbrev pub LeadsQuote : Tag → RawName → List ℕ → Type 0
  LeadsQuote tag name bs = (right : List ℕ) × (quote : ℕ) × (rest : List ℕ) × IsWhite right × IsQuote quote × (bs ≡ right ++ quote ∷ rest)
      × LeadsValue tag (no_value name) quote rest

  abbrev pub LeadsEquals : Tag → RawName → List ℕ → Type 0
  LeadsEquals tag name bs = (left : List ℕ) × (rest : List ℕ) × IsWhite left × (bs ≡ left ++ 61 ∷ rest) × LeadsQuote tag name rest

  abbrev pub BehindName : Tag → RawName → List ℕ → Type 0
  BehindName tag full rest = IsNew full tag.attributes × LeadsEquals tag full rest

  -- ---- values

  pub value_ends : (tag : Tag) (a : RawAttribute) (quote : ℕ) (bs : List ℕ) → LeadsInTag (with_attribute tag a) false bs
      → LeadsValue tag a quote (quote ∷ bs)
  value_ends tag a quote bs l = (
    value_end,
    bs,
    tt,
    refl,
    subst (λ v. LeadsInTag (with_attribute tag (record { name = a.name; value = v })) false bs) (sym (append-nil a.value)) l,
  )

  pub value_more : (tag : Tag) (a : RawAttribute) (quote b : ℕ) (bs : List ℕ) → is_character b ≡ true → Differ b 60 → Differ b 38
      → Differ b quote
      → LeadsValue tag (with_value a (cond (is_space b) 32 b ∷ [])) quote bs → LeadsValue tag a quote (b ∷ bs)
  value_more tag a quote b bs c l d q r = (
    value_character b r.0,
    r.1,
    (c, l, d, q, r.2),
    ap (λ x. b ∷ x) r.3,
    subst (λ v. LeadsInTag (with_attribute tag (record { name = a.name; value = v })) false r.1)
        (append_assoc a.value (cond (is_space b) 32 b ∷ []) (value_of r.0)) r.4,
  )

  pub value_refers : (tag : Tag) (a : RawAttribute) (quote : ℕ) (bs : List ℕ) → LeadsValueReference tag a quote Nothing bs
      → LeadsValue tag a quote (38 ∷ bs)
  value_refers tag a quote bs l = of_read (reference_read l.0 l.2 l.3)
    where
      of_read : IsRead l.2 l.0 → LeadsValue tag a quote (38 ∷ bs)
      of_read r = (
        value_reference r.0 l.5.0,
        l.5.1,
        (r.1, l.5.2),
        ap (λ x. 38 ∷ x) (l.4 ∙ ap (λ x. x ++ l.1) r.2 ∙ append_assoc (reference_text r.0) (59 ∷ []) l.1
            ∙ ap (λ x. reference_text r.0 ++ 59 ∷ x) l.5.3),
        subst (λ v. LeadsInTag (with_attribute tag (record { name = a.name; value = v })) false l.5.1)
            (append_assoc a.value (encode_utf8 l.2) (value_of l.5.0)
            ∙ ap (λ c. a.value ++ (encode_utf8 c ++ value_of l.5.0)) (sym r.3)) l.5.4,
      )

  -- ---- white space, "=" and quotes

  pub quote_begins : (tag : Tag) (name : RawName) (quote : ℕ) (bs : List ℕ) → IsQuote quote → LeadsValue tag (no_value name) quote bs
      → LeadsQuote tag name (quote ∷ bs)
  quote_begins tag name quote bs q l = ([], quote, bs, tt, q, refl, l)

  pub quote_space : (tag : Tag) (name : RawName) (b : ℕ) (bs : List ℕ) → is_space b ≡ true → LeadsQuote tag name bs
      → LeadsQuote tag name (b ∷ bs)
  quote_space tag name b bs s l = (b ∷ l.0, l.1, l.2, (s, l.3), l.4, ap (λ x. b ∷ x) l.5, l.6)

  pub equals_ends : (tag : Tag) (name : RawName) (bs : List ℕ) → LeadsQuote tag name bs → LeadsEquals tag name (61 ∷ bs)
  equals_ends tag name bs l = ([], bs, tt, refl, l)

  pub equals_space : (tag : Tag) (name : RawName) (b : ℕ) (bs : List ℕ) → is_space b ≡ true → LeadsEquals tag name bs
      → LeadsEquals tag name (b ∷ bs)
  equals_space tag name b bs s l = (b ∷ l.0, l.1, (s, l.2), ap (λ x. b ∷ x) l.3, l.4)

  -- ---- attributes

  pub tag_space : (tag : Tag) (spaced : Bool) (b : ℕ) (bs : List ℕ) → is_space b ≡ true → LeadsInTag tag true bs
      → LeadsInTag tag spaced (b ∷ bs)
  tag_space tag spaced b bs s l = by l.0 l.3 l.4 l.6 l.7
    where
      by : (pairs : List Pair) → AreMore true tag.attributes pairs → length tag.attributes + length pairs ≤ 32
          → bs ≡ written_pairs pairs (l.1 ++ l.2) → Closes (with_pairs tag pairs) l.2 → LeadsInTag tag spaced (b ∷ bs)
      by [] m n e c = ([], b ∷ l.1, l.2, tt, n, (s, l.5), ap (λ x. b ∷ x) e, c)
      by (a ∷ more) m n e c = (
        (record { gap = b ∷ a.gap; name = a.name; left = a.left; right = a.right; quote = a.quote; value = a.value }) ∷ more,
        l.1,
        l.2,
        ((s, m.0), (λ f. tt), m.2, m.3, m.4, m.5, m.6, m.7, m.8),
        n,
        l.5,
        ap (λ x. b ∷ x) e,
        c,
      )

  pub tag_ends : (tag : Tag) (spaced : Bool) (bs : List ℕ) → length tag.attributes ≤ 32 → Closes tag bs → LeadsInTag tag spaced bs
  tag_ends tag spaced bs l c = (
    [],
    [],
    bs,
    tt,
    omega (arith, l),
    tt,
    refl,
    subst (λ xs. Closes (record { name = tag.name; attributes = xs }) bs) (sym (append-nil tag.attributes)) c,
  )

  with_name : (tag : Tag) (b : ℕ) (bs : List ℕ) (full : RawName) (more rest : List ℕ) → spelled full ≡ b ∷ more → bs ≡ more ++ rest
      → b ∷ bs ≡ written_name full rest
  with_name tag b bs full more rest s e = ap (λ x. b ∷ x) e ∙ ap (λ x. x ++ rest) (sym s) ∙ spelled_written full rest

  pub tag_attribute : (tag : Tag) (b : ℕ) (bs : List ℕ) → LeadsName (one_letter b) (BehindName tag) bs → LeadsInTag tag true (b ∷ bs)
  tag_attribute tag b bs n = of_equals n.6.1
    where
      of_pairs : (left right : List ℕ) (quote : ℕ) (v : Value) (rest : List ℕ) → IsWhite left → IsWhite right → IsQuote quote
          → IsValue quote v
          → n.2 ≡ left ++ 61 ∷ (right ++ quote ∷ written_value v (quote ∷ rest))
          → LeadsInTag (with_attribute tag (with_value (no_value n.0) (value_of v))) false rest → LeadsInTag tag true (b ∷ bs)
      of_pairs left right quote v rest wl wr q iv e l = (
        (record { gap = []; name = n.0; left = left; right = right; quote = quote; value = v }) ∷ l.0,
        l.1,
        l.2,
        (
          tt,
          (λ f. absurd (true≢false f)),
          n.3,
          n.6.0,
          wl,
          wr,
          q,
          iv,
          are_pairs (tag.attributes ++ attribute (record { gap = []; name = n.0; left = left; right = right; quote = quote; value = v })
              ∷ []) l.0 l.3,
        ),
        fewer tag.attributes (attribute (record { gap = []; name = n.0; left = left; right = right; quote = quote; value = v })) l.0
            (record { gap = []; name = n.0; left = left; right = right; quote = quote; value = v }) l.4,
        l.5,
        with_name tag b bs n.0 n.1 n.2 n.4 n.5 ∙ ap (λ x. written_name n.0 x)
            (e ∙ ap (λ x. left ++ 61 ∷ (right ++ quote ∷ written_value v (quote ∷ x))) l.6),
        subst (λ xs. Closes (record { name = tag.name; attributes = xs }) l.2)
            (append_assoc tag.attributes (attribute (record { gap = []; name = n.0; left = left; right = right; quote = quote; value = v })
            ∷ []) (map attribute l.0)) l.7,
      )

      of_equals : LeadsEquals tag n.0 n.2 → LeadsInTag tag true (b ∷ bs)
      of_equals l = of_pairs l.0 l.4.0 l.4.1 l.4.6.0 l.4.6.1 l.2 l.4.3 l.4.4 l.4.6.2
          (l.3 ∙ ap (λ x. l.0 ++ 61 ∷ x) (l.4.5 ∙ ap (λ x. l.4.0 ++ l.4.1 ∷ x) l.4.6.3)) l.4.6.4
