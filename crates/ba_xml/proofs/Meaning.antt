-- The pieces of a tree's content mean that content, and each prefix is declared.
use Rattle.std.proofs.Common.{◌≡◌, ℕ, ◌+◌, Bool, true, false, ◌&&◌, Some, List, [], ◌∷◌, ◌++◌, nat_eq, refl, sym, ap, ◌∙◌, subst}
use Rattle.std.proofs.Common.{append-nil, true≢false}
use Rattle.std.proofs.lemmas.Bool.{eqb-true}
use Rattle.std.specs.Char.{encode_utf8}
use Rattle.ba_tree.specs.declared.trees.Content.{Content, Text, Child, Child', Row_of-Content, end_of-Content, more_of-Content}
use Rattle.ba_tree.specs.declared.trees.Content.TheBlock.{items-the_row-Content, items_shown-the_row-Content-0}
use Rattle.ba_xml_grammar.specs.Grammar.{Start, Pieces, nothing, tag, or_nothing, meant, leading, if_some, following, meaning, Resolves}
use Rattle.ba_xml_grammar.specs.GrammarWords.{Begun}
use Rattle.ba_xml_names.specs.Namespaces.{nearest, opened, opening}
use Rattle.ba_xml_names.specs.declared.levels.Declaration as reader
use Rattle.ba_xml_names.specs.declared.levels.Opening.{Opening}
use Rattle.ba_xml_writer.specs.Namespaces.{Declaration}
use Rattle.ba_xml_writer.specs.OneText.{is_end}
use Rattle.ba_xml_writer.specs.Resolving.{prefix_of}
use Rattle.ba_xml.proofs.Fine.{is_text, starts_text, IsFine, IsFineRow}
use Rattle.ba_xml.proofs.FineTrees.{child_shown}
use Rattle.ba_xml.proofs.Prefixes.{IsGood}
use Rattle.ba_xml.proofs.Spelling.{itself, referred, text_spelling, in_text, one_piece, text_pieces, start, element_pieces, item_pieces}
use Rattle.ba_xml.proofs.Spelling.{row_pieces}
use Rattle.ba_xml.proofs.Starts.{start_meant}
use mathlib.Core.Former.{Count, list_count, this}

-- ---- texts

byte_leads : (b : ℕ) (p : Pieces) → leading (one_piece (in_text b) b p) ≡ b ∷ leading p
unfolding encode_utf8
byte_leads b p = by (nat_eq b 38) (nat_eq b 60) (nat_eq b 62) (nat_eq b 13) refl refl refl refl
  where
    put : (n : ℕ) → nat_eq b n ≡ true → n ∷ leading p ≡ b ∷ leading p
    put n e = ap (λ x. x ∷ leading p) (sym (eqb-true b n e))

    by : (a l g r : Bool) → nat_eq b 38 ≡ a → nat_eq b 60 ≡ l → nat_eq b 62 ≡ g → nat_eq b 13 ≡ r
        → leading (one_piece (text_spelling a l g r) b p) ≡ b ∷ leading p
    by true l g r x1 x2 x3 x4 = put 38 x1
    by false true g r x1 x2 x3 x4 = put 60 x2
    by false false true r x1 x2 x3 x4 = put 62 x3
    by false false false true x1 x2 x3 x4 = put 13 x4
    by false false false false x1 x2 x3 x4 = refl

text_leads : (t : List ℕ) (p : Pieces) → leading (text_pieces t p) ≡ t ++ leading p
text_leads [] p = refl
text_leads (b ∷ bs) p = byte_leads b (text_pieces bs p) ∙ ap (λ l. b ∷ l) (text_leads bs p)

byte_follows : (scope : List reader.Declaration) (b : ℕ) (p : Pieces) → following scope (one_piece (in_text b) b p) ≡ following scope p
byte_follows scope b p = by (in_text b)
  where
    by : (s : _) → following scope (one_piece s b p) ≡ following scope p
    by itself = refl
    by (referred r) = refl

text_follows : (scope : List reader.Declaration) (t : List ℕ) (p : Pieces) → following scope (text_pieces t p) ≡ following scope p
text_follows scope [] p = refl
text_follows scope (b ∷ bs) p = byte_follows scope b (text_pieces bs p) ∙ text_follows scope bs p

byte_resolves : (scope : List reader.Declaration) (b : ℕ) (p : Pieces) → Resolves scope p → Resolves scope (one_piece (in_text b) b p)
byte_resolves scope b p r = by (in_text b)
  where
    by : (s : _) → Resolves scope (one_piece s b p)
    by itself = r
    by (referred x) = r

text_resolves : (scope : List reader.Declaration) (t : List ℕ) (p : Pieces) → Resolves scope p → Resolves scope (text_pieces t p)
text_resolves scope [] p r = r
text_resolves scope (b ∷ bs) p r = byte_resolves scope b (text_pieces bs p) (text_resolves scope bs p r)

-- a text, where no other text follows
text_means : (scope : List reader.Declaration) (t : List ℕ) (p : Pieces) → Begun t → leading p ≡ []
    → meaning scope (text_pieces t p) ≡ Text t ∷ meaning scope p
text_means scope t p b e =
    (λ i. if_some (text_leads t p i) ++ text_follows scope t p i)
    ∙ ap (λ l. if_some (t ++ l) ++ following scope p) e
    ∙ ap (λ l. if_some l ++ following scope p) (append-nil t)
    ∙ some t b ∙ ap (λ l. Text t ∷ (if_some l ++ following scope p)) (sym e)
  where
    some : (t : List ℕ) → Begun t → if_some t ++ following scope p ≡ Text t ∷ following scope p
    some [] b = absurd b
    some (c ∷ cs) b = refl

-- ---- elements

element_leads : (s : Start) (none : Bool) (inside p : Pieces) → leading (element_pieces s none inside p) ≡ []
element_leads s true inside p = refl
element_leads s false inside p = refl

-- an element whose tag means this, by what stands inside
module _ (scope : List reader.Declaration) (s : Start) (o : Opening) (e : opening scope (tag s) ≡ Some o) where
  is_meant : meant scope s ≡ o
  is_meant = ap or_nothing e

  pub element_follows : (none : Bool) (inside p : Pieces) (content : List Content) → (none ≡ true → content ≡ [])
      → meaning (o.declarations ++ scope) inside ≡ content
      → following scope (element_pieces s none inside p) ≡ Child (record { name = o.name; attributes = o.attributes; content = content })
      ∷ meaning scope p
  element_follows true inside p content n m =
      (λ i. Child (record { name = (is_meant i).name; attributes = (is_meant i).attributes; content = sym (n refl) i }) ∷ meaning scope p)
  element_follows false inside p content n m =
      (λ i. Child (record {
        name = (is_meant i).name;
        attributes = (is_meant i).attributes;
        content = meaning ((is_meant i).declarations ++ scope) inside;
      }) ∷ meaning scope p)
      ∙ ap (λ cs. Child (record { name = o.name; attributes = o.attributes; content = cs }) ∷ meaning scope p) m

  pub element_means : (none : Bool) (inside p : Pieces) (content : List Content) → (none ≡ true → content ≡ [])
      → meaning (o.declarations ++ scope) inside ≡ content
      → meaning scope (element_pieces s none inside p) ≡ Child (record { name = o.name; attributes = o.attributes; content = content })
      ∷ meaning scope p
  element_means none inside p content n m =
      ap (λ l. if_some l ++ following scope (element_pieces s none inside p)) (element_leads s none inside p)
      ∙ element_follows none inside p content n m

  pub element_resolves : (none : Bool) (inside p : Pieces) → Resolves (o.declarations ++ scope) inside → Resolves scope p
      → Resolves scope (element_pieces s none inside p)
  element_resolves true inside p i r = ((o, e), r)
  element_resolves false inside p i r = ((o, e), subst (λ x. Resolves (x.declarations ++ scope) inside) (sym is_meant) i, r)

-- ---- content

pub empty_row : {m : Count} (row : Row_of-Content m) → is_end row ≡ true → items-the_row-Content m row ≡ []
empty_row end_of-Content h = refl
empty_row (more_of-Content c row) h = absurd (true≢false (sym h))

module _ (ds : List Declaration) (read : List reader.Declaration) (good : (space : List ℕ)
    → IsGood (prefix_of ds space)) (bare : nearest [] read ≡ Some []) where
  no_text_first : {m : Count} (row : Row_of-Content m) → starts_text row ≡ false → leading (row_pieces ds row nothing) ≡ []
  no_text_first end_of-Content h = refl
  no_text_first (more_of-Content (Text t) row) h = absurd (true≢false h)
  no_text_first (more_of-Content (Child' name atts shape inner) row) h =
      element_leads (start ds [] name atts) (is_end inner) (row_pieces ds inner nothing) (row_pieces ds row nothing)

  mutual
    item_means : (level : ℕ) (c : Content) (p : Pieces) → IsFine ds read level c → (is_text c ≡ true → leading p ≡ [])
        → meaning read (item_pieces ds c p) ≡ c ∷ meaning read p
    item_means level (Text t) p f n = text_means read t p f.0 (n refl)
    item_means level (Child' name atts shape row) p f n =
        element_means read (start ds [] name atts) (opened name [] atts) (start_meant ds read good bare [] read name atts refl refl f.0)
        (is_end row) (row_pieces ds row nothing) p
        (items-the_row-Content (list_count (this {0}) shape 0) row) (empty_row row) (row_means (level + 1) row f.3)
        ∙ ap (λ cs. Child (record { name = name; attributes = atts; content = cs }) ∷ meaning read p)
        (sym (items_shown-the_row-Content-0 shape row))
        ∙ ap (λ c. c ∷ meaning read p) (child_shown name atts shape row)

    pub row_means : {m : Count} (level : ℕ) (row : Row_of-Content m) → IsFineRow ds read level row
        → meaning read (row_pieces ds row nothing) ≡ items-the_row-Content m row
    row_means level end_of-Content f = refl
    row_means level (more_of-Content c row) f =
        item_means level c (row_pieces ds row nothing) f.0 (λ e. no_text_first row (ap (λ b. b && starts_text row) (sym e) ∙ f.1))
        ∙ ap (λ l. c ∷ l) (row_means level row f.2)

  mutual
    item_resolves : (level : ℕ) (c : Content) (p : Pieces) → IsFine ds read level c → Resolves read p → Resolves read (item_pieces ds c p)
    item_resolves level (Text t) p f r = text_resolves read t p r
    item_resolves level (Child' name atts shape row) p f r =
        element_resolves read (start ds [] name atts) (opened name [] atts) (start_meant ds read good bare [] read name atts refl refl f.0)
        (is_end row) (row_pieces ds row nothing) p (row_resolves (level + 1) row f.3) r

    pub row_resolves : {m : Count} (level : ℕ) (row : Row_of-Content m) → IsFineRow ds read level row
        → Resolves read (row_pieces ds row nothing)
    row_resolves level end_of-Content f = tt
    row_resolves level (more_of-Content c row) f = item_resolves level c (row_pieces ds row nothing) f.0 (row_resolves level row f.2)
