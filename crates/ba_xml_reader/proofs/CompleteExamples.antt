-- A text by hand: the definition holds of it, and so the machine answers it with its tree.
use Rattle.std.proofs.Common.{◌≡◌, ℕ, true, ◌++◌, Err, ◌==◌, false, Bool, Ok, inr, List, [], ◌∷◌, codes, refl, sym, ap, arith, true≢false}
use Rattle.std.specs.Char.{encode_utf8}
use Rattle.ba_tree.specs.declared.trees.Content.TheVariants.{Child, Text}
use Rattle.ba_tree.specs.declared.trees.Tree.{Tree}
use Rattle.ba_xml_reader.proofs.Complete.{complete}
use Rattle.ba_xml_reader.proofs.Dead.{dead}
use Rattle.ba_xml_words.specs.Classes.{class_of, mark_of}
use Rattle.ba_xml_words.specs.inside.Octets.{octet_after, lead}
use Rattle.ba_xml_words.specs.declared.faults.Reason.TheVariants as reason
use Rattle.ba_xml_words.specs.declared.faults.XmlFault.TheVariants as fault
use Rattle.ba_xml_reader.specs.inside.Machine.{run, reading_after, state_after, xml_answer}
use Rattle.ba_xml_names.specs.Namespaces.{opening, first_scope}
use Rattle.ba_xml_grammar.specs.Grammar.{value_end, value_character, value_reference, Start, nothing, character, reference, section}
use Rattle.ba_xml_grammar.specs.Grammar.{comment, empty, element, misc_end, misc_space, no_head, head, Saying, encoding, no_standalone}
use Rattle.ba_xml_grammar.specs.Grammar.{Document, IsDocument, IsSaying, IsExplained, meaning}
use Rattle.ba_xml_grammar.specs.GrammarTexts.{IsXmlText, IsOfCharacters, CanContinue}
use Rattle.ba_xml_grammar.specs.GrammarWords.{IsFront, greater, decimal}

abbrev pub example : List ℕ
example = codes "<a b='1&#50;'>]&gt;<!--c--><![CDATA[<]]></a>"

abbrev start : Start
start = record {
  name = record { prefix = []; local = codes "a" };
  space = [];
  pairs = (record {
    gap = codes " ";
    name = record { prefix = []; local = codes "b" };
    left = [];
    right = [];
    quote = 39;
    value = value_character 49 (value_reference (decimal (codes "50")) value_end);
  }) ∷ [];
}

abbrev document : Document
document = record {
  mark = false;
  heading = no_head;
  before = misc_end;
  behind = misc_end;
  root = element start (character 93 (reference greater (comment (codes "c") (section (codes "<") nothing)))) [] nothing;
}

abbrev pub example_tree : Tree
example_tree = record {
  name = record { space = []; local = codes "a" };
  content = Text (codes "]><") ∷ [];
  attributes = (record { name = record { space = []; local = codes "b" }; value = codes "12" }) ∷ [];
}

-- a word of more than one byte doesn't begin here
abbrev second_is : ℕ → List ℕ → Bool
second_is n [] = false
second_is n (a ∷ []) = false
second_is n (a ∷ b ∷ more) = b == n

abbrev first_is : ℕ → List ℕ → Bool
first_is n [] = false
first_is n (a ∷ more) = a == n

no_bracket : IsFront (93 ∷ 93 ∷ 62 ∷ []) (93 ∷ []) → ⊥
no_bracket f = true≢false (sym (ap (second_is 93) f.1))

no_less : IsFront (93 ∷ 93 ∷ 62 ∷ []) (60 ∷ []) → ⊥
no_less f = true≢false (sym (ap (first_is 93) f.1))

no_letter : IsFront (45 ∷ 45 ∷ []) (99 ∷ 45 ∷ []) → ⊥
no_letter f = true≢false (sym (ap (first_is 45) f.1))

no_hyphen : IsFront (45 ∷ 45 ∷ []) (45 ∷ []) → ⊥
no_hyphen f = true≢false (sym (ap (second_is 45) f.1))

lawful : IsDocument document
lawful = (
  tt,
  tt,
  tt,
  (
    (
      (tt, (refl, tt)),
      (
        (
          (tt, (refl, tt)),
          (tt, (refl, tt)),
          tt,
          tt,
          tt,
          inr refl,
          (refl, refl, refl, refl, ((tt, (refl, (refl, tt)), refl), tt)),
        ),
        tt,
      ),
      tt,
    ),
    ((refl, refl, refl, no_bracket), (tt, (((refl, tt), (no_letter, (no_hyphen, tt))), (((refl, tt), (no_less, tt)), tt)))),
    tt,
    tt,
  ),
  tt,
)

of_characters : IsOfCharacters example
unfolding encode_utf8
of_characters = (example, refl, refl)

explained : IsExplained first_scope start
unfolding opening encode_utf8
explained = (record { name = example_tree.name; attributes = example_tree.attributes; declarations = [] }, refl)

means : meaning first_scope document.root ≡ Child example_tree ∷ []
unfolding opening encode_utf8
means = refl

pub example_is_text : IsXmlText example example_tree
example_is_text = (document, (of_characters, lawful, refl), (omega arith, (omega arith, omega arith, tt, tt)), ((explained, tt, tt), means))

pub example_read : xml_answer example ≡ Ok example_tree
example_read = complete example example_tree example_is_text

-- ---- a text with a byte order mark, a declaration, a line end of two bytes and a prefix

abbrev pub marked : List ℕ
marked = 0xEF ∷ 0xBB ∷ 0xBF ∷ (codes "<?xml version='1.0' encoding='UTF-8'?>" ++ 13 ∷ 10 ∷ codes "<p:a xmlns:p='u'/>")

abbrev single_quotes : Saying
single_quotes = record { gap = codes " "; left = []; right = []; quote = 39 }

abbrev prefixed : Start
prefixed = record {
  name = record { prefix = codes "p"; local = codes "a" };
  space = [];
  pairs = (record {
    gap = codes " ";
    name = record { prefix = codes "xmlns"; local = codes "p" };
    left = [];
    right = [];
    quote = 39;
    value = value_character 117 value_end;
  }) ∷ [];
}

abbrev marked_document : Document
marked_document = record {
  mark = true;
  heading = head single_quotes (encoding single_quotes (codes "UTF-8")) no_standalone [];
  before = misc_space 10 misc_end;
  behind = misc_end;
  root = empty prefixed nothing;
}

abbrev pub marked_tree : Tree
marked_tree = record { name = record { space = codes "u"; local = codes "a" }; attributes = []; content = [] }

said : IsSaying single_quotes
said = ((tt, (refl, tt)), tt, tt, inr refl)

marked_lawful : IsDocument marked_document
marked_lawful = (
  (said, (said, refl), tt, tt),
  (refl, tt),
  tt,
  (
    (
      ((refl, tt), (refl, tt)),
      (
        (
          (tt, (refl, tt)),
          ((refl, (refl, (refl, (refl, (refl, tt))))), (refl, tt)),
          tt,
          tt,
          tt,
          inr refl,
          (refl, refl, refl, refl, tt),
        ),
        tt,
      ),
      tt,
    ),
    tt,
  ),
  tt,
)

marked_characters : IsOfCharacters marked
unfolding encode_utf8
marked_characters = (0xFEFF ∷ (codes "<?xml version='1.0' encoding='UTF-8'?>" ++ 13 ∷ 10 ∷ codes "<p:a xmlns:p='u'/>"), refl, refl)

marked_explained : IsExplained first_scope prefixed
unfolding opening
marked_explained = (
  record {
    name = marked_tree.name;
    attributes = [];
    declarations = (record { prefix = codes "p"; space = codes "u" }) ∷ [];
  },
  refl,
)

marked_means : meaning first_scope marked_document.root ≡ Child marked_tree ∷ []
unfolding opening
marked_means = refl

pub marked_read : xml_answer marked ≡ Ok marked_tree
marked_read = complete marked marked_tree (
  marked_document,
  (marked_characters, marked_lawful, refl),
  (omega arith, (omega arith, omega arith, tt)),
  ((marked_explained, tt), marked_means),
)

-- ---- bytes that nothing continues

abbrev broken : List ℕ
broken = codes "<a>]]></a>"

broken_answer : xml_answer broken ≡ Err (fault.At reason.Syntax 5)
unfolding run reading_after state_after class_of mark_of octet_after lead opening
broken_answer = refl

pub nothing_continues : CanContinue (codes "<a>]]>") → ⊥
nothing_continues c = dead broken reason.Syntax 5 tt broken_answer c
