-- The one text of a writable tree is a text of that tree.
use Rattle.std.proofs.Common.{◌≡◌, ℕ, ◌+◌, ◌≤◌, Bool, true, false, Some, List, [], ◌∷◌, map, length, refl, sym, ap, ◌∙◌, subst, arith}
use Rattle.ba_tree.specs.declared.trees.Tree.{Tree}
use Rattle.ba_tree.specs.declared.trees.Content.{Child, Row_of-Content}
use Rattle.ba_tree.specs.declared.trees.Content.TheBlock.{hidden-the_row-Content-0, items_hidden-the_row-Content-0, shape-the_row-Content-0}
use Rattle.ba_xml_grammar.specs.Grammar.{Start, Pieces, nothing, Document, misc_end, no_head, written, tag, meaning, IsRoot, Allowed}
use Rattle.ba_xml_grammar.specs.Grammar.{Resolves, Small}
use Rattle.ba_xml_grammar.specs.GrammarTexts.{IsXmlText}
use Rattle.ba_xml_names.specs.Namespaces.{first_scope, opened, opening}
use Rattle.ba_xml_names.specs.declared.levels.Declaration as reader
use Rattle.ba_xml_writer.proofs.Children.{row_is, end_is}
use Rattle.ba_xml_writer.proofs.Resolved.{few_further, scope_differ}
use Rattle.ba_xml_writer.specs.Namespaces.{Declaration, declared, text_scope, further}
use Rattle.ba_xml_writer.specs.OneText.{is_end, items, row_items, element, is_empty, one_text}
use Rattle.ba_xml_writer.specs.Resolving.{prefix_of}
use Rattle.ba_xml_writer.specs.Writable.{IsWritable, HasRoom}
use Rattle.ba_xml.proofs.Allowed.{element_allowed, row_allowed}
use Rattle.ba_xml.proofs.Characters.{IsClean, clean_end, clean_element, clean_row, clean_characters, clean_lines}
use Rattle.ba_xml.proofs.Declared.{read_scope, good_prefix, bare_space, declared_lawful, all_declarable, further_legal, further_all}
use Rattle.ba_xml.proofs.Fine.{IsFine}
use Rattle.ba_xml.proofs.Meaning.{element_means, element_resolves, row_means, row_resolves, empty_row}
use Rattle.ba_xml.proofs.Prefixes.{IsGood, AreDeclarable}
use Rattle.ba_xml.proofs.Sizes.{few_pairs, element_small, row_small}
use Rattle.ba_xml.proofs.Spelling.{start, element_pieces, row_pieces}
use Rattle.ba_xml.proofs.Starts.{as_read, start_meant}
use Rattle.ba_xml.proofs.Conditions.{both}
use Rattle.ba_xml.proofs.WritableTrees.{fine_writable, legal_named}
use Rattle.ba_xml.proofs.Written.{element_written, row_written}
use mathlib.Core.Former.{list_count, this}

one_root : (s : Start) (none : Bool) (inside : Pieces) → IsRoot (element_pieces s none inside nothing)
one_root s true inside = tt
one_root s false inside = tt

module _ (t : Tree) (w : IsWritable t) where
  abbrev ds : List Declaration
  ds = text_scope (further t)

  abbrev own : List Declaration
  own = declared (further t)

  abbrev read : List reader.Declaration
  read = read_scope (further t)

  abbrev content : Row_of-Content (list_count (this {0}) (shape-the_row-Content-0 t.content) 0)
  content = hidden-the_row-Content-0 t.content

  abbrev inside : Pieces
  inside = row_pieces ds content nothing

  abbrev tags : Start
  tags = start ds own t.name t.attributes

  abbrev root : Pieces
  root = element_pieces tags (is_end content) inside nothing

  few : length (further t) ≤ 28
  few = few_further t w

  good : (space : List ℕ) → IsGood (prefix_of ds space)
  good = good_prefix (further t) few

  declarable : AreDeclarable own
  declarable = all_declarable (further t) few (further_legal t (legal_named t w))

  fine : IsFine ds read 1 (Child t)
  fine = fine_writable t w

  -- ---- what is written

  text_is : element ds own t.name t.attributes (is_end content) (λ more. row_items ds content more) [] ≡ one_text t
  text_is =
      λ i. element ds own t.name t.attributes
      ((end_is content ∙ ap is_empty (items_hidden-the_row-Content-0 t.content)) i)
      (λ more. (row_is ds content more ∙ ap (λ cs. items ds cs more) (items_hidden-the_row-Content-0 t.content)) i)
      []

  root_written : written root [] ≡ one_text t
  root_written = element_written ds good own t.name t.attributes (is_end content) inside (λ more. row_items ds content more) nothing []
      (λ more. row_written ds good content nothing more) ∙ text_is

  clean : IsClean (one_text t)
  clean = subst IsClean text_is
      (clean_element ds read good own t.name t.attributes (is_end content) (λ more. row_items ds content more) [] declarable fine.0
      (λ more m. clean_row ds read good 2 content more fine.3 m) clean_end)

  -- ---- where it stands

  root_allowed : Allowed root
  root_allowed =
      element_allowed ds read good own t.name t.attributes (is_end content) inside nothing declarable
      (both _ _ (scope_differ (further t) few)).1 fine.0 (row_allowed ds read good 2 content fine.3).0 tt

  root_small : Small 1 root
  root_small = element_small 1 tags (is_end content) inside nothing (omega arith) (few_pairs ds own t.name t.attributes room)
      (row_small ds read 2 content fine.3) tt
    where
      room : length own + length t.attributes ≤ 32
      room = let fits : HasRoom t = w.room in omega arith

  -- ---- what it means

  opens : opening first_scope (tag tags) ≡ Some (opened t.name (map as_read own) t.attributes)
  opens = start_meant ds read good (bare_space (further t) few) own first_scope t.name t.attributes refl
      (declared_lawful (further t) (further_all t)) fine.0

  root_means : meaning first_scope root ≡ Child t ∷ []
  root_means =
      element_means first_scope tags (opened t.name (map as_read own) t.attributes) opens (is_end content) inside nothing t.content
      (λ e. sym (items_hidden-the_row-Content-0 t.content) ∙ empty_row content e)
      (row_means ds read good (bare_space (further t) few) 2 content fine.3 ∙ items_hidden-the_row-Content-0 t.content)

  root_resolves : Resolves first_scope root
  root_resolves =
      element_resolves first_scope tags (opened t.name (map as_read own) t.attributes) opens (is_end content) inside nothing
      (row_resolves ds read good (bare_space (further t) few) 2 content fine.3) tt

  -- ---- the document

  document : Document
  document = record { mark = false; heading = no_head; before = misc_end; root = root; behind = misc_end }

  pub round_trip : IsXmlText (one_text t) t
  unfolding document
  round_trip = (
    document,
    (
      clean_characters (one_text t) clean,
      (tt, tt, one_root tags (is_end content) inside, root_allowed, tt),
      clean_lines (one_text t) clean ∙ sym root_written,
    ),
    (w.short, root_small),
    (root_resolves, root_means),
  )
