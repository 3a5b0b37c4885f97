-- The prefixes of the one text: plain names other than `xmlns`, each of which tells its namespace.
use Rattle.ba_tree.specs.Trees.{name_cmp}
use Rattle.std.proofs.Common.{◌≡◌, ℕ, false, Option, Some, None, List, [], ◌∷◌, codes, sym, ap, ◌∙◌}
use Rattle.std.proofs.lemmas.Cmp.{nat_list_cmp_total, on_total, then_total, tied_itself}
use Rattle.std.specs.Cmp.{IsTotalOrder}
use Rattle.std.specs.Str.{bytes_eq}
use Rattle.std.specs.declared.cmp.Ordering.TheVariants as order
use Rattle.ba_tree.specs.declared.trees.Name.{Name}
use Rattle.ba_xml_grammar.specs.GrammarWords.{IsPlainName}
use Rattle.ba_xml_names.specs.Namespaces.{nearest}
use Rattle.ba_xml_names.specs.declared.levels.Declaration as reader
use Rattle.ba_xml_writer.specs.Namespaces.{Declaration}
use Rattle.ba_xml.proofs.Fine.{IsExplained, IsLegal}
use Rattle.ba_xml.proofs.Spelling.{raw}

-- none, or a plain name other than `xmlns`
abbrev pub IsGood : Option (List ℕ) → Type 0
IsGood None = Unit {0}
IsGood (Some prefix) = IsPlainName prefix × (bytes_eq prefix (codes "xmlns") ≡ false)

-- a prefix is plain and neither `xmlns` nor `xml`, and a namespace is a text
abbrev pub IsDeclarable : Declaration → Type 0
IsDeclarable d = IsPlainName d.prefix × (bytes_eq d.prefix (codes "xmlns") ≡ false) × IsLegal d.space

abbrev pub AreDeclarable : List Declaration → Type 0
AreDeclarable [] = Unit {0}
AreDeclarable (d ∷ own) = IsDeclarable d × AreDeclarable own

-- ---- two names in rising order are written differently

pub names_total : IsTotalOrder name_cmp
names_total = then_total (on_total (λ (n : Name). n.space) nat_list_cmp_total) (on_total (λ (n : Name). n.local) nat_list_cmp_total)

pub names_differ : (ds : List Declaration) (read : List reader.Declaration) (a b : Name) → IsExplained ds read a.space
    → IsExplained ds read b.space
    → name_cmp a b ≡ order.Less → raw ds b ≡ raw ds a → ⊥
names_differ ds read a b x y less e = clash (sym less ∙ same ∙ tied_itself names_total a)
  where
    found : Some b.space ≡ Some a.space
    found = sym y ∙ ap (λ r. nearest r.prefix read) e ∙ x

    space : b.space ≡ a.space
    space = cc found

    same : name_cmp a b ≡ name_cmp a a
    same = λ i. name_cmp a (record { space = space i; local = ap (λ r. r.local) e i })

    clash : order.Less ≡ order.Equal → ⊥
    clash e = cc
